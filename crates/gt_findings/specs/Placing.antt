-- Where findings are made: the place of a statement, and that of a note.
use Rattle.std.specs.Prelude.{◌≡◌, ◌⊎◌, ℕ, List, ◌++◌, codes}
use Rattle.gt_findings.specs.Columns.{IsColumnOf}
use Rattle.gt_findings.specs.Findings.{QuotesWord}
use Rattle.gt_findings.specs.LineWords.{IsLineWords}
use Rattle.gt_findings.specs.declared.adding.FindingNote.{FindingNote}
use Rattle.gt_findings.specs.declared.adding.Place.{Place}

-- the place has the words of its line, and the column of a word `allow` there
pub record IsPlace (p : Place) : Type 0 where
  pub words : IsLineWords p.words.now
  pub column : IsColumnOf p.words.now.bytes.now p.words.now.number (codes "allow") p.column

-- the column of a note is that of a word `allow`, or of the word that it quotes
abbrev pub HasNoteColumn : List ℕ → FindingNote → Type 0
HasNoteColumn text n =
    IsColumnOf text n.line (codes "allow") n.column
    ⊎ ((word : List ℕ) × QuotesWord word n.message.items × IsColumnOf text n.line word n.column)

-- some text was appended
abbrev pub AddsSome : List ℕ → List ℕ → Type 0
AddsSome old new = (more : List ℕ) × (new ≡ old ++ more)
