-- What a seat saw of an entry, compared with its owner's list.
use Rattle.std.specs.Prelude.{◌≡◌, ℕ, ◌+◌, ◌*◌, ◌<◌, List, ◌∷◌, Option, Some, None, IfSome}
use Rattle.gt_model.specs.Spelling.{word_of}
use Rattle.gt_model.specs.declared.entry.Entry.{Entry}
use Rattle.gt_model.specs.declared.entry.Entry.TheVariants.{Invalid, Page, Sub, Via}
use Rattle.gt_word_history.specs.Views.{IsAmong, Seen}
use Rattle.gt_word_history.specs.declared.view.EntryRecord.{EntryRecord}

-- the body values read are those of the entry
abbrev pub Agrees : Entry → Option ℕ → Option ℕ → Type 0
Agrees Invalid a b = Unit {0}
Agrees (Page d o f) a b = IfSome a (λ x. x ≡ f)
Agrees (Sub d o f y n) a b = IfSome a (λ x. x ≡ f) × IfSome b (λ x. x ≡ y + n * 65536)
Agrees (Via d o t r) a b = IfSome a (λ x. x ≡ t.0 + r.0 * 65536)

-- the word seen encodes a record of the owner's list x ∷ xs, and so do the body values read since, if that record is
-- still the last one
pub record IsSeenOf (x : EntryRecord) (xs : List EntryRecord) (s : Seen) : Type 0 where
  pub at : EntryRecord
  pub reads : ℕ
  pub writes : ℕ
  pub listed : IsAmong at (x ∷ xs)
  pub in_range : (reads < 4096) × (writes < 4096)
  pub spelled : s.word ≡ word_of at.entry at.generation reads writes
  pub agrees : x ≡ at → Agrees at.entry s.first s.second

-- what a seat saw last, if anything, is of the owner's list x ∷ xs
abbrev pub SawRecord : EntryRecord → List EntryRecord → Option Seen → Type 0
SawRecord x xs None = Unit {0}
SawRecord x xs (Some s) = IsSeenOf x xs s
