-- The columns of findings.
use Rattle.std.proofs.Common.{◌≡◌, ◌∙◌, ℕ, Bool, true, false, cond, List, [], ◌∷◌, ◌++◌, refl, sym, ap, subst, append_assoc}
use Rattle.std.specs.Prelude.{All}
use Rattle.std.proofs.lemmas.List.{append-nil}
use Rattle.std.proofs.lemmas.List.Concat.{flat_map-append}
use Rattle.std.proofs.lemmas.List.Elements.{All-push}
use Rattle.gt_findings.specs.Findings.{HasColumn, HasColumnAs, IsAtAllow, IsAtQuoted, KeepsColumns, QuotesWord}
use Rattle.gt_findings.specs.Findings.{error_columns, is_error, is_of_statement, is_of_word}
use Rattle.gt_findings.specs.Placing.{AddsSome}
use Rattle.gt_findings.specs.Columns.{IsColumnOf}
use Rattle.gt_findings.specs.declared.findings.Finding.{Finding}
use Rattle.gt_findings.specs.declared.findings.FindingKind.{FindingKind}
use Rattle.gt_findings.specs.declared.findings.FindingKind.TheVariants as finding_kinds

pub keeps_same : (text : List ℕ) (old new : List Finding) → new ≡ old → KeepsColumns text old new
keeps_same text old new is = record { kept = λ all. subst (λ (l : List Finding). All (HasColumn text) l) (sym is) all }

no_column : (b : Bool) (n : ℕ) → b ≡ false → cond b (n ∷ []) [] ≡ []
no_column b n e = rw e refl

pub same_columns : (old new : List Finding) (x : Finding) → is_error x.kind ≡ false → new ≡ old ++ x ∷ [] → error_columns new ≡ error_columns old
same_columns old new x fine is =
    ap (λ (l : List Finding). error_columns l) is
    ∙ flat_map-append (λ y. cond (is_error y.kind) (y.column ∷ []) []) old (x ∷ [])
    ∙ ap (λ (l : List ℕ). error_columns old ++ (l ++ [])) (no_column (is_error x.kind) x.column fine)
    ∙ append-nil (error_columns old)

pub adds_quoted : (old a b c x q s z : List ℕ) → a ≡ old ++ x → b ≡ ((a ++ q) ++ s) ++ q → c ≡ b ++ z → AddsSome old c
adds_quoted old a b c x q s z first second third =
    (x ++ (q ++ (s ++ (q ++ z))), third ∙ ap (λ (l : List ℕ). l ++ z) (second ∙ ap (λ (l : List ℕ). ((l ++ q) ++ s) ++ q) first) ∙ simp append_assoc)

pub keeps_push : (text : List ℕ) (old new : List Finding) (x : Finding) → HasColumn text x → new ≡ old ++ x ∷ [] → KeepsColumns text old new
keeps_push text old new x has is =
    record { kept = λ all. subst (λ (l : List Finding). All (HasColumn text) l) (sym is) (All-push (HasColumn text) old x all has) }

pub keeps_then : (text : List ℕ) (a b c : List Finding) → KeepsColumns text a b → KeepsColumns text b c → KeepsColumns text a c
keeps_then text a b c first second = record { kept = λ all. second.kept (first.kept all) }

pub quoted_column : (text : List ℕ) (kind : FindingKind) (x : Finding) → is_of_word kind ≡ true → IsAtQuoted text x → HasColumnAs kind text x
quoted_column text finding_kinds.Fault x is has = tt
quoted_column text finding_kinds.OtherClass x is has = has
quoted_column text finding_kinds.OtherPermission x is has = has
quoted_column text finding_kinds.AllowsNothing x is has = absurd (cc)
quoted_column text finding_kinds.NeverAsked x is has = has
quoted_column text finding_kinds.Repeats x is has = absurd (cc)
quoted_column text finding_kinds.NeverNamed x is has = has
quoted_column text finding_kinds.NoDomain x is has = has
quoted_column text finding_kinds.NeverMatters x is has = absurd (cc)
quoted_column text finding_kinds.NeverMapped x is has = tt
quoted_column text finding_kinds.NoStatement x is has = absurd (cc)
quoted_column text finding_kinds.AlwaysRefused x is has = absurd (cc)
quoted_column text finding_kinds.Note x is has = absurd (cc)

-- a finding about a word that its message quotes
pub keeps_word : (text word bytes : List ℕ) (number : ℕ) (x : Finding) (old new : List Finding) → is_of_word x.kind ≡ true → QuotesWord word x.message.items
    → number ≡ x.line → bytes ≡ word → IsColumnOf text number bytes x.column → new ≡ old ++ x ∷ [] → KeepsColumns text old new
keeps_word text word bytes number x old new kind quotes line is column added =
    let on_line : IsColumnOf text x.line bytes x.column = subst (λ (n : ℕ). IsColumnOf text n bytes x.column) line column in
    let of_word : IsColumnOf text x.line word x.column = subst (λ (w : List ℕ). IsColumnOf text x.line w x.column) is on_line in
    keeps_push text old new x (quoted_column text x.kind x kind (word, quotes, of_word)) added

-- a finding about an allow statement
allow_column : (text : List ℕ) (kind : FindingKind) (x : Finding) → is_of_statement kind ≡ true → IsAtAllow text x
    → HasColumnAs kind text x
allow_column text finding_kinds.Fault x is has = tt
allow_column text finding_kinds.OtherClass x is has = absurd (cc)
allow_column text finding_kinds.OtherPermission x is has = absurd (cc)
allow_column text finding_kinds.AllowsNothing x is has = has
allow_column text finding_kinds.NeverAsked x is has = absurd (cc)
allow_column text finding_kinds.Repeats x is has = has
allow_column text finding_kinds.NeverNamed x is has = absurd (cc)
allow_column text finding_kinds.NoDomain x is has = absurd (cc)
allow_column text finding_kinds.NeverMatters x is has = has
allow_column text finding_kinds.NeverMapped x is has = tt
allow_column text finding_kinds.NoStatement x is has = absurd (cc)
allow_column text finding_kinds.AlwaysRefused x is has = tt
allow_column text finding_kinds.Note x is has = absurd (cc)

pub keeps_statement : (text : List ℕ) (old new : List Finding) (x : Finding) → is_of_statement x.kind ≡ true
    → IsAtAllow text x → new ≡ old ++ x ∷ [] → KeepsColumns text old new
keeps_statement text old new x kind column added =
    keeps_push text old new x (allow_column text x.kind x kind column) added

-- the finding of a policy without a statement
pub keeps_first : (text : List ℕ) (old new : List Finding) (x : Finding) → x.kind ≡ finding_kinds.NoStatement
    → x.line ≡ 1 → x.column ≡ 1 → new ≡ old ++ x ∷ [] → KeepsColumns text old new
keeps_first text old new x kind line column added =
    keeps_push text old new x
    (subst (λ (k : FindingKind). HasColumnAs k text x) (sym kind) (line, column)) added
