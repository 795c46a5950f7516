-- Findings, one after another.
use Rattle.std.proofs.Common.{◌≡◌, ℕ, Bool, false, List, [], ◌∷◌, ◌++◌, refl, ap, ◌∙◌}
use Rattle.std.specs.Prelude.{if◌then◌else◌}
use Rattle.std.specs.List.{flat_map}
use Rattle.std.proofs.lemmas.List.{append-nil}
use Rattle.std.proofs.lemmas.List.Concat.{flat_map-append}
use Rattle.gt_findings.specs.Findings.{AddsUseless, Quiet, class_line, class_lines, error_lines, is_error, is_of_nothing}
use Rattle.gt_findings.specs.Findings.{is_of_repeat, line_if, nothing_lines, repeat_lines}
use Rattle.gt_findings.specs.declared.findings.Finding.{Finding}

-- one finding more
lines_more : (f : Finding → List ℕ) (old new : List Finding) (x : Finding) → new ≡ old ++ x ∷ [] → flat_map f new ≡ flat_map f old ++ f x
lines_more f old new x is = ap (λ (l : List Finding). flat_map f l) is ∙ flat_map-append f old (x ∷ []) ∙ ap (λ (l : List ℕ). flat_map f old ++ l) (append-nil (f x))

no_line : (b : Bool) (n : ℕ) → b ≡ false → (if b then n ∷ [] else []) ≡ []
no_line b n e = rw e refl

nothing_more : (old new added : List ℕ) → new ≡ old ++ added → added ≡ [] → new ≡ old
nothing_more old new added e none = e ∙ ap (λ (l : List ℕ). old ++ l) none ∙ append-nil old

pub class_push : (old new : List Finding) (x : Finding) → new ≡ old ++ x ∷ [] → class_lines new ≡ class_lines old ++ class_line x.kind x.line
class_push old new x is = lines_more (λ y. class_line y.kind y.line) old new x is

module _ (old new : List Finding) (x : Finding) (is : new ≡ old ++ x ∷ []) where
  no_error_more : is_error x.kind ≡ false → error_lines new ≡ error_lines old
  no_error_more fine =
      nothing_more (error_lines old) (error_lines new) (if is_error x.kind then x.line ∷ [] else []) (lines_more (λ y. if is_error y.kind then y.line ∷ [] else []) old new x is) (no_line (is_error x.kind) x.line fine)

  no_statement_more : is_of_nothing x.kind ≡ false → nothing_lines new ≡ nothing_lines old
  no_statement_more quiet =
      nothing_more (nothing_lines old) (nothing_lines new) (if is_of_nothing x.kind then x.line ∷ [] else []) (lines_more (λ y. if is_of_nothing y.kind then y.line ∷ [] else []) old new x is) (no_line (is_of_nothing x.kind) x.line quiet)

  no_repeat_more : is_of_repeat x.kind ≡ false → repeat_lines new ≡ repeat_lines old
  no_repeat_more quiet =
      nothing_more (repeat_lines old) (repeat_lines new) (if is_of_repeat x.kind then x.line ∷ [] else []) (lines_more (λ y. if is_of_repeat y.kind then y.line ∷ [] else []) old new x is) (no_line (is_of_repeat x.kind) x.line quiet)

pub quiet_push : (old new : List Finding) (x : Finding) → is_error x.kind ≡ false → is_of_nothing x.kind ≡ false → is_of_repeat x.kind ≡ false → new ≡ old ++ x ∷ [] → Quiet old new
quiet_push old new x fine nothing repeat is = (no_error_more old new x is fine, no_statement_more old new x is nothing, no_repeat_more old new x is repeat)

pub statement_push : (old new : List Finding) (x : Finding) → is_error x.kind ≡ false → new ≡ old ++ x ∷ []
    → AddsUseless old new (line_if (is_of_nothing x.kind) x.line) (line_if (is_of_repeat x.kind) x.line)
statement_push old new x fine is = (
  no_error_more old new x is fine,
  lines_more (λ y. line_if (is_of_nothing y.kind) y.line) old new x is,
  lines_more (λ y. line_if (is_of_repeat y.kind) y.line) old new x is,
)

-- no line was added
pub adds_quietly : (old new : List Finding) → AddsUseless old new [] [] → Quiet old new
adds_quietly old new (errors, nothing, repeated) =
    (errors, nothing ∙ append-nil (nothing_lines old), repeated ∙ append-nil (repeat_lines old))

-- a statement that repeats another, and then a note
pub repeat_then_note : (a b c : List Finding) (repeated : List ℕ) → AddsUseless a b [] repeated → Quiet b c → AddsUseless a c [] repeated
repeat_then_note a b c repeated t q = (q.0 ∙ t.0, q.1 ∙ t.1, q.2 ∙ t.2)

one_then_none : (a b c l : List ℕ) → b ≡ a ++ l → c ≡ b ++ [] → c ≡ a ++ l
one_then_none a b c l p q = q ∙ append-nil b ∙ p

none_then_one : (a b c l : List ℕ) → b ≡ a ++ [] → c ≡ b ++ l → c ≡ a ++ l
none_then_one a b c l p q = q ∙ ap (λ (x : List ℕ). x ++ l) (p ∙ append-nil a)

-- nothing more, then what a statement has useless, and then nothing more
pub tells_all : (a b c d e : List Finding) (nothing repeated : List ℕ) → Quiet a b → AddsUseless b c nothing [] → AddsUseless c d [] repeated → Quiet d e → AddsUseless a e nothing repeated
tells_all a b c d e nothing repeated q n r m = (
  m.0 ∙ r.0 ∙ n.0 ∙ q.0,
  m.1 ∙ one_then_none (nothing_lines a) (nothing_lines c) (nothing_lines d) nothing (n.1 ∙ ap (λ (l : List ℕ). l ++ nothing) q.1) r.1,
  m.2 ∙ none_then_one (repeat_lines a) (repeat_lines c) (repeat_lines d) repeated (n.2 ∙ ap (λ (l : List ℕ). l ++ []) q.2) r.2,
)
