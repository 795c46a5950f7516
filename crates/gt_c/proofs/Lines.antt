-- The line of a number, in the table of lines.
use Rattle.std.proofs.Common.{[], ◌≡◌, ◌∙◌, ◌<◌, ◌≤◌, ap, subst, sym, refl, ℕ, List, map, length, Bool, true, false}
use Rattle.std.proofs.Common.{unwrap_or, get_or, Bor}
use Rattle.std.proofs.Math.Dec.{ltb}
use Rattle.std.proofs.lemmas.Bool.{ltb-true}
use Rattle.std.proofs.lemmas.List.{get_or-map, length-map}
use Rattle.std.proofs.lemmas.List.Folds.{list_all_at}
use Rattle.std.proofs.lemmas.Option.{slice_get-get_or, slice_get_past}
use Rattle.std.specs.Prelude.{slice_index_or}
use mathlib.Core.Bool.{true≢false}
use Rattle.gt_c.specs.Rules.{rule_bytes, rule_lines, unmade_bytes}

kept : (all each : Bool) → all ≡ true → (each ≡ false → all ≡ false) → each ≡ true
kept all true e f = refl
kept all false e f = absurd (true≢false (sym e ∙ f refl))

-- no line is too long
short : (n : ℕ) → n < length rule_lines → length (get_or rule_lines n []) < 240
short n lt =
    ltb-true (length (get_or rule_lines n [])) 240
    (kept _ _ refl (list_all_at (λ (l : List ℕ). ltb (length l) 240) rule_lines n [] lt))

enough : (lines : List (Bor (List ℕ))) (n : ℕ) → map (λ l. l.now) lines ≡ rule_lines → n < length lines
    → n < length rule_lines
enough lines n same lt =
    subst (λ (k : ℕ). n < k)
    (sym (length-map lines (λ (l : Bor (List ℕ)). l.now)) ∙ ap (λ (xs : List (List ℕ)). length xs) same) lt

is-line : (lines : List (Bor (List ℕ))) (n : ℕ) (d : Bor (List ℕ)) → map (λ l. l.now) lines ≡ rule_lines
    → n < length lines → (slice_index_or lines n d).now ≡ get_or rule_lines n []
is-line lines n d same lt =
    sym (get_or-map (λ (l : Bor (List ℕ)). l.now) lines n d [] lt) ∙ ap (λ (xs : List (List ℕ)). get_or xs n []) same

-- a table of the lines has the line of each of its numbers, which is not too long
pub line-at : (lines : List (Bor (List ℕ))) (n : ℕ) (d : Bor (List ℕ)) → map (λ l. l.now) lines ≡ rule_lines
    → n < length lines → (slice_index_or lines n d).now ≡ rule_bytes n
line-at lines n d same lt =
    is-line lines n d same lt
    ∙ sym (ap (λ o. unwrap_or o (unmade_bytes n)) (slice_get-get_or rule_lines n [] (enough lines n same lt)))

pub line-fits : (lines : List (Bor (List ℕ))) (n : ℕ) (d : Bor (List ℕ)) → map (λ l. l.now) lines ≡ rule_lines
    → n < length lines → length (slice_index_or lines n d).now < 240
line-fits lines n d same lt =
    subst (λ (l : List ℕ). length l < 240) (sym (is-line lines n d same lt)) (short n (enough lines n same lt))

-- a number past the table has no line of it
pub past : (n : ℕ) → length rule_lines ≤ n → unmade_bytes n ≡ rule_bytes n
past n le = sym (ap (λ o. unwrap_or o (unmade_bytes n)) (slice_get_past rule_lines n le))
