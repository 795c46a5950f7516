-- Marks of some operations, and then of others.
use Rattle.std.proofs.Common.{◌≡◌, ◌∙◌, ap, sym, ℕ, List, [], ◌∷◌, ◌++◌, ◌+◌, ◌<◌, suc, map, length, drop, get_or, append_assoc, arith, drop-cons}
use Rattle.std.proofs.lemmas.List.{length-map}
use Rattle.std.specs.Global.{Vec}
use Rattle.std.specs.Prelude.{if◌then◌else◌}
use Rattle.gt_explore_verdict.specs.Formulas.{Op, operation_asked}
use Rattle.gt_explore_verdict.specs.declared.operations.Operation.{Operation}
use Rattle.gt_explore_kinds.specs.Marks.{all_operations, is_met_term, marks_from}

pub marks_append : (n m : ℕ) (ops more : List Op) (lines : List (List ℕ)) → m ≡ n + length ops → marks_from n (ops ++ more) lines ≡ marks_from n ops lines ++ marks_from m more lines
marks_append n m [] more lines is = ap (λ (k : ℕ). marks_from k more lines) (let e : n ≡ m = omega (arith, is) in e)
marks_append n m (op ∷ ops) more lines is =
    ap (λ (l : List ℕ). (if is_met_term lines op then n ∷ [] else []) ++ l) (marks_append (n + 1) m ops more lines (omega (arith, is)))
    ∙ sym (append_assoc (if is_met_term lines op then n ∷ [] else []) (marks_from (n + 1) ops lines) (marks_from m more lines))

-- the marks of one expression more
pub expression_more : (expressions : List (Vec Operation)) (at : ℕ) (e : Vec Operation) → at < length expressions → (old new : List ℕ) (first next : ℕ) (lines : List (List ℕ)) (all : List ℕ)
    → new ≡ old ++ marks_from first (map operation_asked (get_or expressions at e).items) lines → next ≡ first + length (get_or expressions at e).items
    → old ++ marks_from first (all_operations (drop at expressions)) lines ≡ all → new ++ marks_from next (all_operations (drop (at + 1) expressions)) lines ≡ all
expression_more expressions at e lt old new first next lines all is sum before =
    let x = get_or expressions at e in let ops = map operation_asked x.items in let rest = all_operations (drop (at + 1) expressions) in
    ap (λ (l : List ℕ). l ++ marks_from next rest lines) is
    ∙ append_assoc old (marks_from first ops lines) (marks_from next rest lines)
    ∙ ap (λ (l : List ℕ). old ++ l) (sym (marks_append first next ops rest lines (sum ∙ ap (λ (k : ℕ). first + k) (sym (length-map x.items operation_asked)))))
    ∙ ap (λ (l : List (Vec Operation)). old ++ marks_from first (all_operations l) lines) (sym (drop-cons expressions at e lt ∙ ap (λ (k : ℕ). x ∷ drop k expressions) (let s : suc at ≡ at + 1 = omega arith in s)))
    ∙ before
