-- The values of operations are those of their formulas.
use Rattle.std.proofs.Common.{◌≡◌, ◌∙◌, ap, refl, Bool, ℕ, List, [], ◌∷◌, map}
use Rattle.gt_explore_verdict.specs.Formulas.{Formula, Op, all_ready, all_values, first_formula, formula_of}
use Rattle.gt_explore_verdict.specs.Formulas.{is_true_of, last_value, op_and, op_not}
use Rattle.gt_explore_verdict.specs.Formulas.{op_or, op_term, ready_after, values_after}

values_step : (lines : List (List ℕ)) (fs : List Formula) (op : Op)
    → values_after lines (map (is_true_of lines) fs) op ≡ map (is_true_of lines) (ready_after fs op)
values_step lines fs (op_term asked) = refl
values_step lines [] op_not = refl
values_step lines (f ∷ fs) op_not = refl
values_step lines [] op_and = refl
values_step lines (g ∷ []) op_and = refl
values_step lines (g ∷ f ∷ fs) op_and = refl
values_step lines [] op_or = refl
values_step lines (g ∷ []) op_or = refl
values_step lines (g ∷ f ∷ fs) op_or = refl

pub values_all : (lines : List (List ℕ)) (fs : List Formula) (ops : List Op)
    → all_values lines (map (is_true_of lines) fs) ops ≡ map (is_true_of lines) (all_ready fs ops)
values_all lines fs [] = refl
values_all lines fs (op ∷ ops) =
    ap (λ (bs : List Bool). all_values lines bs ops) (values_step lines fs op)
    ∙ values_all lines (ready_after fs op) ops

value_first : (lines : List (List ℕ)) (fs : List Formula)
    → last_value (map (is_true_of lines) fs) ≡ is_true_of lines (first_formula fs)
value_first lines [] = refl
value_first lines (f ∷ fs) = refl

-- the last value of operations is that of their formula
pub value_of_formula : (lines : List (List ℕ)) (ops : List Op)
    → last_value (all_values lines [] ops) ≡ is_true_of lines (formula_of ops)
value_of_formula lines ops = ap last_value (values_all lines [] ops) ∙ value_first lines (all_ready [] ops)
