-- Formulas: what an expression requires of a text.
use Rattle.std.specs.Prelude.{ℕ, ◌&&◌, ◌||◌, not, Bool, true, false, List, [], ◌∷◌, map, if◌then◌else◌}
use Rattle.gt_explore_verdict.specs.Expressions.{Asked, condition_asked}
use Rattle.gt_explore_verdict.specs.Satisfying.{is_met_in, lines_in}
use Rattle.gt_explore_verdict.specs.declared.operations.Operation.{Operation}
use Rattle.gt_explore_verdict.specs.declared.operations.Operation.TheVariants as operations

-- some answer meets a condition; the contrary of a formula; both of two; one of two or both. Anything holds always.
pub data Formula : Type 0 where
  anything : Formula
  meets : Asked → Formula
  not_of : Formula → Formula
  both_of : Formula → Formula → Formula
  either_of : Formula → Formula → Formula

-- a formula holds of a text with these lines
abbrev pub is_true_of : List (List ℕ) → Formula → Bool
is_true_of lines anything = true
is_true_of lines (meets asked) = is_met_in asked lines
is_true_of lines (not_of f) = not (is_true_of lines f)
is_true_of lines (both_of f g) = is_true_of lines f && is_true_of lines g
is_true_of lines (either_of f g) = is_true_of lines f || is_true_of lines g

-- a text satisfies a formula
abbrev pub satisfies : Formula → List ℕ → Bool
satisfies f text = is_true_of (lines_in text) f

-- an operation of an expression, after those of its operands
pub data Op : Type 0 where
  op_term : Asked → Op
  op_not : Op
  op_and : Op
  op_or : Op

abbrev pub operation_asked : Operation → Op
operation_asked (operations.Term condition) = op_term (condition_asked condition)
operation_asked operations.Not = op_not
operation_asked operations.And = op_and
operation_asked operations.Or = op_or

-- the formulas that are ready, the last one first, after one more operation
abbrev pub ready_after : List Formula → Op → List Formula
ready_after fs (op_term asked) = meets asked ∷ fs
ready_after [] op_not = []
ready_after (f ∷ fs) op_not = not_of f ∷ fs
ready_after [] op_and = []
ready_after (g ∷ []) op_and = g ∷ []
ready_after (g ∷ f ∷ fs) op_and = both_of f g ∷ fs
ready_after [] op_or = []
ready_after (g ∷ []) op_or = g ∷ []
ready_after (g ∷ f ∷ fs) op_or = either_of f g ∷ fs

abbrev pub all_ready : List Formula → List Op → List Formula
all_ready fs [] = fs
all_ready fs (op ∷ ops) = all_ready (ready_after fs op) ops

-- the formula of an expression: the last one that is ready; anything, if there is none
abbrev pub first_formula : List Formula → Formula
first_formula [] = anything
first_formula (f ∷ fs) = f

abbrev pub formula_of : List Op → Formula
formula_of ops = first_formula (all_ready [] ops)

abbrev pub formula_asked : List Operation → Formula
formula_asked ops = formula_of (map operation_asked ops)

-- the same with values instead of formulas, for a text with these lines

-- the contrary of the last value
abbrev pub negated : List Bool → List Bool
negated [] = []
negated (b ∷ bs) = not b ∷ bs

-- both of the last two values, or one of them
abbrev pub combined : Bool → List Bool → List Bool
combined all [] = []
combined all (c ∷ []) = c ∷ []
combined all (c ∷ b ∷ bs) = (if all then b && c else b || c) ∷ bs

abbrev pub values_after : List (List ℕ) → List Bool → Op → List Bool
values_after lines bs (op_term asked) = is_met_in asked lines ∷ bs
values_after lines bs op_not = negated bs
values_after lines bs op_and = combined true bs
values_after lines bs op_or = combined false bs

abbrev pub all_values : List (List ℕ) → List Bool → List Op → List Bool
all_values lines bs [] = bs
all_values lines bs (op ∷ ops) = all_values lines (values_after lines bs op) ops

-- the last value, which comes first; true, if there is none
abbrev pub last_value : List Bool → Bool
last_value [] = true
last_value (b ∷ bs) = b
