-- The terms of expressions that a text meets, by their numbers.
use Rattle.std.specs.Prelude.{◌≡◌, ◌+◌, ◌++◌, ℕ, Bool, false, List, [], ◌∷◌, map, refl, if◌then◌else◌}
use Rattle.std.specs.Global.{Vec}
use Rattle.std.specs.List.{flat_map}
use Rattle.gt_explore_verdict.specs.Formulas.{Op, op_and, op_not, op_or, op_term, operation_asked}
use Rattle.gt_explore_verdict.specs.Satisfying.{is_met_by, is_met_in, lines_in}
use Rattle.gt_explore_verdict.specs.declared.operations.Operation.{Operation}

-- the operations of these expressions, one after the other
abbrev pub all_operations : List (Vec Operation) → List Op
all_operations expressions = flat_map (λ e. map operation_asked e.items) expressions

-- an operation is a term, and one of these lines meets it
abbrev pub is_met_term : List (List ℕ) → Op → Bool
is_met_term lines (op_term asked) = is_met_in asked lines
is_met_term lines op_not = false
is_met_term lines op_and = false
is_met_term lines op_or = false

-- the numbers of those of these operations that are terms and that one of these lines meets; the first operation has
-- this number
abbrev pub marks_from : ℕ → List Op → List (List ℕ) → List ℕ
marks_from number [] lines = []
marks_from number (op ∷ ops) lines =
    (if is_met_term lines op then number ∷ [] else []) ++ marks_from (number + 1) ops lines

-- the numbers of the terms that a line meets
abbrev pub line_marks : List Op → List ℕ → List ℕ
line_marks ops line = marks_from 0 ops (lines_in line)

-- the numbers of the terms that a text meets, line by line
abbrev pub text_marks : List Op → List ℕ → List ℕ
text_marks ops text = flat_map (line_marks ops) (lines_in text)

-- an empty line meets none
pub no_marks : (number : ℕ) (ops : List Op) → marks_from number ops ([] ∷ []) ≡ []
unfolding is_met_by
no_marks number [] = refl
no_marks number (op_term asked ∷ ops) = no_marks (number + 1) ops
no_marks number (op_not ∷ ops) = no_marks (number + 1) ops
no_marks number (op_and ∷ ops) = no_marks (number + 1) ops
no_marks number (op_or ∷ ops) = no_marks (number + 1) ops
