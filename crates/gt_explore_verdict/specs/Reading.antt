-- Expressions: terms with `!`, `&` and `|` between them, and brackets.
use Rattle.std.specs.Prelude.{◌≡◌, ℕ, ◌+◌, ◌==◌, ◌||◌, not, Bool, true, false, List, [], ◌∷◌, ◌++◌, filter, map}
use Rattle.std.specs.Prelude.{Option, Some, None, Result, Ok, Err, if◌then◌else◌}
use Rattle.std.specs.List.{slice_split}
use Rattle.gt_explore_verdict.specs.Expressions.{Asked, condition_asked, is_excluded, read_term, words_in}
use Rattle.gt_explore_verdict.specs.Formulas.{Op, op_and, op_not, op_or, op_term, operation_asked}
use Rattle.gt_explore_verdict.specs.declared.fault.ConditionFault.{ConditionFault}
use Rattle.gt_explore_verdict.specs.declared.fault.ConditionFault.TheVariants as condition_faults
use Rattle.gt_explore_verdict.specs.declared.fault.ExpressionFault.{ExpressionFault}
use Rattle.gt_explore_verdict.specs.declared.fault.ExpressionFault.TheVariants.{Memory, Term}
use Rattle.gt_explore_verdict.specs.declared.reading.Level.{Level}
use Rattle.gt_explore_verdict.specs.declared.reading.Reader.{Reader}

-- a byte is a mark: `!`, `&`, `(`, `)` or `|`
abbrev pub is_sign : ℕ → Bool
is_sign b = (b == 33) || (b == 38) || (b == 40) || (b == 41) || (b == 124)

-- what was read since the last bracket that is open: whether a disjunction was, and a conjunction after it, whether an
-- operand comes next, whether it comes after an odd number of `!`, and the terms that must hold with the conjunction
pub record LevelAsked : Type 0 where
  pub has_any : Bool
  pub has_all : Bool
  pub wants : Bool
  pub negated : Bool
  pub joined : List Asked

-- what was read of an expression: its operations, the level inside the last bracket that is open, those outside it, and
-- the number of terms
pub record ReaderAsked : Type 0 where
  pub ops : List Op
  pub now : LevelAsked
  pub outer : List LevelAsked
  pub terms : ℕ

abbrev pub level_asked : Level → LevelAsked
level_asked l = record {
  has_any = l.has_any;
  has_all = l.has_all;
  wants = l.wants;
  negated = l.negated;
  joined = map condition_asked l.joined.items;
}

abbrev pub reader_asked : Reader → ReaderAsked
reader_asked r = record {
  ops = map operation_asked r.operations.items;
  now = level_asked r.now;
  outer = map level_asked r.outer.items;
  terms = r.terms;
}

-- a level at its beginning, and one after a `|`
abbrev pub level_begun : Bool → LevelAsked
level_begun after_or = record { has_any = after_or; has_all = false; wants = true; negated = false; joined = [] }

-- nothing was read
abbrev pub nothing_read : ReaderAsked
nothing_read = record { ops = []; now = level_begun false; outer = []; terms = 0 }

-- this operation, if it is wanted
abbrev pub op_if : Bool → Op → List Op
op_if wanted op = if wanted then op ∷ [] else []

-- an operand was read: the `!` before it and the `&` before that are its own
abbrev pub with_operand : ReaderAsked → ReaderAsked
with_operand r = record r {
  ops = (r.ops ++ op_if r.now.negated op_not) ++ op_if r.now.has_all op_and;
  now = record r.now { has_all = true; wants = false; negated = false };
}

-- a condition was read, with or without a `!` before it
abbrev pub with_condition : ReaderAsked → Asked → ReaderAsked
with_condition r asked = with_operand (record r {
  ops = r.ops ++ op_term asked ∷ [];
  now = record r.now { joined = if r.now.negated then r.now.joined else r.now.joined ++ asked ∷ [] };
  terms = r.terms + 1;
})

-- what was read, or the number of the term of the first fault, and the fault
abbrev pub ReadSoFar : Type 0
ReadSoFar = Result ReaderAsked (ℕ × ConditionFault)

-- a fault of the next term, or of the last one
abbrev pub next_fault : ReaderAsked → ConditionFault → ReadSoFar
next_fault r fault = Err (r.terms + 1, fault)

abbrev pub last_fault : ReaderAsked → ConditionFault → ReadSoFar
last_fault r fault = Err (r.terms, fault)

-- the terms outside of the last open bracket that must hold with those in it: none, if a `!` is before it
abbrev pub joined_outside : List LevelAsked → List Asked
joined_outside [] = []
joined_outside (level ∷ outer) = if level.negated then [] else joined_outside outer ++ level.joined

-- the terms that must hold with the next one
abbrev pub all_joined : ReaderAsked → List Asked
all_joined r = joined_outside r.outer ++ r.now.joined

-- the next condition comes without a `!`, and an earlier one that must hold with it excludes it
abbrev pub is_shut_out : ReaderAsked → Asked → Bool
is_shut_out r asked = if r.now.negated then false else is_excluded (all_joined r) asked

-- a condition is read, unless it is shut out
abbrev pub condition_read : ReaderAsked → Result Asked ConditionFault → ReadSoFar
condition_read r (Err fault) = next_fault r fault
condition_read r (Ok asked) =
    if is_shut_out r asked then next_fault r condition_faults.Excluded else Ok (with_condition r asked)

-- a term is read, if an operand comes next
abbrev pub term_read : ReaderAsked → List (List ℕ) → ReadSoFar
term_read r words =
    if r.now.wants then condition_read r (read_term words) else next_fault r condition_faults.Unjoined

-- `!` or `(` comes before an operand
abbrev pub before_operand : ReaderAsked → ReaderAsked → ReadSoFar
before_operand r next = if r.now.wants then Ok next else next_fault r condition_faults.Unjoined

-- `&`, `|` or `)` comes after an operand
abbrev pub after_operand : ReaderAsked → ReadSoFar → ReadSoFar
after_operand r next = if r.now.wants then next_fault r condition_faults.Empty else next

-- the conjunction is over: the `|` before it is its own
abbrev pub ops_ended : ReaderAsked → List Op
ops_ended r = r.ops ++ op_if r.now.has_any op_or

-- the level outside of a bracket that is closed: what must hold in the bracket must hold with that level, if the bracket
-- is one conjunction, and no `!` is before it
abbrev pub with_bracket : LevelAsked → LevelAsked → LevelAsked
with_bracket level inner =
    record level { joined = if level.negated || inner.has_any then level.joined else level.joined ++ inner.joined }

-- a bracket is closed: what is in it is an operand of the level outside
abbrev pub closed_in : ReaderAsked → List LevelAsked → ReadSoFar
closed_in r [] = last_fault r condition_faults.Unopened
closed_in r (level ∷ outer) =
    Ok (with_operand (record r { ops = ops_ended r; now = with_bracket level r.now; outer = outer }))

-- a bracket is opened
abbrev pub opened : ReaderAsked → ReaderAsked
opened r = record r { now = level_begun false; outer = r.now ∷ r.outer }

-- a conjunction begins after a `|`
abbrev pub chosen : ReaderAsked → ReaderAsked
chosen r = record r { ops = ops_ended r; now = level_begun true }

-- `!` or `(` is read
abbrev pub prefix_read : ReaderAsked → Bool → ReadSoFar
prefix_read r is_open = before_operand r
    (if is_open then opened r else record r { now = record r.now { negated = not r.now.negated } })

-- `&`, `|` or `)` is read after an operand
abbrev pub infix_read : ReaderAsked → ℕ → ReadSoFar
infix_read r mark =
    if mark == 38 then Ok (record r { now = record r.now { wants = true } })
    else if mark == 124 then Ok (chosen r)
    else closed_in r r.outer

-- a mark is read
abbrev pub mark_read : ReaderAsked → ℕ → ReadSoFar
mark_read r mark =
    if mark == 33 then prefix_read r false
    else if mark == 40 then prefix_read r true
    else after_operand r (infix_read r mark)

-- what is between two marks is read: a term, if there are words
abbrev pub segment_read : ReaderAsked → List (List ℕ) → ReadSoFar
segment_read r [] = Ok r
segment_read r (word ∷ words) = term_read r (word ∷ words)

-- a mark is read after that, if there is one
abbrev pub then_mark : ReadSoFar → Option ℕ → ReadSoFar
then_mark (Err fault) mark = Err fault
then_mark (Ok r) None = Ok r
then_mark (Ok r) (Some mark) = mark_read r mark

abbrev pub part_read : ReaderAsked → List (List ℕ) → Option ℕ → ReadSoFar
part_read r words mark = then_mark (segment_read r words) mark

-- the first of these marks, and the later ones
abbrev pub first_mark : List ℕ → Option ℕ
first_mark [] = None
first_mark (mark ∷ marks) = Some mark

abbrev pub later_marks : List ℕ → List ℕ
later_marks [] = []
later_marks (mark ∷ marks) = marks

-- what is between the marks is read, and the marks, in turn
abbrev pub parts_read : ReadSoFar → List (List ℕ) → List ℕ → ReadSoFar
parts_read (Err fault) segments marks = Err fault
parts_read (Ok r) [] marks = Ok r
parts_read (Ok r) (segment ∷ segments) marks =
    parts_read (part_read r (words_in segment) (first_mark marks)) segments (later_marks marks)

-- the end of an expression
abbrev pub ended_in : ReaderAsked → List LevelAsked → Result (List Op) (ℕ × ConditionFault)
ended_in r [] = Ok (ops_ended r)
ended_in r (level ∷ outer) = Err (r.terms, condition_faults.Unclosed)

abbrev pub end_read : ReadSoFar → Result (List Op) (ℕ × ConditionFault)
end_read (Err fault) = Err fault
end_read (Ok r) = if r.now.wants then Err (r.terms + 1, condition_faults.Empty) else ended_in r r.outer

-- the operations of an expression, or the number of the term of its first fault, and the fault
abbrev pub operations_in : List ℕ → Result (List Op) (ℕ × ConditionFault)
operations_in text = end_read (parts_read (Ok nothing_read) (slice_split is_sign text) (filter is_sign text))

-- the fault is that of the first term with one, or an allocation failed
abbrev pub IsFaultOfTerms : {X : Type 0} → Result X (ℕ × ConditionFault) → ExpressionFault → Type 0
IsFaultOfTerms r Memory = Unit {0}
IsFaultOfTerms r (Term number fault) = r ≡ Err (number, fault)
