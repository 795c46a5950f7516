-- A script whose runs are those in which the call of one line precedes that of another: it is answered before the other
-- begins. A flag that no line of the script names is raised behind the one call, and awaited before the other.
use Rattle.std.specs.Prelude.{ℕ, ◌+◌, Bool, true, false, List, [], ◌∷◌, ◌++◌, flat_map, if◌then◌else◌, ◌==◌}
use Rattle.gt_script.specs.Lists.{RunAction, RunTask}
use Rattle.gt_script.specs.RunContents.{RunContents}
use Rattle.gt_script.specs.declared.precedence.Precedence.{Precedence}
use Rattle.gt_script.specs.declared.tasks.RunAction.TheVariants.{Do, Tell, Await}

-- the action is a call
abbrev pub is_call : RunAction → Bool
is_call (Do call) = true
is_call (Tell flag) = false
is_call (Await flag) = false

-- a task of the same line and domain with this action, if it has the call of this line
abbrev pub beside_call : ℕ → RunAction → RunTask → List RunTask
beside_call line action t =
    if is_call t.run_action
    then (if t.line == line then record { line = t.line; dom = t.dom; run_action = action } ∷ [] else [])
    else []

-- the task with what is before and behind it
abbrev pub around : ℕ → Precedence → RunTask → List RunTask
around flag p t = beside_call p.second (Await flag) t ++ t ∷ beside_call p.first (Tell flag) t

-- these tasks with a flag of this number
abbrev pub with_precedence : ℕ → Precedence → List RunTask → List RunTask
with_precedence flag p tasks = flat_map (around flag p) tasks

-- the script with one more flag
abbrev pub preceding : Precedence → RunContents → RunContents
preceding p c = record { head = c.head; tasks = with_precedence c.flags p c.tasks; flags = c.flags + 1 }

-- the same for each of these, the first one first
abbrev pub preceding_all : List Precedence → RunContents → RunContents
preceding_all [] c = c
preceding_all (p ∷ ps) c = preceding_all ps (preceding p c)
