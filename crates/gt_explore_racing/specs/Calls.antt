-- The calls of a race, in a script for `play`.
use Rattle.std.specs.Prelude.{◌≡◌, ◌==◌, ℕ, List, [], ◌∷◌, Option, Some, None, if◌then◌else◌}
use Rattle.gt_script.specs.Lists.{RunTask}
use Rattle.gt_script.specs.declared.actions.ScriptAction.{ScriptAction}
use Rattle.gt_script.specs.declared.actions.ScriptAction.TheVariants as script_actions
use Rattle.gt_script.specs.declared.script.ScriptStep.{ScriptStep}
use Rattle.gt_script.specs.declared.tasks.RunAction.TheVariants as run_actions
use Rattle.gt_script_lines.specs.declared.calls.ScriptCall.{ScriptCall}
use Rattle.gt_script_lines.specs.declared.calls.ScriptCall.TheVariants as script_calls
use Rattle.gt_types.specs.declared.DomId.{DomId}

-- a call that may access bytes, without its label; any other call as it is
abbrev pub unlabelled : ScriptCall → ScriptCall
unlabelled (script_calls.Load label off len) = script_calls.Load [] off len
unlabelled (script_calls.Store label off hex) = script_calls.Store [] off hex
unlabelled call = call

-- the call that a line begins, or this one
abbrev pub begun_or : Option ScriptCall → ScriptAction → Option ScriptCall
begun_or last (script_actions.Begin call) = Some call
begun_or last (script_actions.Do call) = last
begun_or last (script_actions.Tick most) = last
begun_or last (script_actions.Show gref) = last

-- the call that a domain begins last in these lines, if the last one before them is this
abbrev pub last_begun_after : DomId → Option ScriptCall → List ScriptStep → Option ScriptCall
last_begun_after d last [] = last
last_begun_after d last (s ∷ steps) =
    last_begun_after d (if s.dom.0 == d.0 then begun_or last s.action else last) steps

abbrev pub last_begun : DomId → List ScriptStep → Option ScriptCall
last_begun d steps = last_begun_after d None steps

-- the task of this line
abbrev pub task_of_line : ℕ → List RunTask → Option RunTask
task_of_line line [] = None
task_of_line line (t ∷ tasks) = if t.line == line then Some t else task_of_line line tasks

-- the last call that its domain begins in these lines is the call of this line, but for its label
pub record BeginsCallOf (tasks : List RunTask) (steps : List ScriptStep) (line : ℕ) : Type 0 where
  pub task : RunTask
  pub there : task_of_line line tasks ≡ Some task
  pub call : ScriptCall
  pub calls : task.run_action ≡ run_actions.Do call
  pub begun : ScriptCall
  pub last : last_begun task.dom steps ≡ Some begun
  pub same : unlabelled begun ≡ unlabelled call
