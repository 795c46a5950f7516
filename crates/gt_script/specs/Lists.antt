-- The tasks of a script for `run`, under names that the crates above can use.
use Rattle.gt_script.specs.declared.tasks.RunAction as actions
use Rattle.gt_script.specs.declared.tasks.RunTask as tasks

-- the action of a task, with its flag by number
abbrev pub RunAction : Type 0
RunAction = actions.RunAction

-- a task
abbrev pub RunTask : Type 0
RunTask = tasks.RunTask
