-- The lines of a script that moves belong to.
use Rattle.std.specs.Prelude.{ℕ, ◌-◌, ◌==◌, ◌&&◌, Bool, true, false, List, Option, Some, None, count_by, if◌then◌else◌}
use Rattle.std.specs.Prelude.{codes, slice_get}
use Rattle.gt_types.specs.declared.DomId.{DomId}
use Rattle.gt_script_lines.specs.declared.calls.ScriptCall.{ScriptCall}
use Rattle.gt_script_lines.specs.declared.calls.ScriptCall.TheVariants as script_calls
use Rattle.gt_script.specs.Lists.{RunAction, RunTask}
use Rattle.gt_script.specs.RunContents.{RunContents}
use Rattle.gt_script.specs.RunScripts.{list_of}
use Rattle.gt_script.specs.declared.tasks.RunAction.TheVariants.{Await, Do, Tell}
use Rattle.gt_explore_replay.specs.declared.replay.Moved.{Moved}
use Rattle.gt_explore_replay.specs.declared.replay.Moved.TheVariants.{Began, Passed, Raised, Stepped}
use Rattle.gt_explore_trace.specs.declared.moves.TracedMove.{TracedMove}

-- by the move a domain begins a line of its list, or at its end a release
abbrev pub is_beginning : Moved → Bool
is_beginning Raised = true
is_beginning Passed = true
is_beginning (Began answer) = true
is_beginning (Stepped step seen answer) = false

-- by the move this domain begins a line or a release
abbrev pub begins_own : DomId → TracedMove → Bool
begins_own dom m = (m.dom.0 == dom.0) && is_beginning m.moved

-- the index of the line that a move belongs to, after its domain has begun this number of lines: that of the next line
-- for a beginning, and for a step that of the last one
abbrev pub index_after : ℕ → Moved → ℕ
index_after begun moved = if is_beginning moved then begun else begun - 1

-- the line that a move belongs to, after these moves; none for a release at the end of the list
abbrev pub task_of_move : RunContents → List TracedMove → TracedMove → Option RunTask
task_of_move c before m =
    slice_get (list_of c.tasks m.dom) (index_after (count_by (begins_own m.dom) before) m.moved)

-- the word of a script for a call
abbrev pub call_name : ScriptCall → List ℕ
call_name (script_calls.Grant gref entry) = codes "grant"
call_name (script_calls.GrantBytes gref hex) = codes "bytes"
call_name (script_calls.Revoke gref) = codes "revoke"
call_name (script_calls.Withdraw gref) = codes "withdraw"
call_name (script_calls.Demote gref) = codes "demote"
call_name (script_calls.Promote gref) = codes "promote"
call_name (script_calls.Map label dom gref flags) = codes "map"
call_name (script_calls.Unmap label) = codes "unmap"
call_name (script_calls.Load label off len) = codes "load"
call_name (script_calls.Store label off hex) = codes "store"
call_name (script_calls.Peek frame off len) = codes "peek"
call_name (script_calls.Poke frame off hex) = codes "poke"
call_name (script_calls.Copy args) = codes "copy"
call_name (script_calls.SetVersion version) = codes "version"
call_name (script_calls.SetupTable frames) = codes "setup"
call_name (script_calls.QuerySize dom) = codes "size"
call_name (script_calls.GetVersion dom) = codes "getversion"

abbrev pub action_name : RunAction → List ℕ
action_name (Do call) = call_name call
action_name (Tell flag) = codes "tell"
action_name (Await flag) = codes "await"

-- what a domain begins: the call of a line, or the release of a mapping at the end of its list
abbrev pub begun_name : Option RunTask → List ℕ
begun_name None = codes "release"
begun_name (Some t) = action_name t.run_action
