-- The script for `run` that bytes mean, or their first fault.
use Rattle.std.specs.Prelude.{◌≡◌, ◌⊎◌, ◌≤◌, ℕ, ◌==◌, List, filter, length, Some, Result, Ok, Err}
use Rattle.gt_types.specs.Config.{AreFaultless}
use Rattle.gt_types.specs.declared.DomId.{DomId}
use Rattle.gt_types.specs.declared.limits.TheConstants.{LAST_GENERATION}
use Rattle.gt_policy.specs.declared.fault.TokenFault as policy
use Rattle.gt_script.specs.Blocks.{block_fault_shown}
use Rattle.gt_script.specs.Contents.{Contents, head_in, first_gen}
use Rattle.gt_script.specs.RunContents.{RunContents, run_contents}
use Rattle.gt_script.specs.Script.{Wrong, in_script, in_policy, ReadsFor}
use Rattle.gt_script.specs.Stuck.{IsRaisable, AllEnd, IsStuckAt}
use Rattle.gt_script.specs.declared.command.ScriptCommand.TheVariants.{Run}
use Rattle.gt_script.specs.declared.faults.ScriptFaultKind.TheVariants.{Stuck}
use Rattle.gt_script.specs.declared.faults.ScriptError.{ScriptError}
use Rattle.gt_script.specs.declared.faults.ScriptError.TheVariants as script_errors
use Rattle.gt_script.specs.declared.run_script.RunScript.{RunScript}
use Rattle.gt_script.specs.Lists.{RunTask}

-- the domains and the first generation are within the limits of a run
abbrev pub CanConfigure : Contents → Type 0
CanConfigure c = AreFaultless c.domains × (1 ≤ length c.domains) × (first_gen c ≤ LAST_GENERATION)

-- the list of a domain: its tasks, in order
abbrev pub list_of : List RunTask → DomId → List RunTask
list_of tasks dom = filter (λ t. t.dom.0 == dom.0) tasks

-- the script for `run` of contents that were read for `run`
abbrev pub run_of : Contents → RunContents
run_of c = record { head = head_in c; tasks = c.tasks; flags = length c.flags }

-- What contents that were read for `run` mean: their script, if each domain comes to the end of its
-- list, and else a fault at the line where the first one that does not waits for ever.
abbrev pub ContentsReadAs : Contents → Result RunContents Wrong → Type 0
ContentsReadAs c (Ok run) = AllEnd (IsRaisable c.tasks) c.tasks c.domains × (run ≡ run_of c)
ContentsReadAs c (Err (in_script f)) =
    IsStuckAt (IsRaisable c.tasks) c.tasks c.domains f.line × (f.kind ≡ Stuck)
ContentsReadAs c (Err (in_policy g)) = ⊥

-- The bytes mean this script for `run`, or have this first fault; a domain that waits for ever
-- is the last one.
abbrev pub ReadsAsRun : List ℕ → Result RunContents Wrong → Type 0
ReadsAsRun bytes (Ok run) = (c : Contents) × ReadsFor Run bytes (Ok c) × ContentsReadAs c (Ok run)
ReadsAsRun bytes (Err wrong) =
    ReadsFor Run bytes (Err wrong) ⊎ ((c : Contents) × ReadsFor Run bytes (Ok c) × ContentsReadAs c (Err wrong))

-- `Told` holds of this script or this fault, unless an allocation failed
abbrev pub RunAnswers : Result RunScript ScriptError → (Result RunContents Wrong → Type 0) → Type 0
RunAnswers (Ok script) Told = Told (Ok (run_contents script))
RunAnswers (Err script_errors.Memory) Told = Unit {0}
RunAnswers (Err (script_errors.Fault fault)) Told = Told (Err (in_script fault))
RunAnswers (Err (script_errors.Policy fault)) Told =
    (g : policy.TokenFault) × (block_fault_shown fault ≡ Some g) × Told (Err (in_policy g))
