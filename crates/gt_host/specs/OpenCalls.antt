-- The open calls of a run.
use Rattle.std.specs.Prelude.{ℕ, Option, option_and_then}
use Rattle.std.specs.BTreeMap.{get}
use Rattle.std.specs.Option.{option_map}
use Rattle.std.specs.Ordering.{nat_cmp}
use Rattle.gt_script.specs.declared.script.ScriptStep.{ScriptStep}
use Rattle.gt_audit.specs.declared.record.Hypercall.{Hypercall}
use Rattle.gt_host.specs.declared.open_calls.OpenCalls.{OpenCalls}

-- the step that began the domain's open call, if it has one
abbrev pub call_in : OpenCalls → ℕ → Option ScriptStep
call_in calls dom = option_map (λ o. o.step.now) (get nat_cmp calls.begun dom)

-- the record of the domain's open call
abbrev pub recorded_in : OpenCalls → ℕ → Option Hypercall
recorded_in calls dom = option_and_then (λ o. o.hypercall) (get nat_cmp calls.begun dom)
