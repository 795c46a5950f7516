-- The labels of a run.
use Rattle.std.specs.Prelude.{◌≡◌, ℕ, List}
use Rattle.gt_script_runs.specs.declared.labels.Labels.{Labels}
use Rattle.gt_script_runs.specs.Labels.{handle_in}
use Rattle.gt_types.specs.declared.DomId.{DomId}
use Rattle.gt_script.specs.declared.script.ScriptStep.{ScriptStep}
use Rattle.gt_model.specs.declared.trace.Answer.{Answer}
use Rattle.gt_script_runs.specs.Runs.{Named, handle_labelled, named_after}

-- each label has its handle
abbrev pub AreNamed : Labels → List Named → Type 0
AreNamed labels named = (dom : ℕ) (label : List ℕ) → handle_in labels dom label ≡ handle_labelled named dom label

-- the labels have the handles that they had, and that of the answer to this line's call
abbrev pub NamesMapping : Labels → Labels → DomId → ScriptStep → Answer → Type 0
NamesMapping old new dom s answer =
    (named : List Named) → AreNamed old named → AreNamed new (named_after named dom s answer)
