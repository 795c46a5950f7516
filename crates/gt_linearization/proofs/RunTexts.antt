-- What `run` appends is a text that a run of the script may print, and one that the script may give.
use Rattle.std.proofs.Common.{◌++◌, ℕ, Bool, true, false, List, Option, Some, None, Result, Ok, Err}
use Rattle.gt_audit.specs.Lines.{lost_text}
use Rattle.gt_script.specs.RunContents.{RunContents}
use Rattle.gt_script.specs.Script.{Wrong}
use Rattle.gt_text.specs.Streams.{OfInput}
use Rattle.gt_run.specs.Printing.{all_lost, audits_in, texts_in}
use Rattle.gt_run.specs.Runs.{Ran, WritesScript}
use Rattle.gt_run.specs.Serving.{counted}
use Rattle.gt_run.specs.declared.fault.RunFault.{RunFault}
use Rattle.gt_linearization.proofs.Explored.{runs-printed}
use Rattle.gt_linearization.proofs.Served.{printed-given}
use Rattle.gt_linearization.proofs.Unlogged.{unlogged-text}
use Rattle.gt_linearization.specs.Printed.{MayPrint}
use Rattle.gt_linearization.specs.Running.{AppendsText, RanInOrder, WroteIfOk, WroteText}

appended : (refuses : ℕ → Bool) (c : RunContents) (logged : Bool) (old new : Option (List ℕ)) (wrote : WritesScript refuses c logged old new) → AppendsText logged old new (texts_in wrote.2.0)
appended refuses c false old new wrote = unlogged-text refuses c old new wrote
appended refuses c true old new wrote = (audits_in wrote.2.0 ++ lost_text (counted (all_lost wrote.2.0)), wrote.2.4)

pub wrote-text : (refuses : ℕ → Bool) (c : RunContents) (logged : Bool) (old new : Option (List ℕ)) → WritesScript refuses c logged old new → WroteText refuses c logged old new
wrote-text refuses c logged old new wrote = record {
  text = texts_in wrote.2.0;
  appends = appended refuses c logged old new wrote;
  printed = printed;
  given = printed-given refuses c (texts_in wrote.2.0) printed;
}
  where
    printed : MayPrint refuses c (texts_in wrote.2.0)
    printed = runs-printed refuses c logged wrote.0 old new wrote.1 wrote.2

wrote-if-ok : (refuses : ℕ → Bool) (logged : Bool) (Told : Result RunContents Wrong → Type 0) (old new : Option (List ℕ)) (r : Result (Unit {0}) RunFault) → Ran refuses logged Told old new r → WroteIfOk refuses logged Told old new r
wrote-if-ok refuses logged Told old new (Ok done) (c, told, wrote) = (c, told, wrote-text refuses c logged old new wrote)
wrote-if-ok refuses logged Told old new (Err fault) ran = tt

pub input-so : (refuses : ℕ → Bool) (o : Option (List ℕ)) (logged : Bool) (Told : List ℕ → Result RunContents Wrong → Type 0) (old new : Option (List ℕ)) (r : Result (Unit {0}) RunFault)
    → OfInput o (λ input. Ran refuses logged (Told input) old new r) → OfInput o (λ input. RanInOrder refuses logged (Told input) old new r)
input-so refuses None logged Told old new r (input, few, ran) = (input, few, (ran, wrote-if-ok refuses logged (Told input) old new r ran))
input-so refuses (Some all) logged Told old new r ran = (ran, wrote-if-ok refuses logged (Told all) old new r ran)
