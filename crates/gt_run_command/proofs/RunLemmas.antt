-- From what a run wrote to what was asked for.
use Rattle.std.proofs.Common.{◌≡◌, ℕ, Bool, List, Option, Result, Ok, Err, subst}
use Rattle.gt_command_line.specs.declared.invocation.Format.{Format}
use Rattle.gt_file_commands.proofs.JsonLemmas.{of_input_more}
use Rattle.gt_text.specs.Laws.{keeps_same, of_any_input}
use Rattle.gt_text.specs.Streams.{OfInput}
use Rattle.gt_run.specs.declared.fault.RunFault.{RunFault}
use Rattle.gt_run.specs.declared.fault.RunFault.TheVariants.{Play, Thread}
use Rattle.gt_script_runs.specs.declared.fault.PlayFault.{PlayFault}
use Rattle.gt_file_commands.specs.Working.{Ending}
use Rattle.gt_file_commands.specs.declared.failure.Failure.TheVariants as failures
use Rattle.gt_file_commands.specs.declared.outcome.Outcome.TheVariants.{Yes}
use Rattle.gt_run_command.specs.Runs.{RanAs, RunsDomains, no_flag}

-- what was written for the result of a run was written for its ending
pub done_so : (ended : Result (Unit {0}) RunFault) → ended ≡ Ok tt → (format : Format) → (audited : Bool) → (input : List ℕ) → (old new : Option (List ℕ)) → RanAs no_flag format audited input old new ended
    → RunsDomains format audited input old new (Ok Yes)
done_so ended is format audited input old new ran = subst (λ (r : Result (Unit {0}) RunFault). RanAs no_flag format audited input old new r) is ran

pub failed_so : (ended : Result (Unit {0}) RunFault) (fault : PlayFault) → ended ≡ Err (Play fault) → (format : Format) → (audited : Bool) → (input : List ℕ) → (old new : Option (List ℕ)) → RanAs no_flag format audited input old new ended
    → RunsDomains format audited input old new (Err (failures.Play fault))
failed_so ended fault is format audited input old new ran = subst (λ (r : Result (Unit {0}) RunFault). RanAs no_flag format audited input old new r) is ran

pub not_begun : (ended : Result (Unit {0}) RunFault) → ended ≡ Err Thread → (format : Format) → (audited : Bool) → (input : List ℕ) → (old new : Option (List ℕ)) → RanAs no_flag format audited input old new ended
    → RunsDomains format audited input old new (Err failures.Thread)
not_begun ended is format audited input old new ran = subst (λ (r : Result (Unit {0}) RunFault). RanAs no_flag format audited input old new r) is ran

-- with a log or without, as was asked for
pub runs_so : (format : Format) (logged audited : Bool) (known old new : Option (List ℕ)) (ended : Result (Unit {0}) RunFault) (ending : Ending) → logged ≡ audited → OfInput known (λ input. RanAs no_flag format logged input old new ended)
    → ((f : Format) → (b : Bool) → (input : List ℕ) → (o n : Option (List ℕ)) → RanAs no_flag f b input o n ended → RunsDomains f b input o n ending) → OfInput known (λ input. RunsDomains format audited input old new ending)
runs_so format logged audited known old new ended ending is ran carries =
    of_input_more known (λ (input : List ℕ). RanAs no_flag format logged input old new ended) (λ (input : List ℕ). RunsDomains format audited input old new ending)
    (λ (input : List ℕ) (r : RanAs no_flag format logged input old new ended). carries format audited input old new (subst (λ (b : Bool). RanAs no_flag format b input old new ended) is r)) ran

-- there was no memory before the text was read
pub unread_run : (format : Format) (audited : Bool) (known old : Option (List ℕ)) → OfInput known (λ input. RunsDomains format audited input old old (Err failures.Memory))
unread_run format audited known old = of_any_input known (λ (input : List ℕ). RunsDomains format audited input old old (Err failures.Memory)) (λ (input : List ℕ). keeps_same old)
