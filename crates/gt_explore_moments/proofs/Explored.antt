-- From what was read to what was written.
use Rattle.std.proofs.Common.{◌≡◌, ℕ, List, Option, Result}
use Rattle.std.proofs.Common.{Ok, Err, sym, subst}
use Rattle.gt_script_runs.specs.Faults.{fault_of}
use Rattle.gt_script_runs.specs.declared.fault.PlayFault.{PlayFault}
use Rattle.gt_script_runs.specs.declared.fault.PlayFault.TheVariants as play_faults
use Rattle.gt_script.specs.RunContents.{RunContents}
use Rattle.gt_script.specs.RunScripts.{RunAnswers}
use Rattle.gt_script.specs.Script.{Wrong}
use Rattle.gt_script.specs.declared.faults.ScriptError.{ScriptError}
use Rattle.gt_script.specs.declared.faults.ScriptError.TheVariants as script_errors
use Rattle.gt_text.specs.Laws.{keeps_same}
use Rattle.gt_explore_verdict.specs.declared.judging.Verdict.{Verdict}
use Rattle.gt_explore_moments.specs.Exploring.{MakesAnswer, MomentExplored, MomentWritten}
use Rattle.gt_explore_moments.specs.declared.asking.MomentFault.{MomentFault}
use Rattle.gt_explore_moments.specs.declared.asking.MomentFault.TheVariants.{Claim, Play, Texts}
use Rattle.gt_explore_moments.specs.declared.asking.MomentOptions.{MomentOptions}

-- a script was explored
pub explored_script : (asked : MomentOptions) (Told : Result RunContents Wrong → Type 0) (c : RunContents) (r : Result Verdict MomentFault) (old new : Option (List ℕ)) → Told (Ok c)
    → MomentWritten c asked old new r → MomentExplored asked Told old new r
explored_script asked Told c (Ok verdict) old new told wrote = (c, told, wrote)
explored_script asked Told c (Err (Claim fault)) old new told wrote = (c, told, wrote)
explored_script asked Told c (Err (Texts fault)) old new told wrote = (c, told, wrote)
explored_script asked Told c (Err (Play play_faults.Write)) old new told wrote = (c, told, wrote)
explored_script asked Told c (Err (Play play_faults.Memory)) old new told wrote = absurd wrote
explored_script asked Told c (Err (Play play_faults.Read)) old new told wrote = absurd wrote
explored_script asked Told c (Err (Play (play_faults.Script fault))) old new told wrote = absurd wrote
explored_script asked Told c (Err (Play (play_faults.Policy fault))) old new told wrote = absurd wrote

-- no answer was made for the script, and nothing went out
pub explored_unmade : (c : RunContents) (asked : MomentOptions) (fault : MomentFault) (old : Option (List ℕ)) → MakesAnswer c asked (Err fault) → MomentWritten c asked old old (Err fault)
explored_unmade c asked (Claim fault) old is = (is, keeps_same old)
explored_unmade c asked (Texts fault) old made = keeps_same old
explored_unmade c asked (Play fault) old made = absurd made

-- there is no script, and nothing went out
no_script : (asked : MomentOptions) (Told : Result RunContents Wrong → Type 0) (error : ScriptError) (old : Option (List ℕ)) → RunAnswers (Err error) Told → MomentExplored asked Told old old (Err (Play (fault_of error)))
no_script asked Told script_errors.Memory old told = keeps_same old
no_script asked Told (script_errors.Fault f) old told = (told, keeps_same old)
no_script asked Told (script_errors.Policy f) old (g, shown, told) = (g, shown, told, keeps_same old)

pub explored_nothing : (asked : MomentOptions) (Told : Result RunContents Wrong → Type 0) (error : ScriptError) (fault : PlayFault) (old : Option (List ℕ)) → RunAnswers (Err error) Told → fault ≡ fault_of error → MomentExplored asked Told old old (Err (Play fault))
explored_nothing asked Told error fault old told is = subst (λ (f : PlayFault). MomentExplored asked Told old old (Err (Play f))) (sym is) (no_script asked Told error old told)
