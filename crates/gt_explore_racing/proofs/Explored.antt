-- From what was read to what was written.
use Rattle.std.proofs.Common.{◌≡◌, ℕ, List, Option, Result, Ok, Err, sym, subst}
use Rattle.gt_explore_faults.specs.declared.fault.ExploreFault.{ExploreFault}
use Rattle.gt_explore_faults.specs.declared.fault.ExploreFault.TheVariants.{Number, Play, Term, Text, Texts, Unfound}
use Rattle.gt_explore_verdict.specs.declared.judging.Verdict.{Verdict}
use Rattle.gt_script.specs.RunContents.{RunContents}
use Rattle.gt_script.specs.RunScripts.{RunAnswers}
use Rattle.gt_script.specs.Script.{Wrong}
use Rattle.gt_script.specs.declared.faults.ScriptError.{ScriptError}
use Rattle.gt_script.specs.declared.faults.ScriptError.TheVariants as script_errors
use Rattle.gt_script_runs.specs.Faults.{fault_of}
use Rattle.gt_script_runs.specs.declared.fault.PlayFault.{PlayFault}
use Rattle.gt_script_runs.specs.declared.fault.PlayFault.TheVariants as play_faults
use Rattle.gt_text.specs.Laws.{keeps_same}
use Rattle.gt_explore_racing.specs.Exploring.{MakesRaces, RacesExplored, RacesWritten}
use Rattle.gt_explore_racing.specs.declared.asking.RaceOptions.{RaceOptions}

-- a script was explored
pub explored_script : (asked : RaceOptions) (Told : Result RunContents Wrong → Type 0) (c : RunContents) (r : Result Verdict ExploreFault) (old new : Option (List ℕ)) → Told (Ok c)
    → RacesWritten c asked old new r → RacesExplored asked Told old new r
explored_script asked Told c (Ok verdict) old new told wrote = (c, told, wrote)
explored_script asked Told c (Err (Texts fault)) old new told wrote = (c, told, wrote)
explored_script asked Told c (Err (Play play_faults.Write)) old new told wrote = (c, told, wrote)
explored_script asked Told c (Err (Play play_faults.Memory)) old new told wrote = absurd wrote
explored_script asked Told c (Err (Play play_faults.Read)) old new told wrote = absurd wrote
explored_script asked Told c (Err (Play (play_faults.Script fault))) old new told wrote = absurd wrote
explored_script asked Told c (Err (Play (play_faults.Policy fault))) old new told wrote = absurd wrote
explored_script asked Told c (Err (Term number fault)) old new told wrote = absurd wrote
explored_script asked Told c (Err Number) old new told wrote = (c, told, wrote)
explored_script asked Told c (Err Unfound) old new told wrote = (c, told, wrote)
explored_script asked Told c (Err (Text line fault)) old new told wrote = absurd wrote

-- no answer was made for the script, and nothing went out
pub explored_unmade : (c : RunContents) (asked : RaceOptions) (fault : ExploreFault) (old : Option (List ℕ)) → MakesRaces c asked (Err fault) → RacesWritten c asked old old (Err fault)
explored_unmade c asked (Texts fault) old made = keeps_same old
explored_unmade c asked (Play fault) old made = absurd made
explored_unmade c asked (Term number fault) old made = absurd made
explored_unmade c asked Number old made = (made, keeps_same old)
explored_unmade c asked Unfound old made = (made, keeps_same old)
explored_unmade c asked (Text line fault) old made = absurd made

-- there is no script, and nothing went out
no_script : (asked : RaceOptions) (Told : Result RunContents Wrong → Type 0) (error : ScriptError) (old : Option (List ℕ)) → RunAnswers (Err error) Told → RacesExplored asked Told old old (Err (Play (fault_of error)))
no_script asked Told script_errors.Memory old told = keeps_same old
no_script asked Told (script_errors.Fault f) old told = (told, keeps_same old)
no_script asked Told (script_errors.Policy f) old (g, shown, told) = (g, shown, told, keeps_same old)

pub explored_nothing : (asked : RaceOptions) (Told : Result RunContents Wrong → Type 0) (error : ScriptError) (fault : PlayFault) (old : Option (List ℕ)) → RunAnswers (Err error) Told → fault ≡ fault_of error → RacesExplored asked Told old old (Err (Play fault))
explored_nothing asked Told error fault old told is = subst (λ (f : PlayFault). RacesExplored asked Told old old (Err (Play f))) (sym is) (no_script asked Told error old told)
