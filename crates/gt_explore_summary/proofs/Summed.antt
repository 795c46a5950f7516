-- From what was read to what was written.
use Rattle.std.proofs.Common.{◌≡◌, ℕ, List, Option, Result}
use Rattle.std.proofs.Common.{Ok, Err, sym, subst}
use Rattle.gt_script_runs.specs.Faults.{fault_of}
use Rattle.gt_script_runs.specs.declared.fault.PlayFault.{PlayFault}
use Rattle.gt_script_runs.specs.declared.fault.PlayFault.TheVariants as play_faults
use Rattle.gt_script.specs.RunContents.{RunContents}
use Rattle.gt_script.specs.RunScripts.{RunAnswers}
use Rattle.gt_script.specs.Script.{Wrong}
use Rattle.gt_script.specs.declared.faults.ScriptError.{ScriptError}
use Rattle.gt_script.specs.declared.faults.ScriptError.TheVariants as script_errors
use Rattle.gt_text.specs.Laws.{keeps_same}
use Rattle.gt_explore_verdict.specs.declared.judging.Verdict.{Verdict}
use Rattle.gt_explore_summary.specs.Written.{MakesSummary, Summarized, Sums}
use Rattle.gt_explore_summary.specs.declared.asking.SummaryOptions.{SummaryOptions}
use Rattle.gt_explore_faults.specs.declared.fault.ExploreFault.{ExploreFault}
use Rattle.gt_explore_faults.specs.declared.fault.ExploreFault.TheVariants.{Play, Term, Text, Number, Unfound, Texts}

-- a script was summarized
pub summed_script : (asked : SummaryOptions) (Told : Result RunContents Wrong → Type 0) (c : RunContents) (r : Result Verdict ExploreFault) (old new : Option (List ℕ)) → Told (Ok c)
    → Sums c asked old new r → Summarized asked Told old new r
summed_script asked Told c (Ok verdict) old new told wrote = (c, told, wrote)
summed_script asked Told c (Err Number) old new told wrote = (c, told, wrote)
summed_script asked Told c (Err Unfound) old new told wrote = (c, told, wrote)
summed_script asked Told c (Err (Texts fault)) old new told wrote = (c, told, wrote)
summed_script asked Told c (Err (Play play_faults.Write)) old new told wrote = (c, told, wrote)
summed_script asked Told c (Err (Text line fault)) old new told wrote = absurd wrote
summed_script asked Told c (Err (Term number fault)) old new told wrote = absurd wrote
summed_script asked Told c (Err (Play play_faults.Memory)) old new told wrote = absurd wrote
summed_script asked Told c (Err (Play play_faults.Read)) old new told wrote = absurd wrote
summed_script asked Told c (Err (Play (play_faults.Script fault))) old new told wrote = absurd wrote
summed_script asked Told c (Err (Play (play_faults.Policy fault))) old new told wrote = absurd wrote

-- nothing was made for the script, and nothing went out
pub summed_unmade : (c : RunContents) (asked : SummaryOptions) (fault : ExploreFault) (old : Option (List ℕ)) → MakesSummary c asked (Err fault) → Sums c asked old old (Err fault)
summed_unmade c asked Number old lacks = (lacks, keeps_same old)
summed_unmade c asked Unfound old lacks = (lacks, keeps_same old)
summed_unmade c asked (Texts fault) old made = keeps_same old
summed_unmade c asked (Text line fault) old made = absurd made
summed_unmade c asked (Term number fault) old made = absurd made
summed_unmade c asked (Play fault) old made = absurd made

-- there is no script, and nothing went out
no_script : (asked : SummaryOptions) (Told : Result RunContents Wrong → Type 0) (error : ScriptError) (old : Option (List ℕ)) → RunAnswers (Err error) Told → Summarized asked Told old old (Err (Play (fault_of error)))
no_script asked Told script_errors.Memory old told = keeps_same old
no_script asked Told (script_errors.Fault f) old told = (told, keeps_same old)
no_script asked Told (script_errors.Policy f) old (g, shown, told) = (g, shown, told, keeps_same old)

pub summed_nothing : (asked : SummaryOptions) (Told : Result RunContents Wrong → Type 0) (error : ScriptError) (fault : PlayFault) (old : Option (List ℕ)) → RunAnswers (Err error) Told → fault ≡ fault_of error → Summarized asked Told old old (Err (Play fault))
summed_nothing asked Told error fault old told is = subst (λ (f : PlayFault). Summarized asked Told old old (Err (Play f))) (sym is) (no_script asked Told error old told)
