-- From what was read to what was written.
use Rattle.std.proofs.Common.{◌≡◌, ℕ, List, Option, Result}
use Rattle.std.proofs.Common.{Ok, Err, sym, subst}
use Rattle.gt_script_runs.specs.Faults.{fault_of, read_fault}
use Rattle.gt_script_runs.specs.declared.fault.PlayFault.{PlayFault}
use Rattle.gt_script_runs.specs.declared.fault.PlayFault.TheVariants as play_faults
use Rattle.gt_script.specs.RunContents.{RunContents}
use Rattle.gt_script.specs.RunScripts.{RunAnswers, ReadsAsRun}
use Rattle.gt_script.specs.Script.{Wrong}
use Rattle.gt_script.specs.declared.faults.ScriptError.{ScriptError}
use Rattle.gt_script.specs.declared.faults.ScriptError.TheVariants as script_errors
use Rattle.gt_text.specs.Laws.{keeps_same, of_any_input}
use Rattle.gt_text.specs.Streams.{OfInput}
use Rattle.gt_text.specs.declared.fault.ReadFault.{ReadFault}
use Rattle.gt_text.specs.declared.fault.ReadFault.TheVariants as read_faults
use Rattle.gt_explore_verdict.specs.declared.judging.Verdict.{Verdict}
use Rattle.gt_explore_tracing.specs.Writing.{MakesTrace, Traced, Traces}
use Rattle.gt_explore_tracing.specs.declared.asking.TraceOptions.{TraceOptions}
use Rattle.gt_explore_faults.specs.declared.fault.ExploreFault.{ExploreFault}
use Rattle.gt_explore_faults.specs.declared.fault.ExploreFault.TheVariants.{Play, Term, Text, Number, Unfound, Texts}

-- the moves of a script were written
pub traced_script : (asked : TraceOptions) (Told : Result RunContents Wrong → Type 0) (c : RunContents) (r : Result Verdict ExploreFault) (old new : Option (List ℕ)) → Told (Ok c)
    → Traces c asked old new r → Traced asked Told old new r
traced_script asked Told c (Ok verdict) old new told wrote = (c, told, wrote)
traced_script asked Told c (Err Number) old new told wrote = (c, told, wrote)
traced_script asked Told c (Err Unfound) old new told wrote = (c, told, wrote)
traced_script asked Told c (Err (Texts fault)) old new told wrote = (c, told, wrote)
traced_script asked Told c (Err (Play play_faults.Write)) old new told wrote = (c, told, wrote)
traced_script asked Told c (Err (Text line fault)) old new told wrote = absurd wrote
traced_script asked Told c (Err (Term number fault)) old new told wrote = absurd wrote
traced_script asked Told c (Err (Play play_faults.Memory)) old new told wrote = absurd wrote
traced_script asked Told c (Err (Play play_faults.Read)) old new told wrote = absurd wrote
traced_script asked Told c (Err (Play (play_faults.Script fault))) old new told wrote = absurd wrote
traced_script asked Told c (Err (Play (play_faults.Policy fault))) old new told wrote = absurd wrote

-- nothing was made for the script, and nothing went out
pub traced_unmade : (c : RunContents) (asked : TraceOptions) (fault : ExploreFault) (old : Option (List ℕ)) → MakesTrace c asked (Err fault) → Traces c asked old old (Err fault)
traced_unmade c asked Number old lacks = (lacks, keeps_same old)
traced_unmade c asked Unfound old lacks = (lacks, keeps_same old)
traced_unmade c asked (Texts fault) old made = keeps_same old
traced_unmade c asked (Text line fault) old made = absurd made
traced_unmade c asked (Term number fault) old made = absurd made
traced_unmade c asked (Play fault) old made = absurd made

-- there is no script, and nothing went out
no_script : (asked : TraceOptions) (Told : Result RunContents Wrong → Type 0) (error : ScriptError) (old : Option (List ℕ)) → RunAnswers (Err error) Told → Traced asked Told old old (Err (Play (fault_of error)))
no_script asked Told script_errors.Memory old told = keeps_same old
no_script asked Told (script_errors.Fault f) old told = (told, keeps_same old)
no_script asked Told (script_errors.Policy f) old (g, shown, told) = (g, shown, told, keeps_same old)

pub traced_nothing : (asked : TraceOptions) (Told : Result RunContents Wrong → Type 0) (error : ScriptError) (fault : PlayFault) (old : Option (List ℕ)) → RunAnswers (Err error) Told → fault ≡ fault_of error → Traced asked Told old old (Err (Play fault))
traced_nothing asked Told error fault old told is = subst (λ (f : PlayFault). Traced asked Told old old (Err (Play f))) (sym is) (no_script asked Told error old told)

-- nothing could be read
unread : (asked : TraceOptions) (Told : Result RunContents Wrong → Type 0) (old : Option (List ℕ)) (error : ReadFault) → Traced asked Told old old (Err (Play (read_fault error)))
unread asked Told old read_faults.Memory = keeps_same old
unread asked Told old read_faults.Read = keeps_same old

pub traced_unread : (asked : TraceOptions) (known old : Option (List ℕ)) (error : ReadFault) (fault : PlayFault) → fault ≡ read_fault error → OfInput known (λ input. Traced asked (ReadsAsRun input) old old (Err (Play fault)))
traced_unread asked known old error fault is =
    of_any_input known (λ (input : List ℕ). Traced asked (ReadsAsRun input) old old (Err (Play fault))) (λ (input : List ℕ). subst (λ (f : PlayFault). Traced asked (ReadsAsRun input) old old (Err (Play f))) (sym is) (unread asked (ReadsAsRun input) old error))
