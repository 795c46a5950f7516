-- From what was read to what was played.
use Rattle.std.proofs.Common.{◌≡◌, ℕ, Bool, List, Option, Result, Ok, Err, OnOk, OnErr, sym, subst, inl, inr}
use Rattle.std.specs.Io.KnownBytes.{Keeps}
use Rattle.gt_script.specs.Contents.{Contents}
use Rattle.gt_script.specs.Outcomes.{AnswersScript}
use Rattle.gt_script.specs.Script.{ReadsAsScript, Wrong}
use Rattle.gt_script.specs.declared.faults.ScriptError.{ScriptError}
use Rattle.gt_script.specs.declared.faults.ScriptError.TheVariants as script_errors
use Rattle.gt_text.specs.declared.fault.ReadFault.{ReadFault}
use Rattle.gt_text.specs.declared.fault.ReadFault.TheVariants as read_faults
use Rattle.gt_host.specs.declared.fault.StepsFault.{StepsFault}
use Rattle.gt_host.specs.declared.fault.StepsFault.TheVariants as steps_faults
use Rattle.gt_script_runs.specs.declared.fault.PlayFault.{PlayFault}
use Rattle.gt_host.specs.Faults.{play_ended}
use Rattle.gt_script_runs.specs.Faults.{fault_of, read_fault}
use Rattle.gt_script_runs.specs.Playing.{BeginsEvery, BeginsRun, WritesRun, Played}
use Rattle.gt_text.specs.Laws.{keeps_same, of_any_input}
use Rattle.gt_text.specs.Streams.{OfInput}

-- there is no script, and nothing went out
no_script : (Told : Result Contents Wrong → Type 0) (audit : Bool) (error : ScriptError) (old new : Option (List ℕ)) → AnswersScript (Err error) Told → Keeps old new → Played Told audit old new (Err (fault_of error))
no_script Told audit script_errors.Memory old new told kept = inl kept
no_script Told audit (script_errors.Fault f) old new told kept = (told, kept)
no_script Told audit (script_errors.Policy f) old new (g, shown, told) kept = (g, shown, told, kept)

pub played_nothing : (Told : Result Contents Wrong → Type 0) (audit : Bool) (error : ScriptError) (fault : PlayFault) (old new : Option (List ℕ))
    → AnswersScript (Err error) Told → Keeps old new → fault ≡ fault_of error → Played Told audit old new (Err fault)
played_nothing Told audit error fault old new told kept is = subst (λ (f : PlayFault). Played Told audit old new (Err f)) (sym is) (no_script Told audit error old new told kept)

-- a script was run
run-told : (Told : Result Contents Wrong → Type 0) (audit : Bool) (c : Contents) (r : Result (Unit {0}) StepsFault) (old new : Option (List ℕ)) → Told (Ok c) → OnOk r (WritesRun c audit old new) → OnErr r (BeginsRun c audit old new)
    → (BeginsRun c audit old new → BeginsEvery c audit old new) → Played Told audit old new (play_ended r)
run-told Told audit c (Ok done) old new told whole begun every = (c, told, whole)
run-told Told audit c (Err steps_faults.Memory) old new told whole begun every = inr (c, told, begun, every begun)
run-told Told audit c (Err steps_faults.Write) old new told whole begun every = (c, told, begun, every begun)

pub played_run : (Told : Result Contents Wrong → Type 0) (audit : Bool) (c : Contents) (r : Result (Unit {0}) StepsFault) (t : Result (Unit {0}) PlayFault) (old new : Option (List ℕ)) → Told (Ok c)
    → OnOk r (WritesRun c audit old new) → OnErr r (BeginsRun c audit old new) → (BeginsRun c audit old new → BeginsEvery c audit old new) → t ≡ play_ended r → Played Told audit old new t
played_run Told audit c r t old new told whole begun every is =
    subst (λ (q : Result (Unit {0}) PlayFault). Played Told audit old new q) (sym is) (run-told Told audit c r old new told whole begun every)

-- nothing could be read
unread : (Told : Result Contents Wrong → Type 0) (audit : Bool) (old : Option (List ℕ)) (error : ReadFault) → Played Told audit old old (Err (read_fault error))
unread Told audit old read_faults.Memory = inl (keeps_same old)
unread Told audit old read_faults.Read = keeps_same old

pub played_unread : (audit : Bool) (known old : Option (List ℕ)) (error : ReadFault) (fault : PlayFault) → fault ≡ read_fault error → OfInput known (λ input. Played (ReadsAsScript input) audit old old (Err fault))
played_unread audit known old error fault is =
    of_any_input known (λ (input : List ℕ). Played (ReadsAsScript input) audit old old (Err fault)) (λ (input : List ℕ). subst (λ (f : PlayFault). Played (ReadsAsScript input) audit old old (Err f)) (sym is) (unread (ReadsAsScript input) audit old error))
