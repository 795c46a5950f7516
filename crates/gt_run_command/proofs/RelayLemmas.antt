-- From the text that a run wrote to memory to the one that goes out.
use Rattle.std.proofs.Common.{◌≡◌, ◌∙◌, ℕ, Bool, List, [], ◌++◌, Option, None, Some, Result, Ok, Err, sym, subst, inl, true, false}
use Rattle.std.proofs.Common.{◌⊎◌, inr, refl}
use Rattle.std.proofs.Common.{arith}
use Rattle.std.proofs.lemmas.List.{append-nil}
use Rattle.std.specs.Io.KnownBytes.{Appends, Keeps}
use Rattle.gt_file_commands.specs.AsJson.{AsJson, Failed, Promise}
use Rattle.gt_file_commands.specs.JsonNames.{Run, json_text}
use Rattle.gt_command_line.specs.declared.invocation.Format.{Format}
use Rattle.gt_command_line.specs.declared.invocation.Format.TheVariants.{Text, Json}
use Rattle.gt_script_runs.specs.Rights.{may_by}
use Rattle.gt_script_runs.specs.declared.rights.ScriptPolicy.{ScriptPolicy}
use Rattle.gt_script_runs.specs.declared.fault.PlayFault.TheVariants.{Memory, Read, Write, Script, Policy}
use Rattle.gt_run.specs.Printing.{BeginsAll, run_text, texts_in}
use Rattle.gt_run.specs.Runs.{Ran}
use Rattle.gt_run.specs.declared.fault.RunFault.{RunFault}
use Rattle.gt_run.specs.declared.fault.RunFault.TheVariants.{Play, Thread}
use Rattle.gt_run.specs.declared.lists.ThreadJob.{ThreadJob}
use Rattle.gt_script.specs.RunContents.{RunContents}
use Rattle.gt_script.specs.RunScripts.{ReadsAsRun}
use Rattle.gt_script.specs.Script.{Wrong}
use Rattle.gt_text.specs.Streams.{AppendsBeginning, OfInput}
use Rattle.gt_linearization.specs.Running.{AppendsText, RanInOrder, WroteIfOk}
use Rattle.gt_run_command.specs.Runs.{RanAs, Relays, fault_in_memory}

-- where all stays nothing went out, which is a beginning of any text
kept_nothing : (old new : Option (List ℕ)) → Keeps old new → Appends old new []
kept_nothing None new kept = tt
kept_nothing (Some xs) None kept = kept
kept_nothing (Some xs) (Some ys) kept = kept ∙ sym (append-nil xs)

begins_nothing : (old new : Option (List ℕ)) (text : List ℕ) → Keeps old new → AppendsBeginning old new text
begins_nothing old new text kept = (0, omega arith, kept_nothing old new kept)

begins_all : (refuses : ℕ → Bool) (jobs : List (ThreadJob ScriptPolicy)) (a b old new : Option (List ℕ)) → Keeps old new → BeginsAll may_by refuses jobs a b → BeginsAll may_by refuses jobs old new
begins_all refuses jobs a b old new kept (inl (all, rest, text, is, served, prints, begins)) = inl (all, rest, text, is, served, prints, begins_nothing old new (texts_in all ++ text) kept)
begins_all refuses jobs a b old new kept (inr (all, is, served, begins)) = inr (all, is, served, begins_nothing old new (run_text all) kept)

-- a run that ended with a fault, and of which nothing goes out
kept_on : (refuses : ℕ → Bool) (logged : Bool) (Told : Result RunContents Wrong → Type 0) (a b old new : Option (List ℕ)) (why : RunFault) → Keeps old new → Ran refuses logged Told a b (Err why) → Ran refuses logged Told old new (Err why)
kept_on refuses logged Told a b old new Thread kept (c, told, same) = (c, told, kept)
kept_on refuses logged Told a b old new (Play (Script fault)) kept (told, same) = (told, kept)
kept_on refuses logged Told a b old new (Play (Policy fault)) kept (g, shown, told, same) = (g, shown, told, kept)
kept_on refuses logged Told a b old new (Play Memory) kept ran = inl kept
kept_on refuses logged Told a b old new (Play Write) kept (c, told, (jobs, are, begins)) = (c, told, (jobs, are, begins_all refuses jobs a b old new kept begins))
kept_on refuses logged Told a b old new (Play Read) kept same = kept

-- the fault is want of memory, or the run's
memory_or_same : (why : RunFault) → (fault_in_memory why ≡ Play Memory) ⊎ (fault_in_memory why ≡ why)
memory_or_same Thread = inr refl
memory_or_same (Play (Script fault)) = inr refl
memory_or_same (Play (Policy fault)) = inr refl
memory_or_same (Play Memory) = inl refl
memory_or_same (Play Write) = inl refl
memory_or_same (Play Read) = inr refl

either : (fault why : RunFault) → fault ≡ fault_in_memory why → (fault ≡ Play Memory) ⊎ (fault ≡ why)
either fault why is = subst (λ (f : RunFault). (f ≡ Play Memory) ⊎ (f ≡ why)) (sym is) (memory_or_same why)

module _ (old new : Option (List ℕ)) (text : List ℕ) where
  text_fault : (refuses : ℕ → Bool) (logged : Bool) (Told : Result RunContents Wrong → Type 0) (fault why : RunFault) → Ran refuses logged Told (Some []) (Some text) (Err why) → Keeps old new → (fault ≡ Play Memory) ⊎ (fault ≡ why) → Ran refuses logged Told old new (Err fault)
  text_fault refuses logged Told fault why ran kept (inl memory) = subst (λ (f : RunFault). Ran refuses logged Told old new (Err f)) (sym memory) (inl kept)
  text_fault refuses logged Told fault why ran kept (inr same) = subst (λ (f : RunFault). Ran refuses logged Told old new (Err f)) (sym same) (kept_on refuses logged Told (Some []) (Some text) old new why kept ran)

  relayed_text : (refuses : ℕ → Bool) (logged : Bool) (Told : Result RunContents Wrong → Type 0) (outcome answer : Result (Unit {0}) RunFault) → Ran refuses logged Told (Some []) (Some text) outcome → Relays text outcome old new answer → Ran refuses logged Told old new answer
  relayed_text refuses logged Told (Ok done) (Ok sent) (c, told, (jobs, are, (all, is, served, one, whole))) went =
      (c, told, (jobs, are, (all, is, served, one, subst (λ (l : List ℕ). Appends old new l) whole went)))
  relayed_text refuses logged Told (Ok done) (Err fault) (c, told, (jobs, are, (all, is, served, one, whole))) (wrote, begins) =
      subst (λ (f : RunFault). Ran refuses logged Told old new (Err f)) (sym wrote) (c, told, (jobs, are, inr (all, is, served, subst (λ (l : List ℕ). AppendsBeginning old new l) whole begins)))
  relayed_text refuses logged Told (Err why) (Ok sent) ran went = absurd went
  relayed_text refuses logged Told (Err why) (Err fault) ran (is, kept) = text_fault refuses logged Told fault why ran kept (either fault why is)

  sent_on : (logged : Bool) (part : List ℕ) → AppendsText logged (Some []) (Some text) part → Appends old new text → AppendsText logged old new part
  sent_on false part is went = subst (λ (l : List ℕ). Appends old new l) is went
  sent_on true part (audit, is) went = (audit, subst (λ (l : List ℕ). Appends old new l) is went)

  relayed_wrote : (refuses : ℕ → Bool) (logged : Bool) (Told : Result RunContents Wrong → Type 0) (outcome answer : Result (Unit {0}) RunFault) → WroteIfOk refuses logged Told (Some []) (Some text) outcome → Relays text outcome old new answer → WroteIfOk refuses logged Told old new answer
  relayed_wrote refuses logged Told (Ok done) (Ok sent) (c, told, wrote) went =
      (c, told, record { text = wrote.text; appends = sent_on logged wrote.text wrote.appends went; printed = wrote.printed; given = wrote.given })
  relayed_wrote refuses logged Told (Err why) (Ok sent) wrote went = absurd went
  relayed_wrote refuses logged Told outcome (Err fault) wrote went = tt

  json_fault : (Wrote : Promise RunFault) (fault why : RunFault) → Failed Run (Play Memory) (Play Write) Wrote (Some []) (Some text) why → Keeps old new → (fault ≡ Play Memory) ⊎ (fault ≡ why)
      → Failed Run (Play Memory) (Play Write) Wrote old new fault
  json_fault Wrote fault why ran kept (inl memory) = inl (kept, inl memory)
  json_fault Wrote fault why (inl (nothing, because)) kept (inr same) =
      subst (λ (f : RunFault). Failed Run (Play Memory) (Play Write) Wrote old new f) (sym same) (inl (kept, because))
  json_fault Wrote fault why (inr (because, (lines, wrote, begins))) kept (inr same) =
      subst (λ (f : RunFault). Failed Run (Play Memory) (Play Write) Wrote old new f) (sym same) (inr (because, (lines, wrote, begins_nothing old new (json_text Run lines) kept)))

  relayed_json : (Wrote : Promise RunFault) (outcome answer : Result (Unit {0}) RunFault) → AsJson Run (Play Memory) (Play Write) Wrote (Some []) (Some text) outcome → Relays text outcome old new answer
      → AsJson Run (Play Memory) (Play Write) Wrote old new answer
  relayed_json Wrote (Ok done) (Ok sent) (lines, wrote, whole) went = (lines, wrote, subst (λ (l : List ℕ). Appends old new l) whole went)
  relayed_json Wrote (Ok done) (Err fault) (lines, wrote, whole) (is, begins) = inr (inr is, (lines, wrote, subst (λ (l : List ℕ). AppendsBeginning old new l) whole begins))
  relayed_json Wrote (Err why) (Ok sent) ran went = absurd went
  relayed_json Wrote (Err why) (Err fault) ran (is, kept) = json_fault Wrote fault why ran kept (either fault why is)

relayed_one : (refuses : ℕ → Bool) (old new : Option (List ℕ)) (text : List ℕ) (format : Format) (logged : Bool) (input : List ℕ) (outcome answer : Result (Unit {0}) RunFault) → RanAs refuses format logged input (Some []) (Some text) outcome → Relays text outcome old new answer
    → RanAs refuses format logged input old new answer
relayed_one refuses old new text Text logged input outcome answer ran went = (relayed_text old new text refuses logged (ReadsAsRun input) outcome answer ran.0 went, relayed_wrote old new text refuses logged (ReadsAsRun input) outcome answer ran.1 went)
relayed_one refuses old new text Json logged input outcome answer ran went = relayed_json old new text (RanInOrder refuses logged (ReadsAsRun input)) outcome answer ran went

-- what follows for each input follows for the one that there is
of_input_more : (known : Option (List ℕ)) (P Q : List ℕ → Type 0) → ((input : List ℕ) → P input → Q input) → OfInput known P → OfInput known Q
of_input_more None P Q f (input, few, p) = (input, few, f input p)
of_input_more (Some all) P Q f p = f all p

-- the text of a run, which began with nothing, went out
pub relayed : (refuses : ℕ → Bool) (known : Option (List ℕ)) (format : Format) (logged : Bool) (start text given : List ℕ) (outcome answer : Result (Unit {0}) RunFault) (old new : Option (List ℕ)) → start ≡ [] → given ≡ text
    → OfInput known (λ input. RanAs refuses format logged input (Some start) (Some text) outcome) → Relays given outcome old new answer → OfInput known (λ input. RanAs refuses format logged input old new answer)
relayed refuses known format logged start text given outcome answer old new none is ran went =
    let gone : Relays text outcome old new answer = subst (λ (l : List ℕ). Relays l outcome old new answer) is went in
    of_input_more known (λ (input : List ℕ). RanAs refuses format logged input (Some start) (Some text) outcome) (λ (input : List ℕ). RanAs refuses format logged input old new answer)
    (λ (input : List ℕ) (r : RanAs refuses format logged input (Some start) (Some text) outcome). relayed_one refuses old new text format logged input outcome answer (subst (λ (l : List ℕ). RanAs refuses format logged input (Some l) (Some text) outcome) none r) gone) ran
