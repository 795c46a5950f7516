-- The output of `run`, and its result.
use Rattle.std.specs.Prelude.{◌≡◌, ℕ, Bool, false, List, Result, Ok, Err}
use Rattle.gt_run_command.specs.RunNames.{Format, Text, Json, Doing, Yes, Run, AsJson, Promise, RanInOrder, RunFault}
use Rattle.gt_run_command.specs.RunNames.{ReadsAsRun, AppendsBeginning, Appends, Keeps}
use Rattle.gt_file_commands.specs.declared.failure.Failure.TheVariants as failures
use Rattle.gt_run.specs.declared.fault.RunFault.TheVariants.{Play, Thread}
use Rattle.gt_script_runs.specs.declared.fault.PlayFault.TheVariants.{Memory, Policy, Read, Script, Write}

-- the output as JSON, at a gate that may refuse these flags, with a log or without
abbrev pub RanAsJson : (ℕ → Bool) → List ℕ → Bool → Promise RunFault
RanAsJson refuses input logged = AsJson Run (Play Memory) (Play Write) (RanInOrder refuses logged (ReadsAsRun input))

-- the output in a format
abbrev pub RanAs : (ℕ → Bool) → Format → Bool → List ℕ → Promise RunFault
RanAs refuses Text audited input = RanInOrder refuses audited (ReadsAsRun input)
RanAs refuses Json audited input = RanAsJson refuses input audited

-- the program's gate refuses no flag
abbrev pub no_flag : ℕ → Bool
no_flag flag = false

-- the fault of a run that writes to memory, where a write fails only if an allocation does
abbrev pub fault_in_memory : RunFault → RunFault
fault_in_memory (Play Write) = Play Memory
fault_in_memory (Play Memory) = Play Memory
fault_in_memory (Play Read) = Play Read
fault_in_memory (Play (Script fault)) = Play (Script fault)
fault_in_memory (Play (Policy fault)) = Play (Policy fault)
fault_in_memory Thread = Thread

-- The output of a text that a run wrote to memory, by the run's result. At Ok it is the text, or a prefix of it if a
-- write failed. At a fault it is empty, and the fault is the run's, or want of memory if the run could not write.
abbrev pub Relays : List ℕ → Result (Unit {0}) RunFault → Promise RunFault
Relays text (Ok done) old new (Ok sent) = Appends old new text
Relays text (Ok done) old new (Err fault) = (fault ≡ Play Write) × AppendsBeginning old new text
Relays text (Err why) old new (Ok sent) = ⊥
Relays text (Err why) old new (Err fault) = (fault ≡ fault_in_memory why) × Keeps old new

-- What was written at the program's gate, and the result: yes, or the run's fault. If an allocation failed before the
-- text was read, nothing was written.
abbrev pub RunsDomains : Format → Bool → Doing
RunsDomains format audited input old new (Ok Yes) = RanAs no_flag format audited input old new (Ok tt)
RunsDomains format audited input old new (Ok other) = ⊥
RunsDomains format audited input old new (Err (failures.Play fault)) =
    RanAs no_flag format audited input old new (Err (Play fault))
RunsDomains format audited input old new (Err failures.Thread) =
    RanAs no_flag format audited input old new (Err Thread)
RunsDomains format audited input old new (Err failures.Memory) = Keeps old new
RunsDomains format audited input old new (Err failure) = ⊥
