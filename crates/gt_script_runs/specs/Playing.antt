-- What is written for what is read.
use Rattle.std.specs.Prelude.{◌≡◌, ◌⊎◌, ◌++◌, ℕ, ◌≤◌, Bool, List, [], length, take, Option, Some, Result, Ok, Err, All}
use Rattle.std.specs.Prelude.{IsTrue}
use Rattle.gt_script_runs.specs.Prelude.{Appends, Keeps, AreFaultless, is_taken, LAST_GENERATION, block_fault_shown, Contents}
use Rattle.gt_script_runs.specs.Prelude.{type_names, first_gen, Wrong, in_script, in_policy, ScriptStep, Setting, Legal}
use Rattle.gt_script_runs.specs.Prelude.{CoreModel, CoreStands, setting_of, PlayFault, Memory, Read, Write, Script, Policy}
use Rattle.gt_script_runs.specs.Prelude.{ScriptPolicy, AppendsBeginning}
use Rattle.gt_policy.specs.declared.fault.TokenFault as policy
use Rattle.gt_script_runs.specs.Auditing.{audit_text}
use Rattle.gt_script_runs.specs.Rights.{may_by, may_in}
use Rattle.gt_script_runs.specs.Runs.{Progress, ScriptLeadsTo, KnowsOpen, open_lines}

-- The domains of the script and its first generation are within the limits
-- of a run, and each step is one of its domains.
abbrev pub CanStart : Contents → Type 0
CanStart c =
    AreFaultless c.domains × (1 ≤ length c.domains) × (first_gen c ≤ LAST_GENERATION)
    × All (λ s. IsTrue (is_taken c.domains s.dom)) c.steps

-- the setting of a script: its domains, what its policy or its triples allow, and
-- the first generation
abbrev pub setting_of_script : Contents → Setting
setting_of_script c = record { domains = c.domains; first_generation = first_gen c; may = may_in c }

-- the core starts with the domains and the rights of the script
pub record StartsFor (c : Contents) (core : CoreModel ScriptPolicy) : Type 0 where
  pub domains : core.config.domains.items ≡ c.domains
  pub generation : core.config.first_gen ≡ first_gen c
  pub rights : may_by core.rights ≡ may_in c
  pub stands : CoreStands (setting_of core.config (may_by core.rights)) [] core.state

-- The steps lead here, what their events did is a legal trace, and the open calls are those
-- of the trace. If this holds at the last point of a run, it holds at the
-- earlier ones too, since a legal trace begins and answers calls one at a time.
abbrev pub IsLegalRunOf : Contents → List ScriptStep → Progress → Type 0
IsLegalRunOf c steps p =
    ScriptLeadsTo (setting_of_script c) (type_names c) steps p × Legal (setting_of_script c) p.events p.trace
    × KnowsOpen p

-- the text of a run that came to the end of the script: the lines of
-- its steps, and those of the open calls
abbrev pub play_text : Contents → Progress → List ℕ
play_text c p = p.text ++ open_lines c.domains p.open_steps

-- that text, and if the audit is on the records of what the run did
abbrev pub audited_text : Contents → Bool → Progress → List ℕ
audited_text c audit p = play_text c p ++ audit_text audit (setting_of_script c) (type_names c) p.trace

-- the text of the script's run went out, with its audit if that is on
abbrev pub WritesRun : Contents → Bool → Option (List ℕ) → Option (List ℕ) → Type 0
WritesRun c audit old new = (p : Progress) × IsLegalRunOf c c.steps p × Appends old new (audited_text c audit p)

-- a prefix of the text went out, of a run that stopped early
abbrev pub BeginsSome : Contents → Option (List ℕ) → Option (List ℕ) → Type 0
BeginsSome c old new =
    (steps : ℕ) × (p : Progress) × IsLegalRunOf c (take steps c.steps) p × AppendsBeginning old new p.text

-- a prefix of the text went out, of a run that came to the end
abbrev pub BeginsPlay : Contents → Bool → Option (List ℕ) → Option (List ℕ) → Type 0
BeginsPlay c audit old new =
    (p : Progress) × IsLegalRunOf c c.steps p × AppendsBeginning old new (audited_text c audit p)

-- a prefix of the text of a run went out
abbrev pub BeginsRun : Contents → Bool → Option (List ℕ) → Option (List ℕ) → Type 0
BeginsRun c audit old new = BeginsSome c old new ⊎ BeginsPlay c audit old new

-- what went out is a prefix of the text of each run that comes to the end
abbrev pub BeginsEvery : Contents → Bool → Option (List ℕ) → Option (List ℕ) → Type 0
BeginsEvery c audit old new =
    (p : Progress) → IsLegalRunOf c c.steps p → AppendsBeginning old new (audited_text c audit p)

-- the bytes are a script, and a prefix of its text went out: of a
-- run of it, and of each one that comes to the end
abbrev pub BeginsPlaying : (Result Contents Wrong → Type 0) → Bool → Option (List ℕ) → Option (List ℕ) → Type 0
BeginsPlaying Told audit old new =
    (c : Contents) × Told (Ok c) × BeginsRun c audit old new × BeginsEvery c audit old new

-- What `play` wrote, by its result, for bytes of this meaning. At Ok the whole text of the run
-- went out, and its audit if that is on. At a fault of the script nothing did, and the
-- fault is the first of the script. After a failed write a prefix went out, and after a
-- failed allocation that or nothing.
abbrev pub Played : (Result Contents Wrong → Type 0) → Bool → Option (List ℕ) → Option (List ℕ)
    → Result (Unit {0}) PlayFault → Type 0
Played Told audit old new (Ok done) = (c : Contents) × Told (Ok c) × WritesRun c audit old new
Played Told audit old new (Err (Script fault)) = Told (Err (in_script fault)) × Keeps old new
Played Told audit old new (Err (Policy fault)) =
    (g : policy.TokenFault) × (block_fault_shown fault ≡ Some g) × Told (Err (in_policy g)) × Keeps old new
Played Told audit old new (Err Memory) = Keeps old new ⊎ BeginsPlaying Told audit old new
Played Told audit old new (Err Write) = BeginsPlaying Told audit old new
Played Told audit old new (Err Read) = Keeps old new
