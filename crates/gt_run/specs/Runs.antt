-- The output of a run, for its input.
use Rattle.std.specs.Prelude.{◌≡◌, ◌⊎◌, ℕ, Bool, List, map, All, Option, Some, Result, Ok, Err}
use Rattle.std.specs.Io.KnownBytes.{Keeps}
use Rattle.gt_types.specs.Config.{IsWithinLimits}
use Rattle.gt_types.specs.declared.config.Config.{Config}
use Rattle.gt_types.specs.declared.config.DomainConfig.{DomainConfig}
use Rattle.gt_policy.specs.declared.fault.TokenFault as policy
use Rattle.gt_script.specs.Blocks.{block_fault_shown}
use Rattle.gt_script.specs.Contents.{first_gen, type_names}
use Rattle.gt_script.specs.RunContents.{RunContents}
use Rattle.gt_script.specs.Script.{Wrong, in_script, in_policy}
use Rattle.gt_script.specs.Lists.{RunTask}
use Rattle.gt_script.specs.Stuck.{AreNumbered}
use Rattle.gt_script_runs.specs.Rights.{may_by, may_in}
use Rattle.gt_script_runs.specs.declared.fault.PlayFault.TheVariants.{Memory, Read, Write, Script, Policy}
use Rattle.gt_script_runs.specs.declared.rights.ScriptPolicy.{ScriptPolicy}
use Rattle.gt_shared_table.specs.Words.{frames_kept}
use Rattle.gt_live.specs.Domains.{AllowRelation}
use Rattle.gt_live.specs.declared.monitor.Monitor.{Monitor}
use Rattle.gt_run.specs.declared.fault.RunFault.{RunFault}
use Rattle.gt_run.specs.declared.fault.RunFault.TheVariants.{Play, Thread}
use Rattle.gt_run.specs.declared.lists.ThreadJob.{ThreadJob}
use Rattle.gt_run.specs.declared.lists.DomainPart.{DomainPart}
use Rattle.gt_run.specs.Printing.{AreJobsOf, BeginsAll, WritesAll}
use Rattle.gt_live.specs.Parts.{config_of, rights_of, words_of}

-- The output of these jobs, by the result of the run. At Ok it is the whole text of their lists. If a thread was
-- refused it is empty. After a failed write or a failed allocation it is a prefix of such a text. There are no other
-- faults.
abbrev pub WroteLists : {P : Type 0} → (P → AllowRelation) → (ℕ → Bool) → List (ThreadJob P) → Option (List ℕ)
    → Option (List ℕ) → Result (Unit {0}) RunFault → Type 0
WroteLists may refuses jobs old new (Ok done) = WritesAll may refuses jobs old new
WroteLists may refuses jobs old new (Err Thread) = Keeps old new
WroteLists may refuses jobs old new (Err (Play Memory)) = BeginsAll may refuses jobs old new
WroteLists may refuses jobs old new (Err (Play Write)) = BeginsAll may refuses jobs old new
WroteLists may refuses jobs old new (Err (Play Read)) = ⊥
WroteLists may refuses jobs old new (Err (Play (Script fault))) = ⊥
WroteLists may refuses jobs old new (Err (Play (Policy fault))) = ⊥

-- such jobs, at a gate that may refuse these flags, wrote their whole text
abbrev pub Writes : {P : Type 0} → (P → AllowRelation) → (ℕ → Bool) → (List (ThreadJob P) → Type 0)
    → Option (List ℕ) → Option (List ℕ) → Type 0
Writes {P} may refuses Are old new =
    (jobs : List (ThreadJob P)) × Are jobs × WritesAll may refuses jobs old new

-- such jobs wrote a prefix of their whole text
abbrev pub BeginsToWrite : {P : Type 0} → (P → AllowRelation) → (ℕ → Bool) → (List (ThreadJob P) → Type 0)
    → Option (List ℕ) → Option (List ℕ) → Type 0
BeginsToWrite {P} may refuses Are old new =
    (jobs : List (ThreadJob P)) × Are jobs × BeginsAll may refuses jobs old new

-- the same of jobs of which this is known; if an allocation fails, it may be that none began, and then nothing was
-- written
abbrev pub Wrote : {P : Type 0} → (P → AllowRelation) → (ℕ → Bool) → (List (ThreadJob P) → Type 0)
    → Option (List ℕ) → Option (List ℕ) → Result (Unit {0}) RunFault → Type 0
Wrote may refuses Are old new (Ok done) = Writes may refuses Are old new
Wrote may refuses Are old new (Err Thread) = Keeps old new
Wrote may refuses Are old new (Err (Play Memory)) = Keeps old new ⊎ BeginsToWrite may refuses Are old new
Wrote may refuses Are old new (Err (Play Write)) = BeginsToWrite may refuses Are old new
Wrote may refuses Are old new (Err (Play Read)) = ⊥
Wrote may refuses Are old new (Err (Play (Script fault))) = ⊥
Wrote may refuses Are old new (Err (Play (Policy fault))) = ⊥

-- the jobs of these parts, over one monitor of this configuration, which is within the limits, with all its frames,
-- these rights and this number of flags
abbrev pub AreUnder : {P : Type 0} → Config → P → ℕ → Bool → List DomainPart → List (ThreadJob P) → Type 0
AreUnder {P} config rights flags logged parts jobs =
    (m : Monitor P) × (config_of m ≡ config) × IsWithinLimits config × (rights_of m ≡ rights)
    × ((words_of m).flags ≡ flags) × ((words_of m).frames ≡ frames_kept config) × AreJobsOf m logged parts jobs

-- the part has these tasks and these names of types
abbrev pub IsOver : List RunTask → List (List ℕ) → DomainPart → Type 0
IsOver tasks names part = (part.tasks.now ≡ tasks) × (part.types.now ≡ names)

-- the parts of these domains, one for each, in their order, over the same tasks and names of types
abbrev pub AreParts : List DomainConfig → List RunTask → List (List ℕ) → List DomainPart → Type 0
AreParts domains tasks names parts = (map (λ p. p.dom) parts ≡ map (λ d. d.id) domains) × All (IsOver tasks names) parts

-- the parts of a script: its domains, each with the script's tasks and names of types
abbrev pub AreListsOf : RunContents → List DomainPart → Type 0
AreListsOf c parts = AreParts c.head.domains c.tasks (type_names c.head) parts

-- the jobs of a script's parts, over one monitor that has the script's domains with all their frames, its first
-- generation and its flags, is within the limits, and allows what the script allows
pub record AreOf (c : RunContents) (logged : Bool) (jobs : List (ThreadJob ScriptPolicy)) : Type 0 where
  pub parts : List DomainPart
  pub of_script : AreListsOf c parts
  pub monitor : Monitor ScriptPolicy
  pub domains : (config_of monitor).domains.items ≡ c.head.domains
  pub limits : IsWithinLimits (config_of monitor)
  pub generation : (config_of monitor).first_gen ≡ first_gen c.head
  pub rights : may_by (rights_of monitor) ≡ may_in c.head
  pub flags : AreNumbered (words_of monitor).flags c.tasks
  pub frames : (words_of monitor).frames ≡ frames_kept (config_of monitor)
  pub jobs_are : AreJobsOf monitor logged parts jobs

-- the script's lists wrote their whole text
abbrev pub WritesScript : (ℕ → Bool) → RunContents → Bool → Option (List ℕ) → Option (List ℕ) → Type 0
WritesScript refuses c logged old new = Writes may_by refuses (AreOf c logged) old new

-- a prefix of the whole text of the script's lists went out
abbrev pub BeginsScript : (ℕ → Bool) → RunContents → Bool → Option (List ℕ) → Option (List ℕ) → Type 0
BeginsScript refuses c logged old new = BeginsToWrite may_by refuses (AreOf c logged) old new

-- the output of a script's run, by its result
abbrev pub WroteScript : (ℕ → Bool) → RunContents → Bool → Option (List ℕ) → Option (List ℕ)
    → Result (Unit {0}) RunFault → Type 0
WroteScript refuses c logged old new r = Wrote may_by refuses (AreOf c logged) old new r

-- this relation gives a script, of which P holds
abbrev pub OfScript : (Result RunContents Wrong → Type 0) → (RunContents → Type 0) → Type 0
OfScript Told P = (c : RunContents) × Told (Ok c) × P c

-- The output of `run`, at a gate that may refuse these flags, with a log or without, by its result, for bytes that mean
-- this. At Ok it is the whole text of the script. At a fault of the script it is empty, and the fault is the script's
-- first. If a thread was refused it is empty. After a failed write it is a prefix of a text of the script. After a
-- failed allocation it is such a prefix, or empty.
abbrev pub Ran : (ℕ → Bool) → Bool → (Result RunContents Wrong → Type 0) → Option (List ℕ) → Option (List ℕ)
    → Result (Unit {0}) RunFault → Type 0
Ran refuses logged Told old new (Ok done) = OfScript Told (λ c. WritesScript refuses c logged old new)
Ran refuses logged Told old new (Err Thread) = OfScript Told (λ c. Keeps old new)
Ran refuses logged Told old new (Err (Play (Script fault))) = Told (Err (in_script fault)) × Keeps old new
Ran refuses logged Told old new (Err (Play (Policy fault))) =
    (g : policy.TokenFault) × (block_fault_shown fault ≡ Some g) × Told (Err (in_policy g)) × Keeps old new
Ran refuses logged Told old new (Err (Play Memory)) =
    Keeps old new ⊎ OfScript Told (λ c. BeginsScript refuses c logged old new)
Ran refuses logged Told old new (Err (Play Write)) = OfScript Told (λ c. BeginsScript refuses c logged old new)
Ran refuses logged Told old new (Err (Play Read)) = Keeps old new
