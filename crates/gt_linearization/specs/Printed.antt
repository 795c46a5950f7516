-- The texts that a run of a script may print: those that `explore` lists, and those in which a call got no memory or a
-- gate stopped a list.
use Rattle.std.specs.Prelude.{◌≡◌, ◌≢◌, ◌⊎◌, ◌++◌, ℕ, Bool, false, All, List, [], ◌∷◌, Option, None}
use Rattle.std.specs.Io.KnownBytes.{Appends}
use Rattle.gt_types.specs.Names.{domain_of}
use Rattle.gt_types.specs.declared.config.DomainConfig.{DomainConfig}
use Rattle.gt_linearization.specs.Prelude.{DomId, Handle, Legal, N26, Request, denial_of}
use Rattle.gt_types.specs.declared.denial.Facts.TheVariants as facts
use Rattle.gt_linearization.specs.RunNames.{Answer, Do, Named, RunAction, RunTask, MakesRequest, ThreadJob, WritesAll}
use Rattle.gt_model.specs.declared.request.Request.TheVariants as requests
use Rattle.gt_model.specs.declared.trace.Answer.TheVariants as answers
use Rattle.gt_script.specs.Contents.{type_names}
use Rattle.gt_script.specs.RunContents.{RunContents}
use Rattle.gt_script.specs.RunScripts.{list_of}
use Rattle.gt_script_runs.specs.Playing.{setting_of_script}
use Rattle.gt_script_runs.specs.Printing.{answer_line}
use Rattle.gt_script_runs.specs.Rights.{may_by}
use Rattle.gt_script_runs.specs.declared.rights.ScriptPolicy.{ScriptPolicy}
use Rattle.gt_run.specs.Printing.{texts_in}
use Rattle.gt_run.specs.Runs.{AreOf, WritesScript}
use Rattle.gt_run.specs.Serving.{AwaitsRefusedFlag, RefusesNone, gate_line}
use Rattle.gt_explore_replay.specs.Orders.{CallHappens, ActionHappens, FlagsAreRaised, GivesMappingsBack, Happening}
use Rattle.gt_explore_replay.specs.Orders.{MayGive, Prints, doer, events_in, own_happenings, trace_in}

-- the answer of a call that got no memory
abbrev pub no_memory_answer : Answer
no_memory_answer = answers.Denied (denial_of N26 facts.None)

-- a call that makes no step before it has the memory that it needs: a map, or a call whose only step is an access
abbrev pub IsAllocating : Request → Type 0
IsAllocating (requests.Map dom gref flags) = Unit {0}
IsAllocating (requests.Load handle off len) = Unit {0}
IsAllocating (requests.Store handle off bytes) = Unit {0}
IsAllocating (requests.Peek frame off len) = Unit {0}
IsAllocating (requests.Poke frame off bytes) = Unit {0}
IsAllocating request = ⊥

-- a call of this request gets no memory, and the rest follows. A copy gets none at its access: what happened is its
-- probe, which is Ok. Of any other call no event happens
abbrev pub Starves : DomId → Request → (List Happening → Type 0) → List Happening → Type 0
Starves dom (requests.Copy c) Rest hs =
    CallHappens dom (requests.Probe c) (λ answer more. (answer ≡ answers.Done) × Rest more) hs
Starves dom request Rest hs = IsAllocating request × Rest hs

-- the call of a line got no memory: it prints N26, and the rest follows, with the same labels and handles
abbrev pub GetsNoMemory : List (List ℕ) → DomId → List Named → List Handle → ℕ → RunAction
    → (List Named → List Handle → List Happening → List ℕ → Type 0) → List Happening → List ℕ → Type 0
GetsNoMemory types dom named held line (Do call) Next hs text =
    (request : Request) × MakesRequest named dom call request
    × Starves dom request (λ more. Prints (answer_line types line dom no_memory_answer) (Next named held more) text) hs
GetsNoMemory types dom named held line action Next hs text = ⊥

-- a domain at the end of its list releases all its mappings
abbrev pub ReleasesMappings : DomId → List Handle → List Happening → Type 0
ReleasesMappings dom held hs = (order : List Handle) × GivesMappingsBack dom order held hs

-- the gate refused the domain at this line: the domain prints the gate's line, serves no line more, and leaves
abbrev pub StopsAtGate : (ℕ → Bool) → DomId → List Handle → RunTask → List Happening → List ℕ → Type 0
StopsAtGate refuses dom held t hs text =
    AwaitsRefusedFlag refuses t.run_action × ReleasesMappings dom held hs × (text ≡ gate_line t.line dom)

-- a domain serves its list, line by line, and then leaves; a call may get no memory, and a gate may stop the list at a
-- flag that it refuses; this is what it prints
abbrev pub PrintsList : (ℕ → Bool) → List (List ℕ) → DomId → List Named → List Handle → List RunTask
    → List Happening → List ℕ → Type 0
PrintsList refuses types dom named held [] hs text = ReleasesMappings dom held hs × (text ≡ [])
PrintsList refuses types dom named held (t ∷ ts) hs text =
    ActionHappens types dom named held t.line t.run_action
    (λ names holds more rest. PrintsList refuses types dom names holds ts more rest) hs text
    ⊎ (GetsNoMemory types dom named held t.line t.run_action
    (λ names holds more rest. PrintsList refuses types dom names holds ts more rest) hs text
    ⊎ StopsAtGate refuses dom held t hs text)

-- each of the domains serves its list so, and prints its part of the text, in their order
abbrev pub AllPrint : (ℕ → Bool) → RunContents → List Happening → List DomainConfig → List ℕ → Type 0
AllPrint refuses c hs [] text = text ≡ []
AllPrint refuses c hs (d ∷ ds) text =
    (part : List ℕ) × Prints part (AllPrint refuses c hs ds) text
    × PrintsList refuses (type_names c.head) d.id [] [] (list_of c.tasks d.id) (own_happenings d.id hs) part

-- one order of a script's run, and its text: what the core did is a legal trace, each domain serves its list, no other
-- domain does anything, and no flag is passed that was not raised before
pub record IsRunOf (refuses : ℕ → Bool) (c : RunContents) (hs : List Happening) (text : List ℕ) : Type 0 where
  pub legal : Legal (setting_of_script c.head) (events_in hs) (trace_in hs)
  pub print : AllPrint refuses c hs c.head.domains text
  pub known : All (λ x. domain_of c.head.domains (doer x) ≢ None) hs
  pub flags : FlagsAreRaised hs

-- a run of the script, at a gate that may refuse these flags, may print this text
abbrev pub MayPrint : (ℕ → Bool) → RunContents → List ℕ → Type 0
MayPrint refuses c text = (hs : List Happening) × IsRunOf refuses c hs text

-- what a run of a script writes is a text that a run of it may print
abbrev pub RunsArePrinted : Type 0
RunsArePrinted =
    (refuses : ℕ → Bool) (c : RunContents) (logged : Bool) (jobs : List (ThreadJob ScriptPolicy))
    (old new : Option (List ℕ)) → (of : AreOf c logged jobs) → (wrote : WritesAll may_by refuses jobs old new)
    → MayPrint refuses c (texts_in wrote.0)

-- without a log, what `run` appends is a text that a run of the script may print
abbrev pub UnloggedRunsPrint : Type 0
UnloggedRunsPrint =
    (refuses : ℕ → Bool) (c : RunContents) (old new : Option (List ℕ)) → WritesScript refuses c false old new
    → (text : List ℕ) × MayPrint refuses c text × Appends old new text

-- a text that `explore` lists is one that a run may print, at any gate
abbrev pub GivenTextsArePrinted : Type 0
GivenTextsArePrinted =
    (refuses : ℕ → Bool) (c : RunContents) (text : List ℕ) → MayGive c text → MayPrint refuses c text

-- this part is in the text
abbrev pub ContainsText : List ℕ → List ℕ → Type 0
ContainsText part text = (before : List ℕ) × (rest : List ℕ) × (text ≡ before ++ (part ++ rest))

-- no line of a call that got no memory is in the text; and no line of a gate is, if the gate may refuse some flag
pub record IsUndisturbed (refuses : ℕ → Bool) (types : List (List ℕ)) (text : List ℕ) : Type 0 where
  pub memory : (line : ℕ) (dom : DomId) → ContainsText (answer_line types line dom no_memory_answer) text → ⊥
  pub gates : RefusesNone refuses ⊎ ((line : ℕ) (dom : DomId) → ContainsText (gate_line line dom) text → ⊥)

-- a text that a run may print is one that `explore` lists, if it has no line with N26, and if it has no line of a gate
-- or the gate refuses no flag
abbrev pub PrintedTextsAreGiven : Type 0
PrintedTextsAreGiven =
    (refuses : ℕ → Bool) (c : RunContents) (text : List ℕ) → MayPrint refuses c text
    → IsUndisturbed refuses (type_names c.head) text → MayGive c text
