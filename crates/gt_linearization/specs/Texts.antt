-- The lists of a run, and the legal order whose answers they print, bytes too.
use Rattle.std.specs.Prelude.{◌≡◌, ◌⊎◌, ℕ, Bool, ◌<◌, All, List, [], ◌∷◌, ◌++◌, length, map, Option, Some, slice_get}
use Rattle.gt_linearization.specs.RunNames.{some, get_elem?, State, Config, Denial, Board, StepHistory, Shows, id_at, IsAmong}
use Rattle.gt_linearization.specs.RunNames.{View, answer_of, Answer, AllowRelation, HasLeft, Domain, Departed, Monitor}
use Rattle.gt_linearization.specs.RunNames.{AreReleases, IsLegalOrder, CallMade, Await, Call, DomainAct, Do, FlagMade, FlagStep}
use Rattle.gt_linearization.specs.RunNames.{Look, OnFlag, Passed, Raised, RunAction, RunOrder, Tell, CallOutcome, SeatRun}
use Rattle.gt_linearization.specs.RunNames.{Judged, MadeMapping, NoMemory, Read, Written, ScriptCall, RunTask, ThreadJob, Served}
use Rattle.gt_linearization.specs.RunNames.{WasServed, WritesAll, MakesCall, ListProgress}
use Rattle.gt_linearization.specs.Prelude.{IsWithinLimits, N26, denial_of}
use Rattle.gt_types.specs.declared.denial.Facts.TheVariants as facts
use Rattle.gt_model.specs.declared.trace.Answer.TheVariants as answers
use Rattle.gt_shared_table.specs.Words.{frames_kept}
use Rattle.gt_types.specs.declared.denial.Rule.TheVariants.{N16}
use Rattle.gt_model.specs.declared.action.CallResult.TheVariants.{Granted}
use Rattle.gt_model.specs.declared.request.Request.{Request}
use Rattle.gt_model.specs.declared.request.Request.TheVariants as requests
use Rattle.gt_types.specs.declared.copies.CopyArgs.{CopyArgs}
use Rattle.gt_live.specs.Parts.{config_of, rights_of, seat_left, seat_of, words_of}

-- the table of the monitor has all frames of its configuration
abbrev pub HasAllFrames : {P : Type 0} → Monitor P → Type 0
HasAllFrames m = (words_of m).frames ≡ frames_kept (config_of m)

-- the refusal of an allocation, or of an access to a frame that is missing, which no table with all frames gives
abbrev pub IsMemoryRefusal : {P : Type 0} → Monitor P → Denial → Type 0
IsMemoryRefusal m denial =
    (denial ≡ denial_of N26 facts.None) ⊎ ((denial ≡ denial_of N16 facts.None) × (HasAllFrames m → ⊥))

-- a call with this outcome has this answer
abbrev pub OutcomeGivesAnswer : {P : Type 0} → Monitor P → CallOutcome → Answer → Type 0
OutcomeGivesAnswer m (Judged verdict) answer = answer ≡ answer_of verdict
OutcomeGivesAnswer m (MadeMapping handle p) answer = answer ≡ answers.Mapped handle
OutcomeGivesAnswer m NoMemory answer = (denial : Denial) × (answer ≡ answers.Denied denial) × IsMemoryRefusal m denial
OutcomeGivesAnswer m (Read bytes) answer = answer ≡ answers.Bytes bytes
OutcomeGivesAnswer m Written answer = answer ≡ answers.Done

-- a copy that reached its access and could not make it: the call of the run is its probe, and the line prints the
-- refusal
pub record IsLostCopy {P : Type 0} (monitor : Monitor P) (m : CallMade) (request : Request) (answer : Answer) : Type 0 where
  pub args : CopyArgs
  pub copy : request ≡ requests.Copy args
  pub probe : m.request ≡ requests.Probe args
  pub outcome : m.outcome ≡ Judged Granted
  pub denial : Denial
  pub refused : answer ≡ answers.Denied denial
  pub lost : IsMemoryRefusal monitor denial

-- the call m of a run is what the domain did for this request, which got this answer
abbrev pub IsDoneFor : {P : Type 0} → Monitor P → CallMade → Request → Answer → Type 0
IsDoneFor monitor m request answer =
    ((m.request ≡ request) × OutcomeGivesAnswer monitor m.outcome answer) ⊎ IsLostCopy monitor m request answer

-- the call m of a run is that of a line of the job's list, and leads from p to q: the domain was asked what the line
-- encodes, with the handles that its labels named then, and the answer is the one that the line prints
pub record IsCallOf {P : Type 0} (may : P → AllowRelation) (job : ThreadJob P) (m : CallMade) (p q : ListProgress)
    : Type 0 where
  pub task : RunTask
  pub listed : IsAmong task job.part.tasks.now
  pub call : ScriptCall
  pub run_action : task.run_action ≡ Do call
  pub made : MakesCall may job task.line call p q
  pub old : m.old ≡ p.domain
  pub new : m.new ≡ q.domain
  pub done_for : IsDoneFor job.monitor.now m made.request made.answer

-- the action raises the flag, or awaits it, by this step
abbrev pub IsFlagStepOf : RunAction → ℕ → FlagStep → Type 0
IsFlagStepOf (Tell f) flag Raised = f ≡ flag
IsFlagStepOf (Await f) flag Passed = f ≡ flag
IsFlagStepOf action flag m = ⊥

-- the step on a flag is that of a line of the job's list
abbrev pub IsOfFlagLine : {P : Type 0} → ThreadJob P → FlagMade → Type 0
IsOfFlagLine job x = (task : RunTask) × IsAmong task job.part.tasks.now × IsFlagStepOf task.run_action x.flag x.step

-- these deeds, the last one first, are those of lines of the job's list, and lead to q: calls with their outcomes, and
-- steps on flags
abbrev pub AreDeedsOf : {P : Type 0} → (P → AllowRelation) → ThreadJob P → List DomainAct → ListProgress → Type 0
AreDeedsOf may job [] q = (q.named ≡ []) × (q.outcomes ≡ [])
AreDeedsOf may job (Call m ∷ ms) q = (p : ListProgress) × IsCallOf may job m p q × AreDeedsOf may job ms p
AreDeedsOf may job (OnFlag x ∷ ms) q =
    IsOfFlagLine job x × ((p : ListProgress) × (q ≡ record p { domain = q.domain }) × AreDeedsOf may job ms p)
AreDeedsOf may job (Look x ∷ ms) q = ⊥

-- the list of the domain at the position i was served
pub record HasList {P : Type 0} (may : P → AllowRelation) (refuses : ℕ → Bool) (m : Monitor P) (i : ℕ) (s : Served P)
    : Type 0 where
  pub monitor : s.job.monitor.now ≡ m
  pub dom : s.job.part.dom ≡ id_at (words_of m).layout.ids i
  pub served : WasServed may refuses s

-- the view is the domain's at the end of its list, or the domain has left since
abbrev pub IsViewOf : Board → Config → AllowRelation → Domain → View → Type 0
IsViewOf b c may d v =
    (v ≡ (seat_of d).view) ⊎ ((l : Departed) × HasLeft b.layout d l × (v ≡ (seat_left l).view))

-- each of a domain's deeds is one of its list, or a release with which it left
pub record AreDeedsOfList {P : Type 0} (may : P → AllowRelation) (s : Served P) (made : List DomainAct) : Type 0 where
  pub leaving : List DomainAct
  pub listed : List DomainAct
  pub all : made ≡ leaving ++ listed
  pub releases : AreReleases leaving
  pub left : ListProgress
  pub lines : AreDeedsOf may s.job listed left
  pub outcomes : left.outcomes ≡ s.outcomes

-- the text of the lists is that of a legal order: one order is legal for the run, has the steps of the history in their
-- order, and has for each domain the deeds of its list, with the answers that its lines print
pub record AreOfALegalOrder {P : Type 0} (may : P → AllowRelation) (m : Monitor P) (h : StepHistory)
    (lists : ℕ → Served P)
    : Type 0 where
  pub order : RunOrder
  pub seats : ℕ → SeatRun
  pub legal : IsLegalOrder (config_of m) (may (rights_of m)) (words_of m).layout h seats order
  pub each : (i : ℕ) → i < length (config_of m).domains.items → AreDeedsOfList may (lists i) (seats i).run_actions

-- if the configuration is within the limits of the core, each domain's list was served, and words and views show a
-- state in which each domain has the view with which its list ended or it left, then the text of the lists is that of a
-- legal order
abbrev pub TextsAreOfALegalOrder : {P : Type 0} → (P → AllowRelation) → Monitor P → Type 0
TextsAreOfALegalOrder {P} may m =
    (refuses : ℕ → Bool) (lists : ℕ → Served P) (s : State (Unit {0}) View) (ends : ℕ → View)
    → IsWithinLimits (config_of m)
    → ((i : ℕ) → i < length (config_of m).domains.items → (l : HasList may refuses m i (lists i))
    × IsViewOf (words_of m) (config_of m) (may (rights_of m)) l.served.left.domain (ends i)
    × (get_elem? s.views i ≡ some (ends i)))
    → (shown : Shows (words_of m).layout s) → AreOfALegalOrder may m shown.history lists

-- the jobs are those of the monitor's domains, in their order
abbrev pub AreOfDomains : {P : Type 0} → Monitor P → List (ThreadJob P) → Type 0
AreOfDomains m jobs =
    All (λ d. d.monitor.now ≡ m) jobs × (map (λ d. d.part.dom) jobs ≡ map (λ d. d.id) (config_of m).domains.items)

-- the lists of a run, in the order of their domains, are those of a legal order
abbrev pub AreOfOneOrder : {P : Type 0} → (P → AllowRelation) → Monitor P → List (Served P) → Type 0
AreOfOneOrder {P} may m all =
    (lists : ℕ → Served P) × ((i : ℕ) (s : Served P) → slice_get all i ≡ Some s → lists i ≡ s)
    × ((h : StepHistory) × AreOfALegalOrder may m h lists)

-- what a run wrote at Ok, by the contract of `run`, is the text of a legal order
abbrev pub RunsWriteALegalOrder : {P : Type 0} → (P → AllowRelation) → Monitor P → Type 0
RunsWriteALegalOrder {P} may m =
    (refuses : ℕ → Bool) (jobs : List (ThreadJob P)) (old new : Option (List ℕ)) → IsWithinLimits (config_of m)
    → AreOfDomains m jobs → (wrote : WritesAll may refuses jobs old new) → AreOfOneOrder may m wrote.0
