-- The order of a run: the steps of its history in their order, with the beginnings of its calls between them.
use Rattle.std.specs.Prelude.{◌≡◌, ◌≢◌, ◌⊎◌, ℕ, ◌<◌, ◌==◌, if◌then◌else◌, List, [], ◌∷◌, ◌++◌, map, Option, Some, None}
use Rattle.gt_linearization.specs.Prelude.{DomId, Config, StepHistory, Layout, Moment, Continuation, path_of, Action, GrantRef}
use Rattle.gt_linearization.specs.Prelude.{LookControl, Observation, Setting, Word, seen_by, Step, LookHeader, Request}
use Rattle.gt_linearization.specs.Prelude.{CanBeReached, History, Legal, answer_of, setting_of, Answer, Element, Event, Begin}
use Rattle.gt_linearization.specs.Prelude.{Tick, ItemEvent, Began, Stepped, Item, AllowRelation, knowledge, all_shown, shown_by}
use Rattle.gt_linearization.specs.Prelude.{Flag, FlagStep, Passed, Raised, domain_of, seen_in_step}
use Rattle.gt_model.specs.declared.action.Action.TheVariants as actions
use Rattle.gt_model.specs.declared.trace.Answer.TheVariants as answers
use Rattle.gt_model.specs.declared.trace.Element.TheVariants as elements
use Rattle.gt_linearization.specs.Agreeing.{IsThe, WritesAgree, dom_at}
use Rattle.gt_linearization.specs.Runs.{CallMade, CallOutcome, DomainAct, SeatRun}
use Rattle.gt_linearization.specs.Runs.DomainAct.{Call, Look, OnFlag}
use Rattle.gt_linearization.specs.Runs.CallOutcome.{Judged, MadeMapping, NoMemory, Read, Written}
use Rattle.gt_live.specs.Parts.{seat_of}

-- the step is the newest one of the history, by its seat's domain, and it saw what that step shows
abbrev pub IsNewest : Layout → DomId → Step → Observation → (StepHistory → Type 0) → StepHistory → Type 0
IsNewest k d step seen rest [] = ⊥
IsNewest k d step seen rest (p ∷ h) =
    (d ≡ dom_at k p.0) × IsThe k p.0 step p.1 × (seen ≡ seen_in_step p.1) × rest h

-- the step on the flag is the newest one of the history, by its seat's domain
abbrev pub IsNewestOnFlag : Layout → DomId → ℕ → FlagStep → (StepHistory → Type 0) → StepHistory → Type 0
IsNewestOnFlag k d flag m rest [] = ⊥
IsNewestOnFlag k d flag m rest (p ∷ h) = (d ≡ dom_at k p.0) × (p.1 ≡ Flag flag m) × rest h

-- what happens in a run: an item of the core, a step of a domain on a flag, or a look of a domain at one of its entries
-- that belongs to no call, with the control word that it found
pub data Occurrence : Type 0 where
  OfCore : Item → Occurrence
  OfFlag : DomId → ℕ → FlagStep → Occurrence
  OfLook : DomId → GrantRef → ℕ → Occurrence

-- what happens in a run, in its order, the last first
abbrev pub RunOrder : Type 0
RunOrder = List Occurrence

-- the items in an order
abbrev pub items_in : RunOrder → History
items_in [] = []
items_in (OfCore i ∷ o) = i ∷ items_in o
items_in (OfFlag d flag m ∷ o) = items_in o
items_in (OfLook d gref word ∷ o) = items_in o

-- the steps in an order are those of the history, one by one in the same order, each by its seat's domain, and each
-- step of the core saw what the history's step shows
abbrev pub ThenSteps : Layout → DomId → ItemEvent → (StepHistory → Type 0) → StepHistory → Type 0
ThenSteps k d (Began request) rest h = rest h
ThenSteps k d (Stepped step seen) rest h = IsNewest k d step seen rest h

abbrev pub AreStepsOf : Layout → RunOrder → StepHistory → Type 0
AreStepsOf k [] h = h ≡ []
AreStepsOf k (OfCore i ∷ o) h = ThenSteps k i.actor i.happened (AreStepsOf k o) h
AreStepsOf k (OfFlag d flag m ∷ o) h = IsNewestOnFlag k d flag m (AreStepsOf k o) h
AreStepsOf k (OfLook d gref word ∷ o) h = IsNewest k d (LookControl d gref) (Word word) (AreStepsOf k o) h

-- a domain raised this flag in the order
abbrev pub IsRaisedIn : ℕ → RunOrder → Type 0
IsRaisedIn flag [] = ⊥
IsRaisedIn flag (OfCore i ∷ o) = IsRaisedIn flag o
IsRaisedIn flag (OfFlag d f Raised ∷ o) = (f ≡ flag) ⊎ IsRaisedIn flag o
IsRaisedIn flag (OfFlag d f Passed ∷ o) = IsRaisedIn flag o
IsRaisedIn flag (OfLook d gref word ∷ o) = IsRaisedIn flag o

-- a flag that is passed after this order was raised in it
abbrev pub WasRaised : ℕ → FlagStep → RunOrder → Type 0
WasRaised flag Raised o = Unit {0}
WasRaised flag Passed o = IsRaisedIn flag o

-- each step on a flag is by a domain of the run, and each flag that a domain passes was raised before
abbrev pub AreOnRaisedFlags : Config → RunOrder → Type 0
AreOnRaisedFlags c [] = Unit {0}
AreOnRaisedFlags c (OfCore i ∷ o) = AreOnRaisedFlags c o
AreOnRaisedFlags c (OfFlag d flag m ∷ o) =
    (domain_of c.domains.items d ≢ None) × WasRaised flag m o × AreOnRaisedFlags c o
AreOnRaisedFlags c (OfLook d gref word ∷ o) = AreOnRaisedFlags c o

-- each look found the control word that the items before it make
abbrev pub AreTrueLooks : Setting → RunOrder → Type 0
AreTrueLooks s [] = Unit {0}
AreTrueLooks s (OfCore i ∷ o) = AreTrueLooks s o
AreTrueLooks s (OfFlag d flag m ∷ o) = AreTrueLooks s o
AreTrueLooks s (OfLook d gref word ∷ o) =
    (seen_by s (items_in o) d (LookControl d gref) ≡ Word word) × AreTrueLooks s o

-- the step that comes next; on the path of a call there is one if the call made one
abbrev pub step_in : Option Action → Step
step_in (Some (actions.Step step)) = step
step_in action = LookHeader (record { 0 = 0 })

-- the item of a step of a call by the domain d, after steps with these observations, with the answer if it ends the
-- call
abbrev pub item_of : DomId → Continuation → List Observation → Moment → Option Answer → Item
item_of d way before x answer =
    record { actor = d; happened = Stepped (step_in (way before)) (shown_by x); answer = answer }

-- the items of these steps of a call, the last step first, and the last step has the answer
abbrev pub items_of_steps : DomId → Continuation → Option Answer → List Moment → List Item
items_of_steps d way answer [] = []
items_of_steps d way answer (x ∷ xs) = item_of d way (all_shown xs) x answer ∷ items_of_steps d way None xs

-- the item of the beginning of a call
abbrev pub item_of_beginning : DomId → Request → Option Answer → Item
item_of_beginning d request answer = record { actor = d; happened = Began request; answer = answer }

-- the items of a call with these steps: a call without a step ends at its beginning, and otherwise its last step has
-- the answer
abbrev pub items_of_call : DomId → Continuation → Request → Option Answer → List Moment → List Item
items_of_call d way request answer [] = item_of_beginning d request answer ∷ []
items_of_call d way request answer (x ∷ xs) =
    items_of_steps d way answer (x ∷ xs) ++ item_of_beginning d request None ∷ []

-- the core's answer to a call with this outcome
abbrev pub answer_to : CallOutcome → Option Answer
answer_to (Judged verdict) = Some (answer_of verdict)
answer_to (MadeMapping handle p) = Some (answers.Mapped handle)
answer_to NoMemory = None
answer_to (Read bytes) = Some (answers.Bytes bytes)
answer_to Written = Some answers.Done

-- the items of a call with this outcome: none if allocation failed or its access could not be made, and otherwise those
-- of its steps
abbrev pub items_by_outcome : DomId → Continuation → Request → CallOutcome → List Moment → List Item
items_by_outcome d way request NoMemory steps = []
items_by_outcome d way request outcome steps = items_of_call d way request (answer_to outcome) steps

-- the path of a call
abbrev pub way_of : Config → AllowRelation → CallMade → Continuation
way_of c may m = path_of (knowledge c may m.old) (seat_of m.old).dom m.request

-- these items, with nothing else between them
abbrev pub of_core : List Item → RunOrder
of_core items = map (λ i. OfCore i) items

-- what the deeds of the domain d are in an order, the last one first: the items of its calls, its steps on flags, and
-- its looks
abbrev pub order_of_actions : Config → AllowRelation → DomId → List DomainAct → RunOrder
order_of_actions c may d [] = []
order_of_actions c may d (Call m ∷ ms) =
    of_core (items_by_outcome d (way_of c may m) m.request m.outcome m.steps) ++ order_of_actions c may d ms
order_of_actions c may d (OnFlag x ∷ ms) = OfFlag d x.flag x.step ∷ order_of_actions c may d ms
order_of_actions c may d (Look x ∷ ms) = OfLook d x.gref x.word ∷ order_of_actions c may d ms

-- the domain of what happens
abbrev pub actor_in : Occurrence → DomId
actor_in (OfCore i) = i.actor
actor_in (OfFlag d flag m) = d
actor_in (OfLook d gref word) = d

-- what one domain does in an order
abbrev pub own_in : DomId → RunOrder → RunOrder
own_in d [] = []
own_in d (x ∷ o) = if (actor_in x).0 == d.0 then x ∷ own_in d o else own_in d o

-- the event of an item
abbrev pub event_in : DomId → ItemEvent → Event
event_in d (Began request) = Begin d request
event_in d (Stepped step seen) = Tick d

-- the events of items, in order, and the trace that the items are
abbrev pub events_of : History → List Event
events_of [] = []
events_of (i ∷ g) = events_of g ++ event_in i.actor i.happened ∷ []

abbrev pub trace_of : History → List Element
trace_of [] = []
trace_of (i ∷ g) = trace_of g ++ elements.Item i ∷ []

-- a legal order of the run's deeds: a core represents its items, their trace is legal for their events, its steps are
-- those of the history in their order and wrote the same bytes, each flag is raised before it is passed, each look
-- found the word that was there, and what each domain does are its deeds
pub record IsLegalOrder (c : Config) (may : AllowRelation) (k : Layout) (h : StepHistory) (seats : ℕ → SeatRun)
    (o : RunOrder) : Type 0 where
  pub reached : CanBeReached (setting_of c may) (items_in o)
  pub legal : Legal (setting_of c may) (events_of (items_in o)) (trace_of (items_in o))
  pub steps : AreStepsOf k o h
  pub writes : WritesAgree k (items_in o) h
  pub flags : AreOnRaisedFlags c o
  pub looks : AreTrueLooks (setting_of c may) o
  pub run_actions : (i : ℕ) → i < k.domains → own_in (dom_at k i) o ≡ order_of_actions c may (dom_at k i) (seats i).run_actions
