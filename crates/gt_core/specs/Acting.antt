-- What a core does when it begins a call or makes its next step, and when it may fail with Memory.
use Rattle.std.specs.Prelude.{◌≡◌, ◌≢◌, ◌≤◌, ℕ, Bool, true, List, [], Option, Some, None}
use Rattle.gt_core.specs.Prelude.{domain_of, DomId, TypeId, Perms, IsWithinLimits, IsFirstFault, StartFault, Config}
use Rattle.gt_core.specs.Prelude.{Request, OpenRequest, asked, begun_of, SpellsItsEntry, CallResult, Granted, Given}
use Rattle.gt_core.specs.Prelude.{Refused, CallValue, Frames, Observation, Action, Call, Answer, Denied, Handle, Step}
use Rattle.gt_core.specs.Prelude.{bytes_at, FrameSet, frame_at, HandleMap, HeldPin, set, Began, Stepped, Element, Busy}
use Rattle.gt_core.specs.Prelude.{Idle, NoDomain, OpenCall, Begun, Ticked, Machine, CallerKnowledge, knowledge_of}
use Rattle.gt_core.specs.Prelude.{begun, path, GoesOnWith, first_phase, action_at, Rests, IsAt, pins_by_call}
use Rattle.gt_core.specs.Prelude.{most_steps, steps_to_come}
use Rattle.gt_model.specs.declared.action.Action.TheVariants as actions
use Rattle.gt_model.specs.declared.trace.Answer.TheVariants as answers
use Rattle.gt_core.specs.declared.core_state.Begun.TheVariants as beginnings
use Rattle.gt_model.specs.declared.action.Step.TheVariants as call_steps
use Rattle.gt_model.specs.declared.action.CallValue.TheVariants as call_values
use Rattle.gt_model.specs.declared.trace.Element.TheVariants as elements
use Rattle.gt_model.specs.declared.action.CallResult.TheVariants as results
use Rattle.gt_types.specs.declared.config.StartFault.TheVariants as start_faults
use Rattle.gt_core.specs.declared.core_state.Ticked.TheVariants as ticked
use Rattle.gt_calls.specs.declared.asking.Judged.{Judged}
use Rattle.gt_calls.specs.declared.asking.Judged.TheVariants as judgements
use Rattle.gt_model.specs.declared.trace.Bytes.{Bytes}
use Rattle.gt_core.specs.Effects.{with_underway, with_mapping, Adds}
use Rattle.gt_core.specs.Accesses.{IsWriting}
use Rattle.gt_core.specs.States.{State, CoreState, core_of, asks_memory, IsMapping}
use Rattle.gt_model.specs.History.{History, Setting, known_at, Underway, open_call, values, setting_of}

-- the open call at its start: no rule applies at its beginning, and its first step is next
pub record IsOpenCall (k : CallerKnowledge) (dom : DomId) (request : Request) (o : OpenCall) : Type 0 where
  pub unanswered : begun_of k dom request ≡ None
  pub said : SpellsItsEntry k.header request
  pub caller : o.call.caller ≡ dom
  pub asks : o.call.request ≡ asked request
  pub none : begun k dom (asked request) ≡ None
  pub phase : o.call.phase ≡ Some (first_phase k dom (asked request))
  pub at : IsAt k o.call []
  pub acts : action_at dom (first_phase k dom (asked request)) ≡ actions.Step o.step
  pub follows : GoesOnWith k dom (asked request) [] (actions.Step o.step)
  pub rests : Rests k dom (asked request) (pins_by_call o.call) [] (actions.Step o.step)
  pub few : steps_to_come o.call ≤ most_steps (asked request)

-- the start of a call: an answer, or a first step
abbrev pub OpensAs : CallerKnowledge → DomId → Request → Judged OpenCall → Type 0
OpensAs k dom request (judgements.Answered verdict) = begun_of k dom request ≡ Some verdict
OpensAs k dom request (judgements.Open o) = IsOpenCall k dom request o

-- the answer with this value
abbrev pub answer_with : CallValue → Answer
answer_with (Frames frames) = answers.Frames frames
answer_with (call_values.Size size) = answers.Size size
answer_with (call_values.Version version) = answers.Version version

-- the answer of a call with this result, which gives no mapping and no bytes
abbrev pub answer_of : CallResult → Answer
answer_of Granted = answers.Done
answer_of (results.Mapped p) = answers.Done
answer_of (Given value) = answer_with value
answer_of (Refused denial) = Denied denial

-- the element of the trace for a result of `begin`
abbrev pub begun_element : DomId → Request → Begun → Element
begun_element dom request beginnings.Open =
    elements.Item (record { actor = dom; happened = Began request; answer = None })
begun_element dom request (beginnings.Done answer) =
    elements.Item (record { actor = dom; happened = Began request; answer = Some answer })
begun_element dom request beginnings.Busy = Busy
begun_element dom request beginnings.NoDomain = NoDomain

-- the element of the trace for a result of `tick`
abbrev pub ticked_element : DomId → Ticked → Element
ticked_element dom (ticked.Step step seen) =
    elements.Item (record { actor = dom; happened = Stepped step seen; answer = None })
ticked_element dom (ticked.Done step seen answer) =
    elements.Item (record { actor = dom; happened = Stepped step seen; answer = Some answer })
ticked_element dom ticked.Idle = Idle
ticked_element dom ticked.NoDomain = NoDomain

-- the result of a tick for a step: with the call's answer, if there is one
abbrev pub ticked_with : Step → Observation → Option Answer → Ticked
ticked_with step seen None = ticked.Step step seen
ticked_with step seen (Some answer) = ticked.Done step seen answer

-- the setting of a machine's run, if its policy allows this by its rights
abbrev pub setting_by : {P : Type 0} → (P → TypeId → TypeId → Perms → Bool) → Machine P → Setting
setting_by may m = setting_of m.config (may m.rights)

-- the state that a machine keeps
abbrev pub state_by : {P : Type 0} → Machine P → CoreState
state_by m = core_of m.domains.items m.frames

-- what a call of this domain knows in a machine
abbrev pub known_by : {P : Type 0} → (P → TypeId → TypeId → Perms → Bool)
    → Machine P → State → CallerKnowledge
known_by may m d = knowledge_of m.config.domains.items m.config.first_gen (may m.rights) d.own d.header d.mappings

-- a call that is Ok ends after this last step: its answer, and the states; a read returns what the frame holds
abbrev pub Closed : FrameSet → List State → ℕ → State → Step → Answer → List State → Type 0
Closed fs xs at d (call_steps.Read dom frame off len) answer new =
    (b : Bytes) × (answer ≡ answers.Bytes b) × (new ≡ set xs at (with_underway None d))
    × (b.bytes.items ≡ bytes_at (frame_at fs (record { owner = dom; number = frame })) off len)
Closed fs xs at d step answer new = (answer ≡ answers.Done) × (new ≡ set xs at (with_underway None d))

-- a call ends with this result: its answer, and the states
abbrev pub Ended : FrameSet → List State → ℕ → State → Step → CallResult → Answer → List State → Type 0
Ended fs xs at d step Granted answer new = Closed fs xs at d step answer new
Ended fs xs at d step (results.Mapped held) answer new =
    (handle : Handle) × (kept : HandleMap HeldPin) × (answer ≡ answers.Mapped handle) × Adds d.mappings kept handle held
    × (new ≡ set xs at (with_mapping kept d))
Ended fs xs at d step (Given value) answer new =
    (answer ≡ answer_with value) × (new ≡ set xs at (with_underway None d))
Ended fs xs at d step (Refused denial) answer new =
    (answer ≡ Denied denial) × (new ≡ set xs at (with_underway None d))

-- a call continues to its next step, or ends with an answer
abbrev pub Settled : FrameSet → List State → ℕ → State → Step → Call → Action
    → Option Answer → List State → Type 0
Settled fs xs at d step call (actions.Step next) answer new =
    (answer ≡ None) × (new ≡ set xs at (with_underway (Some (record { call = call; step = next })) d))
Settled fs xs at d step call (actions.Done verdict) answer new =
    (a : Answer) × (answer ≡ Some a) × Ended fs xs at d step verdict a new

-- only a map ends with a mapping, and it made room for that when it began
abbrev pub IsRoomFor : OpenRequest → Action → Type 0
IsRoomFor request (actions.Done (results.Mapped held)) = IsMapping (Some request)
IsRoomFor request action = Unit {0}

-- the reason why a run can't start: the first fault of its configuration, or Memory if it has none
abbrev pub IsStartFaultOf : Config → StartFault → Type 0
IsStartFaultOf config (start_faults.Config fault) = IsFirstFault config fault
IsStartFaultOf config start_faults.Memory = IsWithinLimits config

-- begin may fail with Memory: a domain of the run, with no open call, begins a map, a load, a store, a peek or a poke
-- to which no rule applies
abbrev pub WantsMemory : Setting → History → DomId → Request → Type 0
WantsMemory s h d request =
    (asks_memory (asked request) ≡ true) × (domain_of s.domains d ≢ None) × (open_call h d.0 ≡ None)
    × (begun_of (known_at s h d) d request ≡ None)

-- the action is an access that writes: of a store, a poke or a copy
abbrev pub IsWritingNext : Option Action → Type 0
IsWritingNext (Some (actions.Step step)) = IsWriting step
IsWritingNext action = ⊥

-- tick may fail with Memory: the domain's open call is about to write bytes, and their frame keeps a record of them
abbrev pub WantsMemoryNow : Setting → History → DomId → Type 0
WantsMemoryNow s h d =
    (c : Underway) × (open_call h d.0 ≡ Some c) × IsWritingNext (path (known_at s h d) d c.request (values c))
