-- When a core represents a history. Most of this describes the code's own representation: its states, handles, pin
-- counts and phases. It is in specs/ because contracts cite it, most of them private.
use Rattle.std.specs.Prelude.{◌≡◌, ◌≢◌, ◌<◌, ◌≤◌, ◌+◌, reverse, ℕ, Bool, true, List, [], ◌∷◌, Option, Some, None}
use Rattle.std.specs.Prelude.{slice_get, length, All}
use Rattle.gt_core.specs.Prelude.{domain_of, DomId, Dir, TypeId, TABLE_ENTRIES, MAX_TABLE_FRAMES, LAST_VERSION}
use Rattle.gt_core.specs.Prelude.{FRAME_SIZE, PinHolder, Perms, Config, OpenRequest, Header, Handle, FrameName, patches}
use Rattle.gt_core.specs.Prelude.{frame_counts, FrameSet, frame_at, AreKept, HandleMap, value_of, count_of, HeldPin}
use Rattle.gt_core.specs.Prelude.{Event, Element, PinCounts, OpenCall, entry_in, own_generation, frame_count_of}
use Rattle.gt_core.specs.Prelude.{GoesOnWith, action_at, Rests, StandsAt, pins_at, held_in, Phase, most_steps}
use Rattle.gt_core.specs.Prelude.{steps_left, Entry, Control, IsInRange, IsEntry, permits, Store, Poke}
use Rattle.gt_model.specs.declared.action.Action.TheVariants as actions
use Rattle.gt_model.specs.declared.change.BodyWord.TheVariants as body_words
use Rattle.gt_model.specs.declared.request.PinHolder.TheVariants as holders
use Rattle.gt_types.specs.declared.Use.TheVariants as uses
pub use Rattle.gt_model.specs.Asking.{FitsAsked}
pub use Rattle.gt_core.specs.States.{State, CoreState, core_of, state_of, first_state, changed_in, asks_memory}
pub use Rattle.gt_core.specs.States.{IsMapping}
use Rattle.gt_model.specs.History.{History, Setting, Pin, live, entry_at, generation_at, body_at, table_at, reads_at}
use Rattle.gt_model.specs.History.{writes_at, control_at, patches_at, contents_at, known_at, maps_answered_at}
use Rattle.gt_model.specs.History.{mappings_at, mapping_of, legs_at, frame_of, Underway, open_call, values}
use Rattle.gt_model.specs.History.{setting_of}
use Rattle.gt_model.specs.Legal.{MayDo, IsLegalHistory, grown}
use Rattle.gt_model.specs.Justified.{MayUse}
use Rattle.gt_model.specs.FirstRule.{stood}
use Rattle.gt_core.specs.Phases.{PhaseStands, phase_refusal, IsClean, numbered}

-- an open call has the phase that its steps lead to, it holds its live pins, and the first rule that has applied is
-- the one that it ends with
pub record OpenAgrees (s : Setting) (h : History) (id : DomId) (o : OpenCall) (c : Underway) : Type 0 where
  pub caller : o.call.caller ≡ id
  pub asks : o.call.request ≡ c.request
  pub phase : Phase
  pub here : o.call.phase ≡ Some phase
  pub at : StandsAt (known_at s h id) id c.request (values c) phase
  pub acts : action_at id phase ≡ actions.Step o.step
  pub follows : GoesOnWith (known_at s h id) id c.request (values c) (actions.Step o.step)
  pub rests : Rests (known_at s h id) id c.request (pins_at phase) (values c) (actions.Step o.step)
  pub place : PhaseStands s h id c.request (reverse c.steps) phase
  pub fair : stood s h id.0 ≡ phase_refusal phase
  pub fits : FitsAsked c.request
  pub clean : IsClean phase c.steps
  pub held : legs_at h id.0 ≡ numbered 0 (reverse (held_in phase))
  pub few : length c.steps + steps_left phase ≤ most_steps c.request

-- The open call is that of the history, and there is one in both or in neither. If no call is open, no call holds a
-- pin.
abbrev pub CallAgrees : Setting → History → DomId → Option OpenCall → Option Underway → Type 0
CallAgrees s h id None None = legs_at h id.0 ≡ []
CallAgrees s h id (Some o) (Some c) = OpenAgrees s h id o c
CallAgrees s h id None (Some c) = ⊥
CallAgrees s h id (Some o) None = ⊥

-- the bytes to be written are as many as the call asked for, and end inside a frame
abbrev pub FitsGiven : OpenRequest → List ℕ → Type 0
FitsGiven (Store handle off len) given = (length given ≡ len) × (off + len ≤ FRAME_SIZE)
FitsGiven (Poke frame off len) given = (length given ≡ len) × (off + len ≤ FRAME_SIZE)
FitsGiven request given = Unit {0}

-- the bytes are those passed to the open call, if there is one
abbrev pub GivenAgrees : History → ℕ → List ℕ → Type 0
GivenAgrees h d given =
    (c : Underway) → open_call h d ≡ Some c → (given ≡ c.given) × FitsGiven c.request c.given

-- the pins and body words of an entry
pub record SlotAgrees (h : History) (t r : ℕ) (slot : PinCounts) : Type 0 where
  pub reads : slot.reads ≡ reads_at h t r
  pub writes : slot.writes ≡ writes_at h t r
  pub first : slot.first ≡ body_at h t r body_words.First
  pub second : slot.second ≡ body_at h t r body_words.Second

-- no two mappings have the same handle
abbrev pub AreMappingsApart : List (Handle × HeldPin) → Type 0
AreMappingsApart [] = Unit {0}
AreMappingsApart (m ∷ ms) = (mapping_of ms m.0 ≡ None) × AreMappingsApart ms

-- the handles name exactly these mappings, after this number of maps answered Ok
pub record MappingsAgree (kept : HandleMap HeldPin) (ms : List (Handle × HeldPin)) (answered : ℕ) : Type 0 where
  pub named : value_of kept ≡ mapping_of ms
  pub count : count_of kept ≡ length ms
  pub given : kept.given ≡ answered
  pub apart : AreMappingsApart ms

-- a domain has the state that the history leaves
pub record StateStands (s : Setting) (h : History) (d : State) : Type 0 where
  pub header : d.header ≡ table_at s h d.id
  pub rows : length d.own ≡ TABLE_ENTRIES
  pub entries : entry_in d.own ≡ (λ r. entry_at h d.id.0 r)
  pub generations : own_generation s.first_generation d.own ≡ (λ r. generation_at s h d.id.0 r)
  pub room : length d.slots ≡ TABLE_ENTRIES
  pub slots : (r : ℕ) (slot : PinCounts) → slice_get d.slots r ≡ Some slot → SlotAgrees h d.id.0 r slot
  pub mappings : MappingsAgree d.mappings (mappings_at h d.id.0) (maps_answered_at h d.id.0)
  pub call : CallAgrees s h d.id d.underway (open_call h d.id.0)
  pub given : GivenAgrees h d.id.0 d.given

-- a domain of the run has a state that agrees, and there is no state of any other number
abbrev pub StateAgrees : Setting → History → DomId → Option State → Type 0
StateAgrees s h dom None = domain_of s.domains dom ≡ None
StateAgrees s h dom (Some d) = (domain_of s.domains dom ≢ None) × (d.id ≡ dom) × StateStands s h d

-- an entry of domain t lets domain d use a frame of domain t by a mapping of this kind, and so does the policy
abbrev pub LetsUse : Setting → DomId → DomId → Dir → Entry → Type 0
LetsUse s d t dir entry =
    (permits entry d dir uses.Map 0 0 ≡ true) × MayUse s d t dir × (frame_of entry < frame_count_of s.domains t)
    × (domain_of s.domains t ≢ None)

-- a mapping's pin was taken by right, on a frame of its owner; nothing is required of a call's own pin
abbrev pub IsLawfullyHeld : Setting → Pin → PinHolder → Type 0
IsLawfullyHeld s p (holders.Mapping handle) =
    LetsUse s (record { 0 = p.actor }) p.held.dom p.held.dir p.held.entry
IsLawfullyHeld s p (holders.Leg number) = Unit {0}

-- if a mapping holds the pin, an entry permitted it, for a frame of its owner, and the policy allows what it is for
abbrev pub IsLawfulPin : Setting → Pin → Type 0
IsLawfulPin s p = IsLawfullyHeld s p p.holder

-- the header of a table is within the limits of a run; so is the zero header of no table
pub record FitsTable (header : Header) : Type 0 where
  pub version : header.version ≤ LAST_VERSION
  pub frames : header.frames ≤ MAX_TABLE_FRAMES

-- each part of a control has room in its word
pub record FitsWord (c : Control) : Type 0 where
  pub in_range : IsInRange c
  pub domain : c.dom.0 < 65536

-- the domains of the run have the states that the history leaves
pub record DomainsStand (s : Setting) (h : History) (domains : List State) : Type 0 where
  pub each : (dom : DomId) → StateAgrees s h dom (state_of domains dom.0)
  pub tables : (dom : DomId) → FitsTable (table_at s h dom)
  pub words : (t r : ℕ) → r < TABLE_ENTRIES → FitsWord (control_at s h t r)
  pub entries : (t r : ℕ) → IsEntry (entry_at h t r)
  pub lawful : All (IsLawfulPin s) (live h)

-- These are the frames of the run. Each was written as in the history, so it holds what the history left in it and
-- has its size. Each write to it was by right.
pub record FramesStand (s : Setting) (h : History) (fs : FrameSet) : Type 0 where
  pub counts : fs.domains ≡ frame_counts s.domains
  pub writes : (name : FrameName) → patches (frame_at fs name).journal ≡ patches_at h name.owner.0 name.number
  pub kept : AreKept fs
  pub filled : (t f : ℕ) → length (contents_at h t f) ≡ FRAME_SIZE

-- the core represents the history, which is a legal one
pub record CoreStands (s : Setting) (h : History) (core : CoreState) : Type 0 where
  pub legal : IsLegalHistory s h
  pub domains : DomainsStand s h core.domains
  pub frames : FramesStand s h core.frames

-- the core represents a history
abbrev pub StandsForSome : Setting → CoreState → Type 0
StandsForSome s core = (h : History) × CoreStands s h core

-- for each history that the core represented, the event did what it may do after it, and the core represents that
-- history with this element
abbrev pub DoesEvent : Setting → CoreState → Event → Element → CoreState → Type 0
DoesEvent s old event x new = (h : History) → CoreStands s h old → MayDo s h event x × CoreStands s (grown h x) new

-- the same for the domains only
abbrev pub DomainsDo : Setting → List State → Event → Element → List State → Type 0
DomainsDo s old event x new =
    (h : History) → DomainsStand s h old → MayDo s h event x × DomainsStand s (grown h x) new

-- what contracts see of a core: its configuration, its rights, and its state
pub record CoreModel (P : Type 0) : Type 0 where
  pub config : Config
  pub rights : P
  pub state : CoreState

-- the setting of a core's run, if its policy allows this by its rights
abbrev pub setting_in : {P : Type 0} → (P → TypeId → TypeId → Perms → Bool) → CoreModel P → Setting
setting_in may core = setting_of core.config (may core.rights)
