-- A run of the monitor: the order of all steps of all seats, and the calls that each domain made.
use Rattle.std.specs.Prelude.{◌≡◌, ℕ, ◌<◌, All, List, [], ◌∷◌, length, Option, Some, None, ◌⊎◌}
use Rattle.gt_linearization.specs.Prelude.{some, get_elem?, State, IsWithinLimits, GrantRef, Config, Board, IsSameSeat, Moment}
use Rattle.gt_linearization.specs.Prelude.{Shows, layout_of, View, HandleMap, Handle, FitsAsked, asked, bytes_of, Continuation}
use Rattle.gt_linearization.specs.Prelude.{path_of, Done, Nothing, Step, CallResult, Granted, Mapped, Refused, HeldPin}
use Rattle.gt_linearization.specs.Prelude.{OpenRequest, Request, AllowRelation, IsDomainOf, knowledge, IsMap, AddsMapping}
use Rattle.gt_linearization.specs.Prelude.{KeepsMappings, Removes, IsNewDomain, Called, Domain, AccessesFrame, Action, Bytes}
use Rattle.gt_linearization.specs.Prelude.{CopiesFrames, DomId, Frame, Layout, Made, Observation, Writ, all_shown}
use Rattle.gt_linearization.specs.Prelude.{bytes_given_by, position_in, shown_by, FlagStep, FlagStepped, IsOfMapping}
use Rattle.gt_linearization.specs.Prelude.{IsUnsettled, LookControl, TABLE_ENTRIES, Word, view_after}
use Rattle.gt_model.specs.declared.action.Action.TheVariants as actions
use Rattle.gt_model.specs.declared.action.Step.TheVariants as call_steps
use Rattle.gt_word_history.specs.declared.view.FrameStep.TheVariants as frame_steps
use Rattle.gt_model.specs.declared.request.OpenRequest.TheVariants as asks
use Rattle.gt_live.specs.Parts.{mappings_of, seat_of}

-- the outcome of a call: the result of its path; a mapping under a handle; a refusal since allocation failed or its
-- access could not be made; Ok with the bytes that it read; or Ok after it wrote or copied
pub data CallOutcome : Type 0 where
  Judged : CallResult → CallOutcome
  MadeMapping : Handle → HeldPin → CallOutcome
  NoMemory : CallOutcome
  Read : Bytes → CallOutcome
  Written : CallOutcome

-- a finished call of a domain: its request, its outcome, its steps (each with its moment, the last one first), and the
-- domain before and after it
pub record CallMade : Type 0 where
  pub request : Request
  pub outcome : CallOutcome
  pub steps : List Moment
  pub old : Domain
  pub new : Domain

-- the mappings after a call with this result of its path: an unmap or a release that is not refused removes one, and no
-- other call changes any
abbrev pub LeavesMappings : OpenRequest → CallResult → HandleMap HeldPin → HandleMap HeldPin → Type 0
LeavesMappings (asks.Unmap handle) (Refused denial) old new = KeepsMappings old new
LeavesMappings (asks.Unmap handle) verdict old new = (p : HeldPin) × Removes old new handle p
LeavesMappings (asks.Release handle) (Refused denial) old new = KeepsMappings old new
LeavesMappings (asks.Release handle) verdict old new = (p : HeldPin) × Removes old new handle p
LeavesMappings request verdict old new = KeepsMappings old new

-- a result that keeps no pin
abbrev pub KeepsNoPin : CallResult → Type 0
KeepsNoPin (Mapped p) = ⊥
KeepsNoPin verdict = Unit {0}

-- the call took its seat's view from d to e by these steps of its path, which ends with this result
abbrev pub TookSteps : Board → Config → AllowRelation → Request → CallResult → List Moment → Domain → Domain → Type 0
TookSteps b c may request verdict steps d e =
    (called : Called b.layout (path_of (knowledge c may d) (seat_of d).dom request) verdict (seat_of d).view
    (seat_of e).view)
    × (called.steps ≡ steps)

-- an access of a call, which was passed these bytes to write, was made as one step of its seat: a write or a copy
abbrev pub MakesAccess : Layout → List ℕ → Step → View → View → Type 0
MakesAccess k given (call_steps.Write dom frame off len) v w =
    (u : Writ)
    × AccessesFrame k (position_in k.ids dom) frame
    (frame_steps.Wrote (record { writ = u; off = off; bytes = given })) v w
MakesAccess k given (call_steps.Copy from to len) v w = (u : Writ) × CopiesFrames k from to len u v w
MakesAccess k given step v w = ⊥

-- a step of a call was made on the words, or as an access, which shows nothing
abbrev pub MakesTurn : Layout → List ℕ → Option Action → Observation → View → View → Type 0
MakesTurn k given (Some (actions.Step step)) seen v w =
    Made k step seen v w ⊎ ((seen ≡ Nothing) × MakesAccess k given step v w)
MakesTurn k given action seen v w = ⊥

-- each of these steps after the view v, the last first, is what comes next on this path after the observations of the
-- steps before it
abbrev pub IsCallWalk : Layout → List ℕ → Continuation → View → List Moment → Type 0
IsCallWalk k given way v [] = Unit {0}
IsCallWalk k given way v (x ∷ xs) =
    MakesTurn k given (way (all_shown xs)) (shown_by x) (view_after xs v) (view_after (x ∷ xs) v)
    × IsCallWalk k given way v xs

-- the call took its seat's view from d to e by these steps of its path, and is Ok after them; one of them is its access
pub record TookTurns (b : Board) (c : Config) (may : AllowRelation) (request : Request) (steps : List Moment)
    (d e : Domain) : Type 0 where
  pub other : IsOfMapping (asked request) → ⊥
  pub last : Moment
  pub before : List Moment
  pub all : steps ≡ last ∷ before
  pub view : (seat_of e).view ≡ view_after steps (seat_of d).view
  pub walked : IsCallWalk b.layout (bytes_given_by request) (path_of (knowledge c may d) (seat_of d).dom request)
      (seat_of d).view
      steps
  pub done : path_of (knowledge c may d) (seat_of d).dom request (all_shown steps) ≡ Some (Done Granted)

-- the call read these bytes by one step, and is Ok after it
pub record TookRead (b : Board) (c : Config) (may : AllowRelation) (request : Request) (bytes : Bytes)
    (steps : List Moment) (d e : Domain) : Type 0 where
  pub dom : DomId
  pub frame : ℕ
  pub off : ℕ
  pub len : ℕ
  pub next : path_of (knowledge c may d) (seat_of d).dom request []
      ≡ Some (actions.Step (call_steps.Read dom frame off len))
  pub done : path_of (knowledge c may d) (seat_of d).dom request (Nothing ∷ []) ≡ Some (Done Granted)
  pub made : AccessesFrame b.layout (position_in b.layout.ids dom) frame (frame_steps.Read off bytes.bytes.items)
      (seat_of d).view (seat_of e).view
  pub step : steps
      ≡ (made.past, Frame (position_in b.layout.ids dom) frame (frame_steps.Read off bytes.bytes.items)) ∷ []
  pub length_is : length bytes.bytes.items ≡ len

-- the call has this outcome: mostly by its path; one whose allocation failed or whose access could not be made made no
-- step
abbrev pub IsAnswered : Board → Config → AllowRelation → Request → CallOutcome → List Moment → Domain → Domain → Type 0
IsAnswered b c may request (Judged verdict) steps d e =
    KeepsNoPin verdict × TookSteps b c may request verdict steps d e
    × LeavesMappings (asked request) verdict (mappings_of d) (mappings_of e)
IsAnswered b c may request (MadeMapping handle p) steps d e =
    IsMap (asked request) × TookSteps b c may request (Mapped p) steps d e
    × AddsMapping (mappings_of d) (mappings_of e) handle p
IsAnswered b c may request NoMemory steps d e =
    (steps ≡ []) × ((seat_of e).view ≡ (seat_of d).view) × KeepsMappings (mappings_of d) (mappings_of e)
IsAnswered b c may request (Read bytes) steps d e =
    TookRead b c may request bytes steps d e × KeepsMappings (mappings_of d) (mappings_of e)
IsAnswered b c may request Written steps d e =
    TookTurns b c may request steps d e × KeepsMappings (mappings_of d) (mappings_of e)

-- each byte is below 256
abbrev pub AreBytesOf : Option (GrantRef × List ℕ) → Type 0
AreBytesOf None = Unit {0}
AreBytesOf (Some b) = All (λ byte. byte < 256) b.1

-- the numbers of the request are in the range of their types: those of an entry, and bytes are below 256
abbrev pub FitsTypes : Request → Type 0
FitsTypes request = FitsAsked (asked request) × AreBytesOf (bytes_of request)

-- the call was made as the contract of its function of Domain promises
pub record IsCall (b : Board) (c : Config) (may : AllowRelation) (m : CallMade) : Type 0 where
  pub before : IsDomainOf b c may m.old
  pub afterwards : IsDomainOf b c may m.new
  pub seat : IsSameSeat (seat_of m.old) (seat_of m.new)
  pub fits : FitsTypes m.request
  pub answered : IsAnswered b c may m.request m.outcome m.steps m.old m.new

-- a finished step of a domain on a flag: what it did to which flag, and the domain before and after it
pub record FlagMade : Type 0 where
  pub flag : ℕ
  pub step : FlagStep
  pub old : Domain
  pub new : Domain

-- a finished look of a domain at one of its entries that belongs to no call (`status`, and the last step of each entry
-- in `close`): the entry, its control word, and the domain before and after the look
pub record LookMade : Type 0 where
  pub gref : GrantRef
  pub word : ℕ
  pub old : Domain
  pub new : Domain

-- the look was made, and nothing else was done
pub record IsLook (k : Layout) (x : LookMade) : Type 0 where
  pub entry : x.gref.0 < TABLE_ENTRIES
  pub found : Made k (LookControl (seat_of x.old).dom x.gref) (Word x.word) (seat_of x.old).view (seat_of x.new).view
  pub kept : IsUnsettled x.old x.new

-- what a domain does: a call, a step on a flag, or a look
pub data DomainAct : Type 0 where
  Call : CallMade → DomainAct
  OnFlag : FlagMade → DomainAct
  Look : LookMade → DomainAct

-- between two deeds the domain changed only its records
pub record IsAtRest (d e : Domain) : Type 0 where
  pub seat : seat_of e ≡ seat_of d
  pub own : e.own.items ≡ d.own.items
  pub mappings : mappings_of e ≡ mappings_of d

-- what a domain did: the domain as it came with the monitor, and its deeds, the last one first
pub record SeatRun : Type 0 where
  pub first : Domain
  pub run_actions : List DomainAct

-- the domain after these deeds
abbrev pub domain_after : Domain → List DomainAct → Domain
domain_after first [] = first
domain_after first (Call m ∷ ms) = m.new
domain_after first (OnFlag x ∷ ms) = x.new
domain_after first (Look x ∷ ms) = x.new

-- these deeds were done one after another, the last one first
abbrev pub AreDeeds : Board → Config → AllowRelation → Domain → List DomainAct → Type 0
AreDeeds b c may first [] = Unit {0}
AreDeeds b c may first (Call m ∷ ms) =
    IsCall b c may m × IsAtRest (domain_after first ms) m.old × AreDeeds b c may first ms
AreDeeds b c may first (OnFlag x ∷ ms) =
    FlagStepped b.layout x.flag x.step x.old x.new × IsAtRest (domain_after first ms) x.old
    × AreDeeds b c may first ms
AreDeeds b c may first (Look x ∷ ms) =
    IsLook b.layout x × IsAtRest (domain_after first ms) x.old × AreDeeds b c may first ms

-- the domain at the position i started as a new domain and did these deeds; its view in this state is the one after
-- them
pub record IsSeatRun (b : Board) (c : Config) (may : AllowRelation) (i : ℕ) (r : SeatRun) (views : List View)
    : Type 0 where
  pub starts : IsNewDomain b c may i r.first
  pub run_actions : AreDeeds b c may r.first r.run_actions
  pub now : get_elem? views i ≡ some (seat_of (domain_after r.first r.run_actions)).view

-- a run of the monitor whose domains are all between two deeds: words and views show a state, and each domain came with
-- the monitor, did its deeds one after another, and has the view that it has in that state
pub record IsMonitorRun (b : Board) (c : Config) (may : AllowRelation) (s : State (Unit {0}) View) (seats : ℕ → SeatRun)
    : Type 0 where
  pub limits : IsWithinLimits c
  pub layout : b.layout ≡ layout_of c
  pub shown : Shows b.layout s
  pub each : (i : ℕ) → i < length c.domains.items → IsSeatRun b c may i (seats i) s.views
