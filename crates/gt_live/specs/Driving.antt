-- What a call requires of its seat at each point, and how it leaves it. The code's own representation. It is in specs/
-- because contracts cite it.
use Rattle.std.specs.Prelude.{◌≡◌, ℕ, ◌+◌, ◌^◌, ◌<◌, List, [], length, Some, None}
use Rattle.gt_live.specs.Prelude.{DomId, DomainConfig, TABLE_ENTRIES, domain_of, Invalid, View, generation_of}
use Rattle.gt_live.specs.Prelude.{CanChange, CanPin, HasDomain, Holds, KeepsPins, SeesNoEarlier, Changes, Unpins}
use Rattle.gt_live.specs.Prelude.{IsKeptHeader, Layout, id_at, position_in, last_seen, record_seen, last_of, Moment}
use Rattle.gt_live.specs.Prelude.{Action, Done, EntryChange, Step, LookHeader, LookControl, LookBody, Pin, Unpin}
use Rattle.gt_live.specs.Prelude.{StoreBody, StoreHeader, Exchange, OpenRequest, Call, HeldPin, Handle, raise_of}
use Rattle.gt_live.specs.Prelude.{GoesOnWith, path, Rests, CallerKnowledge, begun, IsAt, held_by_call, pins_by_call}
use Rattle.gt_live.specs.Prelude.{Effect, Pinned, Unpinned, Changed, Stored}
use Rattle.gt_model.specs.declared.action.Action.TheVariants as actions
use Rattle.gt_words.specs.Answers.{Pins}
use Rattle.gt_model.specs.Asking.{GivesUp}
use Rattle.gt_live.specs.declared.driving.Effect.TheVariants.{Nothing}
use Rattle.gt_live.specs.Walks.{IsWalk, CarriesSteps, view_after, all_shown}
use Rattle.gt_live.specs.Effects.{Answers}
use Rattle.gt_live.specs.Ending.{IsHeaderChange, IsMap, IsOwnChange}
use Rattle.gt_live.specs.Mappings.{HasPin, IsMappingOf, entry_record_of}

-- the seat may make this step of a call
abbrev pub CanMake : Layout → View → Step → Type 0
CanMake k v (LookHeader d) = HasDomain k d
CanMake k v (LookControl d q) = HasDomain k d × (q.0 < TABLE_ENTRIES)
CanMake k v (LookBody d q body_word) = HasDomain k d × (q.0 < TABLE_ENTRIES)
CanMake k v (Pin p) =
    HasDomain k p.dom × (p.gref.0 < TABLE_ENTRIES) × CanPin k (position_in k.ids p.dom) p.gref.0 p.dir p.word v
CanMake k v (Unpin p holder) =
    HasDomain k p.dom × (p.gref.0 < TABLE_ENTRIES)
    × Holds (position_in k.ids p.dom) p.gref.0 p.dir (generation_of p.word) v
CanMake k v (StoreBody q body_word n) = (q.0 < TABLE_ENTRIES) × ((last_of q.0 v).entry ≡ Invalid)
CanMake k v (StoreHeader version frames) = IsKeptHeader (record { version = version; frames = frames })
CanMake k v (Exchange q looked change) = (q.0 < TABLE_ENTRIES) × CanChange change q.0 looked v
CanMake k v step = ⊥

-- the seat has the same pins and records as before
pub record IsSame (v w : View) : Type 0 where
  pub pins : KeepsPins v w
  pub records : (r : ℕ) → last_of r w ≡ last_of r v
  pub seen : SeesNoEarlier v w
  pub position : w.position ≡ v.position
  pub ids : w.ids ≡ v.ids

-- a caller knows its own entries, header and pins
pub record Knows (c : CallerKnowledge) (k : Layout) (caller : DomId) (v : View) : Type 0 where
  pub named : id_at k.ids v.position ≡ caller
  pub inside : v.position < length k.ids
  pub stands : v.position ≡ position_in k.ids caller
  pub run : (d : DomId) (x : DomainConfig) → domain_of c.domains d ≡ Some x → HasDomain k d
  pub header : IsKeptHeader c.header
  pub rows : (r : ℕ) → r < TABLE_ENTRIES → last_of r v ≡ record { generation = c.generation r; entry = c.entry r }
  pub generations : (r : ℕ) → r < TABLE_ENTRIES → c.generation r < 1048576
  pub mapped : (h : Handle) (m : HeldPin) → c.mapping h ≡ Some m → HasPin k v m

-- a map took this pin, after looks only: of the entry and in the direction asked for, as its caller may
pub record MapsBy (c : CallerKnowledge) (k : Layout) (caller : DomId) (request : OpenRequest) (p : HeldPin)
    (v w : View) : Type 0 where
  pub asked : IsMap request
  pub before : View
  pub same : IsSame v before
  pub pins : Pins k (position_in k.ids p.dom) p.gref.0 p.dir p.word before w
  pub entry_is : record_seen (last_seen (position_in k.ids p.dom) p.gref.0 before) ≡ entry_record_of p
  pub mapping : IsMappingOf k c.domains c.may caller w p
  pub serial : c.maps_answered + 1 < 2 ^ 64

-- the owner's change of its entry q was made, after looks only
pub record ChangesBy (c : CallerKnowledge) (k : Layout) (request : OpenRequest) (q : ℕ) (change : EntryChange)
    (v w : View) : Type 0 where
  pub asked : IsOwnChange request
  pub before : View
  pub same : IsSame v before
  pub inside : q < TABLE_ENTRIES
  pub word : ℕ
  pub changes : Changes k q change word before w
  pub fresh : c.generation q + raise_of change < 1048576

-- the pin of the mapping under this handle was released, as asked
pub record UnpinsBy (c : CallerKnowledge) (k : Layout) (request : OpenRequest) (handle : Handle) (v w : View) : Type 0 where
  pub asked : GivesUp request handle
  pub mapping : HeldPin
  pub found : c.mapping handle ≡ Some mapping
  pub before : View
  pub same : IsSame v before
  pub unpins : Unpins k (position_in k.ids mapping.dom) mapping.gref.0 mapping.dir (generation_of mapping.word) before w

-- how a call left the seat, by what it did
abbrev pub Leaves : CallerKnowledge → Layout → DomId → OpenRequest → View → View → Effect → Type 0
Leaves c k caller request v w Nothing = IsSame v w
Leaves c k caller request v w (Pinned p) = MapsBy c k caller request p v w
Leaves c k caller request v w (Unpinned handle) = UnpinsBy c k request handle v w
Leaves c k caller request v w (Changed gref change) = ChangesBy c k request gref.0 change v w
Leaves c k caller request v w Stored = IsSame v w × IsHeaderChange request

-- a call that continues has only looked, and one that ends left the seat by what it did
abbrev pub StandsSo : CallerKnowledge → Layout → DomId → OpenRequest → View → View → Effect → Action → Type 0
StandsSo c k caller request v w effect (actions.Step step) = IsSame v w
StandsSo c k caller request v w effect (Done verdict) = Leaves c k caller request v w effect × Answers effect verdict

-- a result that comes next carries a word of these steps
abbrev pub ActionCarries : Layout → View → List Moment → Action → Type 0
ActionCarries k v steps (actions.Step step) = Unit {0}
ActionCarries k v steps (Done verdict) = CarriesSteps k v steps verdict

-- a call under way: it added the steps of its path to its seat's view, and the action comes next
pub record Going (c : CallerKnowledge) (k : Layout) (effect : Effect) (v w : View) (call : Call)
    (action : Action) : Type 0 where
  pub steps : List Moment
  pub view : w ≡ view_after steps v
  pub walked : IsWalk k (path c call.caller call.request) v steps
  pub at : IsAt c call (all_shown steps)
  pub goes : GoesOnWith c call.caller call.request (all_shown steps) action
  pub rests : Rests c call.caller call.request (pins_by_call call) (all_shown steps) action
  pub held : held_by_call call ≡ []
  pub unanswered : begun c call.caller call.request ≡ None
  pub stands : StandsSo c k call.caller call.request v w effect action
  pub carried : ActionCarries k v steps action
