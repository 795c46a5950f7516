-- The access paths by which a domain reaches a frame: the pins that justify an access, by what its seat knows.
use Rattle.std.specs.Prelude.{◌≡◌, ℕ, ◌<◌, Bool, true, List, [], ◌∷◌, ◌++◌}
use Rattle.gt_types.specs.Names.{copy}
use Rattle.gt_types.specs.declared.Use.TheVariants as uses
use Rattle.gt_model.specs.Holding.{owner_by, GivesHeld}
use Rattle.gt_model.specs.Permits.{forwards, is_of_frame}
use Rattle.gt_model.specs.declared.held.AccessPath.TheVariants.{Through}
use Rattle.gt_frames.specs.declared.writ.Writ.{Writ}
use Rattle.gt_frames.specs.declared.writ.WriteBasis.TheVariants.{Forwarded, Granted, Owned}
use Rattle.gt_word_history.specs.declared.view.EntryRecord.{EntryRecord}
use Rattle.gt_live.specs.Prelude.{DomId, Dir, Read, Write, Use, TypeId, Perms, DomainConfig, TABLE_ENTRIES, permits}
use Rattle.gt_live.specs.Prelude.{generation_of, Layout, position_in, SeatOf, HasDomain, IsAmong, live_pins, steps_on}
use Rattle.gt_live.specs.Prelude.{View, HeldPin, CallPins, AccessPath, Own, Direct, IsAllowed, label_of, map_perms}
use Rattle.gt_live.specs.Prelude.{triples, FrameName}

-- pins

-- the owner's record at the time when the pin was taken
abbrev pub entry_record_of : HeldPin → EntryRecord
entry_record_of p = record { generation = generation_of p.word; entry = p.entry }

-- the view has this pin, with the entry that it was taken of
pub record HasPin (k : Layout) (v : View) (p : HeldPin) : Type 0 where
  pub run : HasDomain k p.dom
  pub inside : p.gref.0 < TABLE_ENTRIES
  pub held : IsAmong (p.dir, entry_record_of p) (live_pins (steps_on (position_in k.ids p.dom) p.gref.0 v))

-- a pin that serves this direction: for writing, a write pin
abbrev pub ServesAccess : Dir → HeldPin → Type 0
ServesAccess Read p = Unit {0}
ServesAccess Write p = p.dir ≡ Write

-- the seat has this pin, of an entry of this frame that permitted the domain this direction, use and range (after
-- grant_table.h)
pub record IsPinnedFor (k : Layout) (s : SeatOf) (grantee : DomId) (dir : Dir) (purpose : Use) (name : FrameName)
    (off len : ℕ) (p : HeldPin) : Type 0 where
  pub pin : HasPin k s.view p
  pub serves : ServesAccess dir p
  pub owner_is : p.dom ≡ name.owner
  pub of_frame : is_of_frame p.entry name.number ≡ true
  pub permitted : permits p.entry grantee dir purpose off len ≡ true

-- the seat has this pin, of a transitive entry that forwarded its domain in this direction to the entry of the other
-- pin (after grant_table.h, transitive)
pub record IsPinnedOn (k : Layout) (s : SeatOf) (dir : Dir) (via p : HeldPin) : Type 0 where
  pub pin : HasPin k s.view via
  pub serves : ServesAccess dir via
  pub forwarded : forwards via.entry s.dom dir ≡ true
  pub leads : GivesHeld via.entry p

-- the seat's domain reaches this range of the frame by the access path: the frame is its own; or a pin of the frame's owner
-- permits it; or, for a copy, a pin of a transitive entry forwards it to an entry that permits the middle domain
abbrev pub ReachesBy : Layout → SeatOf → Dir → Use → FrameName → ℕ → ℕ → AccessPath → Type 0
ReachesBy k s dir purpose name off len Own = s.dom ≡ name.owner
ReachesBy k s dir purpose name off len (Direct p) = IsPinnedFor k s s.dom dir purpose name off len p
ReachesBy k s dir purpose name off len (Through via p) =
    (purpose ≡ uses.Copy) × IsPinnedOn k s dir via p × IsPinnedFor k s via.dom dir purpose name off len p

-- rights

-- the access uses no mapping, or the policy allows what the mapping's map asked
abbrev pub MayAccessBy : List DomainConfig → (TypeId → TypeId → Perms → Bool) → DomId → AccessPath → Type 0
MayAccessBy domains may caller Own = Unit {0}
MayAccessBy domains may caller (Direct p) =
    IsAllowed may (triples (label_of domains caller) (label_of domains p.dom) (map_perms p.dir))
MayAccessBy domains may caller (Through via p) = ⊥

-- the domain that an end of a copy names
abbrev pub named_by : DomId → AccessPath → DomId
named_by caller Own = caller
named_by caller (Direct p) = p.dom
named_by caller (Through via p) = via.dom

-- this pair, if the access path goes through a transitive entry
abbrev pub pair_beyond : AccessPath → DomId × DomId → List (DomId × DomId)
pair_beyond Own pair = []
pair_beyond (Direct p) pair = []
pair_beyond (Through via p) pair = pair ∷ []

-- the pairs that a copy asks for: the domains named; for a transitive source, also its frame's owner and the
-- destination named; for a transitive destination, also the owners of both frames
abbrev pub pairs_asked : DomId → CallPins → List (DomId × DomId)
pairs_asked caller p =
    (named_by caller p.source, named_by caller p.dest)
    ∷ pair_beyond p.source (owner_by caller p.source, named_by caller p.dest)
    ++ pair_beyond p.dest (owner_by caller p.source, owner_by caller p.dest)

-- the policy allows copying from the first of each pair to the second (XSM FLASK)
abbrev pub MayCopyEach : List DomainConfig → (TypeId → TypeId → Perms → Bool) → List (DomId × DomId) → Type 0
MayCopyEach domains may [] = Unit {0}
MayCopyEach domains may (pair ∷ pairs) =
    IsAllowed may (triples (label_of domains pair.0) (label_of domains pair.1) (copy ∷ []))
    × MayCopyEach domains may pairs

-- the policy allows the copy by these access paths
abbrev pub MayCopyBy : List DomainConfig → (TypeId → TypeId → Perms → Bool) → DomId → CallPins → Type 0
MayCopyBy domains may caller p = MayCopyEach domains may (pairs_asked caller p)

-- writs

-- the writ of a domain by this access path, made of the entries that the access path's pins were taken of
abbrev pub writ_by : DomId → AccessPath → Writ
writ_by caller Own = record { writer = caller; basis = Owned }
writ_by caller (Direct p) = record { writer = caller; basis = Granted p.entry }
writ_by caller (Through via p) = record { writer = caller; basis = Forwarded via.entry via.dom p.entry }
