-- The mappings of a domain, and the pins of its seat.
use Rattle.std.specs.Prelude.{◌≡◌, ℕ, ◌==◌, ◌&&◌, Bool, true, false, nat_le, List}
use Rattle.gt_live.specs.Prelude.{DomId, Dir, Read, Write, Perms, permits, FrameName, SeatOf, Direct}
use Rattle.gt_live.specs.Prelude.{generation_of, Layout, position_in, held, is_same_dir, View, HandleMap, KeepsSpent}
use Rattle.gt_live.specs.Prelude.{IsInserted, IsTaken, count_passing, Handle, HeldPin, frame_of, IsAllowed}
use Rattle.gt_live.specs.Prelude.{frame_count_of, label_of, map_perms, triples, TypeId, Domain, DomainConfig}
use Rattle.gt_types.specs.declared.Use.TheVariants as uses
use Rattle.gt_live.specs.AccessPaths.{ReachesBy}
pub use Rattle.gt_live.specs.AccessPaths.{HasPin, entry_record_of}

-- a mapping: its pin is held, of an entry that permits the caller and is of one of its owner's frames, and the policy
-- allows what its map asked
pub record IsMappingOf (k : Layout) (domains : List DomainConfig) (may : TypeId → TypeId → Perms → Bool)
    (caller : DomId) (v : View) (p : HeldPin) : Type 0 where
  pub pin : HasPin k v p
  pub permitted : permits p.entry caller p.dir uses.Map 0 0 ≡ true
  pub in_frames : nat_le (frame_count_of domains p.dom) (frame_of p.entry) ≡ false
  pub allowed : IsAllowed may (triples (label_of domains caller) (label_of domains p.dom) (map_perms p.dir))

-- the frame that a mapping is of
abbrev pub frame_mapped : HeldPin → FrameName
frame_mapped p = record { owner = p.dom; number = frame_of p.entry }

-- by its mapping the seat's domain reaches any range of the frame, for writing if the pin is a write pin
pub record ReachesItsFrame (k : Layout) (s : SeatOf) (p : HeldPin) : Type 0 where
  pub reads : (off len : ℕ) → ReachesBy k s Read uses.Map (frame_mapped p) off len (Direct p)
  pub writes : p.dir ≡ Write → (off len : ℕ) → ReachesBy k s Write uses.Map (frame_mapped p) off len (Direct p)

-- the pin of the mapping has this kind and generation, and is of the entry r of the domain t
abbrev pub is_mapping_of : Layout → ℕ → ℕ → Dir → ℕ → HeldPin → Bool
is_mapping_of k t r d g m =
    (position_in k.ids m.dom == t) && ((m.gref.0 == r) && (is_same_dir d m.dir && (g == generation_of m.word)))

-- the pins of the view are exactly those of the mappings: on each entry the same number of each kind and generation
abbrev pub PinsAreOf : Layout → View → HandleMap HeldPin → Type 0
PinsAreOf k v kept = (t r : ℕ) (d : Dir) (g : ℕ) → held t r d g v ≡ count_passing (is_mapping_of k t r d g) kept

-- the mappings under their handles are unchanged, and no serial was given
pub record KeepsMappings (old new : HandleMap HeldPin) : Type 0 where
  pub slots : new.slots ≡ old.slots
  pub given : new.given ≡ old.given

-- this mapping is kept under a new handle, and nothing else changed
pub record AddsMapping (old new : HandleMap HeldPin) (h : Handle) (p : HeldPin) : Type 0 where
  pub serial : h.serial ≡ old.given
  pub inserted : IsInserted old new h p
  pub spent : KeepsSpent old new

-- the mapping under this handle is removed, and nothing else changed
pub record Removes (old new : HandleMap HeldPin) (h : Handle) (p : HeldPin) : Type 0 where
  pub taken : IsTaken old new h p
  pub spent : KeepsSpent old new

-- a handle under which the domain has no mapping: its serial is that of the next mapping
abbrev pub unused_handle : Domain → Handle
unused_handle d = record { serial = d.mappings.given; key = 0 }
