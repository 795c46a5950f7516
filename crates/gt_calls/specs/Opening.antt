-- What holds for a call that no rule answers at its beginning.
use Rattle.std.specs.Prelude.{◌≡◌, ◌≢◌, ◌⊎◌, ◌+◌, ◌<◌, ◌≤◌, ℕ, Bool, true, false, List, [], ◌∷◌, Some, zero, suc}
use Rattle.std.specs.Prelude.{Option, None}
use Rattle.gt_calls.specs.Prelude.{arith, FRAME_SIZE, LAST_GENERATION, MAX_MAPPINGS, MAX_TABLE_FRAMES, DomId, GrantRef}
use Rattle.gt_calls.specs.Prelude.{TypeId, Write, Perms, Triple, resolved, Entry, EntryChange, Handle, OpenRequest}
use Rattle.gt_calls.specs.Prelude.{Grant, Revoke, Demote, Promote, Map, Unmap, Release, Load, SetVersion, SetupTable}
use Rattle.gt_calls.specs.Prelude.{QuerySize, GetVersion, Store, Peek, Poke, Copy, Probe, Withdraw, HeldPin, CopyArgs}
use Rattle.gt_calls.specs.Prelude.{End, Rule, CallResult, SERIAL_LIMIT}
use Rattle.gt_model.specs.declared.change.EntryChange.TheVariants as changes
use Rattle.gt_model.specs.Rules.{CallerKnowledge, IsOfRun, is_already, cannot_stand, frame_count_of, is_invalid}
use Rattle.gt_model.specs.Rules.{size_of, map_dir, rights_to_map, rights_to_unmap, rights_to_copy, rights_to_setup}
use Rattle.gt_model.specs.Rules.{rights_to_query, begun, first, refused_when, copy_begun, granted_when, has_own_ends}
use Rattle.gt_model.specs.Rules.{denied, has_valid, ends_named, ends_ranged, ends_owned, ends_framed, is_foreign}
use Rattle.gt_model.specs.Rules.{is_past_frames, IsAllowed}
use Rattle.gt_types.specs.Copies.{is_source_granted, is_dest_granted}

-- the caller's table has the reference
abbrev pub IsInTable : CallerKnowledge → GrantRef → Type 0
IsInTable k gref = gref.0 < size_of k.header

-- a grant: the reference has no entry and is not worn, and the table may have the entry given
pub record OpensGrant (k : CallerKnowledge) (gref : GrantRef) (entry : Entry) : Type 0 where
  pub in_table : IsInTable k gref
  pub free : is_invalid (k.entry gref.0) ≡ true
  pub valid : is_invalid entry ≡ false
  pub may_stand : cannot_stand entry k.header.version ≡ false
  pub not_worn : k.generation gref.0 ≢ LAST_GENERATION

-- a revocation or withdrawal: the reference has an entry
pub record OpensRevoke (k : CallerKnowledge) (gref : GrantRef) : Type 0 where
  pub in_table : IsInTable k gref
  pub valid : is_invalid (k.entry gref.0) ≡ false

-- a demotion or promotion: the reference has an entry, which the change would change, and is not worn
pub record OpensTurn (k : CallerKnowledge) (change : EntryChange) (gref : GrantRef) : Type 0 where
  pub in_table : IsInTable k gref
  pub valid : is_invalid (k.entry gref.0) ≡ false
  pub not_already : is_already change (k.entry gref.0) ≡ false
  pub not_worn : k.generation gref.0 ≢ LAST_GENERATION

-- a map: the domain is of the run, the flags are known, the policy allows it, and there is room
pub record OpensMap (k : CallerKnowledge) (caller dom : DomId) (flags : ℕ) : Type 0 where
  pub of_run : IsOfRun k (resolved caller dom)
  pub flags_known : (flags ≡ 2) ⊎ (flags ≡ 6)
  pub allowed : IsAllowed k.may (rights_to_map k caller (resolved caller dom) (map_dir flags))
  pub room : k.in_use < MAX_MAPPINGS
  pub serials_left : k.maps_answered < SERIAL_LIMIT

-- an unmap: the handle has this mapping, and the policy allows to unmap it
pub record OpensUnmap (k : CallerKnowledge) (caller : DomId) (handle : Handle) : Type 0 where
  pub mapping : HeldPin
  pub found : k.mapping handle ≡ Some mapping
  pub allowed : IsAllowed k.may (rights_to_unmap k caller mapping.dom)

-- the release of a mapping by a domain that leaves: the handle has this mapping
pub record OpensRelease (k : CallerKnowledge) (handle : Handle) : Type 0 where
  pub mapping : HeldPin
  pub found : k.mapping handle ≡ Some mapping

-- a load: the range is inside a frame, and the handle has this mapping
pub record OpensLoad (k : CallerKnowledge) (handle : Handle) (off len : ℕ) : Type 0 where
  pub mapping : HeldPin
  pub found : k.mapping handle ≡ Some mapping
  pub range : off + len ≤ FRAME_SIZE

-- a store: the same, and the mapping allows writing
pub record OpensStore (k : CallerKnowledge) (handle : Handle) (off len : ℕ) : Type 0 where
  pub mapping : HeldPin
  pub found : k.mapping handle ≡ Some mapping
  pub writable : mapping.dir ≡ Write
  pub range : off + len ≤ FRAME_SIZE

-- a peek or poke: the range is inside a frame of the caller's own
pub record OpensOwn (k : CallerKnowledge) (caller : DomId) (frame off len : ℕ) : Type 0 where
  pub range : off + len ≤ FRAME_SIZE
  pub framed : frame < frame_count_of k.domains caller

-- an end of a copy that a frame number names: the domain is the caller, and has that frame
pub record IsOwnEnd (k : CallerKnowledge) (caller : DomId) (end : End) : Type 0 where
  pub owned : (resolved caller end.domid).0 ≡ caller.0
  pub framed : end.ptr < frame_count_of k.domains caller

-- a copy: its domains are of the run, its flags are known, its ranges are inside frames, its frame numbers are of the
-- caller's frames, and the policy allows it for the domains named
pub record OpensCopy (k : CallerKnowledge) (caller : DomId) (c : CopyArgs) : Type 0 where
  pub source_of_run : IsOfRun k (resolved caller c.source.domid)
  pub dest_of_run : IsOfRun k (resolved caller c.dest.domid)
  pub flags_known : c.flags ≤ 3
  pub source_range : c.source.offset + c.len ≤ FRAME_SIZE
  pub dest_range : c.dest.offset + c.len ≤ FRAME_SIZE
  pub own_source : is_source_granted c ≡ false → IsOwnEnd k caller c.source
  pub own_dest : is_dest_granted c ≡ false → IsOwnEnd k caller c.dest
  pub allowed : IsAllowed k.may (rights_to_copy k (resolved caller c.source.domid) (resolved caller c.dest.domid))

-- a probe: its copy may be made, and a reference names one of its ends
pub record OpensProbe (k : CallerKnowledge) (caller : DomId) (c : CopyArgs) : Type 0 where
  pub copy : OpensCopy k caller c
  pub pinned : has_own_ends c ≡ false

-- a new version: it is 1 or 2 and not the table's, and all entries of the table are invalid
pub record OpensVersion (k : CallerKnowledge) (version : ℕ) : Type 0 where
  pub version_known : (version ≡ 1) ⊎ (version ≡ 2)
  pub another : version ≢ k.header.version
  pub empty : (r : ℕ) → r < size_of k.header → is_invalid (k.entry r) ≡ true

-- a larger table: the policy allows it, and it has more frames than now and at most MAX_TABLE_FRAMES
pub record OpensSetup (k : CallerKnowledge) (caller : DomId) (frames : ℕ) : Type 0 where
  pub allowed : IsAllowed k.may (rights_to_setup k caller)
  pub larger : k.header.frames < frames
  pub within : frames ≤ MAX_TABLE_FRAMES

-- a query of a table: its domain is of the run, and the policy allows it
pub record OpensQuery (k : CallerKnowledge) (caller dom : DomId) : Type 0 where
  pub of_run : IsOfRun k (resolved caller dom)
  pub allowed : IsAllowed k.may (rights_to_query k caller (resolved caller dom))

-- what holds for each call that no rule answers at its beginning
abbrev pub Opens : CallerKnowledge → DomId → OpenRequest → Type 0
Opens k caller (Grant gref entry) = OpensGrant k gref entry
Opens k caller (Revoke gref) = OpensRevoke k gref
Opens k caller (Withdraw gref) = OpensRevoke k gref
Opens k caller (Demote gref) = OpensTurn k changes.Demote gref
Opens k caller (Promote gref) = OpensTurn k changes.Promote gref
Opens k caller (Map dom gref flags) = OpensMap k caller dom flags
Opens k caller (Unmap handle) = OpensUnmap k caller handle
Opens k caller (Release handle) = OpensRelease k handle
Opens k caller (Load handle off len) = OpensLoad k handle off len
Opens k caller (Store handle off len) = OpensStore k handle off len
Opens k caller (Peek frame off len) = OpensOwn k caller frame off len
Opens k caller (Poke frame off len) = OpensOwn k caller frame off len
Opens k caller (Copy c) = OpensCopy k caller c
Opens k caller (Probe c) = OpensProbe k caller c
Opens k caller (SetVersion version) = OpensVersion k version
Opens k caller (SetupTable frames) = OpensSetup k caller frames
Opens k caller (QuerySize dom) = OpensQuery k caller dom
Opens k caller (GetVersion dom) = OpensQuery k caller dom

-- the first rule of a list does not apply
pub holds-first : (b : Bool) (rule : Rule) (rest : List (Option CallResult)) → first (refused_when b rule ∷ rest) ≡ None
    → b ≡ false
holds-first b rule rest h = grind arith

-- the policy allows everything in the list
pub allowed : (may : TypeId → TypeId → Perms → Bool) (ts : List Triple) → denied may ts ≡ None → IsAllowed may ts
allowed may [] h = tt
allowed may (t ∷ ts) h = grind (arith, allowed may ts)

-- a table without a valid entry
none-valid : (entry : ℕ → Entry) (n r : ℕ) → has_valid entry n ≡ false → r < n → is_invalid (entry r) ≡ true
unfolding has_valid
none-valid entry zero r h lt = absurd (omega arith)
none-valid entry (suc n) r h lt = grind (arith, none-valid entry n r)

-- a frame number that is given is of the caller's frames
own-end : (k : CallerKnowledge) (caller : DomId) (granted : Bool) (end : End) → is_foreign caller granted end ≡ false
    → is_past_frames k caller granted end ≡ false → granted ≡ false → IsOwnEnd k caller end
own-end k caller granted end foreign past g = grind arith

-- none of the five parts of a copy's rules gives an answer
none-of : (a b c d e : Option CallResult) → first (a ∷ b ∷ c ∷ d ∷ e ∷ []) ≡ None
    → (a ≡ None) × (b ≡ None) × (c ≡ None) × (d ≡ None) × (e ≡ None)
none-of a b c d e h = grind arith

opens-copy : (k : CallerKnowledge) (caller : DomId) (c : CopyArgs)
    → (ends_named k caller c ≡ None) × (ends_ranged c ≡ None) × (ends_owned caller c ≡ None)
    × (denied k.may (rights_to_copy k (resolved caller c.source.domid) (resolved caller c.dest.domid)) ≡ None)
    × (ends_framed k caller c ≡ None) → OpensCopy k caller c
opens-copy k caller c h =
    record {
      source_of_run = grind arith;
      dest_of_run = grind arith;
      flags_known = grind arith;
      source_range = grind arith;
      dest_range = grind arith;
      own_source = grind (arith, own-end);
      own_dest = grind (arith, own-end);
      allowed = grind (arith, allowed);
    }

pub opens-so : (k : CallerKnowledge) (caller : DomId) (c : CopyArgs) → copy_begun k caller c ≡ None → OpensCopy k caller c
opens-so k caller c h = opens-copy k caller c (none-of _ _ _ _ _ h)

-- neither the rules of a probe's copy nor the test of its ends gives an answer
neither : (a : Option CallResult) (b : Bool) → first (a ∷ granted_when b ∷ []) ≡ None → (a ≡ None) × (b ≡ false)
neither a b h = grind arith

opens-probe : (k : CallerKnowledge) (caller : DomId) (c : CopyArgs) → (copy_begun k caller c ≡ None) × (has_own_ends c ≡ false)
    → OpensProbe k caller c
opens-probe k caller c h = record { copy = opens-so k caller c h.0; pinned = h.1 }

-- what holds for a call that no rule answers at its beginning
pub opens : (k : CallerKnowledge) (caller : DomId) (request : OpenRequest) → begun k caller request ≡ None
    → Opens k caller request
opens k caller (Copy c) h = opens-so k caller c h
opens k caller (Probe c) h = opens-probe k caller c (neither _ _ h)
opens k caller request h = grind (arith, allowed, none-valid)
