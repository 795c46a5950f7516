-- When a domain may reach bytes: what an access, and a change of an entry, requires.
use Rattle.std.specs.Prelude.{◌≡◌, ◌≤◌, ◌⊎◌, ℕ, Bool, true, false, [], Option, Some, None, Any, ◌+◌, ◌<◌}
use Rattle.gt_model.specs.Asking.{GivesUp}
use Rattle.gt_model.specs.Entries.{frame_of}
use Rattle.gt_model.specs.History.{History, Setting, entry_at, body_at, reads_at, writes_at, live, Pin, known_at}
use Rattle.gt_model.specs.History.{mappings_at, mapping_of}
use Rattle.gt_model.specs.Holding.{GivesHeld}
use Rattle.gt_model.specs.Permits.{permits, forwards}
use Rattle.gt_model.specs.Rules.{IsAllowed, rights_to_map, rights_to_copy, frame_count_of}
use Rattle.gt_model.specs.Spelling.{IsSpelled}
use Rattle.gt_types.specs.Copies.{is_source_granted, is_dest_granted}
use Rattle.gt_types.specs.Names.{resolved}
use Rattle.gt_model.specs.declared.action.Observation.TheVariants.{Taken}
use Rattle.gt_model.specs.declared.action.Step.{Step}
use Rattle.gt_model.specs.declared.action.Step.TheVariants.{StoreBody, Unpin, Exchange}
use Rattle.gt_model.specs.declared.action.Step.TheVariants as call_steps
use Rattle.gt_model.specs.declared.change.BodyWord.TheVariants as body_words
use Rattle.gt_model.specs.declared.change.EntryChange.{EntryChange}
use Rattle.gt_model.specs.declared.change.EntryChange.TheVariants.{Publish}
use Rattle.gt_model.specs.declared.change.EntryChange.TheVariants as changes
use Rattle.gt_model.specs.declared.entry.Entry.TheVariants.{Invalid}
use Rattle.gt_model.specs.declared.held.HeldPin.{HeldPin}
use Rattle.gt_model.specs.declared.request.OpenRequest.{OpenRequest}
use Rattle.gt_model.specs.declared.request.OpenRequest.TheVariants.{Load, Store, Copy}
use Rattle.gt_model.specs.declared.request.PinHolder.TheVariants as holders
use Rattle.gt_model.specs.declared.trace.Item.{Item}
use Rattle.gt_model.specs.declared.trace.ItemEvent.{ItemEvent}
use Rattle.gt_model.specs.declared.trace.ItemEvent.TheVariants.{Stepped}
use Rattle.gt_types.specs.declared.Dir.{Dir}
use Rattle.gt_types.specs.declared.Dir.TheVariants.{Read, Write}
use Rattle.gt_types.specs.declared.DomId.{DomId}
use Rattle.gt_types.specs.declared.Use.{Use}
use Rattle.gt_types.specs.declared.Use.TheVariants as uses
use Rattle.gt_types.specs.declared.limits.TheConstants.{FRAME_SIZE}
use Rattle.gt_types.specs.declared.places.Spot.{Spot}

-- The live pin lets domain d reach this range of a frame. It was taken from an entry that granted the frame and
-- permitted the domain `judged` this direction, purpose and range. For writing it is a write pin.
pub record Reaches (d judged : DomId) (dir : Dir) (purpose : Use) (at : Spot) (len : ℕ) (p : Pin) : Type 0 where
  pub of_actor : p.actor ≡ d.0
  pub of_owner : p.held.dom.0 ≡ at.frame.owner.0
  pub of_frame : frame_of p.held.entry ≡ at.frame.number
  pub permitted : permits p.held.entry judged dir purpose at.off len ≡ true
  pub writes : (dir ≡ Write) → p.held.dir ≡ Write

-- The live pin is on a Via of the domain named, which forwarded domain d in this direction and leads to the entry of
-- the other pin. For writing it is a write pin.
pub record Forwards (d : DomId) (dir : Dir) (named : DomId) (p via : Pin) : Type 0 where
  pub of_actor : via.actor ≡ d.0
  pub of_named : via.held.dom ≡ named
  pub forwarded : forwards via.held.entry d dir ≡ true
  pub leads : GivesHeld via.held.entry p.held
  pub writes : (dir ≡ Write) → via.held.dir ≡ Write

-- the policy allows domain d a mapping of this kind of a frame of domain t (XSM FLASK)
abbrev pub MayUse : Setting → DomId → DomId → Dir → Type 0
MayUse s d t dir = IsAllowed s.may (rights_to_map (known_at s [] d) d t dir)

-- the policy allows a copy from the first domain of the pair to the second (XSM FLASK)
abbrev pub MayCopy : Setting → DomId × DomId → Type 0
MayCopy s pair = IsAllowed s.may (rights_to_copy (known_at s [] pair.0) pair.0 pair.1)

-- the frame is one of the domain's, and the range is inside it
abbrev pub IsInFrame : Setting → Spot → ℕ → Type 0
IsInFrame s at len = (at.frame.number < frame_count_of s.domains at.frame.owner) × (at.off + len ≤ FRAME_SIZE)

-- the frame is the domain's own, or a live pin of a mapping's kind reaches the range
abbrev pub MayAccess : History → DomId → Dir → Spot → ℕ → Type 0
MayAccess before d dir at len = (at.frame.owner.0 ≡ d.0) ⊎ Any (Reaches d d dir uses.Map at len) (live before)

-- there is such a mapping, and the policy allows what its pin is for (XSM FLASK)
abbrev pub MayUseMapping : Setting → DomId → Option HeldPin → Type 0
MayUseMapping s d None = ⊥
MayUseMapping s d (Some m) = MayUse s d m.dom m.dir

-- the policy allows what the call needs for its access: for a load or store, what the pin of its mapping is for, in
-- any frame (XSM FLASK)
abbrev pub MayAsk : Setting → History → DomId → OpenRequest → Type 0
MayAsk s before d (Load handle off len) = MayUseMapping s d (mapping_of (mappings_at before d.0) handle)
MayAsk s before d (Store handle off len) = MayUseMapping s d (mapping_of (mappings_at before d.0) handle)
MayAsk s before d request = Unit {0}

-- two live pins reach this range: one on a Via of the domain named, and one on the entry that the Via leads to, which
-- permitted the Via's owner
abbrev pub ReachesThrough : History → DomId → Dir → Spot → ℕ → DomId → Type 0
ReachesThrough before d dir at len named =
    Any (λ p. Any (λ via. Forwards d dir named p via × Reaches d named dir uses.Copy at len p) (live before))
    (live before)

-- An end of a copy. If a frame number names it, it is in a frame of the domain's own. Otherwise a pin on an entry of
-- the domain named reaches it, or two pins through a Via of that domain if the policy allows the copy between the
-- owners, in any owner's frame.
abbrev pub EndIsJustified : Setting → History → DomId → Bool → Dir → Spot → ℕ → DomId → DomId × DomId → Type 0
EndIsJustified s before d granted dir at len named owners =
    ((granted ≡ false) × (at.frame.owner ≡ d))
    ⊎ ((granted ≡ true) × (at.frame.owner ≡ named) × Any (Reaches d d dir uses.Copy at len) (live before))
    ⊎ ((granted ≡ true) × ReachesThrough before d dir at len named × MayCopy s owners)

-- A copy's access is between the call's two ends, each justified, and the policy allows the copy between the domains
-- named. A Via of the source needs the right of the owner of its frame to copy to the destination named; one of the
-- destination needs that of the owner of the source's frame to copy to the owner of the destination's.
abbrev pub CopyIsJustified : Setting → History → DomId → OpenRequest → Spot → Spot → ℕ → Type 0
CopyIsJustified s before d (Copy c) from to len =
    IsInFrame s from len × IsInFrame s to len × MayCopy s (resolved d c.source.domid, resolved d c.dest.domid)
    × EndIsJustified s before d (is_source_granted c) Read from len (resolved d c.source.domid)
    (from.frame.owner, resolved d c.dest.domid)
    × EndIsJustified s before d (is_dest_granted c) Write to len (resolved d c.dest.domid)
    (from.frame.owner, to.frame.owner)
CopyIsJustified s before d request from to len = ⊥

-- an access of one range is inside a frame of the domain's own, or one that a pin reaches, and the policy allows what
-- its call needs
abbrev pub AccessIsJustified : Setting → History → DomId → OpenRequest → Dir → Spot → ℕ → Type 0
AccessIsJustified s before d request dir at len =
    IsInFrame s at len × MayAccess before d dir at len × MayAsk s before d request

-- an access is justified, and only an unmap or a release that names its handle drops a mapping
abbrev pub Justified : Setting → History → DomId → OpenRequest → Step → Type 0
Justified s before d request (call_steps.Read dom frame off len) =
    AccessIsJustified s before d request Read
    (record { frame = record { owner = dom; number = frame }; off = off }) len
Justified s before d request (call_steps.Write dom frame off len) =
    AccessIsJustified s before d request Write
    (record { frame = record { owner = dom; number = frame }; off = off }) len
Justified s before d request (call_steps.Copy from to len) = CopyIsJustified s before d request from to len
Justified s before d request (Unpin p (holders.Mapping handle)) = GivesUp request handle
Justified s before d request _ = Unit {0}

-- owners' changes, and pins

-- The change is made only to an entry that allows it. A publication: to an Invalid one without live pins, whose
-- stored body words encode the new entry. A revocation: if no pin is live. A demotion: if no write pin is live. A
-- withdrawal and a promotion: always.
abbrev pub IsSafeChange : History → ℕ → ℕ → EntryChange → Type 0
IsSafeChange before t r (Publish entry) =
    (entry_at before t r ≡ Invalid)
    × IsSpelled entry (body_at before t r body_words.First) (body_at before t r body_words.Second)
    × (reads_at before t r ≡ 0) × (writes_at before t r ≡ 0)
IsSafeChange before t r changes.Withdraw = Unit {0}
IsSafeChange before t r changes.Revoke = (reads_at before t r ≡ 0) × (writes_at before t r ≡ 0)
IsSafeChange before t r changes.Demote = writes_at before t r ≡ 0
IsSafeChange before t r changes.Promote = Unit {0}

-- an exchange that is taken makes a safe change, and a body word is stored only on an Invalid entry
abbrev pub IsSafe : Setting → History → Item → Type 0
IsSafe s before i = IsSafeStep i.happened
  where
    IsSafeStep : ItemEvent → Type 0
    IsSafeStep (Stepped (Exchange gref looked change) Taken) = IsSafeChange before i.actor.0 gref.0 change
    IsSafeStep (Stepped (StoreBody gref body_word word) seen) = entry_at before i.actor.0 gref.0 ≡ Invalid
    IsSafeStep _ = Unit {0}
