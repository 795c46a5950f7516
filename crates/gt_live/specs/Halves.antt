-- A copy in two halves: the path to its access, which the monitor's caller makes, and the path from there to its end.
use Rattle.std.specs.Prelude.{◌≡◌, ◌+◌, ◌≤◌, ℕ}
use Rattle.gt_live.specs.Prelude.{Read, Write, IsSameSeat, KeepsPins, Layout, View, Hypercall}
use Rattle.gt_live.specs.Prelude.{Record, Spot, Call, CopyArgs, path, path_of, CallerKnowledge, pins_by_call, Domain}
use Rattle.gt_live.specs.Prelude.{PendingCopy, Monitor}
use Rattle.gt_model.specs.declared.action.Step.TheVariants as call_steps
use Rattle.gt_types.specs.declared.Use.TheVariants as uses
use Rattle.gt_audit.specs.declared.record.Hypercall.TheVariants as hypercalls
use Rattle.gt_audit.specs.declared.record.Reply.TheVariants as replies
use Rattle.gt_model.specs.declared.request.Request.TheVariants as requests
use Rattle.gt_live.specs.AccessPaths.{MayCopyBy, ReachesBy}
use Rattle.gt_live.specs.Accesses.{EndsAfterAccess, IsUnmade}
use Rattle.gt_live.specs.Copies.{pending_call, pending_from, pending_to}
use Rattle.gt_live.specs.Domains.{AllowRelation, BelongsTo, IsUnsettled, known_on}
use Rattle.gt_live.specs.Underway.{AtAccess, GivesBack}

-- the call of a copy, for its record
abbrev pub copy_hypercall : CopyArgs → Hypercall
copy_hypercall c = hypercalls.Copy c.source c.dest c.len c.flags

-- the record of a copy that this domain ended, which is Ok
abbrev pub done_copy : Domain → CopyArgs → Record
done_copy d c = record { dom = d.seat.dom; call = copy_hypercall c; reply = replies.Done }

-- the domain d was asked for this copy and reached its access, and is then e. Its steps are those of the copy's path.
-- The pins that it holds reach both places, and the policy allows the copy by them; each place is inside its frame.
-- Nothing else of the domain has changed
pub record BecomesPending {P : Type 0} (may : P → AllowRelation) (m : Monitor P) (d : Domain) (copy : CopyArgs)
    (h : PendingCopy) (e : Domain) : Type 0 where
  pub asked : h.copy ≡ copy
  pub way : path_of (known_on may m d) d.seat.dom (requests.Copy copy)
      ≡ path (known_on may m d) (pending_call h).caller (pending_call h).request
  pub access : AtAccess (known_on may m d) m.words.layout (pending_call h) (pending_from h) (pending_to h) h.copy.len
      d.seat.view e.seat.view
  pub source : ReachesBy m.words.layout e.seat Read uses.Copy (pending_from h).frame (pending_from h).off h.copy.len
      h.pins.source
  pub dest : ReachesBy m.words.layout e.seat Write uses.Copy (pending_to h).frame (pending_to h).off h.copy.len
      h.pins.dest
  pub allowed : MayCopyBy m.config.domains.items (may m.rights) e.seat.dom h.pins
  pub source_range : (pending_from h).off + h.copy.len ≤ 4096
  pub dest_range : (pending_to h).off + h.copy.len ≤ 4096
  pub kept : IsUnsettled d e

-- the domain is at the access of this copy: it belonged to this monitor's run when it was asked for it
abbrev pub IsPending : {P : Type 0} → (P → AllowRelation) → Monitor P → PendingCopy → Domain → Type 0
IsPending may m h e = (d : Domain) × BelongsTo may m d × BecomesPending may m d h.copy h e

-- the pins of a copy at its access were released, one after another, the last one first, and nothing else changed but
-- the trail
pub record EndsPending (k : Layout) (h : PendingCopy) (e f : Domain) : Type 0 where
  pub gives : GivesBack k h.pins e.seat.view f.seat.view
  pub seat : IsSameSeat e.seat f.seat
  pub own : f.own ≡ e.own
  pub mappings : f.mappings ≡ e.mappings

-- a copy that reached its access, and whose pins were then released, is whole: its steps are those of its path before
-- and after the one access, and the seat has the same pins as before
abbrev pub TwoHalvesMakeACopy : Type 0
TwoHalvesMakeACopy =
    (c : CallerKnowledge) (k : Layout) (call : Call) (from to : Spot) (len : ℕ) (v mid w : View)
    → AtAccess c k call from to len v mid → GivesBack k (pins_by_call call) mid w
    → EndsAfterAccess k (path c call.caller call.request) (call_steps.Copy from to len) IsUnmade v w × KeepsPins v w
