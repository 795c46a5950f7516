-- A copy whose steps are written out: the phase that each part of its walk leads to. The code's own representation. It
-- is in specs/ because contracts cite it.
use Rattle.std.specs.Prelude.{◌≡◌, List, [], ◌∷◌, Some, None, Result, Ok, Err}
use Rattle.gt_live.specs.Prelude.{DomId, Read, Write, GrantRef, Denial, Layout, View, Nothing, Unpin, Refused, Phase}
use Rattle.gt_live.specs.Prelude.{Accessing, Ending, Walking, PinPurpose, Source, Dest, HeldPin, CallPins, AccessPath}
use Rattle.gt_live.specs.Prelude.{End, Leg, Header, Spot, CopyArgs, Copy, Call, last_first, no_pins, pins_so_far, without_last}
use Rattle.gt_live.specs.Prelude.{after_pin_of, at_dest, end_leg, end_spot, second_leg, CallerKnowledge, PendingCopy}
use Rattle.gt_model.specs.declared.request.PinHolder.TheVariants as holders
use Rattle.gt_model.specs.declared.held.AccessPath.TheVariants.{Own}
use Rattle.gt_live.specs.Driving.{CanMake}
use Rattle.gt_live.specs.Underway.{AtAccess, EndsRefused}
use Rattle.gt_live.specs.Walks.{Made}

-- the call that a copy in this phase is
abbrev pub copy_call : DomId → CopyArgs → Phase → Call
copy_call caller copy phase = record { caller = caller; request = Copy copy; phase = Some phase }

-- the call that a copy is before its first step
abbrev pub unmoved_copy : DomId → CopyArgs → Call
unmoved_copy caller copy = record { caller = caller; request = Copy copy; phase = None }

-- the pin of this Via is the last one held for the purpose
abbrev pub IsLastOf : HeldPin → PinPurpose → Type 0
IsLastOf via pin_purpose = (others : List HeldPin) × (last_first (pins_so_far pin_purpose) ≡ via ∷ others)

-- the phase after the second leg of an end: the one after its pin, or the end of the call, where the pin of the Via is
-- released
abbrev pub after_through : CallerKnowledge → DomId → PinPurpose → Leg → DomId → GrantRef → Result HeldPin Denial → Phase
after_through c caller pin_purpose first dom gref (Ok p) = after_pin_of c caller pin_purpose (second_leg c first dom gref) p
after_through c caller pin_purpose first dom gref (Err denial) = Ending (without_last (pins_so_far pin_purpose)) (Refused denial)

-- a result together with the value that was written
abbrev pub filled : {A : Type 0} → Result (Unit {0}) Denial → A → Result A Denial
filled (Ok done) value = Ok value
filled (Err denial) value = Err denial

-- the phases of a copy before the leg to its source, and after it
abbrev pub source_leg : CallerKnowledge → DomId → CopyArgs → Phase
source_leg c caller copy = Walking (Source copy None) (end_leg c caller copy.source Read copy.len) Header

abbrev pub phase_after_source : CallerKnowledge → DomId → CopyArgs → Result AccessPath Denial → Phase
phase_after_source c caller copy (Ok source) = at_dest c caller copy source
phase_after_source c caller copy (Err denial) = Ending no_pins (Refused denial)

-- the phases of a copy before the leg to its destination, and after it
abbrev pub dest_leg : CallerKnowledge → DomId → CopyArgs → AccessPath → Phase
dest_leg c caller copy source = Walking (Dest copy source None) (end_leg c caller copy.dest Write copy.len) Header

abbrev pub after_dest : CopyArgs → AccessPath → Result AccessPath Denial → Phase
after_dest copy source (Ok dest) = Accessing copy source dest
after_dest copy source (Err denial) = Ending (record { source = source; dest = Own }) (Refused denial)

-- the phase of a copy at its access, or at its end if it was refused before
abbrev pub after_copy : CopyArgs → Result CallPins Denial → Phase
after_copy copy (Ok pins) = Accessing copy pins.source pins.dest
after_copy copy (Err denial) = Ending no_pins (Refused denial)

-- where a copy stops: at its access with these pins, or refused before it
abbrev pub CopyStopsWith : CallerKnowledge → Layout → DomId → CopyArgs → Result CallPins Denial → View → View → Type 0
CopyStopsWith c k caller copy (Ok pins) v w =
    AtAccess c k (copy_call caller copy (Accessing copy pins.source pins.dest))
    (end_spot caller copy.source pins.source) (end_spot caller copy.dest pins.dest) copy.len v w
CopyStopsWith c k caller copy (Err denial) v w = EndsRefused c k (unmoved_copy caller copy) (Refused denial) v w

-- these pins were released, in the order of the list, and nothing else was done
abbrev pub IsGivenBack : Layout → List HeldPin → View → View → Type 0
IsGivenBack k [] v w = w ≡ v
IsGivenBack k (p ∷ ps) v w = (u : View) × Made k (Unpin p (holders.Leg 0)) Nothing v u × IsGivenBack k ps u w

-- these pins can be released, in the order of the list
abbrev pub CanGiveBack : Layout → List HeldPin → View → Type 0
CanGiveBack k [] v = Unit {0}
CanGiveBack k (p ∷ ps) v =
    CanMake k v (Unpin p (holders.Leg 0))
    × ((u : View) → Made k (Unpin p (holders.Leg 0)) Nothing v u → CanGiveBack k ps u)

-- a place without a copy
abbrev pub no_pending : PendingCopy
no_pending =
    let end : End = record { ptr = 0; domid = record { 0 = 0 }; offset = 0 } in
    record { caller = record { 0 = 0 }; copy = record { source = end; dest = end; len = 0; flags = 0 }; pins = no_pins }

-- the call of a copy at its access
abbrev pub pending_call : PendingCopy → Call
pending_call h = copy_call h.caller h.copy (Accessing h.copy h.pins.source h.pins.dest)

-- the place where a copy at its access may read
abbrev pub pending_from : PendingCopy → Spot
pending_from h = end_spot h.caller h.copy.source h.pins.source

-- the place where it may write
abbrev pub pending_to : PendingCopy → Spot
pending_to h = end_spot h.caller h.copy.dest h.pins.dest
