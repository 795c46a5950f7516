-- The first rule that applies to a call at a step.
use Rattle.std.specs.Option.{option_or, option_map}
use Rattle.std.specs.Prelude.{ℕ, Bool, true, false, ◌&&◌, not, ◌==◌, nat_lt, nat_le, if◌then◌else◌, List, [], ◌∷◌}
use Rattle.std.specs.Prelude.{map, Option, Some, None, ◌+◌, reverse}
use Rattle.gt_model.specs.Asking.{begun_of}
use Rattle.gt_model.specs.History.{History, Setting, entry_at, table_at, word_at, control_at, reads_at, writes_at}
use Rattle.gt_model.specs.History.{known_at, Underway, open_call, seen_by, legs_at}
use Rattle.gt_model.specs.Path.{map_leg, end_leg, second_leg, source_pair, dest_pair, entry_refusal}
use Rattle.gt_model.specs.Rules.{CallerKnowledge, stands, first, first_look, before_pin, via_judged}
use Rattle.gt_model.specs.Words.{header_word, pins_of, size_of}
use Rattle.gt_types.specs.Copies.{is_source_granted, is_dest_granted}
use Rattle.gt_types.specs.Denial.{denial_of}
use Rattle.gt_model.specs.declared.action.CallResult.{CallResult}
use Rattle.gt_model.specs.declared.action.CallResult.TheVariants.{Refused}
use Rattle.gt_model.specs.declared.action.Observation.{Observation}
use Rattle.gt_model.specs.declared.action.Observation.TheVariants.{Word, Taken, Missed}
use Rattle.gt_model.specs.declared.action.Step.{Step}
use Rattle.gt_model.specs.declared.action.Step.TheVariants.{LookHeader, LookControl, LookBody, Exchange}
use Rattle.gt_model.specs.declared.action.Step.TheVariants as call_steps
use Rattle.gt_model.specs.declared.change.EntryChange.{EntryChange}
use Rattle.gt_model.specs.declared.change.EntryChange.TheVariants.{Publish}
use Rattle.gt_model.specs.declared.change.EntryChange.TheVariants as changes
use Rattle.gt_model.specs.declared.entry.Entry.{Entry}
use Rattle.gt_model.specs.declared.entry.Entry.TheVariants.{Via}
use Rattle.gt_model.specs.declared.held.AccessPath.{AccessPath}
use Rattle.gt_model.specs.declared.held.AccessPath.TheVariants.{Direct, Through, Own}
use Rattle.gt_model.specs.declared.held.HeldPin.{HeldPin}
use Rattle.gt_model.specs.declared.leg.Leg.{Leg}
use Rattle.gt_model.specs.declared.request.OpenRequest.{OpenRequest}
use Rattle.gt_model.specs.declared.request.OpenRequest.TheVariants.{Map, Demote, Copy, Probe}
use Rattle.gt_model.specs.declared.trace.Item.{Item}
use Rattle.gt_model.specs.declared.trace.ItemEvent.{ItemEvent}
use Rattle.gt_model.specs.declared.trace.ItemEvent.TheVariants.{Began, Stepped}
use Rattle.gt_types.specs.declared.Dir.TheVariants.{Read, Write}
use Rattle.gt_types.specs.declared.DomId.{DomId}
use Rattle.gt_types.specs.declared.GrantRef.{GrantRef}
use Rattle.gt_types.specs.declared.copies.CopyArgs.{CopyArgs}
use Rattle.gt_types.specs.declared.denial.Denial.{Denial}
use Rattle.gt_types.specs.declared.denial.Facts.TheVariants as facts
use Rattle.gt_types.specs.declared.denial.Rule.{Rule}
use Rattle.gt_types.specs.declared.denial.Rule.TheVariants.{N9, N18, N19}
use Rattle.gt_types.specs.declared.limits.TheConstants.{MAX_TRIES}

-- a leg that a call makes, and the pair whose right to copy a Via of it needs, by the domain that it leads to
pub record LegNow : Type 0 where
  pub leg : Leg
  pub pair : DomId → DomId × DomId

-- the second leg, after the pin of a Via
abbrev pub second_now : CallerKnowledge → LegNow → Entry → Option LegNow
second_now k n (Via dom ro dom2 gref) = Some (record { leg = second_leg k n.leg dom2 gref; pair = n.pair })
second_now k n entry = None

-- the first leg of a copy to its source
abbrev pub source_now : CallerKnowledge → DomId → CopyArgs → LegNow
source_now k d c = record { leg = end_leg k d c.source Read c.len; pair = source_pair d c }

-- the first leg of a copy to its destination, if this access path reached its source
abbrev pub dest_now : CallerKnowledge → DomId → CopyArgs → AccessPath → LegNow
dest_now k d c source = record { leg = end_leg k d c.dest Write c.len; pair = dest_pair d source }

-- the leg to the destination, by the pins taken for it, the first one first
abbrev pub toward_dest : CallerKnowledge → DomId → CopyArgs → AccessPath → List HeldPin → Option LegNow
toward_dest k d c source [] = Some (dest_now k d c source)
toward_dest k d c source (p ∷ []) = second_now k (dest_now k d c source) p.entry
toward_dest k d c source (p ∷ q ∷ more) = None

-- the same, if a reference names the destination
abbrev pub after_source : CallerKnowledge → DomId → CopyArgs → AccessPath → List HeldPin → Option LegNow
after_source k d c source held = if is_dest_granted c then toward_dest k d c source held else None

-- after the first pin of the source: its second leg, or that of the destination
abbrev pub from_source : CallerKnowledge → DomId → CopyArgs → HeldPin → Entry → List HeldPin → Option LegNow
from_source k d c p (Via dom ro dom2 gref) [] = second_now k (source_now k d c) (Via dom ro dom2 gref)
from_source k d c p (Via dom ro dom2 gref) (q ∷ more) = after_source k d c (Through p q) more
from_source k d c p entry more = after_source k d c (Direct p) more

-- the leg to the source, by the pins held
abbrev pub toward_source : CallerKnowledge → DomId → CopyArgs → List HeldPin → Option LegNow
toward_source k d c [] = Some (source_now k d c)
toward_source k d c (p ∷ more) = from_source k d c p p.entry more

-- the leg of a copy that holds these pins, the first one first
abbrev pub copy_now : CallerKnowledge → DomId → CopyArgs → List HeldPin → Option LegNow
copy_now k d c held = if is_source_granted c then toward_source k d c held else after_source k d c Own held

-- the leg that a call makes, by its request and the pins that it holds
abbrev pub leg_now : CallerKnowledge → DomId → OpenRequest → List HeldPin → Option LegNow
leg_now k d (Map dom gref flags) held = Some (record { leg = map_leg k d dom gref flags; pair = λ owner. (d, owner) })
leg_now k d (Copy c) held = copy_now k d c held
leg_now k d (Probe c) held = copy_now k d c held
leg_now k d _ held = None

-- the leg that a domain's call makes now
abbrev pub leg_at : Setting → History → DomId → OpenRequest → Option LegNow
leg_at s before d request =
    leg_now (known_at s before d) d request (map (λ (p : ℕ × HeldPin). p.1) (legs_at before d.0))

-- the request is a demotion
abbrev pub is_demote : OpenRequest → Bool
is_demote (Demote gref) = true
is_demote request = false

-- the steps of a call, the newest first
abbrev pub StepsSoFar : Type 0
StepsSoFar = List (Step × Observation)

-- the word that the last look at the control word saw
unfoldable pub looked_at : StepsSoFar → Option ℕ
looked_at [] = None
looked_at ((LookControl dom gref, Word w) ∷ more) = Some w
looked_at (s ∷ more) = looked_at more

-- the next look at the control word is a second one: a body word was just read
abbrev pub is_in_body : StepsSoFar → Bool
is_in_body ((LookBody dom gref body_word, v) ∷ more) = true
is_in_body _ = false

-- the word differs from that of the last look, if there was one
abbrev pub is_other : ℕ → Option ℕ → Bool
is_other w None = false
is_other w (Some looked) = not (w == looked)

-- this step ends a missed try: it is an exchange that found another word, or a second look that saw one
abbrev pub is_miss : (Step × Observation) → StepsSoFar → Bool
is_miss (call_steps.Pin p, Missed w) more = true
is_miss (Exchange gref looked change, Missed w) more = true
is_miss (LookControl dom gref, Word w) more = is_in_body more && is_other w (looked_at more)
is_miss _ more = false

-- the number of missed tries: of the leg since its header, or of a call without a leg since its beginning
unfoldable pub misses : StepsSoFar → ℕ
misses [] = 0
misses ((LookHeader dom, v) ∷ more) = 0
misses (s ∷ more) = (if is_miss s more then 1 else 0) + misses more

-- a refusal by this rule, if one applies, with the control word that was found
abbrev pub at_entry : DomId → GrantRef → ℕ → Option Rule → Option Denial
at_entry dom gref word rule = option_map (λ (r : Rule). entry_refusal dom gref r word) rule

-- the rule at an owner's exchange, by the pins on its entry and the number of missed tries, including this one
abbrev pub rule_at_exchange : EntryChange → ℕ → ℕ → Option Rule
rule_at_exchange (Publish entry) pins missed = stands (nat_lt 0 pins) N19
rule_at_exchange changes.Revoke pins missed = stands (nat_lt 0 pins) N19
rule_at_exchange changes.Withdraw pins missed = stands (nat_le MAX_TRIES missed) N18
rule_at_exchange changes.Demote pins missed = stands (nat_le MAX_TRIES missed) N18
rule_at_exchange changes.Promote pins missed = stands (nat_le MAX_TRIES missed) N18

-- the rule at the header of a leg
abbrev pub rule_at_header : Setting → History → DomId → Option LegNow → Option Denial
rule_at_header s before dom None = None
rule_at_header s before dom (Some n) =
    if nat_lt n.leg.gref.0 (size_of (table_at s before dom)) then None
    else Some (denial_of N9 (facts.Header dom (header_word (table_at s before dom))))

-- the rule before a pin, by the entry at that moment
abbrev pub rule_before_pin : Setting → History → Leg → DomId → GrantRef → Option Rule
rule_before_pin s before l dom gref =
    before_pin l (entry_at before dom.0 gref.0) (pins_of l.dir (control_at s before dom.0 gref.0))

-- the rule at a look of a leg: the first of the rules on the entry, or, if the look is a second one that shows the
-- same word, of the rules before the pin
abbrev pub rule_at_look : Setting → History → Option LegNow → DomId → GrantRef → StepsSoFar → Option Rule
rule_at_look s before None dom gref so_far = None
rule_at_look s before (Some n) dom gref so_far =
    if is_in_body so_far
    then (if is_other (word_at s before dom.0 gref.0) (looked_at so_far) then None
    else rule_before_pin s before n.leg dom gref)
    else first_look n.leg (control_at s before dom.0 gref.0)

-- the refusal of a result
abbrev pub refusal_in : Option CallResult → Option Denial
refusal_in (Some (Refused denial)) = Some denial
refusal_in _ = None

-- the rule at the pin of a Via: about the domain that it leads to, and about the owners' right
abbrev pub rule_at_via : CallerKnowledge → Option LegNow → Entry → Option Denial
rule_at_via k (Some n) (Via dom ro dom2 gref) = refusal_in (via_judged k (n.pair dom2) dom2)
rule_at_via k n entry = None

-- the rule at a pin: that of a Via if it is taken, that of a fourth try if it is missed
abbrev pub rule_at_pin : Setting → History → DomId → OpenRequest → StepsSoFar → HeldPin → Observation → Option Denial
rule_at_pin s before d request so_far p Taken =
    rule_at_via (known_at s before d) (leg_at s before d request) (entry_at before p.dom.0 p.gref.0)
rule_at_pin s before d request so_far p seen =
    at_entry p.dom p.gref (word_at s before p.dom.0 p.gref.0)
    (stands (nat_le MAX_TRIES (misses ((call_steps.Pin p, seen) ∷ so_far))) N18)

-- the first rule that applies to the call at this step, by the history; so_far are the steps of the call before it
abbrev pub first_at : Setting → History → DomId → OpenRequest → StepsSoFar → Step → Option Denial
first_at s before d request so_far (LookHeader dom) = rule_at_header s before dom (leg_at s before d request)
first_at s before d request so_far (LookControl dom gref) =
    at_entry dom gref (word_at s before dom.0 gref.0) (first (
    stands (is_demote request && nat_lt 0 (writes_at before dom.0 gref.0)) N19
    ∷ rule_at_look s before (leg_at s before d request) dom gref so_far
    ∷ stands
    (nat_le MAX_TRIES (misses ((LookControl dom gref, seen_by s before d (LookControl dom gref)) ∷ so_far))) N18
    ∷ []))
first_at s before d request so_far (call_steps.Pin p) =
    rule_at_pin s before d request so_far p (seen_by s before d (call_steps.Pin p))
first_at s before d request so_far (Exchange gref looked change) =
    at_entry d gref (word_at s before d.0 gref.0)
    (rule_at_exchange change (reads_at before d.0 gref.0 + writes_at before d.0 gref.0)
    (misses ((Exchange gref looked change, seen_by s before d (Exchange gref looked change)) ∷ so_far)))
first_at s before d request so_far _ = None

-- the first rule at an event of the domain in its open call
abbrev pub first_in_call : Setting → History → DomId → ItemEvent → Option Underway → Option Denial
first_in_call s before d (Began request) c = refusal_in (begun_of (known_at s before d) d request)
first_in_call s before d (Stepped step seen) None = None
first_in_call s before d (Stepped step seen) (Some c) = first_at s before d c.request (reverse c.steps) step

-- the first rule at this item
abbrev pub first_of_item : Setting → History → Item → Option Denial
first_of_item s before i = first_in_call s before i.actor i.happened (open_call before i.actor.0)

-- the rule so far, with the one that applied earlier in the same call
abbrev pub stood_with : ItemEvent → Option Denial → Option Denial → Option Denial
stood_with (Began request) earlier here = here
stood_with (Stepped step seen) earlier here = option_or earlier here

-- the first rule that applied in the domain's last call, up to here
unfoldable pub stood : Setting → History → ℕ → Option Denial
stood s [] d = None
stood s (i ∷ before) d =
    if i.actor.0 == d then stood_with i.happened (stood s before d) (first_of_item s before i) else stood s before d
