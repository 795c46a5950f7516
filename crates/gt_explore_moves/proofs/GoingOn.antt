-- A domain of a state whose open call made a step and goes on.
use Rattle.std.proofs.Common.{◌≡◌, ◌+◌, ◌≤◌, ℕ, refl, List, ◌∷◌, map, Option, Some, None, sym, ap, ◌∙◌, subst}
use Rattle.gt_types.specs.declared.DomId.{DomId}
use Rattle.gt_types.specs.declared.GrantRef.{GrantRef}
use Rattle.gt_model.specs.declared.change.EntryChange.{EntryChange}
use Rattle.gt_model.specs.declared.handle.Handle.{Handle}
use Rattle.gt_model.specs.declared.action.Observation.{Observation}
use Rattle.gt_model.specs.declared.action.Observation.TheVariants.{Taken}
use Rattle.gt_model.specs.declared.action.Step.{Step}
use Rattle.gt_model.specs.declared.action.Step.TheVariants.{Exchange, StoreHeader, Unpin}
use Rattle.gt_model.specs.declared.action.Step.TheVariants as call_steps
use Rattle.gt_model.specs.declared.held.HeldPin.{HeldPin}
use Rattle.gt_model.specs.declared.request.PinHolder.TheVariants as holders
use Rattle.gt_model.specs.History.{History, Pin, Setting, Underway, gather, mapping_named, mappings_at}
use Rattle.gt_model.specs.History.{maps_answered_at, known_at, open_call, seen_by, underway_after}
use Rattle.gt_model.specs.declared.trace.ItemEvent.TheVariants.{Stepped}
use Rattle.gt_model.specs.declared.trace.Item.{Item}
use Rattle.gt_core.proofs.AgreementKept.{open_call-own}
use Rattle.gt_core.proofs.Outcomes.{IsSingle}
use Rattle.gt_model.proofs.Observers.{KeepsKnown, answered-stays, kept-entry, kept-known, kept-live, kept-raises}
use Rattle.gt_model.proofs.Observers.{kept-table, known-as}
use Rattle.gt_core.proofs.Steps.Pin.{leg-maps}
use Rattle.gt_core.proofs.Steps.Unpin.{leg-mappings}
use Rattle.gt_explore_replay.specs.Courses.{Course, Opened, calling, giving, resting}
use Rattle.gt_explore_replay.specs.Orders.{handles_without}
use Rattle.gt_script.specs.Lists.{RunTask}
use Rattle.gt_explore_moves.specs.Calls.{GoesAlong, IsOfTask, LabelsShow, SerialsRise, ShowsCalls, ShowsOpen}
use Rattle.gt_explore_moves.specs.Calls.{handles_at, tasks_open}
use Rattle.gt_explore_moves.specs.Continuing.{SameKnown, stepped_call}
use Rattle.gt_explore_moves.specs.Mappings.{labels_of}
use Rattle.gt_explore_moves.specs.declared.actor.Actor.{Actor}
use Rattle.gt_explore_moves.specs.declared.actor.ActorCall.{ActorCall}
use Rattle.gt_explore_moves.proofs.OthersStay.{same-handles}

-- a step of a domain's call, which goes on
abbrev pub went_on : DomId → Step → Observation → Item
went_on d z seen = record { actor = d; happened = Stepped z seen; answer = None }

plain-same : (h : History) (d : DomId) (z : Step) (seen : Observation) → KeepsKnown (went_on d z seen) → mappings_at (went_on d z seen ∷ h) d.0 ≡ mappings_at h d.0
plain-same h d z seen keeps = ap (λ (ps : List Pin). gather mapping_named d.0 ps) (kept-live (went_on d z seen) h keeps)

mappings-same : (h : History) (d : DomId) (z : Step) (seen : Observation) → (IsSingle z → ⊥) → ((gref : GrantRef) (looked : ℕ) (change : EntryChange) → z ≡ Exchange gref looked change → seen ≡ Taken → ⊥) → mappings_at (went_on d z seen ∷ h) d.0 ≡ mappings_at h d.0
mappings-same h d (call_steps.Pin p) Taken single taken = leg-maps h d p None refl
mappings-same h d (Unpin p (holders.Leg place)) seen single taken = leg-mappings h d p place seen None
mappings-same h d (Unpin p (holders.Mapping handle)) seen single taken = absurd (single tt)
mappings-same h d (Exchange gref looked change) Taken single taken = absurd (taken gref looked change refl refl)
mappings-same h d z seen single taken = plain-same h d z seen (record { changes = λ r. refl; pins = λ before ps. refl; unpins = λ pins. refl; maps = refl })

known-same : (s : Setting) (h : History) (d : DomId) (z : Step) (seen : Observation) → (IsSingle z → ⊥) → ((gref : GrantRef) (looked : ℕ) (change : EntryChange) → z ≡ Exchange gref looked change → seen ≡ Taken → ⊥) → known_at s (went_on d z seen ∷ h) d ≡ known_at s h d
known-same s h d (call_steps.Pin p) Taken single taken = let i = went_on d (call_steps.Pin p) Taken in
    known-as s h (i ∷ h) d (λ r. kept-entry i h d.0 r (λ r. refl)) (λ r. kept-raises i h d.0 r (λ r. refl)) (kept-table s i h d refl) (leg-maps h d p None refl) (answered-stays h i d.0 refl)
known-same s h d (Unpin p (holders.Leg place)) seen single taken = let i = went_on d (Unpin p (holders.Leg place)) seen in
    known-as s h (i ∷ h) d (λ r. kept-entry i h d.0 r (λ r. refl)) (λ r. kept-raises i h d.0 r (λ r. refl)) (kept-table s i h d refl) (leg-mappings h d p place seen None) (answered-stays h i d.0 refl)
known-same s h d (Unpin p (holders.Mapping handle)) seen single taken = absurd (single tt)
known-same s h d (StoreHeader version frames) seen single taken = absurd (single tt)
known-same s h d (Exchange gref looked change) Taken single taken = absurd (taken gref looked change refl refl)
known-same s h d z seen single taken = kept-known s (went_on d z seen) h d (record { changes = λ r. refl; pins = λ before ps. refl; unpins = λ pins. refl; maps = refl }) refl

-- by a step that is no single one of its call, and no exchange that is taken, a domain knows no other thing
pub goes-known : (s : Setting) (h : History) (d : DomId) (z : Step) (seen : Observation) → (IsSingle z → ⊥) → ((gref : GrantRef) (looked : ℕ) (change : EntryChange) → z ≡ Exchange gref looked change → seen ≡ Taken → ⊥) → SameKnown s h (went_on d z seen ∷ h) d
goes-known s h d z seen single taken = record {
  mappings = mappings-same h d z seen single taken;
  answered = answered-stays h (went_on d z seen) d.0 refl;
  known = known-same s h d z seen single taken;
}

-- what is open still shows
opens-going : (s : Setting) (h g : History) (tasks : List RunTask) (k : Course) (next : ℕ) (opened : Opened) (c : Underway) (z : Step) (o p : ActorCall) → SameKnown s h g k.dom → GoesAlong s g k.dom (stepped_call s h k.dom c z) p → p.task ≡ o.task
    → ShowsOpen s h tasks k next opened (Some c) (Some o) → ShowsOpen s g tasks k next opened (Some (stepped_call s h k.dom c z)) (Some p)
opens-going s h g tasks k next resting c z o p same along task show = absurd show
opens-going s h g tasks k next (calling line call lost) c z o p same along task show = (
  along,
  subst (IsOfTask tasks next k.dom line call) (sym task) show.1,
  record { named = show.2.named; request = show.2.request; makes = show.2.makes; asks = show.2.asks; given = show.2.given; lost_is = show.2.lost_is },
  show.3 ∙ sym (same-handles s h g k.dom same),
)
opens-going s h g tasks k next giving c z o p same along task show =
    (along, task ∙ show.1, (show.2.0, show.2.1, show.2.2 ∙ ap (handles_without show.2.0) (sym (same-handles s h g k.dom same))))

-- the domain is where the run has brought it
pub shows-going : (s : Setting) (h : History) (tasks : List RunTask) (k : Course) (a : Actor) (c : Underway) (z : Step) (o p : ActorCall) → ShowsCalls s h tasks k a → open_call h k.dom.0 ≡ Some c → a.«open» ≡ Some o → SameKnown s h (went_on k.dom z (seen_by s h k.dom z) ∷ h) k.dom
    → GoesAlong s (went_on k.dom z (seen_by s h k.dom z) ∷ h) k.dom (stepped_call s h k.dom c z) p → p.task ≡ o.task → ShowsCalls s (went_on k.dom z (seen_by s h k.dom z) ∷ h) tasks k (record a { «open» = Some p })
shows-going s h tasks k a c z o p show calls has same along task =
    let d = k.dom in let i : Item = went_on d z (seen_by s h d z) in let g : History = i ∷ h in
    let was : ShowsOpen s h tasks k a.next k.opened (Some c) (Some o) = subst (ShowsOpen s h tasks k a.next k.opened (Some c)) has (subst (λ (u : Option Underway). ShowsOpen s h tasks k a.next k.opened u a.«open») calls show.opens) in
    record {
      left = show.left;
      begun = show.begun;
      few = subst (λ (m : ℕ). m + tasks_open k.opened ≤ a.next) (sym same.answered) show.few;
      rising = subst (λ (m : ℕ). SerialsRise 0 (handles_at g d) m) (sym same.answered) (subst (λ (hs : List Handle). SerialsRise 0 hs (maps_answered_at h d.0)) (sym (same-handles s h g d same)) show.rising);
      pins = show.pins ∙ ap (λ (ms : List (Handle × HeldPin)). map (λ (m : Handle × HeldPin). m.1) ms) (sym same.mappings);
      labels = subst (λ (hs : List Handle). LabelsShow k.named d hs (labels_of a.mappings.items)) (sym (same-handles s h g d same)) show.labels;
      opens = subst (λ (u : Option Underway). ShowsOpen s g tasks k a.next k.opened u (Some p)) (sym (open_call-own i h ∙ ap (underway_after i) calls))
          (opens-going s h g tasks k a.next k.opened c z o p same along task was);
    }
