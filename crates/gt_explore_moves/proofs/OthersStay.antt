-- A domain of a state stays where it is on its course while other domains move.
use Rattle.std.proofs.Common.{◌≡◌, ◌+◌, ◌≤◌, ℕ, false, List, ◌∷◌, map, Option, Some, None, sym, ap, ◌∙◌, subst}
use Rattle.std.specs.Prelude.{◌==◌}
use Rattle.gt_types.specs.declared.DomId.{DomId}
use Rattle.gt_model.specs.declared.handle.Handle.{Handle}
use Rattle.gt_model.specs.declared.action.Action.TheVariants as actions
use Rattle.gt_model.specs.declared.held.HeldPin.{HeldPin}
use Rattle.gt_model.specs.Path.{path}
use Rattle.gt_model.specs.Rules.{CallerKnowledge}
use Rattle.gt_calls.specs.Standing.{IsAt}
use Rattle.gt_model.specs.History.{History, Setting, Underway, known_at, maps_answered_at, open_call, values}
use Rattle.gt_model.specs.History.{mapping_named}
use Rattle.gt_model.specs.declared.trace.Item.{Item}
use Rattle.gt_model.proofs.Observers.{other-known, other-maps, other-pins}
use Rattle.gt_core.proofs.AgreementKept.{open_call-other}
use Rattle.gt_explore_replay.specs.Courses.{Course, Opened, resting, calling, giving}
use Rattle.gt_explore_replay.specs.Orders.{handles_without}
use Rattle.gt_script.specs.Lists.{RunTask}
use Rattle.gt_explore_moves.specs.Continuing.{SameKnown}
use Rattle.gt_explore_moves.specs.Calls.{AsksByPlace, GoesAlong, LabelsShow, SerialsRise, ShowsCalls, ShowsOpen}
use Rattle.gt_explore_moves.specs.Calls.{handles_at, known_by_place, pins_mapped_at, tasks_open}
use Rattle.gt_explore_moves.specs.Mappings.{labels_of}
use Rattle.gt_explore_moves.specs.Placing.{pin_by_place}
use Rattle.gt_explore_moves.specs.declared.actor.Actor.{Actor}
use Rattle.gt_explore_moves.specs.declared.actor.ActorCall.{ActorCall}

pub same-by-place : (s : Setting) (h g : History) (d : DomId) → SameKnown s h g d → known_by_place s g d ≡ known_by_place s h d
same-by-place s h g d same =
    ap (λ (z : CallerKnowledge). record z { mapping = pin_by_place (pins_mapped_at g d); maps_answered = 0 }) same.known
    ∙ ap (λ (ms : List (Handle × HeldPin)). record (known_at s h d) { mapping = pin_by_place (map (λ (m : Handle × HeldPin). m.1) ms); maps_answered = 0 }) same.mappings

pub same-handles : (s : Setting) (h g : History) (d : DomId) → SameKnown s h g d → handles_at g d ≡ handles_at h d
same-handles s h g d same = ap (λ (ms : List (Handle × HeldPin)). map (λ (m : Handle × HeldPin). m.0) ms) same.mappings

goes-same : (s : Setting) (h g : History) (d : DomId) (c : Underway) (o : ActorCall) → SameKnown s h g d → GoesAlong s h d c o → GoesAlong s g d c o
goes-same s h g d c o same along = record {
  caller = along.caller;
  place = along.place;
  asks = along.asks;
  by_place = subst (λ (hs : List Handle). AsksByPlace hs along.place c.request) (sym (same-handles s h g d same)) along.by_place;
  at = subst (λ (z : CallerKnowledge). IsAt z o.call (values c)) (sym (same-by-place s h g d same)) along.at;
  follows = subst (λ (z : CallerKnowledge). path z d o.call.request (values c) ≡ Some (actions.Step o.step)) (sym (same-by-place s h g d same)) along.follows;
}

opens-same : (s : Setting) (h g : History) (tasks : List RunTask) (k : Course) (next : ℕ) (opened : Opened) (c : Option Underway) (o : Option ActorCall) → SameKnown s h g k.dom → ShowsOpen s h tasks k next opened c o → ShowsOpen s g tasks k next opened c o
opens-same s h g tasks k next resting None None same show = show ∙ sym (same-handles s h g k.dom same)
opens-same s h g tasks k next (calling line call lost) (Some c) (Some o) same show = (goes-same s h g k.dom c o same show.0, show.1, show.2, show.3 ∙ sym (same-handles s h g k.dom same))
opens-same s h g tasks k next giving (Some c) (Some o) same show = (
  goes-same s h g k.dom c o same show.0,
  show.1,
  (show.2.0, show.2.1, show.2.2 ∙ ap (handles_without show.2.0) (sym (same-handles s h g k.dom same))),
)
opens-same s h g tasks k next opened c o same show = absurd show

-- what shows the one shows the other
pub shows-same : (s : Setting) (h g : History) (tasks : List RunTask) (k : Course) (a : Actor) → SameKnown s h g k.dom → open_call g k.dom.0 ≡ open_call h k.dom.0 → ShowsCalls s h tasks k a → ShowsCalls s g tasks k a
shows-same s h g tasks k a same calls show = record {
  left = show.left;
  begun = show.begun;
  few = subst (λ (m : ℕ). m + tasks_open k.opened ≤ a.next) (sym same.answered) show.few;
  rising = subst (λ (m : ℕ). SerialsRise 0 (handles_at g k.dom) m) (sym same.answered) (subst (λ (hs : List Handle). SerialsRise 0 hs (maps_answered_at h k.dom.0)) (sym (same-handles s h g k.dom same)) show.rising);
  pins = show.pins ∙ ap (λ (ms : List (Handle × HeldPin)). map (λ (m : Handle × HeldPin). m.1) ms) (sym same.mappings);
  labels = subst (λ (hs : List Handle). LabelsShow k.named k.dom hs (labels_of a.mappings.items)) (sym (same-handles s h g k.dom same)) show.labels;
  opens = subst (λ (c : Option Underway). ShowsOpen s g tasks k a.next k.opened c a.«open») (sym calls) (opens-same s h g tasks k a.next k.opened (open_call h k.dom.0) a.«open» same show.opens);
}

-- an item of another domain leaves all of it as it was
pub others-stay : (s : Setting) (h : History) (tasks : List RunTask) (k : Course) (a : Actor) (i : Item) → (i.actor.0 == k.dom.0) ≡ false → ShowsCalls s h tasks k a → ShowsCalls s (i ∷ h) tasks k a
others-stay s h tasks k a i apart = shows-same s h (i ∷ h) tasks k a (record {
  mappings = other-pins mapping_named i h k.dom.0 apart;
  answered = other-maps i h k.dom.0 apart;
  known = other-known s i h k.dom apart;
}) (open_call-other i h k.dom.0 apart)
