-- A domain of a state at the end of its list begins to give a mapping back.
use Rattle.std.proofs.Common.{◌≡◌, ◌+◌, ◌<◌, ◌≤◌, ℕ, zero, suc, refl, Bool, false, cond, List, [], ◌∷◌, ◌++◌, map}
use Rattle.std.proofs.Common.{take, drop, Option, Some, None, sym, ap, ◌∙◌, arith, subst}
use Rattle.std.specs.Prelude.{◌==◌, not, slice_get}
use Rattle.std.proofs.lemmas.Bool.{eq-eqb, ne_eqb}
use Rattle.std.proofs.lemmas.Option.{none-some, same_Some}
use Rattle.gt_model.specs.declared.handle.Handle.{Handle}
use Rattle.gt_model.specs.declared.action.Action.TheVariants as actions
use Rattle.gt_model.specs.declared.action.Step.{Step}
use Rattle.gt_calls.specs.declared.call.Call.{Call}
use Rattle.gt_model.specs.declared.held.HeldPin.{HeldPin}
use Rattle.gt_model.specs.declared.request.OpenRequest.{OpenRequest}
use Rattle.gt_model.specs.declared.request.Request.TheVariants as requests
use Rattle.gt_model.specs.Path.{path}
use Rattle.gt_model.specs.Rules.{CallerKnowledge}
use Rattle.gt_calls.specs.Standing.{IsAt}
use Rattle.gt_model.specs.History.{History, Setting, Underway, maps_answered_at, open_call}
use Rattle.gt_core.proofs.AgreementKept.{open_call-own}
use Rattle.gt_explore_replay.specs.Courses.{Course, Opened, giving, resting}
use Rattle.gt_explore_replay.specs.Orders.{handles_without}
use Rattle.gt_script.specs.Lists.{RunTask}
use Rattle.gt_explore_moves.specs.Beginnings.{OpensAsRun}
use Rattle.gt_explore_moves.specs.Calls.{LabelsShow, SerialsRise, ShowsCalls, ShowsOpen, handles_at, known_by_place}
use Rattle.gt_explore_moves.specs.Calls.{tasks_open}
use Rattle.gt_explore_moves.specs.Mappings.{labels_of}
use Rattle.gt_explore_moves.specs.declared.actor.Actor.{Actor}
use Rattle.gt_explore_moves.specs.Starting.{giving_actor}
use Rattle.gt_explore_moves.proofs.MappingFound.{rise-from}
use Rattle.gt_explore_moves.proofs.CallOpened.{began, begun-same, rests}
use Rattle.gt_explore_moves.proofs.OthersStay.{same-by-place, same-handles}

-- all but one handle

others-kept : (low : ℕ) (hs : List Handle) (high : ℕ) (handle : Handle) → handle.serial < low → SerialsRise low hs high → handles_without handle hs ≡ hs
others-kept low [] high handle lt r = refl
others-kept low (x ∷ hs) high handle lt r =
    let le : low ≤ x.serial = r.0 in
    let apart : (x.serial == handle.serial) ≡ false = ne_eqb x.serial handle.serial (λ e. absurd (omega arith)) in
    ap (λ (b : Bool). cond (not b) (x ∷ handles_without handle hs) (handles_without handle hs)) apart
    ∙ ap (λ (l : List Handle). x ∷ l) (others-kept (suc x.serial) hs high handle (omega arith) r.1)

-- without the handle at a place, that is without the handle
pub without-place : (low : ℕ) (hs : List Handle) (high at : ℕ) (handle : Handle) → SerialsRise low hs high → slice_get hs at ≡ Some handle → take at hs ++ drop (suc at) hs ≡ handles_without handle hs
without-place low [] high at handle r there = absurd (none-some handle there)
without-place low (x ∷ hs) high zero handle r there =
    let same : x.serial ≡ handle.serial = ap (λ (z : Handle). z.serial) (same_Some x handle there) in
    sym (ap (λ (b : Bool). cond (not b) (x ∷ handles_without handle hs) (handles_without handle hs)) (eq-eqb x.serial handle.serial same)
    ∙ others-kept (suc x.serial) hs high handle (omega arith) r.1)
without-place low (x ∷ hs) high (suc at) handle r there =
    let le : suc x.serial ≤ handle.serial = rise-from (suc x.serial) hs high at handle r.1 there in
    let apart : (x.serial == handle.serial) ≡ false = ne_eqb x.serial handle.serial (λ e. absurd (omega arith)) in
    ap (λ (l : List Handle). x ∷ l) (without-place (suc x.serial) hs high at handle r.1 there)
    ∙ sym (ap (λ (b : Bool). cond (not b) (x ∷ handles_without handle hs) (handles_without handle hs)) apart)

-- what a domain is then
abbrev pub giving_course : Course → ℕ → Course
giving_course k choice = record k { opened = giving; held = take choice k.held ++ drop (suc choice) k.held }

-- it is where the run has brought it, if the release is of the mapping at this place
pub shows-giving : (s : Setting) (h : History) (tasks : List RunTask) (k : Course) (a : Actor) (choice : ℕ) (handle place : Handle) (now : Call) (step : Step) → ShowsCalls s h tasks k a → k.opened ≡ resting → slice_get k.held choice ≡ Some handle
    → place.serial ≡ choice → OpensAsRun (known_by_place s h k.dom) k.dom (requests.Release place) now step → ShowsCalls s (began k.dom (requests.Release handle) ∷ h) tasks (giving_course k choice) (giving_actor a now step)
shows-giving s h tasks k a choice handle place now step show rest there serial is =
    let d = k.dom in let q = requests.Release handle in let g : History = began d q ∷ h in let same = begun-same s h d q in
    let all : k.held ≡ handles_at h d = rests s h tasks k a.next k.opened (open_call h d.0) a.«open» rest show.opens in
    let at : slice_get (handles_at h d) place.serial ≡ Some handle = ap (slice_get (handles_at h d)) serial ∙ ap (λ (l : List Handle). slice_get l choice) (sym all) ∙ there in
    let few : maps_answered_at h d.0 + 0 ≤ a.next = subst (λ (z : Opened). maps_answered_at h d.0 + tasks_open z ≤ a.next) rest show.few in
    record {
      left = show.left;
      begun = show.begun;
      few = subst (λ (m : ℕ). m + 0 ≤ a.next) (sym same.answered) few;
      rising = subst (λ (m : ℕ). SerialsRise 0 (handles_at g d) m) (sym same.answered) (subst (λ (hs : List Handle). SerialsRise 0 hs (maps_answered_at h d.0)) (sym (same-handles s h g d same)) show.rising);
      pins = show.pins ∙ ap (λ (ms : List (Handle × HeldPin)). map (λ (m : Handle × HeldPin). m.1) ms) (sym same.mappings);
      labels = subst (λ (hs : List Handle). LabelsShow k.named d hs (labels_of a.mappings.items)) (sym (same-handles s h g d same)) show.labels;
      opens = subst (λ (c : Option Underway). ShowsOpen s g tasks (giving_course k choice) a.next giving c (Some (record { task = None; call = now; step = step })))
          (sym (open_call-own (began d q) h)) (
            record {
              caller = is.caller;
              place = place;
              asks = is.asks;
              by_place = ap (λ (hs : List Handle). slice_get hs place.serial) (same-handles s h g d same) ∙ at;
              at = subst (λ (z : CallerKnowledge). IsAt z now []) (sym (same-by-place s h g d same)) is.at;
              follows = subst (λ (z : CallerKnowledge). path z d now.request [] ≡ Some (actions.Step step)) (sym (same-by-place s h g d same))
                  (ap (λ (r : OpenRequest). path (known_by_place s h d) d r []) is.asks ∙ is.follows);
            },
            refl,
            (
              handle,
              refl,
              ap (λ (l : List Handle). take choice l ++ drop (suc choice) l) all
                  ∙ without-place 0 (handles_at h d) (maps_answered_at h d.0) choice handle show.rising (ap (λ (l : List Handle). slice_get l choice) (sym all) ∙ there)
                  ∙ ap (handles_without handle) (sym (same-handles s h g d same)),
            ),
          );
    }
