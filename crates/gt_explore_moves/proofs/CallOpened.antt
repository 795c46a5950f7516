-- A domain of a state whose next line's call has begun, and is open.
use Rattle.std.proofs.Common.{◌≡◌, ◌+◌, ◌≤◌, ℕ, zero, suc, refl, List, [], ◌∷◌, length, map, drop, Option, Some, None}
use Rattle.std.proofs.Common.{sym, ap, ◌∙◌, arith, subst}
use Rattle.std.specs.Prelude.{slice_get}
use Rattle.gt_types.specs.declared.DomId.{DomId}
use Rattle.gt_model.specs.declared.handle.Handle.{Handle}
use Rattle.gt_model.specs.declared.action.Action.TheVariants as actions
use Rattle.gt_model.specs.declared.action.Step.{Step}
use Rattle.gt_calls.specs.declared.call.Call.{Call}
use Rattle.gt_model.specs.declared.held.HeldPin.{HeldPin}
use Rattle.gt_model.specs.declared.request.OpenRequest.{OpenRequest}
use Rattle.gt_model.specs.declared.request.Request.{Request}
use Rattle.gt_model.specs.Asking.{asked, bytes_given_by}
use Rattle.gt_model.specs.Path.{path}
use Rattle.gt_model.specs.Rules.{CallerKnowledge}
use Rattle.gt_calls.specs.Standing.{IsAt}
use Rattle.gt_model.specs.History.{History, Pin, Setting, Underway, gather, mapping_named, maps_answered_at}
use Rattle.gt_model.specs.History.{open_call}
use Rattle.gt_model.specs.declared.trace.ItemEvent.TheVariants.{Began}
use Rattle.gt_model.specs.declared.trace.Item.{Item}
use Rattle.gt_model.proofs.Observers.{answered-stays, kept-known, kept-live}
use Rattle.gt_core.proofs.AgreementKept.{open_call-own}
use Rattle.gt_script_runs.specs.Runs.{MakesRequest}
use Rattle.gt_script_lines.specs.declared.calls.ScriptCall.{ScriptCall}
use Rattle.gt_explore_replay.specs.Courses.{Course, Opened, calling, resting}
use Rattle.gt_explore_replay.specs.Orders.{given_up}
use Rattle.gt_script.specs.Lists.{RunTask}
use Rattle.gt_script.specs.declared.tasks.RunAction.TheVariants.{Do}
use Rattle.gt_explore_moves.specs.Beginnings.{OpensAsRun}
use Rattle.gt_explore_moves.specs.Calls.{AsksByPlace, LabelsShow, SerialsRise, ShowsCalls, ShowsOpen, handles_at}
use Rattle.gt_explore_moves.specs.Calls.{known_by_place, tasks_open}
use Rattle.gt_explore_moves.specs.Mappings.{labels_of}
use Rattle.gt_explore_moves.specs.Renaming.{asked_under}
use Rattle.gt_explore_moves.specs.declared.actor.Actor.{Actor}
use Rattle.gt_explore_moves.specs.declared.actor.ActorCall.{ActorCall}
use Rattle.gt_explore_moves.specs.Starting.{opened_actor}
use Rattle.gt_explore_moves.specs.Continuing.{SameKnown}
use Rattle.gt_explore_moves.proofs.OthersStay.{same-by-place, same-handles}

-- the beginning of a call of this domain, which goes on
abbrev pub began : DomId → Request → Item
began d q = record { actor = d; happened = Began q; answer = None }

abbrev pub call_begun : Request → Underway
call_begun q = record { request = asked q; given = bytes_given_by q; steps = [] }

pub begun-same : (s : Setting) (h : History) (d : DomId) (q : Request) → SameKnown s h (began d q ∷ h) d
begun-same s h d q = let i = began d q in
    let live-same = kept-live i h (record { changes = λ r. refl; pins = λ before ps. refl; unpins = λ pins. refl; maps = refl }) in record {
      mappings = ap (λ (ps : List Pin). gather mapping_named d.0 ps) live-same;
      answered = answered-stays h i d.0 refl;
      known = kept-known s i h d (record { changes = λ r. refl; pins = λ before ps. refl; unpins = λ pins. refl; maps = refl }) refl;
    }

-- the task that is next, and those after it
pub next-task : (n : ℕ) (xs : List RunTask) (t : RunTask) (ts : List RunTask) → t ∷ ts ≡ drop n xs → (slice_get xs n ≡ Some t) × (ts ≡ drop (n + 1) xs) × (n + 1 ≤ length xs)
next-task zero [] t ts e = cc
next-task zero (x ∷ xs) t ts e = ((let f : x ≡ t = cc in ap (λ (z : RunTask). Some z) f), (let f : ts ≡ xs = cc in f), omega arith)
next-task (suc n) [] t ts e = cc
next-task (suc n) (x ∷ xs) t ts e = let r = next-task n xs t ts e in
    (r.0, r.1 ∙ ap (λ (m : ℕ). drop m (x ∷ xs)) (let f : suc (n + 1) ≡ suc n + 1 = omega arith in f), (let le : n + 1 ≤ length xs = r.2 in omega arith))

-- at rest a domain holds the handles of all its mappings, and has nothing open
pub rests : (s : Setting) (h : History) (tasks : List RunTask) (k : Course) (next : ℕ) (opened : Opened) (c : Option Underway) (o : Option ActorCall) → opened ≡ resting → ShowsOpen s h tasks k next opened c o → k.held ≡ handles_at h k.dom
rests s h tasks k next opened c o rest show = by c o (subst (λ (z : Opened). ShowsOpen s h tasks k next z c o) rest show) where
  by : (c : Option Underway) (o : Option ActorCall) → ShowsOpen s h tasks k next resting c o → k.held ≡ handles_at h k.dom
  by None None show = show
  by None (Some o) show = absurd show
  by (Some c) None show = absurd show
  by (Some c) (Some o) show = absurd show

-- what a domain is then
abbrev pub opened_course : Course → List RunTask → RunTask → ScriptCall → Request → Course
opened_course k ts t call q = record k { tasks = ts; opened = calling t.line call (given_up q) }

-- it is where the run has brought it, if the call asks the same but for the handle
pub shows-opened : (s : Setting) (h : History) (tasks ts : List RunTask) (k : Course) (a : Actor) (t : RunTask) (call : ScriptCall) (q p : Request) (place : Handle) (now : Call) (step : Step) → ShowsCalls s h tasks k a → k.opened ≡ resting → k.tasks ≡ t ∷ ts → t.dom ≡ k.dom → t.run_action ≡ Do call
    → MakesRequest k.named k.dom call q → asked p ≡ asked_under place (asked q) → AsksByPlace (handles_at h k.dom) place (asked q) → OpensAsRun (known_by_place s h k.dom) k.dom p now step
    → ShowsCalls s (began k.dom q ∷ h) tasks (opened_course k ts t call q) (opened_actor a now step)
shows-opened s h tasks ts k a t call q p place now step show rest left dom run_action says asks by_place is =
    let d = k.dom in let g : History = began d q ∷ h in let same = begun-same s h d q in
    let n = next-task a.next tasks t ts (sym left ∙ show.left) in
    let few : maps_answered_at h d.0 + 0 ≤ a.next = subst (λ (z : Opened). maps_answered_at h d.0 + tasks_open z ≤ a.next) rest show.few in
    record {
      left = n.1;
      begun = n.2;
      few = subst (λ (m : ℕ). m + 1 ≤ a.next + 1) (sym same.answered) (omega arith);
      rising = subst (λ (m : ℕ). SerialsRise 0 (handles_at g d) m) (sym same.answered) (subst (λ (hs : List Handle). SerialsRise 0 hs (maps_answered_at h d.0)) (sym (same-handles s h g d same)) show.rising);
      pins = show.pins ∙ ap (λ (ms : List (Handle × HeldPin)). map (λ (m : Handle × HeldPin). m.1) ms) (sym same.mappings);
      labels = subst (λ (hs : List Handle). LabelsShow k.named d hs (labels_of a.mappings.items)) (sym (same-handles s h g d same)) show.labels;
      opens = subst (λ (c : Option Underway). ShowsOpen s g tasks (opened_course k ts t call q) (a.next + 1) (calling t.line call (given_up q)) c (Some (record { task = Some a.next; call = now; step = step })))
          (sym (open_call-own (began d q) h)) (
            record {
              caller = is.caller;
              place = place;
              asks = is.asks ∙ asks;
              by_place = subst (λ (hs : List Handle). AsksByPlace hs place (asked q)) (sym (same-handles s h g d same)) by_place;
              at = subst (λ (z : CallerKnowledge). IsAt z now []) (sym (same-by-place s h g d same)) is.at;
              follows = subst (λ (z : CallerKnowledge). path z d now.request [] ≡ Some (actions.Step step)) (sym (same-by-place s h g d same))
                  (ap (λ (r : OpenRequest). path (known_by_place s h d) d r []) is.asks ∙ is.follows);
            },
            record { place = a.next; task_is = refl; last = (let e : suc a.next ≡ a.next + 1 = omega arith in e); of_task = t; there = n.0; dom_is = dom; line_is = refl; action_is = run_action },
            record { named = k.named; request = q; makes = says; asks = refl; given = refl; lost_is = refl },
            rests s h tasks k a.next k.opened (open_call h d.0) a.«open» rest show.opens ∙ sym (same-handles s h g d same),
          );
    }
