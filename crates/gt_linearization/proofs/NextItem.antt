-- The next step of a call under way, and its item.
use Rattle.std.proofs.Common.{◌≡◌, ◌≢◌, ℕ, ◌<◌, List, [], ◌∷◌, ◌++◌, Option, Some, None, sym, refl, ap, ◌∙◌, subst}
use Rattle.std.proofs.Common.{reverse}
use Rattle.gt_types.specs.Config.{IsWithinLimits}
use Rattle.gt_types.specs.Names.{domain_of}
use Rattle.gt_types.specs.declared.DomId.{DomId}
use Rattle.gt_types.specs.declared.config.Config.{Config}
use Rattle.gt_types.specs.declared.limits.TheConstants.{TABLE_ENTRIES}
use Rattle.gt_model.specs.declared.handle.Handle.{Handle}
use Rattle.gt_words.specs.Conditions.{Board, HasDomain}
use Rattle.gt_word_history.specs.History.{Layout, Moment}
use Rattle.gt_word_history.specs.Rule.{layout_of}
use Rattle.gt_word_history.specs.Steps.{StoodWith}
use Rattle.gt_word_history.specs.declared.view.View.{View}
use Rattle.gt_calls.proofs.Saying.{begun-asked}
use Rattle.gt_model.specs.Asking.{SpellsItsEntry, asked, begun_of}
use Rattle.gt_model.specs.Path.{Continuation, FitsStep, after_beginning, path, path_of, steps_of}
use Rattle.gt_model.specs.Rules.{CallerKnowledge, begun}
use Rattle.gt_model.specs.declared.action.Action.{Action}
use Rattle.gt_model.specs.declared.action.Action.TheVariants.{Done}
use Rattle.gt_model.specs.declared.action.Action.TheVariants as actions
use Rattle.gt_model.specs.declared.action.Observation.{Observation}
use Rattle.gt_model.specs.declared.action.Step.{Step}
use Rattle.gt_model.specs.declared.action.Step.TheVariants.{Unpin}
use Rattle.gt_model.specs.declared.action.CallResult.{CallResult}
use Rattle.gt_model.specs.declared.held.HeldPin.{HeldPin}
use Rattle.gt_model.specs.declared.request.PinHolder.{PinHolder}
use Rattle.gt_model.specs.declared.request.PinHolder.TheVariants as holders
use Rattle.gt_model.specs.declared.request.Request.{Request}
use Rattle.gt_core.proofs.GoingOn.{open-calls-can-go-on}
use Rattle.gt_model.proofs.Observers.{stepped}
use Rattle.gt_core.specs.GoingOn.{AnsweredSo, AccessesNoBytes, CanBeReached}
use Rattle.gt_model.specs.History.{History, Setting, Underway, known_at, mapping_of, mappings_at, seen_by, values}
use Rattle.gt_model.specs.History.{setting_of}
use Rattle.gt_model.specs.Legal.{IsRight}
use Rattle.gt_model.specs.declared.trace.Answer.{Answer}
use Rattle.gt_live.proofs.Making.{made-fits}
use Rattle.gt_live.proofs.Walking.{after-position}
use Rattle.gt_live.specs.Domains.{AllowRelation, knowledge}
use Rattle.gt_live.specs.Walks.{Made, MakesStep, view_after, all_shown, shown_by, seen_in_step}
use Rattle.gt_live.specs.declared.domain.Domain.{Domain}
use Rattle.gt_linearization.proofs.Bytes.{said}
use Rattle.gt_linearization.proofs.Making.{MadeAs, made-as, on-words, one-moment}
use Rattle.gt_linearization.proofs.Seeing.{sees}
use Rattle.gt_linearization.proofs.Stages.{SeatNow}
use Rattle.gt_linearization.proofs.Stages.Stage.{Going}
use Rattle.gt_linearization.proofs.Stepping.{AreBounded, IsBounded, StandsHere, leg-all, stands-here, step-kept, within}
use Rattle.gt_linearization.specs.Agreeing.{Agree, IsThe, IsWithin, dom_at}
use Rattle.gt_linearization.specs.Ordering.{way_of}
use Rattle.gt_linearization.specs.Runs.{CallMade, DomainAct, IsCall}

-- a way that goes on with a step was not answered at its beginning
pub unanswered : (o : Option CallResult) (goes : Continuation) (vs : List Observation) (step : Step) → after_beginning o goes vs ≡ Some (actions.Step step) → o ≡ None
unanswered None goes vs step e = refl
unanswered (Some v) goes [] step e = absurd (cc)
unanswered (Some v) goes (x ∷ vs) step e = absurd (cc)

-- and is the path of what is asked
pub same-way : (k : CallerKnowledge) (d : DomId) (request : Request) → begun_of k d request ≡ None → (begun_of k d request ≡ None → SpellsItsEntry k.header request) → (vs : List Observation) → path k d (asked request) vs ≡ path_of k d request vs
same-way k d request none said vs =
    let quiet : begun k d (asked request) ≡ None = begun-asked k d request none (said none) in
    ap (λ (o : Option CallResult). after_beginning o (steps_of k d (asked request)) vs) (quiet ∙ sym none)

-- the step and its item
pub record GoesSo (c : Config) (may : AllowRelation) (k : Layout) (g : History) (i : ℕ) (cl : Underway) (before : List Observation) (way : Continuation) (x : Moment) (v w : View) (answer : Option Answer) : Type 0 where
  pub step : Step
  pub next : way before ≡ Some (actions.Step step)
  pub the : IsThe k i step x.1
  pub right : IsRight (setting_of c may) g (stepped (dom_at k i) step (seen_in_step x.1) answer)
  pub reached : CanBeReached (setting_of c may) (stepped (dom_at k i) step (seen_in_step x.1) answer ∷ g)
  pub agree : Agree (setting_of c may) k (stepped (dom_at k i) step (seen_in_step x.1) answer ∷ g) ((i, x.1) ∷ x.0)
  pub inner : IsWithin k step
  pub here : StandsHere (setting_of c may) g (dom_at k i) cl step
  pub quiet : AccessesNoBytes step
  pub sees : seen_by (setting_of c may) g (dom_at k i) step ≡ seen_in_step x.1
  pub fits : FitsStep step (seen_in_step x.1)
  pub on_path : path (known_at (setting_of c may) g (dom_at k i)) (dom_at k i) cl.request (values cl) ≡ Some (actions.Step step)
  pub stood : StoodWith (Unit {0}) k x.0 v
  pub stands : StoodWith (Unit {0}) k ((v.position, x.1) ∷ x.0) w

module _ (b : Board) (c : Config) (may : AllowRelation) (limits : IsWithinLimits c) (is : b.layout ≡ layout_of c) (g : History) (i : ℕ) (inside : i < b.layout.domains) (m : CallMade) (ms : List DomainAct) (first : Domain)
    (xs : List Moment) (x : Moment) (call : IsCall b c may m) (at : m.old.seat.view.position ≡ i) (named : domain_of c.domains.items (dom_at b.layout i) ≢ None) (reached : CanBeReached (setting_of c may) g)
    (agree : Agree (setting_of c may) b.layout g x.0) (seat : SeatNow c may g (dom_at b.layout i) first (Going ms m xs))
    (bounded : AreBounded b.layout g) (walk : MakesStep b.layout (way_of c may m (all_shown xs)) (shown_by x) (view_after xs m.old.seat.view) (view_after (x ∷ xs) m.old.seat.view)) where
  abbrev k : Layout
  k = b.layout

  abbrev s : Setting
  s = setting_of c may

  abbrev d : DomId
  d = dom_at k i

  abbrev v : View
  v = view_after xs m.old.seat.view

  abbrev w : View
  w = view_after (x ∷ xs) m.old.seat.view

  abbrev know : CallerKnowledge
  know = knowledge c may m.old

  abbrev way : Continuation
  way = way_of c may m

  abbrev cl : Underway
  cl = seat.call.0

  own : m.old.seat.dom ≡ d
  own = sym call.before.seat.named ∙ ap (dom_at k) at

  stood-at : v.position ≡ i
  stood-at = after-position xs m.old.seat.view ∙ at

  pub on-way : (step : Step) → way (all_shown xs) ≡ Some (actions.Step step) → (vs : List Observation) → path (known_at s g d) d cl.request vs ≡ way vs
  on-way step next vs =
      let none : begun_of know m.old.seat.dom m.request ≡ None = unanswered (begun_of know m.old.seat.dom m.request) (steps_of know m.old.seat.dom (asked m.request)) (all_shown xs) step next in
      (λ j. path (seat.known j) (sym own j) (seat.call.2 j) vs) ∙ same-way know m.old.seat.dom m.request none (said know m.old.seat.dom m.request call.fits.1) vs

  values-then : (seen : Observation) → seen ≡ shown_by x → values cl ++ seen ∷ [] ≡ all_shown (x ∷ xs)
  values-then seen e = λ j. seat.call.3 j ++ e j ∷ []

  goes-with : (step : Step) → way (all_shown xs) ≡ Some (actions.Step step) → Made k step (shown_by x) v w → (action : Action) (answer : Option Answer) → way (all_shown (x ∷ xs)) ≡ Some action → AnsweredSo g d action answer → GoesSo c may k g i cl (all_shown xs) way x v w answer
  goes-with step next made action answer then answered =
      let quiet : AccessesNoBytes step = on-words k step (shown_by x) v w made in
      let y = made-as k i v w stood-at step (shown_by x) made in
      let same : x ≡ y.0 = one-moment x y.0 v y.1.view in
      let so : MadeAs k i step (shown_by x) v w x = subst (MadeAs k i step (shown_by x) v w) (sym same) y.1 in
      let on : path (known_at s g d) d cl.request (values cl) ≡ Some (actions.Step step) = ap (path (known_at s g d) d cl.request) seat.call.3 ∙ (on-way step next (all_shown xs) ∙ next) in
      let here = stands-here s g d cl step reached named seat.call.1 on in
      let inner : IsWithin k step = within c may k g d cl step is here quiet (λ p holder e. unpinned step here p holder e) in
      let saw : seen_by s g d step ≡ seen_in_step x.1 = sees c s k g x.0 i is agree inside step x.1 inner so.the so.recorded in
      let goes = open-calls-can-go-on s g d cl step action answer reached named seat.call.1 on quiet (on-way step next (values cl ++ seen_by s g d step ∷ []) ∙ (ap way (values-then (seen_by s g d step) saw) ∙ then)) answered in
      let right : IsRight s g (stepped d step (seen_in_step x.1) answer) = subst (λ (z : Observation). IsRight s g (stepped d step z answer)) saw goes.0 in record {
        step = step;
        next = next;
        the = so.the;
        right = right;
        reached = subst (λ (z : Observation). CanBeReached s (stepped d step z answer ∷ g)) saw goes.1;
        agree = step-kept c may k g x.0 i cl step x.1 answer is limits inside reached agree named seat.call.1 on inner so.the so.stores so.recorded right;
        inner = inner;
        here = here;
        quiet = quiet;
        sees = saw;
        fits = made-fits k step (shown_by x) v w made;
        on_path = on;
        stood = so.stood;
        stands = so.stands;
      }
    where
      mapped : (p : HeldPin) (handle : Handle) → mapping_of (mappings_at g d.0) handle ≡ Some p → HasDomain k p.dom × (p.gref.0 < TABLE_ENTRIES)
      mapped p handle found = let pin = (call.before.mapped handle p (ap (λ (f : Handle → Option HeldPin). f handle) seat.maps.named ∙ found)).pin in (pin.run, pin.inside)

      unpinned : (z : Step) → StandsHere s g d cl z → (p : HeldPin) (holder : PinHolder) → z ≡ Unpin p holder → HasDomain k p.dom × (p.gref.0 < TABLE_ENTRIES)
      unpinned z here p (holders.Mapping handle) e = let r = subst (StandsHere s g d cl) e here in mapped p handle r.here.rests.1.1
      unpinned z here p (holders.Leg n) e = let r = subst (StandsHere s g d cl) e here in
          leg-all (IsBounded k) s g r.core.domains d cl.request (values cl) (reverse cl.steps) r.phase (Unpin p (holders.Leg n)) p n r.here r.here.rests.1 bounded

  pub goes-so : (action : Action) (answer : Option Answer) → way (all_shown (x ∷ xs)) ≡ Some action → AnsweredSo g d action answer → GoesSo c may k g i cl (all_shown xs) way x v w answer
  goes-so action answer then answered = by (way (all_shown xs)) refl walk
    where
      by : (o : Option Action) → way (all_shown xs) ≡ o → MakesStep k o (shown_by x) v w → GoesSo c may k g i cl (all_shown xs) way x v w answer
      by (Some (actions.Step step)) e made = goes-with step e made action answer then answered
      by (Some (Done verdict)) e made = absurd made
      by None e made = absurd made
