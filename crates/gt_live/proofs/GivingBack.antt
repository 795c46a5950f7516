-- Pins that a copy gives back, one after another.
use Rattle.std.proofs.Common.{◌≡◌, ◌∙◌, refl, sym, ap, subst, List, [], ◌∷◌, ◌++◌, length, Option, Some, inl}
use Rattle.std.proofs.Common.{append_assoc}
use Rattle.std.proofs.lemmas.List.{append-nil}
use Rattle.gt_types.specs.declared.DomId.{DomId}
use Rattle.gt_types.specs.declared.denial.Denial.{Denial}
use Rattle.gt_word_history.specs.Rule.{Layout}
use Rattle.gt_word_history.specs.declared.view.View.{View}
use Rattle.gt_model.specs.declared.action.Action.{Action}
use Rattle.gt_model.specs.declared.action.Action.TheVariants as actions
use Rattle.gt_model.specs.declared.action.Observation.{Observation}
use Rattle.gt_model.specs.declared.action.Observation.TheVariants.{Nothing}
use Rattle.gt_model.specs.declared.action.Step.TheVariants.{Unpin}
use Rattle.gt_model.specs.declared.action.CallResult.TheVariants.{Granted, Refused}
use Rattle.gt_calls.specs.declared.call.Phase.{Phase}
use Rattle.gt_calls.specs.declared.call.Phase.TheVariants.{Ending}
use Rattle.gt_model.specs.declared.held.HeldPin.{HeldPin}
use Rattle.gt_model.specs.declared.held.CallPins.{CallPins}
use Rattle.gt_model.specs.declared.held.AccessPath.{AccessPath}
use Rattle.gt_model.specs.declared.held.AccessPath.TheVariants.{Own, Direct, Through}
use Rattle.gt_model.specs.declared.request.PinHolder.TheVariants as holders
use Rattle.gt_model.specs.Holding.{held_by, last_first, no_pins, without_last}
use Rattle.gt_calls.specs.Machine.{next_to_give}
use Rattle.gt_model.specs.Path.{Continuation, give_back}
use Rattle.gt_model.specs.Rules.{CallerKnowledge}
use Rattle.gt_live.specs.Copies.{CanGiveBack, IsGivenBack}
use Rattle.gt_live.specs.Driving.{CanMake}
use Rattle.gt_live.specs.Phases.{CanRun, Runs}
use Rattle.gt_live.specs.Underway.{AreOfRun, GivesBack, HasTaken}
use Rattle.gt_live.specs.Walks.{IsWalk, Made, MakesStep, view_after, all_shown, shown_by}
use Rattle.gt_live.proofs.Making.{made-gains}
use Rattle.gt_live.proofs.Phases.{can-then, runs-none, runs-on}
use Rattle.gt_live.proofs.Taking.{holds-taken, taken-unpin}

-- pins of all of these are being given back, and these are left
record Giving (k : Layout) (all : List HeldPin) (v w : View) (left : List HeldPin) : Type 0 where
  steps : List _
  view : w ≡ view_after steps v
  walked : IsWalk k (give_back all Granted) v steps
  leads : (vs : List Observation) → give_back all Granted (all_shown steps ++ vs) ≡ give_back left Granted vs

module _ (k : Layout) where
  giving-on : (all : List HeldPin) (v u w : View) (p : HeldPin) (left : List HeldPin) → Giving k all v u (p ∷ left)
      → Made k (Unpin p (holders.Leg 0)) Nothing u w → Giving k all v w left
  giving-on all v u w p left g made =
      let s = Unpin p (holders.Leg (length left)) in let way : Continuation = give_back all Granted in
      let mid = view_after g.steps v in
      let m1 : Made k s Nothing mid w = subst (λ (z : View). Made k s Nothing z w) g.view made in
      let gain = made-gains k s Nothing mid w m1 in
      let view : w ≡ view_after (gain.step ∷ g.steps) v = gain.view in
      let next : way (all_shown g.steps) ≡ Some (actions.Step s) = ap way (sym (append-nil (all_shown g.steps))) ∙ g.leads [] in
      let m2 : Made k s (shown_by gain.step) mid (view_after (gain.step ∷ g.steps) v) =
      subst (λ (z : View). Made k s (shown_by gain.step) mid z) view
      (subst (λ (y : Observation). Made k s y mid w) (sym gain.shows) m1) in
      record {
        steps = gain.step ∷ g.steps;
        view = view;
        walked = (
          subst (λ (o : Option Action). MakesStep k o (shown_by gain.step) mid (view_after (gain.step ∷ g.steps) v))
              (sym next) m2,
          g.walked,
        );
        leads = λ vs.
            ap (λ (y : Observation). way ((all_shown g.steps ++ y ∷ []) ++ vs)) gain.shows
            ∙ (ap way (append_assoc (all_shown g.steps) (Nothing ∷ []) vs) ∙ g.leads (Nothing ∷ vs));
      }

  giving-all : (all : List HeldPin) (v u w : View) (left : List HeldPin) → Giving k all v u left → IsGivenBack k left u w
      → Giving k all v w []
  giving-all all v u w [] g x = subst (λ (z : View). Giving k all v z []) (sym x) g
  giving-all all v u w (p ∷ left) g x = giving-all all v x.0 w left (giving-on all v u x.0 p left g x.1) x.2

  -- all that were taken are gone
  pub given-taken : (ps rest : List HeldPin) (base v w : View) → IsGivenBack k ps v w → HasTaken k (ps ++ rest) base v
      → HasTaken k rest base w
  given-taken [] rest base v w x taken = subst (λ (z : View). HasTaken k rest base z) (sym x) taken
  given-taken (p ∷ ps) rest base v w x taken =
      given-taken ps rest base x.0 w x.2 (taken-unpin k p (ps ++ rest) base v x.0 x.1 taken)

  pub given-both : (ps qs : List HeldPin) (v u w : View) → IsGivenBack k ps v u → IsGivenBack k qs u w
      → IsGivenBack k (ps ++ qs) v w
  given-both [] qs v u w x y = subst (λ (z : View). IsGivenBack k qs z w) x y
  given-both (p ∷ ps) qs v u w x y = (x.0, x.1, given-both ps qs x.0 u w x.2 y)

  -- the pins of a copy at its access
  pub gives-back : (access_paths : CallPins) (v w : View) → IsGivenBack k (last_first access_paths) v w → GivesBack k access_paths v w
  gives-back access_paths v w x =
      let all = last_first access_paths in
      let g = giving-all all v v w all (record { steps = []; view = refl; walked = tt; leads = λ vs. refl }) x in
      record {
        steps = g.steps;
        view = g.view;
        walked = g.walked;
        ended = ap (give_back all Granted) (sym (append-nil (all_shown g.steps))) ∙ g.leads [];
        back = λ base taken. given-taken all [] base v w x
            (subst (λ (ps : List HeldPin). HasTaken k ps base v) (sym (append-nil all)) taken);
      }

  -- pins that were taken can be given back
  pub can-give : (ps rest : List HeldPin) (base v : View) → HasTaken k (ps ++ rest) base v → AreOfRun k ps
      → CanGiveBack k ps v
  can-give [] rest base v taken all = tt
  can-give (p ∷ ps) rest base v taken all = (
    (all.0.0, all.0.1, holds-taken k (p ∷ (ps ++ rest)) base v p taken (inl refl)),
    λ u made. can-give ps rest base u (taken-unpin k p (ps ++ rest) base v u made taken) all.1,
  )

  pub dest-run : (ps qs : List HeldPin) → AreOfRun k (ps ++ qs) → AreOfRun k ps
  dest-run [] qs all = tt
  dest-run (p ∷ ps) qs all = (all.0, dest-run ps qs all.1)

  pub source-run : (ps qs : List HeldPin) → AreOfRun k (ps ++ qs) → AreOfRun k qs
  source-run [] qs all = all
  source-run (p ∷ ps) qs all = source-run ps qs all.1

  -- at the end of a refused copy its last pin is given back
  module _ (c : CallerKnowledge) (caller : DomId) (start : Phase) (v : View) where
    pub can-last : (pins : CallPins) (denial : Denial) (p : HeldPin) (others : List HeldPin) (u : View)
        → last_first pins ≡ p ∷ others → CanRun c k caller start v
        → Runs c k caller start v (Ending pins (Refused denial)) u → CanMake k u (Unpin p (holders.Leg 0))
    can-last pins denial p others u is can x =
        can (Ending pins (Refused denial)) u (Unpin p (holders.Leg (length others))) x
        (ap (λ (ps : List HeldPin). next_to_give ps (Refused denial)) is) (λ from to len e. cc)

    pub last-given : (pins : CallPins) (denial : Denial) (p : HeldPin) (others : List HeldPin) (u w : View)
        → last_first pins ≡ p ∷ others → Runs c k caller start v (Ending pins (Refused denial)) u
        → Made k (Unpin p (holders.Leg 0)) Nothing u w
        → Runs c k caller start v (Ending (without_last pins) (Refused denial)) w
    last-given pins denial p others u w is x made =
        runs-on c k caller start (Ending pins (Refused denial)) Nothing v u w x
        (subst (λ (ps : List HeldPin). MakesStep k (Some (next_to_give ps (Refused denial))) Nothing u w) (sym is) made)

  -- at the end of a copy that its destination refused, the pins of its source are given back
  abbrev pub only_source : AccessPath → CallPins
  only_source source = record { source = source; dest = Own }

  module _ (c : CallerKnowledge) (caller : DomId) (denial : Denial) where
    can-give-one : (p : HeldPin) (u : View)
        → CanRun c k caller (Ending (only_source (Direct p)) (Refused denial)) u → CanGiveBack k (p ∷ []) u
    can-give-one p u can = (
      can-last c caller (Ending (only_source (Direct p)) (Refused denial)) u (only_source (Direct p)) denial p [] u refl
          can (runs-none c k caller _ u),
      λ w made. tt,
    )

    pub can-give-source : (source : AccessPath) (u : View)
        → CanRun c k caller (Ending (only_source source) (Refused denial)) u → CanGiveBack k (held_by source) u
    can-give-source Own u can = tt
    can-give-source (Direct p) u can = can-give-one p u can
    can-give-source (Through via p) u can =
        let both = Ending (only_source (Through via p)) (Refused denial) in
        let one = Ending (only_source (Direct via)) (Refused denial) in (
          can-last c caller both u (only_source (Through via p)) denial p (via ∷ []) u refl can
              (runs-none c k caller _ u),
          λ w made.
              can-give-one via w
              (can-then c k caller both one u w can
              (last-given c caller both u (only_source (Through via p)) denial p (via ∷ []) u w refl
              (runs-none c k caller _ u) made)),
        )

    pub source-given : (source : AccessPath) (u w : View) → IsGivenBack k (held_by source) u w
        → Runs c k caller (Ending (only_source source) (Refused denial)) u (Ending no_pins (Refused denial)) w
    source-given Own u w x =
        subst (λ (z : View). Runs c k caller (Ending no_pins (Refused denial)) u (Ending no_pins (Refused denial)) z)
        (sym x) (runs-none c k caller _ u)
    source-given (Direct p) u w x =
        subst (λ (z : View). Runs c k caller (Ending (only_source (Direct p)) (Refused denial)) u
        (Ending no_pins (Refused denial)) z) (sym x.2)
        (last-given c caller (Ending (only_source (Direct p)) (Refused denial)) u (only_source (Direct p)) denial p []
        u x.0 refl (runs-none c k caller _ u) x.1)
    source-given (Through via p) u w x =
        let both = Ending (only_source (Through via p)) (Refused denial) in
        let there = last-given c caller both u (only_source (Through via p)) denial p (via ∷ []) u x.0 refl
        (runs-none c k caller _ u) x.1 in
        subst (λ (z : View). Runs c k caller both u (Ending no_pins (Refused denial)) z) (sym x.2.2)
        (last-given c caller both u (only_source (Direct via)) denial via [] x.0 x.2.0 refl there x.2.1)
