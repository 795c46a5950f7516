-- Calls of one step.
use Rattle.std.proofs.Common.{◌≡◌, ◌∙◌, sym, ap, subst, [], ◌∷◌, Option}
use Rattle.gt_word_history.specs.Rule.{Layout}
use Rattle.gt_word_history.specs.declared.view.View.{View}
use Rattle.gt_model.specs.Path.{Continuation, ended as ends_so, makes}
use Rattle.gt_model.specs.declared.action.Action.{Action}
use Rattle.gt_model.specs.declared.action.Observation.{Observation}
use Rattle.gt_model.specs.declared.action.Observation.TheVariants as observations
use Rattle.gt_model.specs.declared.action.Step.{Step}
use Rattle.gt_model.specs.declared.action.CallResult.TheVariants.{Granted}
use Rattle.gt_live.specs.Walks.{Called, Made, MakesStep, view_after, shown_by}
use Rattle.gt_live.proofs.Making.{made-gains}

-- a call of one step, which shows nothing and is Ok
pub one-step : (k : Layout) (way : Continuation) (s : Step) (v w : View) → way ≡ makes s (ends_so Granted)
    → Made k s observations.Nothing v w → Called k way Granted v w
one-step k way s v w is made =
    let gain = made-gains k s observations.Nothing v w made in
    let here : Made k s (shown_by gain.step) v (view_after (gain.step ∷ []) v) =
    subst (λ (u : View). Made k s (shown_by gain.step) v u) gain.view
    (subst (λ (x : Observation). Made k s x v w) (sym gain.shows) made) in
    record {
      steps = gain.step ∷ [];
      view = gain.view;
      walked = (
        subst (λ (o : Option Action). MakesStep k o (shown_by gain.step) v (view_after (gain.step ∷ []) v))
            (sym (ap (λ (t : Continuation). t []) is)) here,
        tt,
      );
      moments = (gain.took, gain.mine, tt);
      answered = ap (λ (t : Continuation). t (shown_by gain.step ∷ [])) is
          ∙ ap (λ (x : Observation). makes s (ends_so Granted) (x ∷ [])) gain.shows;
      carried = tt;
    }
