use Rattle.std.proofs.Common.{◌≡◌, ◌∷◌, drop, map}
use Rattle.gt_explore_verdict.specs.Calls.{form_begun_in}
use Rattle.gt_explore_verdict.proofs.calls.form_begun_in.Given as goal

abbrev pub invariant-forms : goal.invariant-forms
invariant-forms l =
    form_begun_in l.forms (l.first ∷ map (λ w. w.now) l.more)
    ≡ form_begun_in (drop l.form-index l.forms) (l.first ∷ map (λ w. w.now) l.more)
