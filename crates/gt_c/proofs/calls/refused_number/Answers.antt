use Rattle.std.proofs.Common.{◌≡◌, ◌∙◌, ap, refl}
use Rattle.gt_types.specs.Denial.{denial_of}
use Rattle.gt_types.specs.declared.denial.Denial.{Denial}
use Rattle.gt_types.specs.declared.denial.Facts.TheVariants as facts
use Rattle.gt_attached.specs.Encoding.{encoded}
use Rattle.gt_attached.specs.declared.answer.AttachedOutcome.TheVariants as outcomes
use Rattle.gt_c.proofs.Made.{unmade}
use Rattle.gt_c.proofs.calls.refused_number.Goals as goal

pub returns : goal.returns
returns c =
    unmade c.of.result (λ d e. (e ≡ d) × (c.of.result ≡ encoded (outcomes.Denied (denial_of c.args.rule facts.None))))
    (c.turned_away.ensures.may c.in_default.is)
    (λ d. (refl, c.of.ensures ∙ ap (λ (x : Denial). encoded (outcomes.Denied x)) c.new.ensures))
