use Rattle.gt_core.proofs.Words.{◌∙◌, ap, refl}
use Rattle.gt_core.proofs.Placed.{ids_in, ids-changed}
use Rattle.gt_core.proofs.effects.apply.Goals as goal

pub forget-requires : goal.forget-requires
forget-requires c = ap ids_in c.change_slot-in-Unpin-default.ensures ∙ ids-changed c.args.domains.now _ _ (λ x. refl) ∙ c.requires
