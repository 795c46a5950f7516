use Rattle.gt_core.proofs.Words.{ℕ, ◌∙◌, ap, sym, Step}
use Rattle.gt_core.specs.Sight.{exchange_sees, sees}
use Rattle.gt_core.proofs.sight.see.Goals as goal

pub returns-in-Exchange : goal.returns-in-Exchange
returns-in-Exchange c =
    c.exchange_sees-in-Exchange.ensures
    ∙ ap (λ (n : ℕ). exchange_sees n c.in-Exchange.looked) c.look_control-in-Exchange.ensures
    ∙ sym (ap (λ (s : Step). sees c.args.domains.now c.args.actor s) c.in-Exchange.is)
