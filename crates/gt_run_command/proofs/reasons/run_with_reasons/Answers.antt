use Rattle.gt_run_command.proofs.RelayLemmas.{relayed}
use Rattle.gt_run_command.proofs.reasons.run_with_reasons.Goals as goal

pub returns : goal.returns
returns g c =
    let ran = rw c.new-input.ensures at c.run_as-outcome.ensures in
    relayed (g.G.Gate.refuses c.args.settings.now.gate.now) _ _ _ c.new-text.result.items c.run_as-outcome.new.out.items c.as_slice.result.now _ _ _ _
    c.new-text.ensures.items c.as_slice.ensures.value ran c.relay-ending.ensures
