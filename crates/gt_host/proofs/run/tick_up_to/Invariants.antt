use Rattle.std.proofs.Common.{◌≡◌}
use Rattle.gt_model.specs.History.{History, setting_of}
use Rattle.gt_core.specs.Standing.{CoreStands}
use Rattle.gt_host.proofs.RunLemmas.{IsTicking}
use Rattle.gt_host.proofs.run.tick_up_to.Given as goal

abbrev pub invariant-ticks : goal.invariant-ticks
invariant-ticks g l =
    (l.core.config ≡ l.initial.core.config) × (l.core.rights ≡ l.initial.core.rights)
    × ((h : History) → CoreStands (setting_of l.initial.core.config (g.P.Allows.may l.initial.core.rights)) h l.initial.core.state
    → IsTicking (setting_of l.initial.core.config (g.P.Allows.may l.initial.core.rights)) h l.dom l.counter l.core.state)
