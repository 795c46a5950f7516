use Rattle.std.proofs.Common.{◌+◌, ℕ, ap, sym, ◌∙◌}
use Rattle.std.specs.Prelude.{nat_le}
use Rattle.gt_explore_changes.specs.Blocks.{blocks_with}
use Rattle.gt_explore_changes.proofs.Waiting.{left-enough, none-enough}
use Rattle.gt_explore_changes.proofs.space.BlockSpace.may_end.Goals as goal

pub returns-in-Some : goal.returns-in-Some
returns-in-Some c =
    left-enough c.in-Some.blocks c.waiting.result c.args.self.now.most c.in-Some.ensures.few
    ∙ ap (λ (n : ℕ). nat_le (n + c.waiting.result) c.args.self.now.most) c.in-Some.ensures.some
    ∙ ap (λ (n : ℕ). nat_le (blocks_with c.args.state.now.last c.args.state.now.blocks c.args.turn.place + n) c.args.self.now.most) c.waiting.ensures

pub returns-in-None : goal.returns-in-None
returns-in-None c = sym (none-enough _ _ c.args.self.now.most (c.blocks_within.ensures.none c.in-None.is))
