use Rattle.std.proofs.Common.{◌≡◌}
use Rattle.gt_live.specs.Closing.{AreRefused, StaysQuiet}
use Rattle.gt_live.specs.Domains.{BelongsTo}
use Rattle.gt_live.proofs.domain.Domain.withdraw_often.Given as goal

abbrev pub invariant-asked : goal.invariant-asked
invariant-asked g l = record {
  mine : BelongsTo g.P.Allows.may l.monitor l.self;
  quiet : StaysQuiet l.fn.self l.self;
  same : l.self.own.items ≡ l.fn.self.own.items;
  refused : AreRefused g.P.Allows.may l.monitor l.fn.self l.gref l.counter l.self;
}
