use Rattle.std.proofs.Common.{◌≡◌, ◌+◌, ℕ}
use Rattle.gt_attached.specs.Seated.{StaysIdle}
use Rattle.gt_attached.specs.Unused.{PassesOver}
use Rattle.gt_attached.proofs.attached.AttachedDomain.unused.Given as goal

abbrev pub invariant-entries : goal.invariant-entries
invariant-entries g l = record {
  stays : StaysIdle l.fn.self l.self;
  count : ℕ;
  at : l.at ≡ l.fn.from.0 + count;
  passed : PassesOver l.fn.self.monitor.words.layout l.fn.self.domain l.fn.from.0 count l.self.domain;
}
