use Rattle.std.proofs.Common.{◌≡◌, ℕ}
use Rattle.gt_attached.specs.Renewing.{SeesAlike}
use Rattle.gt_attached.specs.Seated.{StaysIdle}
use Rattle.gt_attached.proofs.attached.AttachedDomain.first_difference.Given as goal

abbrev pub invariant-entries : goal.invariant-entries
invariant-entries g l = record {
  stays : StaysIdle l.fn.self l.self;
  other_stays : StaysIdle l.fn.other l.other;
  count : ℕ;
  at : l.at ≡ count;
  passed : SeesAlike l.fn.self.monitor.words.layout l.fn.other.monitor.words.layout
      (record { one = l.fn.self.domain; other = l.fn.other.domain }) count
      (record { one = l.self.domain; other = l.other.domain });
}
