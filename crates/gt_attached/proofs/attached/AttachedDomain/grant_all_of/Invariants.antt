use Rattle.std.proofs.Common.{◌≡◌, ℕ}
use Rattle.gt_attached.specs.Renewing.{GrantsFirst}
use Rattle.gt_attached.specs.Seated.{StaysIdle}
use Rattle.gt_attached.proofs.attached.AttachedDomain.grant_all_of.Given as goal

abbrev pub invariant-entries : goal.invariant-entries
invariant-entries g l = record {
  stays : StaysIdle l.fn.self l.self;
  count : ℕ;
  at : l.at ≡ count;
  granted : GrantsFirst g.P.Allows.may l.fn.self.monitor l.fn.self.domain l.fn.other.domain count l.self.domain;
}
