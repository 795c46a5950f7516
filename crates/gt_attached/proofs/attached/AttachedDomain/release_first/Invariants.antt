use Rattle.std.proofs.Common.{◌≡◌, ◌+◌, ℕ}
use Rattle.gt_attached.specs.Seated.{StaysIdle}
use Rattle.gt_attached.specs.Several.{HaveOwnHandles, HaveMappings, ReleasesFirst}
use Rattle.gt_live.specs.declared.domain.Domain.{Domain}
use Rattle.gt_attached.proofs.attached.AttachedDomain.release_first.Given as goal

abbrev pub invariant-made : goal.invariant-made
invariant-made g l = record {
  stays : StaysIdle l.fn.self l.self;
  left : ℕ;
  gone : l.gone + left ≡ l.fn.count;
  kept : HaveMappings l.self.domain l.fn.requests left;
  apart : HaveOwnHandles l.fn.requests left;
  then : (e : Domain) → ReleasesFirst g.P.Allows.may l.fn.self.monitor l.self.domain l.fn.requests left e
      → ReleasesFirst g.P.Allows.may l.fn.self.monitor l.fn.self.domain l.fn.requests l.fn.count e;
}
