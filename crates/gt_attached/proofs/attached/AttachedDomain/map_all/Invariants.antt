use Rattle.std.proofs.Common.{◌≡◌, ℕ, length, map}
use Rattle.gt_attached.specs.Seated.{StaysIdle}
use Rattle.gt_attached.specs.Several.{MapsFirst, without_handle}
use Rattle.gt_attached.proofs.attached.AttachedDomain.map_all.Given as goal

abbrev pub invariant-requests : goal.invariant-requests
invariant-requests g l = record {
  stays : StaysIdle l.fn.self l.self;
  count : ℕ;
  at : l.at ≡ count;
  maps : MapsFirst g.P.Allows.may l.fn.self.monitor l.fn.self.domain l.requests count l.self.domain;
  asked : map without_handle l.requests ≡ map without_handle l.fn.requests;
  len : length l.requests ≡ length l.fn.requests;
}
