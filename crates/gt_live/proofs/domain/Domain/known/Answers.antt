use Rattle.std.proofs.Common.{refl}
use Rattle.gt_live.proofs.domain.Domain.known.Goals as goal

pub returns : goal.returns
returns g c = c.known_with.ensures.known c.args.self.now c.deref.ensures.value refl refl
