use Rattle.std.proofs.Common.{ap, arith, ◌≡◌, length}
use Rattle.gt_handles.proofs.Vacant.{empty_of_none}
use Rattle.gt_handles.proofs.handles.Handles.least_key.Goals as goal

pub returns-clause-empty : goal.returns-clause-empty
returns-clause-empty g c =
    let slots : length c.self.inside.slab.slots ≡ length c.args.self.now.slots = ap (λ s. length s.slots) c.self.view_is in
    empty_of_none c.args.self.now (λ key below. c.loop-key.invariant key (omega (arith, c.capacity-key-end.ensures.slots)))
