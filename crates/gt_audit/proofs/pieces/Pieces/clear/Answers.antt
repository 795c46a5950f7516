use Rattle.std.proofs.Common.{◌≡◌, ap, arith, length, List}
use Rattle.gt_audit.specs.declared.record.Record.{Record}
use Rattle.gt_audit.specs.Pieces.{Filling, joined}
use Rattle.gt_audit.proofs.Joining.{joined-fits}
use Rattle.gt_audit.proofs.pieces.Pieces.clear.Goals as goal

pub returns-clause-room : goal.returns-clause-room
returns-clause-room c =
    let fits = joined-fits c.self.inside.at c.self.inside.pieces.items c.self.invariant in
    let none : length (joined c.empty.new.pieces.items) ≡ 0 = ap (λ (rs : List Record). length rs) c.empty.ensures.records in
    let records = ap (λ (f : Filling). length f.records) c.self.view_is in
    let room = ap (λ (f : Filling). f.room) c.self.view_is in
    omega (arith, fits, none, records, room, c.empty.ensures.len)
