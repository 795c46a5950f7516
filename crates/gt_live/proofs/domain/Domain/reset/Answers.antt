use Rattle.gt_live.proofs.Closing.{empty-still}
use Rattle.gt_live.proofs.domain.Domain.reset.Goals as goal

pub returns-clause-resets : goal.returns-clause-resets
returns-clause-resets g c =
    let r = c.release_all.ensures in let d = c.release_all.new.self in let e = c.close.new.self in
    record {
      between = d;
      mine = r.mine;
      seat = r.seat;
      handles = r.released.0;
      released = r.released.1;
      trail = r.silent;
      quiet = c.close.ensures.quiet;
      closes = c.close.ensures.closes;
      none = empty-still d.mappings e.mappings c.close.ensures.quiet.pinned.0 r.all_given;
    }
