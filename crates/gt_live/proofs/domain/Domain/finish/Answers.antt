use Rattle.gt_live.proofs.DomainKept.{without-pins}
use Rattle.gt_live.proofs.Moments.{released-moments}
use Rattle.gt_live.proofs.domain.Domain.finish.Goals as goal

pub returns : goal.returns
returns g c =
    let m = c.args.monitor.now in let e = c.release_all.ensures in let f = c.release_all.new.self in
    let moments = released-moments m.words.layout e.released.0 c.args.self.mappings c.args.self.seat.view f.mappings f.seat.view e.released.1 in
    record {
      left = record {
        handles = e.released.0;
        rest = f.mappings;
        released = e.released.1;
        steps = moments.0;
        view = moments.1;
        moments = moments.2;
        all_given = e.all_given.none;
        seat = e.seat;
        records = e.silent;
        no_pins = without-pins m.words m.config (g.P.Allows.may m.rights) f e.mine e.all_given.count;
      };
      seat = e.mine.seat;
    }
