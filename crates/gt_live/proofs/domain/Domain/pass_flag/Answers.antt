use Rattle.gt_live.proofs.DomainKept.{reseated}
use Rattle.gt_live.proofs.Flagged.{passed-same, passed-so}
use Rattle.gt_live.proofs.domain.Domain.pass_flag.Goals as goal

pub returns-clause-stays : goal.returns-clause-stays
returns-clause-stays g c =
    let m = c.args.monitor.now in let d = c.args.self.now in let r = c.pass_flag in
    (reseated m.words m.config (g.P.Allows.may m.rights) d r.new.seat c.requires.mine r.ensures.seat (passed-same r.result m.words.layout c.args.flag d.seat.view r.new.seat.view r.ensures.step), r.ensures.seat)

pub returns-clause-passed : goal.returns-clause-passed
returns-clause-passed g c = let r = c.pass_flag in passed-so r.result c.args.monitor.now.words.layout c.args.flag c.args.self.now r.new.seat r.ensures.seat r.ensures.step
