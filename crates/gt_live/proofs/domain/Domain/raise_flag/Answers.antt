use Rattle.gt_word_history.specs.declared.view.FlagStep.TheVariants.{Raised}
use Rattle.gt_live.proofs.DomainKept.{reseated}
use Rattle.gt_live.proofs.Flagged.{flag-same, stepped-so}
use Rattle.gt_live.proofs.domain.Domain.raise_flag.Goals as goal

pub returns-clause-stays : goal.returns-clause-stays
returns-clause-stays g c =
    let m = c.args.monitor.now in let d = c.args.self.now in let r = c.raise_flag in
    (reseated m.words m.config (g.P.Allows.may m.rights) d r.new.seat c.requires.mine r.ensures.seat (flag-same m.words.layout c.args.flag Raised d.seat.view r.new.seat.view r.ensures.step), r.ensures.seat)

pub returns-clause-raised : goal.returns-clause-raised
returns-clause-raised g c = let r = c.raise_flag in stepped-so c.args.monitor.now.words.layout c.args.flag Raised c.args.self.now r.new.seat r.ensures.seat r.ensures.step
