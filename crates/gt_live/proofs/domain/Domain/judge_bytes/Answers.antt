use Rattle.std.proofs.Common.{ap}
use Rattle.gt_model.specs.Rules.{CallerKnowledge}
use Rattle.gt_live.specs.Domains.{knowledge}
use Rattle.gt_live.proofs.AtOnce.{bytes-open, bytes-refused}
use Rattle.gt_live.proofs.domain.Domain.judge_bytes.Goals as goal

pub returns-clause-refused : goal.returns-clause-refused
returns-clause-refused g c =
    let m = c.args.monitor.now in let k = knowledge m.config (g.P.Allows.may m.rights) c.args.self.now in
    bytes-refused k c.known.result.header c.args.own c.args.gref c.args.bytes.now c.judge_bytes.result
    (ap (λ (x : CallerKnowledge). x.header) c.known.ensures) c.requires.row c.judge_bytes.ensures.judged

pub returns-clause-open : goal.returns-clause-open
returns-clause-open g c =
    let m = c.args.monitor.now in let k = knowledge m.config (g.P.Allows.may m.rights) c.args.self.now in
    bytes-open k c.known.result.header c.args.own c.args.gref c.args.bytes.now c.judge_bytes.result
    (ap (λ (x : CallerKnowledge). x.header) c.known.ensures) c.requires.row c.judge_bytes.ensures.judged
    c.judge_bytes.ensures.unanswered
