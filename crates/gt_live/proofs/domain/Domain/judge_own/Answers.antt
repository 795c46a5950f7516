use Rattle.std.proofs.Common.{◌∙◌, ap, sym, subst}
use Rattle.gt_model.specs.Rules.{CallerKnowledge, begun}
use Rattle.gt_live.specs.Owning.{IsRowOf, asks_change}
use Rattle.gt_live.proofs.domain.Domain.judge_own.Goals as goal

pub judge_own-requires : goal.judge_own-requires
judge_own-requires g c = record {
  row = subst (λ (x : CallerKnowledge). IsRowOf x c.args.gref c.args.own) (sym c.known.ensures) c.requires.row;
}

pub returns : goal.returns
returns g c =
    let caller = c.args.self.now.seat.dom in
    c.judge_own.ensures caller
    ∙ ap (λ (x : CallerKnowledge). begun x caller (asks_change c.args.gref c.args.change)) c.known.ensures
