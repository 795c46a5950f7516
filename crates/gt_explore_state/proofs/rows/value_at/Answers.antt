use Rattle.std.proofs.Common.{◌≡◌, ◌+◌, ◌∙◌, suc, drop, sym, ap, arith}
use Rattle.gt_explore_state.specs.Rows.{value_at}
use Rattle.gt_explore_state.proofs.OwnRows.{no-row-past, row-found, row-passed}
use Rattle.gt_explore_state.proofs.rows.value_at.Goals as goal

pub returns-then-row-gref : goal.returns-then-row-gref
returns-then-row-gref g c = sym (c.rows.invariant
    ∙ row-found c.args.rows.now c.rows.row-index c.row-item.result c.args.gref.0 c.rows-test.true c.row-item.is c.if-row-gref.true)

pub rows-preserved : goal.rows-preserved
rows-preserved g c = let i = c.rows.row-index in let next : suc i ≡ i + 1 = omega arith in c.rows.invariant
    ∙ row-passed c.args.rows.now i c.row-item.result c.args.gref.0 c.rows-test.true c.row-item.is c.if-row-gref.false
    ∙ ap (λ k. value_at (drop k c.args.rows.now) c.args.gref.0) next

pub returns : goal.returns
returns g c = sym (c.rows.invariant ∙ no-row-past c.args.rows.now c.rows.row-index c.args.gref.0 (omega arith))
