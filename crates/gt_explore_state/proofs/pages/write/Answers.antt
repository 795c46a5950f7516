use Rattle.std.proofs.Common.{◌≡◌, refl, get_or, arith, rules}
use Rattle.std.proofs.lemmas.Grind.{common_steps}
use Rattle.std.proofs.lemmas.Result.{on_ok_weaker}
use Rattle.gt_explore_state.proofs.Kept.{pages-written}
use Rattle.gt_explore_state.proofs.pages.write.Goals as goal

pub returns : goal.returns
returns c = λ fits.
    let here : c.index_mut.result.now ≡ get_or c.made_page.new.pages.items c.in_ok-at.at c.index_mut.result.now = first_of (search rules, grind (arith, common_steps)) in
    on_ok_weaker c.lay.result (λ laid. pages-written c.args.pages.now.items c.made_page.new.pages.items c.args.owner.0 c.args.frame c.in_ok-at.at c.args.off c.args.bytes.now c.index_mut.result.now
    (record { owner = c.index_mut.result.now.owner; frame = c.index_mut.result.now.frame; bytes = c.lay.new.held }) c.in_ok-at.ensures.same c.in_ok-at.ensures.place here refl refl laid) (c.lay.ensures fits)
