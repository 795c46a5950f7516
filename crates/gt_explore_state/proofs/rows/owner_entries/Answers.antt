use Rattle.std.proofs.Common.{◌≡◌, ◌<◌, ◌+◌, ◌-◌, ◌∷◌, ◌∙◌, suc, drop, get_or, length, sym, ap, subst, arith}
use Rattle.gt_explore_state.specs.Rows.{ListsEntries}
use Rattle.gt_explore_state.proofs.OwnRows.{from-here, one-listed}
use Rattle.gt_explore_state.proofs.rows.owner_entries.Goals as goal

pub rows-preserved : goal.rows-preserved
rows-preserved c =
    let own = c.args.own.now in let done = c.rows.done in let x = c.index-own-own.result in let n = length own - (done + 1) in
    let within : done < length own = c.rows-test.true in
    let below : n < length own = omega arith in
    let at : length own - 1 - done ≡ n = omega arith in
    let next : suc n ≡ length own - done = omega arith in
    let here : get_or own n x ≡ x = ap (λ k. get_or own k x) (sym at) ∙ sym c.index-own-own.is in
    subst (λ l. ListsEntries c.args.first_gen l c.put.new.list.items)
    (sym (from-here own n x below ∙ ap (λ y. y ∷ drop (suc n) own) here ∙ ap (λ k. x ∷ drop k own) next))
    (one-listed c.args.first_gen c.rows.list.items c.put.new.list.items c.own_at-untouched.result x (drop (length own - done) own)
    (record { entry = c.own_at-untouched.ensures.entry; generation = c.own_at-untouched.ensures.generation }) c.in_ok-put.ensures c.rows.invariant)
