use Rattle.std.proofs.Common.{arith, ◌∙◌, ◌<◌, List, ℕ, ◌++◌, ◌∷◌, [], length, ap, refl, sym}
use Rattle.std.specs.Global.{Vec}
use Rattle.gt_policy_check.proofs.KnownLemmas.{adds_at, list_there}
use Rattle.gt_policy_check.proofs.earlier.push_at.Goals as goal

pub returns-in_ok-push : goal.returns-in_ok-push
returns-in_ok-push c =
    let below : c.args.place < length c.args.lists.now.items = omega (arith, c.if-place-len.true, c.len.ensures, c.args.lists.now.ok.0) in
    adds_at c.args.lists.now.items _ c.args.place c.args.number c.push.new.self below refl
    (c.in_ok-push.ensures.items
    ∙ ap (λ (l : List ℕ). l ++ c.args.number ∷ []) (ap (λ (v : Vec ℕ). v.items) c.index_mut.ensures.value ∙ sym (list_there c.args.lists.now.items c.args.place c.index_mut.result.now below)))
