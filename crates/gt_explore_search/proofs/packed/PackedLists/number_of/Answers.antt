use Rattle.std.proofs.Common.{List, ℕ, ◌≡◌, ap, sym, ◌∙◌, length, map, subst}
use Rattle.gt_explore_search.specs.Numbers.{AllBelow, EachBelow, IsKeptAs, list_of_pieces}
use Rattle.gt_explore_search.proofs.Keeping.{length_grown}
use Rattle.gt_explore_search.proofs.Packing.{all_kept, each_kept, each_more, kept_unpacked}
use Rattle.gt_explore_search.proofs.packed.PackedLists.number_of.Goals as goal

pub invariant_of-self : goal.invariant_of-self
invariant_of-self c = each_more (length c.self.inside.pieces) (length c.pack.new.pieces) c.self.inside.lists (length_grown c.self.inside.pieces c.pack.new.pieces c.pack.ensures.grows) c.self.invariant

pub invariant_of-self-in_err-number : goal.invariant_of-self-in_err-number
invariant_of-self-in_err-number c =
    subst (λ (ls : List (List ℕ)). EachBelow (length c.pack.new.pieces) ls) (sym c.in_err-number.ensures.err)
    (each_more (length c.self.inside.pieces) (length c.pack.new.pieces) c.self.inside.lists (length_grown c.self.inside.pieces c.pack.new.pieces c.pack.ensures.grows) c.self.invariant)

pub invariant_of-self-2 : goal.invariant_of-self-2
invariant_of-self-2 c =
    each_kept (length c.pack.new.pieces) c.self.inside.lists c.as_slice.result.now c.in_ok-number.number c.number_of.new.self c.in_ok-number.ensures.kept
    (each_more (length c.self.inside.pieces) (length c.pack.new.pieces) c.self.inside.lists (length_grown c.self.inside.pieces c.pack.new.pieces c.pack.ensures.grows) c.self.invariant)
    (subst (AllBelow (length c.pack.new.pieces)) (sym c.as_slice.ensures.value) c.in_ok-pack.ensures.below)

pub returns : goal.returns
returns c =
    let same : map (list_of_pieces c.pack.new.pieces) c.self.inside.lists ≡ c.args.self.now = all_kept c.self.inside.pieces c.pack.new.pieces c.self.inside.lists c.pack.ensures.grows c.self.invariant ∙ c.self.view_is in
    subst (λ (old : List (List ℕ)). IsKeptAs old c.args.list.now c.in_ok-number.number (map (list_of_pieces c.pack.new.pieces) c.number_of.new.self)) same
    (kept_unpacked c.pack.new.pieces c.self.inside.lists c.number_of.new.self c.as_slice.result.now c.args.list.now c.in_ok-number.number c.in_ok-number.ensures.kept
    (ap (list_of_pieces c.pack.new.pieces) c.as_slice.ensures.value ∙ c.in_ok-pack.ensures.packs))
