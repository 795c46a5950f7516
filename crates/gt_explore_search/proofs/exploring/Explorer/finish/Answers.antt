use Rattle.std.proofs.Common.{refl, ap, subst, ◌≡◌, ◌⊎◌, ℕ, Some, slice_get, length, List}
use Rattle.gt_explore_search.specs.Numbers.{IsKeptAs}
use Rattle.gt_explore_search.specs.Parts.{by_numbers}
use Rattle.gt_explore_search.proofs.Finding.{holds_done}
use Rattle.gt_explore_search.specs.declared.exploring.Node.{Node}
use Rattle.gt_explore_search.proofs.exploring.Explorer.finish.Goals as goal

pub returns-clause-holds : goal.returns-clause-holds
returns-clause-holds g c = λ all holds visit past.
    let node : length c.as_slice-node.result.now ≡ length c.args.self.now.nodes.items = ap (λ (l : List Node). length l) c.as_slice-node.ensures.value in
    let kept : IsKeptAs c.args.self.now.sets c.args.visit.ends.items c.in_ok-set.set c.number_of.new.self =
    subst (λ (l : List ℕ). IsKeptAs c.args.self.now.sets l c.in_ok-set.set c.number_of.new.self) c.as_slice.ensures.value c.in_ok-set.ensures.kept in
    holds_done (by_numbers (g.S.TransitionSystem.ways c.args._space.now) (g.S.TransitionSystem.parts c.args._space.now) all) c.args.self.now _ c.args.visit _ refl kept holds visit past refl refl c.in_ok-push.ensures.items
    (λ state i is. subst (λ (n : ℕ). (slice_get c.args.self.now.done.items state ≡ Some (Some i)) ⊎ ((state ≡ c.args.visit.state) × (i ≡ n))) node (c.set_done.ensures state i is))
