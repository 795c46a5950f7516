use Rattle.std.proofs.Common.{sym, ◌<◌, ◌+◌, ◌∷◌, [], List, ℕ, length, get_or, subst}
use Rattle.gt_explore_search.specs.Numbers.{IsKeptAs}
use Rattle.gt_explore_search.proofs.Tailing.{node_kept, tails_of}
use Rattle.gt_explore_search.proofs.tails.TailIndex.number_of.Goals as goal

pub invariant_of-self-then-at-ge4294967295 : goal.invariant_of-self-then-at-ge4294967295
invariant_of-self-then-at-ge4294967295 c =
    (node_kept c.args.node c.self.inside.nodes.keys c.insert_full.new.self.keys c.in_ok-at.at c.in_ok-at.ensures.keys c.in_ok-at.ensures.index c.in_ok-at.ensures.stored c.self.invariant
    (subst (λ (tails : List (List ℕ)). c.args.node.behind < length tails) (sym c.self.view_is) c.requires.behind)).0

pub invariant_of-self-2 : goal.invariant_of-self-2
invariant_of-self-2 c =
    (node_kept c.args.node c.self.inside.nodes.keys c.insert_full.new.self.keys c.in_ok-at.at c.in_ok-at.ensures.keys c.in_ok-at.ensures.index c.in_ok-at.ensures.stored c.self.invariant
    (subst (λ (tails : List (List ℕ)). c.args.node.behind < length tails) (sym c.self.view_is) c.requires.behind)).0

pub returns : goal.returns
returns c =
    subst (λ (tails : List (List ℕ)). IsKeptAs tails (c.args.node.line ∷ get_or tails c.args.node.behind []) (c.in_ok-at.at + 1) (tails_of c.insert_full.new.self.keys)) c.self.view_is
    (node_kept c.args.node c.self.inside.nodes.keys c.insert_full.new.self.keys c.in_ok-at.at c.in_ok-at.ensures.keys c.in_ok-at.ensures.index c.in_ok-at.ensures.stored c.self.invariant
    (subst (λ (tails : List (List ℕ)). c.args.node.behind < length tails) (sym c.self.view_is) c.requires.behind)).1
