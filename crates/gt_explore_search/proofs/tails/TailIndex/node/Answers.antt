use Rattle.std.proofs.Common.{ap, ◌∙◌, ◌≡◌, [], List, ℕ, get_or, slice_get, subst, IfSome, IfNone}
use Rattle.gt_explore_search.specs.Tails.{BeginsWith}
use Rattle.gt_explore_search.specs.declared.tails.TailNode.{TailNode}
use Rattle.gt_explore_search.proofs.Tailing.{begins, ends, ends_first}
use Rattle.gt_explore_search.proofs.tails.TailIndex.node.Goals as goal

pub returns-in_err-at-clause-empty : goal.returns-in_err-at-clause-empty
returns-in_err-at-clause-empty c =
    subst (λ (tails : List (List ℕ)). IfNone c.from_residual.result (get_or tails c.args.number [] ≡ [])) c.self.view_is
    (ends_first c.self.inside.nodes.keys c.args.number c.from_residual.result c.in_err-at.ensures)

pub returns-clause-node : goal.returns-clause-node
returns-clause-node c =
    let read : c.node_at.result ≡ slice_get c.self.inside.nodes.keys c.in_ok-at.at = c.node_at.ensures ∙ ap (λ (l : List TailNode). slice_get l c.in_ok-at.at) c.as_slice-nodes.ensures.keys in
    subst (λ (tails : List (List ℕ)). IfSome c.node_at.result (BeginsWith tails c.args.number)) c.self.view_is
    (begins c.self.inside.nodes.keys c.args.number c.in_ok-at.at c.node_at.result c.in_ok-at.ensures.0 c.in_ok-at.ensures.1 read c.self.invariant)

pub returns-clause-empty : goal.returns-clause-empty
returns-clause-empty c =
    let read : c.node_at.result ≡ slice_get c.self.inside.nodes.keys c.in_ok-at.at = c.node_at.ensures ∙ ap (λ (l : List TailNode). slice_get l c.in_ok-at.at) c.as_slice-nodes.ensures.keys in
    subst (λ (tails : List (List ℕ)). IfNone c.node_at.result (get_or tails c.args.number [] ≡ [])) c.self.view_is
    (ends c.self.inside.nodes.keys c.args.number c.in_ok-at.at c.node_at.result c.in_ok-at.ensures.0 c.in_ok-at.ensures.1 read)
