use Rattle.std.proofs.Common.{ap, sym, ◌∙◌, ◌≡◌, ◌+◌, ◌≤◌, [], ◌∷◌, List, ℕ, length, arith}
use Rattle.std.proofs.lemmas.Bool.{le-leb, leb-true}
use Rattle.gt_explore_search.proofs.Tailing.{tails_length}
use Rattle.gt_explore_search.proofs.tails.TailIndex.has.Goals as goal

pub returns : goal.returns
returns c =
    let len : length c.args.self.now ≡ 1 + length c.self.inside.nodes.keys = ap (λ (l : List (List ℕ)). length l) (sym c.self.view_is) ∙ tails_length ([] ∷ []) c.self.inside.nodes.keys in
    let same : c.len.result ≡ length c.self.inside.nodes.keys = c.len.ensures.len in (
      λ within. (let le : c.args.number ≤ c.len.result = leb-true c.args.number c.len.result within in omega (arith, le, len, same)),
      λ less. le-leb c.args.number c.len.result (omega (arith, less, len, same)),
    )
