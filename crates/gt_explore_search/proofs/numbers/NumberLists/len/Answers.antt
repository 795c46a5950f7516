use Rattle.std.proofs.Common.{sym, ◌∙◌, ap, ◌≡◌, length, List, ℕ, arith}
use Rattle.gt_explore_search.proofs.Keeping.{cut_length}
use Rattle.gt_explore_search.proofs.numbers.NumberLists.len.Goals as goal

pub returns : goal.returns
returns c =
    let len : c.len.result ≡ length c.self.inside.ends.items = omega (arith, c.len.ensures) in
    len ∙ sym (cut_length 0 c.self.inside.items.items c.self.inside.ends.items) ∙ ap (λ (l : List (List ℕ)). length l) c.self.view_is
