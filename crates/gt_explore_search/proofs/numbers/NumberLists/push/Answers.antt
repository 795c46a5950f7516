use Rattle.std.proofs.Common.{sym, ◌∙◌, ap, ◌≡◌, ◌+◌, ◌++◌, ◌∷◌, [], List, ℕ, subst, arith, length}
use Rattle.gt_explore_search.specs.Numbers.{AreCut, lists_cut}
use Rattle.gt_explore_search.proofs.Keeping.{are_cut_more, cut_length, cut_more}
use Rattle.gt_explore_search.proofs.numbers.NumberLists.push.Goals as goal

pub invariant_of-self-2 : goal.invariant_of-self-2
invariant_of-self-2 c =
    let end : c.saturating_add-end.result ≡ length c.self.inside.items.items + length c.args.list.now = omega arith in
    let items : c.extend_from_slice.new.self.items ≡ c.self.inside.items.items ++ c.args.list.now = c.in_ok-extend_from_slice.ensures.items in
    let ends : c.push_reserved.new.self.items ≡ c.self.inside.ends.items ++ c.saturating_add-end.result ∷ [] =
    c.push_reserved.ensures.items ∙ ap (λ (l : List ℕ). l ++ c.saturating_add-end.result ∷ []) c.reserve.ensures.items in
    subst (λ (l : List ℕ). AreCut 0 l c.push_reserved.new.self.items) (sym items)
    (subst (λ (l : List ℕ). AreCut 0 (c.self.inside.items.items ++ c.args.list.now) l) (sym ends)
    (are_cut_more 0 c.self.inside.items.items c.self.inside.ends.items c.args.list.now c.saturating_add-end.result c.self.invariant end))

pub returns-clause-pushed : goal.returns-clause-pushed
returns-clause-pushed c =
    let end : c.saturating_add-end.result ≡ length c.self.inside.items.items + length c.args.list.now = omega arith in
    let items : c.extend_from_slice.new.self.items ≡ c.self.inside.items.items ++ c.args.list.now = c.in_ok-extend_from_slice.ensures.items in
    let ends : c.push_reserved.new.self.items ≡ c.self.inside.ends.items ++ c.saturating_add-end.result ∷ [] =
    c.push_reserved.ensures.items ∙ ap (λ (l : List ℕ). l ++ c.saturating_add-end.result ∷ []) c.reserve.ensures.items in
    let number : c.len-number.result ≡ length c.self.inside.ends.items = omega arith in (
      number ∙ sym (cut_length 0 c.self.inside.items.items c.self.inside.ends.items) ∙ ap (λ (l : List (List ℕ)). length l) c.self.view_is,
      ap (λ (l : List ℕ). lists_cut 0 l c.push_reserved.new.self.items) items
          ∙ ap (λ (l : List ℕ). lists_cut 0 (c.self.inside.items.items ++ c.args.list.now) l) ends
          ∙ cut_more 0 c.self.inside.items.items c.self.inside.ends.items c.args.list.now c.saturating_add-end.result c.self.invariant end
          ∙ ap (λ (ls : List (List ℕ)). ls ++ c.args.list.now ∷ []) c.self.view_is,
    )
