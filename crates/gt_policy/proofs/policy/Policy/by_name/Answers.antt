use Rattle.std.proofs.Common.{ℕ, List, map, Bor, ap, ◌∙◌}
use Rattle.std.proofs.lemmas.List.{take_all}
use Rattle.gt_policy.proofs.ListingLemmas.{id_at, listed}
use Rattle.gt_policy.proofs.policy.Policy.by_name.Goals as goal

pub returns : goal.returns
returns c =
    let seen : List (Bor (List ℕ) × ℕ) = c.deref-number-items.result.now in
    let same = c.loop-number.invariant
    ∙ ap (λ (xs : List (Bor (List ℕ) × ℕ)). map (λ (e : Bor (List ℕ) × ℕ). id_at e.1) xs) (take_all c.loop-number.number-index seen c.loop-number-test.false ∙ c.deref-number-items.ensures.value) in
    listed (λ (e : Bor (List ℕ) × ℕ). e.1) (λ (e : Bor (List ℕ) × ℕ). e.0.now) c.args.self.now.types _ _ _ c.in_ok-named.ensures.numbers c.in_ok-named.ensures.named c.in_ok-sort.ensures.permutation c.in_ok-sort.ensures.sorted same
