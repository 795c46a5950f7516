use Rattle.std.proofs.Common.{◌≡◌, ℕ, List, map, take, Bor}
use Rattle.gt_policy.proofs.ListingLemmas.{id_at}
use Rattle.gt_policy.proofs.policy.Policy.by_name.Given as goal

abbrev pub invariant-loop-number : goal.invariant-loop-number
invariant-loop-number l = l.ids.items ≡ map (λ (e : Bor (List ℕ) × ℕ). id_at e.1) (take l.number-index l.number-items)
