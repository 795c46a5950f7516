use Rattle.std.proofs.Common.{◌≡◌, ℕ, List, map, Bor}
use Rattle.std.specs.List.{All, range_with_len}
use Rattle.gt_policy.specs.Listing.{type_name_of}
use Rattle.gt_policy.proofs.policy.Policy.numbered.Given as goal

abbrev pub invariant-loop-i : goal.invariant-loop-i
invariant-loop-i l = (map (λ (e : Bor (List ℕ) × ℕ). e.1) l.named.items ≡ range_with_len 0 l.i) × All (λ (e : Bor (List ℕ) × ℕ). type_name_of l.self.types e.1 ≡ e.0.now) l.named.items
