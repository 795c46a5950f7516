use Rattle.std.proofs.Common.{◌≡◌, ℕ, ◌<◌, ◌≤◌, ◌==◌, get_or, take}
use Rattle.std.specs.Prelude.{count_by}
use Rattle.gt_findings.proofs.places.line_end.Given as goal

abbrev pub invariant-bytes : goal.invariant-bytes
invariant-bytes l =
    ((k : ℕ) → l.start ≤ k → k < l.place → get_or l.bytes k 0 ≡ 10 → ⊥)
    × (count_by (λ b. b == 10) (take l.place l.bytes) ≡ count_by (λ b. b == 10) (take l.start l.bytes))
