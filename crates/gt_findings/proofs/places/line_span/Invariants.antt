use Rattle.std.proofs.Common.{◌≡◌, ◌⊎◌, ◌+◌, ◌-◌, ◌≤◌, ◌==◌, get_or, length, take}
use Rattle.std.specs.Prelude.{count_by}
use Rattle.gt_findings.proofs.places.line_span.Given as goal

abbrev pub invariant-lines : goal.invariant-lines
invariant-lines l = record {
  within : l.start ≤ length l.bytes;
  number : count_by (λ b. b == 10) (take l.start l.bytes) + 1 ≡ l.number;
  begins : (l.start ≡ 0) ⊎ (get_or l.bytes (l.start - 1) 0 ≡ 10);
}
