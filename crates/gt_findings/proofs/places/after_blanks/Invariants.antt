use Rattle.std.proofs.Common.{◌≡◌, ℕ, ◌<◌, ◌≤◌, get_or, true}
use Rattle.gt_policy_text.specs.Lexing.{is_blank}
use Rattle.gt_findings.proofs.places.after_blanks.Given as goal

abbrev pub invariant-bytes : goal.invariant-bytes
invariant-bytes l = (k : ℕ) → l.from ≤ k → k < l.place → is_blank (get_or l.line k 0) ≡ true
