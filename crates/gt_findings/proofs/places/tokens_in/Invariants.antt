use Rattle.std.proofs.Common.{◌-◌, length}
use Rattle.gt_findings.proofs.ColumnLemmas.{AtPlace}
use Rattle.gt_findings.proofs.places.tokens_in.Given as goal

abbrev pub invariant-tokens : goal.invariant-tokens
invariant-tokens l = AtPlace l.line l.tokens.items l.start

abbrev pub decreases-tokens : goal.decreases-tokens
decreases-tokens l = length l.line - l.start
