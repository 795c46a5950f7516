use Rattle.std.proofs.Common.{length}
use Rattle.gt_policy.specs.Lined.{statements_in}
use Rattle.gt_policy.proofs.LinedLemmas.{Goes, Continues, IsLineOf}
use Rattle.gt_policy.proofs.lined.lined.Given as goal

abbrev pub invariant-text : goal.invariant-text
invariant-text l = record {
  goes : Goes l.seen (statements_in l.read) l.parser l.fn.seen l.fn.parser;
  continues : Continues l.read l.parser l.fn.parser;
  on : IsLineOf l.line l.parser;
}

abbrev pub decreases-text : goal.decreases-text
decreases-text l = length l.parser
