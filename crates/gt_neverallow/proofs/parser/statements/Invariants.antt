use Rattle.std.proofs.Common.{length}
use Rattle.gt_neverallow.proofs.ReadingLemmas.{Goes}
use Rattle.gt_neverallow.proofs.parser.statements.Given as goal

abbrev pub invariant-text : goal.invariant-text
invariant-text l = Goes l.read l.lexer l.fn.lexer

abbrev pub decreases-text : goal.decreases-text
decreases-text l = length l.lexer
