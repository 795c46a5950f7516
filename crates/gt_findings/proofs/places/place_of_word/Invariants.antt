use Rattle.std.proofs.Common.{take}
use Rattle.gt_findings.proofs.ColumnLemmas.{IsFound}
use Rattle.gt_findings.proofs.places.place_of_word.Given as goal

abbrev pub invariant-tokens : goal.invariant-tokens
invariant-tokens l = IsFound l.line l.word (take l.token-index l.tokens) l.last
