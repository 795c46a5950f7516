use Rattle.std.proofs.Common.{◌≡◌, [], drop}
use Rattle.gt_explore_precedence.specs.Read.{read_so_far}
use Rattle.gt_explore_precedence.specs.Replacing.{replaced_from}
use Rattle.gt_explore_precedence.proofs.replacing.replaced.Given as goal

-- what was made so far, and then what is made of the rest
abbrev pub invariant-bytes : goal.invariant-bytes
invariant-bytes l = read_so_far l.held l.reading (drop l.byte-index l.expression) ≡ replaced_from l.held 0 [] l.expression
