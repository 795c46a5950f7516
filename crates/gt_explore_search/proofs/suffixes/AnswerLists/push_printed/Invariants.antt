use Rattle.std.proofs.Common.{◌≡◌, ◌++◌, [], get_or}
use Rattle.gt_explore_search.specs.Lists.{printed_of}
use Rattle.gt_explore_search.proofs.suffixes.AnswerLists.push_printed.Given as goal

abbrev pub invariant-lines : goal.invariant-lines
invariant-lines l =
    l.out.items ++ printed_of l.self.lines.keys (get_or l.self.tails l.rest [])
    ≡ l.fn.out.items ++ printed_of l.self.lines.keys (get_or l.self.tails l.tail [])

abbrev pub decreases-lines : goal.decreases-lines
decreases-lines l = l.rest
