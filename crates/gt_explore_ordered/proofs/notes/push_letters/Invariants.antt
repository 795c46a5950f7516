use Rattle.std.proofs.Common.{◌≡◌, ◌++◌, drop}
use Rattle.gt_explore_ordered.specs.Notes.{bytes_of_letters}
use Rattle.gt_explore_ordered.proofs.notes.push_letters.Given as goal

-- the letters so far, and then those that are left, are all
abbrev pub invariant-line : goal.invariant-line
invariant-line l =
    l.bytes.items ++ bytes_of_letters (drop l.letter-index l.line) ≡ l.fn.bytes.items ++ bytes_of_letters l.line
