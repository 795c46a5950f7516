use Rattle.std.proofs.Common.{◌≡◌, ◌++◌, None, drop}
use Rattle.gt_explore_ordered.specs.Notes.{letters_in}
use Rattle.gt_explore_ordered.proofs.notes.letters_in.Given as goal

-- the letters so far, and then those that are left, are all
abbrev pub invariant-bytes : goal.invariant-bytes
invariant-bytes l = l.text.items ++ letters_in l.kind (drop l.byte-index l.bytes) ≡ letters_in None l.bytes
