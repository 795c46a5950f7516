use Rattle.std.proofs.Common.{◌≡◌, None, drop}
use Rattle.gt_explore_ordered.specs.Notes.{has_mark}
use Rattle.gt_explore_ordered.proofs.notes.has_mark.Given as goal

-- the mark is among the notes that are left if it is among all
abbrev pub invariant-bytes : goal.invariant-bytes
invariant-bytes l = has_mark l.number l.kind (drop l.byte-index l.bytes) ≡ has_mark l.number None l.bytes
