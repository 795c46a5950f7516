use Rattle.std.proofs.Common.{◌≡◌, ◌<◌, ℕ, [], get_or, length}
use Rattle.gt_audit.proofs.pieces.empty.Given as goal

abbrev pub invariant-pieces : goal.invariant-pieces
invariant-pieces l =
    (length l.pieces.items ≡ length l.initial.pieces.items)
    × ((k : ℕ) → k < l.place → get_or l.pieces.items k [] ≡ [])
