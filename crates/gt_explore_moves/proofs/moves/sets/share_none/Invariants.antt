use Rattle.std.proofs.Common.{◌≡◌, ◌<◌, ℕ, true, false, get_or}
use Rattle.gt_explore_moves.proofs.moves.sets.share_none.Given as goal

abbrev pub invariant-loop-flag : goal.invariant-loop-flag
invariant-loop-flag l =
    (flag : ℕ) → flag < l.flag → get_or l.others flag false ≡ true → get_or l.some flag false ≡ false
