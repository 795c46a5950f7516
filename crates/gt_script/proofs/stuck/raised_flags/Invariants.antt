use Rattle.std.proofs.Common.{◌≡◌, length, ℕ, Bool}
use Rattle.gt_script.specs.Stuck.{IsClosedFlagSet}
use Rattle.gt_script.specs.Rounds.{HaveCome, Within, unraised_count}
use Rattle.gt_script.proofs.stuck.raised_flags.Given as goal

abbrev pub invariant-turns : goal.invariant-turns
invariant-turns l = (length l.turns.told.items ≡ l.flags) × (length l.turns.places.items ≡ length l.domains) × HaveCome l.tasks l.domains l.turns.places.items l.turns.told.items
    × ((set : ℕ → Bool) → IsClosedFlagSet l.tasks set → Within l.turns.told.items set)

abbrev pub decreases-turns : goal.decreases-turns
decreases-turns l = unraised_count l.turns.told.items
