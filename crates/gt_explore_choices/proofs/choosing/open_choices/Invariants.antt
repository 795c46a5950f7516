use Rattle.std.proofs.Common.{◌≡◌, [], ◌∷◌, drop, map}
use Rattle.gt_explore_choices.specs.Choosing.{first_open, open_seen, widened_all}
use Rattle.gt_explore_choices.specs.Kinds.{marked_seen}
use Rattle.gt_explore_choices.proofs.choosing.open_choices.Given as goal

-- the lines that are left make of these choices what all lines make of the first
abbrev pub invariant-lines : goal.invariant-lines
invariant-lines l =
    widened_all (map (λ m. m.kind) (map marked_seen (drop l.line-index l.lines))) (map open_seen l.begun.items)
    ≡ widened_all (map (λ m. m.kind) (map marked_seen l.lines)) (first_open ∷ [])
