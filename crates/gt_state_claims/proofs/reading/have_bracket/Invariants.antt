use Rattle.std.proofs.Common.{◌≡◌, drop, map}
use Rattle.std.specs.List.{list_any}
use Rattle.gt_state_claims.specs.Reading.{has_bracket}
use Rattle.gt_state_claims.proofs.reading.have_bracket.Given as goal

abbrev pub invariant-words : goal.invariant-words
invariant-words l =
    list_any has_bracket (map (λ w. w.now) l.words) ≡ list_any has_bracket (map (λ w. w.now) (drop l.word-index l.words))
