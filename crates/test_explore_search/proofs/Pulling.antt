-- The first counter's next step can be made first.
use Rattle.std.proofs.Common.{◌≡◌, ◌<◌, ◌≤◌, ◌⊎◌, ℕ, List, [], ◌∷◌, refl, sym, ap, subst, arith, inl, inr, slice_get}
use Rattle.std.proofs.Common.{Some}
use Rattle.gt_explore_search.specs.declared.spaces.Turn.{Turn}
use Rattle.gt_explore_search.specs.Ways.{GoesTo, EndsSoBy, HasEnoughTurns}
use Rattle.test_explore_search.specs.Apart.{Spot, CountsOn, apart_ways, first_on, second_on, first_turn, second_turn}
use Rattle.test_explore_search.specs.declared.apart.Apart.{Apart}
use Rattle.test_explore_search.specs.declared.apart.Place.{Place}

-- before an end the first counter goes on, and it may do so at once
pull : (c : Apart) (p : Spot) (ts : List Turn) (q : Spot) → p.first < c.limit → GoesTo (apart_ways c) p ts q
    → (rest : List Turn) × GoesTo (apart_ways c) (first_on p) rest q
pull c p [] q lt goes = let over = goes.1.0 in let same = ap (λ (n : Spot). n.first) goes.0 in
    absurd (omega (arith, over, lt))
pull c p (t ∷ ts) q lt (m, next, on) = by next (λ less. pull c m ts q less on)
  where
    by : CountsOn c.limit p t m → (m.first < c.limit → (rest : List Turn) × GoesTo (apart_ways c) (first_on m) rest q)
        → (rest : List Turn) × GoesTo (apart_ways c) (first_on p) rest q
    by (inl (turn, less, is)) later = (ts, subst (λ (n : Spot). GoesTo (apart_ways c) n ts q) is on)
    by (inr (turn, less, is)) later =
        let it = later (subst (λ (n : Spot). n.first < c.limit) (sym is) lt) in (
          t ∷ it.0,
          (
            second_on (first_on p),
            inr (turn, less, refl),
            subst (λ (n : Spot). GoesTo (apart_ways c) n it.0 q) (ap first_on is) it.1,
          ),
        )

-- while the first counter is below the limit its turn is enough
pub first-enough : (c : Apart) (w : Place) (turns : List Turn) → w.first < c.limit → turns ≡ first_turn ∷ []
    → HasEnoughTurns (apart_ways c) w turns
first-enough c w turns lt are p turn m more q shows next goes =
    let same = shows.0 in
    let less : p.first < c.limit = omega (arith, same, lt) in
    let it = pull c p (turn ∷ more) q less (m, next, goes) in (
      first_turn,
      first_on p,
      it.0,
      q,
      (0, ap (λ (l : List Turn). slice_get l 0) are),
      inl (refl, less, refl),
      it.1,
      λ at. refl,
    )

-- after that the second counter's turn is the only one
pub second-enough : (c : Apart) (w : Place) (turns : List Turn) → c.limit ≤ w.first → turns ≡ second_turn ∷ []
    → HasEnoughTurns (apart_ways c) w turns
second-enough c w turns none are p turn m more q shows next goes = by next
  where
    by : CountsOn c.limit p turn m → EndsSoBy (apart_ways c) turns p q
    by (inl (is, less, to)) = let same = shows.0 in absurd (omega (arith, same, less, none))
    by (inr (is, less, to)) = (
      second_turn,
      m,
      more,
      q,
      (0, ap (λ (l : List Turn). slice_get l 0) are),
      inr (refl, less, to),
      goes,
      λ at. refl,
    )
