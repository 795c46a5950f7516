use Rattle.std.proofs.Common.{◌≡◌, ◌≤◌, ℕ, false, List, [], ◌∷◌, arith, length, map, refl, subst, sym, Bor}
use Rattle.gt_explore_verdict.specs.Expressions.{may_be_by, of_all, place_asked}
use Rattle.gt_explore_verdict.specs.declared.conditions.Place.{Place}
use Rattle.gt_explore_verdict.proofs.conditions.may_be.Goals as goal

-- further words follow the first one
with_more : (first : List ℕ) (more : List (Bor (List ℕ))) → 1 ≤ length more
    → false ≡ may_be_by of_all first (map (λ w. w.now) more)
with_more first [] some = absurd (omega arith)
with_more first (w ∷ ws) some = refl

pub returns-in-len1-up : goal.returns-in-len1-up
returns-in-len1-up c =
    subst (λ (p : Place). false ≡ may_be_by (place_asked p) c.args.first.now (map (λ w. w.now) c.args.more.now))
    (sym c.in-Anywhere.is) (with_more c.args.first.now c.args.more.now c.in-len1-up.len_at_least)
