use Rattle.std.proofs.Common.{◌≡◌, ◌∙◌, ◌≤◌, ℕ, true, List, [], ◌∷◌, ap, drop, length, map, refl, sym, Bor}
use Rattle.std.proofs.lemmas.List.{drop_all}
use Rattle.gt_explore_verdict.specs.Expressions.{agree}
use Rattle.gt_explore_verdict.proofs.conditions.agree.Goals as goal

-- words agree with none
with_none : (ws : List (List ℕ)) → agree ws [] ≡ true
with_none [] = refl
with_none (w ∷ ws) = refl

-- the others end first
enough : (words others : List (Bor (List ℕ))) (at k : ℕ) → length others ≤ at
    → agree (map (λ w. w.now) (drop k words)) (map (λ w. w.now) (drop at others)) ≡ true
enough words others at k end =
    ap (λ (l : List (Bor (List ℕ))). agree (map (λ w. w.now) (drop k words)) (map (λ w. w.now) l)) (drop_all at others end)
    ∙ with_none (map (λ w. w.now) (drop k words))

pub returns-then-at-others : goal.returns-then-at-others
returns-then-at-others c =
    sym (c.words.invariant.left ∙ enough c.args.words.now c.args.others.now c.words.at c.words.word-index c.if-at-others.true)
