use Rattle.std.proofs.Common.{◌≡◌, ◌∙◌, ◌<◌, ◌≤◌, ℕ, false, List, [], ◌∷◌, ap, arith, drop, length, length-drop, map, refl, sym, Bor}
use Rattle.std.proofs.lemmas.List.{drop_all, length-map}
use Rattle.gt_explore_verdict.specs.Satisfying.{begins}
use Rattle.gt_explore_verdict.proofs.lines.begins.Goals as goal

-- no words begin with a word
no_words : (ws : List (List ℕ)) → 0 < length ws → begins [] ws ≡ false
no_words [] some = absurd (omega arith)
no_words (w ∷ ws) some = refl

-- the words end before the others do
too_few : (words with : List (Bor (List ℕ))) (at k : ℕ) → length words ≤ at → k < length with
    → begins (map (λ w. w.now) (drop at words)) (map (λ w. w.now) (drop k with)) ≡ false
too_few words with at k end more =
    ap (λ (l : List (Bor (List ℕ))). begins (map (λ w. w.now) l) (map (λ w. w.now) (drop k with))) (drop_all at words end)
    ∙ no_words (map (λ w. w.now) (drop k with)) (let m = length-map (drop k with) (λ (w : Bor (List ℕ)). w.now) in let d = length-drop k with in omega (arith, m, d))

pub returns-then-at-words : goal.returns-then-at-words
returns-then-at-words c =
    sym (c.with.invariant.left ∙ too_few c.args.words.now c.args.with.now c.with.at c.with.word-index c.if-at-words.true c.with-test.true)
