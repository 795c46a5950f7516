-- The policy block of a script.
use Rattle.std.proofs.Common.{◌≡◌, ℕ, ◌+◌, ◌-◌, ◌≤◌, List, [], ◌∷◌, ◌++◌, length, map, drop, take, Option, Some, None}
use Rattle.std.proofs.Common.{zero, suc, refl, ap, sym, ◌∙◌, arith, length-drop}
use Rattle.std.proofs.lemmas.List.{drop-map, take-map, take_all}
use Rattle.std.specs.Borrow.{Bor}
use Rattle.std.specs.List.{repeat}
use Rattle.std.specs.Prelude.{replicate}
use Rattle.gt_script.specs.Blocks.{block_text, closing, opening}
use Rattle.gt_fault_reasons.specs.Blocks.{block_from, block_to}

-- the texts of lines
abbrev pub line_texts : List (Bor (List ℕ)) → List (List ℕ)
line_texts lines = map (λ line. line.now) lines

-- the lines after a line
abbrev pub rest_after : ℕ → List (Bor (List ℕ)) → List (Bor (List ℕ))
rest_after place lines = take (length lines - (place + 1)) (drop (place + 1) lines)

-- an empty line for each of this number
pub blank-lines : (n : ℕ) → repeat {A = ℕ} n (10 ∷ []) ≡ replicate n 10
blank-lines zero = refl
blank-lines (suc n) = ap (λ (l : List ℕ). 10 ∷ l) (blank-lines n)

behind : (place : ℕ) (lines : List (Bor (List ℕ))) → line_texts (rest_after place lines) ≡ drop (place + 1) (line_texts lines)
behind place lines =
    let few : length (drop (place + 1) lines) ≤ length lines - (place + 1) = rw length-drop (omega arith) in
    ap line_texts (take_all (length lines - (place + 1)) (drop (place + 1) lines) few)
    ∙ sym (drop-map (λ (line : Bor (List ℕ)). line.now) (place + 1) lines)

-- the block that a line opens
opened : (place : ℕ) (lines : List (Bor (List ℕ))) → Some place ≡ opening (line_texts lines)
    → block_to (place + 1) (line_texts (rest_after place lines)) (closing (line_texts (rest_after place lines)))
    ≡ block_from (line_texts lines) (opening (line_texts lines))
opened place lines opens =
    ap (λ (rest : List (List ℕ)). block_to (place + 1) rest (closing rest)) (behind place lines)
    ∙ ap (λ (at : Option ℕ). block_from (line_texts lines) at) opens

-- a line closes it
pub closed : (place end : ℕ) (lines : List (Bor (List ℕ))) (text : List ℕ) → Some place ≡ opening (line_texts lines)
    → Some end ≡ closing (line_texts (rest_after place lines))
    → text ≡ replicate (place + 1) 10 ++ block_text (line_texts (take end (rest_after place lines)))
    → Some text ≡ block_from (line_texts lines) (opening (line_texts lines))
closed place end lines text opens ends is =
    ap (λ (l : List ℕ). Some l) (is ∙ ap (λ (ls : List (List ℕ)). replicate (place + 1) 10 ++ block_text ls)
    (sym (take-map (λ (line : Bor (List ℕ)). line.now) end (rest_after place lines))))
    ∙ ap (λ (at : Option ℕ). block_to (place + 1) (line_texts (rest_after place lines)) at) ends ∙ opened place lines opens

-- no line closes it
pub unclosed : (place : ℕ) (lines : List (Bor (List ℕ))) → Some place ≡ opening (line_texts lines)
    → None ≡ closing (line_texts (rest_after place lines))
    → None ≡ block_from (line_texts lines) (opening (line_texts lines))
unclosed place lines opens none =
    ap (λ (at : Option ℕ). block_to (place + 1) (line_texts (rest_after place lines)) at) none ∙ opened place lines opens
