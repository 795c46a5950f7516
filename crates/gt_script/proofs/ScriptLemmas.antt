use Rattle.std.proofs.Common.{◌≡◌, ℕ, ◌+◌, ◌<◌, List, ◌∷◌, length, map, drop, get_or, Result, Ok, Err, ap, ◌∙◌, Bor}
use Rattle.std.proofs.Common.{arith}
use Rattle.std.proofs.lemmas.List.{at_drop_more}
use Rattle.gt_script_lines.specs.Words.{words}
use Rattle.gt_script.specs.Contents.{Contents}
use Rattle.gt_script.specs.Script.{with_words, with_lines}
use Rattle.gt_script.specs.declared.faults.ScriptFaultKind.{ScriptFaultKind}

-- the texts of what is left of the lines
abbrev pub texts : List (Bor (List ℕ)) → List (List ℕ)
texts lines = map (λ line. line.now) lines

with_lines-step : (c : Contents) (n : ℕ) (line : List ℕ) (ls : List (List ℕ)) (r : Result Contents ScriptFaultKind) → with_words c n (words line) ≡ r
    → with_lines c n (line ∷ ls) ≡ elim r [ Ok d ↦ with_lines d (n + 1) ls | Err kind ↦ Err (record { line = n; kind = kind }) ]
with_lines-step c n line ls r e =
    ap (λ (q : Result Contents ScriptFaultKind). elim q [ Ok d ↦ with_lines d (n + 1) ls | Err kind ↦ Err (record { line = n; kind = kind }) ]) e

pub step_ok : (lines : List (Bor (List ℕ))) (c d : Contents) (before i : ℕ) (x : Bor (List ℕ)) → i < length lines → with_words c (before + i + 1) (words (get_or lines i x).now) ≡ Ok d
    → with_lines c (before + i + 1) (texts (drop i lines)) ≡ with_lines d (before + (i + 1) + 1) (texts (drop (i + 1) lines))
step_ok lines c d before i x h e =
    let next : before + i + 1 + 1 ≡ before + (i + 1) + 1 = omega arith in
    at_drop_more (λ rest. with_lines c (before + i + 1) (texts rest)) lines i x h
    ∙ with_lines-step c (before + i + 1) (get_or lines i x).now (texts (drop (i + 1) lines)) (Ok d) e
    ∙ ap (λ (n : ℕ). with_lines d n (texts (drop (i + 1) lines))) next

pub step_err : (lines : List (Bor (List ℕ))) (c : Contents) (kind : ScriptFaultKind) (before i : ℕ) (x : Bor (List ℕ)) → i < length lines → with_words c (before + i + 1) (words (get_or lines i x).now) ≡ Err kind
    → with_lines c (before + i + 1) (texts (drop i lines)) ≡ Err (record { line = before + i + 1; kind = kind })
step_err lines c kind before i x h e =
    at_drop_more (λ rest. with_lines c (before + i + 1) (texts rest)) lines i x h
    ∙ with_lines-step c (before + i + 1) (get_or lines i x).now (texts (drop (i + 1) lines)) (Err kind) e
