-- Flags as the lengths of their runs.
use Rattle.std.proofs.Common.{◌≡◌, ℕ, suc, ◌+◌, ◌++◌, List, [], ◌∷◌, Bool, true, false, not, replicate, length, refl, ap, sym, ◌∙◌}
use Rattle.std.proofs.Common.{All, append_assoc, append-nil, arith}
use Rattle.std.proofs.Math.Bool.{not-not}
use Rattle.std.specs.Bool.{MatchBool, beq}
use Rattle.std.specs.List.{AllWithin}
use Rattle.std.proofs.lemmas.Bool.{true≢false}
use Rattle.std.proofs.lemmas.List.Elements.{All-from_all_within, All-head, All-tail}
use Rattle.gt_explore_moves.specs.RunLengths.{flags_of_runs}

-- the flags `done` are those of these runs and `len` more of this kind, whatever comes after them
abbrev pub HaveRuns : List ℕ → Bool → ℕ → List Bool → Type 0
HaveRuns runs b len done = (n : ℕ) (more : List ℕ) → flags_of_runs false (runs ++ (len + n) ∷ more) ≡ done ++ (replicate n b ++ flags_of_runs (not b) more)

-- one flag more of this kind
longer : (runs : List ℕ) (b : Bool) (len : ℕ) (done : List Bool) → HaveRuns runs b len done → HaveRuns runs b (len + 1) (done ++ b ∷ [])
longer runs b len done have n more =
    let is : len + 1 + n ≡ len + suc n = omega arith in
    ap (λ (k : ℕ). flags_of_runs false (runs ++ k ∷ more)) is ∙ have (suc n) more ∙ sym (append_assoc done (b ∷ []) (replicate n b ++ flags_of_runs (not b) more))

-- the next run, still empty
next-run : (runs : List ℕ) (b : Bool) (len : ℕ) (done : List Bool) → HaveRuns runs b len done → HaveRuns (runs ++ len ∷ []) (not b) 0 done
next-run runs b len done have n more =
    let is : len ≡ len + 0 = omega arith in
    let so : 0 + n ≡ n = omega arith in
    ap (flags_of_runs false) (append_assoc runs (len ∷ []) ((0 + n) ∷ more)) ∙ ap (λ (k : ℕ). flags_of_runs false (runs ++ k ∷ (0 + n) ∷ more)) is ∙ have 0 ((0 + n) ∷ more)
    ∙ ap (λ (k : ℕ). done ++ (replicate k (not b) ++ flags_of_runs (not (not b)) more)) so

-- with the last run
pub all-runs : (runs : List ℕ) (b : Bool) (len : ℕ) (done : List Bool) → HaveRuns runs b len done → flags_of_runs false (runs ++ len ∷ []) ≡ done
all-runs runs b len done have =
    let is : len ≡ len + 0 = omega arith in
    ap (λ (k : ℕ). flags_of_runs false (runs ++ k ∷ [])) is ∙ have 0 [] ∙ append-nil done

-- flags of one kind
one-kind : (xs : List Bool) (b : Bool) → All (λ x. x ≡ b) xs → xs ≡ replicate (length xs) b
one-kind [] b all = refl
one-kind (x ∷ xs) b all = ap (λ (y : Bool). y ∷ xs) (All-head (λ y. y ≡ b) x xs all) ∙ ap (λ (ys : List Bool). b ∷ ys) (one-kind xs b (All-tail (λ y. y ≡ b) x xs all))

same-kind : (x b : Bool) → not (beq x b) ≡ false → x ≡ b
same-kind true true is = refl
same-kind false false is = refl
same-kind true false is = absurd (true≢false is)
same-kind false true is = absurd (true≢false is)

other-kind : (x b : Bool) → not (beq x b) ≡ true → x ≡ not b
other-kind true false is = refl
other-kind false true is = refl
other-kind true true is = absurd (true≢false (sym is))
other-kind false false is = absurd (true≢false (sym is))

same-runs : (old runs : List ℕ) (x b : Bool) (n len : ℕ) (before done : List Bool) → HaveRuns old x n before → runs ≡ old → b ≡ x → len ≡ n → done ≡ before → HaveRuns runs b len done
same-runs old runs x b n len before done have is kind many all k more =
    ap (λ (ns : List ℕ). flags_of_runs false (ns ++ (len + k) ∷ more)) is ∙ ap (λ (m : ℕ). flags_of_runs false (old ++ (m + k) ∷ more)) many ∙ have k more
    ∙ ap (λ (ys : List Bool). ys ++ (replicate k x ++ flags_of_runs (not x) more)) (sym all) ∙ ap (λ (y : Bool). done ++ (replicate k y ++ flags_of_runs (not y) more)) (sym kind)

-- a flag of the other kind
pub other-flag : (old runs : List ℕ) (x b new : Bool) (n len : ℕ) (before done : List Bool) → HaveRuns old x n before → not (beq new x) ≡ true → runs ≡ old ++ n ∷ [] → b ≡ new → len ≡ 1 → done ≡ before ++ new ∷ [] → HaveRuns runs b len done
other-flag old runs x b new n len before done have is more kind one all =
    let so = other-kind new x is in
    same-runs (old ++ n ∷ []) runs (not x) b 1 len (before ++ not x ∷ []) done (longer (old ++ n ∷ []) (not x) 0 before (next-run old x n before have)) more (kind ∙ so) one (all ∙ ap (λ (y : Bool). before ++ y ∷ []) so)

-- a flag of the same kind, in a new run
pub flag-past-run : (old mid runs : List ℕ) (x b new : Bool) (n len : ℕ) (before done : List Bool) → HaveRuns old x n before → not (beq new x) ≡ false → mid ≡ old ++ n ∷ [] → runs ≡ mid ++ 0 ∷ [] → b ≡ x → len ≡ 1 → done ≡ before ++ new ∷ []
    → HaveRuns runs b len done
flag-past-run old mid runs x b new n len before done have is more last kind one all =
    let twice : HaveRuns ((old ++ n ∷ []) ++ 0 ∷ []) (not (not x)) 0 before = next-run (old ++ n ∷ []) (not x) 0 before (next-run old x n before have) in
    let back : x ≡ not (not x) = sym (not-not x) in
    same-runs ((old ++ n ∷ []) ++ 0 ∷ []) runs (not (not x)) b 1 len (before ++ not (not x) ∷ []) done (longer ((old ++ n ∷ []) ++ 0 ∷ []) (not (not x)) 0 before twice) (last ∙ ap (λ (ns : List ℕ). ns ++ 0 ∷ []) more)
    (kind ∙ back) one (all ∙ ap (λ (y : Bool). before ++ y ∷ []) (same-kind new x is ∙ back))

-- a flag of the same kind, in the same run
pub flag-in-run : (old runs : List ℕ) (x b new : Bool) (n len : ℕ) (before done : List Bool) → HaveRuns old x n before → not (beq new x) ≡ false → runs ≡ old → b ≡ x → len ≡ n + 1 → done ≡ before ++ new ∷ [] → HaveRuns runs b len done
flag-in-run old runs x b new n len before done have is same kind one all =
    same-runs old runs x b (n + 1) len (before ++ x ∷ []) done (longer old x n before have) same kind one (all ∙ ap (λ (y : Bool). before ++ y ∷ []) (same-kind new x is))

-- all flags were found to be of one kind
pub found-one-kind : (r : Bool) (No : Type 0) (xs : List Bool) (b : Bool) → MatchBool r (AllWithin (λ x. x ≡ b) xs 0 (length xs)) No → r ≡ true → xs ≡ replicate (length xs) b
found-one-kind true No xs b all is = one-kind xs b (All-from_all_within (λ x. x ≡ b) xs all)
found-one-kind false No xs b all is = absurd (true≢false (sym is))
