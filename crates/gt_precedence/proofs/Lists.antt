-- Lists cut at an element that a test passes.
use Rattle.std.proofs.Common.{◌≡◌, ◌<◌, ℕ, zero, suc, ◌+◌, Bool, true, false, cond, List, [], ◌∷◌, ◌++◌, length}
use Rattle.std.proofs.Common.{refl, ap, sym, ◌∙◌, arith}
use Rattle.std.proofs.lemmas.List.{length-append}
use Rattle.std.proofs.lemmas.List.Elements.{filter-append}
use Rattle.std.specs.Prelude.{filter}

module _ {X : Type 0} where
  -- how many elements pass
  abbrev pub count : (X → Bool) → List X → ℕ
  count p xs = length (filter p xs)

  pub count-append : (p : X → Bool) (xs ys : List X) → count p (xs ++ ys) ≡ count p xs + count p ys
  count-append p xs ys = ap length (filter-append p xs ys) ∙ length-append (filter p xs) (filter p ys)

  count-by : (x : X) (fs : List X) (b : Bool) → length (cond b (x ∷ fs) fs) ≡ cond b (suc (length fs)) (length fs)
  count-by x fs true = refl
  count-by x fs false = refl

  pub count-yes : (p : X → Bool) (x : X) (xs : List X) → p x ≡ true → count p (x ∷ xs) ≡ suc (count p xs)
  count-yes p x xs e = count-by x (filter p xs) (p x) ∙ rw e refl

  pub count-no : (p : X → Bool) (x : X) (xs : List X) → p x ≡ false → count p (x ∷ xs) ≡ count p xs
  count-no p x xs e = count-by x (filter p xs) (p x) ∙ rw e refl

  -- a list cut at an element that passes
  pub record CutAt (p : X → Bool) (xs : List X) (n : ℕ) : Type 0 where
    pub front : List X
    pub here : X
    pub back : List X
    pub parts : xs ≡ front ++ here ∷ back
    pub passes : p here ≡ true
    pub many : count p front ≡ n

  -- the element with this number of passing ones before it
  pub nth : (p : X → Bool) (xs : List X) (n : ℕ) → n < count p xs → CutAt p xs n
  nth p [] n lt = absurd (omega (arith, lt))
  nth p (x ∷ xs) n lt = by (nth p xs) n lt (p x) refl where
    skip : (m : ℕ) → (k : ℕ) → count p (x ∷ []) + m ≡ k → CutAt p xs m → CutAt p (x ∷ xs) k
    skip m k e cut = record {
      front = x ∷ cut.front;
      here = cut.here;
      back = cut.back;
      parts = ap (λ (l : List X). x ∷ l) cut.parts;
      passes = cut.passes;
      many = count-append p (x ∷ []) cut.front ∙ ap (λ (i : ℕ). count p (x ∷ []) + i) cut.many ∙ e;
    }

    by : ((m : ℕ) → m < count p xs → CutAt p xs m) → (n : ℕ) → n < count p (x ∷ xs) → (b : Bool) → p x ≡ b → CutAt p (x ∷ xs) n
    by rest zero lt true e = record { front = []; here = x; back = xs; parts = refl; passes = e; many = refl }
    by rest (suc m) lt true e = let one = count-yes p x [] e in let all = count-yes p x xs e in
        skip m (suc m) (omega (arith, one)) (rest m (omega (arith, all, lt)))
    by rest n lt false e = let one = count-no p x [] e in let all = count-no p x xs e in
        skip n n (omega (arith, one)) (rest n (omega (arith, all, lt)))

  -- two cuts at passing elements with as many before them are the same
  pub record SameCut (front : List X) (here : X) (back us : List X) (u : X) (vs : List X) : Type 0 where
    pub fronts : front ≡ us
    pub heres : here ≡ u
    pub backs : back ≡ vs

  pub same-cut : (p : X → Bool) (front us back vs : List X) (here u : X) → front ++ here ∷ back ≡ us ++ u ∷ vs → p here ≡ true → p u ≡ true → count p front ≡ count p us → SameCut front here back us u vs
  same-cut p [] [] back vs here u e first second same = record { fronts = refl; heres = cc; backs = cc }
  same-cut p [] (z ∷ us) back vs here u e first second same =
      let is : here ≡ z = cc in let more = count-yes p z us (ap p (sym is) ∙ first) in absurd (omega (arith, more, same))
  same-cut p (z ∷ front) [] back vs here u e first second same =
      let is : z ≡ u = cc in let more = count-yes p z front (ap p is ∙ second) in absurd (omega (arith, more, same))
  same-cut p (y ∷ front) (z ∷ us) back vs here u e first second same =
      let is : y ≡ z = cc in let rest : front ++ here ∷ back ≡ us ++ u ∷ vs = cc in
      let mine = count-append p (y ∷ []) front in let theirs = count-append p (z ∷ []) us in
      let one : count p (y ∷ []) ≡ count p (z ∷ []) = ap (λ (w : X). count p (w ∷ [])) is in
      let cut = same-cut p front us back vs here u rest first second (omega (arith, mine, theirs, one, same)) in
      record { fronts = ap (λ (w : X). w ∷ front) is ∙ ap (λ (l : List X). z ∷ l) cut.fronts; heres = cut.heres; backs = cut.backs }

  -- a list cut where what passes a test is cut
  pub record Unfiltered (p : X → Bool) (xs front : List X) (here : X) (back : List X) : Type 0 where
    pub left : List X
    pub right : List X
    pub parts : xs ≡ left ++ here ∷ right
    pub passes : p here ≡ true
    pub fronts : filter p left ≡ front
    pub backs : filter p right ≡ back

  pub unfilter : (p : X → Bool) (xs front : List X) (here : X) (back : List X) → filter p xs ≡ front ++ here ∷ back → Unfiltered p xs front here back
  unfilter p [] [] here back e = absurd (cc)
  unfilter p [] (z ∷ front) here back e = absurd (cc)
  unfilter p (x ∷ xs) front here back e = by (λ f. unfilter p xs f here back) (p x) refl front e where
    by : ((f : List X) → filter p xs ≡ f ++ here ∷ back → Unfiltered p xs f here back) → (b : Bool) → p x ≡ b → (front : List X) → cond (p x) (x ∷ filter p xs) (filter p xs) ≡ front ++ here ∷ back → Unfiltered p (x ∷ xs) front here back
    by rest true is-true [] e = let f : x ∷ filter p xs ≡ here ∷ back = rw is-true at e in let is : x ≡ here = cc in
        record { left = []; right = xs; parts = ap (λ (w : X). w ∷ xs) is; passes = ap p (sym is) ∙ is-true; fronts = refl; backs = cc }
    by rest true is-true (z ∷ front) e = let f : x ∷ filter p xs ≡ z ∷ (front ++ here ∷ back) = rw is-true at e in
        let cut = rest front cc in let is : x ≡ z = cc in record {
          left = x ∷ cut.left;
          right = cut.right;
          parts = ap (λ (l : List X). x ∷ l) cut.parts;
          passes = cut.passes;
          fronts = rw is-true (ap (λ (w : X). w ∷ filter p cut.left) is ∙ ap (λ (l : List X). z ∷ l) cut.fronts);
          backs = cut.backs;
        }
    by rest false is-false front e = let f : filter p xs ≡ front ++ here ∷ back = rw is-false at e in
        let cut = rest front f in record {
          left = x ∷ cut.left;
          right = cut.right;
          parts = ap (λ (l : List X). x ∷ l) cut.parts;
          passes = cut.passes;
          fronts = rw is-false cut.fronts;
          backs = cut.backs;
        }
