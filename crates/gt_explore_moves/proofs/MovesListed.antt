-- The moves of domains, one domain after the other; and whether all are at their ends.
use Rattle.std.proofs.Common.{◌≡◌, ◌+◌, ◌<◌, ◌≤◌, ◌⊎◌, inl, inr, ℕ, zero, suc, true, false, List, [], ◌∷◌, ◌++◌}
use Rattle.std.proofs.Common.{length, take, get_or, Some, sym, ap, ◌∙◌, arith}
use Rattle.std.specs.Prelude.{slice_get}
use Rattle.std.proofs.lemmas.Bool.{true≢false}
use Rattle.std.proofs.lemmas.List.{append-nil, append_assoc, length-take-le, take_all, take_more}
use Rattle.std.proofs.lemmas.List.FromFn.{map-range_with_len_more}
use Rattle.std.proofs.lemmas.Option.{get_or_from_slice_get, slice_get_within}
use Rattle.gt_explore_search.specs.declared.spaces.Turn.{Turn}
use Rattle.gt_explore_moves.specs.Ends.{AreDone, choices, is_done, turns_by}
use Rattle.gt_explore_moves.specs.declared.actor.Actor.{Actor}
use Rattle.gt_explore_moves.specs.declared.scene.SearchContext.{SearchContext}
use Rattle.std.proofs.lemmas.List.{length-map}
use Rattle.std.proofs.lemmas.List.FromFn.{get_or-map-range_with_len, length-range_with_len}
use Rattle.std.proofs.lemmas.Option.{none-some, same_Some}
use Rattle.std.specs.List.{range_with_len}
use Rattle.std.proofs.Common.{subst}
use Rattle.gt_explore_moves.proofs.MappingFound.{get-at}

-- one move more of a domain
pub choices-more : (place n : ℕ) → choices place n ++ record { place = place; choice = n } ∷ [] ≡ choices place (n + 1)
choices-more place n = sym (map-range_with_len_more (λ (c : ℕ). record { place = place; choice = c }) 0 n n (let e : 0 + n ≡ n = omega arith in e))

pub choices-step : (place n : ℕ) (before old new : List Turn) → old ≡ before ++ choices place n → new ≡ old ++ record { place = place; choice = n } ∷ [] → new ≡ before ++ choices place (n + 1)
choices-step place n before old new e f = f ∙ ap (λ (l : List Turn). l ++ record { place = place; choice = n } ∷ []) e
    ∙ append_assoc before (choices place n) (record { place = place; choice = n } ∷ []) ∙ ap (λ (l : List Turn). before ++ l) (choices-more place n)

turns-more : (moves : ℕ → Actor → ℕ) (n : ℕ) (actors : List Actor) (a : Actor) → turns_by moves n (actors ++ a ∷ []) ≡ turns_by moves n actors ++ choices (n + length actors) (moves (n + length actors) a)
turns-more moves n [] a = append-nil (choices n (moves n a)) ∙ ap (λ (m : ℕ). choices m (moves m a)) (let e : n ≡ n + 0 = omega arith in e)
turns-more moves n (b ∷ more) a =
    ap (λ (l : List Turn). choices n (moves n b) ++ l) (turns-more moves (suc n) more a)
    ∙ sym (append_assoc (choices n (moves n b)) (turns_by moves (suc n) more) (choices (suc n + length more) (moves (suc n + length more) a)))
    ∙ ap (λ (m : ℕ). (choices n (moves n b) ++ turns_by moves (suc n) more) ++ choices m (moves m a)) (let e : suc n + length more ≡ n + suc (length more) = omega arith in e)

-- one domain more
pub turns-step : (moves : ℕ → Actor → ℕ) (actors : List Actor) (i : ℕ) (a : Actor) (count : ℕ) (old new : List Turn) → i < length actors → a ≡ get_or actors i a → old ≡ turns_by moves 0 (take i actors) → new ≡ old ++ choices i count → count ≡ moves i a
    → new ≡ turns_by moves 0 (take (i + 1) actors)
turns-step moves actors i a count old new lt is e f counts =
    let long : length (take i actors) ≡ i = length-take-le i actors (omega arith) in
    f ∙ ap (λ (l : List Turn). l ++ choices i count) e ∙ ap (λ (m : ℕ). turns_by moves 0 (take i actors) ++ choices i m) counts
    ∙ ap (λ (m : ℕ). turns_by moves 0 (take i actors) ++ choices m (moves m a)) (let g : i ≡ 0 + length (take i actors) = omega arith in g)
    ∙ sym (turns-more moves 0 (take i actors) a)
    ∙ ap (λ (z : Actor). turns_by moves 0 (take i actors ++ z ∷ [])) is
    ∙ ap (turns_by moves 0) (sym (take_more actors i a lt))

pub turns-all : (moves : ℕ → Actor → ℕ) (actors : List Actor) (i : ℕ) (turns : List Turn) → length actors ≤ i → turns ≡ turns_by moves 0 (take i actors) → turns ≡ turns_by moves 0 actors
turns-all moves actors i turns le e = e ∙ ap (turns_by moves 0) (take_all i actors le)

-- so many first domains are done
abbrev pub AreDoneTo : ℕ → SearchContext → List Actor → Type 0
AreDoneTo n s actors = (at : ℕ) (a : Actor) → at < n → slice_get actors at ≡ Some a → is_done s at a ≡ true

at-or-below : (at n : ℕ) → at < n + 1 → (at < n) ⊎ (at ≡ n)
at-or-below at n lt = grind arith

pub done-step : (n : ℕ) (s : SearchContext) (actors : List Actor) (a : Actor) → a ≡ get_or actors n a → is_done s n a ≡ true → AreDoneTo n s actors → AreDoneTo (n + 1) s actors
done-step n s actors a is done before at b lt there = by (at-or-below at n lt) where
  by : (at < n) ⊎ (at ≡ n) → is_done s at b ≡ true
  by (inl below) = before at b below there
  by (inr same) =
      let this : b ≡ a = sym (get_or_from_slice_get actors n b a (ap (slice_get actors) (sym same) ∙ there)) ∙ sym is in
      ap (λ (m : ℕ). is_done s m b) same ∙ ap (is_done s n) this ∙ done

pub done-all : (n : ℕ) (s : SearchContext) (actors : List Actor) → length actors ≤ n → AreDoneTo n s actors → AreDone s actors
done-all n s actors le before at a there = before at a (let lt = slice_get_within actors at a there in omega arith) there

there-at : (actors : List Actor) (n : ℕ) (a : Actor) → n < length actors → a ≡ get_or actors n a → slice_get actors n ≡ Some a
there-at [] n a lt is = absurd (omega arith)
there-at (b ∷ more) zero a lt is = ap (λ (z : Actor). Some z) (sym is)
there-at (b ∷ more) (suc n) a lt is = there-at more n a (omega arith) is

-- one that is not done stops
pub not-done : (n : ℕ) (s : SearchContext) (actors : List Actor) (a : Actor) → n < length actors → a ≡ get_or actors n a → is_done s n a ≡ false → AreDone s actors → ⊥
not-done n s actors a lt is off done = true≢false (sym (done n a (there-at actors n a lt is)) ∙ off)

-- each move is listed

in-choices : (place n choice : ℕ) → choice < n → slice_get (choices place n) choice ≡ Some (record { place = place; choice = choice })
in-choices place n choice lt =
    let long : length (choices place n) ≡ n = length-map (range_with_len 0 n) (λ (c : ℕ). record { place = place; choice = c }) ∙ length-range_with_len 0 n in
    let this : Turn = record { place = place; choice = choice } in
    get-at (choices place n) choice this (omega arith)
    (sym (get_or-map-range_with_len (λ (c : ℕ). record { place = place; choice = c }) 0 n choice choice this lt (let e : 0 + choice ≡ choice = omega arith in e)))

in-front : (xs ys : List Turn) (i : ℕ) (x : Turn) → slice_get xs i ≡ Some x → slice_get (xs ++ ys) i ≡ Some x
in-front [] ys i x e = absurd (none-some x e)
in-front (y ∷ xs) ys zero x e = e
in-front (y ∷ xs) ys (suc i) x e = in-front xs ys i x e

in-back : (xs ys : List Turn) (i : ℕ) (x : Turn) → slice_get ys i ≡ Some x → (n : ℕ) × (slice_get (xs ++ ys) n ≡ Some x)
in-back [] ys i x e = (i, e)
in-back (y ∷ xs) ys i x e = let r = in-back xs ys i x e in (suc r.0, r.1)

-- a turn is one of these
abbrev pub IsListed : List Turn → ℕ → ℕ → Type 0
IsListed turns place choice = (n : ℕ) × (slice_get turns n ≡ Some (record { place = place; choice = choice }))

turn-from : (f : ℕ → Actor → ℕ) (base at : ℕ) (actors : List Actor) (a : Actor) (choice : ℕ) → slice_get actors at ≡ Some a → choice < f (base + at) a → IsListed (turns_by f base actors) (base + at) choice
turn-from f base at [] a choice there lt = absurd (none-some a there)
turn-from f base zero (b ∷ more) a choice there lt =
    let same : base + 0 ≡ base = omega arith in
    let below : choice < f base b = subst (λ (z : Actor). choice < f base z) (sym (same_Some b a there)) (subst (λ (m : ℕ). choice < f m a) same lt) in
    subst (λ (m : ℕ). IsListed (turns_by f base (b ∷ more)) m choice) (sym same)
    (choice, in-front (choices base (f base b)) (turns_by f (suc base) more) choice (record { place = base; choice = choice }) (in-choices base (f base b) choice below))
turn-from f base (suc at) (b ∷ more) a choice there lt =
    let same : suc base + at ≡ base + suc at = omega arith in
    let r = turn-from f (suc base) at more a choice there (subst (λ (m : ℕ). choice < f m a) (sym same) lt) in
    subst (λ (m : ℕ). IsListed (turns_by f base (b ∷ more)) m choice) same
    (in-back (choices base (f base b)) (turns_by f (suc base) more) r.0 (record { place = suc base + at; choice = choice }) r.1)

-- each choice that a domain has is among the moves of the domains
pub turn-listed : (f : ℕ → Actor → ℕ) (actors : List Actor) (at : ℕ) (a : Actor) (choice : ℕ) → slice_get actors at ≡ Some a → choice < f at a → IsListed (turns_by f 0 actors) at choice
turn-listed f actors at a choice there lt = let same : 0 + at ≡ at = omega arith in
    subst (λ (m : ℕ). IsListed (turns_by f 0 actors) m choice) same (turn-from f 0 at actors a choice there (subst (λ (m : ℕ). choice < f m a) (sym same) lt))
