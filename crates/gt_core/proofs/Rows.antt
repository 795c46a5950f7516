-- A change of one element of a list; the state of a domain among the states, and a change of it.
use Rattle.gt_core.proofs.Words.{◌≡◌, ◌<◌, ◌≤◌, ℕ, zero, suc, refl, Bool, true, false, List, [], ◌∷◌, length, Some}
use Rattle.gt_core.proofs.Words.{None, cond, ltb, ap, ◌∙◌, arith, get_or, set, eqb-true, eq-eqb, ltb-false}
use Rattle.gt_core.proofs.Words.{position-Some, slice_get_past, slice_get-get_or, Result, OnErr, position, slice_get}
use Rattle.gt_core.proofs.Words.{◌==◌, position_or_len, State, find, cond_both, find_at, option_map, changed_at}
use Rattle.gt_core.proofs.Words.{state_of, changed_in}

abbrev pub has_id : ℕ → State → Bool
has_id d x = x.id.0 == d

state_of-find : (xs : List State) (d : ℕ) → state_of xs d ≡ find (has_id d) xs
state_of-find [] d = refl
state_of-find (x ∷ xs) d = ap (cond (x.id.0 == d) (Some x)) (state_of-find xs d)

pub none-place : (n m : ℕ) → cond (ltb n m) (Some n) None ≡ None → m ≤ n
none-place n m h = cond_both (ltb n m) (Some n) None (λ o. o ≡ None → m ≤ n) (λ e k. cc) (λ e k. ltb-false n m e) h

some-place : (n m i : ℕ) → cond (ltb n m) (Some n) None ≡ Some i → n ≡ i
some-place n m i h = cond_both (ltb n m) (Some n) None (λ o. o ≡ Some i → n ≡ i) (λ e k. cc) (λ e k. cc) h

-- no domain has the number
pub not-found : (xs : List State) (d : ℕ) → position (has_id d) xs ≡ None → state_of xs d ≡ None
not-found xs d h = state_of-find xs d ∙ find_at (has_id d) xs ∙ slice_get_past xs (position_or_len (has_id d) xs) (none-place _ _ h)

-- the first domain with the number
pub found : (xs : List State) (d i : ℕ) (x : State) → position (has_id d) xs ≡ Some i → state_of xs d ≡ Some (get_or xs i x)
found xs d i x h = state_of-find xs d ∙ find_at (has_id d) xs
    ∙ ap (slice_get xs) (some-place (position_or_len (has_id d) xs) (length xs) i h)
    ∙ slice_get-get_or xs i x (position-Some (has_id d) xs i x h).0

-- a new state of the first domain with a number
pub state_of-set : (xs : List State) (i : ℕ) (old new : State) (q : ℕ)
    → i < length xs → get_or xs i old ≡ old → new.id.0 ≡ old.id.0 → ((k : ℕ) → k < i → has_id old.id.0 (get_or xs k old) ≡ false)
    → state_of (set xs i new) q ≡ cond (old.id.0 == q) (Some new) (state_of xs q)
state_of-set [] i old new q within here same apart = absurd (omega arith)
state_of-set (x ∷ xs) zero old new q within here same apart = grind arith
state_of-set (x ∷ xs) (suc i) old new q within here same apart = grind (arith, state_of-set xs i old new q (omega arith) here same (λ k h. apart (suc k) (omega arith)), apart 0 (omega arith), eqb-true, eq-eqb)

-- what holds in any case holds on an error
pub on-err : {A E : Type 0} (r : Result A E) (P : Type 0) → P → OnErr r P
on-err r P p = grind arith

-- a write of the changed element
pub set-changed : {A : Type 0} (xs : List A) (r : ℕ) (f : A → A) (y x : A) → r < length xs → x ≡ get_or xs r x → y ≡ f x → set xs r y ≡ changed_at r f xs
set-changed [] r f y x within e s = grind arith
set-changed (z ∷ zs) zero f y x within e s = grind arith
set-changed (z ∷ zs) (suc r) f y x within e s = grind (arith, set-changed zs r f y x (omega arith) e s)

-- beyond the end nothing changes
pub changed-past : {A : Type 0} (xs : List A) (r : ℕ) (f : A → A) → length xs ≤ r → changed_at r f xs ≡ xs
changed-past [] r f past = refl
changed-past (z ∷ zs) zero f past = grind arith
changed-past (z ∷ zs) (suc r) f past = grind (arith, changed-past zs r f (omega arith))

pub length-changed : {A : Type 0} (xs : List A) (r : ℕ) (f : A → A) → length (changed_at r f xs) ≡ length xs
length-changed (z ∷ zs) (suc r) f = grind (arith, length-changed zs r f)
length-changed xs r f = refl

-- the element at an index after the change
pub get-changed : {A : Type 0} (xs : List A) (r q : ℕ) (f : A → A) → slice_get (changed_at r f xs) q ≡ cond (r == q) (option_map f (slice_get xs q)) (slice_get xs q)
get-changed [] r q f = grind arith
get-changed (z ∷ zs) zero zero f = refl
get-changed (z ∷ zs) zero (suc q) f = grind arith
get-changed (z ∷ zs) (suc r) zero f = grind arith
get-changed (z ∷ zs) (suc r) (suc q) f = grind (arith, get-changed zs r q f)

-- states

changed-there : (xs : List State) (d i : ℕ) (f : State → State) (x : State) → i < length xs → x ≡ get_or xs i x → has_id d (get_or xs i x) ≡ true
    → ((k : ℕ) → k < i → has_id d (get_or xs k x) ≡ false) → set xs i (f x) ≡ changed_in d f xs
changed-there [] d i f x within here is apart = absurd (omega arith)
changed-there (z ∷ zs) d zero f x within here is apart = grind arith
changed-there (z ∷ zs) d (suc i) f x within here is apart = grind (arith, changed-there zs d i f x (omega arith) here is (λ k below. apart (suc k) (omega arith)), apart 0 (omega arith))

-- a write of the changed state
pub set-state : (xs : List State) (d i : ℕ) (f : State → State) (x y : State) → position (has_id d) xs ≡ Some i → x ≡ get_or xs i x → y ≡ f x → set xs i y ≡ changed_in d f xs
set-state xs d i f x y p here s = let a = position-Some (has_id d) xs i x p in
    ap (λ (v : State). set xs i v) s ∙ changed-there xs d i f x a.0 here a.1 a.2

changed-none : (xs : List State) (d : ℕ) (f : State → State) → length xs ≤ position_or_len (has_id d) xs → changed_in d f xs ≡ xs
changed-none [] d f past = refl
changed-none (z ∷ zs) d f past = grind (arith, changed-none zs d f)

-- no state has the number
pub changed-nowhere : (xs : List State) (d : ℕ) (f : State → State) → position (has_id d) xs ≡ None → changed_in d f xs ≡ xs
changed-nowhere xs d f p = changed-none xs d f (none-place (position_or_len (has_id d) xs) (length xs) p)

pub length-changed_in : (xs : List State) (d : ℕ) (f : State → State) → length (changed_in d f xs) ≡ length xs
length-changed_in [] d f = refl
length-changed_in (z ∷ zs) d f = grind (arith, length-changed_in zs d f)

-- the first state with a number, after the change of the one with number d
pub state-changed : (xs : List State) (d q : ℕ) (f : State → State) → ((x : State) → (f x).id ≡ x.id) → state_of (changed_in d f xs) q ≡ cond (d == q) (option_map f (state_of xs q)) (state_of xs q)
state-changed [] d q f keeps = grind arith
state-changed (z ∷ zs) d q f keeps = grind (arith, state-changed zs d q f keeps)
