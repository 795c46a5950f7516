-- What a name more does to the names of the types.
use Rattle.std.proofs.Common.{◌≡◌, ◌≢◌, ℕ, ◌+◌, ◌<◌, ◌≤◌, Bool, true, false, List, [], ◌∷◌, ◌++◌, length, Option, Some}
use Rattle.std.proofs.Common.{None, refl, ap, arith, cond, ltb, eqb, length-append, subst}
use Rattle.std.specs.Option.{option_map}
use Rattle.std.specs.List.{position, position_or_len, AllPairs}
use Rattle.std.specs.Str.{bytes_eq}
use Rattle.std.proofs.lemmas.Bool.Decides.{nat_tests}
use Rattle.std.proofs.lemmas.List.Folds.{position_or_len_push}
use Rattle.std.proofs.lemmas.List.Sums.{fails_before_first, prefix_len-le-length}
use Rattle.std.proofs.lemmas.List.Quantifiers.{all_pairs_push}
use Rattle.std.proofs.lemmas.Slice.Eq.{bytes_eq-Decides}
use Rattle.gt_types.specs.declared.TypeId.{TypeId}
use Rattle.gt_script.specs.Types.{with_type_name}
use Rattle.gt_policy.specs.Allowing.{type_named}

number_kept : (b : Bool) (i n m l : ℕ) → cond (ltb n l) (Some n) None ≡ Some i → m ≡ cond (eqb n l) (l + cond b 0 1) n → cond (ltb m (l + 1)) (Some m) None ≡ Some i
number_kept b i n m l h e = grind (arith, nat_tests)

number_new : (b : Bool) (n m l : ℕ) → n ≤ l → cond (ltb n l) (Some n) None ≡ None → b ≡ true → m ≡ cond (eqb n l) (l + cond b 0 1) n → cond (ltb m (l + 1)) (Some m) None ≡ Some l
number_new b n m l le h t e = grind (arith, nat_tests)

number_none : (n l : ℕ) → n ≤ l → cond (ltb n l) (Some n) None ≡ None → n ≡ l
number_none n l le h = grind (arith, nat_tests)

length_push : {X : Type 0} (xs : List X) (y : X) → length (xs ++ y ∷ []) ≡ length xs + 1
length_push xs y = length-append xs (y ∷ [])

-- a place stays the first that passes where an element is added at the end
pub position-push : {X : Type 0} (p : X → Bool) (xs : List X) (y : X) (i : ℕ) → position p xs ≡ Some i → position p (xs ++ y ∷ []) ≡ Some i
position-push p xs y i h =
    rw (length_push xs y) (number_kept (p y) i (position_or_len p xs) (position_or_len p (xs ++ y ∷ [])) (length xs) h (position_or_len_push p xs y))

-- where none passes, the element that is added is the first
pub position-new : {X : Type 0} (p : X → Bool) (xs : List X) (y : X) → position p xs ≡ None → p y ≡ true → position p (xs ++ y ∷ []) ≡ Some (length xs)
position-new p xs y h t =
    rw (length_push xs y) (number_new (p y) (position_or_len p xs) (position_or_len p (xs ++ y ∷ [])) (length xs) (prefix_len-le-length _ xs) h t (position_or_len_push p xs y))

-- the names grow so that each keeps its number
pub record Grown (old new : List (List ℕ)) : Type 0 where
  pub kept : (name : List ℕ) (id : TypeId) → type_named old name ≡ Some id → type_named new name ≡ Some id
  pub distinct : AllPairs (λ a b. a ≢ b) old → AllPairs (λ a b. a ≢ b) new
  pub few : length old ≤ 256 → length new ≤ 256

pub Grown-refl : (names : List (List ℕ)) → Grown names names
Grown-refl names = record { kept = λ name id h. h; distinct = λ h. h; few = λ h. h }

pub Grown-trans : (a b c : List (List ℕ)) → Grown a b → Grown b c → Grown a c
Grown-trans a b c h k = record {
  kept = λ name id e. k.kept name id (h.kept name id e);
  distinct = λ d. k.distinct (h.distinct d);
  few = λ d. k.few (h.few d);
}

-- the names after one more, which has this number
pub record Typed (names : List (List ℕ)) (name : List ℕ) (r : List (List ℕ) × TypeId) : Type 0 where
  pub number : type_named r.0 name ≡ Some r.1
  pub grown : Grown names r.0

pub same_bytes : (name : List ℕ) → bytes_eq name name ≡ true
same_bytes name = (bytes_eq-Decides name name).1 refl

other_bytes : (a b : List ℕ) → bytes_eq a b ≡ false → a ≢ b
other_bytes a b h e = let t : bytes_eq a b ≡ true = (bytes_eq-Decides a b).1 e in cc

number-some : (o : Option ℕ) (i : ℕ) → o ≡ Some i → option_map (λ n. let id : TypeId = record { 0 = n } in id) o ≡ Some (record { 0 = i })
number-some o i e = ap (λ (q : Option ℕ). option_map (λ n. let id : TypeId = record { 0 = n } in id) q) e

position-of_number : (o : Option ℕ) (id : TypeId) → option_map (λ n. let id : TypeId = record { 0 = n } in id) o ≡ Some id → o ≡ Some id.0
position-of_number None id e = cc
position-of_number (Some n) id e = let same : record { 0 = n } ≡ id = cc in ap (λ (t : TypeId). Some t.0) same

typed_push : (names : List (List ℕ)) (name : List ℕ) → position (λ t. bytes_eq t name) names ≡ None → length names < 256
    → Typed names name (names ++ name ∷ [], record { 0 = length names })
typed_push names name h few = record {
  number = number-some _ _ (position-new (λ t. bytes_eq t name) names name h (same_bytes name));
  grown = record {
    kept = λ other id e. number-some _ _ (position-push (λ t. bytes_eq t other) names name id.0 (position-of_number _ id e));
    distinct = λ d. all_pairs_push (λ a b. a ≢ b) names name d (λ k x l. other_bytes _ _ (fails_before_first (λ t. bytes_eq t name) names k x (let none = number_none (position_or_len (λ t. bytes_eq t name) names) (length names) (prefix_len-le-length _ names) h in omega arith)));
    few = λ l. rw (length_push names name) (omega arith);
  };
}

typed_new : (names : List (List ℕ)) (name : List ℕ) (room : Bool) (r : List (List ℕ) × TypeId) → position (λ t. bytes_eq t name) names ≡ None → ltb (length names) 256 ≡ room
    → cond room (Some (names ++ name ∷ [], record { 0 = length names })) None ≡ Some r → Typed names name r
typed_new names name true r p h e =
    let same : (names ++ name ∷ [], record { 0 = length names }) ≡ r = cc in
    subst (λ q. Typed names name q) same (typed_push names name p (grind (arith, nat_tests)))
typed_new names name false r p h e = cc

typed_by : (names : List (List ℕ)) (name : List ℕ) (o : Option ℕ) (r : List (List ℕ) × TypeId) → position (λ t. bytes_eq t name) names ≡ o
    → elim o [ Some i ↦ Some (names, record { 0 = i }) | None ↦ cond (ltb (length names) 256) (Some (names ++ name ∷ [], record { 0 = length names })) None ] ≡ Some r
    → Typed names name r
typed_by names name (Some i) r p e =
    let same : (names, record { 0 = i }) ≡ r = cc in
    subst (λ q. Typed names name q) same (record { number = number-some _ _ p; grown = Grown-refl names })
typed_by names name None r p e = typed_new names name (ltb (length names) 256) r p refl e

pub with_type-Typed : (names : List (List ℕ)) (name : List ℕ) (r : List (List ℕ) × TypeId) → with_type_name names name ≡ Some r → Typed names name r
unfolding with_type_name
with_type-Typed names name r e = typed_by names name _ r refl e
