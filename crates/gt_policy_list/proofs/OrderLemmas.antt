-- The types of a policy have one order by name.
use Rattle.std.proofs.Common.{◌≡◌, ◌⊎◌, ℕ, ◌+◌, ◌<◌, ◌≤◌, zero, suc, Bool, true, false, List, [], ◌∷◌, length, map}
use Rattle.std.proofs.Common.{get_or, Result, Ok, Err, Ordering, Less, Equal, Greater, is_lt, is_eq, refl, ap, sym}
use Rattle.std.proofs.Common.{subst, ◌∙◌, inl, inr, arith, add-one, IsPermutation}
use Rattle.std.specs.List.{AllByRecursion, IsDistinct, list_any, range_with_len}
use Rattle.std.specs.List.Sorted.{IsSortedBy, IsStrictlySortedBy}
use Rattle.std.specs.Str.{bytes_eq}
use Rattle.std.specs.Cmp.{IsTotalOrder}
use Rattle.std.specs.Cmp.Lexicographic.{slice_cmp}
use Rattle.std.specs.Ordering.{nat_cmp, ordering_reverse}
use Rattle.std.proofs.lemmas.Cmp.{nat_list_cmp_total, tied_itself}
use Rattle.std.proofs.lemmas.List.Elements.{recursion_from_All, All-from_recursion}
use Rattle.std.proofs.lemmas.List.{get_or-map, length-map}
use Rattle.std.proofs.lemmas.List.Sorted.{All-permutation, IsPermutation-sym}
use Rattle.std.proofs.lemmas.Map.Keys.{IsDistinct-IsPermutation}
use Rattle.std.proofs.lemmas.Map.Text.{is_eq-slice_cmp}
use Rattle.gt_types.specs.declared.TypeId.{TypeId}
use Rattle.gt_policy.specs.Accepting.{IsWritten, meant_by}
use Rattle.gt_policy.specs.Allowing.{Meaning, is_allowed}
use Rattle.gt_policy.specs.Listing.{AreByName, type_name_of}
use Rattle.gt_policy.specs.Spelling.{AreDistinct, declared_in, declared_names, types_in}
use Rattle.gt_policy.specs.Names.{Names}
use Rattle.gt_policy.specs.Resolving.{resolved_draft, nothing_given}
use Rattle.gt_policy.specs.Whole.{meaning_of}
use Rattle.gt_policy.specs.declared.fault.TokenFault.{TokenFault}
use Rattle.gt_policy.specs.declared.resolve.Draft.{Draft}
use Rattle.gt_policy.specs.declared.statements.Statement.{Statement}
use Rattle.gt_policy.specs.declared.statements.Statement.TheVariants.{DeclareType, DeclareAttribute, GiveAttributes}
use Rattle.gt_policy.specs.declared.statements.Statement.TheVariants.{Allow}
use Rattle.gt_policy_list.specs.Listing.{listing}
use Rattle.gt_policy_list.specs.Writing.{IsListing}

-- lists with the same elements

all_map : {X : Type 0} (P Q : X → Type 0) → ((x : X) → P x → Q x) → (xs : List X) → AllByRecursion P xs → AllByRecursion Q xs
all_map P Q f [] h = tt
all_map P Q f (x ∷ xs) h = (f x h.0, all_map P Q f xs h.1)

abbrev IsIn : {X : Type 0} → X → List X → Type 0
IsIn z [] = ⊥
IsIn z (x ∷ xs) = (z ≡ x) ⊎ IsIn z xs

all_in : {X : Type 0} (xs : List X) → AllByRecursion (λ z. IsIn z xs) xs
all_in [] = tt
all_in (x ∷ xs) = (inl refl, all_map (λ z. IsIn z xs) (λ z. IsIn z (x ∷ xs)) (λ z h. inr h) xs (all_in xs))

all_at : {X : Type 0} (P : X → Type 0) (xs : List X) (z : X) → AllByRecursion P xs → IsIn z xs → P z
all_at P [] z h i = absurd i
all_at P (x ∷ xs) z h (inl e) = subst P (sym e) h.0
all_at P (x ∷ xs) z h (inr i) = all_at P xs z h.1 i

module _ {X : Type 0} (c : X → X → Ordering) (total : IsTotalOrder c) where
  apart : (o : Ordering) → o ≡ Less → o ≡ Equal → ⊥
  apart o e f = let g : Less ≡ Equal = sym e ∙ f in cc

  not_both : (x y : X) → c x y ≡ Less → c y x ≡ Less → ⊥
  not_both x y e f = apart (c x x) (total.trans x y x e f) (tied_itself total x)

  without_head : (x y : X) (xs ys : List X) → x ≡ y → AllByRecursion (λ z. c x z ≡ Less) xs → AllByRecursion (λ z. IsIn z (y ∷ ys)) xs → AllByRecursion (λ z. IsIn z ys) xs
  without_head x y [] ys e less all = tt
  without_head x y (z ∷ xs) ys e less all =
      let here : IsIn z ys = elim all.0 [
        | inl same ↦ absurd (apart (c x z) less.0 (ap (λ w. c x w) (same ∙ sym e) ∙ tied_itself total x))
        | inr i ↦ i
      ] in (here, without_head x y xs ys e less.1 all.1)

  same_head : (x y : X) (xs ys : List X) → AllByRecursion (λ z. c x z ≡ Less) xs → AllByRecursion (λ z. c y z ≡ Less) ys → IsIn x (y ∷ ys) → IsIn y (x ∷ xs) → x ≡ y
  same_head x y xs ys p q (inl e) j = e
  same_head x y xs ys p q (inr i) (inl e) = sym e
  same_head x y xs ys p q (inr i) (inr j) = absurd (not_both x y (all_at (λ z. c x z ≡ Less) xs y p j) (all_at (λ z. c y z ≡ Less) ys x q i))

  same_members : (xs ys : List X) → IsStrictlySortedBy c xs → IsStrictlySortedBy c ys → AllByRecursion (λ z. IsIn z ys) xs → AllByRecursion (λ z. IsIn z xs) ys → xs ≡ ys
  unfolding IsStrictlySortedBy
  same_members [] [] p q a b = refl
  same_members [] (y ∷ ys) p q a b = absurd b.0
  same_members (x ∷ xs) [] p q a b = absurd a.0
  same_members (x ∷ xs) (y ∷ ys) p q a b =
      let e : x ≡ y = same_head x y xs ys p.0 q.0 a.0 b.0 in
      ap (λ (w : X). w ∷ xs) e ∙ ap (λ (l : List X). y ∷ l) (same_members xs ys p.1 q.1 (without_head x y xs ys e p.0 a.1) (without_head y x ys xs (sym e) q.0 b.1))

  -- sorted, and no two alike
  is_less : (o p : Ordering) → p ≡ ordering_reverse o → is_lt p ≡ false → is_eq o ≡ false → o ≡ Less
  is_less Less p e f g = refl
  is_less Equal p e f g = cc
  is_less Greater p e f g = let h : is_lt p ≡ true = ap is_lt e in cc

  below_all : (x : X) (ys : List X) → IsSortedBy (λ a b. is_lt (c a b)) (x ∷ ys) → AllByRecursion (λ y. is_eq (c x y) ≡ false) ys → IsStrictlySortedBy c ys → AllByRecursion (λ y. c x y ≡ Less) ys
  unfolding IsStrictlySortedBy
  below_all x [] sorted differ strict = tt
  below_all x (y ∷ ys) sorted differ strict =
      let first : c x y ≡ Less = is_less (c x y) (c y x) (total.antisymm y x) (sorted 0 x (omega arith) (omega arith)) differ.0 in
      (first, all_map (λ z. c y z ≡ Less) (λ z. c x z ≡ Less) (λ z h. total.trans x y z first h) ys strict.0)

  strict_from : (xs : List X) → IsSortedBy (λ a b. is_lt (c a b)) xs → IsDistinct (λ a b. is_eq (c a b)) xs → IsStrictlySortedBy c xs
  unfolding IsDistinct IsStrictlySortedBy
  strict_from [] sorted differ = tt
  strict_from (x ∷ xs) sorted differ =
      let tail : IsSortedBy (λ a b. is_lt (c a b)) xs = λ k d p q. rw add-one (rw add-one at (sorted (suc k) d (omega arith) (omega arith))) in
      let strict = strict_from xs tail differ.1 in
      (below_all x xs sorted differ.0 strict, strict)

  alike : (o : Ordering) → is_eq (ordering_reverse o) ≡ is_eq o
  alike Less = refl
  alike Equal = refl
  alike Greater = refl

  flips : (x y : X) → is_eq (c x y) ≡ is_eq (c y x)
  flips x y = ap is_eq (total.antisymm x y) ∙ alike (c y x)

  one_sorted : (r xs ys : List X) → IsDistinct (λ a b. is_eq (c a b)) r → IsPermutation r xs → IsPermutation r ys → IsSortedBy (λ a b. is_lt (c a b)) xs → IsSortedBy (λ a b. is_lt (c a b)) ys → xs ≡ ys
  one_sorted r xs ys differ p q up too =
      let members = λ (these those : List X) (s : IsPermutation r these) (t : IsPermutation r those).
      recursion_from_All (λ z. IsIn z those) these (All-permutation (λ z. IsIn z those) r these s (All-permutation (λ z. IsIn z those) those r (IsPermutation-sym r those t) (All-from_recursion (λ z. IsIn z those) those (all_in those)))) in
      let strict = λ (these : List X) (s : IsPermutation r these) (h : IsSortedBy (λ a b. is_lt (c a b)) these).
      strict_from these h (IsDistinct-IsPermutation (λ a b. is_eq (c a b)) flips r these s differ) in
      same_members xs ys (strict xs p up) (strict ys q too) (members xs ys p q) (members ys xs q p)

-- names that differ

any_false : (p : List ℕ → Bool) (ws : List (List ℕ)) (j : ℕ) → list_any p ws ≡ false → j < length ws → p (get_or ws j []) ≡ false
any_false p [] j h low = absurd (omega arith)
any_false p (w ∷ ws) zero h low = grind arith
any_false p (w ∷ ws) (suc j) h low = any_false p ws j (grind arith) (omega arith)

names_apart : (ws : List (List ℕ)) (i j : ℕ) → AreDistinct ws → i < j → j < length ws → bytes_eq (get_or ws i []) (get_or ws j []) ≡ false
names_apart [] i j h up low = absurd (omega arith)
names_apart (w ∷ ws) i zero h up low = absurd (omega arith)
names_apart (w ∷ ws) zero (suc j) h up low = any_false (λ v. bytes_eq w v) ws j h.0 (omega arith)
names_apart (w ∷ ws) (suc i) (suc j) h up low = names_apart ws i j h.1 (omega arith) (omega arith)

all_range : (P : ℕ → Type 0) (a n : ℕ) → ((j : ℕ) → a ≤ j → j < a + n → P j) → AllByRecursion P (range_with_len a n)
all_range P a zero f = tt
all_range P a (suc n) f = (f a (omega arith) (omega arith), all_range P (a + 1) n (λ j p q. f j (omega arith) (omega arith)))

range_apart : (e : ℕ → ℕ → Bool) (a n : ℕ) → ((i j : ℕ) → a ≤ i → i < j → j < a + n → e i j ≡ false) → IsDistinct e (range_with_len a n)
unfolding IsDistinct
range_apart e a zero f = tt
range_apart e a (suc n) f =
    (all_range (λ j. e a j ≡ false) (a + 1) n (λ j p q. f a j (omega arith) (omega arith) (omega arith)), range_apart e (a + 1) n (λ i j p q r. f i j (omega arith) q (omega arith)))

-- the order of types by name

abbrev by_name : List (List ℕ) → ℕ → ℕ → Ordering
by_name types i j = slice_cmp nat_cmp (type_name_of types i) (type_name_of types j)

by_name_total : (types : List (List ℕ)) → IsTotalOrder (by_name types)
by_name_total types = record {
  antisymm = λ x y. nat_list_cmp_total.antisymm (type_name_of types x) (type_name_of types y);
  trans = λ x y z. nat_list_cmp_total.trans (type_name_of types x) (type_name_of types y) (type_name_of types z);
  congr = λ x y z. nat_list_cmp_total.congr (type_name_of types x) (type_name_of types y) (type_name_of types z);
}

types_apart : (types : List (List ℕ)) → AreDistinct types → IsDistinct (λ a b. is_eq (by_name types a b)) (range_with_len 0 (length types))
types_apart types distinct =
    range_apart (λ a b. is_eq (by_name types a b)) 0 (length types) (λ i j p q r. is_eq-slice_cmp (type_name_of types i) (type_name_of types j) ∙ names_apart types i j distinct q (omega arith))

sorted_numbers : (types : List (List ℕ)) (ids : List TypeId) → IsSortedBy (λ a b. is_lt (by_name types a.0 b.0)) ids → IsSortedBy (λ a b. is_lt (by_name types a b)) (map (λ id. id.0) ids)
sorted_numbers types [] up = λ k d low high. absurd (omega arith)
sorted_numbers types (first ∷ others) up = λ k d low high.
    let ids : List TypeId = first ∷ others in
    let long : length (map (λ id. id.0) ids) ≡ length ids = length-map ids (λ id. id.0) in
    let in_ids : k + 1 < length ids = omega arith in
    let in_too : k < length ids = omega arith in
    let at_a : get_or (map (λ id. id.0) ids) (k + 1) d ≡ (get_or ids (k + 1) first).0 = get_or-map (λ (id : TypeId). id.0) ids (k + 1) first d in_ids in
    let at_b : get_or (map (λ id. id.0) ids) k d ≡ (get_or ids k first).0 = get_or-map (λ (id : TypeId). id.0) ids k first d in_too in
    ap (λ (i : ℕ). is_lt (by_name types i (get_or (map (λ id. id.0) ids) k d))) at_a ∙ ap (λ (i : ℕ). is_lt (by_name types (get_or ids (k + 1) first).0 i)) at_b
    ∙ up k first low in_ids

same_ids : (these those : List TypeId) → map (λ id. id.0) these ≡ map (λ id. id.0) those → these ≡ those
same_ids these those e = sym (back these) ∙ ap (λ (l : List ℕ). map (λ n. record { 0 = n }) l) e ∙ back those
  where
    back : (ids : List TypeId) → map (λ n. record { 0 = n }) (map (λ id. id.0) ids) ≡ ids
    back [] = refl
    back (id ∷ ids) = ap (λ (l : List TypeId). id ∷ l) (back ids)

one_by_name : (types : List (List ℕ)) (these those : List TypeId) → AreDistinct types → AreByName types these → AreByName types those → these ≡ those
one_by_name types these those distinct a b =
    same_ids these those (one_sorted (by_name types) (by_name_total types) (range_with_len 0 (length types)) (map (λ id. id.0) these) (map (λ id. id.0) those) (types_apart types distinct) a.all b.all (sorted_numbers types these a.ordered) (sorted_numbers types those b.ordered))

-- the types of a policy

fewer : (p : List ℕ → Bool) (ss : List Statement) → list_any p (declared_in ss) ≡ false → list_any p (types_in ss) ≡ false
fewer p [] h = h
fewer p (DeclareType w ms ∷ ss) h = let more = fewer p ss (grind arith) in grind arith
fewer p (DeclareAttribute w ∷ ss) h = fewer p ss (grind arith)
fewer p (GiveAttributes m ms ∷ ss) h = fewer p ss h
fewer p (Allow a ∷ ss) h = fewer p ss h

distinct_types : (ss : List Statement) → AreDistinct (declared_in ss) → AreDistinct (types_in ss)
distinct_types [] h = tt
distinct_types (DeclareType w ms ∷ ss) h = (fewer (λ v. bytes_eq w v) ss h.0, distinct_types ss h.1)
distinct_types (DeclareAttribute w ∷ ss) h = distinct_types ss h.1
distinct_types (GiveAttributes m ms ∷ ss) h = distinct_types ss h
distinct_types (Allow a ∷ ss) h = distinct_types ss h

types_meant : (names : Names) (r : Result Draft TokenFault) (m : Meaning) → meaning_of names r ≡ Ok m → names.types ≡ m.types
types_meant names (Ok d) m e = ap (λ (o : Result Meaning TokenFault). elim o [ Ok x ↦ x.types | Err f ↦ [] ]) e
types_meant names (Err f) m e = cc

pub one_order : (m : Meaning) (one other : List ℕ) (ss : List Statement) {text : List ℕ} → IsWritten text ss → meant_by ss ≡ Ok m → IsListing m one → IsListing m other → one ≡ other
one_order m one other ss written means (these, a, is) (those, b, also) =
    let distinct : AreDistinct m.types = subst AreDistinct (types_meant (declared_names ss) (resolved_draft (declared_names ss) nothing_given ss) m means) (distinct_types ss written.clean.distinct) in
    is ∙ ap (λ (ids : List TypeId). listing m.types (is_allowed m) ids) (one_by_name m.types these those distinct a b) ∙ sym also
