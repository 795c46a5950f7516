-- Pairs of names and numbers in order give the numbers by name.
use Rattle.std.proofs.Common.{Ordering, Less, Equal, Greater, ◌≡◌, ◌<◌, ◌≤◌, ℕ, ◌+◌, zero, suc, Bool, false, List, []}
use Rattle.std.proofs.Common.{◌∷◌, ◌++◌, length, map, get_or, refl, sym, ap, ◌∙◌, arith, subst}
use Rattle.std.specs.List.{All, range_with_len}
use Rattle.std.specs.List.Sorted.{IsPermutation, IsSortedBy}
use Rattle.std.specs.Ordering.{is_lt, nat_cmp, ordering_then}
use Rattle.std.specs.Cmp.Lexicographic.{slice_cmp}
use Rattle.std.proofs.lemmas.List.{get_or-map, map-append, length-map}
use Rattle.std.proofs.lemmas.List.Elements.{All-get_or, All-push}
use Rattle.std.proofs.lemmas.List.Sorted.{IsPermutation-map, All-permutation}
use Rattle.std.proofs.lemmas.Simd.{map-map}
use Rattle.gt_types.specs.declared.TypeId.{TypeId}
use Rattle.gt_policy.specs.Listing.{type_name_of, AreByName}

-- the numbers go on by one
range_suc : (a n : ℕ) → range_with_len a (suc n) ≡ range_with_len a n ++ (a + n) ∷ []
range_suc a zero = ap (λ k. k ∷ []) (let e : a ≡ a + 0 = omega arith in e)
range_suc a (suc n) = ap (λ xs. a ∷ xs) (range_suc (a + 1) n ∙ ap (λ k. range_with_len (a + 1) n ++ k ∷ []) (let e : a + 1 + n ≡ a + suc n = omega arith in e))

range_more : (a n : ℕ) → range_with_len a (n + 1) ≡ range_with_len a n ++ (a + n) ∷ []
range_more a n = ap (λ k. range_with_len a k) (let e : n + 1 ≡ suc n = omega arith in e) ∙ range_suc a n

pub numbers_more : {E : Type 0} (number : E → ℕ) (es more : List E) (e : E) (n : ℕ) → more ≡ es ++ e ∷ [] → number e ≡ n → map number es ≡ range_with_len 0 n → map number more ≡ range_with_len 0 (n + 1)
numbers_more number es more e n pushed here so_far =
    ap (λ xs. map number xs) pushed ∙ map-append number es (e ∷ []) ∙ ap (λ xs. xs ++ number e ∷ []) so_far ∙ ap (λ k. range_with_len 0 n ++ k ∷ []) (here ∙ (let e : n ≡ 0 + n = omega arith in e))
    ∙ sym (range_more 0 n)

pub numbers_start : {E : Type 0} (number : E → ℕ) (es : List E) → es ≡ [] → map number es ≡ range_with_len 0 0
numbers_start number es e = ap (λ xs. map number xs) e

pub all_start : {E : Type 0} (P : E → Type 0) (es : List E) → es ≡ [] → All P es
all_start {E = E} P es e = subst (λ (xs : List E). All P xs) (sym e) (λ k d low. absurd (omega arith))

pub all_more : {E : Type 0} (P : E → Type 0) (es more : List E) (e : E) → more ≡ es ++ e ∷ [] → All P es → P e → All P more
all_more {E = E} P es more e pushed all here = subst (λ (xs : List E). All P xs) (sym pushed) (All-push P es e all here)

-- the name at a place, and how many there are, where the names are kept as texts
pub name_here : {S : Type 0} (bytes : S → List ℕ) (items seen : List S) (types : List (List ℕ)) (i : ℕ) (s : S) (w : List ℕ) → items ≡ seen → map bytes seen ≡ types → i < length items → s ≡ get_or items i s → w ≡ bytes s → type_name_of types i ≡ w
name_here {S = S} bytes items seen types i s w same shown h here text =
    ap (λ (ts : List (List ℕ)). type_name_of ts i) (sym shown ∙ ap (λ (xs : List S). map bytes xs) (sym same)) ∙ get_or-map bytes items i s [] h ∙ ap bytes (sym here) ∙ sym text

pub count_all : {S : Type 0} (bytes : S → List ℕ) (items seen : List S) (types : List (List ℕ)) (i : ℕ) → items ≡ seen → map bytes seen ≡ types → length items ≤ i → i ≤ length items → i ≡ length types
count_all {S = S} bytes items seen types i same shown low high =
    let count : length types ≡ length items = ap (λ (ts : List (List ℕ)). length ts) (sym shown) ∙ length-map seen bytes ∙ ap (λ (xs : List S). length xs) (sym same) in omega arith

-- what is first in order by two keys is by the first of them
first_key : (a b : Ordering) → is_lt (ordering_then a b) ≡ false → is_lt a ≡ false
first_key Less b e = e
first_key Equal b e = refl
first_key Greater b e = refl

abbrev pub id_at : ℕ → TypeId
id_at n = record { 0 = n }

module _ {E : Type 0} (number : E → ℕ) (name : E → List ℕ) (types : List (List ℕ)) where
  abbrev before : E → E → Bool
  before a b = is_lt (ordering_then (slice_cmp nat_cmp (name a) (name b)) (nat_cmp (number a) (number b)))

  abbrev less : TypeId → TypeId → Bool
  less a b = is_lt (slice_cmp nat_cmp (type_name_of types a.0) (type_name_of types b.0))

  pub ordered : (es : List E) (ids : List TypeId) → ids ≡ map (λ e. id_at (number e)) es → All (λ e. type_name_of types (number e) ≡ name e) es → IsSortedBy before es → IsSortedBy less ids
  ordered [] ids same named up = λ k d low high. absurd (let none : length ids ≡ 0 = ap (λ (xs : List TypeId). length xs) same in omega arith)
  ordered (first ∷ others) ids same named up = λ k d low high.
      let es : List E = first ∷ others in
      let long : length ids ≡ length es = ap (λ (xs : List TypeId). length xs) same ∙ length-map es (λ e. id_at (number e)) in
      let in_es : k + 1 < length es = omega arith in
      let in_too : k < length es = omega arith in
      let a : E = get_or es (k + 1) first in
      let b : E = get_or es k first in
      let at_a : get_or ids (k + 1) d ≡ id_at (number a) = ap (λ (xs : List TypeId). get_or xs (k + 1) d) same ∙ get_or-map (λ e. id_at (number e)) es (k + 1) first d in_es in
      let at_b : get_or ids k d ≡ id_at (number b) = ap (λ (xs : List TypeId). get_or xs k d) same ∙ get_or-map (λ e. id_at (number e)) es k first d in_too in
      let named_a : type_name_of types (number a) ≡ name a = All-get_or (λ e. type_name_of types (number e) ≡ name e) es (k + 1) first in_es named in
      let named_b : type_name_of types (number b) ≡ name b = All-get_or (λ e. type_name_of types (number e) ≡ name e) es k first in_too named in
      ap (λ (i : TypeId). less i (get_or ids k d)) at_a ∙ ap (λ (i : TypeId). less (id_at (number a)) i) at_b
      ∙ ap (λ w. is_lt (slice_cmp nat_cmp w (type_name_of types (number b)))) named_a ∙ ap (λ w. is_lt (slice_cmp nat_cmp (name a) w)) named_b
      ∙ first_key (slice_cmp nat_cmp (name a) (name b)) (nat_cmp (number a) (number b)) (up k first low in_es)

  pub listed : (es sorted : List E) (ids : List TypeId) → map number es ≡ range_with_len 0 (length types) → All (λ e. type_name_of types (number e) ≡ name e) es → IsPermutation es sorted → IsSortedBy before sorted
      → ids ≡ map (λ e. id_at (number e)) sorted → AreByName types ids
  listed es sorted ids numbers named moved up same = record {
    all = subst (λ (ns : List ℕ). IsPermutation (range_with_len 0 (length types)) ns) (sym (ap (λ (xs : List TypeId). map (λ i. i.0) xs) same ∙ map-map (λ i. i.0) (λ e. id_at (number e)) sorted))
        (subst (λ (ns : List ℕ). IsPermutation ns (map number sorted)) numbers (IsPermutation-map number es sorted moved));
    ordered = ordered sorted ids same (All-permutation (λ e. type_name_of types (number e) ≡ name e) es sorted moved named) up;
  }
