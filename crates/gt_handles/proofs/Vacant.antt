-- No slot has a value exactly if none is counted.
use Rattle.std.proofs.Common.{◌≡◌, ℕ, zero, suc, ◌<◌, List, [], ◌∷◌, Option, Some, None, is_some, count_by, length}
use Rattle.std.proofs.Common.{refl, arith, cond, slice_index_or, ap, sym, ◌∙◌, ◌≢◌, inl, inr}
use Rattle.std.proofs.lemmas.List.Sums.{sum_by-cons}
use Rattle.std.proofs.lemmas.Bool.{cases_eq}
use Rattle.std.proofs.lemmas.Bool.Decides.{nat_tests}
use Rattle.gt_handles.specs.declared.handles.HandleSlot.{HandleSlot}
use Rattle.gt_handles.specs.Handles.{HandleMap, count_of, under, IsEmpty, IsLeast, IsInOrder}

module _ {X : Type 0} where
  -- if none is counted, no key has a value
  pub none_of_count : (slots : List (Option X)) → count_by is_some slots ≡ 0 → (key : ℕ) → slice_index_or slots key None ≡ None
  none_of_count [] count key = refl
  none_of_count (Some x ∷ rest) count key = absurd (omega (arith, sum_by-cons (λ (o : Option X). cond (is_some o) 1 0) (Some x) rest))
  none_of_count (None ∷ rest) count zero = refl
  none_of_count (None ∷ rest) count (suc key) = none_of_count rest (omega (arith, sum_by-cons (λ (o : Option X). cond (is_some o) 1 0) None rest)) key

  -- if no key has a value, none is counted
  pub count_of_none : (slots : List (Option X)) → ((key : ℕ) → key < length slots → slice_index_or slots key None ≡ None) → count_by is_some slots ≡ 0
  count_of_none [] none = refl
  count_of_none (Some x ∷ rest) none = absurd (cc (none 0 (omega arith)))
  count_of_none (None ∷ rest) none =
      omega (arith, count_of_none rest (λ key below. none (suc key) (omega arith)), sum_by-cons (λ (o : Option X). cond (is_some o) 1 0) None rest)

module _ {T : Type 0} where
  -- a map of which no value is counted is empty
  pub empty_of_count : (s : HandleMap T) → count_of s ≡ 0 → IsEmpty s
  empty_of_count s count = record { count = count; none = λ h. ap (under h.serial) (none_of_count s.slots count h.key) }

  -- a map of which no slot has a value is empty
  pub empty_of_none : (s : HandleMap T) → ((key : ℕ) → key < length s.slots → slice_index_or s.slots key None ≡ None) → IsEmpty s
  empty_of_none s none = empty_of_count s (count_of_none s.slots none)

  vacant_of_none : (slot : Option (HandleSlot T)) → ((serial : ℕ) → under serial slot ≡ None) → slot ≡ None
  vacant_of_none None none = refl
  vacant_of_none (Some slot) none = absurd (grind (arith, nat_tests, none slot.serial))

  -- below the least key no slot has a value
  pub none_below : (s : HandleMap T) (key : ℕ) → IsLeast s key → (below : ℕ) → below < key → slice_index_or s.slots below None ≡ None
  none_below s key least below lower =
      vacant_of_none (slice_index_or s.slots below None) (λ serial. least (record { serial = serial; key = below }) lower)

  module _ (old new : List (Option (HandleSlot T))) (key : ℕ)
      (others : (k : ℕ) → k ≢ key → slice_index_or new k None ≡ slice_index_or old k None)
      (taken : slice_index_or new key None ≡ None)
    where
      was_there : (k : ℕ) (x : HandleSlot T) → slice_index_or new k None ≡ Some x → slice_index_or old k None ≡ Some x
      was_there k x found =
          elim (cases_eq k key) [
            | inl same ↦ absurd (cc (found, taken, ap (λ (at : ℕ). slice_index_or new at None) same))
            | inr differs ↦ sym (others k differs) ∙ found
          ]

      -- slots in order stay in order if the value of the least key is taken
      pub in_order_after :
          (next lowest : ℕ) → IsInOrder old next lowest → ((k : ℕ) → k < key → slice_index_or old k None ≡ None) → IsInOrder new next key
      in_order_after next lowest order none =
          record {
            given = λ k x found. order.given k x (was_there k x found);
            one = λ a b x y found_a found_b. order.one a b x y (was_there a x found_a) (was_there b y found_b);
            none = λ k below. others k (λ same. omega arith) ∙ none k below;
          }
