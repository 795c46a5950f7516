-- The values of a map as a list and as a count, as the calls change them.
use Rattle.std.proofs.Common.{◌≡◌, ◌+◌, ◌≤◌, ℕ, zero, suc, refl, Bool, true, false, List, [], ◌∷◌, ◌++◌, length}
use Rattle.std.proofs.Common.{Option, Some, None, is_some, cond, sym, ap, ◌∙◌, arith, inl, inr}
use Rattle.std.specs.Prelude.{◌==◌, ◌&&◌, count_by, slice_index_or}
use mathlib.Core.Path.{fun_ext}
use Rattle.std.proofs.lemmas.Bool.{eqb-true, eq-eqb, ne_eqb, and_parts, and_from, cases_eq, true≢false}
use Rattle.std.proofs.lemmas.Option.{none-some}
use Rattle.std.proofs.lemmas.List.{length-append}
use Rattle.std.proofs.lemmas.List.Sums.{sum_by-cons}
use Rattle.gt_model.specs.declared.handle.Handle.{Handle}
use Rattle.gt_handles.specs.declared.handles.HandleSlot.{HandleSlot}
use Rattle.gt_handles.specs.Handles.{HandleMap, Updates, value_of, count_of, under}
use Rattle.gt_model.specs.Asking.{same_handle}
use Rattle.gt_handles.specs.Listing.{HandlesDiffer, HasJust, IsInserted, IsTaken, count_passing, has_passing, listed}
use Rattle.gt_handles.specs.Listing.{unlisted}

pub same-handle : (a b : Handle) → same_handle a b ≡ true → a ≡ b
same-handle a b e =
    let p = and_parts (a.serial == b.serial) (a.key == b.key) e in
    ap (λ (n : ℕ). record { serial = n; key = a.key }) (eqb-true a.serial b.serial p.0)
    ∙ ap (λ (n : ℕ). record { serial = b.serial; key = n }) (eqb-true a.key b.key p.1)

handle-same : (a : Handle) → same_handle a a ≡ true
handle-same a =
    and_from (a.serial == a.serial) (a.key == a.key) (eq-eqb a.serial a.serial refl) (eq-eqb a.key a.key refl)

apart-back : (a b : Handle) → same_handle a b ≡ false → same_handle b a ≡ false
apart-back a b e = by (same_handle b a) refl
  where
    by : (c : Bool) → same_handle b a ≡ c → same_handle b a ≡ false
    by true f =
        absurd (true≢false (sym (handle-same a) ∙ ap (λ (x : Handle). same_handle a x) (sym (same-handle b a f)) ∙ e))
    by false f = f

swap-handles : (a b : Handle) → same_handle a b ≡ same_handle b a
swap-handles a b = by (same_handle a b) refl
  where
    by : (c : Bool) → same_handle a b ≡ c → same_handle a b ≡ same_handle b a
    by true e = e ∙ sym (handle-same a) ∙ ap (λ (x : Handle). same_handle x a) (same-handle a b e)
    by false e = e ∙ sym (apart-back a b e)

module _ {T : Type 0} where
  none-both : (b : Bool) → ◌≡◌ {A = Option T} (cond b None None) None
  none-both true = refl
  none-both false = refl

  -- a list of values with one more at its end

  none-of : (x : Handle × T) (ms : List (Handle × T)) (handle : Handle) → listed (x ∷ ms) handle ≡ None
      → (same_handle x.0 handle ≡ false) × (listed ms handle ≡ None)
  none-of x ms handle e = by (same_handle x.0 handle) refl e
    where
      by : (b : Bool) → same_handle x.0 handle ≡ b → cond b (Some x.1) (listed ms handle) ≡ None
          → (same_handle x.0 handle ≡ false) × (listed ms handle ≡ None)
      by true is f = absurd (none-some x.1 (sym f))
      by false is f = (is, f)

  push-of : (ms : List (Handle × T)) (handle : Handle) (m : T) (other : Handle) → listed ms handle ≡ None
      → listed (ms ++ (handle, m) ∷ []) other ≡ cond (same_handle other handle) (Some m) (listed ms other)
  push-of [] handle m other none = ap (λ (b : Bool). cond b (Some m) None) (swap-handles handle other)
  push-of (x ∷ ms) handle m other none =
      by (same_handle x.0 other) refl (push-of ms handle m other (none-of x ms handle none).1)
    where
      by : (b : Bool) → same_handle x.0 other ≡ b
          → listed (ms ++ (handle, m) ∷ []) other ≡ cond (same_handle other handle) (Some m) (listed ms other)
          → cond b (Some x.1) (listed (ms ++ (handle, m) ∷ []) other)
          ≡ cond (same_handle other handle) (Some m) (cond b (Some x.1) (listed ms other))
      by true is rest =
          let off : same_handle other handle ≡ false =
          ap (λ (z : Handle). same_handle z handle) (sym (same-handle x.0 other is))
          ∙ (none-of x ms handle none).0 in
          sym (ap (λ (c : Bool). cond c (Some m) (Some x.1)) off)
      by false is rest = rest

  apart-push : (ms : List (Handle × T)) (handle : Handle) (m : T) → HandlesDiffer ms → listed ms handle ≡ None
      → HandlesDiffer (ms ++ (handle, m) ∷ [])
  apart-push [] handle m a none = (refl, tt)
  apart-push (x ∷ ms) handle m a none =
      let n = none-of x ms handle none in (
        push-of ms handle m x.0 n.1 ∙ ap (λ (b : Bool). cond b (Some m) (listed ms x.0)) n.0 ∙ a.0,
        apart-push ms handle m a.1 n.1,
      )

  -- a list of values with one less

  unlisted-of : (ms : List (Handle × T)) (handle other : Handle) → HandlesDiffer ms
      → listed (unlisted handle ms) other ≡ cond (same_handle other handle) None (listed ms other)
  unlisted-of [] handle other a = sym (none-both (same_handle other handle))
  unlisted-of (x ∷ ms) handle other a = by (same_handle x.0 handle) refl (unlisted-of ms handle other a.1)
    where
      gone : x.0 ≡ handle → (c : Bool) → same_handle other handle ≡ c
          → listed ms other ≡ cond c None (cond (same_handle x.0 other) (Some x.1) (listed ms other))
      gone here true e = ap (listed ms) (same-handle other handle e ∙ sym here) ∙ a.0
      gone here false e =
          let off : same_handle x.0 other ≡ false =
          ap (λ (z : Handle). same_handle z other) here ∙ apart-back other handle e in
          sym (ap (λ (c : Bool). cond c (Some x.1) (listed ms other)) off)

      stays : same_handle x.0 handle ≡ false
          → listed (unlisted handle ms) other ≡ cond (same_handle other handle) None (listed ms other) → (c : Bool)
          → same_handle x.0 other ≡ c
          → cond c (Some x.1) (listed (unlisted handle ms) other)
          ≡ cond (same_handle other handle) None (cond c (Some x.1) (listed ms other))
      stays is rest true e =
          let off : same_handle other handle ≡ false =
          ap (λ (z : Handle). same_handle z handle) (sym (same-handle x.0 other e)) ∙ is in
          sym (ap (λ (b : Bool). cond b None (Some x.1)) off)
      stays is rest false e = rest

      by : (b : Bool) → same_handle x.0 handle ≡ b
          → listed (unlisted handle ms) other ≡ cond (same_handle other handle) None (listed ms other)
          → listed (cond b ms (x ∷ unlisted handle ms)) other
          ≡ cond (same_handle other handle) None (cond (same_handle x.0 other) (Some x.1) (listed ms other))
      by true is rest = gone (same-handle x.0 handle is) (same_handle other handle) refl
      by false is rest = stays is rest (same_handle x.0 other) refl

  length-unlisted : (ms : List (Handle × T)) (handle : Handle) (m : T) → listed ms handle ≡ Some m
      → length ms ≡ length (unlisted handle ms) + 1
  length-unlisted [] handle m e = absurd (none-some m e)
  length-unlisted (x ∷ ms) handle m e = by (same_handle x.0 handle) (λ k. length-unlisted ms handle m k) e
    where
      by : (b : Bool) → (listed ms handle ≡ Some m → length ms ≡ length (unlisted handle ms) + 1)
          → cond b (Some x.1) (listed ms handle) ≡ Some m
          → length (x ∷ ms) ≡ length (cond b ms (x ∷ unlisted handle ms)) + 1
      by true rest f = omega arith
      by false rest f = let r : length ms ≡ length (unlisted handle ms) + 1 = rest f in omega arith

  unlisted-none : (ms : List (Handle × T)) (handle other : Handle) → listed ms other ≡ None
      → listed (unlisted handle ms) other ≡ None
  unlisted-none [] handle other e = refl
  unlisted-none (x ∷ ms) handle other e =
      let n = none-of x ms other e in
      by (same_handle x.0 handle) n.0 n.1 (unlisted-none ms handle other n.1)
    where
      by : (b : Bool) → same_handle x.0 other ≡ false → listed ms other ≡ None
          → listed (unlisted handle ms) other ≡ None → listed (cond b ms (x ∷ unlisted handle ms)) other ≡ None
      by true off none rest = none
      by false off none rest = ap (λ (c : Bool). cond c (Some x.1) (listed (unlisted handle ms) other)) off ∙ rest

  apart-unlisted : (ms : List (Handle × T)) (handle : Handle) → HandlesDiffer ms → HandlesDiffer (unlisted handle ms)
  apart-unlisted [] handle a = tt
  apart-unlisted (x ∷ ms) handle a = by (same_handle x.0 handle) (apart-unlisted ms handle a.1)
    where
      by : (b : Bool) → HandlesDiffer (unlisted handle ms) → HandlesDiffer (cond b ms (x ∷ unlisted handle ms))
      by true rest = a.1
      by false rest = (unlisted-none ms handle x.0 a.0, rest)

  -- an insertion appends to the list
  pub inserted-listed : (old new : HandleMap T) (handle : Handle) (m : T) (ms : List (Handle × T)) (n : ℕ)
      → IsInserted old new handle m → HasJust old ms n
      → HasJust new (ms ++ (handle, m) ∷ []) (n + 1)
  inserted-listed old new handle m ms n ins a =
      let none : listed ms handle ≡ None = ap (λ (f : Handle → Option T). f handle) (sym a.named) ∙ ins.fresh in
      record {
        named = fun_ext
            (λ other. ins.updates other
            ∙ ap (λ (f : Handle → Option T). cond (same_handle other handle) (Some m) (f other)) a.named
            ∙ sym (push-of ms handle m other none));
        count = ins.count ∙ ap (λ (k : ℕ). k + 1) a.count ∙ sym (length-append ms ((handle, m) ∷ []));
        given_is = ins.given ∙ ap (λ (k : ℕ). k + 1) a.given_is;
        apart = apart-push ms handle m a.apart none;
      }

  -- a removal removes from the list
  pub taken-listed : (old new : HandleMap T) (handle : Handle) (m : T) (ms : List (Handle × T)) (n : ℕ)
      → IsTaken old new handle m → HasJust old ms n
      → HasJust new (unlisted handle ms) n
  taken-listed old new handle m ms n out a =
      let found : listed ms handle ≡ Some m = ap (λ (f : Handle → Option T). f handle) (sym a.named) ∙ out.value in
      record {
        named = fun_ext
            (λ other. out.updates other
            ∙ ap (λ (f : Handle → Option T). cond (same_handle other handle) None (f other)) a.named
            ∙ sym (unlisted-of ms handle other a.apart));
        count = sums (count_of new) (count_of old) (length ms) (length (unlisted handle ms)) out.count a.count
            (length-unlisted ms handle m found);
        given_is = out.given ∙ a.given_is;
        apart = apart-unlisted ms handle a.apart;
      }
    where
      sums : (now was all left : ℕ) → now + 1 ≡ was → was ≡ all → all ≡ left + 1 → now ≡ left
      sums now was all left a b c = omega arith

  -- a new map has the empty list of values
  pub nothing-listed : HasJust {T = T} (record { slots = []; given = 0; room = 0 }) [] 0
  nothing-listed = record { named = fun_ext (λ handle. refl); count = refl; given_is = refl; apart = tt }

module _ {X : Type 0} where
  count-cons : (p : X → Bool) (x : X) (xs : List X) → count_by p (x ∷ xs) ≡ cond (p x) 1 0 + count_by p xs
  count-cons p x xs = sum_by-cons (λ (y : X). cond (p y) 1 0) x xs

module _ {X : Type 0} (p : X → Bool) (d : X) (none : p d ≡ false) where
  nothing : ◌≡◌ {A = ℕ} (cond (p d) 1 0) 0
  nothing = ap {B = ℕ} (λ (b : Bool). cond b 1 0) none

  weigh : (x y : X) → p x ≡ p y → ◌≡◌ {A = ℕ} (cond (p x) 1 0) (cond (p y) 1 0)
  weigh x y e = ap {B = ℕ} (λ (b : Bool). cond b 1 0) e

  none-counted : (xs : List X) → ((j : ℕ) → p (slice_index_or xs j d) ≡ p d) → count_by p xs ≡ 0
  none-counted [] h = refl
  none-counted (x ∷ xs) h = let more = none-counted xs (λ j. h (suc j)) in let here = weigh x d (h 0) in
      let n = nothing in let all = count-cons p x xs in omega (arith, more, here, n, all)

  same-count : (xs ys : List X) → ((j : ℕ) → p (slice_index_or xs j d) ≡ p (slice_index_or ys j d))
      → count_by p xs ≡ count_by p ys
  same-count [] ys h = sym (none-counted ys (λ j. sym (h j)))
  same-count (x ∷ xs) [] h = none-counted (x ∷ xs) h
  same-count (x ∷ xs) (y ∷ ys) h = let more = same-count xs ys (λ j. h (suc j)) in let here = weigh x y (h 0) in
      let a = count-cons p x xs in let b = count-cons p y ys in omega (arith, more, here, a, b)

  pub one-more : (key : ℕ) (xs ys : List X)
      → ((j : ℕ) → (j ≡ key → ⊥) → p (slice_index_or xs j d) ≡ p (slice_index_or ys j d))
      → p (slice_index_or ys key d) ≡ false → count_by p xs ≡ count_by p ys + cond (p (slice_index_or xs key d)) 1 0
  one-more zero [] ys h e = let n = nothing in let z = none-counted ys (λ j. by j) in omega (arith, n, z)
    where
      by : (j : ℕ) → p (slice_index_or ys j d) ≡ p d
      by zero = e ∙ sym none
      by (suc j) = sym (h (suc j) (λ bad. cc))
  one-more zero (x ∷ xs) [] h e = let z = none-counted xs (λ j. h (suc j) (λ bad. cc)) in let a = count-cons p x xs in
      omega (arith, z, a)
  one-more zero (x ∷ xs) (y ∷ ys) h e =
      let more = same-count xs ys (λ j. h (suc j) (λ bad. cc)) in let a = count-cons p x xs in
      let b = count-cons p y ys in
      let off : cond (p y) 1 0 ≡ 0 = ap {B = ℕ} (λ (b : Bool). cond b 1 0) e in omega (arith, more, a, b, off)
  one-more (suc key) [] [] h e = let n = nothing in omega (arith, n)
  one-more (suc key) [] (y ∷ ys) h e =
      let more = one-more key [] ys (λ j ne. h (suc j) (λ bad. ne (cc))) e in
      let here = weigh y d (sym (h 0 (λ bad. cc))) in let n = nothing in let b = count-cons p y ys in
      omega (arith, more, here, n, b)
  one-more (suc key) (x ∷ xs) [] h e =
      let more = one-more key xs [] (λ j ne. h (suc j) (λ bad. ne (cc))) e in let here = weigh x d (h 0 (λ bad. cc)) in
      let n = nothing in let a = count-cons p x xs in omega (arith, more, here, n, a)
  one-more (suc key) (x ∷ xs) (y ∷ ys) h e =
      let more = one-more key xs ys (λ j ne. h (suc j) (λ bad. ne (cc))) e in let here = weigh x y (h 0 (λ bad. cc)) in
      let a = count-cons p x xs in let b = count-cons p y ys in omega (arith, more, here, a, b)

module _ {T : Type 0} where
  -- the slot that has a value under a serial
  pub record Under (serial : ℕ) (o : Option (HandleSlot T)) (m : T) : Type 0 where
    pub slot : HandleSlot T
    pub there : o ≡ Some slot
    pub value : slot.value ≡ m
    pub named : slot.serial ≡ serial

  pub under-is : (serial : ℕ) (o : Option (HandleSlot T)) (m : T) → under serial o ≡ Some m → Under serial o m
  under-is serial None m e = cc
  under-is serial (Some slot) m e = by (slot.serial == serial) refl e
    where
      by : (b : Bool) → (slot.serial == serial) ≡ b → cond b (Some slot.value) None ≡ Some m
          → Under serial (Some slot) m
      by true t is = record { slot = slot; there = refl; value = cc; named = eqb-true _ _ t }
      by false t is = cc

  own-serial : (s : HandleSlot T) → under s.serial (Some s) ≡ Some s.value
  own-serial s = ap (λ (b : Bool). cond b (Some s.value) None) (eq-eqb s.serial s.serial refl)

  module _ (p : Option (HandleSlot T) → Bool) (q : T → Bool) (none : p None ≡ false)
      (some : (s : HandleSlot T) → p (Some s) ≡ q s.value) where
    same-test : (o o' : Option (HandleSlot T)) → ((serial : ℕ) → under serial o ≡ under serial o') → p o ≡ p o'
    same-test None None h = refl
    same-test None (Some s) h = let e = h s.serial in let own = own-serial s in absurd (cc)
    same-test (Some s) None h = let e = h s.serial in let own = own-serial s in absurd (cc)
    same-test (Some s) (Some s') h =
        let u = under-is s.serial (Some s') s.value (sym (h s.serial) ∙ own-serial s) in
        let same : s'.value ≡ s.value = (let a = u.there in let b = u.value in cc) in
        some s ∙ (ap q (sym same) ∙ sym (some s'))

    and-false : (x : Bool) → (x && false) ≡ false
    and-false true = refl
    and-false false = refl

    -- an inserted value had no value before it
    vacant : (old new : HandleMap T) (h : Handle) (v : T) → value_of old h ≡ None → Updates old new h (Some v)
        → Under h.serial (slice_index_or new.slots h.key None) v → (o : Option (HandleSlot T))
        → slice_index_or old.slots h.key None ≡ o → p (slice_index_or old.slots h.key None) ≡ false
    vacant old new h v fresh updates u None e = ap p e ∙ none
    vacant old new h v fresh updates u (Some s) e =
        let other : Handle = record { serial = s.serial; key = h.key } in
        let was : value_of old other ≡ Some s.value = ap (λ (o : Option (HandleSlot T)). under s.serial o) e ∙ own-serial s in
        elim (cases_eq s.serial h.serial) [
          | inl same ↦ let bad : value_of old h ≡ Some s.value =
              ap (λ (n : ℕ). under n (slice_index_or old.slots h.key None)) (sym same) ∙ was in absurd (cc)
          | inr ne ↦
              let off : same_handle other h ≡ false =
              ap (λ (b : Bool). b && (h.key == h.key)) (ne_eqb s.serial h.serial ne) in
              let now : value_of new other ≡ Some s.value =
              updates other ∙ (ap (λ (b : Bool). cond b (Some v) (value_of old other)) off ∙ was) in
              let x = under-is s.serial (slice_index_or new.slots h.key None) s.value now in
              let one : u.slot ≡ x.slot = (let a = u.there in let b = x.there in cc) in
              absurd (ne (sym x.named ∙ (ap (λ (z : HandleSlot T). z.serial) (sym one) ∙ u.named)))
        ]

    -- an insertion adds one to the count of a test if its value passes
    pub inserted : (old new : HandleMap T) (h : Handle) (v : T) → value_of old h ≡ None → Updates old new h (Some v)
        → count_by p new.slots ≡ count_by p old.slots + cond (q v) 1 0
    inserted old new h v fresh updates =
        let key = h.key in
        let self : same_handle h h ≡ true =
        ap (λ (b : Bool). b && (h.key == h.key)) (eq-eqb h.serial h.serial refl) ∙ eq-eqb h.key h.key refl in
        let now : value_of new h ≡ Some v = updates h ∙ ap (λ (b : Bool). cond b (Some v) (value_of old h)) self in
        let u = under-is h.serial (slice_index_or new.slots key None) v now in
        let passes : p (slice_index_or new.slots key None) ≡ q v = ap p u.there ∙ (some u.slot ∙ ap q u.value) in
        let others : (j : ℕ) → (j ≡ key → ⊥)
        → p (slice_index_or new.slots j None) ≡ p (slice_index_or old.slots j None) = λ j ne.
        same-test (slice_index_or new.slots j None) (slice_index_or old.slots j None) (λ serial.
        let other : Handle = record { serial = serial; key = j } in
        let off : same_handle other h ≡ false =
        ap (λ (b : Bool). (serial == h.serial) && b) (ne_eqb j h.key ne) ∙ and-false (serial == h.serial) in
        updates other ∙ ap (λ (b : Bool). cond b (Some v) (value_of old other)) off) in
        let count =
        one-more p None none key new.slots old.slots others
        (vacant old new h v fresh updates u (slice_index_or old.slots key None) refl) in
        let w : cond (p (slice_index_or new.slots key None)) 1 0 ≡ cond (q v) 1 0 =
        ap {B = ℕ} (λ (b : Bool). cond b 1 0) passes in
        omega (arith, count, w)

    -- a removal subtracts one from the count of a test if its value passes
    pub counts-one-less : (old new : HandleMap T) (h : Handle) (v : T) → value_of old h ≡ Some v
        → Updates old new h None → count_by p new.slots + cond (q v) 1 0 ≡ count_by p old.slots
    counts-one-less old new h v has updates =
        let self : same_handle h h ≡ true =
        ap (λ (b : Bool). b && (h.key == h.key)) (eq-eqb h.serial h.serial refl) ∙ eq-eqb h.key h.key refl in
        let gone : value_of new h ≡ None = updates h ∙ ap (λ (b : Bool). cond b None (value_of old h)) self in
        sym (inserted new old h v gone (λ other. by other (same_handle other h) refl))
      where
        by : (other : Handle) (b : Bool) → same_handle other h ≡ b
            → value_of old other ≡ cond (same_handle other h) (Some v) (value_of new other)
        by other true e =
            ap (λ (x : Handle). value_of old x) (same-handle other h e)
            ∙ (has ∙ sym (ap (λ (b : Bool). cond b (Some v) (value_of new other)) e))
        by other false e =
            sym (ap (λ (b : Bool). cond b (Some v) (value_of new other)) e
            ∙ (updates other ∙ ap (λ (b : Bool). cond b None (value_of old other)) e))

  -- an insertion adds one to the number of values that pass a test if its value passes, and else keeps it
  pub inserted-counted : (passes : T → Bool) (old new : HandleMap T) (h : Handle) (v : T) → IsInserted old new h v
      → count_passing passes new ≡ count_passing passes old + cond (passes v) 1 0
  inserted-counted passes old new h v ins =
      inserted (has_passing passes) passes refl (λ s. refl) old new h v ins.fresh ins.updates

  -- a removal subtracts one from that number if its value passes, and else keeps it
  pub taken-counted : (passes : T → Bool) (old new : HandleMap T) (h : Handle) (v : T) → IsTaken old new h v
      → count_passing passes new + cond (passes v) 1 0 ≡ count_passing passes old
  taken-counted passes old new h v out =
      counts-one-less (has_passing passes) passes refl (λ s. refl) old new h v out.value out.updates

  fewer : (passes : T → Bool) (slots : List (Option (HandleSlot T)))
      → count_by (has_passing passes) slots ≤ count_by is_some slots
  fewer passes [] = omega arith
  fewer passes (None ∷ os) = let l = fewer passes os in let a = count-cons (has_passing passes) None os in
      let b = count-cons is_some None os in omega (arith, l, a, b)
  fewer passes (Some s ∷ os) = let l = fewer passes os in let a = count-cons (has_passing passes) (Some s) os in
      let b = count-cons is_some (Some s) os in by (passes s.value) a b l
    where
      by : (c : Bool) → count_by (has_passing passes) (Some s ∷ os) ≡ cond c 1 0 + count_by (has_passing passes) os
          → count_by is_some (Some s ∷ os) ≡ 1 + count_by is_some os
          → count_by (has_passing passes) os ≤ count_by is_some os
          → count_by (has_passing passes) (Some s ∷ os) ≤ count_by is_some (Some s ∷ os)
      by true a b l = omega arith
      by false a b l = omega arith

  -- no more values pass a test than there are
  pub counted-most : (passes : T → Bool) (kept : HandleMap T) → count_passing passes kept ≤ count_of kept
  counted-most passes kept = fewer passes kept.slots
