-- The handles of a domain, and its mappings as the history has them.
use Rattle.gt_core.proofs.Words.{◌≡◌, ◌+◌, ℕ, zero, suc, refl, Bool, true, false, List, [], ◌∷◌, ◌++◌, length, Option}
use Rattle.gt_core.proofs.Words.{Some, None, cond, sym, ap, ◌∙◌, arith, subst, ◌==◌, fun_ext, eqb-true, true≢false}
use Rattle.gt_core.proofs.Words.{none-some, length-append, sum_by-cons, Handle, HandleMap, value_of, count_of}
use Rattle.gt_core.proofs.Words.{HeldPin, mapping_of, same_handle, Adds, handle_taken, MappingsAgree, slice_index_or}
use Rattle.gt_core.proofs.Words.{slice_set, AreMappingsApart, HandleSlot}
use Rattle.std.{proofs.Common.is_some, proofs.Common.count_by, specs.Cmp.both_ways}
use Rattle.gt_model.proofs.Observers.{cond-same, cond-apart}

pub same-handle : (a b : Handle) → same_handle a b ≡ true → a ≡ b
same-handle a b e = grind arith

handle-back : (a b : Handle) → same_handle a b ≡ true → same_handle b a ≡ true
handle-back a b e = grind arith

swap-handles : (a b : Handle) → same_handle a b ≡ same_handle b a
swap-handles a b = both_ways (same_handle a b) (same_handle b a) (handle-back a b) (handle-back b a)

-- a list of mappings with one more

none-of : (x : Handle × HeldPin) (ms : List (Handle × HeldPin)) (handle : Handle) → mapping_of (x ∷ ms) handle ≡ None → (same_handle x.0 handle ≡ false) × (mapping_of ms handle ≡ None)
none-of x ms handle e = grind arith

push-of : (ms : List (Handle × HeldPin)) (handle : Handle) (m : HeldPin) (other : Handle) → mapping_of ms handle ≡ None
    → mapping_of (ms ++ (handle, m) ∷ []) other ≡ cond (same_handle other handle) (Some m) (mapping_of ms other)
push-of [] handle m other none = ap (λ (b : Bool). cond b (Some m) None) (swap-handles handle other)
push-of (x ∷ ms) handle m other none = let n = none-of x ms handle none in
    ap (cond (same_handle x.0 other) (Some x.1)) (push-of ms handle m other n.1)
    ∙ cond-apart (same_handle x.0 other) (same_handle other handle) (Some x.1) (Some m) (mapping_of ms other)
    (λ c b. true≢false (sym b ∙ ap (λ (z : Handle). same_handle z handle) (sym (same-handle x.0 other c)) ∙ n.0))

apart-push : (ms : List (Handle × HeldPin)) (handle : Handle) (m : HeldPin) → AreMappingsApart ms → mapping_of ms handle ≡ None → AreMappingsApart (ms ++ (handle, m) ∷ [])
apart-push [] handle m a none = (refl, tt)
apart-push (x ∷ ms) handle m a none = let n = none-of x ms handle none in
    (push-of ms handle m x.0 n.1 ∙ ap (λ (b : Bool). cond b (Some m) (mapping_of ms x.0)) n.0 ∙ a.0, apart-push ms handle m a.1 n.1)

-- the handles with one more mapping are those of the mappings with one more
pub mappings-added : (old new : HandleMap HeldPin) (handle : Handle) (m : HeldPin) (ms : List (Handle × HeldPin)) (n : ℕ) → Adds old new handle m → MappingsAgree old ms n
    → MappingsAgree new (ms ++ (handle, m) ∷ []) (n + 1)
mappings-added old new handle m ms n d a =
    let none : mapping_of ms handle ≡ None = ap (λ (f : Handle → Option HeldPin). f handle) (sym a.named) ∙ d.fresh in
    record {
      named = fun_ext (λ other. d.updates other ∙ ap (λ (f : Handle → Option HeldPin). cond (same_handle other handle) (Some m) (f other)) a.named ∙ sym (push-of ms handle m other none));
      count = d.count ∙ ap (λ (k : ℕ). k + 1) a.count ∙ sym (length-append ms ((handle, m) ∷ []));
      given = d.given ∙ ap (λ (k : ℕ). k + 1) a.given;
      apart = apart-push ms handle m a.apart none;
    }

-- a list of mappings with one less

-- the list without the first mapping under a key, by a test of keys, and under this handle
abbrev pub less_of : {K : Type 0} → (K → Bool) → List (K × HeldPin) → List (K × HeldPin)
less_of test [] = []
less_of test (m ∷ ms) = cond (test m.0) ms (m ∷ less_of test ms)

abbrev pub less : Handle → List (Handle × HeldPin) → List (Handle × HeldPin)
less handle ms = less_of (λ (k : Handle). same_handle k handle) ms

less-of : (ms : List (Handle × HeldPin)) (handle other : Handle) → AreMappingsApart ms → mapping_of (less handle ms) other ≡ cond (same_handle other handle) None (mapping_of ms other)
less-of [] handle other a = grind arith
less-of (x ∷ ms) handle other a = grind (arith, less-of ms handle other a.1)

length-less : (ms : List (Handle × HeldPin)) (handle : Handle) (m : HeldPin) → mapping_of ms handle ≡ Some m → length ms ≡ length (less handle ms) + 1
length-less [] handle m e = absurd (none-some m e)
length-less (x ∷ ms) handle m e = by (same_handle x.0 handle) (λ k. length-less ms handle m k) e where
  by : (b : Bool) → (mapping_of ms handle ≡ Some m → length ms ≡ length (less handle ms) + 1) → cond b (Some x.1) (mapping_of ms handle) ≡ Some m
      → length (x ∷ ms) ≡ length (cond b ms (x ∷ less handle ms)) + 1
  by true rest f = omega arith
  by false rest f = let r : length ms ≡ length (less handle ms) + 1 = rest f in omega arith

apart-less : (ms : List (Handle × HeldPin)) (handle : Handle) → AreMappingsApart ms → AreMappingsApart (less handle ms)
apart-less [] handle a = tt
apart-less (x ∷ ms) handle a = grind (arith, apart-less ms handle a.1, less-of, cond-same)

-- the slots of the handles with one less

set-none : (slots : List (Option (HandleSlot HeldPin))) (key at : ℕ) → slice_index_or (slice_set slots key None) at None ≡ cond (at == key) None (slice_index_or slots at None)
set-none [] key at = grind arith
set-none (x ∷ xs) zero zero = refl
set-none (x ∷ xs) zero (suc at) = grind arith
set-none (x ∷ xs) (suc key) zero = grind arith
set-none (x ∷ xs) (suc key) (suc at) = grind (arith, set-none xs key at)

taken-of : (kept : HandleMap HeldPin) (handle other : Handle) (m : HeldPin) → value_of kept handle ≡ Some m → value_of (handle_taken handle kept) other ≡ cond (same_handle other handle) None (value_of kept other)
taken-of kept handle other m has = grind (arith, set-none, eqb-true)

count-set : (slots : List (Option (HandleSlot HeldPin))) (key : ℕ) (slot : HandleSlot HeldPin) → slice_index_or slots key None ≡ Some slot → count_by is_some (slice_set slots key None) + 1 ≡ count_by is_some slots
count-set (Some x ∷ os) zero slot e =
    omega (arith, sum_by-cons (λ (o : Option (HandleSlot HeldPin)). cond (is_some o) 1 0) (Some x) os, sum_by-cons (λ (o : Option (HandleSlot HeldPin)). cond (is_some o) 1 0) None os)
count-set (o ∷ os) (suc key) slot e =
    omega (arith, count-set os key slot e, sum_by-cons (λ (o : Option (HandleSlot HeldPin)). cond (is_some o) 1 0) o os, sum_by-cons (λ (o : Option (HandleSlot HeldPin)). cond (is_some o) 1 0) o (slice_set os key None))
count-set slots key slot e = absurd (none-some slot e)

count-taken : (kept : HandleMap HeldPin) (handle : Handle) (m : HeldPin) → value_of kept handle ≡ Some m → count_of (handle_taken handle kept) + 1 ≡ count_of kept
count-taken kept handle m has = grind (arith, count-set)

-- the handles without one mapping are those of the mappings without it
pub mappings-taken : (kept : HandleMap HeldPin) (handle : Handle) (m : HeldPin) (ms : List (Handle × HeldPin)) (n : ℕ) → mapping_of ms handle ≡ Some m → MappingsAgree kept ms n
    → MappingsAgree (handle_taken handle kept) (less handle ms) n
mappings-taken kept handle m ms n found a =
    let has : value_of kept handle ≡ Some m = ap (λ (f : Handle → Option HeldPin). f handle) a.named ∙ found in record {
      named = fun_ext (λ other. taken-of kept handle other m has ∙ ap (λ (f : Handle → Option HeldPin). cond (same_handle other handle) None (f other)) a.named ∙ sym (less-of ms handle other a.apart));
      count = sums (count_of (handle_taken handle kept)) (count_of kept) (length ms) (length (less handle ms)) (count-taken kept handle m has) a.count (length-less ms handle m found);
      given = ap (λ (o : Option HeldPin). (cond (is_some o) (record kept { slots = slice_set kept.slots handle.key None }) kept).given) has ∙ a.given;
      apart = apart-less ms handle a.apart;
    } where
      sums : (now was all left : ℕ) → now + 1 ≡ was → was ≡ all → all ≡ left + 1 → now ≡ left
      sums now was all left a b c = omega arith

-- the same handles name the same mappings
pub mappings-same : (kept : HandleMap HeldPin) (ms ms' : List (Handle × HeldPin)) (n n' : ℕ) → ms ≡ ms' → n ≡ n' → MappingsAgree kept ms n → MappingsAgree kept ms' n'
mappings-same kept ms ms' n n' e f a = subst (λ (l : List (Handle × HeldPin)). MappingsAgree kept l n') e (subst (λ (k : ℕ). MappingsAgree kept ms k) f a)

-- no handles yet
pub no-handles : MappingsAgree (record { slots = []; given = 0; room = 0 }) [] 0
no-handles = record { named = fun_ext (λ handle. refl); count = refl; given = refl; apart = tt }
