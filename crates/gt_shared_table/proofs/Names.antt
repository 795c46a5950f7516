-- No frame of a run has two slots, and a lower slot has a lower frame.
use Rattle.std.proofs.Common.{◌≡◌, ℕ, zero, suc, ◌+◌, ◌≤◌, ◌<◌, inl, inr, List, [], ◌∷◌, ◌++◌, map, sym, refl, ap, subst, arith}
use mathlib.Core.Option.{some, some-injective, some-ne-none}
use lib.ListN.{get_elem?}
use Rattle.std.specs.List.{range_with_len}
use Rattle.gt_types.specs.declared.config.DomainConfig.{DomainConfig}
use Rattle.gt_shared_table.specs.Rule.{FrameAt, frame_of_owner, names_from}
use Rattle.std.specs.Prelude.{◌⊎◌, Bool, true, false, nat_lt, ◌≢◌}
use Rattle.std.proofs.lemmas.Bool.Decides.{nat_tests}
use Rattle.atomic_table.specs.Seated.{TableId}
use Rattle.gt_types.specs.declared.config.Config.{Config}
use Rattle.gt_shared_table.specs.Laws.{AreDistinctFrames, FramesHaveOneSlot}
use Rattle.gt_shared_table.specs.Locking.{IsLower, LocksOf, SlotsAreInOrder}
use Rattle.gt_shared_table.specs.Recording.{both_locks}
use Rattle.gt_shared_table.specs.Rule.{IsSlotOf, slot_frame, places_of}
use Rattle.gt_shared_table.specs.declared.rule.FrameSlot.{FrameSlot}

-- every name of the list is of a domain from this position on
abbrev AreFrom : ℕ → List FrameAt → Type 0
AreFrom t xs = (i : ℕ) (m : FrameAt) → get_elem? xs i ≡ some m → t ≤ m.0

abbrev row : ℕ → ℕ → ℕ → List FrameAt → List FrameAt
row t f n xs = map (frame_of_owner t) (range_with_len f n) ++ xs

first_is : (t f : ℕ) (m : FrameAt) → some (frame_of_owner t f) ≡ some m → (t, f) ≡ m
first_is t f m e = some-injective (t, f) m e

row_from : (t f n : ℕ) (xs : List FrameAt) → AreFrom t xs → AreFrom t (row t f n xs)
row_from t f zero xs h i m e = h i m e
row_from t f (suc n) xs h zero m e = let p : t ≡ m.0 = ap (λ (q : FrameAt). q.0) (first_is t f m e) in omega arith
row_from t f (suc n) xs h (suc i) m e = row_from t (f + 1) n xs h i m e

from : (t : ℕ) (ds : List DomainConfig) → AreFrom t (names_from t ds)
from t [] i m e = absurd (some-ne-none m (sym e))
from t (d ∷ ds) i m e = row_from t 0 d.frames (names_from (t + 1) ds) (λ j k g. let r = from (t + 1) ds j k g in omega arith) i m e

row_above : (t f n : ℕ) (xs : List FrameAt) → AreFrom (t + 1) xs → (i : ℕ) (m : FrameAt) → get_elem? (row t f n xs) i ≡ some m → m.0 ≡ t → f ≤ m.1
row_above t f zero xs h i m e is = let r = h i m e in absurd (omega arith)
row_above t f (suc n) xs h zero m e is = let p : f ≡ m.1 = ap (λ (q : FrameAt). q.1) (first_is t f m e) in omega arith
row_above t f (suc n) xs h (suc i) m e is = let r = row_above t (f + 1) n xs h i m e is in omega arith

not_later : (t f n : ℕ) (xs : List FrameAt) → AreFrom (t + 1) xs → (j : ℕ) (m : FrameAt) → some (frame_of_owner t f) ≡ some m → get_elem? (row t (f + 1) n xs) j ≡ some m → ⊥
not_later t f n xs h j m e g =
    let p = first_is t f m e in
    let r = row_above t (f + 1) n xs h j m g (ap (λ (q : FrameAt). q.0) (sym p)) in
    let s : f ≡ m.1 = ap (λ (q : FrameAt). q.1) p in
    omega arith

row_apart : (t f n : ℕ) (xs : List FrameAt) → AreFrom (t + 1) xs → AreDistinctFrames xs → AreDistinctFrames (row t f n xs)
row_apart t f zero xs h apart i j m e g = apart i j m e g
row_apart t f (suc n) xs h apart zero zero m e g = refl
row_apart t f (suc n) xs h apart zero (suc j) m e g = absurd (not_later t f n xs h j m e g)
row_apart t f (suc n) xs h apart (suc i) zero m e g = absurd (not_later t f n xs h i m g e)
row_apart t f (suc n) xs h apart (suc i) (suc j) m e g = ap (λ (k : ℕ). suc k) (row_apart t (f + 1) n xs h apart i j m e g)

apart_from : (t : ℕ) (ds : List DomainConfig) → AreDistinctFrames (names_from t ds)
apart_from t [] i j m e g = absurd (some-ne-none m (sym e))
apart_from t (d ∷ ds) i j m e g = row_apart t 0 d.frames (names_from (t + 1) ds) (from (t + 1) ds) (apart_from (t + 1) ds) i j m e g

pub one_slot : FramesHaveOneSlot
one_slot c = apart_from 0 c.domains.items

-- the frames of a list are in order
abbrev AreInOrder : List FrameAt → Type 0
AreInOrder xs = (i j : ℕ) (a b : FrameAt) → get_elem? xs i ≡ some a → get_elem? xs j ≡ some b → i < j → IsLower a b

below_by : (m n : ℕ) → m ≤ n → (t : Bool) → nat_lt m n ≡ t → (m < n) ⊎ (m ≡ n)
below_by m n le true e = inl (grind (arith, nat_tests))
below_by m n le false e = inr (grind (arith, nat_tests))

lower_in : (t f : ℕ) (b : FrameAt) → (t < b.0) ⊎ (t ≡ b.0) → (b.0 ≡ t → f + 1 ≤ b.1) → IsLower (t, f) b
lower_in t f b (inl p) above = inl p
lower_in t f b (inr p) above = let r = above (sym p) in inr (p, omega arith)

first_lower : (t f n : ℕ) (xs : List FrameAt) → AreFrom (t + 1) xs → (j : ℕ) (a b : FrameAt) → some (frame_of_owner t f) ≡ some a
    → get_elem? (row t (f + 1) n xs) j ≡ some b → IsLower a b
first_lower t f n xs h j a b e g =
    let from_t : AreFrom t xs = λ k m at. let r = h k m at in omega arith in
    let le = row_from t (f + 1) n xs from_t j b g in
    subst (λ (x : FrameAt). IsLower x b) (first_is t f a e)
    (lower_in t f b (below_by t b.0 le (nat_lt t b.0) refl) (λ is. row_above t (f + 1) n xs h j b g is))

row_in_order : (t f n : ℕ) (xs : List FrameAt) → AreFrom (t + 1) xs → AreInOrder xs → AreInOrder (row t f n xs)
row_in_order t f zero xs h order i j a b e g lt = order i j a b e g lt
row_in_order t f (suc n) xs h order i zero a b e g lt = absurd (omega arith)
row_in_order t f (suc n) xs h order zero (suc j) a b e g lt = first_lower t f n xs h j a b e g
row_in_order t f (suc n) xs h order (suc i) (suc j) a b e g lt = row_in_order t (f + 1) n xs h order i j a b e g (omega arith)

in_order_from : (t : ℕ) (ds : List DomainConfig) → AreInOrder (names_from t ds)
in_order_from t [] i j a b e g lt = absurd (some-ne-none a (sym e))
in_order_from t (d ∷ ds) i j a b e g lt = row_in_order t 0 d.frames (names_from (t + 1) ds) (from (t + 1) ds) (in_order_from (t + 1) ds) i j a b e g lt

pub in_order : SlotsAreInOrder
in_order c i j a b e g lt = in_order_from 0 c.domains.items i j a b e g lt

locked_by : (c : Config) (z : TableId) (s d : FrameSlot) (old : List FrameAt) → IsSlotOf (places_of c) z s → IsSlotOf (places_of c) z d
    → s.index ≢ d.index → (t : Bool) → nat_lt s.index d.index ≡ t → LocksOf (slot_frame s) (slot_frame d) old (both_locks t s d old)
locked_by c z s d old of_s of_d apart true e = inr (inl (in_order c s.index d.index (slot_frame s) (slot_frame d) of_s.2 of_d.2 (grind (arith, nat_tests)), refl))
locked_by c z s d old of_s of_d apart false e = inr (inr (in_order c d.index s.index (slot_frame d) (slot_frame s) of_d.2 of_s.2 (grind (arith, nat_tests)), refl))

-- the locks of two slots, by the names of their frames
pub locked : (c : Config) (z : TableId) (s d : FrameSlot) (a b : FrameAt) (old : List FrameAt) → IsSlotOf (places_of c) z s → IsSlotOf (places_of c) z d
    → slot_frame s ≡ a → slot_frame d ≡ b → s.index ≢ d.index → LocksOf a b old (both_locks (nat_lt s.index d.index) s d old)
locked c z s d a b old of_s of_d is_a is_b apart =
    subst (λ (x : FrameAt). LocksOf x b old (both_locks (nat_lt s.index d.index) s d old)) is_a
    (subst (λ (y : FrameAt). LocksOf (slot_frame s) y old (both_locks (nat_lt s.index d.index) s d old)) is_b
    (locked_by c z s d old of_s of_d apart (nat_lt s.index d.index) refl))
