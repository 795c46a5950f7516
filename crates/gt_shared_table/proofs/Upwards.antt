-- Seats that take their locks upwards never wait in a ring.
use Rattle.std.proofs.Common.{◌≡◌, ℕ, ◌<◌, List, [], ◌∷◌, ◌++◌, inl, inr, refl, sym, subst, arith}
use Rattle.std.specs.Prelude.{Result, Ok, Err, OnOk, OnErr}
use Rattle.std.proofs.Common.{ap}
use Rattle.atomic_table.specs.Table.{Me}
use Rattle.gt_frames.specs.Frames.{FrameState}
use Rattle.gt_frames.specs.declared.writ.Writ.{Writ}
use Rattle.gt_types.specs.declared.Range.{Range}
use Rattle.gt_word_history.specs.History.{Layout}
use Rattle.gt_word_history.specs.Views.{IsAmong}
use Rattle.gt_shared_table.specs.declared.rule.FrameHolder.{FrameHolder}
use Rattle.gt_shared_table.specs.Recording.{CopiedBy, OnlyLocked}
use Rattle.gt_shared_table.specs.Rule.{Cell, FrameAt}
use Rattle.gt_shared_table.specs.Locking.{AreBelow, Ascends, CopiesLockUpwards, FormRing, IsLower, IsLowerThanAll, IsWaitingChain}
use Rattle.gt_shared_table.specs.Locking.{SeatsFormNoRing, Waiting, WaitsUpwards}

pub lower_trans : (a b c : FrameAt) → IsLower a b → IsLower b c → IsLower a c
lower_trans a b c (inl p) (inl q) = inl (omega arith)
lower_trans a b c (inl p) (inr q) = inl (omega arith)
lower_trans a b c (inr p) (inl q) = inl (omega arith)
lower_trans a b c (inr p) (inr q) = inr (omega arith, omega arith)

lower_than_itself : (a : FrameAt) → IsLower a a → ⊥
lower_than_itself a (inl p) = omega arith
lower_than_itself a (inr p) = omega arith

one_of_all : (a w : FrameAt) (before after : List FrameAt) → IsLowerThanAll a (before ++ w ∷ after) → IsLower a w
one_of_all a w [] after all = all.0
one_of_all a w (x ∷ before) after all = one_of_all a w before after all.1

lower_before : (before : List FrameAt) (w : FrameAt) (after : List FrameAt) → Ascends (before ++ w ∷ after) → (a : FrameAt) → IsAmong a before → IsLower a w
lower_before [] w after ascends a among = absurd among
lower_before (x ∷ before) w after ascends a (inl e) = subst (λ (y : FrameAt). IsLower y w) (sym e) (one_of_all x w before after ascends.0)
lower_before (x ∷ before) w after ascends a (inr among) = lower_before before w after ascends.1 a among

waits_above : (s : Waiting) → WaitsUpwards s → (a : FrameAt) → IsAmong a s.holds → IsLower a s.wants
waits_above s up a among = let i = up.2 in lower_before i.before s.wants i.after (subst Ascends i.is up.1) a (i.holds a among)

climbs : (s : Waiting) (seats : List Waiting) (last : Waiting) → WaitsUpwards last → ((t : Waiting) → IsAmong t seats → WaitsUpwards t) → IsWaitingChain s seats last → IsLower s.wants last.wants
climbs s [] last up each leads = waits_above last up s.wants leads
climbs s (t ∷ seats) last up each leads =
    lower_trans s.wants t.wants last.wants (waits_above t (each t (inl refl)) s.wants leads.0)
    (climbs t seats last up (λ u among. each u (inr among)) leads.1)

pub no_ring : SeatsFormNoRing
no_ring [] each ring = ring
no_ring (s ∷ seats) each ring = lower_than_itself s.wants (climbs s seats s (each s (inl refl)) (λ t among. each t (inr among)) ring)

pub upwards : CopiesLockUpwards
upwards a b old new (inl p) = (b ∷ [], (tt, tt), p.1)
upwards a b old new (inr (inl p)) = (a ∷ b ∷ [], ((p.0, tt), (tt, tt)), p.1)
upwards a b old new (inr (inr p)) = (b ∷ a ∷ [], ((p.0, tt), (tt, tt)), p.1)

-- a seat that holds no frame may wait for any
pub none_below : (q : ℕ) (held : List (ℕ × FrameState)) → held ≡ [] → AreBelow q held
none_below q held none = subst (AreBelow q) (sym none) (λ p among. absurd among)

one_is_below : (q : ℕ) (x p : ℕ × FrameState) → x.0 < q → IsAmong p (x ∷ []) → p.0 < q
one_is_below q x p lt (inl e) = subst (λ (y : ℕ × FrameState). y.0 < q) (sym e) lt
one_is_below q x p lt (inr among) = absurd among

-- a seat that holds one frame may wait for one in a higher slot
pub one_below : (q : ℕ) (held : List (ℕ × FrameState)) (x : ℕ × FrameState) → held ≡ x ∷ [] → x.0 < q → AreBelow q held
one_below q held x one lt = subst (AreBelow q) (sym one) (λ p among. one_is_below q x p lt among)

-- the locks that a seat took by the end of a copy, if it was made and if it was refused
pub locks_after : {A E : Type 0} (k : Layout) (a b : FrameAt) (w : Writ) (range : Range) (to : ℕ) (ls : List FrameAt) (me me' : Me Cell FrameHolder) (r : Result A E)
    → OnOk r (CopiedBy k a b w range to ls me me') → OnErr r (OnlyLocked ls me me') → me'.0.locks ≡ ls
locks_after k a b w range to ls me me' (Ok made) copied refused = ap (λ (m : Me Cell FrameHolder). m.0.locks) copied.2.1
locks_after k a b w range to ls me me' (Err fault) copied refused = ap (λ (m : Me Cell FrameHolder). m.0.locks) refused
