-- The question that code asks, and the relation that it answers.
use Rattle.std.proofs.Common.{◌≡◌, ◌⊎◌, ◌<◌, ℕ, Bool, true, false, inl, inr, refl, ◌&&◌, ◌||◌, not}
use Rattle.gt_types.specs.Names.{copy, map_read, map_write}
use Rattle.gt_types.specs.declared.TypeId.{TypeId}
use Rattle.gt_flow.specs.Flow.{FlowPolicy}
use Rattle.gt_flow.specs.Accesses.{AreAmong, MayFlowPast, flows}

-- one of these: a load, a copy, or a store of a type that is not trusted
abbrev pub IsOne : (l c t r w : Bool) → Type 0
IsOne l c t r w = (l ≡ true) ⊎ ((t ≡ false) × (r ≡ true) × (w ≡ true)) ⊎ (c ≡ true)

pub from-question : (l c t r w : Bool) → (l || c || (not t && (r && w))) ≡ true → IsOne l c t r w
from-question true c t r w h = inl refl
from-question false true t r w h = inr (inr refl)
from-question false false false true true h = inr (inl (refl, refl, refl))
from-question false false false true false h = absurd (cc)
from-question false false false false w h = absurd (cc)
from-question false false true r w h = absurd (cc)

to-question : (l c t r w : Bool) → IsOne l c t r w → (l || c || (not t && (r && w))) ≡ true
to-question true c t r w h = refl
to-question false true t r w h = refl
to-question false false false true true h = refl
to-question false false t r w (inl k) = absurd (cc)
to-question false false t r w (inr (inr k)) = absurd (cc)
to-question false false true r w (inr (inl k)) = absurd (cc)
to-question false false false false w (inr (inl k)) = absurd (cc)
to-question false false false true false (inr (inl k)) = absurd (cc)

-- what the question finds is an access
pub is-flow : (may : FlowPolicy) (trusted : TypeId → Bool) (x y : TypeId) → flows may (trusted x) x y ≡ true
    → MayFlowPast may trusted x y
is-flow may trusted x y h =
    elim (from-question (may y x map_read) (may x y copy) (trusted x) (may x y map_read) (may x y map_write) h) [
      | inl l ↦ inr (inl (l, tt))
      | inr (inl s) ↦ inr (inr (inl (s.0, (s.1, (s.2, tt)))))
      | inr (inr c) ↦ inr (inr (inr (c, tt)))
    ]

-- an access between two types is found
pub is-found : (may : FlowPolicy) (trusted : TypeId → Bool) (x y : TypeId) → MayFlowPast may trusted x y
    → (x ≡ y) ⊎ (flows may (trusted x) x y ≡ true)
is-found may trusted x y (inl same) = inl same
is-found may trusted x y (inr (inl l)) =
    inr (to-question (may y x map_read) (may x y copy) (trusted x) (may x y map_read) (may x y map_write) (inl l.0))
is-found may trusted x y (inr (inr (inl s))) =
    inr (to-question (may y x map_read) (may x y copy) (trusted x) (may x y map_read) (may x y map_write)
    (inr (inl (s.0, s.1.0, s.1.1.0))))
is-found may trusted x y (inr (inr (inr c))) =
    inr (to-question (may y x map_read) (may x y copy) (trusted x) (may x y map_read) (may x y map_write)
    (inr (inr c.0)))

-- the second type is one of the policy
pub is-declared : (may : FlowPolicy) (count : ℕ) (b : Bool) (x y : TypeId) → AreAmong count may
    → flows may b x y ≡ true → y.0 < count
is-declared may count b x y among h =
    elim (from-question (may y x map_read) (may x y copy) b (may x y map_read) (may x y map_write) h) [
      | inl l ↦ (among y x map_read l).0
      | inr (inl s) ↦ (among x y map_read s.1).1
      | inr (inr c) ↦ (among x y copy c).1
    ]
