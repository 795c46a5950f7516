-- The handles that domains were answered with: each serial once, and each mapping under one of them.
use Rattle.gt_core.proofs.Words.{◌≡◌, ◌≤◌, ◌<◌, ◌+◌, inl, inr, ℕ, refl, Bool, true, false, List, [], ◌∷◌, Option, Some}
use Rattle.gt_core.proofs.Words.{None, cond, sym, ap, ◌∙◌, subst, arith, ◌==◌, ◌&&◌, eqb-true, eq-eqb, DomId, Denial}
use Rattle.gt_core.proofs.Words.{Handle, SERIAL_LIMIT, OpenRequest, PinHolder, HeldPin, Observation, Step, Unpin}
use Rattle.gt_core.proofs.Words.{CallResult, asked, CallerKnowledge, begun, Continuation, after_beginning, steps_of}
use Rattle.gt_core.proofs.Words.{IsMapping, Answer, ItemEvent, Began, Stepped, Item, History, Setting, Underway, Pin}
use Rattle.gt_core.proofs.Words.{live, same_handle, pinned_by, unpinned_by, open_call, underway_after, maps_answered_at}
use Rattle.gt_core.proofs.Words.{one_if_mapped, known_at, values, IsRight, StepsRightIn, AnsweredBy, bare_handle}
use Rattle.gt_core.proofs.Words.{IsGiven, IsKnown, AsksKnown, HappensKnown, IsRun, cond_both, All-nil, All}
use Rattle.gt_model.specs.declared.action.Action.TheVariants as actions
use Rattle.gt_model.specs.declared.request.PinHolder.TheVariants as holders
use Rattle.std.proofs.lemmas.List.Elements.{All-append, All-weaker}
use Rattle.gt_model.proofs.Observers.{all-without}
use Rattle.gt_model.specs.declared.trace.Answer.TheVariants as answers

-- a map that is answered

-- only a map's pin is answered with a handle, with the next serial of its domain
abbrev pub IsNext : History → DomId → OpenRequest → Option Step → Handle → Type 0
IsNext before d r None handle = ⊥
IsNext before d r (Some step) handle = IsMapping (Some r) × (handle.serial ≡ maps_answered_at before d.0)

answered-next : (s : Setting) (h : History) (d : DomId) (r : OpenRequest) (step : Option Step) (giving : Bool) (v : Option CallResult) (a : Option Answer) (against : Option Denial) (handle : Handle)
    → AnsweredBy s h d r step giving v a against → a ≡ Some (answers.Mapped handle) → IsNext h d r step handle
answered-next s h d r step giving v a against handle is e = grind arith

none-begun : (v : Option CallResult) (c : Continuation) (vs : List Observation) (step : Step) → after_beginning v c vs ≡ Some (actions.Step step) → v ≡ None
none-begun v c vs step e = grind arith

few-answered : (k : CallerKnowledge) (d : DomId) (r : OpenRequest) → begun k d r ≡ None → IsMapping (Some r) → k.maps_answered < SERIAL_LIMIT
few-answered k d r e m = grind arith

-- a handle has the next serial of its domain, which is below the limit
abbrev pub IsFresh : History → DomId → Handle → Type 0
IsFresh h d handle = (handle.serial ≡ maps_answered_at h d.0) × (handle.serial < SERIAL_LIMIT)

fresh-step : (s : Setting) (h : History) (i : Item) (step : Step) (seen : Observation) (handle : Handle) (c : Option Underway) → StepsRightIn s h i step seen c → i.answer ≡ Some (answers.Mapped handle) → IsFresh h i.actor handle
fresh-step s h i step seen handle None right e = absurd right
fresh-step s h i step seen handle (Some c) right e = let k = known_at s h i.actor in
    let next = answered-next s h i.actor c.request (Some step) _ _ i.answer _ handle right.answered e in
    let few : maps_answered_at h i.actor.0 < SERIAL_LIMIT = few-answered k i.actor c.request (none-begun (begun k i.actor c.request) (steps_of k i.actor c.request) (values c) step right.continues) next.0 in
    let same : handle.serial ≡ maps_answered_at h i.actor.0 = next.1 in (same, omega arith)

fresh : (s : Setting) (h : History) (i : Item) (handle : Handle) → IsRight s h i → i.answer ≡ Some (answers.Mapped handle) → IsFresh h i.actor handle
fresh s h i handle = by i.happened where
  by : (x : ItemEvent) → IsRight s h (record i { happened = x }) → i.answer ≡ Some (answers.Mapped handle) → IsFresh h i.actor handle
  by (Began request) right e = absurd (answered-next s h i.actor (asked request) None _ _ i.answer _ handle right.1 e)
  by (Stepped step seen) right e = fresh-step s h (record i { happened = Stepped step seen }) step seen handle (open_call h i.actor.0) right e

-- serials

maps-grow : (i : Item) (h : History) (d : ℕ) → maps_answered_at h d ≤ maps_answered_at (i ∷ h) d
unfolding maps_answered_at
maps-grow i h d = let n : ℕ = cond (i.actor.0 == d) (one_if_mapped i.answer) 0 in let e : maps_answered_at (i ∷ h) d ≡ n + maps_answered_at h d = refl in omega arith

maps-one : (i : Item) (h : History) (d : ℕ) (handle : Handle) → i.actor.0 ≡ d → i.answer ≡ Some (answers.Mapped handle) → maps_answered_at (i ∷ h) d ≡ 1 + maps_answered_at h d
unfolding maps_answered_at
maps-one i h d handle own e = grind arith

-- a handle that was an answer has a serial below the number of its domain's maps, and below the limit
record IsBelow (h : History) (d : ℕ) (handle : Handle) : Type 0 where
  pub count : handle.serial < maps_answered_at h d
  pub end : handle.serial < SERIAL_LIMIT

given-below : (s : Setting) (h : History) (d : ℕ) (handle : Handle) → IsRun s h → IsGiven h d handle → IsBelow h d handle
unfolding IsRun IsGiven
given-below s [] d handle run g = absurd g
given-below s (i ∷ h) d handle run (inl g) = let f = fresh s h i handle run.0 g.1 in
    let one : maps_answered_at (i ∷ h) d ≡ 1 + maps_answered_at h d = maps-one i h d handle g.0 g.1 in
    let same : handle.serial ≡ maps_answered_at h d = f.0 ∙ ap (maps_answered_at h) g.0 in
    record { count = omega arith; end = f.1 }
given-below s (i ∷ h) d handle run (inr g) = let b = given-below s h d handle run.2 g in
    let lt : handle.serial < maps_answered_at h d = b.count in
    let le : maps_answered_at h d ≤ maps_answered_at (i ∷ h) d = maps-grow i h d in
    record { count = omega arith; end = b.end }

-- a serial is in only one answer
given-once : (s : Setting) (h : History) (d : ℕ) (a b : Handle) → IsRun s h → IsGiven h d a → IsGiven h d b → a.serial ≡ b.serial → a ≡ b
unfolding IsRun IsGiven
given-once s [] d a b run f g e = absurd f
given-once s (i ∷ h) d a b run (inl f) (inl g) e = cc
given-once s (i ∷ h) d a b run (inl f) (inr g) e =
    let same : a.serial ≡ maps_answered_at h d = (fresh s h i a run.0 f.1).0 ∙ ap (maps_answered_at h) f.0 in
    let lt : b.serial < maps_answered_at h d = (given-below s h d b run.2 g).count in absurd (omega arith)
given-once s (i ∷ h) d a b run (inr f) (inl g) e =
    let same : b.serial ≡ maps_answered_at h d = (fresh s h i b run.0 g.1).0 ∙ ap (maps_answered_at h) g.0 in
    let lt : a.serial < maps_answered_at h d = (given-below s h d a run.2 f).count in absurd (omega arith)
given-once s (i ∷ h) d a b run (inr f) (inr g) e = given-once s h d a b run.2 f g e

-- the serial of a known handle distinguishes it from the ones in other answers
known-serial : (s : Setting) (h : History) (d : ℕ) (a b : Handle) → IsRun s h → IsGiven h d b → IsKnown h d a → b.serial ≡ a.serial → b ≡ a
known-serial s h d a b run g k e = grind (arith, given-once, given-below)

pub known-tells : (s : Setting) (h : History) (d : ℕ) (a b : Handle) → IsRun s h → IsGiven h d b → IsKnown h d a → same_handle (bare_handle b) (bare_handle a) ≡ same_handle b a
known-tells s h d a b run g k = by (b.serial == a.serial) refl where
  by : (x : Bool) → (b.serial == a.serial) ≡ x → (x && (0 == 0)) ≡ (x && (b.key == a.key))
  by true e = sym (eq-eqb b.key a.key (ap (λ (z : Handle). z.key) (known-serial s h d a b run g k (eqb-true b.serial a.serial e))))
  by false e = refl

-- pins

abbrev pub HeldGiven : History → ℕ → PinHolder → Type 0
HeldGiven h d (holders.Mapping handle) = IsGiven h d handle
HeldGiven h d (holders.Leg number) = Unit {0}

-- each mapping has a handle that its domain was answered with
abbrev pub PinsGiven : History → List Pin → Type 0
PinsGiven h ps = All (λ p. HeldGiven h p.actor p.holder) ps

held-later : (i : Item) (h : History) (d : ℕ) (holder : PinHolder) → HeldGiven h d holder → HeldGiven (i ∷ h) d holder
unfolding IsGiven
held-later i h d holder g = grind arith

unpinned-given : (h : History) (d : DomId) (x : ItemEvent) (ps : List Pin) → PinsGiven h ps → PinsGiven h (unpinned_by d x ps)
unpinned-given h d (Stepped (Unpin p holder) seen) ps g = all-without (λ q. HeldGiven h q.actor q.holder) d.0 holder ps g
unpinned-given h d x ps g = g

pinned-given : (i : Item) (h : History) (ps : List Pin) → PinsGiven (i ∷ h) (pinned_by i.actor i.happened i.answer h ps)
unfolding IsGiven
pinned-given i h ps = grind arith

pub pins-given : (h : History) → PinsGiven h (live h)
unfolding live
pins-given [] = All-nil (λ q. HeldGiven [] q.actor q.holder)
pins-given (i ∷ h) = let P : Pin → Type 0 = λ q. HeldGiven (i ∷ h) q.actor q.holder in
    All-append P (unpinned_by i.actor i.happened (live h)) (pinned_by i.actor i.happened i.answer h (live h))
    (All-weaker (λ q. HeldGiven h q.actor q.holder) P (λ q g. held-later i h q.actor q.holder g) _ (unpinned-given h i.actor i.happened (live h) (pins-given h)))
    (pinned-given i h (live h))

-- the handles that open calls name

asks-later : (i : Item) (h : History) (d : ℕ) (r : OpenRequest) → AsksKnown h d r → AsksKnown (i ∷ h) d r
unfolding IsGiven
asks-later i h d r k = grind arith

abbrev pub CallKnown : History → ℕ → Option Underway → Type 0
CallKnown h d None = Unit {0}
CallKnown h d (Some c) = AsksKnown h d c.request

call-later : (i : Item) (h : History) (d : ℕ) (c : Option Underway) → CallKnown h d c → CallKnown (i ∷ h) d c
call-later i h d c k = grind (arith, asks-later)

after-known : (i : Item) (h : History) (c : Option Underway) → HappensKnown h i → CallKnown h i.actor.0 c → CallKnown (i ∷ h) i.actor.0 (underway_after i c)
after-known i h c asks k = grind (arith, asks-later)

pub open-known : (s : Setting) (h : History) (d : ℕ) → IsRun s h → CallKnown h d (open_call h d)
unfolding IsRun open_call
open-known s [] d run = tt
open-known s (i ∷ h) d run = cond_both (i.actor.0 == d) (underway_after i (open_call h d)) (open_call h d) (CallKnown (i ∷ h) d)
    (λ e. subst (λ (n : ℕ). CallKnown (i ∷ h) n (underway_after i (open_call h n))) (eqb-true i.actor.0 d e)
    (after-known i h (open_call h i.actor.0) run.1 (subst (λ (n : ℕ). CallKnown h n (open_call h n)) (sym (eqb-true i.actor.0 d e)) (open-known s h d run.2))))
    (λ e. call-later i h d (open_call h d) (open-known s h d run.2))

unpin-in : (s : Setting) (h : History) (i : Item) (p : HeldPin) (handle : Handle) (seen : Observation) (c : Option Underway) → StepsRightIn s h i (Unpin p (holders.Mapping handle)) seen c → CallKnown h i.actor.0 c → IsKnown h i.actor.0 handle
unpin-in s h i p handle seen c right k = grind arith

-- a mapping that is dropped has a known handle
pub unpin-known : (s : Setting) (h : History) (i : Item) (p : HeldPin) (handle : Handle) (seen : Observation) → i.happened ≡ Stepped (Unpin p (holders.Mapping handle)) seen → IsRight s h i → IsRun s h → IsKnown h i.actor.0 handle
unpin-known s h i p handle seen e right run =
    unpin-in s h (record i { happened = Stepped (Unpin p (holders.Mapping handle)) seen }) p handle seen (open_call h i.actor.0) (subst (λ (x : ItemEvent). IsRight s h (record i { happened = x })) e right) (open-known s h i.actor.0 run)
