-- An unpin: what a core represents after it, and how its call continues.
use Rattle.gt_core.proofs.Words.{◌≡◌, ◌+◌, ℕ, refl, Bool, false, List, [], ◌∷◌, ◌++◌, length, Option, Some, None, cond}
use Rattle.gt_core.proofs.Words.{sym, ap, ◌∙◌, arith, subst, ◌==◌, ◌&&◌, All, count_by, none-some, sum_by-cons, DomId}
use Rattle.gt_core.proofs.Words.{Dir, Read, Write, BodyWord, Handle, HandleMap, HeldPin, PinHolder, Observation}
use Rattle.gt_core.proofs.Words.{PinCounts, OpenCall, Unpinned, Item, Answer, State, state_of, changed_in, with_slot}
use Rattle.gt_core.proofs.Words.{without_holder, slot_after, handle_taken, History, Setting, Pin, live, body_at}
use Rattle.gt_core.proofs.Words.{mappings_at, maps_answered_at, legs_at, open_call, is_pin_on, without, is_holder}
use Rattle.gt_core.proofs.Words.{same_handle, same_dir, gather, mapping_named, by_leg, mapping_of, one_if_mapped}
use Rattle.gt_core.proofs.Words.{IsLawfulPin, SlotAgrees, StateStands, DomainsStand, CallAgrees, GivenAgrees}
use Rattle.gt_core.proofs.Words.{MappingsAgree, numbered, inl, inr, ◌⊎◌, option_or, Denial, last_first, next_to_give}
use Rattle.gt_core.proofs.Words.{Done, Step, CallResult, Ending, CallPins, OpenRequest, CopyArgs, StepsSoFar, EndsCopy}
use Rattle.gt_model.specs.declared.action.Action.TheVariants as actions
use Rattle.gt_model.specs.declared.change.BodyWord.TheVariants as body_words
use Rattle.gt_model.specs.declared.request.PinHolder.TheVariants as holders
use Rattle.gt_model.proofs.Observers.{answered-stays, cond-same, without-kept, IsKeyed, mapping-keyed, leg-keyed}
use Rattle.gt_model.proofs.Observers.{pins_at, all-without, unpinned-live, unpins}
use Rattle.gt_core.proofs.{AgreementKept.KeepsEntries, AgreementKept.same-body, AgreementKept.Becomes}
use Rattle.gt_core.proofs.{AgreementKept.becomes-changed, AgreementKept.slots-stand, AgreementKept.keeps-stands}
use Rattle.gt_core.proofs.{Mappings.less, Mappings.less_of, Mappings.mappings-taken, Mappings.mappings-same}
use Rattle.gt_core.proofs.{Rows.state-changed, Steps.Pin.pins-fit, Phases.by-giving, Phases.Placed}
use Rattle.gt_calls.specs.Resting.{IsCopyOf}

-- what an unpin removes from the live pins

abbrev hits : HeldPin → ℕ → ℕ → Dir → Bool
hits m t r k = (m.dom.0 == t) && (m.gref.0 == r) && same_dir m.dir k

-- the count of one kind on one entry falls by one, if the pin is of that kind
abbrev pub Loses : HeldPin → List Pin → List Pin → Type 0
Loses m whole less = (t r : ℕ) (k : Dir) → count_by (is_pin_on t r k) whole ≡ cond (hits m t r k) 1 0 + count_by (is_pin_on t r k) less

-- the one under a key, by a test of keys
abbrev one_of : {K : Type 0} → (K → Bool) → List (K × HeldPin) → Option HeldPin
one_of test [] = None
one_of test (m ∷ ms) = cond (test m.0) (Some m.1) (one_of test ms)

abbrev passes : {K : Type 0} → (K → Bool) → Option K → Bool
passes test None = false
passes test (Some k) = test k

-- the holder is the one whose key passes the test
record Tells {K : Type 0} (give : PinHolder → HeldPin → List (K × HeldPin)) (test : K → Bool) (holder : PinHolder) : Type 0 where
  pub keyed : IsKeyed give
  pub tells : (x : PinHolder) → is_holder x holder ≡ passes test (keyed.key x)

-- what the others give stays, and the first of these pins with that holder is gone, if there is one
without-one : {K : Type 0} (give : PinHolder → HeldPin → List (K × HeldPin)) (test : K → Bool) (holder : PinHolder) (d : ℕ) (ps : List Pin) → Tells give test holder
    → (gather give d (without d holder ps) ≡ less_of test (gather give d ps)) × ((m : HeldPin) → one_of test (gather give d ps) ≡ Some m → Loses m ps (without d holder ps))
unfolding without gather
without-one give test holder d [] t = (refl, λ m e. absurd (none-some m e))
without-one {K} give test holder d (p ∷ ps) t = let was = without-one give test holder d ps t in (
  grind (arith, was.0, t.keyed.gives p.holder p.held, t.tells p.holder),
  λ m e u r k. grind (arith, t.keyed.gives p.holder p.held, t.tells p.holder, was.1 m, sum_by-cons (λ (q : Pin). cond (is_pin_on u r k q) 1 0) p ps, sum_by-cons (λ (q : Pin). cond (is_pin_on u r k q) 1 0) p (without d holder ps)),
)

-- the tests that exist

mapping-tells : (handle : Handle) → Tells mapping_named (λ (k : Handle). same_handle k handle) (holders.Mapping handle)
mapping-tells handle = record { keyed = mapping-keyed; tells = by } where
  by : (x : PinHolder) → is_holder x (holders.Mapping handle) ≡ passes (λ (k : Handle). same_handle k handle) (mapping-keyed.key x)
  by (holders.Mapping k) = refl
  by (holders.Leg n) = refl

leg-tells : (number : ℕ) → Tells by_leg (λ (k : ℕ). k == number) (holders.Leg number)
leg-tells number = record { keyed = leg-keyed; tells = by } where
  by : (x : PinHolder) → is_holder x (holders.Leg number) ≡ passes (λ (k : ℕ). k == number) (leg-keyed.key x)
  by (holders.Mapping k) = refl
  by (holders.Leg n) = refl

-- by the handle of a mapping

one-mapping : (ms : List (Handle × HeldPin)) (handle : Handle) → one_of (λ (k : Handle). same_handle k handle) ms ≡ mapping_of ms handle
one-mapping [] handle = refl
one-mapping (m ∷ ms) handle = ap (λ (o : Option HeldPin). cond (same_handle m.0 handle) (Some m.1) o) (one-mapping ms handle)

pub loses-mapping : (h : History) (d : DomId) (handle : Handle) (p : HeldPin) → mapping_of (mappings_at h d.0) handle ≡ Some p → Loses p (live h) (without d.0 (holders.Mapping handle) (live h))
loses-mapping h d handle p found =
    (without-one mapping_named (λ (k : Handle). same_handle k handle) (holders.Mapping handle) d.0 (live h) (mapping-tells handle)).1 p (one-mapping (mappings_at h d.0) handle ∙ found)

-- the domain's mappings lose the one of the handle, and its call no pin
mapping-left : (h : History) (d : DomId) (p : HeldPin) (handle : Handle) (seen : Observation) (answer : Option Answer) → mappings_at (unpins d p (holders.Mapping handle) seen answer ∷ h) d.0 ≡ less handle (mappings_at h d.0)
mapping-left h d p handle seen answer = ap (gather mapping_named d.0) (unpinned-live h d p (holders.Mapping handle) seen answer)
    ∙ (without-one mapping_named (λ (k : Handle). same_handle k handle) (holders.Mapping handle) d.0 (live h) (mapping-tells handle)).0

pub mapping-legs : (h : History) (d : DomId) (p : HeldPin) (handle : Handle) (seen : Observation) (answer : Option Answer) → legs_at (unpins d p (holders.Mapping handle) seen answer ∷ h) d.0 ≡ legs_at h d.0
mapping-legs h d p handle seen answer = grind (arith, unpinned-live, without-kept, cond-same)

pub mapping-agrees : (h : History) (d : DomId) (p : HeldPin) (handle : Handle) (seen : Observation) (answer : Option Answer) (kept : HandleMap HeldPin) → one_if_mapped answer ≡ 0 → mapping_of (mappings_at h d.0) handle ≡ Some p
    → MappingsAgree kept (mappings_at h d.0) (maps_answered_at h d.0)
    → MappingsAgree (handle_taken handle kept) (mappings_at (unpins d p (holders.Mapping handle) seen answer ∷ h) d.0) (maps_answered_at (unpins d p (holders.Mapping handle) seen answer ∷ h) d.0)
mapping-agrees h d p handle seen answer kept m found a =
    mappings-same (handle_taken handle kept) _ _ _ _ (sym (mapping-left h d p handle seen answer)) (sym (answered-stays h (unpins d p (holders.Mapping handle) seen answer) d.0 m))
    (mappings-taken kept handle p (mappings_at h d.0) (maps_answered_at h d.0) found a)

-- by the position of a call's own pin, the last one

last-leg : (m n : ℕ) (ps : List HeldPin) (p : HeldPin) → n ≡ m + length ps
    → (one_of (λ (k : ℕ). k == n) (numbered m (ps ++ p ∷ [])) ≡ Some p) × (less_of (λ (k : ℕ). k == n) (numbered m (ps ++ p ∷ [])) ≡ numbered m ps)
last-leg m n [] p e = grind arith
last-leg m n (q ∷ ps) p e = grind (arith, last-leg (m + 1) n ps p (omega arith))

pub from-zero : (n : ℕ) → 0 + n ≡ n
from-zero n = omega arith

pub loses-leg : (h : History) (d : DomId) (ps : List HeldPin) (p : HeldPin) → legs_at h d.0 ≡ numbered 0 (ps ++ p ∷ []) → Loses p (live h) (without d.0 (holders.Leg (length ps)) (live h))
loses-leg h d ps p held = (without-one by_leg (λ (k : ℕ). k == length ps) (holders.Leg (length ps)) d.0 (live h) (leg-tells (length ps))).1 p
    (ap (one_of (λ (k : ℕ). k == length ps)) held ∙ (last-leg 0 (length ps) ps p (omega arith)).0)

pub leg-left : (h : History) (d : DomId) (ps : List HeldPin) (p : HeldPin) (seen : Observation) (answer : Option Answer) → legs_at h d.0 ≡ numbered 0 (ps ++ p ∷ [])
    → legs_at (unpins d p (holders.Leg (length ps)) seen answer ∷ h) d.0 ≡ numbered 0 ps
leg-left h d ps p seen answer held = ap (gather by_leg d.0) (unpinned-live h d p (holders.Leg (length ps)) seen answer)
    ∙ (without-one by_leg (λ (k : ℕ). k == length ps) (holders.Leg (length ps)) d.0 (live h) (leg-tells (length ps))).0
    ∙ ap (less_of (λ (k : ℕ). k == length ps)) held ∙ (last-leg 0 (length ps) ps p (omega arith)).1

pub leg-mappings : (h : History) (d : DomId) (p : HeldPin) (number : ℕ) (seen : Observation) (answer : Option Answer) → mappings_at (unpins d p (holders.Leg number) seen answer ∷ h) d.0 ≡ mappings_at h d.0
leg-mappings h d p number seen answer = grind (arith, unpinned-live, without-kept, cond-same)

pub leg-agrees : (h : History) (d : DomId) (p : HeldPin) (number : ℕ) (seen : Observation) (answer : Option Answer) (kept : HandleMap HeldPin) → one_if_mapped answer ≡ 0
    → MappingsAgree kept (mappings_at h d.0) (maps_answered_at h d.0) → MappingsAgree kept (mappings_at (unpins d p (holders.Leg number) seen answer ∷ h) d.0) (maps_answered_at (unpins d p (holders.Leg number) seen answer ∷ h) d.0)
leg-agrees h d p number seen answer kept m a = mappings-same kept _ _ _ _ (sym (leg-mappings h d p number seen answer)) (sym (answered-stays h (unpins d p (holders.Leg number) seen answer) d.0 m)) a

-- the slot that the unpin counts down
counted-down : (h new : History) (q r : ℕ) (dir : Dir) (b : Bool) (old : PinCounts) → SlotAgrees h q r old → ((which : BodyWord) → body_at new q r which ≡ body_at h q r which)
    → ((k : Dir) → pins_at h q r k ≡ cond (b && same_dir dir k) 1 0 + pins_at new q r k) → SlotAgrees new q r (cond b (slot_after (Unpinned dir) old) old)
counted-down h new q r dir b old a body now = grind (arith, now Read, now Write, body body_words.First, body body_words.Second)

-- after a live pin is released the core represents the history with it, if the domain's mappings are those that it
-- then has
pub unpin-stands : (s : Setting) (h : History) (xs zs : List State) (x : State) (p : HeldPin) (holder : PinHolder) (seen : Observation) (answer : Option Answer) (kept : HandleMap HeldPin) (o : Option OpenCall) → DomainsStand s h xs
    → state_of xs x.id.0 ≡ Some x → StateStands s h x → Becomes xs zs x (record x { mappings = kept; underway = o }) p.dom.0 (with_slot p.gref.0 (Unpinned p.dir)) → Loses p (live h) (without x.id.0 holder (live h))
    → MappingsAgree kept (mappings_at (unpins x.id p holder seen answer ∷ h) x.id.0) (maps_answered_at (unpins x.id p holder seen answer ∷ h) x.id.0)
    → CallAgrees s (unpins x.id p holder seen answer ∷ h) x.id o (open_call (unpins x.id p holder seen answer ∷ h) x.id.0) → GivenAgrees (unpins x.id p holder seen answer ∷ h) x.id.0 x.given
    → DomainsStand s (unpins x.id p holder seen answer ∷ h) zs
unpin-stands s h xs zs x p holder seen answer kept o st here a becomes loses maps call given =
    keeps-stands s i h xs zs keeps st
    (slots-stand s i h xs zs x kept o p.dom.0 p.gref.0 (Unpinned p.dir) keeps.changes refl refl st here a becomes
    (λ u r old w. counted-down h (i ∷ h) u r p.dir ((p.dom.0 == u) && (p.gref.0 == r)) old w (λ which. same-body i h u r which keeps) (λ k. shrinks u r k)) maps call given)
    (subst (All (IsLawfulPin s)) (sym now) (all-without (IsLawfulPin s) x.id.0 holder (live h) st.lawful))
    (λ t r k within. let e = shrinks t r k in let was = pins-fit s h t r k (st.words t r within) in omega arith)
  where
    i : Item
    i = unpins x.id p holder seen answer

    keeps : KeepsEntries i
    keeps = record { changes = λ r. refl; stores = λ r which. refl; header = refl }

    now : live (i ∷ h) ≡ without x.id.0 holder (live h)
    now = unpinned-live h x.id p holder seen answer

    shrinks : (t r : ℕ) (k : Dir) → pins_at h t r k ≡ cond (hits p t r k) 1 0 + pins_at (i ∷ h) t r k
    shrinks t r k = loses t r k ∙ ap (λ (ps : List Pin). cond (hits p t r k) 1 0 + count_by (is_pin_on t r k) ps) (sym now)

-- the states after an unpin: the mapping goes too, if the pin was of one
pub becomes-unpinned : (xs ys : List State) (x : State) (p : HeldPin) (holder : PinHolder) (o : Option OpenCall) → ((q : ℕ) → state_of ys q ≡ cond (x.id.0 == q) (Some (record x { underway = o })) (state_of xs q))
    → Becomes xs (changed_in x.id.0 (without_holder holder) (changed_in p.dom.0 (with_slot p.gref.0 (Unpinned p.dir)) ys)) x (without_holder holder (record x { underway = o })) p.dom.0 (with_slot p.gref.0 (Unpinned p.dir))
becomes-unpinned xs ys x p holder o was = grind (arith, state-changed, becomes-changed)

-- what follows the release of a pin

pub then-none : (o : Option Denial) → option_or o None ≡ o
then-none None = refl
then-none (Some d) = refl

pub give-placed : (s : Setting) (h : History) (d : DomId) (r : OpenRequest) (so_far : StepsSoFar) (pins : CallPins) (verdict : CallResult) (step : Step) → next_to_give (last_first pins) verdict ≡ actions.Step step
    → (last_first pins ≡ []) ⊎ ((copy : CopyArgs) × IsCopyOf r copy × EndsCopy verdict) → Placed s h d r so_far (Ending pins verdict) step
give-placed s h d r so_far pins verdict step e (inl none) = let f : Done verdict ≡ actions.Step step = sym (ap (λ (l : List HeldPin). next_to_give l verdict) none) ∙ e in cc
give-placed s h d r so_far pins verdict step e (inr copy) = by-giving (Placed s h d r so_far (Ending pins verdict)) (λ p n. inr copy) (last_first pins) verdict step e
