-- The order of all steps follows from what the seats know, and a new step comes right after all others.
use Rattle.std.proofs.Common.{◌≡◌, ◌≢◌, ℕ, zero, suc, ◌≤◌, Bool, true, false, cond, ◌==◌, List}
use Rattle.std.proofs.Common.{[], ◌∷◌, length, get_or, sym, refl, ap, ◌∙◌, subst, arith, length-set}
use mathlib.Core.Option.{Option as Maybe, none, some, some-ne-none}
use mathlib.Core.Logic.{dite}
use native.Mathlib.Decide.{ℕ_discrete}
use lib.ListN.{get_elem?}
use Rattle.atomic_table.specs.Table.{Act, State, keeps, stepped}
use Rattle.atomic_table.proofs.Lists.{set_else, set_here}
use Rattle.gt_word_history.proofs.Order.{nothing_yet, part_else, part_here, up_else, up_here, within}
use Rattle.gt_word_history.specs.History.{HasLedTo, StepHistory, IsTrue, Layout, RecordsWord, part_of, word_place_of, up_to}
use Rattle.gt_word_history.specs.Order.{AllowedStepsRecordWhatIsThere, HistoryIsOne, StepsAreTakenThen}
use Rattle.gt_word_history.specs.Views.{with_step}
use Rattle.gt_word_history.specs.declared.view.SeatStep.{SeatStep}
use Rattle.gt_word_history.specs.declared.view.View.{View}

-- up to the last step of a seat there are no more steps of another
fewer : (m j : ℕ) (h : StepHistory) → length (part_of m (up_to j h)) ≤ length (part_of m h)
fewer m j [] = omega arith
fewer m j (p ∷ h) = by (p.0 == j) (p.0 == m) (fewer m j h)
  where
    by : (b c : Bool) → length (part_of m (up_to j h)) ≤ length (part_of m h) → length (part_of m (cond b (p ∷ h) (up_to j h))) ≤ length (cond (p.0 == m) (p.1 ∷ part_of m h) (part_of m h))
    by true c rest = omega arith
    by false c rest = less (p.0 == m) rest
      where
        less : (b : Bool) → length (part_of m (up_to j h)) ≤ length (part_of m h) → length (part_of m (up_to j h)) ≤ length (cond b (p.1 ∷ part_of m h) (part_of m h))
        less true l = omega arith
        less false l = l

abbrev head_of : SeatStep → List SeatStep → SeatStep
head_of y [] = y
head_of y (x ∷ xs) = x

abbrev tail_of : {A : Type 0} → List A → List A
tail_of [] = []
tail_of (x ∷ xs) = xs

-- two orders in which each seat has the same steps, and each seat but one knows the same, are one
pub one_order : (i : ℕ) (h g : StepHistory) → ((j : ℕ) → part_of j h ≡ part_of j g) → ((j : ℕ) → j ≢ i → up_to j h ≡ up_to j g) → h ≡ g
one_order i [] [] same knows = refl
one_order i [] (q ∷ g) same knows = absurd (let e : 0 ≡ suc (length (part_of q.0 g)) = ap length (same q.0) ∙ ap length (part_here q.0 q.1 g) in omega arith)
one_order i (p ∷ h) [] same knows = absurd (let e : suc (length (part_of p.0 h)) ≡ 0 = sym (ap length (part_here p.0 p.1 h)) ∙ ap length (same p.0) in omega arith)
one_order i (p ∷ h) (q ∷ g) same knows = dite (ℕ_discrete p.0 q.0) (alike (λ a b. one_order i h g a b)) apart
  where
    -- the first steps are of one seat
    alike : (((j : ℕ) → part_of j h ≡ part_of j g) → ((j : ℕ) → j ≢ i → up_to j h ≡ up_to j g) → h ≡ g) → p.0 ≡ q.0 → (p ∷ h) ≡ (q ∷ g)
    alike rest_one e = dite (ℕ_discrete p.0 i) here (λ n. sym (up_here p.0 p.1 h) ∙ (knows p.0 n ∙ (ap (λ (z : ℕ). up_to z (q ∷ g)) e ∙ up_here q.0 q.1 g)))
      where
        first : (p.1 ∷ part_of p.0 h) ≡ (q.1 ∷ part_of p.0 g)
        first = sym (part_here p.0 p.1 h) ∙ (same p.0 ∙ (ap (λ (z : ℕ). part_of z (q ∷ g)) e ∙ (part_here q.0 q.1 g ∙ ap (λ (z : ℕ). q.1 ∷ part_of z g) (sym e))))

        rest_same : (j : ℕ) → part_of j h ≡ part_of j g
        rest_same j = dite (ℕ_discrete p.0 j) (λ f. subst (λ (z : ℕ). part_of z h ≡ part_of z g) f (ap tail_of first))
            (λ n. sym (part_else p.0 p.1 h j n) ∙ (same j ∙ part_else q.0 q.1 g j (λ f. n (e ∙ f))))

        here : p.0 ≡ i → (p ∷ h) ≡ (q ∷ g)
        here f = let rest = rest_one rest_same (λ j n. sym (up_else p.0 p.1 h j (λ z. n (sym z ∙ f))) ∙ (knows j n ∙ up_else q.0 q.1 g j (λ z. n (sym z ∙ (sym e ∙ f))))) in
            λ k. (e k, ap (head_of p.1) first k) ∷ rest k

    -- they are of two seats, of which one knows all steps
    apart : p.0 ≢ q.0 → (p ∷ h) ≡ (q ∷ g)
    apart n = dite (ℕ_discrete p.0 i)
        (λ f. let all : (q ∷ g) ≡ up_to q.0 h = sym (up_here q.0 q.1 g) ∙ (sym (knows q.0 (λ z. n (f ∙ sym z))) ∙ up_else p.0 p.1 h q.0 n) in
        let few = fewer p.0 q.0 h in let one : length (part_of p.0 (q ∷ g)) ≡ length (part_of p.0 (up_to q.0 h)) = ap (λ (z : StepHistory). length (part_of p.0 z)) all in
        let two : length (part_of p.0 (q ∷ g)) ≡ suc (length (part_of p.0 h)) = sym (ap length (same p.0)) ∙ ap length (part_here p.0 p.1 h) in absurd (omega arith))
        (λ f. let all : (p ∷ h) ≡ up_to p.0 g = sym (up_here p.0 p.1 h) ∙ (knows p.0 f ∙ up_else q.0 q.1 g p.0 (λ z. n (sym z))) in
        let few = fewer q.0 p.0 g in let one : length (part_of q.0 (p ∷ h)) ≡ length (part_of q.0 (up_to p.0 g)) = ap (λ (z : StepHistory). length (part_of q.0 z)) all in
        let two : length (part_of q.0 (p ∷ h)) ≡ suc (length (part_of q.0 g)) = ap length (same q.0) ∙ ap length (part_here q.0 q.1 g) in absurd (omega arith))

pub beyond : {A : Type 0} (l : List A) (j : ℕ) → get_elem? l j ≡ none → length l ≤ j
beyond [] j e = omega arith
beyond (x ∷ xs) zero e = absurd (some-ne-none x e)
beyond (x ∷ xs) (suc j) e = let l = beyond xs j e in omega arith

-- one history
pub one_history : HistoryIsOne
one_history k s z shown also same = one_order 0 shown.history also.history (λ j. (both j (get_elem? s.views j) refl).0) (λ j n. (both j (get_elem? s.views j) refl).1)
  where
    both : (j : ℕ) (o : Maybe View) → get_elem? s.views j ≡ o → (part_of j shown.history ≡ part_of j also.history) × (up_to j shown.history ≡ up_to j also.history)
    both j none e = let l = beyond s.views j e in let m : length z.views ≡ length s.views = sym (ap length same) in let a = shown.now.led_here.no_other j l in let b = also.now.led_here.no_other j (omega arith) in
        (a ∙ sym b, nothing_yet j shown.history a ∙ sym (nothing_yet j also.history b))
    both j (some v) e = let a = shown.now.led_here.parts j v e in let b = also.now.led_here.parts j v (subst (λ (vs : List View). get_elem? vs j ≡ some v) same e) in (sym a.0 ∙ b.0, sym a.1 ∙ b.1)

-- a step is taken when it is
module _ {S : Type 0} (k : Layout) (s : State S View) (i : ℕ) (v : View) (x : SeatStep) (past h g : StepHistory) (at left : ℕ) (slots : List (ℕ × S)) (act : Act S) (led : HasLedTo k h s) (after : HasLedTo k g (stepped s at left i slots (with_step past x v) act)) (here : get_elem? s.views i ≡ some v) where
  abbrev w : View
  w = with_step past x v

  own_part : (part_of i g ≡ part_of i ((i, x) ∷ h)) × (((v.position, x) ∷ past) ≡ up_to i g)
  own_part = let a = after.parts i w (set_here s.views i w (within s.views i v here)) in let b = led.parts i v here in (sym a.0 ∙ (ap (λ (l : List SeatStep). x ∷ l) b.0 ∙ sym (part_here i x h)), a.1)

  other : (j : ℕ) → j ≢ i → (o : Maybe View) → get_elem? s.views j ≡ o → (part_of j g ≡ part_of j ((i, x) ∷ h)) × (up_to j g ≡ up_to j ((i, x) ∷ h))
  other j n none e = let l = beyond s.views j e in let m = length-set s.views i w in let a = led.no_other j l in let b = after.no_other j (omega arith) in let d : i ≢ j = λ z. n (sym z) in
      (b ∙ sym (part_else i x h j d ∙ a), nothing_yet j g b ∙ sym (up_else i x h j d ∙ nothing_yet j h a))
  other j n (some u) e = let a = led.parts j u e in let b = after.parts j u (set_else s.views i j w n ∙ e) in let d : i ≢ j = λ z. n (sym z) in
      (sym b.0 ∙ (a.0 ∙ sym (part_else i x h j d)), sym b.1 ∙ (a.1 ∙ sym (up_else i x h j d)))

  pub goes_on : g ≡ (i, x) ∷ h
  goes_on = one_order i g ((i, x) ∷ h) (λ j. dite (ℕ_discrete j i) (λ e. subst (λ (z : ℕ). part_of z g ≡ part_of z ((i, x) ∷ h)) (sym e) own_part.0) (λ n. (other j n (get_elem? s.views j) refl).0)) (λ j n. (other j n (get_elem? s.views j) refl).1)

  knows_all : past ≡ h
  knows_all = ap tail_of (own_part.1 ∙ (ap (up_to i) goes_on ∙ up_here i x h))

pub taken_then : StepsAreTakenThen
taken_then k s i v x past at left shown after here = let h : StepHistory = shown.history in
    let go = goes_on k s i v x past h after.history at left [] keeps shown.now.led_here after.now.led_here here in let is = subst (IsTrue k) go after.now.led_here.true_steps in
    (knows_all k s i v x past h after.history at left [] keeps shown.now.led_here after.now.led_here here, go, is.1, is.2, λ l. subst (RecordsWord x) (sym (shown.now.led_here.words (word_place_of x) l)) is.0)

-- a step that is allowed says what it finds
pub allowed_says : AllowedStepsRecordWhatIsThere
allowed_says k slots id me at f x s shown allows len here fits inside = let n : ℕ = get_or s.words at 0 in let z = allows s shown len here fits in
    let go = goes_on k s id me.0 (x n) z.4.0 shown.history z.3.history at (f n) me.1 z.1 shown.now.led_here
    (subst (λ (u : View). HasLedTo k z.3.history (stepped s at (f n) id me.1 u z.1)) z.4.1 z.3.now.led_here) here in
    let is = subst (IsTrue k) go z.3.now.led_here.true_steps in subst (RecordsWord (x n)) (sym (shown.now.led_here.words (word_place_of (x n)) inside)) is.0
