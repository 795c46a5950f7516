-- The events of a line, in two runs that are the same but for keys.
use Rattle.std.proofs.Common.{◌≡◌, ◌≤◌, ℕ, zero, suc, List, [], ◌∷◌, ◌++◌, length, replicate, None, Some, refl, ap}
use Rattle.std.proofs.Common.{sym, ◌∙◌, arith}
use Rattle.std.specs.Option.{option_map}
use Rattle.std.proofs.lemmas.Option.{none-some, same_Some}
use Rattle.gt_types.specs.declared.DomId.{DomId}
use Rattle.gt_model.specs.declared.trace.Answer.{Answer}
use Rattle.gt_model.specs.declared.trace.Element.{Element}
use Rattle.gt_model.specs.declared.trace.Event.{Event}
use Rattle.gt_model.specs.declared.trace.Event.TheVariants.{Tick}
use Rattle.gt_model.specs.History.{History, Setting}
use Rattle.gt_model.specs.Legal.{MayDo, LegalAfter, actor_of, grown, history_after}
use Rattle.gt_core.specs.Alike.{keyless_answer, SameEvent, SameElement, IsOfKnown, AreAlike}
use Rattle.gt_script_runs.specs.Runs.{answer_in, AnswerNothing}
use Rattle.gt_script_runs.proofs.AlikeLemmas.{answers-same, AnswerGiven, done-given}

-- what the laws of gt_core say: alike events do the same but for keys in alike runs, and leave alike runs
abbrev pub StaysAlike : Type 0
StaysAlike = (s : Setting) (g h : History) (e f : Event) (one other : Element) → AreAlike s g h → SameEvent e f → IsOfKnown g e → IsOfKnown h f → MayDo s g e one → MayDo s h f other
    → SameElement one other × AreAlike s (grown g one) (grown h other)

pub swapped : (t : Setting) (g h : History) → AreAlike t g h → AreAlike t h g
swapped t g h a = record { first = a.second; second = a.first; same = sym a.same }

-- no elements stand for no events
none-left : (t : Setting) (h : History) (xs : List Element) (x : Element) → LegalAfter t h [] (xs ++ x ∷ []) → ⊥
none-left t h [] x p = p
none-left t h (y ∷ xs) x p = p

-- an element that answers is not the same as one that does not
one-answers : (x y : Element) (a : Answer) → SameElement x y → answer_in x ≡ Some a → answer_in y ≡ None → ⊥
one-answers x y a same e none = none-some (keyless_answer a) (sym (ap (option_map keyless_answer) none) ∙ sym (answers-same x y same) ∙ ap (option_map keyless_answer) e)

-- two answers

-- the first element of each
abbrev FirstsSame : Setting → History → History → Element → Element → Type 0
FirstsSame t g h x y = SameElement x y × AreAlike t (grown g x) (grown h y)

pub answers-alike : StaysAlike → (t : Setting) (d : DomId) (g h : History) (e f : Event) (n m : ℕ) (xs ys : List Element) (x y : Element) (a b : Answer) → AreAlike t g h → SameEvent e f → IsOfKnown g e → IsOfKnown h f
    → LegalAfter t g (e ∷ replicate n (Tick d)) (xs ++ x ∷ []) → LegalAfter t h (f ∷ replicate m (Tick d)) (ys ++ y ∷ []) → AnswerNothing xs → AnswerNothing ys → answer_in x ≡ Some a → answer_in y ≡ Some b
    → (keyless_answer a ≡ keyless_answer b) × AreAlike t (history_after g (xs ++ x ∷ [])) (history_after h (ys ++ y ∷ []))
answers-alike law t d g h e f n m [] [] x y a b alike same j k p q quiet still is so =
    let s = law t g h e f x y alike same j k p.0 q.0 in
    (same_Some (keyless_answer a) (keyless_answer b) (sym (ap (option_map keyless_answer) is) ∙ answers-same x y s.0 ∙ ap (option_map keyless_answer) so), s.1)
answers-alike law t d g h e f n m [] (z ∷ ys) x y a b alike same j k p q quiet still is so =
    absurd (one-answers x z a (law t g h e f x z alike same j k p.0 q.0).0 is still.0)
answers-alike law t d g h e f n m (z ∷ xs) [] x y a b alike same j k p q quiet still is so =
    absurd (one-answers y z b (law t h g f e y z (swapped t g h alike) (sym same) k j q.0 p.0).0 so quiet.0)
answers-alike law t d g h e f zero m (w ∷ xs) (z ∷ ys) x y a b alike same j k p q quiet still is so = absurd (none-left t (grown g w) xs x p.1)
answers-alike law t d g h e f (suc n) zero (w ∷ xs) (z ∷ ys) x y a b alike same j k p q quiet still is so = absurd (none-left t (grown h z) ys y q.1)
answers-alike law t d g h e f (suc n) (suc m) (w ∷ xs) (z ∷ ys) x y a b alike same j k p q quiet still is so =
    answers-alike law t d (grown g w) (grown h z) (Tick d) (Tick d) n m xs ys x y a b (law t g h e f w z alike same j k p.0 q.0).1 refl tt tt p.1 q.1 quiet.1 still.1 is so

-- the handle that a call is answered
pub call-given : (t : Setting) (d : DomId) (h : History) (e : Event) (n : ℕ) (xs : List Element) (x : Element) (a : Answer) → actor_of e ≡ d → LegalAfter t h (e ∷ replicate n (Tick d)) (xs ++ x ∷ []) → answer_in x ≡ Some a
    → AnswerGiven (history_after h (xs ++ x ∷ [])) d.0 a
call-given t d h e n [] x a own p is = done-given t h d e x a p.0 own is
call-given t d h e zero (w ∷ xs) x a own p is = absurd (none-left t (grown h w) xs x p.1)
call-given t d h e (suc n) (w ∷ xs) x a own p is = call-given t d (grown h w) (Tick d) n xs x a refl p.1 is

-- ticks

-- as many ticks in both, which answer nothing
pub ticks-alike : StaysAlike → (t : Setting) (d : DomId) (g h : History) (n m : ℕ) (xs ys : List Element) → AreAlike t g h → LegalAfter t g (replicate n (Tick d)) xs → LegalAfter t h (replicate m (Tick d)) ys → length xs ≡ length ys
    → AreAlike t (history_after g xs) (history_after h ys)
ticks-alike law t d g h n m [] [] alike p q e = alike
ticks-alike law t d g h n m [] (y ∷ ys) alike p q e = absurd (omega arith)
ticks-alike law t d g h n m (x ∷ xs) [] alike p q e = absurd (omega arith)
ticks-alike law t d g h zero m (x ∷ xs) (y ∷ ys) alike p q e = absurd p
ticks-alike law t d g h (suc n) zero (x ∷ xs) (y ∷ ys) alike p q e = absurd q
ticks-alike law t d g h (suc n) (suc m) (x ∷ xs) (y ∷ ys) alike p q e =
    ticks-alike law t d (grown g x) (grown h y) n m xs ys (law t g h (Tick d) (Tick d) x y alike refl tt tt p.0 q.0).1 p.1 q.1 (omega arith)

-- the one run can't be answered where the other made as many ticks without an answer
pub ticks-apart : StaysAlike → (t : Setting) (d : DomId) (g h : History) (n m : ℕ) (xs ys : List Element) (x : Element) (a : Answer) → AreAlike t g h → LegalAfter t g (replicate n (Tick d)) (xs ++ x ∷ []) → LegalAfter t h (replicate m (Tick d)) ys
    → answer_in x ≡ Some a → AnswerNothing ys → length (xs ++ x ∷ []) ≤ length ys → ⊥
ticks-apart law t d g h zero m xs ys x a alike p q is quiet few = none-left t g xs x p
ticks-apart law t d g h (suc n) m [] [] x a alike p q is quiet few = omega arith
ticks-apart law t d g h (suc n) m (w ∷ xs) [] x a alike p q is quiet few = omega arith
ticks-apart law t d g h (suc n) zero [] (y ∷ ys) x a alike p q is quiet few = q
ticks-apart law t d g h (suc n) zero (w ∷ xs) (y ∷ ys) x a alike p q is quiet few = q
ticks-apart law t d g h (suc n) (suc m) [] (y ∷ ys) x a alike p q is quiet few =
    one-answers x y a (law t g h (Tick d) (Tick d) x y alike refl tt tt p.0 q.0).0 is quiet.0
ticks-apart law t d g h (suc n) (suc m) (w ∷ xs) (y ∷ ys) x a alike p q is quiet few =
    ticks-apart law t d (grown g w) (grown h y) n m xs ys x a (law t g h (Tick d) (Tick d) w y alike refl tt tt p.0 q.0).1 p.1 q.1 is quiet.1 (omega arith)

-- some tick is made where there is an answer
pub ticks-answered : (t : Setting) (d : DomId) (h : History) (n : ℕ) (xs : List Element) (x : Element) → LegalAfter t h (replicate n (Tick d)) (xs ++ x ∷ []) → (m : ℕ) × (n ≡ suc m)
ticks-answered t d h zero xs x p = absurd (none-left t h xs x p)
ticks-answered t d h (suc m) xs x p = (m, refl)
