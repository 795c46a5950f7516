-- What is read of the happenings of an order is which precedences hold in it.
use Rattle.std.proofs.Common.{◌≡◌, ◌∙◌, ◌+◌, ◌<◌, ◌≤◌, ap, refl, sym, subst, arith, ℕ, zero, suc, Bool, true, false, List, [], ◌∷◌, ◌++◌, map, length, take, drop, Option, Some, None}
use Rattle.std.proofs.Common.{append_assoc, append-nil, inl, inr}
use Rattle.std.proofs.lemmas.Bool.{eq-eqb, eqb-true, false≢true, lt-ltb, ltb-true}
use Rattle.std.proofs.lemmas.Option.{none-some, same_Some}
use Rattle.std.specs.Prelude.{◌==◌, ◌≢◌, ◌↔◌, ◌&&◌, ◌||◌, nat_lt, slice_get}
use Rattle.gt_explore_search.specs.Parts.{Pairwise}
use Rattle.gt_types.specs.declared.DomId.{DomId}
use Rattle.gt_types.specs.declared.config.DomainConfig.{DomainConfig}
use Rattle.gt_script.specs.Lists.{RunTask}
use Rattle.gt_script.specs.Preceding.{is_call}
use Rattle.gt_script.specs.RunContents.{RunContents}
use Rattle.gt_script.specs.RunScripts.{list_of}
use Rattle.gt_script.specs.declared.precedence.Precedence.{Precedence}
use Rattle.gt_explore_replay.specs.Orders.{Happening, doer, own_happenings}
use Rattle.gt_precedence.proofs.Complete.{only}
use Rattle.gt_precedence.proofs.Happenings.{own-append, own-here, same-dom}
use Rattle.gt_precedence.proofs.Lists.{count, count-append, count-yes}
use Rattle.gt_precedence.proofs.Moments.{precedes-by}
use Rattle.gt_precedence.proofs.Tasks.{Free}
use Rattle.gt_precedence.specs.Precedence.{IsCallOfLine, IsOrderly, Precedes, answers_call, begins_call, calls_answered, calls_before, calls_begun}
use Rattle.gt_explore_ordered.specs.Holding.{held_from, held_if, is_completed}
use Rattle.gt_explore_ordered.specs.Ordered.{HoldsExactly}
use Rattle.gt_explore_ordered.specs.Places.{OrderIsFound}
use Rattle.gt_explore_ordered.specs.declared.places.CallOrder.{CallOrder}
use Rattle.gt_explore_ordered.specs.declared.places.CallPlace.{CallPlace}
use Rattle.gt_explore_ordered.proofs.PlacedCalls.{IsPlaceOfLine, not-placed, placed}

-- tests

pub both : (a b : Bool) → (a && b) ≡ true → (a ≡ true) × (b ≡ true)
both true true e = (refl, refl)
both true false e = absurd (false≢true e)
both false b e = absurd (false≢true e)

pub both-hold : (a b : Bool) → a ≡ true → b ≡ true → (a && b) ≡ true
both-hold a b ea eb = rw (ea, eb) refl

or-later : (a b : Bool) → b ≡ true → (a || b) ≡ true
or-later true b e = refl
or-later false b e = e

-- one of the happenings meets a precedence

record MetAt (o : CallOrder) (before hs : List Happening) : Type 0 where
  pub front : List Happening
  pub here : Happening
  pub back : List Happening
  pub parts : hs ≡ front ++ here ∷ back
  pub met : is_completed o (before ++ front) here ≡ true

met-at : (o : CallOrder) (before hs : List Happening) → held_from o before hs ≡ true → MetAt o before hs
met-at o before [] held = absurd (false≢true held)
met-at o before (x ∷ hs) held = by (is_completed o before x) refl held (λ more. met-at o (before ++ x ∷ []) hs more)
  where
    by : (b : Bool) → is_completed o before x ≡ b → (is_completed o before x || held_from o (before ++ x ∷ []) hs) ≡ true → (held_from o (before ++ x ∷ []) hs ≡ true → MetAt o (before ++ x ∷ []) hs) → MetAt o before (x ∷ hs)
    by true e held rest = record {
      front = [];
      here = x;
      back = hs;
      parts = refl;
      met = ap (λ (l : List Happening). is_completed o l x) (append-nil before) ∙ e;
    }
    by false e held rest =
        let later = rest (subst (λ (b : Bool). (b || held_from o (before ++ x ∷ []) hs) ≡ true) e held) in record {
          front = x ∷ later.front;
          here = later.here;
          back = later.back;
          parts = ap (λ (l : List Happening). x ∷ l) later.parts;
          met = ap (λ (l : List Happening). is_completed o l later.here) (sym (append_assoc before (x ∷ []) later.front)) ∙ later.met;
        }

held-there : (o : CallOrder) (before front : List Happening) (x : Happening) (back : List Happening) → is_completed o (before ++ front) x ≡ true → held_from o before (front ++ x ∷ back) ≡ true
held-there o before [] x back met =
    ap (λ (b : Bool). b || held_from o (before ++ x ∷ []) back) (ap (λ (l : List Happening). is_completed o l x) (sym (append-nil before)) ∙ met)
held-there o before (y ∷ front) x back met =
    or-later (is_completed o before y) (held_from o (before ++ y ∷ []) (front ++ x ∷ back))
    (held-there o (before ++ y ∷ []) front x back (ap (λ (l : List Happening). is_completed o l x) (append_assoc before (y ∷ []) front) ∙ met))

-- one more happening
pub held-more : (o : CallOrder) (before hs : List Happening) (x : Happening) → held_from o before (hs ++ x ∷ []) ≡ (held_from o before hs || is_completed o (before ++ hs) x)
held-more o before [] x = or-none (is_completed o before x) ∙ ap (λ (l : List Happening). is_completed o l x) (sym (append-nil before))
  where
    or-none : (b : Bool) → (b || false) ≡ b
    or-none true = refl
    or-none false = refl
held-more o before (y ∷ hs) x =
    ap (λ (b : Bool). is_completed o before y || b) (held-more o (before ++ y ∷ []) hs x ∙ ap (λ (l : List Happening). held_from o (before ++ y ∷ []) hs || is_completed o l x) (append_assoc before (y ∷ []) hs))
    ∙ or-assoc (is_completed o before y) (held_from o (before ++ y ∷ []) hs) (is_completed o (before ++ y ∷ hs) x)
  where
    or-assoc : (a b c : Bool) → (a || (b || c)) ≡ ((a || b) || c)
    or-assoc true b c = refl
    or-assoc false b c = refl

-- counts

pub parted : (p : Happening → Bool) (d : DomId) (us vs : List Happening) → count p (own_happenings d (us ++ vs)) ≡ count p (own_happenings d us) + count p (own_happenings d vs)
parted p d us vs = ap (count p) (own-append d us vs) ∙ count-append p (own_happenings d us) (own_happenings d vs)

pub one : (p : Happening → Bool) (d : DomId) (x : Happening) (hs : List Happening) → ((doer x).0 == d.0) ≡ true → p x ≡ true → count p (own_happenings d (x ∷ hs)) ≡ suc (count p (own_happenings d hs))
one p d x hs own passes = ap (count p) (own-here d x hs own) ∙ count-yes p x (own_happenings d hs) passes

pub its-own : (x : Happening) (d : DomId) → doer x ≡ d → ((doer x).0 == d.0) ≡ true
its-own x d is = eq-eqb (doer x).0 d.0 (ap (λ (k : DomId). k.0) is)

-- of a happening that passes a test, one more passes it before a later one
counted-later : (p : Happening → Bool) (d : DomId) (hs : List Happening) (i j : ℕ) (x : Happening) → slice_get hs i ≡ Some x → doer x ≡ d → p x ≡ true → i < j
    → count p (own_happenings d (take i hs)) < count p (own_happenings d (take j hs))
counted-later p d [] i j x there own passes lt = absurd (none-some x there)
counted-later p d (y ∷ hs) i zero x there own passes lt = absurd (omega (arith, lt))
counted-later p d (y ∷ hs) zero (suc j) x there own passes lt =
    let same : y ≡ x = same_Some y x there in
    let more = one p d y (take j hs) (its-own y d (ap doer same ∙ own)) (ap p same ∙ passes) in
    omega (arith, more)
counted-later p d (y ∷ hs) (suc i) (suc j) x there own passes lt =
    let later = counted-later p d hs i j x there own passes (omega (arith, lt)) in
    let mine = parted p d (y ∷ []) (take i hs) in let theirs = parted p d (y ∷ []) (take j hs) in
    omega (arith, later, mine, theirs)

cut-at : (hs : List Happening) (at : ℕ) (x : Happening) → slice_get hs at ≡ Some x → hs ≡ take at hs ++ x ∷ drop (suc at) hs
cut-at [] at x there = absurd (none-some x there)
cut-at (y ∷ hs) zero x there = ap (λ (z : Happening). z ∷ hs) (same_Some y x there)
cut-at (y ∷ hs) (suc at) x there = ap (λ (l : List Happening). y ∷ l) (cut-at hs at x there)

-- the call of a line is the only one on it

free-at : (line : ℕ) (ts : List RunTask) (at : ℕ) (u : RunTask) → Free line ts → slice_get ts at ≡ Some u → is_call u.run_action ≡ true → u.line ≡ line → ⊥
free-at line [] at u free there calls number = none-some u there
free-at line (t ∷ ts) zero u free there calls number =
    let same : t ≡ u = same_Some t u there in
    free.0 (ap (λ (z : RunTask). is_call z.run_action) same ∙ calls) (ap (λ (z : RunTask). z.line) same ∙ number)
free-at line (t ∷ ts) (suc at) u free there calls number = free-at line ts at u free.1 there calls number

only-there : (line : ℕ) (front back : List RunTask) (t u : RunTask) (at : ℕ) → Free line front → Free line back → slice_get (front ++ t ∷ back) at ≡ Some u → is_call u.run_action ≡ true → u.line ≡ line → t ≡ u
only-there line [] back t u zero before behind there calls number = same_Some t u there
only-there line [] back t u (suc at) before behind there calls number = absurd (free-at line back at u behind there calls number)
only-there line (w ∷ front) back t u zero before behind there calls number =
    let same : w ≡ u = same_Some w u there in
    absurd (before.0 (ap (λ (z : RunTask). is_call z.run_action) same ∙ calls) (ap (λ (z : RunTask). z.line) same ∙ number))
only-there line (w ∷ front) back t u (suc at) before behind there calls number = only-there line front back t u at before.1 behind there calls number

module _ (c : RunContents) (orderly : IsOrderly c) where
  same-task : (line : ℕ) (t u : RunTask) → IsCallOfLine c line t → IsCallOfLine c line u → t ≡ u
  same-task line t u call other =
      let searched = only c orderly line t call in
      only-there line searched.front searched.back t u other.place searched.before searched.behind (ap (λ (l : List RunTask). slice_get l other.place) (sym searched.parts) ∙ other.there) other.calls other.number

  module _ (lines : Precedence) (o : CallOrder) (first : IsPlaceOfLine c lines.first o.first) (second : IsPlaceOfLine c lines.second o.second) (hs : List Happening) where
    precedes : held_from o [] hs ≡ true → Precedes c lines hs
    precedes held =
        let at = met-at o [] hs held in
        let tests = both (begins_call at.here && ((doer at.here).0 == o.second.dom.0)) _ at.met in
        let here = both (begins_call at.here) _ tests.0 in
        let counts = both (calls_begun o.second.dom at.front == o.second.before) _ tests.1 in
        let begun : calls_begun o.second.dom at.front ≡ o.second.before = eqb-true _ _ counts.0 in
        let many : o.first.before < calls_answered o.first.dom at.front = ltb-true _ _ counts.1 in
        let d = second.task.dom in
        let own : ((doer at.here).0 == d.0) ≡ true = ap (λ (k : DomId). (doer at.here).0 == k.0) (sym second.dom) ∙ here.1 in
        let mine : calls_begun d at.front ≡ calls_before c second.task = ap (λ (k : DomId). calls_begun k at.front) (sym second.dom) ∙ begun ∙ second.before in
        let told : calls_before c first.task < calls_answered first.task.dom at.front =
        subst (λ (k : DomId). calls_before c first.task < calls_answered k at.front) first.dom (subst (λ (n : ℕ). n < calls_answered o.first.dom at.front) first.before many) in
        let all = ap (calls_begun d) at.parts ∙ parted begins_call d at.front (at.here ∷ at.back) in
        let more = one begins_call d at.here at.back own here.0 in
        precedes-by c lines hs
        (record {
          first = first.task;
          second = second.task;
          first_call = first.call;
          second_call = second.call;
          before = at.front;
          after = at.here ∷ at.back;
          moment = at.parts;
          answered = told;
          unbegun = omega (arith, mine);
        }) (omega (arith, all, more, mine))

    held : Precedes c lines hs → held_from o [] hs ≡ true
    held so =
        let t = so.first in let u = so.second in let x = so.begins.happening in
        let front = take so.begun hs in
        let same-first : first.task ≡ t = same-task lines.first first.task t first.call so.first_call in
        let same-second : second.task ≡ u = same-task lines.second second.task u second.call so.second_call in
        let own : doer x ≡ o.second.dom = so.begins.own ∙ ap (λ (z : RunTask). z.dom) (sym same-second) ∙ sym second.dom in
        let begun : calls_begun o.second.dom front ≡ o.second.before =
        ap (λ (k : DomId). calls_begun k front) (second.dom ∙ ap (λ (z : RunTask). z.dom) same-second) ∙ so.begins.earlier ∙ ap (calls_before c) (sym same-second) ∙ sym second.before in
        let more = counted-later answers_call t.dom hs so.answered so.begun so.answers.happening so.answers.there so.answers.own so.answers.answers so.earlier in
        let told : calls_answered t.dom (take so.answered hs) ≡ o.first.before = so.answers.earlier ∙ ap (calls_before c) (sym same-first) ∙ sym first.before in
        let there : calls_answered o.first.dom front ≡ calls_answered t.dom front = ap (λ (k : DomId). calls_answered k front) (first.dom ∙ ap (λ (z : RunTask). z.dom) same-first) in
        let many : o.first.before < calls_answered o.first.dom front = omega (arith, more, told, there) in
        subst (λ (l : List Happening). held_from o [] l ≡ true) (sym (cut-at hs so.begun x so.begins.there))
        (held-there o [] front x (drop (suc so.begun) hs)
        (both-hold _ _ (both-hold _ _ so.begins.begins (its-own x o.second.dom own)) (both-hold _ _ (eq-eqb _ _ begun) (lt-ltb _ _ many))))

  module _ (lists : List (List RunTask)) (are : lists ≡ map (λ (d : DomainConfig). list_of c.tasks d.id) c.head.domains) (hs : List Happening) where
    holds-one : (lines : Precedence) (o : Option CallOrder) → OrderIsFound lists lines o → (held_if hs o ≡ true) ↔ Precedes c lines hs
    holds-one lines (Some o) found =
        let first = (placed c lines.first lists are o.first found.0).1 in let second = (placed c lines.second lists are o.second found.1).1 in
        (precedes lines o first second hs, held lines o first second hs)
    holds-one lines None (inl none) = (λ e. absurd (false≢true e), λ so. absurd (not-placed c lines.first lists are orderly none so.first so.first_call))
    holds-one lines None (inr none) = (λ e. absurd (false≢true e), λ so. absurd (not-placed c lines.second lists are orderly none so.second so.second_call))

    pub holds-exactly : (all : List Precedence) (orders : List (Option CallOrder)) → Pairwise (OrderIsFound lists) all orders → HoldsExactly c hs all (map (held_if hs) orders)
    holds-exactly [] [] found = tt
    holds-exactly (lines ∷ all) (o ∷ orders) found = (holds-one lines o found.0, holds-exactly all orders found.1)
    holds-exactly [] (o ∷ orders) found = absurd found
    holds-exactly (lines ∷ all) [] found = absurd found
