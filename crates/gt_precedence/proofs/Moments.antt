-- A moment of an order, between the answer of the first call and the beginning of the second.
use Rattle.std.proofs.Common.{◌≡◌, ◌<◌, ◌≤◌, ◌+◌, ◌-◌, ℕ, zero, suc, Bool, true, List, [], ◌∷◌, ◌++◌, length, take}
use Rattle.std.proofs.Common.{Some, inl, inr, refl, ap, sym, ◌∙◌, subst, arith, append_assoc}
use Rattle.std.proofs.Math.Seq.{take-append_seam}
use Rattle.std.proofs.lemmas.Bool.{cases_order, eq-eqb}
use Rattle.std.proofs.lemmas.List.{length-append}
use Rattle.std.proofs.lemmas.Option.{none-some, same_Some}
use Rattle.std.specs.Prelude.{◌==◌, slice_get}
use Rattle.gt_precedence.specs.Prelude.{DomId, RunContents, RunTask, Precedence, Happening, doer, own_happenings}
use Rattle.gt_precedence.specs.Precedence.{IsCallOfLine, Precedes, calls_answered, calls_before, calls_begun}
use Rattle.gt_precedence.specs.Precedence.{answers_call, begins_call}
use Rattle.gt_precedence.proofs.Lists.{count, count-append, count-yes, nth, unfilter}
use Rattle.gt_precedence.proofs.Happenings.{own-append, own-here, same-dom}
use Rattle.gt_precedence.proofs.Orders.{at-length}

-- at some moment the first call has its answer, and the second is not begun
pub record Moment (c : RunContents) (lines : Precedence) (hs : List Happening) : Type 0 where
  pub first : RunTask
  pub second : RunTask
  pub first_call : IsCallOfLine c lines.first first
  pub second_call : IsCallOfLine c lines.second second
  pub before : List Happening
  pub after : List Happening
  pub moment : hs ≡ before ++ after
  pub answered : calls_before c first < calls_answered first.dom before
  pub unbegun : calls_begun second.dom before ≤ calls_before c second

-- places

-- an order cut at one of its places
record CutPlace (hs : List Happening) (place : ℕ) (x : Happening) : Type 0 where
  pub front : List Happening
  pub back : List Happening
  pub parts : hs ≡ front ++ x ∷ back
  pub taken : take place hs ≡ front
  pub long : length front ≡ place

cut-place : (hs : List Happening) (place : ℕ) (x : Happening) → slice_get hs place ≡ Some x → CutPlace hs place x
cut-place [] place x there = absurd (none-some _ there)
cut-place (y ∷ hs) zero x there = record { front = []; back = hs; parts = ap (λ (z : Happening). z ∷ hs) (same_Some y x there); taken = refl; long = refl }
cut-place (y ∷ hs) (suc place) x there = let rest = cut-place hs place x there in record {
  front = y ∷ rest.front;
  back = rest.back;
  parts = ap (λ (l : List Happening). y ∷ l) rest.parts;
  taken = ap (λ (l : List Happening). y ∷ l) rest.taken;
  long = ap suc rest.long;
}

longer : (us back front vs : List Happening) (x y : Happening) → us ++ x ∷ back ≡ front ++ y ∷ vs → length us < length front → (mid : List Happening) × (front ≡ us ++ x ∷ mid)
longer us back [] vs x y is lt = absurd (omega (arith, lt))
longer [] back (z ∷ front) vs x y is lt = let same : x ≡ z = cc in (front, ap (λ (w : Happening). w ∷ front) (sym same))
longer (u ∷ us) back (z ∷ front) vs x y is lt =
    let same : u ≡ z = cc in let tail : us ++ x ∷ back ≡ front ++ y ∷ vs = cc in
    let (mid, rest) = longer us back front vs x y tail (omega (arith, lt)) in
    (mid, ap (λ (w : Happening). w ∷ front) (sym same) ∙ ap (λ (l : List Happening). u ∷ l) rest)

its-doer : (x : Happening) (d : DomId) → doer x ≡ d → ((doer x).0 == d.0) ≡ true
its-doer x d is = eq-eqb (doer x).0 d.0 (ap (λ (k : DomId). k.0) is)

one-passes : (p : Happening → Bool) (d : DomId) (front mid : List Happening) (x : Happening) → doer x ≡ d → p x ≡ true → count p (own_happenings d front) < count p (own_happenings d (front ++ x ∷ mid))
one-passes p d front mid x own passes =
    let all = ap (count p) (own-append d front (x ∷ mid)) ∙ count-append p (own_happenings d front) (own_happenings d (x ∷ mid)) in
    let one = ap (count p) (own-here d x mid (its-doer x d own)) ∙ count-yes p x (own_happenings d mid) passes in
    omega (arith, all, one)

-- of two happenings of a domain that pass a test, fewer pass it before the first than before the second
fewer-before : (p : Happening → Bool) (d : DomId) (hs : List Happening) (i j : ℕ) (x y : Happening) → slice_get hs i ≡ Some x → slice_get hs j ≡ Some y → doer x ≡ d → p x ≡ true → i < j
    → count p (own_happenings d (take i hs)) < count p (own_happenings d (take j hs))
fewer-before p d hs i j x y there here own passes lt =
    let one = cut-place hs i x there in let two = cut-place hs j y here in
    let early = one.long in let late = two.long in
    let (mid, between) = longer one.front one.back two.front two.back x y (sym one.parts ∙ two.parts) (omega (arith, early, late, lt)) in
    let more = one-passes p d one.front mid x own passes in
    let before = ap (λ (l : List Happening). count p (own_happenings d l)) one.taken in
    let after = ap (λ (l : List Happening). count p (own_happenings d l)) (two.taken ∙ between) in
    omega (arith, more, before, after)

-- so no two of them have as many before them
pub counted-once : (p : Happening → Bool) (d : DomId) (hs : List Happening) (i j : ℕ) (x y : Happening) → slice_get hs i ≡ Some x → slice_get hs j ≡ Some y → doer x ≡ d → doer y ≡ d → p x ≡ true → p y ≡ true
    → count p (own_happenings d (take i hs)) ≡ count p (own_happenings d (take j hs)) → i ≡ j
counted-once p d hs i j x y there here own mine passes too same = elim (cases_order i j) [
  | inl is ↦ is
  | inr differ ↦ elim differ [
    | inl lt ↦ let less = fewer-before p d hs i j x y there here own passes lt in absurd (omega (arith, less, same))
    | inr gt ↦ let less = fewer-before p d hs j i y x here there mine too gt in absurd (omega (arith, less, same))
  ]
]

pub moment-of : (c : RunContents) (p : Precedence) (hs : List Happening) → Precedes c p hs → Moment c p hs
moment-of c p hs so =
    let x = so.answers.happening in let y = so.begins.happening in
    let one = cut-place hs so.answered x so.answers.there in
    let two = cut-place hs so.begun y so.begins.there in
    let early = one.long in let late = two.long in let earlier = so.earlier in
    let (mid, between) = longer one.front one.back two.front two.back x y (sym one.parts ∙ two.parts) (omega (arith, early, late, earlier)) in
    let before = ap (calls_answered so.first.dom) (sym one.taken) ∙ so.answers.earlier in
    let lt = one-passes answers_call so.first.dom one.front mid x so.answers.own so.answers.answers in
    let there = ap (calls_answered so.first.dom) between in
    let none = ap (calls_begun so.second.dom) (sym two.taken) ∙ so.begins.earlier in record {
      first = so.first;
      second = so.second;
      first_call = so.first_call;
      second_call = so.second_call;
      before = two.front;
      after = y ∷ two.back;
      moment = two.parts;
      answered = omega (arith, before, lt, there);
      unbegun = omega (arith, none);
    }

-- where the first call gets its answer before a moment
pub record Answered (c : RunContents) (t : RunTask) (before : List Happening) : Type 0 where
  pub front : List Happening
  pub last : Happening
  pub back : List Happening
  pub parts : before ≡ front ++ last ∷ back
  pub own : ((doer last).0 == t.dom.0) ≡ true
  pub answers : answers_call last ≡ true
  pub many : calls_answered t.dom front ≡ calls_before c t

pub answered-at : (c : RunContents) (t : RunTask) (before : List Happening) → calls_before c t < calls_answered t.dom before → Answered c t before
answered-at c t before lt =
    let there = nth answers_call (own_happenings t.dom before) (calls_before c t) lt in
    let whole = unfilter (λ (x : Happening). (doer x).0 == t.dom.0) before there.front there.here there.back there.parts in
    record { front = whole.left; last = there.here; back = whole.right; parts = whole.parts; own = whole.passes; answers = there.passes; many = ap (count answers_call) whole.fronts ∙ there.many }

-- where the second call begins after a moment
pub record Begun (c : RunContents) (u : RunTask) (before after : List Happening) : Type 0 where
  pub front : List Happening
  pub first : Happening
  pub back : List Happening
  pub parts : after ≡ front ++ first ∷ back
  pub own : ((doer first).0 == u.dom.0) ≡ true
  pub begins : begins_call first ≡ true
  pub many : calls_begun u.dom (before ++ front) ≡ calls_before c u

pub begun-at : (c : RunContents) (u : RunTask) (before after : List Happening) → calls_begun u.dom before ≤ calls_before c u → calls_before c u < calls_begun u.dom (before ++ after) → Begun c u before after
begun-at c u before after le lt =
    let parts : (l : List Happening) → calls_begun u.dom (before ++ l) ≡ calls_begun u.dom before + calls_begun u.dom l =
    λ l. ap (count begins_call) (own-append u.dom before l) ∙ count-append begins_call (own_happenings u.dom before) (own_happenings u.dom l) in
    let all = parts after in
    let there = nth begins_call (own_happenings u.dom after) (calls_before c u - calls_begun u.dom before) (omega (arith, le, lt, all)) in
    let whole = unfilter (λ (x : Happening). (doer x).0 == u.dom.0) after there.front there.here there.back there.parts in
    let start : calls_begun u.dom whole.left ≡ calls_before c u - calls_begun u.dom before = ap (count begins_call) whole.fronts ∙ there.many in
    let sum = parts whole.left in
    record { front = whole.left; first = there.here; back = whole.right; parts = whole.parts; own = whole.passes; begins = there.passes; many = omega (arith, le, start, sum) }

pub precedes-by : (c : RunContents) (p : Precedence) (hs : List Happening) → (m : Moment c p hs) → calls_before c m.second < calls_begun m.second.dom hs → Precedes c p hs
precedes-by c p hs m lt =
    let told = answered-at c m.first m.before m.answered in
    let begun = begun-at c m.second m.before m.after m.unbegun (subst (λ (l : List Happening). calls_before c m.second < calls_begun m.second.dom l) m.moment lt) in
    let early : hs ≡ told.front ++ told.last ∷ (told.back ++ m.after) =
    m.moment ∙ ap (λ (l : List Happening). l ++ m.after) told.parts ∙ append_assoc told.front (told.last ∷ told.back) m.after in
    let late : hs ≡ (m.before ++ begun.front) ++ begun.first ∷ begun.back = m.moment ∙ ap (λ (l : List Happening). m.before ++ l) begun.parts ∙ sym (append_assoc m.before begun.front (begun.first ∷ begun.back)) in
    let long = ap length told.parts ∙ length-append told.front (told.last ∷ told.back) in
    let whole = length-append m.before begun.front in record {
      first = m.first;
      second = m.second;
      first_call = m.first_call;
      second_call = m.second_call;
      answered = length told.front;
      begun = length (m.before ++ begun.front);
      answers = record {
        happening = told.last;
        there = ap (λ (l : List Happening). slice_get l (length told.front)) early ∙ at-length told.front (told.back ++ m.after) told.last;
        own = same-dom (doer told.last) m.first.dom told.own;
        answers = told.answers;
        earlier = ap (λ (l : List Happening). calls_answered m.first.dom (take (length told.front) l)) early ∙ ap (calls_answered m.first.dom) (take-append_seam told.front (told.last ∷ (told.back ++ m.after))) ∙ told.many;
      };
      begins = record {
        happening = begun.first;
        there = ap (λ (l : List Happening). slice_get l (length (m.before ++ begun.front))) late ∙ at-length (m.before ++ begun.front) begun.back begun.first;
        own = same-dom (doer begun.first) m.second.dom begun.own;
        begins = begun.begins;
        earlier = ap (λ (l : List Happening). calls_begun m.second.dom (take (length (m.before ++ begun.front)) l)) late ∙ ap (calls_begun m.second.dom) (take-append_seam (m.before ++ begun.front) (begun.first ∷ begun.back)) ∙ begun.many;
      };
      earlier = omega (arith, long, whole);
    }
