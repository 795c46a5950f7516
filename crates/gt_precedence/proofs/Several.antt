-- One precedence after the other.
use Rattle.std.proofs.Common.{◌≡◌, ◌≢◌, ◌+◌, ℕ, zero, suc, Bool, true, false, cond, not, List, [], ◌∷◌, ◌++◌}
use Rattle.std.proofs.Common.{Some, None, refl, ap, sym, ◌∙◌, subst, arith}
use Rattle.std.proofs.lemmas.List.Elements.{All-from_recursion, filter-append, recursion_from_All}
use Rattle.std.proofs.lemmas.Option.{none-some, same_Some}
use Rattle.std.specs.List.{AllByRecursion}
use Rattle.std.specs.Prelude.{◌==◌, All, AllPairs, slice_get}
use Rattle.gt_precedence.specs.Prelude.{DomId, RunAction, RunContents, RunTask, Do, Tell, Await, is_call, list_of, domain_of}
use Rattle.gt_precedence.specs.Prelude.{around, IsBelow, MayGive, Precedence, preceding, preceding_all, with_precedence}
use Rattle.gt_precedence.specs.Prelude.{Happening, IsOrderOf}
use Rattle.gt_precedence.specs.Precedence.{calls_before, calls_of, calls_up_to, LineHasCall, IsCallOfLine}
use Rattle.gt_precedence.specs.Precedence.{answers_call, begins_call}
use Rattle.gt_precedence.specs.Precedence.{IsOrderly, MayGiveWithAll, Precedes}
use Rattle.gt_precedence.proofs.Happenings.{answers-nothing, begins-nothing, erased, is_of_flag, own-count-erased}
use Rattle.gt_precedence.proofs.Tasks.{around-keeps, calls-kept, one_if, own-calls-kept}
use Rattle.gt_precedence.proofs.Sound.{moment, order-without}
use Rattle.gt_precedence.proofs.Complete.{SameMoments, begins, complete}
use Rattle.gt_precedence.proofs.Moments.{Moment, moment-of, precedes-by}

-- calls

in-calls : (ts : List RunTask) (place : ℕ) (t : RunTask) → slice_get ts place ≡ Some t → is_call t.run_action ≡ true → (i : ℕ) × (slice_get (calls_of ts) i ≡ Some t)
in-calls [] place t there calls = absurd (none-some _ there)
in-calls (w ∷ ts) zero t there calls = let same : w ≡ t = same_Some w t there in
    let is : is_call w.run_action ≡ true = ap (λ (z : RunTask). is_call z.run_action) same ∙ calls in (0, rw is there)
in-calls (w ∷ ts) (suc place) t there calls = by (is_call w.run_action) (in-calls ts place t there calls) where
  by : (b : Bool) → (i : ℕ) × (slice_get (calls_of ts) i ≡ Some t) → (i : ℕ) × (slice_get (cond b (w ∷ calls_of ts) (calls_of ts)) i ≡ Some t)
  by true (i, is) = (suc i, is)
  by false (i, is) = (i, is)

from-calls : (ts : List RunTask) (i : ℕ) (t : RunTask) → slice_get (calls_of ts) i ≡ Some t → (place : ℕ) × (slice_get ts place ≡ Some t)
from-calls [] i t there = absurd (none-some _ there)
from-calls (w ∷ ts) i t there = by (is_call w.run_action) i there (λ k. from-calls ts k t) where
  by : (b : Bool) (i : ℕ) → slice_get (cond b (w ∷ calls_of ts) (calls_of ts)) i ≡ Some t → ((k : ℕ) → slice_get (calls_of ts) k ≡ Some t → (place : ℕ) × (slice_get ts place ≡ Some t)) → (place : ℕ) × (slice_get (w ∷ ts) place ≡ Some t)
  by true zero there rest = (zero, there)
  by true (suc i) there rest = let (place, is) = rest i there in (suc place, is)
  by false i there rest = let (place, is) = rest i there in (suc place, is)

up-to-calls : (line : ℕ) (ts : List RunTask) → calls_up_to line ts ≡ calls_up_to line (calls_of ts)
up-to-calls line [] = refl
up-to-calls line (t ∷ ts) = by (is_call t.run_action) refl (up-to-calls line ts) where
  by : (b : Bool) → is_call t.run_action ≡ b → calls_up_to line ts ≡ calls_up_to line (calls_of ts) → cond b (cond (t.line == line) 0 (suc (calls_up_to line ts))) (calls_up_to line ts) ≡ calls_up_to line (cond b (t ∷ calls_of ts) (calls_of ts))
  by true e rest = rw e (ap (λ (n : ℕ). cond (t.line == line) 0 (suc n)) rest)
  by false e rest = rest

module _ (c : RunContents) (p : Precedence) where
  calls-same : calls_of (with_precedence c.flags p c.tasks) ≡ calls_of c.tasks
  calls-same = calls-kept (around c.flags p) c.tasks (around-keeps c.flags p)

  pub call-kept : (line : ℕ) (t : RunTask) → IsCallOfLine c line t → IsCallOfLine (preceding p c) line t
  call-kept line t call =
      let (i, one) = in-calls c.tasks call.place t call.there call.calls in
      let (place, there) = from-calls (with_precedence c.flags p c.tasks) i t (ap (λ (l : List RunTask). slice_get l i) calls-same ∙ one) in
      record { place = place; there = there; number = call.number; calls = call.calls }

  pub call-back : (line : ℕ) (t : RunTask) → IsCallOfLine (preceding p c) line t → IsCallOfLine c line t
  call-back line t call =
      let (i, one) = in-calls (with_precedence c.flags p c.tasks) call.place t call.there call.calls in
      let (place, there) = from-calls c.tasks i t (ap (λ (l : List RunTask). slice_get l i) (sym calls-same) ∙ one) in
      record { place = place; there = there; number = call.number; calls = call.calls }

  pub before-kept : (t : RunTask) → calls_before (preceding p c) t ≡ calls_before c t
  before-kept t =
      up-to-calls t.line (list_of (with_precedence c.flags p c.tasks) t.dom) ∙ ap (calls_up_to t.line) (own-calls-kept (around c.flags p) c.tasks t.dom (around-keeps c.flags p)) ∙ sym (up-to-calls t.line (list_of c.tasks t.dom))

  -- another precedence, with the flag and without it

  pub moment-back : (q : Precedence) (ks : List Happening) → Moment (preceding p c) q ks → Moment c q (erased c.flags ks)
  moment-back q ks so =
      let old-first = before-kept so.first in let old-second = before-kept so.second in
      let answers = own-count-erased answers_call c.flags so.first.dom so.before answers-nothing in
      let begins = own-count-erased begins_call c.flags so.second.dom so.before begins-nothing in
      let there = so.answered in let rests = so.unbegun in record {
        first = so.first;
        second = so.second;
        first_call = call-back q.first so.first so.first_call;
        second_call = call-back q.second so.second so.second_call;
        before = erased c.flags so.before;
        after = erased c.flags so.after;
        moment = ap (erased c.flags) so.moment ∙ filter-append (λ (x : Happening). not (is_of_flag c.flags x)) so.before so.after;
        answered = omega (arith, old-first, answers, there);
        unbegun = omega (arith, old-second, begins, rests);
      }

  pub moment-on : (q : Precedence) (hs ks : List Happening) → SameMoments hs ks → Moment c q hs → Moment (preceding p c) q ks
  moment-on q hs ks moments so =
      let (front, back, parts, same) = moments so.before so.after so.moment in
      let old-first = before-kept so.first in let old-second = before-kept so.second in
      let answers = (same so.first.dom).1 in let begins = (same so.second.dom).0 in
      let there = so.answered in let rests = so.unbegun in record {
        first = so.first;
        second = so.second;
        first_call = call-kept q.first so.first so.first_call;
        second_call = call-kept q.second so.second so.second_call;
        before = front;
        after = back;
        moment = parts;
        answered = omega (arith, old-first, answers, there);
        unbegun = omega (arith, old-second, begins, rests);
      }

-- scripts

all-append : {X : Type 0} (P : X → Type 0) (xs ys : List X) → AllByRecursion P xs → AllByRecursion P ys → AllByRecursion P (xs ++ ys)
all-append P [] ys one other = other
all-append P (x ∷ xs) ys one other = (one.0, all-append P xs ys one.1 other)

all-around : (P : RunTask → Type 0) (F : ℕ) (p : Precedence) (n : ℕ) (k : DomId) (a : RunAction) → P (record { line = n; dom = k; run_action = a }) → P (record { line = n; dom = k; run_action = Await F }) → P (record { line = n; dom = k; run_action = Tell F })
    → AllByRecursion P (around F p (record { line = n; dom = k; run_action = a }))
all-around P F p n k (Tell flag) it wait tell = (it, tt)
all-around P F p n k (Await flag) it wait tell = (it, tt)
all-around P F p n k (Do call) it wait tell = by (n == p.second) (n == p.first) where
  by : (s f : Bool) → AllByRecursion P (one_if s (record { line = n; dom = k; run_action = Await F }) ++ record { line = n; dom = k; run_action = Do call } ∷ one_if f (record { line = n; dom = k; run_action = Tell F }))
  by true true = (wait, (it, (tell, tt)))
  by true false = (wait, (it, tt))
  by false true = (it, (tell, tt))
  by false false = (it, tt)

below-more : (F : ℕ) (a : RunAction) → IsBelow F a → IsBelow (F + 1) a
below-more F (Do call) below = tt
below-more F (Tell flag) below = omega (arith, below)
below-more F (Await flag) below = omega (arith, below)

numbered-kept : (F : ℕ) (p : Precedence) (ts : List RunTask) → AllByRecursion (λ t. IsBelow F t.run_action) ts → AllByRecursion (λ t. IsBelow (F + 1) t.run_action) (with_precedence F p ts)
numbered-kept F p [] all = tt
numbered-kept F p (t ∷ ts) all = all-append (λ u. IsBelow (F + 1) u.run_action) (around F p t) (with_precedence F p ts)
    (all-around (λ u. IsBelow (F + 1) u.run_action) F p t.line t.dom t.run_action (below-more F t.run_action all.0) (omega arith) (omega arith)) (numbered-kept F p ts all.1)

known-kept : (P : DomId → Type 0) (F : ℕ) (p : Precedence) (ts : List RunTask) → AllByRecursion (λ t. P t.dom) ts → AllByRecursion (λ t. P t.dom) (with_precedence F p ts)
known-kept P F p [] all = tt
known-kept P F p (t ∷ ts) all = all-append (λ u. P u.dom) (around F p t) (with_precedence F p ts) (all-around (λ u. P u.dom) F p t.line t.dom t.run_action all.0 all.0 all.0) (known-kept P F p ts all.1)

pub orderly-kept : (c : RunContents) (p : Precedence) → IsOrderly c → IsOrderly (preceding p c)
orderly-kept c p orderly = record {
  lines = subst (AllPairs (λ t u. t.line ≢ u.line)) (sym (calls-same c p)) orderly.lines;
  numbered = All-from_recursion (λ t. IsBelow (c.flags + 1) t.run_action) (with_precedence c.flags p c.tasks) (numbered-kept c.flags p c.tasks (recursion_from_All (λ t. IsBelow c.flags t.run_action) c.tasks orderly.numbered));
  known = All-from_recursion (λ t. domain_of c.head.domains t.dom ≢ None) (with_precedence c.flags p c.tasks)
      (known-kept (λ d. domain_of c.head.domains d ≢ None) c.flags p c.tasks (recursion_from_All (λ t. domain_of c.head.domains t.dom ≢ None) c.tasks orderly.known));
}

-- the laws

precedes-in : (c : RunContents) (p : Precedence) → IsOrderly c → (hs : List Happening) (text : List ℕ) → IsOrderOf c hs text → Moment c p hs → Precedes c p hs
precedes-in c p orderly hs text order m = precedes-by c p hs m (begins c p orderly hs text m.second m.second_call order)

pub sound : (c : RunContents) (p : Precedence) (text : List ℕ) → IsOrderly c → LineHasCall c p.second → MayGive (preceding p c) text → (hs : List Happening) × IsOrderOf c hs text × Precedes c p hs
sound c p text orderly (u, call) (ks, order) =
    let order-there = order-without c p orderly ks text order in
    (erased c.flags ks, order-there, precedes-in c p orderly (erased c.flags ks) text order-there (moment c p orderly ks text u call order))

pub complete-one : (c : RunContents) (p : Precedence) (text : List ℕ) (hs : List Happening) → IsOrderly c → IsOrderOf c hs text → Precedes c p hs → MayGive (preceding p c) text
complete-one c p text hs orderly order so = let whole = complete c p orderly hs text order (moment-of c p hs so) in (whole.flagged, whole.order)

calls-kept-all : (c : RunContents) (p : Precedence) (all : List Precedence) → AllByRecursion (λ q. LineHasCall c q.second) all → AllByRecursion (λ q. LineHasCall (preceding p c) q.second) all
calls-kept-all c p [] calls = tt
calls-kept-all c p (q ∷ all) ((t, call), calls) = ((t, call-kept c p q.second t call), calls-kept-all c p all calls)

back-all : (c : RunContents) (p : Precedence) (ks : List Happening) (all : List Precedence) → AllByRecursion (λ q. Moment (preceding p c) q ks) all → AllByRecursion (λ q. Moment c q (erased c.flags ks)) all
back-all c p ks [] so = tt
back-all c p ks (q ∷ all) so = (moment-back c p q ks so.0, back-all c p ks all so.1)

on-all : (c : RunContents) (p : Precedence) (hs ks : List Happening) (all : List Precedence) → SameMoments hs ks → AllByRecursion (λ q. Moment c q hs) all → AllByRecursion (λ q. Moment (preceding p c) q ks) all
on-all c p hs ks [] moments so = tt
on-all c p hs ks (q ∷ all) moments so = (moment-on c p q hs ks moments so.0, on-all c p hs ks all moments so.1)

sound-all-by : (c : RunContents) (all : List Precedence) (text : List ℕ) → IsOrderly c → AllByRecursion (λ q. LineHasCall c q.second) all → MayGive (preceding_all all c) text → (hs : List Happening) × IsOrderOf c hs text × AllByRecursion (λ q. Moment c q hs) all
sound-all-by c [] text orderly calls (hs, order) = (hs, order, tt)
sound-all-by c (p ∷ all) text orderly ((u, call), calls) may =
    let (ks, order, so) = sound-all-by (preceding p c) all text (orderly-kept c p orderly) (calls-kept-all c p all calls) may in
    (erased c.flags ks, order-without c p orderly ks text order, (moment c p orderly ks text u call order, back-all c p ks all so))

complete-all-by : (c : RunContents) (all : List Precedence) (text : List ℕ) (hs : List Happening) → IsOrderly c → IsOrderOf c hs text → AllByRecursion (λ q. Moment c q hs) all → MayGive (preceding_all all c) text
complete-all-by c [] text hs orderly order so = (hs, order)
complete-all-by c (p ∷ all) text hs orderly order so =
    let whole = complete c p orderly hs text order so.0 in
    complete-all-by (preceding p c) all text whole.flagged (orderly-kept c p orderly) whole.order (on-all c p hs whole.flagged all whole.moments so.1)

-- moments and precedences

precedes-all : (c : RunContents) (hs : List Happening) (text : List ℕ) (all : List Precedence) → IsOrderly c → IsOrderOf c hs text → AllByRecursion (λ q. Moment c q hs) all → AllByRecursion (λ q. Precedes c q hs) all
precedes-all c hs text [] orderly order so = tt
precedes-all c hs text (q ∷ all) orderly order so = (precedes-in c q orderly hs text order so.0, precedes-all c hs text all orderly order so.1)

moment-all : (c : RunContents) (hs : List Happening) (all : List Precedence) → AllByRecursion (λ q. Precedes c q hs) all → AllByRecursion (λ q. Moment c q hs) all
moment-all c hs [] so = tt
moment-all c hs (q ∷ all) so = (moment-of c q hs so.0, moment-all c hs all so.1)

pub sound-all : (c : RunContents) (all : List Precedence) (text : List ℕ) → IsOrderly c → All (λ lines. LineHasCall c lines.second) all → MayGive (preceding_all all c) text → MayGiveWithAll c all text
sound-all c all text orderly calls may =
    let (hs, order, so) = sound-all-by c all text orderly (recursion_from_All (λ lines. LineHasCall c lines.second) all calls) may in
    (hs, order, All-from_recursion (λ lines. Precedes c lines hs) all (precedes-all c hs text all orderly order so))

pub complete-all : (c : RunContents) (all : List Precedence) (text : List ℕ) → IsOrderly c → MayGiveWithAll c all text → MayGive (preceding_all all c) text
complete-all c all text orderly (hs, order, so) = complete-all-by c all text hs orderly order (moment-all c hs all (recursion_from_All (λ lines. Precedes c lines hs) all so))
