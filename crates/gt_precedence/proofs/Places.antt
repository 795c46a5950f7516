-- The places of a call in an order.
use Rattle.std.proofs.Common.{◌≡◌, ◌≤◌, ℕ, true, List, [], ◌∷◌, ◌++◌, length, take}
use Rattle.std.proofs.Common.{ap, sym, ◌∙◌, subst, arith, append_assoc}
use Rattle.std.proofs.Math.Seq.{take-append_seam}
use Rattle.std.proofs.lemmas.List.{length-append}
use Rattle.std.specs.Prelude.{◌==◌, slice_get}
use Rattle.gt_precedence.specs.Prelude.{DomId, Happening, IsOrderOf, RunContents, RunTask, answer_line, doer, list_of}
use Rattle.gt_precedence.specs.Prelude.{own_happenings, type_names, FollowsList}
use Rattle.gt_precedence.specs.Precedence.{CallBeginsAt, CallIsAnsweredAt, CallHasPlaces, IsCallOfLine, IsOrderly, answers_call}
use Rattle.gt_precedence.specs.Precedence.{calls_of, begins_call, calls_answered, calls_before, calls_begun}
use Rattle.gt_precedence.proofs.Lists.{count, count-append, unfilter}
use Rattle.gt_precedence.proofs.Happenings.{its-own, own-append, own-here, same-dom}
use Rattle.gt_precedence.proofs.Following.{called, cut}
use Rattle.gt_precedence.proofs.Orders.{at-length, one-follows}
use Rattle.gt_precedence.proofs.Moments.{counted-once}
use Rattle.gt_precedence.proofs.Complete.{before-call, its-domain, list-at, only}

-- the place of the answer, at the beginning or behind it
record AnswerPlace (d : DomId) (hs left : List Happening) (last : Happening) (many : ℕ) : Type 0 where
  pub front : List Happening
  pub back : List Happening
  pub parts : hs ≡ front ++ last ∷ back
  pub own : ((doer last).0 == d.0) ≡ true
  pub counts : calls_answered d front ≡ many
  pub long : length left ≤ length front

answer-place : (d : DomId) (hs left right : List Happening) (begun last : Happening) (front more : List Happening) (many : ℕ) → hs ≡ left ++ begun ∷ right → ((doer begun).0 == d.0) ≡ true → begun ∷ own_happenings d right ≡ front ++ last ∷ more
    → count answers_call front ≡ 0 → calls_answered d left ≡ many → AnswerPlace d hs left last many
answer-place d hs left right begun last [] more many parts own same quiet counts =
    let is : begun ≡ last = cc in record {
      front = left;
      back = right;
      parts = parts ∙ ap (λ (x : Happening). left ++ x ∷ right) is;
      own = ap (λ (x : Happening). (doer x).0 == d.0) (sym is) ∙ own;
      counts = counts;
      long = omega arith;
    }
answer-place d hs left right begun last (z ∷ front) more many parts own same quiet counts =
    let is : begun ≡ z = cc in let rest : own_happenings d right ≡ front ++ last ∷ more = cc in
    let there = unfilter (λ (x : Happening). (doer x).0 == d.0) right front last more rest in
    let before = count-append answers_call (own_happenings d left) (own_happenings d (begun ∷ there.left)) in
    let parted = ap (count answers_call) (own-append d left (begun ∷ there.left)) in
    let none = ap (count answers_call) (own-here d begun there.left own ∙ ap (λ (l : List Happening). begun ∷ l) there.fronts ∙ ap (λ (x : Happening). x ∷ front) is) in
    let long = length-append left (begun ∷ there.left) in record {
      front = left ++ begun ∷ there.left;
      back = there.right;
      parts = parts ∙ ap (λ (l : List Happening). left ++ begun ∷ l) there.parts ∙ sym (append_assoc left (begun ∷ there.left) (last ∷ there.right));
      own = there.passes;
      counts = omega (arith, parted, before, none, quiet, counts);
      long = omega (arith, long);
    }

pub has-places : (c : RunContents) (hs : List Happening) (text : List ℕ) (line : ℕ) (t : RunTask) → IsOrderly c → IsOrderOf c hs text → IsCallOfLine c line t → CallHasPlaces c hs text t
has-places c hs text line t orderly order call =
    let k = t.dom in
    let searched = only c orderly line t call in
    let told = one-follows c hs k c.head.domains text (its-domain c orderly line t call) order.follow in
    let parted = cut (type_names c.head) k (list_of searched.front k) (t ∷ list_of searched.back k) [] [] (own_happenings k hs) told.part
    (subst (λ l. FollowsList (type_names c.head) k [] [] l (own_happenings k hs) told.part) (ap (λ l. list_of l k) searched.parts ∙ list-at searched.front searched.back t k (its-own k)) told.follows) in
    let taken = called (type_names c.head) k t (list_of searched.back k) parted.names parted.holds parted.left parted.rest call.calls parted.follows in
    let there = unfilter (λ (x : Happening). (doer x).0 == k.0) hs parted.own taken.begun taken.later (parted.parts ∙ ap (λ (l : List Happening). parted.own ++ l) taken.starts) in
    let many : calls_before c t ≡ length (calls_of (list_of searched.front k)) = before-call c orderly line t call searched in
    let end = answer-place k hs there.left there.right taken.begun taken.last taken.front taken.more (calls_before c t) there.parts there.passes
    (ap (λ (l : List Happening). taken.begun ∷ l) there.backs ∙ sym taken.starts ∙ taken.parts) taken.quiet (ap (count answers_call) there.fronts ∙ parted.answered ∙ sym many) in record {
      begun = length there.left;
      answered = length end.front;
      begins = record {
        happening = taken.begun;
        there = ap (λ (l : List Happening). slice_get l (length there.left)) there.parts ∙ at-length there.left there.right taken.begun;
        own = same-dom (doer taken.begun) k there.passes;
        begins = taken.begins;
        earlier = ap (λ (l : List Happening). calls_begun k (take (length there.left) l)) there.parts ∙ ap (calls_begun k) (take-append_seam there.left (taken.begun ∷ there.right)) ∙ ap (count begins_call) there.fronts ∙ parted.begun ∙ sym many;
      };
      answers = record {
        happening = taken.last;
        there = ap (λ (l : List Happening). slice_get l (length end.front)) end.parts ∙ at-length end.front end.back taken.last;
        own = same-dom (doer taken.last) k end.own;
        answers = taken.answers;
        earlier = ap (λ (l : List Happening). calls_answered k (take (length end.front) l)) end.parts ∙ ap (calls_answered k) (take-append_seam end.front (taken.last ∷ end.back)) ∙ end.counts;
      };
      in_order = end.long;
      asks = (parted.names, taken.shown.call, taken.shown.request, taken.shown.first, taken.shown.does, taken.shown.asks, taken.shown.starts);
      shown = (
        taken.shown.event,
        taken.shown.element,
        taken.shown.answer,
        told.before ++ parted.told,
        taken.shown.more ++ told.after,
        taken.shown.ends,
        taken.shown.answers,
        told.printed ∙ ap (λ (l : List ℕ). told.before ++ (l ++ told.after)) (parted.printed ∙ ap (λ (l : List ℕ). parted.told ++ l) taken.shown.printed)
            ∙ ap (λ (l : List ℕ). told.before ++ l) (append_assoc parted.told (answer_line (type_names c.head) t.line k taken.shown.answer ++ taken.shown.more) told.after
            ∙ ap (λ (l : List ℕ). parted.told ++ l) (append_assoc (answer_line (type_names c.head) t.line k taken.shown.answer) taken.shown.more told.after))
            ∙ sym (append_assoc told.before parted.told (answer_line (type_names c.head) t.line k taken.shown.answer ++ (taken.shown.more ++ told.after))),
      );
    }

pub unique : (c : RunContents) (hs : List Happening) (t : RunTask) (one other : ℕ) → (CallBeginsAt c hs one t → CallBeginsAt c hs other t → one ≡ other) × (CallIsAnsweredAt c hs one t → CallIsAnsweredAt c hs other t → one ≡ other)
unique c hs t one other = (
  λ a b. counted-once begins_call t.dom hs one other a.happening b.happening a.there b.there a.own b.own a.begins b.begins (a.earlier ∙ sym b.earlier),
  λ a b. counted-once answers_call t.dom hs one other a.happening b.happening a.there b.there a.own b.own a.answers b.answers (a.earlier ∙ sym b.earlier),
)
