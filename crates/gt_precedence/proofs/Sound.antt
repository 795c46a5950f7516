-- An order of the script with one more flag is, without it, an order of the script in which the one call precedes the
-- other.
use Rattle.std.proofs.Common.{◌≡◌, ◌≢◌, ◌<◌, ◌+◌, ℕ, Bool, cond, not, List, [], ◌∷◌, ◌++◌, length}
use Rattle.std.proofs.Common.{None, ap, sym, ◌∙◌, subst, arith, append_assoc}
use Rattle.std.proofs.lemmas.List.Concat.{flat_map-append}
use Rattle.std.proofs.lemmas.List.Elements.{All-filter, filter-append, recursion_from_All}
use Rattle.std.specs.List.{AllByRecursion}
use Rattle.std.specs.Prelude.{◌==◌, slice_get}
use Rattle.gt_precedence.specs.Prelude.{DomId, Element, Event, Legal, RunContents, RunTask, Tell, beside_call, list_of, domain_of}
use Rattle.gt_precedence.specs.Prelude.{type_names, setting_of_script, IsBelow, Precedence, around, with_precedence, preceding}
use Rattle.gt_precedence.specs.Prelude.{Happening, raised, passed, doer, own_happenings, events_in, trace_in, FollowsList, IsOrderOf}
use Rattle.gt_precedence.specs.Precedence.{answers_call, begins_call, calls_answered, calls_begun, calls_before, calls_of}
use Rattle.gt_precedence.specs.Precedence.{calls_up_to, IsCallOfLine, IsOrderly}
use Rattle.gt_precedence.proofs.Lists.{count, count-append, unfilter}
use Rattle.gt_precedence.proofs.Happenings.{is_of_flag, erased, filters-swap, own-erased, events-erased, trace-erased}
use Rattle.gt_precedence.proofs.Happenings.{flags-erased, own-append, own-here, its-own, begins-nothing, answers-nothing}
use Rattle.gt_precedence.proofs.Happenings.{own-count-erased}
use Rattle.gt_precedence.proofs.Following.{cut, erases, names_flag, raises, without_flag}
use Rattle.gt_precedence.proofs.Tasks.{CallBehind, apart, around-keeps, around-second, await_before, behind, only-call}
use Rattle.gt_precedence.proofs.Tasks.{own-calls-kept, unflagged, up-to}
use Rattle.gt_precedence.proofs.Moments.{Moment}
use Rattle.gt_precedence.proofs.Orders.{Follows, all-at, all-follow, at-length, one-follows, split-there}

module _ (c : RunContents) (p : Precedence) (orderly : IsOrderly c) where
  below : AllByRecursion (λ t. IsBelow c.flags t.run_action) c.tasks
  below = recursion_from_All (λ t. IsBelow c.flags t.run_action) c.tasks orderly.numbered

  -- each domain follows its list without the new tasks
  follows-without : (ks : List Happening) (d : DomId) (part : List ℕ) → Follows (preceding p c) ks d part → Follows c (erased c.flags ks) d part
  follows-without ks d part follows =
      let list : without_flag c.flags (list_of (with_precedence c.flags p c.tasks) d) ≡ list_of c.tasks d =
      filters-swap (λ (t : RunTask). not (names_flag c.flags t.run_action)) (λ (t : RunTask). t.dom.0 == d.0) (with_precedence c.flags p c.tasks) ∙ ap (λ (l : List RunTask). list_of l d) (unflagged c.flags p c.tasks below) in
      subst (λ (l : List RunTask). FollowsList (type_names c.head) d [] [] l (own_happenings d (erased c.flags ks)) part) list
      (subst (λ (l : List Happening). FollowsList (type_names c.head) d [] [] (without_flag c.flags (list_of (with_precedence c.flags p c.tasks) d)) l part) (sym (own-erased c.flags d ks))
      (erases (type_names c.head) d c.flags (list_of (with_precedence c.flags p c.tasks) d) [] [] (own_happenings d ks) part follows))

  pub order-without : (ks : List Happening) (text : List ℕ) → IsOrderOf (preceding p c) ks text → IsOrderOf c (erased c.flags ks) text
  order-without ks text order = record {
    legal = subst (λ (es : List Event). Legal (setting_of_script c.head) es (trace_in (erased c.flags ks))) (sym (events-erased c.flags ks))
        (subst (λ (xs : List Element). Legal (setting_of_script c.head) (events_in ks) xs) (sym (trace-erased c.flags ks)) order.legal);
    follow = all-follow (preceding p c) c ks (erased c.flags ks) (follows-without ks) c.head.domains text order.follow;
    known = All-filter (λ (x : Happening). not (is_of_flag c.flags x)) (λ (x : Happening). domain_of c.head.domains (doer x) ≢ None) ks order.known;
    flags = flags-erased c.flags ks order.flags;
  }

  -- where the flag is passed, the second call is not begun
  record Waits (ks : List Happening) (u : RunTask) : Type 0 where
    pub front : List Happening
    pub back : List Happening
    pub parts : ks ≡ front ++ passed u.dom c.flags ∷ back
    pub begun : calls_begun u.dom front ≡ calls_before c u

  waits : (ks : List Happening) (text : List ℕ) (u : RunTask) → IsCallOfLine c p.second u → IsOrderOf (preceding p c) ks text → Waits ks u
  waits ks text u call order =
      let d = u.dom in
      let only = only-call c.tasks call.place p.second u (apart (calls_of c.tasks) orderly.lines) call.there call.number call.calls in
      let known = all-at (λ (t : RunTask). domain_of c.head.domains t.dom ≢ None) c.tasks call.place u (recursion_from_All (λ (t : RunTask). domain_of c.head.domains t.dom ≢ None) c.tasks orderly.known) call.there in
      let told = one-follows (preceding p c) ks d c.head.domains text known order.follow in
      let more : List RunTask = beside_call p.first (Tell c.flags) u ++ with_precedence c.flags p only.back in
      let whole : with_precedence c.flags p c.tasks ≡ with_precedence c.flags p only.front ++ await_before c.flags u ∷ (u ∷ more) =
      ap (with_precedence c.flags p) only.parts ∙ flat_map-append (around c.flags p) only.front (u ∷ only.back)
      ∙ ap (λ (l : List RunTask). with_precedence c.flags p only.front ++ (l ++ with_precedence c.flags p only.back)) (around-second c.flags p u call.calls call.number) in
      let list : list_of (with_precedence c.flags p c.tasks) d ≡ list_of (with_precedence c.flags p only.front) d ++ await_before c.flags u ∷ list_of (u ∷ more) d =
      ap (λ (l : List RunTask). list_of l d) whole ∙ filter-append (λ (t : RunTask). t.dom.0 == d.0) (with_precedence c.flags p only.front) (await_before c.flags u ∷ (u ∷ more))
      ∙ ap (λ (b : Bool). list_of (with_precedence c.flags p only.front) d ++ cond b (await_before c.flags u ∷ list_of (u ∷ more) d) (list_of (u ∷ more) d)) (its-own d) in
      let parted = cut (type_names c.head) d (list_of (with_precedence c.flags p only.front) d) (await_before c.flags u ∷ list_of (u ∷ more) d) [] [] (own_happenings d ks) told.part
      (subst (λ (l : List RunTask). FollowsList (type_names c.head) d [] [] l (own_happenings d ks) told.part) list told.follows) in
      let (after, is, goes) = parted.follows in
      let there = unfilter (λ (x : Happening). (doer x).0 == d.0) ks parted.own (passed d c.flags) after (parted.parts ∙ ap (λ (l : List Happening). parted.own ++ l) is) in record {
        front = there.left;
        back = there.right;
        parts = there.parts;
        begun = ap (count begins_call) there.fronts ∙ parted.begun ∙ ap length (own-calls-kept (around c.flags p) only.front d (around-keeps c.flags p))
            ∙ sym (up-to p.second d only.front only.back u only.before call.calls call.number (its-own d))
            ∙ ap (λ (l : List RunTask). calls_up_to p.second (list_of l d)) (sym only.parts) ∙ ap (λ (n : ℕ). calls_up_to n (list_of c.tasks d)) (sym call.number);
      }

  -- and the first call has its answer
  answered : (ks front back : List Happening) (e : DomId) (text : List ℕ) → IsOrderOf (preceding p c) ks text → ks ≡ front ++ raised e c.flags ∷ back → CallBehind p.first e c.tasks (calls_answered e front)
  answered ks front back e text order parts =
      let known : domain_of c.head.domains e ≢ None = all-at (λ (x : Happening). domain_of c.head.domains (doer x) ≢ None) ks (length front) (raised e c.flags)
      (recursion_from_All (λ (x : Happening). domain_of c.head.domains (doer x) ≢ None) ks order.known) (ap (λ (l : List Happening). slice_get l (length front)) parts ∙ at-length front back (raised e c.flags)) in
      let told = one-follows (preceding p c) ks e c.head.domains text known order.follow in
      behind c.flags p e c.tasks (calls_answered e front) below
      (raises (type_names c.head) e c.flags (list_of (with_precedence c.flags p c.tasks) e) [] [] (own_happenings e ks) (own_happenings e front) (own_happenings e back) e told.part told.follows
      (ap (own_happenings e) parts ∙ own-append e front (raised e c.flags ∷ back) ∙ ap (λ (l : List Happening). own_happenings e front ++ l) (own-here e (raised e c.flags) back (its-own e))))

  pub moment : (ks : List Happening) (text : List ℕ) (u : RunTask) → IsCallOfLine c p.second u → IsOrderOf (preceding p c) ks text → Moment c p (erased c.flags ks)
  moment ks text u call order =
      let F = c.flags in
      let wait = waits ks text u call order in
      let (at, e, lt, is) = order.flags (length wait.front) u.dom F (ap (λ (l : List Happening). slice_get l (length wait.front)) wait.parts ∙ at-length wait.front wait.back (passed u.dom F)) in
      let (early, late, parts) = split-there wait.front (passed u.dom F ∷ wait.back) at (raised e F) lt (ap (λ (l : List Happening). slice_get l at) (sym wait.parts) ∙ is) in
      let whole : ks ≡ early ++ raised e F ∷ (late ++ passed u.dom F ∷ wait.back) = wait.parts ∙ ap (λ (l : List Happening). l ++ passed u.dom F ∷ wait.back) parts ∙ append_assoc early (raised e F ∷ late) (passed u.dom F ∷ wait.back) in
      let first = answered ks early (late ++ passed u.dom F ∷ wait.back) e text order whole in
      let fewer = first.fewer in
      let all : calls_answered e (erased F wait.front) ≡ calls_answered e early + count answers_call (own_happenings e (raised e F ∷ late)) =
      own-count-erased answers_call F e wait.front answers-nothing ∙ ap (calls_answered e) parts ∙ ap (count answers_call) (own-append e early (raised e F ∷ late)) ∙ count-append answers_call (own_happenings e early) (own_happenings e (raised e F ∷ late)) in
      let numbered : calls_before c first.task ≡ calls_up_to p.first (list_of c.tasks e) =
      ap (λ (n : ℕ). calls_up_to n (list_of c.tasks first.task.dom)) first.number ∙ ap (λ (d : DomId). calls_up_to p.first (list_of c.tasks d)) first.own in
      let none : calls_begun u.dom (erased F wait.front) ≡ calls_before c u = own-count-erased begins_call F u.dom wait.front begins-nothing ∙ wait.begun in
      let fewer-there : calls_before c first.task < calls_answered e (erased F wait.front) = omega (arith, numbered, fewer, all) in record {
        first = first.task;
        second = u;
        first_call = record { place = first.place; there = first.there; number = first.number; calls = first.calls };
        second_call = call;
        before = erased F wait.front;
        after = erased F (passed u.dom F ∷ wait.back);
        moment = ap (erased F) wait.parts ∙ filter-append (λ (x : Happening). not (is_of_flag F x)) wait.front (passed u.dom F ∷ wait.back);
        answered = subst (λ (d : DomId). calls_before c first.task < calls_answered d (erased F wait.front)) (sym first.own) fewer-there;
        unbegun = omega (arith, none);
      }
