-- An order in which the one call precedes the other is, with one more flag, an order of the script with that flag.
use Rattle.std.proofs.Common.{◌≡◌, ◌≢◌, ◌<◌, ℕ, Bool, true, false, cond, List, [], ◌∷◌, ◌++◌, length}
use Rattle.std.proofs.Common.{None, ◌⊎◌, inl, inr, refl, ap, sym, ◌∙◌, subst, arith, append_assoc}
use Rattle.std.proofs.lemmas.List.Elements.{All-from_recursion, filter-append, recursion_from_All}
use Rattle.std.specs.List.{AllByRecursion, flat_map}
use Rattle.std.specs.Prelude.{◌==◌}
use Rattle.gt_precedence.specs.Prelude.{DomId, Element, Event, Legal, RunContents, RunTask, is_call, list_of, domain_of}
use Rattle.gt_precedence.specs.Prelude.{type_names, setting_of_script, Precedence, preceding, FlagsAreRaised}
use Rattle.gt_precedence.specs.Prelude.{Happening, raised, passed, doer, own_happenings, events_in, trace_in, FollowsList, IsOrderOf}
use Rattle.gt_precedence.specs.Precedence.{answers_call, begins_call, calls_answered, calls_begun, calls_before, calls_of}
use Rattle.gt_precedence.specs.Precedence.{calls_up_to, IsCallOfLine, IsOrderly}
use Rattle.gt_precedence.proofs.Lists.{count, count-append, count-yes, same-cut}
use Rattle.gt_precedence.proofs.Happenings.{IsQuiet, events-with, trace-with, flags-with-raised, flags-with-passed, own-append}
use Rattle.gt_precedence.proofs.Happenings.{own-here, own-other, its-own, same-dom, own-count-with, begins-nothing, answers-nothing}
use Rattle.gt_precedence.proofs.Following.{called, cut}
use Rattle.gt_precedence.proofs.Tasks.{OnlyCall, apart, await_before, awaits-at, both-new, only-call, own-calls-kept, second-call}
use Rattle.gt_precedence.proofs.Tasks.{tell-keeps, tell_behind, tells-at, tells-stay-free, up-to, with_await, with_tell}
use Rattle.gt_precedence.proofs.Moments.{Moment, answered-at, begun-at}
use Rattle.gt_precedence.proofs.Orders.{Follows, all-at, all-follow, one-follows}

-- one domain

pub list-at : (front back : List RunTask) (t : RunTask) (d : DomId) → (t.dom.0 == d.0) ≡ true → list_of (front ++ t ∷ back) d ≡ list_of front d ++ t ∷ list_of back d
list-at front back t d own = filter-append (λ (u : RunTask). u.dom.0 == d.0) front (t ∷ back) ∙ ap (λ (b : Bool). list_of front d ++ cond b (t ∷ list_of back d) (list_of back d)) own

list-beside : (front back : List RunTask) (t : RunTask) (d : DomId) → (t.dom.0 == d.0) ≡ false → list_of (front ++ t ∷ back) d ≡ list_of (front ++ back) d
list-beside front back t d other = filter-append (λ (u : RunTask). u.dom.0 == d.0) front (t ∷ back) ∙ ap (λ (b : Bool). list_of front d ++ cond b (t ∷ list_of back d) (list_of back d)) other
    ∙ sym (filter-append (λ (u : RunTask). u.dom.0 == d.0) front back)

own-at : (front back : List Happening) (x : Happening) (d : DomId) → ((doer x).0 == d.0) ≡ true → own_happenings d (front ++ x ∷ back) ≡ own_happenings d front ++ x ∷ own_happenings d back
own-at front back x d own = own-append d front (x ∷ back) ∙ ap (λ (l : List Happening). own_happenings d front ++ l) (own-here d x back own)

own-beside : (front back : List Happening) (x : Happening) (d : DomId) → ((doer x).0 == d.0) ≡ false → own_happenings d (front ++ x ∷ back) ≡ own_happenings d (front ++ back)
own-beside front back x d other = own-append d front (x ∷ back) ∙ ap (λ (l : List Happening). own_happenings d front ++ l) (own-other d x back other) ∙ sym (own-append d front back)

module _ (types : List (List ℕ)) (F : ℕ) (d : DomId) (part : List ℕ) where
  -- the domain of the first call raises the flag right behind its answer
  tells-here : (l r : List RunTask) (t new : RunTask) (front back : List Happening) (x : Happening) → is_call t.run_action ≡ true → new ≡ tell_behind F t → answers_call x ≡ true → count answers_call front ≡ length (calls_of l)
      → FollowsList types d [] [] (l ++ t ∷ r) (front ++ x ∷ back) part → FollowsList types d [] [] (l ++ t ∷ (new ∷ r)) (front ++ x ∷ (raised d F ∷ back)) part
  tells-here l r t new front back x calls is-new answers many follows =
      let parted = cut types d l (t ∷ r) [] [] (front ++ x ∷ back) part follows in
      let call = called types d t r parted.names parted.holds parted.left parted.rest calls parted.follows in
      let whole : front ++ x ∷ back ≡ (parted.own ++ call.front) ++ call.last ∷ call.more = parted.parts ∙ ap (λ (z : List Happening). parted.own ++ z) call.parts ∙ sym (append_assoc parted.own call.front (call.last ∷ call.more)) in
      let theirs = count-append answers_call parted.own call.front in let mine = parted.answered in let quiet = call.quiet in
      let same = same-cut answers_call front (parted.own ++ call.front) back call.more x call.last whole answers call.answers (omega (arith, many, theirs, mine, quiet)) in
      let again = parted.again (t ∷ (tell_behind F t ∷ r)) (call.front ++ call.last ∷ (raised d F ∷ call.more)) (call.again (tell_behind F t ∷ r) (raised d F ∷ call.more) (call.more, refl, call.follows)) in
      subst (λ (z : RunTask). FollowsList types d [] [] (l ++ t ∷ (z ∷ r)) (front ++ x ∷ (raised d F ∷ back)) part) (sym is-new)
      (subst (λ (z : List Happening). FollowsList types d [] [] (l ++ t ∷ (tell_behind F t ∷ r)) z part)
      (sym (append_assoc parted.own call.front (call.last ∷ (raised d F ∷ call.more))) ∙ ap (λ (z : List Happening). z ++ call.last ∷ (raised d F ∷ call.more)) (sym same.fronts)
      ∙ ap (λ (z : Happening). front ++ z ∷ (raised d F ∷ call.more)) (sym same.heres) ∙ ap (λ (z : List Happening). front ++ x ∷ (raised d F ∷ z)) (sym same.backs)) again)

  -- the domain of the second call passes it right before it begins the call
  awaits-here : (l r : List RunTask) (t new : RunTask) (front back : List Happening) (x : Happening) → is_call t.run_action ≡ true → new ≡ await_before F t → begins_call x ≡ true → count begins_call front ≡ length (calls_of l)
      → FollowsList types d [] [] (l ++ t ∷ r) (front ++ x ∷ back) part → FollowsList types d [] [] (l ++ new ∷ (t ∷ r)) (front ++ passed d F ∷ (x ∷ back)) part
  awaits-here l r t new front back x calls is-new begins many follows =
      let parted = cut types d l (t ∷ r) [] [] (front ++ x ∷ back) part follows in
      let call = called types d t r parted.names parted.holds parted.left parted.rest calls parted.follows in
      let whole : front ++ x ∷ back ≡ parted.own ++ call.begun ∷ call.later = parted.parts ∙ ap (λ (z : List Happening). parted.own ++ z) call.starts in
      let mine = parted.begun in
      let same = same-cut begins_call front parted.own back call.later x call.begun whole begins call.begins (omega (arith, many, mine)) in
      let again = parted.again (await_before F t ∷ (t ∷ r)) (passed d F ∷ parted.left) (parted.left, refl, parted.follows) in
      subst (λ (z : RunTask). FollowsList types d [] [] (l ++ z ∷ (t ∷ r)) (front ++ passed d F ∷ (x ∷ back)) part) (sym is-new)
      (subst (λ (z : List Happening). FollowsList types d [] [] (l ++ await_before F t ∷ (t ∷ r)) z part)
      (ap (λ (z : List Happening). parted.own ++ passed d F ∷ z) call.starts ∙ ap (λ (z : List Happening). z ++ passed d F ∷ (call.begun ∷ call.later)) (sym same.fronts)
      ∙ ap (λ (z : Happening). front ++ passed d F ∷ (z ∷ call.later)) (sym same.heres) ∙ ap (λ (z : List Happening). front ++ passed d F ∷ (x ∷ z)) (sym same.backs)) again)

module _ (types : List (List ℕ)) (F : ℕ) where
  -- each domain follows its list with the new task that tells
  pub tells-too : (front back : List RunTask) (t : RunTask) (us vs : List Happening) (x : Happening) → is_call t.run_action ≡ true → ((doer x).0 == t.dom.0) ≡ true → answers_call x ≡ true → count answers_call (own_happenings t.dom us) ≡ length (calls_of (list_of front t.dom))
      → (d : DomId) (part : List ℕ) → FollowsList types d [] [] (list_of (front ++ t ∷ back) d) (own_happenings d (us ++ x ∷ vs)) part
      → FollowsList types d [] [] (list_of (front ++ t ∷ (tell_behind F t ∷ back)) d) (own_happenings d (us ++ x ∷ (raised t.dom F ∷ vs))) part
  tells-too front back t us vs x calls mine answers many d part follows = by (t.dom.0 == d.0) refl where
    Same : DomId → Type 0
    Same k = FollowsList types k [] [] (list_of (front ++ t ∷ back) k) (own_happenings k (us ++ x ∷ vs)) part → FollowsList types k [] [] (list_of (front ++ t ∷ (tell_behind F t ∷ back)) k) (own_happenings k (us ++ x ∷ (raised t.dom F ∷ vs))) part

    own : FollowsList types t.dom [] [] (list_of (front ++ t ∷ back) t.dom) (own_happenings t.dom (us ++ x ∷ vs)) part
        → FollowsList types t.dom [] [] (list_of (front ++ t ∷ (tell_behind F t ∷ back)) t.dom) (own_happenings t.dom (us ++ x ∷ (raised t.dom F ∷ vs))) part
    own goes =
        let k = t.dom in
        let old = subst (λ (l : List RunTask). FollowsList types k [] [] l (own_happenings k us ++ x ∷ own_happenings k vs) part) (list-at front back t k (its-own k))
        (subst (λ (l : List Happening). FollowsList types k [] [] (list_of (front ++ t ∷ back) k) l part) (own-at us vs x k mine) goes) in
        let new = tells-here types F k part (list_of front k) (list_of back k) t (tell_behind F t) (own_happenings k us) (own_happenings k vs) x calls refl answers many old in
        subst (λ (l : List RunTask). FollowsList types k [] [] l (own_happenings k (us ++ x ∷ (raised k F ∷ vs))) part)
        (sym (list-at front (tell_behind F t ∷ back) t k (its-own k) ∙ ap (λ (b : Bool). list_of front k ++ t ∷ cond b (tell_behind F t ∷ list_of back k) (list_of back k)) (its-own k)))
        (subst (λ (l : List Happening). FollowsList types k [] [] (list_of front k ++ t ∷ (tell_behind F t ∷ list_of back k)) l part)
        (sym (own-at us (raised k F ∷ vs) x k mine ∙ ap (λ (l : List Happening). own_happenings k us ++ x ∷ l) (own-here k (raised k F) vs (its-own k)))) new)

    by : (b : Bool) → (t.dom.0 == d.0) ≡ b → FollowsList types d [] [] (list_of (front ++ t ∷ (tell_behind F t ∷ back)) d) (own_happenings d (us ++ x ∷ (raised t.dom F ∷ vs))) part
    by true e = subst Same (same-dom t.dom d e) own follows
    by false e =
        let list : list_of (front ++ t ∷ (tell_behind F t ∷ back)) d ≡ list_of (front ++ t ∷ back) d = list-beside front (tell_behind F t ∷ back) t d e ∙ list-beside front back (tell_behind F t) d e ∙ sym (list-beside front back t d e) in
        let hs : own_happenings d (us ++ x ∷ (raised t.dom F ∷ vs)) ≡ own_happenings d (us ++ x ∷ vs) =
        ap (own_happenings d) (sym (append_assoc us (x ∷ []) (raised t.dom F ∷ vs))) ∙ own-beside (us ++ x ∷ []) vs (raised t.dom F) d e ∙ ap (own_happenings d) (append_assoc us (x ∷ []) vs) in
        subst (λ (l : List RunTask). FollowsList types d [] [] l (own_happenings d (us ++ x ∷ (raised t.dom F ∷ vs))) part) (sym list)
        (subst (λ (l : List Happening). FollowsList types d [] [] (list_of (front ++ t ∷ back) d) l part) (sym hs) follows)

  -- each domain follows its list with the new task that awaits
  pub awaits-too : (front back : List RunTask) (t : RunTask) (us vs : List Happening) (x : Happening) → is_call t.run_action ≡ true → ((doer x).0 == t.dom.0) ≡ true → begins_call x ≡ true → count begins_call (own_happenings t.dom us) ≡ length (calls_of (list_of front t.dom))
      → (d : DomId) (part : List ℕ) → FollowsList types d [] [] (list_of (front ++ t ∷ back) d) (own_happenings d (us ++ x ∷ vs)) part
      → FollowsList types d [] [] (list_of (front ++ await_before F t ∷ (t ∷ back)) d) (own_happenings d (us ++ passed t.dom F ∷ (x ∷ vs))) part
  awaits-too front back t us vs x calls mine begins many d part follows = by (t.dom.0 == d.0) refl where
    Same : DomId → Type 0
    Same k = FollowsList types k [] [] (list_of (front ++ t ∷ back) k) (own_happenings k (us ++ x ∷ vs)) part → FollowsList types k [] [] (list_of (front ++ await_before F t ∷ (t ∷ back)) k) (own_happenings k (us ++ passed t.dom F ∷ (x ∷ vs))) part

    own : FollowsList types t.dom [] [] (list_of (front ++ t ∷ back) t.dom) (own_happenings t.dom (us ++ x ∷ vs)) part
        → FollowsList types t.dom [] [] (list_of (front ++ await_before F t ∷ (t ∷ back)) t.dom) (own_happenings t.dom (us ++ passed t.dom F ∷ (x ∷ vs))) part
    own goes =
        let k = t.dom in
        let old = subst (λ (l : List RunTask). FollowsList types k [] [] l (own_happenings k us ++ x ∷ own_happenings k vs) part) (list-at front back t k (its-own k))
        (subst (λ (l : List Happening). FollowsList types k [] [] (list_of (front ++ t ∷ back) k) l part) (own-at us vs x k mine) goes) in
        let new = awaits-here types F k part (list_of front k) (list_of back k) t (await_before F t) (own_happenings k us) (own_happenings k vs) x calls refl begins many old in
        subst (λ (l : List RunTask). FollowsList types k [] [] l (own_happenings k (us ++ passed k F ∷ (x ∷ vs))) part)
        (sym (list-at front (t ∷ back) (await_before F t) k (its-own k) ∙ ap (λ (b : Bool). list_of front k ++ await_before F t ∷ cond b (t ∷ list_of back k) (list_of back k)) (its-own k)))
        (subst (λ (l : List Happening). FollowsList types k [] [] (list_of front k ++ await_before F t ∷ (t ∷ list_of back k)) l part)
        (sym (own-at us (x ∷ vs) (passed k F) k (its-own k) ∙ ap (λ (l : List Happening). own_happenings k us ++ passed k F ∷ l) (own-here k x vs mine))) new)

    by : (b : Bool) → (t.dom.0 == d.0) ≡ b → FollowsList types d [] [] (list_of (front ++ await_before F t ∷ (t ∷ back)) d) (own_happenings d (us ++ passed t.dom F ∷ (x ∷ vs))) part
    by true e = subst Same (same-dom t.dom d e) own follows
    by false e =
        subst (λ (l : List RunTask). FollowsList types d [] [] l (own_happenings d (us ++ passed t.dom F ∷ (x ∷ vs))) part) (sym (list-beside front (t ∷ back) (await_before F t) d e))
        (subst (λ (l : List Happening). FollowsList types d [] [] (list_of (front ++ t ∷ back) d) l part) (sym (own-beside us (x ∷ vs) (passed t.dom F) d e)) follows)

-- calls

module _ (c : RunContents) (orderly : IsOrderly c) where
  pub only : (line : ℕ) (t : RunTask) → IsCallOfLine c line t → OnlyCall c.tasks line t
  only line t call = only-call c.tasks call.place line t (apart (calls_of c.tasks) orderly.lines) call.there call.number call.calls

  pub its-domain : (line : ℕ) (t : RunTask) → IsCallOfLine c line t → domain_of c.head.domains t.dom ≢ None
  its-domain line t call = all-at (λ (u : RunTask). domain_of c.head.domains u.dom ≢ None) c.tasks call.place t (recursion_from_All (λ (u : RunTask). domain_of c.head.domains u.dom ≢ None) c.tasks orderly.known) call.there

  -- the calls before that of a line
  pub before-call : (line : ℕ) (t : RunTask) (call : IsCallOfLine c line t) (searched : OnlyCall c.tasks line t) → calls_before c t ≡ length (calls_of (list_of searched.front t.dom))
  before-call line t call searched =
      ap (λ (n : ℕ). calls_up_to n (list_of c.tasks t.dom)) call.number ∙ ap (λ (l : List RunTask). calls_up_to line (list_of l t.dom)) searched.parts
      ∙ up-to line t.dom searched.front searched.back t searched.before call.calls call.number (its-own t.dom)

-- orders

all-with : {X : Type 0} (P : X → Type 0) (us vs : List X) (x : X) → P x → AllByRecursion P (us ++ vs) → AllByRecursion P (us ++ x ∷ vs)
all-with P [] vs x here all = (here, all)
all-with P (u ∷ us) vs x here all = (all.0, all-with P us vs x here all.1)

-- an order with one more flag raised or passed is an order of the script with other tasks, if each domain follows its
-- list of these
order-with : (c : RunContents) (tasks : List RunTask) (flags : ℕ) (us vs : List Happening) (f : Happening) (text : List ℕ) → IsQuiet f → domain_of c.head.domains (doer f) ≢ None → FlagsAreRaised (us ++ f ∷ vs)
    → ((d : DomId) (part : List ℕ) → Follows c (us ++ vs) d part → FollowsList (type_names c.head) d [] [] (list_of tasks d) (own_happenings d (us ++ f ∷ vs)) part)
    → IsOrderOf c (us ++ vs) text → IsOrderOf (record { head = c.head; tasks = tasks; flags = flags }) (us ++ f ∷ vs) text
order-with c tasks flags us vs f text quiet known in-time each order = record {
  legal = subst (λ (es : List Event). Legal (setting_of_script c.head) es (trace_in (us ++ f ∷ vs))) (sym (events-with us vs f quiet))
      (subst (λ (xs : List Element). Legal (setting_of_script c.head) (events_in (us ++ vs)) xs) (sym (trace-with us vs f quiet)) order.legal);
  follow = all-follow c (record { head = c.head; tasks = tasks; flags = flags }) (us ++ vs) (us ++ f ∷ vs) each c.head.domains text order.follow;
  known = All-from_recursion (λ (x : Happening). domain_of c.head.domains (doer x) ≢ None) (us ++ f ∷ vs)
      (all-with (λ (x : Happening). domain_of c.head.domains (doer x) ≢ None) us vs f known (recursion_from_All (λ (x : Happening). domain_of c.head.domains (doer x) ≢ None) (us ++ vs) order.known));
  flags = in-time;
}

-- at each moment of the one order there is a moment of the other at which as many calls are begun and answered
abbrev pub SameMoments : List Happening → List Happening → Type 0
SameMoments hs ks = (before after : List Happening) → hs ≡ before ++ after
    → (front : List Happening) × (back : List Happening) × (ks ≡ front ++ back)
    × ((d : DomId) → (calls_begun d front ≡ calls_begun d before) × (calls_answered d front ≡ calls_answered d before))

-- the first part of a list in which one more element is inserted
record FrontWith (us vs : List Happening) (f : Happening) (front : List Happening) : Type 0 where
  pub start : List Happening
  pub rest : List Happening
  pub parts : us ++ f ∷ vs ≡ start ++ rest
  pub same : (start ≡ front) ⊎ ((w : List Happening) × (z : List Happening) × (front ≡ w ++ z) × (start ≡ w ++ f ∷ z))

front-with : (us vs front back : List Happening) (f : Happening) → us ++ vs ≡ front ++ back → FrontWith us vs f front
front-with [] vs front back f is = record { start = f ∷ front; rest = back; parts = ap (λ (l : List Happening). f ∷ l) is; same = inr ([], front, refl, refl) }
front-with (u ∷ us) vs [] back f is = record { start = []; rest = u ∷ (us ++ f ∷ vs); parts = refl; same = inl refl }
front-with (u ∷ us) vs (x ∷ front) back f is =
    let same : u ≡ x = cc in let tail : us ++ vs ≡ front ++ back = cc in
    let more = front-with us vs front back f tail in record {
      start = x ∷ more.start;
      rest = more.rest;
      parts = ap (λ (z : Happening). z ∷ (us ++ f ∷ vs)) same ∙ ap (λ (l : List Happening). x ∷ l) more.parts;
      same = elim more.same [
        | inl is ↦ inl (ap (λ (l : List Happening). x ∷ l) is)
        | inr (w, z, old, new) ↦ inr (x ∷ w, z, ap (λ (l : List Happening). x ∷ l) old, ap (λ (l : List Happening). x ∷ l) new)
      ];
    }

same-moments : (us vs : List Happening) (f : Happening) → IsQuiet f → SameMoments (us ++ vs) (us ++ f ∷ vs)
same-moments us vs f quiet = λ before after is. let more = front-with us vs before after f is in (
  more.start,
  more.rest,
  more.parts,
  λ d. elim more.same [
    | inl e ↦ (ap (calls_begun d) e, ap (calls_answered d) e)
    | inr (w, z, old, new) ↦ (
      ap (calls_begun d) new ∙ own-count-with begins_call d w z f (begins-nothing f quiet) ∙ ap (calls_begun d) (sym old),
      ap (calls_answered d) new ∙ own-count-with answers_call d w z f (answers-nothing f quiet) ∙ ap (calls_answered d) (sym old),
    )
  ],
)

-- an order of the other script that has the moments of this one
pub record Flagged (c : RunContents) (hs : List Happening) (text : List ℕ) : Type 0 where
  pub flagged : List Happening
  pub order : IsOrderOf c flagged text
  pub moments : SameMoments hs flagged

then-moments : (hs ks ls : List Happening) → SameMoments hs ks → SameMoments ks ls → SameMoments hs ls
then-moments hs ks ls one other = λ before after is.
    let (front, back, parts, same) = one before after is in let (start, rest, pieces, alike) = other front back parts in
    (start, rest, pieces, λ d. ((alike d).0 ∙ (same d).0, (alike d).1 ∙ (same d).1))

module _ (c : RunContents) (p : Precedence) (orderly : IsOrderly c) where
  -- the script with the new tasks that tell
  abbrev told : RunContents
  told = record { head = c.head; tasks = flat_map (with_tell c.flags p.first) c.tasks; flags = c.flags }

  -- the flag is raised right behind the answer of the first call
  with-tell : (front back : List Happening) (x : Happening) (t : RunTask) (text : List ℕ) → IsCallOfLine c p.first t → ((doer x).0 == t.dom.0) ≡ true → answers_call x ≡ true → calls_answered t.dom front ≡ calls_before c t
      → IsOrderOf c ((front ++ x ∷ []) ++ back) text → IsOrderOf told ((front ++ x ∷ []) ++ raised t.dom c.flags ∷ back) text
  with-tell front back x t text call own answers many order =
      let searched = only c orderly p.first t call in
      let tasks : flat_map (with_tell c.flags p.first) c.tasks ≡ searched.front ++ t ∷ (tell_behind c.flags t ∷ searched.back) =
      ap (flat_map (with_tell c.flags p.first)) searched.parts ∙ tells-at c.flags p.first searched.front searched.back t searched.before searched.behind call.calls call.number in
      order-with c (flat_map (with_tell c.flags p.first) c.tasks) c.flags (front ++ x ∷ []) back (raised t.dom c.flags) text tt (its-domain c orderly p.first t call) (flags-with-raised (front ++ x ∷ []) back t.dom c.flags order.flags)
      (λ d part follows.
      subst (λ (l : List RunTask). FollowsList (type_names c.head) d [] [] (list_of l d) (own_happenings d ((front ++ x ∷ []) ++ raised t.dom c.flags ∷ back)) part) (sym tasks)
      (subst (λ (l : List Happening). FollowsList (type_names c.head) d [] [] (list_of (searched.front ++ t ∷ (tell_behind c.flags t ∷ searched.back)) d) (own_happenings d l) part) (sym (append_assoc front (x ∷ []) (raised t.dom c.flags ∷ back)))
      (tells-too (type_names c.head) c.flags searched.front searched.back t front back x call.calls own answers (many ∙ before-call c orderly p.first t call searched) d part
      (subst (λ (l : List RunTask). FollowsList (type_names c.head) d [] [] (list_of l d) (own_happenings d (front ++ x ∷ back)) part) searched.parts
      (subst (λ (l : List Happening). FollowsList (type_names c.head) d [] [] (list_of c.tasks d) (own_happenings d l) part) (append_assoc front (x ∷ []) back) follows)))))
      order

  -- the second call begins in each order
  pub begins : (hs : List Happening) (text : List ℕ) (u : RunTask) → IsCallOfLine c p.second u → IsOrderOf c hs text → calls_before c u < calls_begun u.dom hs
  begins hs text u call order =
      let k = u.dom in
      let searched = only c orderly p.second u call in
      let told-here = one-follows c hs k c.head.domains text (its-domain c orderly p.second u call) order.follow in
      let parted = cut (type_names c.head) k (list_of searched.front k) (u ∷ list_of searched.back k) [] [] (own_happenings k hs) told-here.part
      (subst (λ (l : List RunTask). FollowsList (type_names c.head) k [] [] l (own_happenings k hs) told-here.part) (ap (λ (l : List RunTask). list_of l k) searched.parts ∙ list-at searched.front searched.back u k (its-own k)) told-here.follows) in
      let taken = called (type_names c.head) k u (list_of searched.back k) parted.names parted.holds parted.left parted.rest call.calls parted.follows in
      let all = ap (count begins_call) (parted.parts ∙ ap (λ (l : List Happening). parted.own ++ l) taken.starts) ∙ count-append begins_call parted.own (taken.begun ∷ taken.later) in
      let one = count-yes begins_call taken.begun taken.later taken.begins in
      let mine = parted.begun in
      let many = before-call c orderly p.second u call searched in
      omega (arith, all, one, mine, many)

  -- the flag is passed right before the second call begins
  with-wait : (front back : List Happening) (x : Happening) (u : RunTask) (text : List ℕ) → IsCallOfLine c p.second u → ((doer x).0 == u.dom.0) ≡ true → begins_call x ≡ true → calls_begun u.dom front ≡ calls_before c u
      → FlagsAreRaised (front ++ passed u.dom c.flags ∷ (x ∷ back)) → IsOrderOf told (front ++ x ∷ back) text → IsOrderOf (preceding p c) (front ++ passed u.dom c.flags ∷ (x ∷ back)) text
  with-wait front back x u text call own begins-it many in-time order =
      let searched = only c orderly p.second u call in
      let (rest, tasks, free) = second-call c.flags p.first p.second c.tasks u searched in
      let start : List RunTask = flat_map (with_tell c.flags p.first) searched.front in
      let new : flat_map (with_await c.flags p.second) (flat_map (with_tell c.flags p.first) c.tasks) ≡ start ++ await_before c.flags u ∷ (u ∷ rest) =
      ap (flat_map (with_await c.flags p.second)) tasks ∙ awaits-at c.flags p.second start rest u (tells-stay-free c.flags p.first p.second searched.front searched.before) free call.calls call.number in
      let whole : (preceding p c).tasks ≡ start ++ await_before c.flags u ∷ (u ∷ rest) = both-new c.flags p c.tasks ∙ new in
      let calls : calls_begun u.dom front ≡ length (calls_of (list_of start u.dom)) =
      many ∙ before-call c orderly p.second u call searched ∙ sym (ap length (own-calls-kept (with_tell c.flags p.first) searched.front u.dom (tell-keeps c.flags p.first))) in
      order-with told (preceding p c).tasks (preceding p c).flags front (x ∷ back) (passed u.dom c.flags) text tt (its-domain c orderly p.second u call) in-time
      (λ d part follows.
      subst (λ (l : List RunTask). FollowsList (type_names c.head) d [] [] (list_of l d) (own_happenings d (front ++ passed u.dom c.flags ∷ (x ∷ back))) part) (sym whole)
      (awaits-too (type_names c.head) c.flags start rest u front back x call.calls own begins-it calls d part
      (subst (λ (l : List RunTask). FollowsList (type_names c.head) d [] [] (list_of l d) (own_happenings d (front ++ x ∷ back)) part) tasks follows)))
      order

  pub complete : (hs : List Happening) (text : List ℕ) → IsOrderOf c hs text → Moment c p hs → Flagged (preceding p c) hs text
  complete hs text order precedes =
      let F = c.flags in let t = precedes.first in let u = precedes.second in
      let told-at = answered-at c t precedes.before precedes.answered in
      let lt = begins hs text u precedes.second_call order in
      let begun = begun-at c u precedes.before precedes.after precedes.unbegun (subst (λ (l : List Happening). calls_before c u < calls_begun u.dom l) precedes.moment lt) in
      let start : List Happening = told-at.front ++ told-at.last ∷ [] in
      let moment : hs ≡ start ++ (told-at.back ++ precedes.after) =
      precedes.moment ∙ ap (λ (l : List Happening). l ++ precedes.after) told-at.parts ∙ append_assoc told-at.front (told-at.last ∷ told-at.back) precedes.after
      ∙ sym (append_assoc told-at.front (told-at.last ∷ []) (told-at.back ++ precedes.after)) in
      let one = with-tell told-at.front (told-at.back ++ precedes.after) told-at.last t text precedes.first_call told-at.own told-at.answers told-at.many (subst (λ (l : List Happening). IsOrderOf c l text) moment order) in
      let middle : List Happening = start ++ raised t.dom F ∷ (told-at.back ++ begun.front) in
      let cut-there : start ++ raised t.dom F ∷ (told-at.back ++ precedes.after) ≡ middle ++ begun.first ∷ begun.back =
      ap (λ (l : List Happening). start ++ raised t.dom F ∷ (told-at.back ++ l)) begun.parts ∙ ap (λ (l : List Happening). start ++ raised t.dom F ∷ l) (sym (append_assoc told-at.back begun.front (begun.first ∷ begun.back)))
      ∙ sym (append_assoc start (raised t.dom F ∷ (told-at.back ++ begun.front)) (begun.first ∷ begun.back)) in
      let two = subst (λ (l : List Happening). IsOrderOf told l text) cut-there one in
      let before-it : start ++ (told-at.back ++ begun.front) ≡ precedes.before ++ begun.front =
      append_assoc told-at.front (told-at.last ∷ []) (told-at.back ++ begun.front) ∙ sym (append_assoc told-at.front (told-at.last ∷ told-at.back) begun.front) ∙ ap (λ (l : List Happening). l ++ begun.front) (sym told-at.parts) in
      let many : calls_begun u.dom middle ≡ calls_before c u =
      own-count-with begins_call u.dom start (told-at.back ++ begun.front) (raised t.dom F) refl ∙ ap (calls_begun u.dom) before-it ∙ begun.many in
      let in-time = flags-with-passed start (told-at.back ++ begun.front) (begun.first ∷ begun.back) t.dom u.dom F two.flags in record {
        flagged = middle ++ passed u.dom F ∷ (begun.first ∷ begun.back);
        order = with-wait middle begun.back begun.first u text precedes.second_call begun.own begun.begins many in-time two;
        moments = then-moments hs (middle ++ begun.first ∷ begun.back) (middle ++ passed u.dom F ∷ (begun.first ∷ begun.back))
            (subst (λ (l : List Happening). SameMoments hs l) cut-there (subst (λ (l : List Happening). SameMoments l (start ++ raised t.dom F ∷ (told-at.back ++ precedes.after))) (sym moment) (same-moments start (told-at.back ++ precedes.after) (raised t.dom F) tt)))
            (same-moments middle (begun.first ∷ begun.back) (passed u.dom F) tt);
      }
