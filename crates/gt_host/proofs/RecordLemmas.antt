-- The audit of a run is the same in runs that are the same but for keys.
use Rattle.std.proofs.Common.{◌≡◌, ◌⊎◌, inl, inr, ℕ, Bool, true, false, List, [], ◌∷◌, ◌++◌, Option, None, Some, refl}
use Rattle.std.proofs.Common.{cond, ap, sym, subst, ◌∙◌, append_assoc}
use Rattle.std.specs.Prelude.{◌==◌}
use Rattle.std.specs.Option.{option_map, option_to_list}
use Rattle.std.proofs.lemmas.Bool.{eqb-true}
use Rattle.std.proofs.lemmas.Option.{none-some, same_Some}
use Rattle.std.proofs.lemmas.List.{append-nil}
use Rattle.gt_types.specs.declared.DomId.{DomId}
use Rattle.gt_types.specs.declared.GrantRef.{GrantRef}
use Rattle.gt_model.specs.declared.handle.Handle.{Handle}
use Rattle.gt_model.specs.Asking.{asked}
use Rattle.gt_model.specs.declared.request.Request.{Request}
use Rattle.gt_model.specs.declared.request.Request.TheVariants as requests
use Rattle.gt_audit.specs.declared.record.Hypercall.{Hypercall}
use Rattle.gt_audit.specs.declared.record.Hypercall.TheVariants as hypercalls
use Rattle.gt_audit.specs.declared.record.Record.{Record}
use Rattle.gt_audit.specs.declared.record.Reply.{Reply}
use Rattle.gt_audit.specs.declared.record.Reply.TheVariants as replies
use Rattle.gt_model.specs.History.{History, Setting, Underway, open_call, underway_after, underway_with}
use Rattle.gt_model.specs.Legal.{grown, history_after}
use Rattle.gt_core.specs.Subject.{subject_at}
use Rattle.gt_model.specs.declared.trace.Answer.{Answer}
use Rattle.gt_model.specs.declared.trace.Answer.TheVariants as answers
use Rattle.gt_model.specs.declared.trace.Element.{Element}
use Rattle.gt_model.specs.declared.trace.Element.TheVariants as elements
use Rattle.gt_model.specs.declared.trace.ItemEvent.{ItemEvent}
use Rattle.gt_model.specs.declared.trace.ItemEvent.TheVariants.{Began, Stepped}
use Rattle.gt_model.specs.declared.trace.Item.{Item}
use Rattle.gt_core.specs.Alike.{bare_handle, bare_request, bare_happened, keyless_answer, keyless_item, keyless_items}
use Rattle.gt_core.specs.Alike.{KeylessItem, IsKnown, AsksKnown, HappensKnown, IsRun, AreAlike}
use Rattle.gt_script_runs.specs.Auditing.{hypercall_of_request, audited_reply, record_with, before_begun, before_call}
use Rattle.gt_script_runs.specs.Auditing.{underway_hypercall, item_hypercall, record_of, record_in, records_of}
use Rattle.gt_script_runs.specs.Auditing.{asked_lines, audit_text}

-- what the law of gt_core says of handles
abbrev pub HasOneSubject : Type 0
HasOneSubject = (s : Setting) (g h : History) (dom : DomId) (a b : Handle) → AreAlike s g h → bare_handle a ≡ bare_handle b → IsKnown g dom.0 a → IsKnown h dom.0 b → subject_at s g dom a ≡ subject_at s h dom b

-- calls

abbrev Subject : Type 0
Subject = Handle → Option (DomId × GrantRef)

-- the handle of an unmap
abbrev unmapped : Request → Option Handle
unmapped (requests.Unmap a) = Some a
unmapped q = None

-- what a call is told as, with the subject of its handle
abbrev filled : Option (DomId × GrantRef) → Option Hypercall → Option Hypercall
filled subject (Some (hypercalls.Unmap x)) = Some (hypercalls.Unmap subject)
filled subject o = o

abbrev subject_of : Subject → Option Handle → Option (DomId × GrantRef)
subject_of f None = None
subject_of f (Some a) = f a

call-filled : (f : Subject) (q : Request) → hypercall_of_request f (asked q) ≡ filled (subject_of f (unmapped q)) (hypercall_of_request (λ a. None) (asked (bare_request q)))
call-filled f (requests.Unmap a) = refl
call-filled f (requests.GrantBytes gref bytes) = refl
call-filled f q = refl

unmapped-bare : (q : Request) → option_map bare_handle (unmapped q) ≡ unmapped (bare_request q)
unmapped-bare (requests.Unmap a) = refl
unmapped-bare q = refl

unmapped-known : (h : History) (d : ℕ) (q : Request) (a : Handle) → AsksKnown h d (asked q) → unmapped q ≡ Some a → IsKnown h d a
unmapped-known h d (requests.Unmap b) a k e = subst (IsKnown h d) (same_Some b a e) k
unmapped-known h d q a k e = absurd (none-some a e)

subjects-same : HasOneSubject → (s : Setting) (g h : History) (dom : DomId) (x y : Option Handle) → AreAlike s g h → option_map bare_handle x ≡ option_map bare_handle y
    → ((a : Handle) → x ≡ Some a → IsKnown g dom.0 a) → ((a : Handle) → y ≡ Some a → IsKnown h dom.0 a) → subject_of (subject_at s g dom) x ≡ subject_of (subject_at s h dom) y
subjects-same law s g h dom None None alike e j k = refl
subjects-same law s g h dom None (Some b) alike e j k = absurd (none-some (bare_handle b) e)
subjects-same law s g h dom (Some a) None alike e j k = absurd (none-some (bare_handle a) (sym e))
subjects-same law s g h dom (Some a) (Some b) alike e j k = law s g h dom a b alike (same_Some (bare_handle a) (bare_handle b) e) (j a refl) (k b refl)

call-same : HasOneSubject → (s : Setting) (g h : History) (dom : DomId) (q r : Request) → AreAlike s g h → bare_request q ≡ bare_request r → AsksKnown g dom.0 (asked q) → AsksKnown h dom.0 (asked r)
    → hypercall_of_request (subject_at s g dom) (asked q) ≡ hypercall_of_request (subject_at s h dom) (asked r)
call-same law s g h dom q r alike e j k =
    call-filled (subject_at s g dom) q
    ∙ ap (λ (z : Request). filled (subject_of (subject_at s g dom) (unmapped q)) (hypercall_of_request (λ a. None) (asked z))) e
    ∙ ap (λ (o : Option (DomId × GrantRef)). filled o (hypercall_of_request (λ a. None) (asked (bare_request r))))
    (subjects-same law s g h dom (unmapped q) (unmapped r) alike (unmapped-bare q ∙ ap unmapped e ∙ sym (unmapped-bare r)) (λ a is. unmapped-known g dom.0 q a j is) (λ a is. unmapped-known h dom.0 r a k is))
    ∙ sym (call-filled (subject_at s h dom) r)

-- the newest items

-- what alike histories have in common
record Newest (s : Setting) (i j : Item) (g h : History) : Type 0 where
  pub alike : AreAlike s g h
  pub item : keyless_item i ≡ keyless_item j
  pub known : HappensKnown g i
  pub asked : HappensKnown h j

same-head : (t u : KeylessItem) (ts us : List KeylessItem) → t ∷ ts ≡ u ∷ us → (t ≡ u) × (ts ≡ us)
same-head t u ts us e = (cc, cc)

newest : (s : Setting) (i j : Item) (g h : History) → AreAlike s (i ∷ g) (j ∷ h) → Newest s i j g h
unfolding IsRun keyless_items
newest s i j g h a =
    let parts = same-head (keyless_item i) (keyless_item j) (keyless_items g) (keyless_items h) a.same in
    record { alike = record { first = a.first.2; second = a.second.2; same = parts.1 }; item = parts.0; known = a.first.1; asked = a.second.1 }

none-newer : (i : Item) (g : History) → keyless_items (i ∷ g) ≡ keyless_items [] → ⊥
unfolding keyless_items
none-newer i g e = cc

none-older : (j : Item) (h : History) → keyless_items [] ≡ keyless_items (j ∷ h) → ⊥
unfolding keyless_items
none-older j h e = cc

-- open calls

-- the calls that a domain has open in both, and began at the same point
abbrev OpensAlike : Setting → DomId → History → History → Option Underway → Option Underway → Type 0
OpensAlike s d g h None None = Unit {0}
OpensAlike s d g h None (Some e) = ⊥
OpensAlike s d g h (Some c) None = ⊥
OpensAlike s d g h (Some c) (Some e) = (q : Request) × (r : Request) × (c.request ≡ asked q) × (e.request ≡ asked r) × (bare_request q ≡ bare_request r) × AreAlike s g h × AsksKnown g d.0 (asked q) × AsksKnown h d.0 (asked r)

began-same : (q r : Request) → bare_happened (Began q) ≡ bare_happened (Began r) → bare_request q ≡ bare_request r
began-same q r e = cc

-- the actors' calls with what happened now
with-alike : (s : Setting) (d : DomId) (g h b e : History) (x y : ItemEvent) (c o : Option Underway) → bare_happened x ≡ bare_happened y → AreAlike s g h
    → HappensKnown g (record { actor = d; happened = x; answer = None }) → HappensKnown h (record { actor = d; happened = y; answer = None }) → OpensAlike s d b e c o
    → OpensAlike s d (before_begun x g b) (before_begun y h e) (underway_with x c) (underway_with y o)
with-alike s d g h b e (Began q) (Began r) c o same alike j k w = (q, r, refl, refl, began-same q r same, alike, j, k)
with-alike s d g h b e (Began q) (Stepped step seen) c o same alike j k w = absurd (cc)
with-alike s d g h b e (Stepped step seen) (Began r) c o same alike j k w = absurd (cc)
with-alike s d g h b e (Stepped step seen) (Stepped other saw) None None same alike j k w = tt
with-alike s d g h b e (Stepped step seen) (Stepped other saw) None (Some o) same alike j k w = absurd w
with-alike s d g h b e (Stepped step seen) (Stepped other saw) (Some c) None same alike j k w = absurd w
with-alike s d g h b e (Stepped step seen) (Stepped other saw) (Some c) (Some o) same alike j k w = w

after-alike : (s : Setting) (d : DomId) (g h b e : History) (i j : Item) (c o : Option Underway) → keyless_item i ≡ keyless_item j → i.actor ≡ d → j.actor ≡ d → AreAlike s g h → HappensKnown g i → HappensKnown h j → OpensAlike s d b e c o
    → OpensAlike s d (before_begun i.happened g b) (before_begun j.happened h e) (underway_after i c) (underway_after j o)
after-alike s d g h b e i j c o same own his alike k l w = by i.answer j.answer (ap (λ (t : KeylessItem). t.answer) same)
  where
    by : (a r : Option Answer) → option_map keyless_answer a ≡ option_map keyless_answer r
        → OpensAlike s d (before_begun i.happened g b) (before_begun j.happened h e) (underway_after (record i { answer = a }) c) (underway_after (record j { answer = r }) o)
    by None None is =
        with-alike s d g h b e i.happened j.happened c o (ap (λ (t : KeylessItem). t.happened) same) alike
        (subst (λ (z : DomId). HappensKnown g (record { actor = z; happened = i.happened; answer = None })) own k)
        (subst (λ (z : DomId). HappensKnown h (record { actor = z; happened = j.happened; answer = None })) his l) w
    by None (Some r) is = absurd (none-some (keyless_answer r) is)
    by (Some a) None is = absurd (none-some (keyless_answer a) (sym is))
    by (Some a) (Some r) is = tt

dom-same : (a b : DomId) → a.0 ≡ b.0 → a ≡ b
dom-same a b e = ap (λ (n : ℕ). record { 0 = n }) e

opens-alike : (s : Setting) (d : DomId) (g h : History) → AreAlike s g h → OpensAlike s d (before_call g d.0) (before_call h d.0) (open_call g d.0) (open_call h d.0)
unfolding open_call before_call
opens-alike s d [] [] alike = tt
opens-alike s d [] (j ∷ h) alike = absurd (none-older j h alike.same)
opens-alike s d (i ∷ g) [] alike = absurd (none-newer i g alike.same)
opens-alike s d (i ∷ g) (j ∷ h) alike =
    let n = newest s i j g h alike in
    by (i.actor.0 == d.0) (j.actor.0 == d.0) refl refl (ap (λ (t : KeylessItem). t.actor.0 == d.0) n.item) n (opens-alike s d g h n.alike)
  where
    by : (b e : Bool) → (i.actor.0 == d.0) ≡ b → (j.actor.0 == d.0) ≡ e → b ≡ e → Newest s i j g h → OpensAlike s d (before_call g d.0) (before_call h d.0) (open_call g d.0) (open_call h d.0)
        → OpensAlike s d (cond b (before_begun i.happened g (before_call g d.0)) (before_call g d.0)) (cond e (before_begun j.happened h (before_call h d.0)) (before_call h d.0))
        (cond b (underway_after i (open_call g d.0)) (open_call g d.0)) (cond e (underway_after j (open_call h d.0)) (open_call h d.0))
    by true true own his is n rest =
        after-alike s d g h (before_call g d.0) (before_call h d.0) i j (open_call g d.0) (open_call h d.0) n.item (dom-same i.actor d (eqb-true i.actor.0 d.0 own)) (dom-same j.actor d (eqb-true j.actor.0 d.0 his)) n.alike n.known n.asked rest
    by true false own his is n rest = absurd (cc)
    by false true own his is n rest = absurd (cc)
    by false false own his is n rest = rest

under-same : HasOneSubject → (s : Setting) (d : DomId) (g h : History) (c o : Option Underway) → OpensAlike s d g h c o → underway_hypercall s d g c ≡ underway_hypercall s d h o
under-same law s d g h None None w = refl
under-same law s d g h None (Some o) w = absurd w
under-same law s d g h (Some c) None w = absurd w
under-same law s d g h (Some c) (Some o) (q, r, is, so, e, alike, j, k) =
    ap (hypercall_of_request (subject_at s g d)) is ∙ call-same law s g h d q r alike e j k ∙ sym (ap (hypercall_of_request (subject_at s h d)) so)

-- records

item-same : HasOneSubject → (s : Setting) (g h : History) (d : DomId) (x y : ItemEvent) → AreAlike s g h → bare_happened x ≡ bare_happened y
    → HappensKnown g (record { actor = d; happened = x; answer = None }) → HappensKnown h (record { actor = d; happened = y; answer = None }) → item_hypercall s g d x ≡ item_hypercall s h d y
item-same law s g h d (Began q) (Began r) alike e j k = call-same law s g h d q r alike (began-same q r e) j k
item-same law s g h d (Began q) (Stepped step seen) alike e j k = absurd (cc)
item-same law s g h d (Stepped step seen) (Began r) alike e j k = absurd (cc)
item-same law s g h d (Stepped step seen) (Stepped other saw) alike e j k =
    under-same law s d (before_call g d.0) (before_call h d.0) (open_call g d.0) (open_call h d.0) (opens-alike s d g h alike)

abbrev reply_from : Answer ⊎ List ℕ → Reply
reply_from (inl answer) = audited_reply answer
reply_from (inr bytes) = replies.Done

reply-told : (a : Answer) → audited_reply a ≡ reply_from (keyless_answer a)
reply-told (answers.Mapped handle) = refl
reply-told (answers.Bytes b) = refl
reply-told a = refl

record-same : (d : DomId) (o : Option Hypercall) (a b : Option Answer) → option_map keyless_answer a ≡ option_map keyless_answer b → record_with d o a ≡ record_with d o b
record-same d o None None e = refl
record-same d o None (Some b) e = absurd (none-some (keyless_answer b) e)
record-same d o (Some a) None e = absurd (none-some (keyless_answer a) (sym e))
record-same d None (Some a) (Some b) e = refl
record-same d (Some call) (Some a) (Some b) e =
    ap (λ (r : Reply). Some (record { dom = d; call = call; reply = r })) (reply-told a ∙ ap reply_from (same_Some (keyless_answer a) (keyless_answer b) e) ∙ sym (reply-told b))

newest-record : HasOneSubject → (s : Setting) (i j : Item) (g h : History) → Newest s i j g h → record_of s g i ≡ record_of s h j
newest-record law s i j g h n =
    let own : i.actor ≡ j.actor = ap (λ (t : KeylessItem). t.actor) n.item in
    ap (λ (o : Option Hypercall). record_with i.actor o i.answer)
    (item-same law s g h i.actor i.happened j.happened n.alike (ap (λ (t : KeylessItem). t.happened) n.item) n.known
    (subst (λ (z : DomId). HappensKnown h (record { actor = z; happened = j.happened; answer = None })) (sym own) n.asked))
    ∙ record-same i.actor (item_hypercall s h i.actor j.happened) i.answer j.answer (ap (λ (t : KeylessItem). t.answer) n.item)
    ∙ ap (λ (z : DomId). record_with z (item_hypercall s h z j.happened) j.answer) own

-- the records of a history, in the order of the answers
unfoldable records_at : Setting → History → List Record
records_at s [] = []
records_at s (i ∷ before) = records_at s before ++ option_to_list (record_of s before i)

grown-records : (s : Setting) (h : History) (x : Element) → records_at s (grown h x) ≡ records_at s h ++ option_to_list (record_in s h x)
unfolding records_at
grown-records s h (elements.Item i) = refl
grown-records s h elements.Busy = sym (append-nil (records_at s h))
grown-records s h elements.Idle = sym (append-nil (records_at s h))
grown-records s h elements.NoDomain = sym (append-nil (records_at s h))

records-after : (s : Setting) (h : History) (xs : List Element) → records_at s (history_after h xs) ≡ records_at s h ++ records_of s h xs
records-after s h [] = sym (append-nil (records_at s h))
records-after s h (x ∷ xs) =
    records-after s (grown h x) xs ∙ ap (λ (l : List Record). l ++ records_of s (grown h x) xs) (grown-records s h x)
    ∙ append_assoc (records_at s h) (option_to_list (record_in s h x)) (records_of s (grown h x) xs)

records-all : (s : Setting) (xs : List Element) → records_at s (history_after [] xs) ≡ records_of s [] xs
unfolding records_at
records-all s xs = records-after s [] xs

records-same : HasOneSubject → (s : Setting) (g h : History) → AreAlike s g h → records_at s g ≡ records_at s h
unfolding records_at
records-same law s [] [] alike = refl
records-same law s [] (j ∷ h) alike = absurd (none-older j h alike.same)
records-same law s (i ∷ g) [] alike = absurd (none-newer i g alike.same)
records-same law s (i ∷ g) (j ∷ h) alike =
    let n = newest s i j g h alike in
    ap (λ (l : List Record). l ++ option_to_list (record_of s g i)) (records-same law s g h n.alike)
    ∙ ap (λ (o : Option Record). records_at s h ++ option_to_list o) (newest-record law s i j g h n)

-- traces that leave alike histories have one audit
pub audit-same : HasOneSubject → (audit : Bool) (s : Setting) (names : List (List ℕ)) (xs ys : List Element) → AreAlike s (history_after [] xs) (history_after [] ys) → audit_text audit s names xs ≡ audit_text audit s names ys
audit-same law audit s names xs ys alike =
    ap (asked_lines audit names) (sym (records-all s xs) ∙ records-same law s (history_after [] xs) (history_after [] ys) alike ∙ records-all s ys)
