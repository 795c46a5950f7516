-- The records of a trace, as it grows.
use Rattle.std.proofs.Common.{◌≡◌, ◌<◌, ◌+◌, ℕ, zero, suc, length, take, get_or, add-one, Bool, true, cond, List, []}
use Rattle.std.proofs.Common.{◌∷◌, ◌++◌, replicate, Option, None, Some, refl, ap, sym, subst, ◌∙◌, inl, inr}
use Rattle.std.proofs.Common.{append_assoc}
use Rattle.std.proofs.Math.Seq.{take-suc, take-length}
use Rattle.std.proofs.lemmas.List.{append-nil}
use Rattle.std.proofs.lemmas.Bool.{eq-eqb, ne_eqb}
use Rattle.std.specs.Prelude.{◌==◌, option_to_list}
use Rattle.gt_types.specs.declared.DomId.{DomId}
use Rattle.gt_model.specs.Asking.{asked, bytes_given_by}
use Rattle.gt_model.specs.declared.action.Observation.{Observation}
use Rattle.gt_model.specs.declared.action.Step.{Step}
use Rattle.gt_model.specs.declared.request.Request.{Request}
use Rattle.gt_text.specs.Printing.{type_text}
use Rattle.gt_audit.specs.Lines.{line_text}
use Rattle.gt_audit.specs.declared.record.Hypercall.{Hypercall}
use Rattle.gt_audit.specs.declared.record.Record.{Record}
use Rattle.gt_model.specs.History.{History, Setting, Underway, open_call, underway_after, underway_with}
use Rattle.gt_model.specs.Legal.{MayDo, grown, LegalAfter, history_after, actor_of}
use Rattle.gt_core.specs.Subject.{subject_at}
use Rattle.gt_model.specs.declared.trace.Answer.{Answer}
use Rattle.gt_model.specs.declared.trace.Event.{Event}
use Rattle.gt_model.specs.declared.trace.Event.TheVariants.{Begin, Tick}
use Rattle.gt_model.specs.declared.trace.Element.{Element}
use Rattle.gt_model.specs.declared.trace.Element.TheVariants.{Busy, Idle, NoDomain}
use Rattle.gt_model.specs.declared.trace.Element.TheVariants as elements
use Rattle.gt_model.specs.declared.trace.ItemEvent.{ItemEvent}
use Rattle.gt_model.specs.declared.trace.ItemEvent.TheVariants.{Began, Stepped}
use Rattle.gt_model.specs.declared.trace.Item.{Item}
use Rattle.gt_host.specs.declared.kept.PlayState.{PlayState}
use Rattle.gt_script_runs.specs.Auditing.{before_begun, before_call, hypercall_of_request, item_hypercall}
use Rattle.gt_script_runs.specs.Auditing.{open_hypercall, record_in, record_of, encoded_record, record_with}
use Rattle.gt_script_runs.specs.Auditing.{records_of, underway_hypercall, record_lines}
use Rattle.gt_host.specs.OpenCalls.{recorded_in}
use Rattle.gt_host.specs.Recording.{IsAudited}
use Rattle.gt_script_runs.specs.Runs.{AnswerNothing, answer_in, call_events}
use Rattle.gt_host.proofs.EventLemmas.{AreOf, answered_leaves, begins_fresh, events_close, item_of, same_or_apart}
use Rattle.gt_host.proofs.EventLemmas.{ticks_of}
use Rattle.gt_host.proofs.OpenLemmas.{other_call, own_call}
use Rattle.gt_host.proofs.RunLemmas.{history_after-append}

-- what open calls are told as

-- an item of the domain
own_before : (i : Item) (h : History) (d : ℕ) → i.actor.0 ≡ d → before_call (i ∷ h) d ≡ before_begun i.happened h (before_call h d)
unfolding before_call
own_before i h d own = ap (λ (b : Bool). cond b (before_begun i.happened h (before_call h d)) (before_call h d)) (eq-eqb i.actor.0 d own)

-- an item of another domain
other_before : (i : Item) (h : History) (d : ℕ) → (i.actor.0 ≡ d → ⊥) → before_call (i ∷ h) d ≡ before_call h d
unfolding before_call
other_before i h d apart = ap (λ (b : Bool). cond b (before_begun i.happened h (before_call h d)) (before_call h d)) (ne_eqb i.actor.0 d apart)

other_told : (s : Setting) (i : Item) (h : History) (d : DomId) → (i.actor.0 ≡ d.0 → ⊥) → open_hypercall s (i ∷ h) d ≡ open_hypercall s h d
other_told s i h d apart =
    ap (λ (b : History). underway_hypercall s d b (open_call (i ∷ h) d.0)) (other_before i h d.0 apart)
    ∙ ap (λ (o : Option Underway). underway_hypercall s d (before_call h d.0) o) (other_call i h d.0 apart)

-- no call is open
closed_told : (s : Setting) (h : History) (d : DomId) → open_call h d.0 ≡ None → open_hypercall s h d ≡ None
closed_told s h d none = ap (λ (o : Option Underway). underway_hypercall s d (before_call h d.0) o) none

-- a call began
began_told : (s : Setting) (i : Item) (h : History) (d : DomId) (request : Request) → i.actor ≡ d → i.happened ≡ Began request → i.answer ≡ None
    → open_hypercall s (i ∷ h) d ≡ hypercall_of_request (subject_at s h d) (asked request)
began_told s i h d request own began none =
    let here : i.actor.0 ≡ d.0 = ap (λ (t : DomId). t.0) own in
    let before : before_call (i ∷ h) d.0 ≡ h = own_before i h d.0 here ∙ ap (λ (e : ItemEvent). before_begun e h (before_call h d.0)) began in
    let call : open_call (i ∷ h) d.0 ≡ Some (record { request = asked request; given = bytes_given_by request; steps = [] }) =
    own_call i h d.0 here ∙ ap (λ (o : Option Answer). underway_after (record { actor = i.actor; happened = i.happened; answer = o }) (open_call h d.0)) none
    ∙ ap (λ (e : ItemEvent). underway_with e (open_call h d.0)) began in
    ap (λ (b : History). underway_hypercall s d b (open_call (i ∷ h) d.0)) before ∙ ap (λ (o : Option Underway). underway_hypercall s d h o) call

step_told : (s : Setting) (d : DomId) (begun : History) (step : Step) (seen : Observation) (c : Option Underway) → underway_hypercall s d begun (underway_with (Stepped step seen) c) ≡ underway_hypercall s d begun c
step_told s d begun step seen None = refl
step_told s d begun step seen (Some c) = refl

-- a step that does not answer
stepped_told : (s : Setting) (actor : DomId) (step : Step) (seen : Observation) (h : History) (d : DomId) → actor ≡ d
    → open_hypercall s (record { actor = actor; happened = Stepped step seen; answer = None } ∷ h) d ≡ open_hypercall s h d
stepped_told s actor step seen h d own =
    let i : Item = record { actor = actor; happened = Stepped step seen; answer = None } in
    let here : actor.0 ≡ d.0 = ap (λ (t : DomId). t.0) own in
    ap (λ (b : History). underway_hypercall s d b (open_call (i ∷ h) d.0)) (own_before i h d.0 here)
    ∙ ap (λ (o : Option Underway). underway_hypercall s d (before_call h d.0) o) (own_call i h d.0 here)
    ∙ step_told s d (before_call h d.0) step seen (open_call h d.0)

item_tick_told : (s : Setting) (h : History) (d : DomId) (actor : DomId) (happened : ItemEvent) (answer : Option Answer) → answer ≡ None
    → MayDo s h (Tick d) (elements.Item (record { actor = actor; happened = happened; answer = answer }))
    → open_hypercall s (record { actor = actor; happened = happened; answer = answer } ∷ h) d ≡ open_hypercall s h d
item_tick_told s h d actor (Began other) answer none may = absurd may.1.1
item_tick_told s h d actor (Stepped step seen) None none may = stepped_told s actor step seen h d may.1.0
item_tick_told s h d actor (Stepped step seen) (Some answer) none may = cc

-- a tick that does not answer
tick_told : (s : Setting) (h : History) (d : DomId) (x : Element) → MayDo s h (Tick d) x → answer_in x ≡ None → open_hypercall s (grown h x) d ≡ open_hypercall s h d
tick_told s h d Busy may none = refl
tick_told s h d Idle may none = refl
tick_told s h d NoDomain may none = refl
tick_told s h d (elements.Item i) may none = item_tick_told s h d i.actor i.happened i.answer none may

-- ticks that do not answer
ticks_told : (s : Setting) (h : History) (d : DomId) (n : ℕ) (xs : List Element) → LegalAfter s h (replicate n (Tick d)) xs → AnswerNothing xs → open_hypercall s (history_after h xs) d ≡ open_hypercall s h d
ticks_told s h d zero [] legal quiet = refl
ticks_told s h d zero (x ∷ xs) legal quiet = absurd legal
ticks_told s h d (suc n) [] legal quiet = absurd legal
ticks_told s h d (suc n) (x ∷ xs) legal quiet = ticks_told s (grown h x) d n xs legal.1 quiet.1 ∙ tick_told s h d x legal.0 quiet.0

event_told : (s : Setting) (h : History) (e : Event) (x : Element) (d t : DomId) → actor_of e ≡ d → MayDo s h e x → (d.0 ≡ t.0 → ⊥) → open_hypercall s (grown h x) t ≡ open_hypercall s h t
event_told s h e Busy d t own may apart = refl
event_told s h e Idle d t own may apart = refl
event_told s h e NoDomain d t own may apart = refl
event_told s h e (elements.Item i) d t own may apart = other_told s i h t (λ same. apart (sym (ap (λ (u : DomId). u.0) (item_of s h e i d own may)) ∙ same))

-- another domain's call is told as it was
events_told : (s : Setting) (h : History) (es : List Event) (xs : List Element) (d t : DomId) → AreOf d es → LegalAfter s h es xs → (d.0 ≡ t.0 → ⊥) → open_hypercall s (history_after h xs) t ≡ open_hypercall s h t
events_told s h [] [] d t own legal apart = refl
events_told s h [] (x ∷ xs) d t own legal apart = absurd legal
events_told s h (e ∷ es) [] d t own legal apart = absurd legal
events_told s h (e ∷ es) (x ∷ xs) d t own legal apart = events_told s (grown h x) es xs d t own.1 legal.1 apart ∙ event_told s h e x d t own.0 legal.0 apart

-- records

-- the records of elements, and then of others
records_of-append : (s : Setting) (h : History) (xs ys : List Element) → records_of s h (xs ++ ys) ≡ records_of s h xs ++ records_of s (history_after h xs) ys
records_of-append s h [] ys = refl
records_of-append s h (x ∷ xs) ys =
    ap (λ (l : List Record). option_to_list (record_in s h x) ++ l) (records_of-append s (grown h x) xs ys)
    ∙ sym (append_assoc (option_to_list (record_in s h x)) (records_of s (grown h x) xs) (records_of s (history_after (grown h x) xs) ys))

no_record : (s : Setting) (h : History) (x : Element) → answer_in x ≡ None → record_in s h x ≡ None
no_record s h Busy none = refl
no_record s h Idle none = refl
no_record s h NoDomain none = refl
no_record s h (elements.Item i) none = ap (λ (o : Option Answer). record_with i.actor (item_hypercall s h i.actor i.happened) o) none

-- elements that answer nothing have no record
no_records : (s : Setting) (h : History) (xs : List Element) → AnswerNothing xs → records_of s h xs ≡ []
no_records s h [] quiet = refl
no_records s h (x ∷ xs) quiet =
    ap (λ (o : Option Record). option_to_list o ++ records_of s (grown h x) xs) (no_record s h x quiet.0) ∙ no_records s (grown h x) xs quiet.1

item_record : (s : Setting) (h : History) (d : DomId) (actor : DomId) (happened : ItemEvent) (answer : Option Answer) (a : Answer) → answer ≡ Some a
    → MayDo s h (Tick d) (elements.Item (record { actor = actor; happened = happened; answer = answer }))
    → record_of s h (record { actor = actor; happened = happened; answer = answer }) ≡ encoded_record d (open_hypercall s h d) a
item_record s h d actor (Began other) answer a is may = absurd may.1.1
item_record s h d actor (Stepped step seen) answer a is may =
    ap (λ (o : Option Answer). record_with actor (open_hypercall s h actor) o) is ∙ ap (λ (t : DomId). encoded_record t (open_hypercall s h t) a) may.1.0

-- the tick that answers
tick_record : (s : Setting) (h : History) (d : DomId) (x : Element) (a : Answer) → MayDo s h (Tick d) x → answer_in x ≡ Some a → record_in s h x ≡ encoded_record d (open_hypercall s h d) a
tick_record s h d Busy a may is = cc
tick_record s h d Idle a may is = cc
tick_record s h d NoDomain a may is = cc
tick_record s h d (elements.Item i) a may is = item_record s h d i.actor i.happened i.answer a is may

-- ticks of which the last answers
ticks_record : (s : Setting) (h : History) (d : DomId) (n : ℕ) (before : List Element) (last : Element) (a : Answer) → LegalAfter s h (replicate n (Tick d)) (before ++ last ∷ []) → AnswerNothing before → answer_in last ≡ Some a
    → records_of s h (before ++ last ∷ []) ≡ option_to_list (encoded_record d (open_hypercall s h d) a)
ticks_record s h d zero [] last a legal quiet is = absurd legal
ticks_record s h d zero (x ∷ before) last a legal quiet is = absurd legal
ticks_record s h d (suc n) [] last a legal quiet is =
    append-nil (option_to_list (record_in s h last)) ∙ ap (λ (o : Option Record). option_to_list o) (tick_record s h d last a legal.0 is)
ticks_record s h d (suc n) (x ∷ before) last a legal quiet is =
    ap (λ (o : Option Record). option_to_list o ++ records_of s (grown h x) (before ++ last ∷ [])) (no_record s h x quiet.0)
    ∙ ticks_record s (grown h x) d n before last a legal.1 quiet.1 is
    ∙ ap (λ (o : Option Hypercall). option_to_list (encoded_record d o a)) (tick_told s h d x legal.0 quiet.0)

-- a call that is answered at its beginning
first_record : (s : Setting) (h : History) (d : DomId) (request : Request) (i : Item) (a : Answer) → i.actor ≡ d → i.happened ≡ Began request → i.answer ≡ Some a
    → record_of s h i ≡ encoded_record d (hypercall_of_request (subject_at s h d) (asked request)) a
first_record s h d request i a own began is =
    ap (λ (o : Option Answer). record_with i.actor (item_hypercall s h i.actor i.happened) o) is
    ∙ ap (λ (e : ItemEvent). encoded_record i.actor (item_hypercall s h i.actor e) a) began
    ∙ ap (λ (t : DomId). encoded_record t (hypercall_of_request (subject_at s h t) (asked request)) a) own

-- a call, from its beginning to its answer
call_record : (s : Setting) (h : History) (d : DomId) (request : Request) (count : ℕ) (i : Item) (xs before : List Element) (last : Element) (a : Answer) → elements.Item i ∷ xs ≡ before ++ last ∷ [] → AnswerNothing before → answer_in last ≡ Some a
    → LegalAfter s h (call_events d request count) (elements.Item i ∷ xs) → records_of s h (elements.Item i ∷ xs) ≡ option_to_list (encoded_record d (hypercall_of_request (subject_at s h d) (asked request)) a)
call_record s h d request count i xs [] last a order quiet is legal =
    let none : xs ≡ [] = cc in
    let same : last ≡ elements.Item i = cc in
    let answer : i.answer ≡ Some a = ap answer_in (sym same) ∙ is in
    ap (λ (l : List Element). option_to_list (record_of s h i) ++ records_of s (i ∷ h) l) none ∙ append-nil (option_to_list (record_of s h i))
    ∙ ap (λ (o : Option Record). option_to_list o) (first_record s h d request i a legal.0.1.0 legal.0.1.1 answer)
call_record s h d request count i xs (x ∷ before) last a order quiet is legal =
    let rest : xs ≡ before ++ last ∷ [] = cc in
    let same : x ≡ elements.Item i = cc in
    let none : i.answer ≡ None = ap answer_in (sym same) ∙ quiet.0 in
    ap (λ (o : Option Record). option_to_list o ++ records_of s (i ∷ h) xs) (no_record s h (elements.Item i) none)
    ∙ ap (records_of s (i ∷ h)) rest
    ∙ ticks_record s (i ∷ h) d count before last a (subst (λ (l : List Element). LegalAfter s (i ∷ h) (replicate count (Tick d)) l) rest legal.1) quiet.1 is
    ∙ ap (λ (o : Option Hypercall). option_to_list (encoded_record d o a)) (began_told s i h d request legal.0.1.0 legal.0.1.1 none)

-- what is kept for the audit

-- the domain with this number
abbrev pub at : ℕ → DomId
at n = record { 0 = n }

-- the open calls are told as the history has them
abbrev pub AreTold : Setting → History → (ℕ → Option Hypercall) → Type 0
AreTold s h told = (n : ℕ) → told n ≡ open_hypercall s h (at n)

-- the records of these elements came to the others, and the open calls are told as after them
pub record Records (s : Setting) (h : History) (trace : List Element) (old new : List Record) (told : ℕ → Option Hypercall) : Type 0 where
  pub records : new ≡ old ++ records_of s h trace
  pub calls : AreTold s (history_after h trace) told

-- more is recorded
pub audited_more : (s : Setting) (audit : Bool) (before trace : List Element) (kept next : PlayState) → IsAudited s audit before kept → next.audit.is_on ≡ kept.audit.is_on
    → (kept.audit.is_on ≡ true → AreTold s (history_after [] before) (recorded_in kept.calls) → Records s (history_after [] before) trace kept.audit.records.items next.audit.records.items (recorded_in next.calls))
    → IsAudited s audit (before ++ trace) next
audited_more s audit before trace kept next was same more = record {
  is_on = same ∙ was.is_on;
  recorded = λ asked_for.
      let now = was.recorded asked_for in
      let grown_by = more (was.is_on ∙ asked_for) now.calls in
      record {
        records = grown_by.records ∙ ap (λ (l : List Record). l ++ records_of s (history_after [] before) trace) now.records ∙ sym (records_of-append s [] before trace);
        calls = λ n. grown_by.calls n ∙ ap (λ (h : History). open_hypercall s h (at n)) (sym (history_after-append [] before trace));
      };
}

-- the answer of a call of the domain that is told so came to the records
pub record AddsRecord (kept next : PlayState) (d : DomId) (told : Option Hypercall) (a : Answer) : Type 0 where
  pub is_on : next.audit.is_on ≡ kept.audit.is_on
  pub records : next.audit.records.items ≡ kept.audit.records.items ++ option_to_list (encoded_record d told a)

-- a domain that is busy
pub audited_busy : (s : Setting) (h : History) (trace : List Element) (rs : List Record) (told : ℕ → Option Hypercall) → trace ≡ Busy ∷ [] → AreTold s h told → Records s h trace rs rs told
audited_busy s h trace rs told is known = subst (λ (l : List Element). Records s h l rs rs told) (sym is) (record { records = sym (append-nil rs); calls = known })

-- one domain's call changed
calls_told : (s : Setting) (h g : History) (d : DomId) (old new : ℕ → Option Hypercall) → AreTold s h old → ((n : ℕ) → (d.0 ≡ n → ⊥) → new n ≡ old n) → ((t : DomId) → (d.0 ≡ t.0 → ⊥) → open_hypercall s g t ≡ open_hypercall s h t)
    → new d.0 ≡ open_hypercall s g d → AreTold s g new
calls_told s h g d old new known kept stays here n = elim (same_or_apart d.0 n) [
  | inl same ↦ subst (λ (m : ℕ). new m ≡ open_hypercall s g (at m)) same here
  | inr apart ↦ kept n apart ∙ known n ∙ sym (stays (at n) apart)
]

-- a call that came to its answer
pub audited_call : (s : Setting) (h : History) (d : DomId) (request : Request) (count : ℕ) (i : Item) (xs before : List Element) (last : Element) (a : Answer) (rs new : List Record) (told : ℕ → Option Hypercall) (hyper : Option Hypercall)
    → elements.Item i ∷ xs ≡ before ++ last ∷ [] → AnswerNothing before → answer_in last ≡ Some a → LegalAfter s h (call_events d request count) (elements.Item i ∷ xs)
    → hyper ≡ hypercall_of_request (subject_at s h d) (asked request) → new ≡ rs ++ option_to_list (encoded_record d hyper a) → AreTold s h told → Records s h (elements.Item i ∷ xs) rs new told
audited_call s h d request count i xs before last a rs new told hyper order quiet is legal about added known =
    let own : AreOf d (call_events d request count) = (refl, ticks_of d count) in
    let was : open_call h d.0 ≡ None = begins_fresh s h d request i legal.0 in
    let now : open_call (history_after h (elements.Item i ∷ xs)) d.0 ≡ None = answered_leaves s h d request count i xs before last a order is legal d.0 ∙ was in
    record {
      records = added ∙ ap (λ (o : Option Hypercall). rs ++ option_to_list (encoded_record d o a)) about ∙ ap (λ (l : List Record). rs ++ l) (sym (call_record s h d request count i xs before last a order quiet is legal));
      calls = calls_told s h (history_after h (elements.Item i ∷ xs)) d told told known (λ n apart. refl) (λ t apart. events_told s h (call_events d request count) (elements.Item i ∷ xs) d t own legal apart)
          (known d.0 ∙ closed_told s h d was ∙ sym (closed_told s (history_after h (elements.Item i ∷ xs)) d now));
    }

picked_other : (told : ℕ → Option Hypercall) (hyper : Option Hypercall) (d n : ℕ) → (d ≡ n → ⊥) → cond (n == d) hyper (told n) ≡ told n
picked_other told hyper d n apart = ap (λ (b : Bool). cond b hyper (told n)) (ne_eqb n d (λ e. apart (sym e)))

picked_own : (told : ℕ → Option Hypercall) (hyper : Option Hypercall) (d : ℕ) → cond (d == d) hyper (told d) ≡ hyper
picked_own told hyper d = ap (λ (b : Bool). cond b hyper (told d)) (eq-eqb d d refl)

-- a call that stays open
pub audited_begun : (s : Setting) (h : History) (d : DomId) (request : Request) (rs : List Record) (old new : ℕ → Option Hypercall) (hyper : Option Hypercall)
    → MayDo s h (Begin d request) (elements.Item (record { actor = d; happened = Began request; answer = None })) → hyper ≡ hypercall_of_request (subject_at s h d) (asked request)
    → ((n : ℕ) → new n ≡ cond (n == d.0) hyper (old n)) → AreTold s h old → Records s h (elements.Item (record { actor = d; happened = Began request; answer = None }) ∷ []) rs rs new
audited_begun s h d request rs old new hyper may about picked known =
    let i : Item = record { actor = d; happened = Began request; answer = None } in
    record {
      records = sym (append-nil rs);
      calls = calls_told s h (i ∷ h) d old new known (λ n apart. picked n ∙ picked_other old hyper d.0 n apart) (λ t apart. event_told s h (Begin d request) (elements.Item i) d t refl may apart)
          (picked d.0 ∙ picked_own old hyper d.0 ∙ about ∙ sym (began_told s i h d request refl refl refl));
    }

-- ticks that came to the answer
pub audited_ticks : (s : Setting) (h : History) (d : DomId) (count : ℕ) (trace before : List Element) (last : Element) (a : Answer) (rs added : List Record) (old new : ℕ → Option Hypercall) (hyper : Option Hypercall)
    → trace ≡ before ++ last ∷ [] → AnswerNothing before → answer_in last ≡ Some a → LegalAfter s h (replicate count (Tick d)) trace
    → hyper ≡ old d.0 → added ≡ rs ++ option_to_list (encoded_record d hyper a) → ((n : ℕ) → new n ≡ cond (n == d.0) None (old n)) → AreTold s h old → Records s h trace rs added new
audited_ticks s h d count trace before last a rs added old new hyper order quiet is legal about appended picked known =
    let own : AreOf d (replicate count (Tick d)) = ticks_of d count in
    let made = subst (λ (l : List Element). LegalAfter s h (replicate count (Tick d)) l) order legal in
    let now : open_call (history_after h trace) d.0 ≡ None =
    subst (λ (l : List Element). open_call (history_after h l) d.0 ≡ None) (sym order) (events_close s h (replicate count (Tick d)) before last d a own made is) in
    record {
      records = appended ∙ ap (λ (o : Option Hypercall). rs ++ option_to_list (encoded_record d o a)) (about ∙ known d.0)
          ∙ ap (λ (l : List Record). rs ++ l) (sym (ap (records_of s h) order ∙ ticks_record s h d count before last a made quiet is));
      calls = calls_told s h (history_after h trace) d old new known (λ n apart. picked n ∙ picked_other old None d.0 n apart)
          (λ t apart. events_told s h (replicate count (Tick d)) trace d t own legal apart)
          (picked d.0 ∙ picked_own old None d.0 ∙ sym (closed_told s (history_after h trace) d now));
    }

-- ticks that did not
pub audited_wait : (s : Setting) (h : History) (d : DomId) (count : ℕ) (trace : List Element) (rs : List Record) (told : ℕ → Option Hypercall)
    → AnswerNothing trace → LegalAfter s h (replicate count (Tick d)) trace → AreTold s h told → Records s h trace rs rs told
audited_wait s h d count trace rs told quiet legal known =
    record {
      records = sym (ap (λ (l : List Record). rs ++ l) (no_records s h trace quiet) ∙ append-nil rs);
      calls = calls_told s h (history_after h trace) d told told known (λ n apart. refl) (λ t apart. events_told s h (replicate count (Tick d)) trace d t (ticks_of d count) legal apart)
          (known d.0 ∙ sym (ticks_told s h d count trace legal quiet));
    }

-- the lines of records, one after the other

record_lines-append : (names : List (List ℕ)) (rs : List Record) (r : Record) → record_lines names (rs ++ r ∷ []) ≡ record_lines names rs ++ line_text (type_text (λ name. name) names) r
record_lines-append names [] r = append-nil (line_text (type_text (λ name. name) names) r)
record_lines-append names (x ∷ rs) r =
    ap (λ (l : List ℕ). line_text (type_text (λ name. name) names) x ++ l) (record_lines-append names rs r)
    ∙ sym (append_assoc (line_text (type_text (λ name. name) names) x) (record_lines names rs) (line_text (type_text (λ name. name) names) r))

-- a record more
pub record_more : (names : List (List ℕ)) (rs : List Record) (i : ℕ) (e : Record) (start before after : List ℕ) → i < length rs → before ≡ start ++ record_lines names (take i rs)
    → after ≡ before ++ line_text (type_text (λ name. name) names) (get_or rs i e) → after ≡ start ++ record_lines names (take (i + 1) rs)
record_more names rs i e start before after within so_far line =
    let r : Record = get_or rs i e in
    let first : take (i + 1) rs ≡ take i rs ++ r ∷ [] = rw add-one (take-suc rs i e within) in
    line ∙ ap (λ (l : List ℕ). l ++ line_text (type_text (λ name. name) names) r) so_far ∙ append_assoc start (record_lines names (take i rs)) (line_text (type_text (λ name. name) names) r)
    ∙ ap (λ (l : List ℕ). start ++ l) (sym (ap (record_lines names) first ∙ record_lines-append names (take i rs) r))

-- all of them
pub all_records : (names : List (List ℕ)) (rs : List Record) (i : ℕ) (start after : List ℕ) → i ≡ length rs → after ≡ start ++ record_lines names (take i rs) → after ≡ start ++ record_lines names rs
all_records names rs i start after all so_far = so_far ∙ ap (λ (l : List Record). start ++ record_lines names l) (ap (λ (k : ℕ). take k rs) all ∙ take-length rs)
