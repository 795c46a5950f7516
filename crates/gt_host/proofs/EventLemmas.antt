-- What the events of one domain leave of the calls.
use Rattle.std.proofs.Common.{◌≡◌, ◌⊎◌, ℕ, zero, suc, Bool, true, false, List, [], ◌∷◌, ◌++◌, replicate, Option, None}
use Rattle.std.proofs.Common.{Some, refl, ap, sym, subst, ◌∙◌, inl, inr}
use Rattle.std.proofs.lemmas.Bool.{eqb-true, eq-eqb, false≢true}
use Rattle.std.specs.Prelude.{◌==◌}
use Rattle.gt_types.specs.declared.DomId.{DomId}
use Rattle.gt_model.specs.History.{History, Setting, Underway, open_call, underway_after}
use Rattle.gt_model.specs.Legal.{MayDo, IsRight, grown, LegalAfter, history_after, actor_of}
use Rattle.gt_model.specs.declared.request.Request.{Request}
use Rattle.gt_model.specs.declared.trace.Answer.{Answer}
use Rattle.gt_model.specs.declared.trace.Event.{Event}
use Rattle.gt_model.specs.declared.trace.Event.TheVariants.{Begin, Tick}
use Rattle.gt_model.specs.declared.trace.Element.{Element}
use Rattle.gt_model.specs.declared.trace.Element.TheVariants.{Busy, Idle, NoDomain}
use Rattle.gt_model.specs.declared.trace.Element.TheVariants as elements
use Rattle.gt_model.specs.declared.trace.ItemEvent.{ItemEvent}
use Rattle.gt_model.specs.declared.trace.ItemEvent.TheVariants.{Began}
use Rattle.gt_model.specs.declared.trace.Item.{Item}
use Rattle.gt_script_runs.specs.Runs.{answer_in, call_events}
use Rattle.gt_host.proofs.OpenLemmas.{own_call, other_call}

-- the events are of this domain
abbrev pub AreOf : DomId → List Event → Type 0
AreOf d [] = Unit {0}
AreOf d (e ∷ es) = (actor_of e ≡ d) × AreOf d es

pub ticks_of : (d : DomId) (n : ℕ) → AreOf d (replicate n (Tick d))
ticks_of d zero = tt
ticks_of d (suc n) = (refl, ticks_of d n)

-- an item is of the domain of its event
pub item_of : (s : Setting) (h : History) (e : Event) (i : Item) (d : DomId) → actor_of e ≡ d → MayDo s h e (elements.Item i) → i.actor ≡ d
item_of s h (Begin t request) i d own may = may.1.0 ∙ own
item_of s h (Tick t) i d own may = may.1.0 ∙ own

pub event_other : (s : Setting) (h : History) (e : Event) (x : Element) (d : DomId) (n : ℕ) → actor_of e ≡ d → MayDo s h e x → (d.0 ≡ n → ⊥) → open_call (grown h x) n ≡ open_call h n
event_other s h e Busy d n own may apart = refl
event_other s h e Idle d n own may apart = refl
event_other s h e NoDomain d n own may apart = refl
event_other s h e (elements.Item i) d n own may apart = other_call i h n (λ same. apart (sym (ap (λ (t : DomId). t.0) (item_of s h e i d own may)) ∙ same))

-- another domain's call stays as it is
pub events_other : (s : Setting) (h : History) (es : List Event) (xs : List Element) (d : DomId) (n : ℕ) → AreOf d es → LegalAfter s h es xs → (d.0 ≡ n → ⊥) → open_call (history_after h xs) n ≡ open_call h n
events_other s h [] [] d n own legal apart = refl
events_other s h [] (x ∷ xs) d n own legal apart = absurd legal
events_other s h (e ∷ es) [] d n own legal apart = absurd legal
events_other s h (e ∷ es) (x ∷ xs) d n own legal apart = events_other s (grown h x) es xs d n own.1 legal.1 apart ∙ event_other s h e x d n own.0 legal.0 apart

closes : (i : Item) (c : Option Underway) (a : Answer) → i.answer ≡ Some a → underway_after i c ≡ None
closes i c a e = subst (λ (o : Option Answer). underway_after (record { actor = i.actor; happened = i.happened; answer = o }) c ≡ None) (sym e) refl

pub event_closes : (s : Setting) (h : History) (e : Event) (x : Element) (d : DomId) (a : Answer) → actor_of e ≡ d → MayDo s h e x → answer_in x ≡ Some a → open_call (grown h x) d.0 ≡ None
event_closes s h e Busy d a own may answers = cc
event_closes s h e Idle d a own may answers = cc
event_closes s h e NoDomain d a own may answers = cc
event_closes s h e (elements.Item i) d a own may answers = own_call i h d.0 (ap (λ (t : DomId). t.0) (item_of s h e i d own may)) ∙ closes i (open_call h d.0) a answers

-- the answer ends the domain's call
pub events_close : (s : Setting) (h : History) (es : List Event) (xs : List Element) (x : Element) (d : DomId) (a : Answer) → AreOf d es → LegalAfter s h es (xs ++ x ∷ []) → answer_in x ≡ Some a → open_call (history_after h (xs ++ x ∷ [])) d.0 ≡ None
events_close s h [] [] x d a own legal answers = absurd legal
events_close s h [] (y ∷ xs) x d a own legal answers = absurd legal
events_close s h (e ∷ es) [] x d a own legal answers = event_closes s h e x d a own.0 legal.0 answers
events_close s h (e ∷ es) (y ∷ xs) x d a own legal answers = events_close s (grown h y) es xs x d a own.1 legal.1 answers

-- a call begins where its domain has none open
pub begins_fresh : (s : Setting) (h : History) (d : DomId) (request : Request) (i : Item) → MayDo s h (Begin d request) (elements.Item i) → open_call h d.0 ≡ None
begins_fresh s h d request i may =
    let right : IsRight s h (record { actor = i.actor; happened = Began request; answer = i.answer }) = subst (λ (did : ItemEvent). IsRight s h (record { actor = i.actor; happened = did; answer = i.answer })) may.1.1 may.2 in
    subst (λ (t : DomId). open_call h t.0 ≡ None) may.1.0 right.0

pub same_or_apart : (d n : ℕ) → (d ≡ n) ⊎ (d ≡ n → ⊥)
same_or_apart d n = by (d == n) refl
  where
    by : (b : Bool) → (d == n) ≡ b → (d ≡ n) ⊎ (d ≡ n → ⊥)
    by true e = inl (eqb-true d n e)
    by false e = inr (λ same. false≢true (sym e ∙ eq-eqb d n same))

-- a call that was answered left each domain's open call as it was
pub answered_leaves : (s : Setting) (h : History) (d : DomId) (request : Request) (count : ℕ) (i : Item) (xs before : List Element) (last : Element) (a : Answer) → elements.Item i ∷ xs ≡ before ++ last ∷ [] → answer_in last ≡ Some a
    → LegalAfter s h (call_events d request count) (elements.Item i ∷ xs) → (n : ℕ) → open_call (history_after h (elements.Item i ∷ xs)) n ≡ open_call h n
answered_leaves s h d request count i xs before last a order answers legal n =
    let own : AreOf d (call_events d request count) = (refl, ticks_of d count) in
    let ended : open_call (history_after h (before ++ last ∷ [])) d.0 ≡ None =
    events_close s h (call_events d request count) before last d a own (subst (λ (l : List Element). LegalAfter s h (call_events d request count) l) order legal) answers in
    let now : open_call (history_after h (elements.Item i ∷ xs)) d.0 ≡ None = subst (λ (l : List Element). open_call (history_after h l) d.0 ≡ None) (sym order) ended in
    elim (same_or_apart d.0 n) [
      | inl same ↦ subst (λ (m : ℕ). open_call (history_after h (elements.Item i ∷ xs)) m ≡ open_call h m) same (now ∙ sym (begins_fresh s h d request i legal.0))
      | inr apart ↦ events_other s h (call_events d request count) (elements.Item i ∷ xs) d n own legal apart
    ]
