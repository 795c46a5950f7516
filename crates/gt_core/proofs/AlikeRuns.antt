-- What an event does after a history, except for keys, is a function of the history. It is the same without keys. So
-- runs that are alike stay so.
use Rattle.gt_core.proofs.Words.{◌≡◌, ◌≢◌, ◌⊎◌, inl, inr, ℕ, refl, Bool, List, [], ◌∷◌, ◌++◌, Option, Some, None, sym}
use Rattle.gt_core.proofs.Words.{ap, ◌∙◌, take, drop, option_map, domain_of, DomId, DomainConfig, Denial}
use Rattle.gt_core.proofs.Words.{MAX_TABLE_FRAMES, Header, header_word, Handle, asked, begun_of, CallerKnowledge, path}
use Rattle.gt_core.proofs.Words.{HeldPin, Request, OpenRequest, Map, Unmap, Release, Load, Store, Peek, SetupTable}
use Rattle.gt_core.proofs.Words.{QuerySize, GetVersion, Observation, Word, Step, LookHeader, LookControl, LookBody}
use Rattle.gt_core.proofs.Words.{StoreHeader, Exchange, Action, CallResult, Answer, Event, Begin, Tick, ItemEvent}
use Rattle.gt_core.proofs.Words.{Began, Stepped, Item, Element, Busy, Idle, NoDomain, History, Setting, Underway}
use Rattle.gt_core.proofs.Words.{open_call, values, known_at, seen_by, exchange_sees, table_at, maps_answered_at}
use Rattle.gt_core.proofs.Words.{contents_at, mappings_at, mapping_of, MayDo, IsRight, StepsRight, AnsweredBy}
use Rattle.gt_core.proofs.Words.{refusal_in, verdict_in, bare_handle, bare_request, bare_event, bare_step}
use Rattle.gt_core.proofs.Words.{keyless_answer, keyless_item, KeylessItem, AsksKnown, IsOfKnown, IsRun, BeginsRight}
use Rattle.gt_core.proofs.Words.{grown, keyless_items, SameHistory, HappensKnown, AreAlike, IsItemOf, SameEvent}
use Rattle.gt_core.proofs.Words.{SameElement, arith}
use Rattle.gt_model.specs.declared.action.Action.TheVariants as actions
use Rattle.gt_model.specs.declared.action.Step.TheVariants as call_steps
use Rattle.gt_model.specs.declared.trace.Element.TheVariants as elements
use Rattle.gt_core.{proofs.Pins.word-bare, proofs.Pins.mapping-bare, proofs.Pins.known-bare, proofs.WithoutKeys.bare}
use Rattle.gt_core.{proofs.WithoutKeys.bared, proofs.WithoutKeys.bare_asked, proofs.WithoutKeys.bare_call}
use Rattle.gt_core.{proofs.WithoutKeys.asked-bare, proofs.WithoutKeys.values-bare, proofs.WithoutKeys.contents-bare}
use Rattle.gt_core.{proofs.WithoutKeys.bare-same, proofs.HandlesGiven.CallKnown, proofs.HandlesGiven.open-known}
use Rattle.gt_model.specs.declared.trace.Answer.TheVariants as answers
use Rattle.gt_model.specs.declared.request.OpenRequest.TheVariants.{Probe}

-- paths

abbrev pub bare_action : Action → Action
bare_action (actions.Step step) = actions.Step (bare_step step)
bare_action (actions.Done verdict) = actions.Done verdict

-- the handle that is named finds the same mapping without its key
abbrev FindsSame : (Handle → Option HeldPin) → (Handle → Option HeldPin) → OpenRequest → Type 0
FindsSame bared found (Unmap a) = bared (bare_handle a) ≡ found a
FindsSame bared found (Release a) = bared (bare_handle a) ≡ found a
FindsSame bared found (Load a off len) = bared (bare_handle a) ≡ found a
FindsSame bared found (Store a off len) = bared (bare_handle a) ≡ found a
FindsSame bared found r = Unit {0}

path-bare : (k : CallerKnowledge) (found : Handle → Option HeldPin) (d : DomId) (r : OpenRequest) (vs : List Observation) → FindsSame found k.mapping r
    → option_map bare_action (path (record k { mapping = found }) d (bare_asked r) vs) ≡ option_map bare_action (path k d r vs)
path-bare k found d (Probe c) vs same = refl
path-bare k found d r vs same = grind arith

begun-bare : (k : CallerKnowledge) (found : Handle → Option HeldPin) (d : DomId) (q : Request) → FindsSame found k.mapping (asked q) → begun_of (record k { mapping = found }) d (bare_request q) ≡ begun_of k d q
begun-bare k found d q same = grind arith

finds-same : (s : Setting) (h : History) (d : DomId) (r : OpenRequest) → IsRun s h → AsksKnown h d.0 r → FindsSame (mapping_of (mappings_at (bare h) d.0)) (mapping_of (mappings_at h d.0)) r
finds-same s h d r run k = grind (arith, mapping-bare)

path-at : (s : Setting) (h : History) (d : DomId) (r : OpenRequest) (vs : List Observation) → IsRun s h → AsksKnown h d.0 r
    → option_map bare_action (path (known_at s (bare h) d) d (bare_asked r) vs) ≡ option_map bare_action (path (known_at s h d) d r vs)
path-at s h d r vs run k = ap (λ (z : CallerKnowledge). option_map bare_action (path z d (bare_asked r) vs)) (known-bare s h d run)
    ∙ path-bare (known_at s h d) (mapping_of (mappings_at (bare h) d.0)) d r vs (finds-same s h d r run k)

begun-at : (s : Setting) (h : History) (d : DomId) (q : Request) → IsRun s h → AsksKnown h d.0 (asked q) → begun_of (known_at s (bare h) d) d (bare_request q) ≡ begun_of (known_at s h d) d q
begun-at s h d q run k = ap (λ (z : CallerKnowledge). begun_of z d (bare_request q)) (known-bare s h d run)
    ∙ begun-bare (known_at s h d) (mapping_of (mappings_at (bare h) d.0)) d q (finds-same s h d (asked q) run k)

seen-at : (s : Setting) (h : History) (d : DomId) (step : Step) → IsRun s h → seen_by s (bare h) d step ≡ seen_by s h d step
seen-at s h d (LookHeader dom) run = ap (λ (x : Header). Word (header_word x)) ((bared h).table s dom)
seen-at s h d (LookControl dom gref) run = ap (λ (w : ℕ). Word w) (word-bare s h dom.0 gref.0 run)
seen-at s h d (LookBody dom gref body_word) run = ap (λ (w : ℕ). Word w) ((bared h).body dom.0 gref.0 body_word)
seen-at s h d (call_steps.Pin p) run = ap (λ (w : ℕ). exchange_sees w p.word) (word-bare s h p.dom.0 p.gref.0 run)
seen-at s h d (Exchange gref looked change) run = ap (λ (w : ℕ). exchange_sees w looked) (word-bare s h d.0 gref.0 run)
seen-at s h d step run = refl

-- answers

-- the value of a call that is answered Ok after this step, or at its beginning
abbrev value_told : Setting → History → DomId → OpenRequest → Option Step → Option (Answer ⊎ List ℕ)
value_told s h d (Map dom gref flags) (Some (call_steps.Pin p)) = Some (inl (answers.Mapped (record { serial = maps_answered_at h d.0; key = 0 })))
value_told s h d (Load a off len) (Some (call_steps.Read t frame o n)) = Some (inr (take n (drop o (contents_at h t.0 frame))))
value_told s h d (Peek f off len) (Some (call_steps.Read t frame o n)) = Some (inr (take n (drop o (contents_at h t.0 frame))))
value_told s h d (SetupTable frames) None = Some (inl (answers.Frames (table_at s h d).frames))
value_told s h d (SetupTable frames) (Some (StoreHeader version stored)) = Some (inl (answers.Frames stored))
value_told s h d (QuerySize dom) (Some (LookHeader t)) = Some (inl (answers.Size (record { frames = (table_at s h t).frames; max = MAX_TABLE_FRAMES })))
value_told s h d (GetVersion dom) (Some (LookHeader t)) = Some (inl (answers.Version (table_at s h t).version))
value_told s h d r step = Some (inl answers.Done)

value-at : (s : Setting) (h : History) (d : DomId) (r : OpenRequest) (step : Option Step) → value_told s (bare h) d (bare_asked r) step ≡ value_told s h d r step
value-at s h d (Map dom gref flags) (Some (call_steps.Pin p)) = ap (λ (n : ℕ). Some (inl (answers.Mapped (record { serial = n; key = 0 })))) ((bared h).maps d.0)
value-at s h d (Load a off len) (Some (call_steps.Read t frame o n)) = ap (λ (l : List ℕ). Some (inr (take n (drop o l)))) (contents-bare h t.0 frame)
value-at s h d (Peek f off len) (Some (call_steps.Read t frame o n)) = ap (λ (l : List ℕ). Some (inr (take n (drop o l)))) (contents-bare h t.0 frame)
value-at s h d (SetupTable frames) None = ap (λ (x : Header). Some (inl (answers.Frames x.frames))) ((bared h).table s d)
value-at s h d (QuerySize dom) (Some (LookHeader t)) = ap (λ (x : Header). Some (inl (answers.Size (record { frames = x.frames; max = MAX_TABLE_FRAMES })))) ((bared h).table s t)
value-at s h d (GetVersion dom) (Some (LookHeader t)) = ap (λ (x : Header). Some (inl (answers.Version x.version))) ((bared h).table s t)
value-at s h d r step = refl

abbrev told_by : Option Denial → Option (Answer ⊎ List ℕ) → Option (Answer ⊎ List ℕ)
told_by (Some denial) value = Some (inl (answers.Denied denial))
told_by None value = value

-- the answer of a call with this result
abbrev answer_told : Setting → History → DomId → OpenRequest → Option Step → Option CallResult → Option (Answer ⊎ List ℕ)
answer_told s h d r step None = None
answer_told s h d r step (Some v) = told_by (refusal_in (Some v)) (value_told s h d r step)

answer-told : (s : Setting) (h : History) (d : DomId) (r : OpenRequest) (step : Option Step) (giving : Bool) (v : Option CallResult) (a : Option Answer) (against : Option Denial)
    → AnsweredBy s h d r step giving v a against → option_map keyless_answer a ≡ answer_told s h d r step v
answer-told s h d r step giving v a against is = grind arith

answer-at : (s : Setting) (h : History) (d : DomId) (r : OpenRequest) (step : Option Step) (v : Option CallResult) → answer_told s (bare h) d (bare_asked r) step v ≡ answer_told s h d r step v
answer-at s h d r step v = grind (arith, value-at)

-- items

abbrev began_told : Setting → History → DomId → Request → KeylessItem
began_told s h d q = record { actor = d; happened = Began (bare_request q); answer = answer_told s h d (asked q) None (begun_of (known_at s h d) d q) }

abbrev step_told : Setting → History → DomId → OpenRequest → List Observation → Step → KeylessItem
step_told s h d r vs step = let seen = seen_by s h d step in
    record { actor = d; happened = Stepped step seen; answer = answer_told s h d r (Some step) (verdict_in (option_map bare_action (path (known_at s h d) d r (vs ++ seen ∷ [])))) }

is-began : (s : Setting) (h : History) (d : DomId) (q : Request) (a : Option Answer) → BeginsRight s h (record { actor = d; happened = Began q; answer = a }) q
    → keyless_item (record { actor = d; happened = Began q; answer = a }) ≡ began_told s h d q
is-began s h d q a right = grind (arith, answer-told)

verdict-bare : (o : Option Action) → verdict_in (option_map bare_action o) ≡ verdict_in o
verdict-bare o = grind arith

is-stepped : (s : Setting) (h : History) (d : DomId) (step : Step) (seen : Observation) (a : Option Answer) (c : Underway) → StepsRight s h (record { actor = d; happened = Stepped step seen; answer = a }) step seen c
    → keyless_item (record { actor = d; happened = Stepped step seen; answer = a }) ≡ step_told s h d c.request (values c) (bare_step step)
is-stepped s h d step seen a c right = grind (arith, answer-told, verdict-bare)

began-at : (s : Setting) (h : History) (d : DomId) (q : Request) → IsRun s h → AsksKnown h d.0 (asked q) → began_told s (bare h) d (bare_request q) ≡ began_told s h d q
began-at s h d q run k = grind (arith, asked-bare, begun-at, answer-at)

stepped-at : (s : Setting) (h : History) (d : DomId) (r : OpenRequest) (vs : List Observation) (step : Step) → IsRun s h → AsksKnown h d.0 r → step_told s (bare h) d (bare_asked r) vs step ≡ step_told s h d r vs step
stepped-at s h d r vs step run k = grind (arith, seen-at, path-at, answer-at)

-- elements

abbrev pub element_told : Element → Element ⊎ KeylessItem
element_told (elements.Item i) = inr (keyless_item i)
element_told x = inl x

abbrev stepped_told : Setting → History → DomId → Underway → Option Action → Element ⊎ KeylessItem
stepped_told s h d c (Some (actions.Step step)) = inr (step_told s h d c.request (values c) step)
stepped_told s h d c o = inl Idle

abbrev tick_told : Setting → History → DomId → Option Underway → Element ⊎ KeylessItem
tick_told s h d None = inl Idle
tick_told s h d (Some c) = stepped_told s h d c (option_map bare_action (path (known_at s h d) d c.request (values c)))

abbrev begin_told : Setting → History → DomId → Request → Option Underway → Element ⊎ KeylessItem
begin_told s h d q None = inr (began_told s h d q)
begin_told s h d q (Some c) = inl Busy

abbrev within : Option DomainConfig → Element ⊎ KeylessItem → Element ⊎ KeylessItem
within None x = inl NoDomain
within (Some config) x = x

-- what the event does
abbrev pub doing : Setting → History → Event → Element ⊎ KeylessItem
doing s h (Begin d q) = within (domain_of s.domains d) (begin_told s h d q (open_call h d.0))
doing s h (Tick d) = within (domain_of s.domains d) (tick_told s h d (open_call h d.0))

is-within : (o : Option DomainConfig) (x y : Element ⊎ KeylessItem) → o ≢ None → x ≡ y → x ≡ within o y
is-within o x y some e = grind arith

is-busy : (s : Setting) (h : History) (d : DomId) (q : Request) (c : Option Underway) → c ≢ None → inl Busy ≡ begin_told s h d q c
is-busy s h d q c some = grind arith

begin-item : (s : Setting) (h : History) (d : DomId) (q : Request) (actor : DomId) (x : ItemEvent) (a : Option Answer) → actor ≡ d → x ≡ Began q → IsRight s h (record { actor = actor; happened = x; answer = a })
    → element_told (elements.Item (record { actor = actor; happened = x; answer = a })) ≡ begin_told s h d q (open_call h d.0)
begin-item s h d q actor x a own is right = grind (arith, is-began)

tick-item : (s : Setting) (h : History) (d : DomId) (actor : DomId) (x : ItemEvent) (a : Option Answer) → MayDo s h (Tick d) (elements.Item (record { actor = actor; happened = x; answer = a }))
    → element_told (elements.Item (record { actor = actor; happened = x; answer = a })) ≡ tick_told s h d (open_call h d.0)
tick-item s h d actor x a m = grind (arith, is-stepped)

-- an event does what this function gives
pub does : (s : Setting) (h : History) (e : Event) (x : Element) → MayDo s h e x → element_told x ≡ doing s h e
does s h (Begin d q) NoDomain m = ap (λ (o : Option DomainConfig). within o (begin_told s h d q (open_call h d.0))) (sym m)
does s h (Tick d) NoDomain m = ap (λ (o : Option DomainConfig). within o (tick_told s h d (open_call h d.0))) (sym m)
does s h (Begin d q) Busy m = is-within (domain_of s.domains d) (inl Busy) (begin_told s h d q (open_call h d.0)) m.0 (is-busy s h d q (open_call h d.0) m.1)
does s h (Tick d) Idle m = is-within (domain_of s.domains d) (inl Idle) (tick_told s h d (open_call h d.0)) m.0 (ap (tick_told s h d) (sym m.1))
does s h (Begin d q) (elements.Item i) m =
    is-within (domain_of s.domains d) (inr (keyless_item i)) (begin_told s h d q (open_call h d.0)) m.0 (begin-item s h d q i.actor i.happened i.answer m.1.0 m.1.1 m.2)
does s h (Tick d) (elements.Item i) m =
    is-within (domain_of s.domains d) (inr (keyless_item i)) (tick_told s h d (open_call h d.0)) m.0 (tick-item s h d i.actor i.happened i.answer m)
does s h e x m = absurd m

begin-at : (s : Setting) (h : History) (d : DomId) (q : Request) (c : Option Underway) → IsRun s h → AsksKnown h d.0 (asked q) → begin_told s (bare h) d (bare_request q) (option_map bare_call c) ≡ begin_told s h d q c
begin-at s h d q None run k = grind (arith, began-at)
begin-at s h d q (Some c) run k = refl

tick-at : (s : Setting) (h : History) (d : DomId) (c : Option Underway) → IsRun s h → CallKnown h d.0 c → tick_told s (bare h) d (option_map bare_call c) ≡ tick_told s h d c
tick-at s h d None run k = refl
tick-at s h d (Some c) run k = grind (arith, values-bare, path-at, stepped-at)

-- and it does the same without keys
pub does-bare : (s : Setting) (h : History) (e : Event) → IsRun s h → IsOfKnown h e → doing s (bare h) (bare_event e) ≡ doing s h e
does-bare s h (Begin d q) run k =
    ap (within (domain_of s.domains d)) (ap (begin_told s (bare h) d (bare_request q)) ((bared h).open_calls d.0) ∙ begin-at s h d q (open_call h d.0) run k)
does-bare s h (Tick d) run k =
    ap (within (domain_of s.domains d)) (ap (tick_told s (bare h) d) ((bared h).open_calls d.0) ∙ tick-at s h d (open_call h d.0) run (open-known s h d.0 run))

pub same-element : (x y : Element) → element_told x ≡ element_told y → SameElement x y
same-element x y e = grind arith

-- alike events do the same in alike runs
pub does-alike : (s : Setting) (g h : History) (e f : Event) (one other : Element) → AreAlike s g h → SameEvent e f → IsOfKnown g e → IsOfKnown h f → MayDo s g e one → MayDo s h f other → SameElement one other
does-alike s g h e f one other alike same j k m n = same-element one other
    (does s g e one m ∙ sym (does-bare s g e alike.first j)
    ∙ ap (λ (l : History). doing s l (bare_event e)) (bare-same g h alike.same) ∙ ap (doing s (bare h)) same
    ∙ does-bare s h f alike.second k ∙ sym (does s h f other n))

item-known : (h : History) (e : Event) (actor : DomId) (x : ItemEvent) (a : Option Answer) → IsOfKnown h e → IsItemOf e (record { actor = actor; happened = x; answer = a }) → HappensKnown h (record { actor = actor; happened = x; answer = a })
item-known h e actor x a k is = grind arith

done-right : (s : Setting) (h : History) (e : Event) (i : Item) → MayDo s h e (elements.Item i) → IsItemOf e i × IsRight s h i
done-right s h e i m = grind arith

run-grows : (s : Setting) (h : History) (e : Event) (i : Item) → IsRun s h → IsOfKnown h e → MayDo s h e (elements.Item i) → IsRun s (i ∷ h)
unfolding IsRun
run-grows s h e i run k m = let r = done-right s h e i m in (r.1, item-known h e i.actor i.happened i.answer k r.0, run)

same-grows : (i j : Item) (g h : History) → keyless_item i ≡ keyless_item j → SameHistory g h → SameHistory (i ∷ g) (j ∷ h)
unfolding keyless_items
same-grows i j g h e same = ap (λ (t : KeylessItem). t ∷ keyless_items g) e ∙ ap (λ (ts : List KeylessItem). keyless_item j ∷ ts) same

pub alike-grows : (s : Setting) (g h : History) (e f : Event) (one other : Element) → AreAlike s g h → IsOfKnown g e → IsOfKnown h f → MayDo s g e one → MayDo s h f other → SameElement one other
    → AreAlike s (grown g one) (grown h other)
alike-grows s g h e f one other alike k l m n same = grind (arith, run-grows, same-grows)
