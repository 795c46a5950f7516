-- A call continues from the states that its step left as it would from those before it, and what it leaves is what
-- the step would leave after it.
use Rattle.gt_core.proofs.Words.{◌≡◌, ◌<◌, ◌==◌, ℕ, zero, suc, refl, Bool, List, [], ◌∷◌, length, Option, Some, None}
use Rattle.gt_core.proofs.Words.{cond, ltb, sym, ap, ◌∙◌, subst, arith, same_Some, slice_get, get_or, set, position}
use Rattle.gt_core.proofs.Words.{position_or_len, DomId, DomainConfig, TypeId, Perms, OwnerEntry, Header, HandleMap}
use Rattle.gt_core.proofs.Words.{HeldPin, Entry, Via, CopyArgs, AccessPath, Observation, Taken, Granted, Given, Refused}
use Rattle.gt_core.proofs.Words.{Step, Unpin, StoreBody, StoreHeader, Exchange, Action, Done, Call, Phase, Storing}
use Rattle.gt_core.proofs.Words.{StoringSecond, Walking, PinPurpose, Mapping, Source, Dest, Leg, LegNext, Going, Pinned}
use Rattle.gt_core.proofs.Words.{CallerKnowledge, knowledge_of, phase_after, after_leg, after_source_pin}
use Rattle.gt_core.proofs.Words.{after_dest_pin, leg_after, action_at, OpenCall, Answer, State, changed_in, applied}
use Rattle.gt_core.proofs.Words.{with_slot, with_own, with_header, without_holder, with_underway, with_mapping, Settled}
use Rattle.gt_core.proofs.Words.{Closed, FrameSet, Adds, History, Setting, Underway, OpenAgrees, Unpinned, Stored}
use Rattle.gt_core.proofs.Words.{PinHolder, GrantRef, BodyWord, first_body, second_body, cond_both, position-Some}
use Rattle.gt_core.proofs.Words.{slice_get-get_or}
use Rattle.gt_model.specs.declared.action.Action.TheVariants as actions
use Rattle.gt_model.specs.declared.trace.Answer.TheVariants as answers
use Rattle.gt_model.specs.declared.change.BodyWord.TheVariants as body_words
use Rattle.gt_model.specs.declared.action.Step.TheVariants as call_steps
use Rattle.gt_model.specs.declared.request.PinHolder.TheVariants as holders
use Rattle.gt_calls.specs.declared.leg.LegNext.TheVariants as leg_outcomes
use Rattle.gt_model.specs.declared.action.CallResult.TheVariants as results
use Rattle.gt_calls.specs.Following.{IsLeftAlike}
use Rattle.gt_core.specs.declared.pin_counts.CountsChange.{CountsChange}
use Rattle.gt_core.specs.declared.pin_counts.CountsChange.TheVariants as counts_changes
use Rattle.gt_core.proofs.{Rows.has_id, Rows.set-state, CallsOver.length-applied, Phases.makes-same}
use Rattle.gt_calls.specs.Machine.{settled}

-- two changes of states

-- those of two domains, or of two parts of one, can be made in either order
changed-swap : (xs : List State) (d t : ℕ) (f g : State → State) → ((x : State) → (f x).id ≡ x.id) → ((x : State) → (g x).id ≡ x.id) → ((x : State) → f (g x) ≡ g (f x)) → changed_in d f (changed_in t g xs) ≡ changed_in t g (changed_in d f xs)
changed-swap [] d t f g a b c = refl
changed-swap (z ∷ zs) d t f g a b c = grind (arith, changed-swap zs d t f g a b c, a z, b z, c z)

pub kept-id : (holder : PinHolder) (x : State) → (without_holder holder x).id ≡ x.id
kept-id (holders.Mapping handle) x = refl
kept-id (holders.Leg n) x = refl

-- a change of the actor's state that no step makes can be made before a step or after it
applied-swap : (d : DomId) (step : Step) (seen : Observation) (u : Option OpenCall) (xs : List State) → changed_in d.0 (with_underway u) (applied d step seen xs) ≡ applied d step seen (changed_in d.0 (with_underway u) xs)
applied-swap d (call_steps.Pin p) Taken u xs = changed-swap xs d.0 p.dom.0 (with_underway u) (with_slot p.gref.0 (counts_changes.Pinned p.dir)) (λ x. refl) (λ x. refl) (λ x. refl)
applied-swap d (Exchange gref looked change) Taken u xs = changed-swap xs d.0 d.0 (with_underway u) (with_own gref.0 change) (λ x. refl) (λ x. refl) (λ x. refl)
applied-swap d (Unpin p holder) seen u xs =
    changed-swap (changed_in p.dom.0 (with_slot p.gref.0 (Unpinned p.dir)) xs) d.0 d.0 (with_underway u) (without_holder holder) (λ x. refl) (kept-id holder) (swapped holder)
    ∙ ap (changed_in d.0 (without_holder holder)) (changed-swap xs d.0 p.dom.0 (with_underway u) (with_slot p.gref.0 (Unpinned p.dir)) (λ x. refl) (λ x. refl) (λ x. refl))
  where
    swapped : (h : PinHolder) (x : State) → with_underway u (without_holder h x) ≡ without_holder h (with_underway u x)
    swapped (holders.Mapping handle) x = refl
    swapped (holders.Leg n) x = refl
applied-swap d (StoreBody gref body_word word) seen u xs = changed-swap xs d.0 d.0 (with_underway u) (with_slot gref.0 (Stored body_word word)) (λ x. refl) (λ x. refl) (λ x. refl)
applied-swap d (StoreHeader version frames) seen u xs = changed-swap xs d.0 d.0 (with_underway u) (with_header version frames) (λ x. refl) (λ x. refl) (λ x. refl)
applied-swap d step seen u xs = refl

-- and so can that of a map that keeps its pin
mapped-swap : (d : DomId) (p : HeldPin) (seen : Observation) (kept : HandleMap HeldPin) (xs : List State) → changed_in d.0 (with_mapping kept) (applied d (call_steps.Pin p) seen xs) ≡ applied d (call_steps.Pin p) seen (changed_in d.0 (with_mapping kept) xs)
mapped-swap d p Taken kept xs = changed-swap xs d.0 p.dom.0 (with_mapping kept) (with_slot p.gref.0 (counts_changes.Pinned p.dir)) (λ x. refl) (λ x. refl) (λ x. refl)
mapped-swap d p seen kept xs = refl

-- the indices of domains

place-changed : (xs : List State) (d t : ℕ) (g : State → State) → ((x : State) → (g x).id ≡ x.id) → position_or_len (has_id d) (changed_in t g xs) ≡ position_or_len (has_id d) xs
place-changed [] d t g keeps = refl
place-changed (z ∷ zs) d t g keeps = grind (arith, place-changed zs d t g keeps, keeps z)

place-applied : (d : DomId) (step : Step) (seen : Observation) (xs : List State) → position_or_len (has_id d.0) (applied d step seen xs) ≡ position_or_len (has_id d.0) xs
place-applied d (call_steps.Pin p) Taken xs = place-changed xs d.0 p.dom.0 (with_slot p.gref.0 (counts_changes.Pinned p.dir)) (λ x. refl)
place-applied d (Exchange gref looked change) Taken xs = place-changed xs d.0 d.0 (with_own gref.0 change) (λ x. refl)
place-applied d (Unpin p holder) seen xs = place-changed (changed_in p.dom.0 (with_slot p.gref.0 (Unpinned p.dir)) xs) d.0 d.0 (without_holder holder) (kept-id holder)
    ∙ place-changed xs d.0 p.dom.0 (with_slot p.gref.0 (Unpinned p.dir)) (λ x. refl)
place-applied d (StoreBody gref body_word word) seen xs = place-changed xs d.0 d.0 (with_slot gref.0 (Stored body_word word)) (λ x. refl)
place-applied d (StoreHeader version frames) seen xs = place-changed xs d.0 d.0 (with_header version frames) (λ x. refl)
place-applied d step seen xs = refl

-- a domain keeps its index after the step
pub still-there : (d : DomId) (step : Step) (seen : Observation) (xs : List State) → position (has_id d.0) (applied d step seen xs) ≡ position (has_id d.0) xs
still-there d step seen xs = ap (λ (n : ℕ). cond (ltb n (length (applied d step seen xs))) (Some n) None) (place-applied d step seen xs)
    ∙ ap (λ (m : ℕ). cond (ltb (position_or_len (has_id d.0) xs) m) (Some (position_or_len (has_id d.0) xs)) None) (length-applied d step seen xs)

pub still-within : (d : DomId) (step : Step) (seen : Observation) (xs ws : List State) (at : ℕ) (x : State) → position (has_id d.0) xs ≡ Some at → ws ≡ applied d step seen xs → at < length ws
still-within d step seen xs ws at x place left =
    subst (λ (l : List State). at < length l) (sym left) (position-Some (has_id d.0) (applied d step seen xs) at x (still-there d step seen xs ∙ place)).0

-- its state there
pub stepped-state : (d : DomId) (step : Step) (seen : Observation) (xs : List State) (at : ℕ) (x : State) → position (has_id d.0) xs ≡ Some at
    → (y : State) × (slice_get (applied d step seen xs) at ≡ Some y) × (y ≡ get_or (applied d step seen xs) at y)
stepped-state d step seen xs at x place = let ws = applied d step seen xs in let within = (position-Some (has_id d.0) ws at x (still-there d step seen xs ∙ place)).0 in
    let here = slice_get-get_or ws at x within in (get_or ws at x, here, same_Some _ _ (sym here ∙ slice_get-get_or ws at (get_or ws at x) within))

-- what a step leaves of a state

changed-keeps : {A : Type 0} (field : State → A) (t : ℕ) (g : State → State) (xs : List State) (k : ℕ) (y : State) → ((z : State) → field (g z) ≡ field z) → slice_get (changed_in t g xs) k ≡ Some y → (x : State) × (slice_get xs k ≡ Some x) × (field y ≡ field x)
changed-keeps field t g [] k y keeps e = cc
changed-keeps field t g (z ∷ zs) zero y keeps e = cond_both (z.id.0 == t) (g z ∷ zs) (z ∷ changed_in t g zs) (λ l. slice_get l 0 ≡ Some y → (x : State) × (Some z ≡ Some x) × (field y ≡ field x))
    (λ is f. (z, refl, ap field (sym (same_Some (g z) y f)) ∙ keeps z)) (λ is f. (z, refl, ap field (sym (same_Some z y f)))) e
changed-keeps field t g (z ∷ zs) (suc k) y keeps e = cond_both (z.id.0 == t) (g z ∷ zs) (z ∷ changed_in t g zs) (λ l. slice_get l (suc k) ≡ Some y → (x : State) × (slice_get zs k ≡ Some x) × (field y ≡ field x))
    (λ is f. (y, f, refl)) (λ is f. changed-keeps field t g zs k y keeps f) e

-- no change of the step touches this part
abbrev Untouched : {A : Type 0} → (State → A) → Step → Type 0
Untouched field (call_steps.Pin p) = (z : State) (r : ℕ) (c : CountsChange) → field (with_slot r c z) ≡ field z
Untouched field (Unpin p holder) = ((z : State) (r : ℕ) (c : CountsChange) → field (with_slot r c z) ≡ field z) × ((z : State) → field (without_holder holder z) ≡ field z)
Untouched field (StoreBody gref body_word word) = (z : State) (r : ℕ) (c : CountsChange) → field (with_slot r c z) ≡ field z
Untouched field (StoreHeader version frames) = (z : State) → field (with_header version frames z) ≡ field z
Untouched field (Exchange gref looked change) = (z : State) → field (with_own gref.0 change z) ≡ field z
Untouched field step = Unit {0}

applied-keeps : {A : Type 0} (field : State → A) (d : DomId) (step : Step) (seen : Observation) (xs : List State) (k : ℕ) (y : State) → Untouched field step → slice_get (applied d step seen xs) k ≡ Some y → (x : State) × (slice_get xs k ≡ Some x) × (field y ≡ field x)
applied-keeps field d (call_steps.Pin p) Taken xs k y keeps e = changed-keeps field p.dom.0 (with_slot p.gref.0 (counts_changes.Pinned p.dir)) xs k y (λ z. keeps z p.gref.0 (counts_changes.Pinned p.dir)) e
applied-keeps field d (Exchange gref looked change) Taken xs k y keeps e = changed-keeps field d.0 (with_own gref.0 change) xs k y keeps e
applied-keeps field d (Unpin p holder) seen xs k y keeps e =
    let a = changed-keeps field d.0 (without_holder holder) (changed_in p.dom.0 (with_slot p.gref.0 (Unpinned p.dir)) xs) k y keeps.1 e in
    let b = changed-keeps field p.dom.0 (with_slot p.gref.0 (Unpinned p.dir)) xs k a.0 (λ z. keeps.0 z p.gref.0 (Unpinned p.dir)) a.1 in (b.0, b.1, a.2 ∙ b.2)
applied-keeps field d (StoreBody gref body_word word) seen xs k y keeps e = changed-keeps field d.0 (with_slot gref.0 (Stored body_word word)) xs k y (λ z. keeps z gref.0 (Stored body_word word)) e
applied-keeps field d (StoreHeader version frames) seen xs k y keeps e = changed-keeps field d.0 (with_header version frames) xs k y keeps e
applied-keeps field d step seen xs k y keeps e = (y, e, refl)

-- so it is the same before the step and after it
pub kept-part : {A : Type 0} (field : State → A) (d : DomId) (step : Step) (seen : Observation) (xs : List State) (k : ℕ) (x y : State) → Untouched field step → slice_get xs k ≡ Some x → slice_get (applied d step seen xs) k ≡ Some y → field y ≡ field x
kept-part field d step seen xs k x y keeps here there = let a = applied-keeps field d step seen xs k y keeps there in a.2 ∙ ap field (same_Some a.0 x (sym a.1 ∙ here))

-- the open call is the same
pub still-underway : (d : DomId) (step : Step) (seen : Observation) (xs : List State) (k : ℕ) (x y : State) → slice_get xs k ≡ Some x → slice_get (applied d step seen xs) k ≡ Some y → y.underway ≡ x.underway
still-underway d step seen xs k x y = kept-part (λ z. z.underway) d step seen xs k x y (by step) where
  gone : (holder : PinHolder) (z : State) → (without_holder holder z).underway ≡ z.underway
  gone (holders.Mapping handle) z = refl
  gone (holders.Leg n) z = refl

  by : (step : Step) → Untouched (λ z. z.underway) step
  by (call_steps.Pin p) = λ z r c. refl
  by (Unpin p holder) = (λ z r c. refl, gone holder)
  by (StoreBody gref body_word word) = λ z r c. refl
  by (StoreHeader version frames) = λ z. refl
  by (Exchange gref looked change) = λ z. refl
  by step = tt

-- what a call has left to do

-- after the body words of a grant are stored, the domain's entries, table and mappings make no difference
module _ (domains : List DomainConfig) (first : ℕ) (may : TypeId → TypeId → Perms → Bool) (own own' : List OwnerEntry) (header header' : Header) (mappings mappings' : HandleMap HeldPin) where
  abbrev Before : CallerKnowledge
  Before = knowledge_of domains first may own header mappings

  abbrev After : CallerKnowledge
  After = knowledge_of domains first may own' header' mappings'

  source-alike : (d : DomId) (c : CopyArgs) (l : Leg) (p : HeldPin) (e : Entry) → after_source_pin Before d c l p e ≡ after_source_pin After d c l p e
  source-alike d c l p (Via dom ro dom2 gref) = refl
  source-alike d c l p e = refl

  dest-alike : (d : DomId) (c : CopyArgs) (source : AccessPath) (l : Leg) (p : HeldPin) (e : Entry) → after_dest_pin Before d c source l p e ≡ after_dest_pin After d c source l p e
  dest-alike d c source l p (Via dom ro dom2 gref) = refl
  dest-alike d c source l p e = refl

  leg-alike : (d : DomId) (pin_purpose : PinPurpose) (l : Leg) (next : LegNext) → after_leg Before d pin_purpose l next ≡ after_leg After d pin_purpose l next
  leg-alike d Mapping l (Pinned p) = refl
  leg-alike d (Source c None) l (Pinned p) = source-alike d c l p p.entry
  leg-alike d (Source c (Some via)) l (Pinned p) = refl
  leg-alike d (Dest c source None) l (Pinned p) = dest-alike d c source l p p.entry
  leg-alike d (Dest c source (Some via)) l (Pinned p) = refl
  leg-alike d pin_purpose l (Going phase) = refl
  leg-alike d pin_purpose l (leg_outcomes.Refused denial) = refl

  -- the next step of a grant is a store of a body word
  abbrev pub IsStoring : Phase → Type 0
  IsStoring (Storing gref entry) = Unit {0}
  IsStoring (StoringSecond gref entry) = Unit {0}
  IsStoring phase = ⊥

  phase-alike : (d : DomId) (phase : Phase) (seen : Observation) → (IsStoring phase → ⊥) → phase_after Before d phase seen ≡ phase_after After d phase seen
  phase-alike d (Storing gref entry) seen n = absurd (n tt)
  phase-alike d (StoringSecond gref entry) seen n = absurd (n tt)
  phase-alike d (Walking pin_purpose l at) seen n = leg-alike d pin_purpose l (leg_after l at seen)
  phase-alike d phase seen n = grind arith

-- an open call has the same phase by what its domain knew before its step and by what it knows after it
pub left-alike : (s : Setting) (h : History) (xs : List State) (k : ℕ) (d : DomId) (x y : State) (o : OpenCall) (c : Underway) (seen : Observation) → OpenAgrees s h x.id o c → slice_get xs k ≡ Some x → slice_get (applied d o.step seen xs) k ≡ Some y
    → IsLeftAlike (knowledge_of s.domains s.first_generation s.may x.own x.header x.mappings) (knowledge_of s.domains s.first_generation s.may y.own y.header y.mappings) o.call seen
left-alike s h xs k d x y o c seen a here there = rw a.here (ap (settled o.call.request) (by a.phase a.acts)) where
  Alike : Phase → Type 0
  Alike p = phase_after (knowledge_of s.domains s.first_generation s.may x.own x.header x.mappings) o.call.caller p seen ≡ phase_after (knowledge_of s.domains s.first_generation s.may y.own y.header y.mappings) o.call.caller p seen

  stored : (gref : GrantRef) (body_word : BodyWord) (word : ℕ) (p : Phase) → StoreBody gref body_word word ≡ o.step → Alike p
  stored gref body_word word p is = let step : Step = StoreBody gref body_word word in let at = subst (λ (z : Step). slice_get (applied d z seen xs) k ≡ Some y) (sym is) there in
      let own : y.own ≡ x.own = kept-part (λ z. z.own) d step seen xs k x y (λ z r c. refl) here at in
      let header : y.header ≡ x.header = kept-part (λ z. z.header) d step seen xs k x y (λ z r c. refl) here at in
      let mappings : y.mappings ≡ x.mappings = kept-part (λ z. z.mappings) d step seen xs k x y (λ z r c. refl) here at in rw (own, header, mappings) refl

  by : (p : Phase) → action_at x.id p ≡ actions.Step o.step → Alike p
  by (Storing gref entry) e = stored gref body_words.First (first_body entry) (Storing gref entry) (makes-same _ _ e)
  by (StoringSecond gref entry) e = stored gref body_words.Second (second_body entry) (StoringSecond gref entry) (makes-same _ _ e)
  by p e = phase-alike s.domains s.first_generation s.may x.own y.own x.header y.header x.mappings y.mappings o.call.caller p seen (λ n. n)

-- how the domain's call continues

-- a new state of the domain, which no step makes, has the same index before and after the step
set-after : (d : DomId) (step : Step) (seen : Observation) (f : State → State) (xs : List State) (at : ℕ) (x y : State) → changed_in d.0 f (applied d step seen xs) ≡ applied d step seen (changed_in d.0 f xs) → position (has_id d.0) xs ≡ Some at
    → x ≡ get_or xs at x → y ≡ get_or (applied d step seen xs) at y → set (applied d step seen xs) at (f y) ≡ applied d step seen (set xs at (f x))
set-after d step seen f xs at x y swap place here there = set-state (applied d step seen xs) d.0 at f y (f y) (still-there d step seen xs ∙ place) there refl ∙ swap
    ∙ ap (applied d step seen) (sym (set-state xs d.0 at f x (f x) place here refl))

-- a map's call ends with its pin
abbrev pub EndsByPin : Step → Action → Type 0
EndsByPin step (Done (results.Mapped held)) = (p : HeldPin) × (step ≡ call_steps.Pin p)
EndsByPin step action = Unit {0}

-- the call leaves the same states whether the step is applied before or after it
pub settled-after : (fs : FrameSet) (xs ys : List State) (at : ℕ) (d : DomId) (x y : State) (step : Step) (seen : Observation) (call : Call) (action : Action) (answer : Option Answer) → position (has_id d.0) xs ≡ Some at → x ≡ get_or xs at x
    → y ≡ get_or (applied d step seen xs) at y → slice_get xs at ≡ Some x → slice_get (applied d step seen xs) at ≡ Some y → EndsByPin step action
    → Settled fs (applied d step seen xs) at y step call action answer ys → (zs : List State) × Settled fs xs at x step call action answer zs × (ys ≡ applied d step seen zs)
settled-after fs xs ys at d x y step seen call action answer place here there found kept ends settled = by action ends settled where
  rests : (u : Option OpenCall) → set (applied d step seen xs) at (with_underway u y) ≡ applied d step seen (set xs at (with_underway u x))
  rests u = set-after d step seen (with_underway u) xs at x y (applied-swap d step seen u xs) place here there

  over : List State
  over = set xs at (with_underway None x)

  plain : (a : Answer) → (a ≡ answers.Done) × (ys ≡ set (applied d step seen xs) at (with_underway None y)) → ((a ≡ answers.Done) × (over ≡ over)) × (ys ≡ applied d step seen over)
  plain a (is, left) = ((is, refl), left ∙ rests None)

  closed : (z : Step) (a : Answer) → Closed fs (applied d step seen xs) at y z a ys → Closed fs xs at x z a over × (ys ≡ applied d step seen over)
  closed (call_steps.Read dom frame off len) a (b, is, left, gives) = ((b, is, refl, gives), left ∙ rests None)
  closed z a c = plain a c

  by : (act : Action) → EndsByPin step act → Settled fs (applied d step seen xs) at y step call act answer ys → (zs : List State) × Settled fs xs at x step call act answer zs × (ys ≡ applied d step seen zs)
  by (actions.Step next) e (none, left) = (set xs at (with_underway (Some (record { call = call; step = next })) x), (none, refl), left ∙ rests (Some (record { call = call; step = next })))
  by (Done Granted) e (a, is, c) = let r = closed step a c in (over, (a, is, r.0), r.1)
  by (Done (results.Mapped held)) (p, pins) (a, is, (handle, mappings, gives, adds, left)) =
      let at-pin = subst (λ (z : Step). slice_get (applied d z seen xs) at ≡ Some y) pins kept in
      let same : y.mappings ≡ x.mappings = kept-part (λ z. z.mappings) d (call_steps.Pin p) seen xs at x y (λ z r c. refl) found at-pin in
      let swap = subst (λ (z : Step). changed_in d.0 (with_mapping mappings) (applied d z seen xs) ≡ applied d z seen (changed_in d.0 (with_mapping mappings) xs)) (sym pins) (mapped-swap d p seen mappings xs) in
      (set xs at (with_mapping mappings x), (a, is, (handle, mappings, gives, subst (λ (m : HandleMap HeldPin). Adds m mappings handle held) same adds, refl)), left ∙ set-after d step seen (with_mapping mappings) xs at x y swap place here there)
  by (Done (Given value)) e (a, is, (gives, left)) = (over, (a, is, (gives, refl)), left ∙ rests None)
  by (Done (Refused denial)) e (a, is, (gives, left)) = (over, (a, is, (gives, refl)), left ∙ rests None)
