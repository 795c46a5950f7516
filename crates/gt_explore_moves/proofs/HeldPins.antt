-- Along a run of a script each open call holds the pins that its path took, and each entry, with that of each pin, is one
-- that a line may grant.
use Rattle.std.proofs.Common.{◌≡◌, ◌≢◌, ℕ, suc, refl, Bool, true, false, cond, List, [], ◌∷◌, ◌++◌, ◌+◌, length, Option}
use Rattle.std.proofs.Common.{Some, None, sym, ap, ◌∙◌, subst, append-nil, arith, ◌⊎◌, inl, inr}
use Rattle.std.specs.Prelude.{◌==◌}
use Rattle.std.proofs.lemmas.Bool.{eqb-true}
use Rattle.std.proofs.lemmas.List.{length-append, map-append}
use Rattle.std.proofs.lemmas.Option.{none-some, same_Some}
use Rattle.gt_types.specs.Names.{resolved}
use Rattle.gt_types.specs.declared.Dir.{Dir}
use Rattle.gt_types.specs.declared.Dir.TheVariants as dirs
use Rattle.gt_types.specs.declared.DomId.{DomId}
use Rattle.gt_types.specs.declared.copies.CopyArgs.{CopyArgs}
use Rattle.gt_types.specs.declared.GrantRef.{GrantRef}
use Rattle.gt_types.specs.declared.denial.Denial.{Denial}
use Rattle.gt_model.specs.declared.handle.Handle.{Handle}
use Rattle.gt_model.specs.Entries.{frame_of, with_ro}
use Rattle.gt_model.specs.Spelling.{control_with}
use Rattle.gt_model.specs.declared.change.EntryChange.{EntryChange}
use Rattle.gt_model.specs.declared.change.EntryChange.TheVariants.{Publish}
use Rattle.gt_model.specs.declared.change.EntryChange.TheVariants as changes
use Rattle.gt_model.specs.declared.entry.Entry.{Entry}
use Rattle.gt_model.specs.declared.entry.Entry.TheVariants.{Invalid}
use Rattle.gt_model.specs.declared.entry.Entry.TheVariants as entries
use Rattle.gt_model.specs.declared.leg.Leg.{Leg}
use Rattle.gt_model.specs.Asking.{asked}
use Rattle.gt_model.specs.Path.{Continuation, after_beginning, gref_of, path, steps_of}
use Rattle.gt_model.specs.Rules.{begun, first_look}
use Rattle.gt_model.specs.declared.action.Action.{Action}
use Rattle.gt_model.specs.declared.action.Action.TheVariants.{Done}
use Rattle.gt_model.specs.declared.action.Action.TheVariants as actions
use Rattle.gt_model.specs.declared.action.CallResult.{CallResult}
use Rattle.gt_model.specs.declared.action.CallResult.TheVariants as results
use Rattle.gt_model.specs.declared.action.Observation.{Observation}
use Rattle.gt_model.specs.declared.action.Observation.TheVariants.{Taken}
use Rattle.gt_model.specs.declared.action.Step.{Step}
use Rattle.gt_model.specs.declared.action.Step.TheVariants.{Exchange, Unpin}
use Rattle.gt_model.specs.declared.action.Step.TheVariants as call_steps
use Rattle.gt_model.specs.declared.held.HeldPin.{HeldPin}
use Rattle.gt_model.specs.declared.request.OpenRequest.{OpenRequest}
use Rattle.gt_model.specs.declared.request.OpenRequest.TheVariants.{Copy, Grant, Load, Map, Probe, Store}
use Rattle.gt_model.specs.declared.request.PinHolder.TheVariants as holders
use Rattle.gt_model.specs.declared.request.Request.{Request}
use Rattle.gt_model.specs.FirstRule.{LegNow, leg_at, refusal_in, stood}
use Rattle.gt_model.specs.History.{History, Setting, Underway, by_leg, change_at, change_of, changed_entry_of}
use Rattle.gt_model.specs.History.{entry_at, gather, holder_after, known_at, legs_at, live}
use Rattle.gt_model.specs.History.{generation_at, open_call, reads_at, underway_after, values, without}
use Rattle.gt_model.specs.History.{writes_at}
use Rattle.gt_model.specs.Legal.{AnsweredBy, GivesValue, IsRight, NoneStands, PinIsSound, StepsRight, StepsRightIn}
use Rattle.gt_model.specs.Legal.{gives_back, next_in, refusal_of, verdict_in}
use Rattle.gt_core.specs.Phases.{numbered}
use Rattle.gt_model.specs.declared.trace.Answer.{Answer}
use Rattle.gt_model.specs.declared.trace.Answer.TheVariants.{Denied, Mapped}
use Rattle.gt_model.specs.declared.trace.Answer.TheVariants as answers
use Rattle.gt_model.specs.declared.trace.Item.{Item}
use Rattle.gt_model.specs.declared.trace.ItemEvent.{ItemEvent}
use Rattle.gt_model.specs.declared.trace.ItemEvent.TheVariants.{Began, Stepped}
use Rattle.gt_core.proofs.AgreementKept.{open_call-other, open_call-own}
use Rattle.gt_model.proofs.Observers.{exchanged-entry, other-pins, stepped, unpinned-live}
use Rattle.gt_core.proofs.Steps.Pin.{leg-grows, map-legs}
use Rattle.gt_core.proofs.Steps.Unpin.{leg-left, loses-leg, mapping-legs}
use Rattle.gt_commuting.proofs.Swapping.{Releases}
use Rattle.gt_explore_moves.specs.Granting.{AllOfScript, IsGranted, IsItemOfScript, IsOfScript}
use Rattle.gt_explore_moves.specs.Touches.{frame_touch}
use Rattle.gt_explore_moves.specs.declared.granted.GrantedEntry.{GrantedEntry}
use Rattle.gt_explore_moves.specs.declared.touches.Touch.{Touch}
use Rattle.gt_explore_moves.proofs.LikeCore.{step-in-run}
use Rattle.gt_explore_state.specs.Likeness.{IsLikeReached}
use Rattle.gt_explore_state.proofs.GoingAlike.{like-goes-on}
use Rattle.gt_core.specs.Alike.{IsRun}
use Rattle.gt_explore_moves.specs.declared.touches.MappingUse.{MappingUse}
use Rattle.gt_commuting.proofs.PathSteps.{TakesOf, TookOf, after_action, after_step, held-more, held_along}
use Rattle.gt_commuting.proofs.PathSteps.{took-any, took-more}
use Rattle.gt_explore_moves.proofs.Touching.{BeyondTouches, EndFacts, EndTouches, IsActionOf, IsPinning, RequestTouches}
use Rattle.gt_explore_moves.proofs.Touching.{StepFacts}
use Rattle.gt_explore_moves.proofs.Touching.{each-step, path-opened, unmaps-release}

-- pins with their numbers

-- these are the pins that were taken, the first one first, of those held, the last one first: only their entries may
-- differ
abbrev pub AreTaken : List HeldPin → List HeldPin → Type 0
AreTaken qs [] = qs ≡ []
AreTaken qs (p ∷ held) =
    (before : List HeldPin) × (e : Entry) × (qs ≡ before ++ (record p { entry = e }) ∷ []) × AreTaken before held

-- a call holds these pins, each with its number
abbrev pub AreLegs : List (ℕ × HeldPin) → List HeldPin → Type 0
AreLegs legs held = (qs : List HeldPin) × (legs ≡ numbered 0 qs) × AreTaken qs held

numbered-push : (n : ℕ) (ps : List HeldPin) (p : HeldPin)
    → numbered n (ps ++ p ∷ []) ≡ numbered n ps ++ (n + length ps, p) ∷ []
numbered-push n [] p = let e : n ≡ n + 0 = omega arith in ap (λ (m : ℕ). (m, p) ∷ []) e
numbered-push n (q ∷ ps) p = ap (λ (l : List (ℕ × HeldPin)). (n, q) ∷ l) (numbered-push (n + 1) ps p)
    ∙ (let e : n + 1 + length ps ≡ n + suc (length ps) = omega arith in
    ap (λ (m : ℕ). (n, q) ∷ numbered (n + 1) ps ++ (m, p) ∷ []) e)

length-numbered : (n : ℕ) (ps : List HeldPin) → length (numbered n ps) ≡ length ps
length-numbered n [] = refl
length-numbered n (p ∷ ps) = let e = length-numbered (n + 1) ps in omega arith

taken-length : (qs held : List HeldPin) → AreTaken qs held → length qs ≡ length held
taken-length qs [] taken = ap (λ (l : List HeldPin). length l) taken
taken-length qs (p ∷ held) (before, e, is, taken) =
    let rest = taken-length before held taken in
    let whole = ap (λ (l : List HeldPin). length l) is in
    let many = length-append before ((record p { entry = e }) ∷ []) in
    omega (arith, rest, whole, many)

legs-none : (legs : List (ℕ × HeldPin)) → AreLegs legs [] → legs ≡ []
legs-none legs (qs, is, none) = is ∙ ap (λ (l : List HeldPin). numbered 0 l) none

legs-first : (legs : List (ℕ × HeldPin)) → legs ≡ [] → AreLegs legs []
legs-first legs none = ([], none, refl)

-- what an item leaves of the pins of its call

-- the step takes and releases no pin
abbrev IsQuiet : Step → Observation → Type 0
IsQuiet (call_steps.Pin p) Taken = ⊥
IsQuiet (Unpin p holder) seen = ⊥
IsQuiet z seen = Unit {0}

quiet-live : (h : History) (d : DomId) (z : Step) (v : Observation) (a : Option Answer) → IsQuiet z v
    → live (stepped d z v a ∷ h) ≡ live h
unfolding live
quiet-live h d (call_steps.Pin p) Taken a quiet = absurd quiet
quiet-live h d (Unpin p holder) v a quiet = absurd quiet
quiet-live h d z v a quiet = append-nil (live h)

quiet-legs : (h : History) (d : DomId) (z : Step) (v : Observation) (a : Option Answer) → IsQuiet z v
    → legs_at (stepped d z v a ∷ h) d.0 ≡ legs_at h d.0
quiet-legs h d z v a quiet = ap (λ ps. gather by_leg d.0 ps) (quiet-live h d z v a quiet)

-- no mapping is the answer
abbrev NoneMapped : Option Answer → Type 0
NoneMapped a = (handle : Handle) → a ≡ Some (Mapped handle) → ⊥

by-number : (a : Option Answer) (n : ℕ) → NoneMapped a → holder_after a n ≡ holders.Leg n
by-number (Some (Mapped handle)) n none = absurd (none handle refl)
by-number a n none = refl

module _ (h : History) (d : DomId) where
  -- the pin with the entry as it is now
  abbrev now : HeldPin → HeldPin
  now p = record p { entry = entry_at h p.dom.0 p.gref.0 }

  legs-pinned : (p : HeldPin) (a : Option Answer) (held : List HeldPin) → NoneMapped a
      → AreLegs (legs_at h d.0) held → AreLegs (legs_at (stepped d (call_steps.Pin p) Taken a ∷ h) d.0) (p ∷ held)
  legs-pinned p a held none (qs, is, taken) =
      (qs ++ (now p) ∷ [], whole, (qs, entry_at h p.dom.0 p.gref.0, refl, taken))
    where
      many : length (legs_at h d.0) ≡ 0 + length qs
      many = let e = length-numbered 0 qs in let f = ap (λ (l : List (ℕ × HeldPin)). length l) is in
          omega (arith, e, f)

      whole : legs_at (stepped d (call_steps.Pin p) Taken a ∷ h) d.0 ≡ numbered 0 (qs ++ (now p) ∷ [])
      whole = leg-grows h d p a (by-number a (length (legs_at h d.0)) none)
          ∙ ap (λ (n : ℕ). legs_at h d.0 ++ (n, now p) ∷ []) many
          ∙ ap (λ (l : List (ℕ × HeldPin)). l ++ (0 + length qs, now p) ∷ []) is ∙ sym (numbered-push 0 qs (now p))

  -- the last pin, under its number
  record IsLast (p : HeldPin) (n : ℕ) (others : List HeldPin) : Type 0 where
    pub before : List HeldPin
    pub e : Entry
    pub number : n ≡ length before
    pub legs : legs_at h d.0 ≡ numbered 0 (before ++ (record p { entry = e }) ∷ [])
    pub taken : AreTaken before others

  is-last : (p : HeldPin) (n : ℕ) (held others : List HeldPin) → held ≡ p ∷ others → n ≡ length others
      → AreLegs (legs_at h d.0) held → IsLast p n others
  is-last p n held others same number legs = by (subst (λ l. AreLegs (legs_at h d.0) l) same legs) where
    by : AreLegs (legs_at h d.0) (p ∷ others) → IsLast p n others
    by (qs, is, (before, e, are, taken)) = record {
      before = before;
      e = e;
      number = number ∙ sym (taken-length before others taken);
      legs = is ∙ ap (λ (l : List HeldPin). numbered 0 l) are;
      taken = taken;
    }

  legs-unpinned : (p : HeldPin) (n : ℕ) (others : List HeldPin) (v : Observation) (a : Option Answer)
      → IsLast p n others → AreLegs (legs_at (stepped d (Unpin p (holders.Leg n)) v a ∷ h) d.0) others
  legs-unpinned p n others v a last = (last.before, whole, last.taken) where
    whole : legs_at (stepped d (Unpin p (holders.Leg n)) v a ∷ h) d.0 ≡ numbered 0 last.before
    whole = ap (λ ps. gather by_leg d.0 ps) (unpinned-live h d p (holders.Leg n) v a
        ∙ ap (λ (m : ℕ). without d.0 (holders.Leg m) (live h)) last.number
        ∙ sym (unpinned-live h d (record p { entry = last.e }) (holders.Leg (length last.before)) v a))
        ∙ leg-left h d last.before (record p { entry = last.e }) v a last.legs

  last-released : (p : HeldPin) (n : ℕ) (others : List HeldPin) → IsLast p n others → Releases h d (Unpin p (holders.Leg n))
  last-released p n others last = subst (λ (m : ℕ). Releases h d (Unpin p (holders.Leg m))) (sym last.number)
      (loses-leg h d last.before (record p { entry = last.e }) last.legs)

-- entries

-- the entry is invalid, or one that a line may grant
abbrev pub IsEntryOfScript : List GrantedEntry → ℕ → ℕ → Entry → Type 0
IsEntryOfScript grants t r e = (e ≡ Invalid) ⊎ IsGranted grants t r e

-- without its right to write it is the same entry
with-ro-bare : (ro : Bool) (old : Entry) → with_ro false (with_ro ro old) ≡ with_ro false old
with-ro-bare ro Invalid = refl
with-ro-bare ro (entries.Page dom b frame) = refl
with-ro-bare ro (entries.Sub dom b frame off len) = refl
with-ro-bare ro (entries.Via dom b dom2 gref) = refl

granted-ro : (grants : List GrantedEntry) (t r : ℕ) (ro : Bool) (old : Entry) → IsEntryOfScript grants t r old
    → IsEntryOfScript grants t r (with_ro ro old)
granted-ro grants t r ro old (inl none) = inl (ap (with_ro ro) none)
granted-ro grants t r ro old (inr (n, g, at, owner, gref, same)) =
    inr (n, g, at, owner, gref, same ∙ sym (with-ro-bare ro old))

changed-granted : (grants : List GrantedEntry) (t r : ℕ) (change : Option EntryChange) (old : Entry)
    → ((entry : Entry) → change ≡ Some (Publish entry) → IsGranted grants t r entry) → IsEntryOfScript grants t r old
    → IsEntryOfScript grants t r (changed_entry_of change old)
changed-granted grants t r None old new was = was
changed-granted grants t r (Some (Publish entry)) old new was = inr (new entry refl)
changed-granted grants t r (Some changes.Revoke) old new was = inl refl
changed-granted grants t r (Some changes.Withdraw) old new was = inl refl
changed-granted grants t r (Some changes.Demote) old new was = granted-ro grants t r true old was
changed-granted grants t r (Some changes.Promote) old new was = granted-ro grants t r false old was

-- an entry that passed a first look is valid
passed-valid : (l : Leg) (e : Entry) (g r w : ℕ) → first_look l (control_with e g r w) ≡ None → e ≢ Invalid
passed-valid l Invalid g r w passed e = cc
passed-valid l z g r w passed e = cc

-- so is one on which a pin was taken
pub pinned-valid : (s : Setting) (h : History) (p : HeldPin) (o : Option LegNow) → NoneStands s h p.dom p.gref o
    → entry_at h p.dom.0 p.gref.0 ≢ Invalid
pinned-valid s h p None none = absurd none
pinned-valid s h p (Some n) none = let t = p.dom.0 in let r = p.gref.0 in
    passed-valid n.leg (entry_at h t r) (generation_at s h t r) (reads_at h t r) (writes_at h t r) none.0

pub valid-granted : (grants : List GrantedEntry) (t r : ℕ) (e : Entry) → e ≢ Invalid → IsEntryOfScript grants t r e
    → IsGranted grants t r e
valid-granted grants t r e valid (inl none) = absurd (valid none)
valid-granted grants t r e valid (inr granted) = granted

published : (x : ItemEvent) (r : ℕ) (entry : Entry) → change_at x r ≡ Some (Publish entry)
    → (gref : GrantRef) × (looked : ℕ) × (x ≡ Stepped (Exchange gref looked (Publish entry)) Taken) × (gref.0 ≡ r)
published (Stepped (Exchange gref looked change) Taken) r entry e = by (gref.0 == r) refl e where
  by : (b : Bool) → (gref.0 == r) ≡ b → cond b (Some change) None ≡ Some (Publish entry)
      → (g : GrantRef) × (l : ℕ)
      × (Stepped (Exchange gref looked change) Taken ≡ Stepped (Exchange g l (Publish entry)) Taken) × (g.0 ≡ r)
  by true at f = (
    gref,
    looked,
    ap (λ c. Stepped (Exchange gref looked c) Taken) (same_Some change (Publish entry) f),
    eqb-true gref.0 r at,
  )
  by false at f = absurd (none-some (Publish entry) f)
published x r entry e = absurd (none-some (Publish entry) e)

-- the facts of a path's actions

-- any use of mappings
abbrev any_use : MappingUse
any_use = record { loads = true; stores = true }

-- any touch
abbrev any : Touch → Type 0
any touch = Unit {0}

-- the request is no probe
abbrev IsNoProbe : OpenRequest → Type 0
IsNoProbe (Probe c) = ⊥
IsNoProbe r = Unit {0}

any-beyond : (grants : List GrantedEntry) (dir : Dir) (t : DomId) (e : Entry) → BeyondTouches any grants dir t e
any-beyond grants dir t Invalid = tt
any-beyond grants dir t (entries.Page dom ro frame) = tt
any-beyond grants dir t (entries.Sub dom ro frame off len) = tt
any-beyond grants dir t (entries.Via dom ro dom2 gref) = ((tt, tt), λ e granted. tt)

any-access : (dir : Dir) (t : DomId) (f : ℕ) → any (frame_touch dir t f)
any-access dir t f = tt

any-end : (grants : List GrantedEntry) (dir : Dir) (t : DomId) (r : GrantRef) → EndTouches any grants dir t r
any-end grants dir t r = ((tt, tt), λ e granted. any-beyond grants dir t e)

any-touch : (grants : List GrantedEntry) (d : DomId) (r : OpenRequest) → IsNoProbe r
    → RequestTouches any grants any_use d r
any-touch grants d (Grant gref entry) unprobed = (tt, tt)
any-touch grants d (Map dom gref flags) unprobed = ((tt, tt), (λ e granted. ((λ is. tt), (λ is. tt))))
any-touch grants d (Load handle off len) unprobed = refl
any-touch grants d (Store handle off len) unprobed = refl
any-touch grants d (Copy c) unprobed = (
  ((λ granted. any-end grants dirs.Read (resolved d c.source.domid) (gref_of c.source.ptr)), (λ own. tt)),
  ((λ granted. any-end grants dirs.Write (resolved d c.dest.domid) (gref_of c.dest.ptr)), (λ own. tt)),
)
any-touch grants d (Probe c) unprobed = absurd unprobed
any-touch grants d r unprobed = tt

module _ (s : Setting) (h : History) (d : DomId) (r : OpenRequest) (unprobed : IsNoProbe r) where
  facts-of : (vs : List Observation) (action : Action) → steps_of (known_at s h d) d r vs ≡ Some action
      → IsActionOf any [] any_use (known_at s h d) d r
      (held_along (steps_of (known_at s h d) d r) [] vs) action
  facts-of vs action e = each-step any [] any_use (known_at s h d) d (λ p. Unit {0})
      (λ handle p found. (tt, (λ is. tt), (λ is. tt))) r (any-touch [] d r unprobed)
      (λ copy. record {
        beyond_is = λ dir p take all. any-beyond [] dir p.dom p.entry;
        last_is = λ dir p take all. any-access dir p.dom (frame_of p.entry);
      }) vs action
      (took-any (steps_of (known_at s h d) d r) vs) e

  step-facts : (vs : List Observation) (z : Step) → steps_of (known_at s h d) d r vs ≡ Some (actions.Step z)
      → StepFacts (known_at s h d) r (held_along (steps_of (known_at s h d) d r) [] vs) z
  step-facts vs z e = (facts-of vs (actions.Step z) e).2

  end-facts : (vs : List Observation) (verdict : CallResult) → steps_of (known_at s h d) d r vs ≡ Some (Done verdict)
      → EndFacts r (held_along (steps_of (known_at s h d) d r) [] vs) verdict
  end-facts vs verdict e = facts-of vs (Done verdict) e

-- an answer

-- a call with an answer has come to its end
ends-with : (s : Setting) (h : History) (d : DomId) (r : OpenRequest) (z : Step) (giving : Bool)
    (next : Option Action) (answer : Answer) (against : Option Denial)
    → AnsweredBy s h d r (Some z) giving (verdict_in next) (Some answer) against
    → (verdict : CallResult) × (next ≡ Some (Done verdict)) × (refusal_of answer ≡ refusal_in (Some verdict))
    × GivesValue s h d r (Some z) answer
ends-with s h d r z giving (Some (Done verdict)) answer against by = (verdict, refl, by.0, by.2)
ends-with s h d r z giving (Some (actions.Step y)) answer against by = absurd by
ends-with s h d r z giving None answer against by = absurd by

-- sound histories

module _ (grants : List GrantedEntry) (s : Setting) where
  -- the pin is on an entry that a line may grant
  abbrev pub IsPlain : HeldPin → Type 0
  IsPlain p = IsGranted grants p.dom.0 p.gref.0 p.entry

  -- the part of a path that takes pins: it rests on nothing that a history changes
  abbrev pub pins_path : DomId → OpenRequest → Continuation
  pins_path d r = steps_of (known_at s [] d) d r

  map-same : (h : History) (d dom : DomId) (gref : GrantRef) (flags : ℕ)
      → steps_of (known_at s h d) d (Map dom gref flags) ≡ pins_path d (Map dom gref flags)
  map-same h d dom gref flags = refl

  copy-same : (h : History) (d : DomId) (x : CopyArgs) → steps_of (known_at s h d) d (Copy x) ≡ pins_path d (Copy x)
  copy-same h d x = refl

  -- these are the pins that the path of a call took, and each of them is plain
  abbrev pub HoldsPins : List (ℕ × HeldPin) → DomId → OpenRequest → List Observation → Type 0
  HoldsPins legs d r vs = AreLegs legs (held_along (pins_path d r) [] vs) × TookOf IsPlain (pins_path d r) vs

  abbrev pub CallHolds : List (ℕ × HeldPin) → DomId → OpenRequest → List Observation → Type 0
  CallHolds legs d (Map dom gref flags) vs = HoldsPins legs d (Map dom gref flags) vs
  CallHolds legs d (Copy c) vs = HoldsPins legs d (Copy c) vs
  CallHolds legs d r vs = legs ≡ []

  abbrev pub CallSound : List (ℕ × HeldPin) → DomId → Option Underway → Type 0
  CallSound legs d None = legs ≡ []
  CallSound legs d (Some c) = IsOfScript grants d c.request × CallHolds legs d c.request (values c)

  pub record IsSound (h : History) : Type 0 where
    pub entries : (t r : ℕ) → IsEntryOfScript grants t r (entry_at h t r)
    pub calls : (d : DomId) → CallSound (legs_at h d.0) d (open_call h d.0)

  no-probe : (d : DomId) (r : OpenRequest) → IsOfScript grants d r → IsNoProbe r
  no-probe d (Probe c) plain = plain
  no-probe d r plain = tt

  holds-first : (legs : List (ℕ × HeldPin)) (d : DomId) (r : OpenRequest) → legs ≡ [] → CallHolds legs d r []
  holds-first legs d (Map dom gref flags) none = (legs-first legs none, tt)
  holds-first legs d (Copy c) none = (legs-first legs none, tt)
  holds-first legs d r none = none

  -- a step of a call

  module _ (h : History) (d : DomId) (z : Step) (v : Observation) (a : Option Answer) (c : Underway)
      (right : StepsRight s h (stepped d z v a) z v c)
      (entries : (t r : ℕ) → IsEntryOfScript grants t r (entry_at h t r))
      (pinning : (p : HeldPin) → z ≡ call_steps.Pin p → v ≡ Taken → p.entry ≡ entry_at h p.dom.0 p.gref.0) where
    abbrev legs_then : List (ℕ × HeldPin)
    legs_then = legs_at (stepped d z v a ∷ h) d.0

    -- what holds after it: the call goes on, or it has its answer
    abbrev After : OpenRequest → Type 0
    After r = (a ≡ None → CallHolds legs_then d r (values c ++ v ∷ []))
        × ((answer : Answer) → a ≡ Some answer → legs_then ≡ [])

    plain-pin : (p : HeldPin) → z ≡ call_steps.Pin p → v ≡ Taken → IsPlain p
    plain-pin p pins took = subst (IsGranted grants p.dom.0 p.gref.0) (sym (pinning p pins took))
        (valid-granted grants p.dom.0 p.gref.0 (entry_at h p.dom.0 p.gref.0) (pinned-valid s h p _ sound)
        (entries p.dom.0 p.gref.0))
      where
        sound : NoneStands s h p.dom p.gref (leg_at s h d c.request)
        sound = subst (λ (x : Observation). PinIsSound s h d c.request (call_steps.Pin p) x) took
            (subst (λ (y : Step). PinIsSound s h d c.request y v) pins right.sound)

    -- the pins of a call that takes pins
    module _ (r : OpenRequest) (same : c.request ≡ r) (unprobed : IsNoProbe r)
        (path-same : steps_of (known_at s h d) d r ≡ pins_path d r)
        (holds : HoldsPins (legs_at h d.0) d r (values c)) where
      opened : (begun (known_at s h d) d r ≡ None)
          × (steps_of (known_at s h d) d r (values c) ≡ Some (actions.Step z))
      opened = path-opened (known_at s h d) d r (values c) z
          (ap (λ (q : OpenRequest). path (known_at s h d) d q (values c)) (sym same) ∙ right.continues)

      here : pins_path d r (values c) ≡ Some (actions.Step z)
      here = ap (λ (f : Continuation). f (values c)) (sym path-same) ∙ opened.1

      abbrev held_now : List HeldPin
      held_now = held_along (pins_path d r) [] (values c)

      abbrev held_then : List HeldPin
      held_then = after_step z v held_now

      facts : StepFacts (known_at s h d) r held_now z
      facts = subst (λ (f : Continuation). StepFacts (known_at s h d) r (held_along f [] (values c)) z) path-same
          (step-facts s h d r unprobed (values c) z opened.1)

      held-so : held_along (pins_path d r) [] (values c ++ v ∷ []) ≡ held_then
      held-so = held-more (pins_path d r) [] (values c) v
          ∙ ap (λ (o : Option Action). after_action o v held_now) here

      legs-so : NoneMapped a → AreLegs legs_then held_then
      legs-so none = by z v facts where
        by : (y : Step) (w : Observation) → StepFacts (known_at s h d) r held_now y
            → AreLegs (legs_at (stepped d y w a ∷ h) d.0) (after_step y w held_now)
        by (call_steps.Pin p) Taken f = legs-pinned h d p a held_now none holds.0
        by (Unpin p (holders.Leg n)) w f = subst
            (λ (l : List HeldPin). AreLegs (legs_at (stepped d (Unpin p (holders.Leg n)) w a ∷ h) d.0)
            (after_step (Unpin p (holders.Leg n)) w l)) (sym f.1.1)
            (legs-unpinned h d p n f.1.0 w a (is-last h d p n held_now f.1.0 f.1.1 f.1.2 holds.0))
        by (Unpin p (holders.Mapping handle)) w f =
            subst (λ l. AreLegs l held_now) (sym (mapping-legs h d p handle w a)) holds.0
        by y w f = subst (λ l. AreLegs l held_now) (sym (quiet-legs h d y w a tt)) holds.0

      takes-plain : TakesOf IsPlain (pins_path d r (values c)) v
      takes-plain = subst (λ (o : Option Action). TakesOf IsPlain o v) (sym here) (by z v refl refl facts) where
        by : (y : Step) (w : Observation) → z ≡ y → v ≡ w → StepFacts (known_at s h d) r held_now y
            → TakesOf IsPlain (Some (actions.Step y)) w
        by (call_steps.Pin p) Taken e f g = plain-pin p e f
        by y w e f g = tt

      goes-on : a ≡ None → HoldsPins legs_then d r (values c ++ v ∷ [])
      goes-on none = (
        subst (AreLegs legs_then) (sym held-so) (legs-so (λ handle e. none-some (Mapped handle) (sym none ∙ e))),
        took-more IsPlain (pins_path d r) (values c) v holds.1 takes-plain,
      )

      -- if the call has its answer, it ends so
      record EndsSo (answer : Answer) : Type 0 where
        pub verdict : CallResult
        pub over : EndFacts r held_then verdict
        pub refused : refusal_of answer ≡ refusal_in (Some verdict)
        pub gives : GivesValue s h d r (Some z) answer

      ends-so : (answer : Answer) → a ≡ Some answer → EndsSo answer
      ends-so answer is = record {
        verdict = end.0;
        over = subst (λ (l : List HeldPin). EndFacts r l end.0) (so-held ∙ held-so)
            (end-facts s h d r unprobed (values c ++ v ∷ []) end.0 (so ∙ end.1));
        refused = end.2;
        gives = end.3;
      } where
        answered : AnsweredBy s h d r (Some z) (gives_back (next_in s h d c v)) (verdict_in (next_in s h d c v))
            (Some answer) (stood s (stepped d z v a ∷ h) d.0)
        answered = subst (λ (q : OpenRequest). AnsweredBy s h d q (Some z) (gives_back (next_in s h d c v))
            (verdict_in (next_in s h d c v)) (Some answer) (stood s (stepped d z v a ∷ h) d.0)) same
            (subst (λ (o : Option Answer). AnsweredBy s h d c.request (Some z) (gives_back (next_in s h d c v))
            (verdict_in (next_in s h d c v)) o (stood s (stepped d z v a ∷ h) d.0)) is right.answered)

        end : (verdict : CallResult) × (next_in s h d c v ≡ Some (Done verdict))
            × (refusal_of answer ≡ refusal_in (Some verdict)) × GivesValue s h d r (Some z) answer
        end = ends-with s h d r z (gives_back (next_in s h d c v)) (next_in s h d c v) answer
            (stood s (stepped d z v a ∷ h) d.0) answered

        so : steps_of (known_at s h d) d r (values c ++ v ∷ []) ≡ next_in s h d c v
        so = sym (ap (λ (o : Option CallResult). after_beginning o (steps_of (known_at s h d) d r)
            (values c ++ v ∷ [])) opened.0)
            ∙ ap (λ (q : OpenRequest). path (known_at s h d) d q (values c ++ v ∷ [])) (sym same)

        so-held : held_along (steps_of (known_at s h d) d r) [] (values c ++ v ∷ [])
            ≡ held_along (pins_path d r) [] (values c ++ v ∷ [])
        so-held = ap (λ (f : Continuation). held_along f [] (values c ++ v ∷ [])) path-same

      none-held : NoneMapped a → held_then ≡ [] → legs_then ≡ []
      none-held none over = legs-none legs_then (subst (AreLegs legs_then) over (legs-so none))

    -- a copy
    copy-unmapped : (x : CopyArgs) (answer : Answer) (handle : Handle) → GivesValue s h d (Copy x) (Some z) answer
        → answer ≡ Mapped handle → ⊥
    copy-unmapped x answer handle gives is =
        let never : Mapped handle ≡ answers.Done =
        subst (λ (b : Answer). GivesValue s h d (Copy x) (Some z) b) is gives in absurd (cc)

    after-copy : (x : CopyArgs) → c.request ≡ Copy x → HoldsPins (legs_at h d.0) d (Copy x) (values c) → After (Copy x)
    after-copy x same holds = (goes-on (Copy x) same tt (copy-same h d x) holds, ended) where
      ended : (answer : Answer) → a ≡ Some answer → legs_then ≡ []
      ended answer is = let end = ends-so (Copy x) same tt (copy-same h d x) holds answer is in
          none-held (Copy x) same tt (copy-same h d x) holds
          (λ handle e. copy-unmapped x answer handle end.gives (same_Some answer (Mapped handle) (sym is ∙ e))) end.over

    -- a map
    map-answer : (dom : DomId) (gref : GrantRef) (flags : ℕ) (y : Step) (answer : Answer)
        → GivesValue s h d (Map dom gref flags) (Some y) answer
        → ((denial : Denial) × (answer ≡ Denied denial)) ⊎ ((handle : Handle) × (answer ≡ Mapped handle))
    map-answer dom gref flags y (Denied denial) gives = inl (denial, refl)
    map-answer dom gref flags (call_steps.Pin p) (Mapped handle) gives = inr (handle, refl)
    map-answer dom gref flags (call_steps.Pin p) answer gives = absurd gives
    map-answer dom gref flags y answer gives = absurd gives

    module _ (dom : DomId) (gref : GrantRef) (flags : ℕ) (same : c.request ≡ Map dom gref flags)
        (holds : HoldsPins (legs_at h d.0) d (Map dom gref flags) (values c)) where
      abbrev held_map : List HeldPin
      held_map = held_along (pins_path d (Map dom gref flags)) [] (values c)

      mapped-legs : (handle : Handle) (y : Step) (w : Observation)
          → GivesValue s h d (Map dom gref flags) (Some y) (Mapped handle)
          → StepFacts (known_at s h d) (Map dom gref flags) held_map y
          → legs_at (stepped d y w (Some (Mapped handle)) ∷ h) d.0 ≡ []
      mapped-legs handle (call_steps.Pin p) Taken gives f = map-legs h d p handle
          ∙ legs-none (legs_at h d.0) (subst (AreLegs (legs_at h d.0)) f holds.0)
      mapped-legs handle (call_steps.Pin p) w gives f = quiet-legs h d (call_steps.Pin p) w (Some (Mapped handle)) tt
          ∙ legs-none (legs_at h d.0) (subst (AreLegs (legs_at h d.0)) f holds.0)
      mapped-legs handle y w gives f = absurd gives

      denied-over : (denial : Denial) (verdict : CallResult) (held : List HeldPin)
          → EndFacts (Map dom gref flags) held verdict → Some denial ≡ refusal_in (Some verdict) → held ≡ []
      denied-over denial (results.Mapped p) held over refused = absurd (none-some denial (sym refused))
      denied-over denial verdict held over refused = over

      map-ended : (answer : Answer) → a ≡ Some answer → legs_then ≡ []
      map-ended answer is = by (map-answer dom gref flags z answer end.gives) where
        end : EndsSo (Map dom gref flags) same tt (map-same h d dom gref flags) holds answer
        end = ends-so (Map dom gref flags) same tt (map-same h d dom gref flags) holds answer is

        by : ((denial : Denial) × (answer ≡ Denied denial)) ⊎ ((handle : Handle) × (answer ≡ Mapped handle))
            → legs_then ≡ []
        by (inl (denial, e)) = none-held (Map dom gref flags) same tt (map-same h d dom gref flags) holds
            (λ handle f. let never : Denied denial ≡ Mapped handle =
            sym e ∙ same_Some answer (Mapped handle) (sym is ∙ f) in absurd (cc))
            (denied-over denial end.verdict
            (held_then (Map dom gref flags) same tt (map-same h d dom gref flags) holds) end.over
            (ap refusal_of (sym e) ∙ end.refused))
        by (inr (handle, e)) = subst (λ (b : Option Answer). legs_at (stepped d z v b ∷ h) d.0 ≡ [])
            (sym (is ∙ ap Some e))
            (mapped-legs handle z v
            (subst (λ (b : Answer). GivesValue s h d (Map dom gref flags) (Some z) b) e end.gives)
            (facts (Map dom gref flags) same tt (map-same h d dom gref flags) holds))

      after-map : After (Map dom gref flags)
      after-map = (goes-on (Map dom gref flags) same tt (map-same h d dom gref flags) holds, map-ended)

    -- a call that takes no pins
    unpinned-legs : (r : OpenRequest) → c.request ≡ r → IsNoProbe r → ((held : List HeldPin) → IsPinning r held → ⊥)
        → legs_then ≡ legs_at h d.0
    unpinned-legs r same unprobed none = by z v (step-facts s h d r unprobed (values c) z steps.1) where
      steps : (begun (known_at s h d) d r ≡ None)
          × (steps_of (known_at s h d) d r (values c) ≡ Some (actions.Step z))
      steps = path-opened (known_at s h d) d r (values c) z
          (ap (λ (q : OpenRequest). path (known_at s h d) d q (values c)) (sym same) ∙ right.continues)

      by : (y : Step) (w : Observation)
          → StepFacts (known_at s h d) r (held_along (steps_of (known_at s h d) d r) [] (values c)) y
          → legs_at (stepped d y w a ∷ h) d.0 ≡ legs_at h d.0
      by (call_steps.Pin p) w f = absurd (none _ f)
      by (Unpin p (holders.Leg n)) w f = absurd (none _ f.0)
      by (Unpin p (holders.Mapping handle)) w f = mapping-legs h d p handle w a
      by y w f = quiet-legs h d y w a tt

    after-step : (r : OpenRequest) → c.request ≡ r → IsOfScript grants d r → CallHolds (legs_at h d.0) d r (values c)
        → After r
    after-step (Map dom gref flags) same plain holds = after-map dom gref flags same holds
    after-step (Copy x) same plain holds = after-copy x same holds
    after-step (Probe x) same plain holds = absurd plain
    after-step r same plain holds = let none = unpinned-legs r same tt (λ held is. is) ∙ holds in
        ((λ e. none), (λ answer e. none))

    stepped-sound : IsOfScript grants d c.request → CallHolds (legs_at h d.0) d c.request (values c)
        → CallSound legs_then d (underway_after (stepped d z v a) (Some c))
    stepped-sound plain holds = by a refl (after-step c.request refl plain holds) where
      by : (b : Option Answer) → a ≡ b → After c.request
          → CallSound legs_then d (underway_after (record { actor = d; happened = Stepped z v; answer = b }) (Some c))
      by None is after = (
        plain,
        subst (CallHolds legs_then d c.request)
            (sym (map-append (λ (x : Step × Observation). x.1) c.steps ((z, v) ∷ [])))
            (after.0 is),
      )
      by (Some answer) is after = after.1 answer is

  -- one item more

  module _ (h : History) (sound : IsSound h) where
    -- the step of an item, in the call that its domain has open
    called : (d : DomId) (z : Step) (v : Observation) (a : Option Answer) (o : Option Underway)
        → open_call h d.0 ≡ o → StepsRightIn s h (stepped d z v a) z v o
        → (c : Underway) × (open_call h d.0 ≡ Some c) × StepsRight s h (stepped d z v a) z v c
        × IsOfScript grants d c.request × CallHolds (legs_at h d.0) d c.request (values c)
    called d z v a None is right = absurd right
    called d z v a (Some c) is right =
        let both : CallSound (legs_at h d.0) d (Some c) = subst (CallSound (legs_at h d.0) d) is (sound.calls d) in
        (c, is, right, both.0, both.1)

    publishes-plain : (d : DomId) (gref : GrantRef) (looked : ℕ) (entry : Entry) (a : Option Answer)
        → IsRight s h (stepped d (Exchange gref looked (Publish entry)) Taken a) → IsGranted grants d.0 gref.0 entry
    publishes-plain d gref looked entry a right =
        let call = called d (Exchange gref looked (Publish entry)) Taken a (open_call h d.0) refl right in
        let opened = path-opened (known_at s h d) d call.0.request (values call.0)
        (Exchange gref looked (Publish entry)) call.2.continues in
        let gives : call.0.request ≡ Grant gref entry = step-facts s h d call.0.request
        (no-probe d call.0.request call.3) (values call.0) (Exchange gref looked (Publish entry)) opened.1 in
        subst (IsOfScript grants d) gives call.3

    entries-then : (i : Item) → IsRight s h i → (t r : ℕ) → IsEntryOfScript grants t r (entry_at (i ∷ h) t r)
    entries-then i right t r = subst (IsEntryOfScript grants t r) (sym (exchanged-entry h i t r))
        (changed-granted grants t r (change_of i t r) (entry_at h t r) new (sound.entries t r))
      where
        own : (b : Bool) (entry : Entry) → cond b (change_at i.happened r) None ≡ Some (Publish entry)
            → (b ≡ true) × (change_at i.happened r ≡ Some (Publish entry))
        own true entry e = (refl, e)
        own false entry e = absurd (none-some (Publish entry) e)

        new : (entry : Entry) → change_of i t r ≡ Some (Publish entry) → IsGranted grants t r entry
        new entry e =
            let mine = own (i.actor.0 == t) entry e in
            let it = published i.happened r entry mine.1 in
            subst (λ (n : ℕ). IsGranted grants n r entry) (eqb-true i.actor.0 t mine.0)
            (subst (λ (n : ℕ). IsGranted grants i.actor.0 n entry) it.3
            (publishes-plain i.actor it.0 it.1 entry i.answer
            (subst (λ (x : ItemEvent). IsRight s h (record { actor = i.actor; happened = x; answer = i.answer })) it.2
            right)))

    began-sound : (d : DomId) (q : Request) (a : Option Answer) → open_call h d.0 ≡ None
        → (a ≡ None → IsOfScript grants d (asked q))
        → CallSound (legs_at (record { actor = d; happened = Began q; answer = a } ∷ h) d.0) d
        (underway_after (record { actor = d; happened = Began q; answer = a }) (open_call h d.0))
    unfolding live
    began-sound d q a rest plain = by a plain where
      none : legs_at h d.0 ≡ []
      none = subst (CallSound (legs_at h d.0) d) rest (sound.calls d)

      same : (b : Option Answer) → legs_at (record { actor = d; happened = Began q; answer = b } ∷ h) d.0 ≡ []
      same b = ap (λ ps. gather by_leg d.0 ps) (append-nil (live h)) ∙ none

      by : (b : Option Answer) → (b ≡ None → IsOfScript grants d (asked q))
          → CallSound (legs_at (record { actor = d; happened = Began q; answer = b } ∷ h) d.0) d
          (underway_after (record { actor = d; happened = Began q; answer = b }) (open_call h d.0))
      by None may = (may refl, holds-first _ d (asked q) (same None))
      by (Some answer) may = same (Some answer)

    own-sound : (d : DomId) (x : ItemEvent) (a : Option Answer) → IsLikeReached s h
        → IsRight s h (record { actor = d; happened = x; answer = a })
        → IsItemOfScript s grants (record { actor = d; happened = x; answer = a })
        → CallSound (legs_at (record { actor = d; happened = x; answer = a } ∷ h) d.0) d
        (underway_after (record { actor = d; happened = x; answer = a }) (open_call h d.0))
    own-sound d (Began q) a like right said = began-sound d q a right.0 said.begins
    own-sound d (Stepped z v) a like right said =
        let call = called d z v a (open_call h d.0) refl right in
        subst (λ (o : Option Underway). CallSound (legs_at (stepped d z v a ∷ h) d.0) d
        (underway_after (stepped d z v a) o)) (sym call.1)
        (stepped-sound h d z v a call.0 call.2 sound.entries
        (step-in-run s h d call.0 z v a like said.in_run call.1 call.2).pinning call.3 call.4)

    calls-then : (i : Item) → IsLikeReached s h → IsRight s h i → IsItemOfScript s grants i → (d : DomId)
        → CallSound (legs_at (i ∷ h) d.0) d (open_call (i ∷ h) d.0)
    calls-then i like right said d = by (i.actor.0 == d.0) refl where
      own : CallSound (legs_at (i ∷ h) i.actor.0) i.actor (open_call (i ∷ h) i.actor.0)
      own = subst (CallSound (legs_at (i ∷ h) i.actor.0) i.actor) (sym (open_call-own i h))
          (own-sound i.actor i.happened i.answer like right said)

      by : (b : Bool) → (i.actor.0 == d.0) ≡ b → CallSound (legs_at (i ∷ h) d.0) d (open_call (i ∷ h) d.0)
      by true e = let same : i.actor ≡ d = ap (λ (n : ℕ). record { 0 = n }) (eqb-true i.actor.0 d.0 e) in
          subst (λ (x : DomId). CallSound (legs_at (i ∷ h) x.0) x (open_call (i ∷ h) x.0)) same own
      by false e = subst (λ l. CallSound l d (open_call (i ∷ h) d.0)) (sym (other-pins by_leg i h d.0 e))
          (subst (CallSound (legs_at h d.0) d) (sym (open_call-other i h d.0 e)) (sound.calls d))

  sound-first : IsSound []
  unfolding entry_at live gather open_call
  sound-first = record { entries = λ t r. inl refl; calls = λ d. refl }

  -- a history so far: it is like one that a core represents
  pub record IsSoundRun (h : History) : Type 0 where
    pub sound : IsSound h
    pub like : IsLikeReached s h

  pub is-sound : (h : History) → IsLikeReached s [] → IsRun s h → AllOfScript s grants h → IsSoundRun h
  unfolding IsRun
  is-sound [] start run all = record { sound = sound-first; like = start }
  is-sound (i ∷ h) start run all = let was = is-sound h start run.2 all.1 in record {
    sound = record {
      entries = entries-then h was.sound i run.0;
      calls = calls-then h was.sound i was.like run.0 all.0;
    };
    like = like-goes-on s h i was.like all.0.in_run run.0 run.1 all.0.fits;
  }

  -- the next step of an open call

  module _ (h : History) (sound : IsSound h) (d : DomId) (c : Underway) (is : open_call h d.0 ≡ Some c) (z : Step)
      (next : path (known_at s h d) d c.request (values c) ≡ Some (actions.Step z)) where
    both : IsOfScript grants d c.request × CallHolds (legs_at h d.0) d c.request (values c)
    both = subst (CallSound (legs_at h d.0) d) is (sound.calls d)

    open-path : (begun (known_at s h d) d c.request ≡ None)
        × (steps_of (known_at s h d) d c.request (values c) ≡ Some (actions.Step z))
    open-path = path-opened (known_at s h d) d c.request (values c) z next

    leg-released : (r : OpenRequest) (vs : List Observation) (p : HeldPin) (n : ℕ)
        → CallHolds (legs_at h d.0) d r vs
        → StepFacts (known_at s h d) r (held_along (steps_of (known_at s h d) d r) [] vs) (Unpin p (holders.Leg n))
        → Releases h d (Unpin p (holders.Leg n))
    leg-released (Map dom gref flags) vs p n holds f = last-released h d p n f.1.0
        (is-last h d p n (held_along (steps_of (known_at s h d) d (Map dom gref flags)) [] vs) f.1.0 f.1.1 f.1.2
        (subst (λ (g : Continuation). AreLegs (legs_at h d.0) (held_along g [] vs)) (sym (map-same h d dom gref flags))
        holds.0))
    leg-released (Copy x) vs p n holds f = last-released h d p n f.1.0
        (is-last h d p n (held_along (steps_of (known_at s h d) d (Copy x)) [] vs) f.1.0 f.1.1 f.1.2
        (subst (λ (g : Continuation). AreLegs (legs_at h d.0) (held_along g [] vs)) (sym (copy-same h d x)) holds.0))
    leg-released r vs p n holds f = absurd f.0

    -- it releases the pin that it names, if it releases one
    pub releases-own : Releases h d z
    releases-own = by z (step-facts s h d c.request (no-probe d c.request both.0) (values c) z open-path.1) where
      by : (y : Step) → StepFacts (known_at s h d) c.request
          (held_along (steps_of (known_at s h d) d c.request) [] (values c)) y → Releases h d y
      by (Unpin p (holders.Mapping handle)) f = unmaps-release h d p handle f
      by (Unpin p (holders.Leg n)) f = leg-released c.request (values c) p n both.1 f
      by y f = tt

    -- the pins that a copy took are on such entries
    pub copy-took : (x : CopyArgs) → c.request ≡ Copy x
        → TookOf IsPlain (steps_of (known_at s h d) d (Copy x)) (values c)
    copy-took x same = subst (λ (g : Continuation). TookOf IsPlain g (values c)) (sym (copy-same h d x))
        (subst (λ (r : OpenRequest). CallHolds (legs_at h d.0) d r (values c)) same both.1).1
