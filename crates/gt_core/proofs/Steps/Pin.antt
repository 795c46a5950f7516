-- A pin: what a core represents after it, what a pin that is taken depends on, and how its call continues.
use Rattle.gt_core.proofs.Words.{◌≡◌, ◌<◌, ◌+◌, ℕ, refl, Bool, true, List, [], ◌∷◌, ◌++◌, length, Option, Some, cond}
use Rattle.gt_core.proofs.Words.{sym, ap, ◌∙◌, arith, subst, ◌==◌, ◌&&◌, All, All-push, append-nil, DomId, Dir, Read}
use Rattle.gt_core.proofs.Words.{Write, MAX_PINS, BodyWord, HandleMap, Handle, HeldPin, PinHolder, PinCounts, OpenCall}
use Rattle.gt_core.proofs.Words.{Item, Answer, Mapped, State, state_of, changed_in, with_slot, slot_after, Adds}
use Rattle.gt_core.proofs.Words.{History, Setting, Pin, live, entry_at, body_at, mappings_at, maps_answered_at, legs_at}
use Rattle.gt_core.proofs.Words.{open_call, is_pin_on, same_dir, FitsWord, control_at, gather, mapping_named, by_leg}
use Rattle.gt_core.proofs.Words.{holder_after, one_if_mapped, IsLawfulPin, SlotAgrees, StateStands, DomainsStand}
use Rattle.gt_core.proofs.Words.{CallAgrees, GivenAgrees, MappingsAgree, None, false, inl, inr, reverse, ◌≢◌, cond_both}
use Rattle.gt_core.proofs.Words.{eqb-false, false≢true, leb-false, true≢false, same_Some, is_none, not, ◌||◌, denial_of}
use Rattle.gt_core.proofs.Words.{domain_of, resolved, GrantRef, TypeId, Policy, N1, N11, N12, N13, N14, N15, N16, N17}
use Rattle.gt_core.proofs.Words.{N5, Perms, Triple, frame_of, allows_direction, is_copying, permits, control_of, Entry}
use Rattle.gt_core.proofs.Words.{Invalid, Page, Sub, Via, last_first, pins_so_far, action_at, after_dest_pin}
use Rattle.gt_core.proofs.Words.{after_pin_of, after_source_pin, at_dest, leg_after, phase_after, where_via}
use Rattle.gt_core.proofs.Words.{holds-first, opens, dest_pair, end_leg, held_of, map_leg, path, second_leg}
use Rattle.gt_core.proofs.Words.{source_pair, IsLegFor, IsOnFrom, Lets, RestsOnTry, CallerKnowledge, begun}
use Rattle.gt_core.proofs.Words.{control_with, copy_denied, denied, first, first_look, frame_count_of, is_dest_granted}
use Rattle.gt_core.proofs.Words.{is_outside_sub, is_past_owner, map_dir, pins_of, refused_when, rights_to_copy, stands}
use Rattle.gt_core.proofs.Words.{via_judged, HasShown, IsQuiet, Observation, Missed, Taken, Step, CallResult, Refused}
use Rattle.gt_core.proofs.Words.{Phase, Accessing, Ending, Last, Walking, PinPurpose, Dest, Mapping, Source, CallPins}
use Rattle.gt_core.proofs.Words.{AccessPath, Direct, Through, Leg, Pinning, OpenRequest, Copy, Map, CopyArgs}
use Rattle.gt_core.proofs.Words.{generation_at, known_at, reads_at, word_at, writes_at, LegNow, MayUse, NoneStands}
use Rattle.gt_core.proofs.Words.{StepsSoFar, leg_at, refusal_in, rule_at_pin, rule_at_via, rule_before_pin, EndsCopy}
use Rattle.gt_core.proofs.Words.{LegHasLooked, PhaseStands, numbered, misses, IsLegalHistory}
use Rattle.gt_model.specs.declared.action.Action.TheVariants as actions
use Rattle.gt_model.specs.declared.change.BodyWord.TheVariants as body_words
use Rattle.gt_model.specs.declared.action.Step.TheVariants as call_steps
use Rattle.gt_model.specs.declared.request.PinHolder.TheVariants as holders
use Rattle.gt_calls.specs.declared.leg.LegPhase.TheVariants as leg_phases
use Rattle.gt_types.specs.declared.Use.TheVariants as uses
use Rattle.gt_model.proofs.Observers.{answered-stays, gather-append, new_pin, pinned-live, Grows, grown-count}
use Rattle.gt_model.proofs.Observers.{at-place, pins, pins_at}
use Rattle.gt_core.proofs.{AgreementKept.KeepsEntries, AgreementKept.same-body, AgreementKept.becomes-changed}
use Rattle.gt_core.proofs.{AgreementKept.slots-stand, AgreementKept.keeps-stands, AgreementKept.same-number}
use Rattle.gt_core.proofs.{Mappings.mappings-added, Mappings.mappings-same, AgreementKept.counts-fit, Phases.none-of}
use Rattle.gt_core.proofs.{Phases.IsHere, Phases.makes-same, Phases.by-giving, Phases.of-run, Phases.words-of}
use Rattle.gt_core.proofs.{Phases.Leads, Legs.alone, Legs.control-parts, Legs.IsAsTried, Legs.as-tried}
use Rattle.gt_core.proofs.{Legs.still-judged, Legs.IsLegOf, Legs.ComesTo, Legs.miss-comes, PinPurposes.pair_of}
use Rattle.gt_core.proofs.{PinPurposes.leg-here}
use Rattle.gt_core.specs.declared.pin_counts.CountsChange.TheVariants.{Pinned}
use Rattle.gt_model.specs.declared.held.AccessPath.TheVariants.{Own}
use Rattle.gt_calls.specs.Resting.{IsCopyOf}
use Rattle.gt_calls.specs.Opening.{OpensCopy}
use Rattle.gt_model.specs.declared.request.OpenRequest.TheVariants.{Probe}

-- the pin can be counted
abbrev pub IsFew : History → Pin → Type 0
IsFew h p = pins_at h p.held.dom.0 p.held.gref.0 p.held.dir < MAX_PINS

-- the slot that the pin counts up
counted-up : (h new : History) (q r : ℕ) (dir : Dir) (b : Bool) (old : PinCounts) → SlotAgrees h q r old → ((which : BodyWord) → body_at new q r which ≡ body_at h q r which)
    → ((k : Dir) → pins_at new q r k ≡ pins_at h q r k + cond (b && same_dir dir k) 1 0) → ((k : Dir) → (b && same_dir dir k) ≡ true → pins_at h q r k < MAX_PINS)
    → SlotAgrees new q r (cond b (slot_after (Pinned dir) old) old)
counted-up h new q r dir b old a body now few = grind (arith, now Read, now Write, few Read, few Write, body body_words.First, body body_words.Second)

-- counts and words

pub pins-fit : (s : Setting) (h : History) (t r : ℕ) (k : Dir) → FitsWord (control_at s h t r) → pins_at h t r k < MAX_PINS + 1
pins-fit s h t r k f = grind arith

now-fits : (b : Bool) (now was : ℕ) → was < MAX_PINS + 1 → (b ≡ true → was < MAX_PINS) → now ≡ was + cond b 1 0 → now < MAX_PINS + 1
now-fits b now was a few e = grind arith

-- what the pin gives to its domain
gathered : {A : Type 0} (give : PinHolder → HeldPin → List A) (h : History) (d : DomId) (p : HeldPin) (answer : Option Answer)
    → gather give d.0 (live (pins d p answer ∷ h)) ≡ gather give d.0 (live h) ++ give (holder_after answer (length (gather by_leg d.0 (live h)))) (record p { entry = entry_at h p.dom.0 p.gref.0 })
unfolding gather
gathered give h d p answer = grind (arith, pinned-live, gather-append, same-number, append-nil)

-- a pin of a leg is its domain's last one, and no mapping
pub leg-grows : (h : History) (d : DomId) (p : HeldPin) (answer : Option Answer) → holder_after answer (length (legs_at h d.0)) ≡ holders.Leg (length (legs_at h d.0))
    → legs_at (pins d p answer ∷ h) d.0 ≡ legs_at h d.0 ++ (length (legs_at h d.0), record p { entry = entry_at h p.dom.0 p.gref.0 }) ∷ []
leg-grows h d p answer leg = gathered by_leg h d p answer ∙ ap (λ (x : PinHolder). legs_at h d.0 ++ by_leg x (record p { entry = entry_at h p.dom.0 p.gref.0 })) leg

pub leg-maps : (h : History) (d : DomId) (p : HeldPin) (answer : Option Answer) → holder_after answer (length (legs_at h d.0)) ≡ holders.Leg (length (legs_at h d.0)) → mappings_at (pins d p answer ∷ h) d.0 ≡ mappings_at h d.0
leg-maps h d p answer leg = grind (arith, gathered, append-nil)

pub map-legs : (h : History) (d : DomId) (p : HeldPin) (handle : Handle) → legs_at (pins d p (Some (Mapped handle)) ∷ h) d.0 ≡ legs_at h d.0
map-legs h d p handle = gathered by_leg h d p (Some (Mapped handle)) ∙ append-nil (legs_at h d.0)

answered-up : (h : History) (d : DomId) (p : HeldPin) (handle : Handle) → maps_answered_at h d.0 + 1 ≡ maps_answered_at (pins d p (Some (Mapped handle)) ∷ h) d.0
unfolding maps_answered_at
answered-up h d p handle = rw (same-number d.0) (omega arith)

-- after a lawful pin the core represents the history with it, if the domain's mappings are those that it then has
pub pin-stands : (s : Setting) (h : History) (xs ys : List State) (x : State) (p : HeldPin) (answer : Option Answer) (kept : HandleMap HeldPin) (o : Option OpenCall) → DomainsStand s h xs → state_of xs x.id.0 ≡ Some x → StateStands s h x
    → ((q : ℕ) → state_of ys q ≡ cond (x.id.0 == q) (Some (record x { mappings = kept; underway = o })) (state_of xs q))
    → IsFew h (new_pin h x.id p answer) → IsLawfulPin s (new_pin h x.id p answer)
    → MappingsAgree kept (mappings_at (pins x.id p answer ∷ h) x.id.0) (maps_answered_at (pins x.id p answer ∷ h) x.id.0)
    → CallAgrees s (pins x.id p answer ∷ h) x.id o (open_call (pins x.id p answer ∷ h) x.id.0) → GivenAgrees (pins x.id p answer ∷ h) x.id.0 x.given
    → DomainsStand s (pins x.id p answer ∷ h) (changed_in p.dom.0 (with_slot p.gref.0 (Pinned p.dir)) ys)
pin-stands s h xs ys x p answer kept o st here a becomes few lawful maps call given =
    let i : Item = pins x.id p answer in let q : Pin = new_pin h x.id p answer in
    let keeps : KeepsEntries i = record { changes = λ r. refl; stores = λ r which. refl; header = refl } in let grows : Grows h i q = pinned-live h x.id p answer in
    let there = λ (t r : ℕ) (k : Dir). at-place (λ (t r : ℕ) (k : Dir). pins_at h t r k < MAX_PINS) q t r k few in
    keeps-stands s i h xs _ keeps st
    (slots-stand s i h xs _ x kept o p.dom.0 p.gref.0 (Pinned p.dir) keeps.changes refl refl st here a (becomes-changed xs ys x (record x { mappings = kept; underway = o }) p.dom.0 (with_slot p.gref.0 (Pinned p.dir)) (λ y. refl) becomes)
    (λ u r old w. counted-up h (i ∷ h) u r p.dir ((p.dom.0 == u) && (p.gref.0 == r)) old w (λ which. same-body i h u r which keeps) (λ k. grown-count h i q u r k grows) (there u r)) maps call given)
    (subst (All (IsLawfulPin s)) (sym grows) (All-push (IsLawfulPin s) (live h) q st.lawful lawful))
    (λ u r k within. now-fits (is_pin_on u r k q) (pins_at (i ∷ h) u r k) (pins_at h u r k) (pins-fit s h u r k (st.words u r within)) (there u r k) (grown-count h i q u r k grows))

-- the mappings after the pin of a map
pub map-agrees : (h : History) (d : DomId) (p : HeldPin) (handle : Handle) (old kept : HandleMap HeldPin) → Adds old kept handle (record p { entry = entry_at h p.dom.0 p.gref.0 }) → MappingsAgree old (mappings_at h d.0) (maps_answered_at h d.0)
    → MappingsAgree kept (mappings_at (pins d p (Some (Mapped handle)) ∷ h) d.0) (maps_answered_at (pins d p (Some (Mapped handle)) ∷ h) d.0)
map-agrees h d p handle old kept adds a =
    mappings-same kept _ _ _ _ (sym (gathered mapping_named h d p (Some (Mapped handle)))) (answered-up h d p handle)
    (mappings-added old kept handle (record p { entry = entry_at h p.dom.0 p.gref.0 }) (mappings_at h d.0) (maps_answered_at h d.0) adds a)

-- and after the pin of a leg
pub leg-agrees : (h : History) (d : DomId) (p : HeldPin) (answer : Option Answer) (kept : HandleMap HeldPin) → holder_after answer (length (legs_at h d.0)) ≡ holders.Leg (length (legs_at h d.0)) → one_if_mapped answer ≡ 0
    → MappingsAgree kept (mappings_at h d.0) (maps_answered_at h d.0) → MappingsAgree kept (mappings_at (pins d p answer ∷ h) d.0) (maps_answered_at (pins d p answer ∷ h) d.0)
leg-agrees h d p answer kept leg m a = mappings-same kept _ _ _ _ (sym (leg-maps h d p answer leg)) (sym (answered-stays h (pins d p answer) d.0 m)) a

-- what a pin that is taken depends on

-- the pin that is taken is of the present entry, to which no rule of its leg applies, and it can be counted
pub record CanPin (s : Setting) (h : History) (d : DomId) (r : OpenRequest) (p : HeldPin) : Type 0 where
  pub is : record p { entry = entry_at h p.dom.0 p.gref.0 } ≡ p
  pub valid : entry_at h p.dom.0 p.gref.0 ≢ Invalid
  pub few : pins_at h p.dom.0 p.gref.0 p.dir < MAX_PINS
  pub sound : NoneStands s h p.dom p.gref (leg_at s h d r)

-- before a pin there is room for it
pins-left : (a b c : Bool) → first (stands a N14 ∷ stands b N16 ∷ stands c N17 ∷ []) ≡ None → c ≡ false
pins-left false false false e = refl
pins-left a b c e = cc

pins-now : (s : Setting) (h : History) (t r : ℕ) (dir : Dir) → (reads_at h t r < MAX_PINS + 1) × (writes_at h t r < MAX_PINS + 1) → (pins_of dir (control_at s h t r) ≡ pins_at h t r dir) × (pins_at h t r dir < MAX_PINS + 1)
pins-now s h t r Read a = ((control-parts (entry_at h t r) (generation_at s h t r) (reads_at h t r) (writes_at h t r)).1, a.0)
pins-now s h t r Write a = ((control-parts (entry_at h t r) (generation_at s h t r) (reads_at h t r) (writes_at h t r)).2, a.1)

taken-pin : (s : Setting) (h : History) (xs : List State) (d : DomId) (r : OpenRequest) (so_far : StepsSoFar) (pin_purpose : PinPurpose) (l : Leg) (more word body second : ℕ) → IsLegalHistory s h → DomainsStand s h xs → IsLegFor (known_at s h d) d r pin_purpose l
    → legs_at h d.0 ≡ numbered 0 (reverse (last_first (pins_so_far pin_purpose))) → PhaseStands s h d r so_far (Walking pin_purpose l (Pinning more word body second)) → word_at s h l.dom.0 l.gref.0 ≡ word
    → CanPin s h d r (held_of l word body second)
taken-pin s h xs d r so_far pin_purpose l more word body second legal st is held place same =
    let a : IsAsTried s h l word body second = as-tried s h l so_far more word body second None place.1.0 place.1.1 (words-of s h xs l legal st) same in
    let p : HeldPin = held_of l word body second in
    let judged : rule_before_pin s h l l.dom l.gref ≡ None = still-judged s h l word body second a ∙ place.1.1.judged in
    let q = pins-now s h l.dom.0 l.gref.0 l.dir (counts-fit s h l.dom.0 l.gref.0 (st.words l.dom.0 l.gref.0 place.1.0.within)) in
    let full : pins_of l.dir (control_at s h l.dom.0 l.gref.0) ≢ MAX_PINS = eqb-false _ MAX_PINS (pins-left (is_outside_sub l (entry_at h l.dom.0 l.gref.0)) (is_past_owner l (entry_at h l.dom.0 l.gref.0)) _ judged) in
    let apart : pins_at h l.dom.0 l.gref.0 l.dir ≢ MAX_PINS = λ e. full (q.0 ∙ e) in let lt : pins_at h l.dom.0 l.gref.0 l.dir < MAX_PINS + 1 = q.1 in record {
      is = ap (λ (e : Entry). record p { entry = e }) (sym a.entry);
      valid = a.valid;
      few = omega arith;
      sound = subst (NoneStands s h l.dom l.gref) (sym (leg-here s h d r pin_purpose l is held)) (ap (first_look l) (sym a.control) ∙ place.1.0.passed, judged);
    }

pub can-pin : (s : Setting) (h : History) (xs : List State) (d : DomId) (r : OpenRequest) (shown : List Observation) (so_far : StepsSoFar) (phase : Phase) (p : HeldPin) → IsHere s h xs d r shown so_far phase (call_steps.Pin p)
    → word_at s h p.dom.0 p.gref.0 ≡ p.word → CanPin s h d r p
can-pin s h xs d r shown so_far phase p i same = by phase i.at.has_shown i.place i.acts i.held where
  by : (z : Phase) → HasShown (known_at s h d) (path (known_at s h d) d r) d r shown z → PhaseStands s h d r so_far z → action_at d z ≡ actions.Step (call_steps.Pin p)
      → legs_at h d.0 ≡ numbered 0 (reverse (last_first (Rattle.gt_calls.specs.Standing.pins_at z))) → CanPin s h d r p
  by (Walking pin_purpose l (Pinning more word body second)) a b e held = let q : held_of l word body second ≡ p = cc in
      subst (CanPin s h d r) q (taken-pin s h xs d r so_far pin_purpose l more word body second i.legal i.st a.1 held b (subst (λ (z : HeldPin). word_at s h z.dom.0 z.gref.0 ≡ z.word) (sym q) same))
  by (Walking pin_purpose l at) a b e held = cc
  by (Last last verdict) a b e held = absurd (subst IsQuiet (makes-same _ _ e) a.0)
  by (Ending pins verdict) a b e held = absurd (by-giving (λ (z : Step). z ≡ call_steps.Pin p → ⊥) (λ q n f. cc) (last_first pins) verdict _ e refl)
  by z a b e held = cc

-- a pin that a map takes is lawful

map-lets : (k : CallerKnowledge) (d dom : DomId) (gref : GrantRef) (flags : ℕ) (e : Entry) → Lets (map_leg k d dom gref flags) e
    → (permits e d (map_dir flags) uses.Map 0 0 ≡ true) × (frame_of e < frame_count_of k.domains (resolved d dom))
map-lets k d dom gref flags Invalid a = absurd a
map-lets k d dom gref flags (Page to ro frame) a = (a.0, leb-false (frame_count_of k.domains (resolved d dom)) frame a.1)
map-lets k d dom gref flags (Sub to ro frame off len) a = (a.0, leb-false (frame_count_of k.domains (resolved d dom)) frame a.1)
map-lets k d dom gref flags (Via to ro dom2 r) a = absurd (false≢true a.1)

not-map : (r : OpenRequest) (dom : DomId) (gref : GrantRef) (flags : ℕ) (c : CopyArgs) → r ≡ Map dom gref flags → IsCopyOf r c → ⊥
not-map r dom gref flags c is (inl a) = let f : Map dom gref flags ≡ Copy c = sym is ∙ a in cc
not-map r dom gref flags c is (inr a) = let f : Map dom gref flags ≡ Probe c = sym is ∙ a in cc

pub map-lawful : (s : Setting) (h : History) (d : DomId) (r : OpenRequest) (p : HeldPin) (shown : List Observation) (pins : CallPins) → begun (known_at s h d) d r ≡ None → RestsOnTry (known_at s h d) d r pins (path (known_at s h d) d r) shown p
    → (dom : DomId) (gref : GrantRef) (flags : ℕ) → r ≡ Map dom gref flags
    → (permits p.entry d p.dir uses.Map 0 0 ≡ true) × MayUse s d p.dom p.dir × (frame_of p.entry < frame_count_of s.domains p.dom) × (domain_of s.domains p.dom ≢ None)
map-lawful s h d r p shown pins none t dom gref flags is = by t.pin_purpose t.purposed where
  k : CallerKnowledge
  k = known_at s h d

  Lawful : HeldPin → Type 0
  Lawful q = (permits p.entry d q.dir uses.Map 0 0 ≡ true) × MayUse s d q.dom q.dir × (frame_of p.entry < frame_count_of s.domains q.dom) × (domain_of s.domains q.dom ≢ None)

  by : (pin_purpose : PinPurpose) → IsLegFor k d r pin_purpose t.leg → Lawful p
  by Mapping a = let l = map_leg k d a.dom a.gref a.flags in let lets = map-lets k d a.dom a.gref a.flags p.entry (subst (λ (l : Leg). Lets l p.entry) a.leg_is t.lets) in
      let o = opens k d (Map a.dom a.gref a.flags) (none-of k d r (Map a.dom a.gref a.flags) a.of_map none) in
      let q : held_of l p.word t.body t.second ≡ p = sym (t.pin_is ∙ ap (λ (l : Leg). held_of l p.word t.body t.second) a.leg_is) in
      subst Lawful q (lets.0, o.allowed, lets.1, of-run (domain_of s.domains (resolved d a.dom)) o.of_run)
  by (Source c via) a = absurd (not-map r dom gref flags c is a.0)
  by (Dest c source via) a = absurd (not-map r dom gref flags c is a.0)

-- what follows a pin, missed or taken

-- a try whose exchange found another word
pub missed-comes : (s : Setting) (h : History) (l : Leg) (d : DomId) (r : OpenRequest) (more word body second : ℕ) (so_far : StepsSoFar) (b : Bool) → b ≡ false → LegHasLooked s h l so_far more word → let p = held_of l word body second in let v = cond b Taken (Missed (word_at s h l.dom.0 l.gref.0)) in
    ComesTo s h l ((call_steps.Pin p, v) ∷ so_far) (rule_at_pin s h d r so_far p v) (leg_after l (Pinning more word body second) v)
unfolding misses
missed-comes s h l d r more word body second so_far true e a = absurd (true≢false e)
missed-comes s h l d r more word body second so_far false e a = let w = word_at s h l.dom.0 l.gref.0 in
    miss-comes s h l more w (misses so_far) ((call_steps.Pin (held_of l word body second), Missed w) ∷ so_far) _ a.within a.turn refl refl refl

-- a leg that may meet a Via: the first one to an end of a copy
abbrev pub IsFirstLeg : PinPurpose → Type 0
IsFirstLeg (Source c None) = Unit {0}
IsFirstLeg (Dest c source None) = Unit {0}
IsFirstLeg pin_purpose = ⊥

-- the entry is a Via
abbrev pub IsVia : Entry → Type 0
IsVia (Via dom ro dom2 gref) = Unit {0}
IsVia entry = ⊥

pub no-via : (k : CallerKnowledge) (l : Leg) (pair : DomId → DomId × DomId) (e : Entry) → (IsVia e → ⊥) → rule_at_via k (Some (record { leg = l; pair = pair })) e ≡ None
no-via k l pair (Via dom ro dom2 gref) n = absurd (n tt)
no-via k l pair e n = refl

passed : (b c d e : Bool) → first (stands b N11 ∷ stands (not (c || false)) N12 ∷ stands d N13 ∷ stands (e && true) N15 ∷ []) ≡ None → (c ≡ true) × (e ≡ false)
passed false true false false h = (refl, refl)
passed b c d e h = cc

-- only the first legs of a copy meet a Via
via-passed : (l : Leg) (dom : DomId) (ro : Bool) (dom2 : DomId) (gref : GrantRef) (g r w : ℕ) → first_look l (control_with (Via dom ro dom2 gref) g r w) ≡ None → (is_copying l.purpose ≡ true) × (l.beyond_via ≡ false)
via-passed l dom ro dom2 gref g r w e = passed (not (dom.0 == l.grantee.0)) (is_copying l.purpose) (not (allows_direction ro l.dir)) l.beyond_via e

second-beyond : (k : CallerKnowledge) (n : Leg) (e : Entry) (l : Leg) → IsOnFrom k n e l → l.beyond_via ≡ true
second-beyond k n (Via dom ro dom2 gref) l is = ap (λ (z : Leg). z.beyond_via) is
second-beyond k n e l is = absurd is

first-leg-of : (k : CallerKnowledge) (d : DomId) (r : OpenRequest) (pin_purpose : PinPurpose) (l : Leg) → IsLegFor k d r pin_purpose l → is_copying l.purpose ≡ true → l.beyond_via ≡ false → IsFirstLeg pin_purpose
first-leg-of k d r Mapping l is copying beyond = false≢true (ap (λ (z : Leg). is_copying z.purpose) (sym is.leg_is) ∙ copying)
first-leg-of k d r (Source c (Some via)) l is copying beyond = true≢false (sym (second-beyond k (end_leg k d c.source Read c.len) via.entry l is.1.2) ∙ beyond)
first-leg-of k d r (Dest c source (Some via)) l is copying beyond = true≢false (sym (second-beyond k (end_leg k d c.dest Write c.len) via.entry l is.2.2) ∙ beyond)
first-leg-of k d r pin_purpose l is copying beyond = tt

pub met-first : (k : CallerKnowledge) (d : DomId) (r : OpenRequest) (pin_purpose : PinPurpose) (l : Leg) (e : Entry) (g n m : ℕ) → IsLegFor k d r pin_purpose l → first_look l (control_with e g n m) ≡ None → IsVia e → IsFirstLeg pin_purpose
met-first k d r pin_purpose l (Via dom ro dom2 gref) g n m is passed v = let f = via-passed l dom ro dom2 gref g n m passed in first-leg-of k d r pin_purpose l is f.0 f.1
met-first k d r pin_purpose l e g n m is passed v = absurd v

-- the rule that applies at a Via ends the copy with a refusal
denied-ends : (may : TypeId → TypeId → Perms → Bool) (ts : List Triple) (v : CallResult) → denied may ts ≡ Some v → EndsCopy v
denied-ends may [] v e = cc
denied-ends may (t ∷ ts) v e =
    cond_both (may t.source t.target t.perm) (denied may ts) (Some (Refused (denial_of N5 (Policy t.source t.target t.perm)))) (λ o. o ≡ Some v → EndsCopy v) (λ is f. denied-ends may ts v f) (λ is f. subst EndsCopy (same_Some _ _ f) tt) e

via-ends : (k : CallerKnowledge) (pair : DomId × DomId) (dom : DomId) (v : CallResult) → via_judged k pair dom ≡ Some v → EndsCopy v
via-ends k pair dom v e = by (is_none (domain_of k.domains dom)) e where
  by : (b : Bool) → first (refused_when b N1 ∷ copy_denied k pair.0 pair.1 ∷ []) ≡ Some v → EndsCopy v
  by true f = subst EndsCopy (same_Some _ _ f) tt
  by false f = denied-ends k.may (rights_to_copy k pair.0 pair.1) v (alone (copy_denied k pair.0 pair.1) ∙ f)

-- what holds for a copy or a probe that no rule answers at its beginning
copy-opens : (k : CallerKnowledge) (d : DomId) (r : OpenRequest) (c : CopyArgs) → IsCopyOf r c → begun k d r ≡ None → OpensCopy k d c
copy-opens k d r c (inl is) none = opens k d (Copy c) (subst (λ (z : OpenRequest). begun k d z ≡ None) is none)
copy-opens k d r c (inr is) none = (opens k d (Probe c) (subst (λ (z : OpenRequest). begun k d z ≡ None) is none)).copy

-- the next leg, the access, or the end
module _ (s : Setting) (h : History) (d : DomId) (r : OpenRequest) where
  where-leads : (c : CopyArgs) (now : StepsSoFar) (pin_purpose : PinPurpose) (l : Leg) (pair : DomId × DomId) (o : Option CallResult) → IsCopyOf r c → via_judged (known_at s h d) pair l.dom ≡ o
      → Leads s h d r now (refusal_in o) (where_via o pin_purpose l)
  where-leads c now pin_purpose l pair None is e = (refl, (of-run (domain_of s.domains l.dom) (holds-first (is_none (domain_of s.domains l.dom)) N1 (copy_denied (known_at s h d) pair.0 pair.1 ∷ []) e), tt))
  where-leads c now pin_purpose l pair (Some v) is e = (refl, inr (c, is, via-ends (known_at s h d) pair l.dom v e))

  pub dest-leads : (c : CopyArgs) (source : AccessPath) (now : StepsSoFar) → IsCopyOf r c → begun (known_at s h d) d r ≡ None → Leads s h d r now None (at_dest (known_at s h d) d c source)
  dest-leads c source now is none =
      cond_both (is_dest_granted c) (Walking (Dest c source None) (end_leg (known_at s h d) d c.dest Write c.len) leg_phases.Header) (Accessing c source Own) (Leads s h d r now None)
      (λ a. (refl, (of-run (domain_of s.domains (resolved d c.dest.domid)) (copy-opens (known_at s h d) d r c is none).dest_of_run, tt))) (λ a. (refl, tt))

  source-pin-leads : (c : CopyArgs) (l : Leg) (p : HeldPin) (e : Entry) (now : StepsSoFar) → IsCopyOf r c → begun (known_at s h d) d r ≡ None
      → Leads s h d r now (rule_at_via (known_at s h d) (Some (record { leg = l; pair = source_pair d c })) e) (after_source_pin (known_at s h d) d c l p e)
  source-pin-leads c l p (Via dom ro dom2 gref) now is none =
      where-leads c now (Source c (Some p)) (second_leg (known_at s h d) l dom2 gref) (source_pair d c dom2) _ is refl
  source-pin-leads c l p e now is none = dest-leads c (Direct p) now is none

  dest-pin-leads : (c : CopyArgs) (source : AccessPath) (l : Leg) (p : HeldPin) (e : Entry) (now : StepsSoFar) → IsCopyOf r c
      → Leads s h d r now (rule_at_via (known_at s h d) (Some (record { leg = l; pair = dest_pair d source })) e) (after_dest_pin (known_at s h d) d c source l p e)
  dest-pin-leads c source l p (Via dom ro dom2 gref) now is =
      where-leads c now (Dest c source (Some p)) (second_leg (known_at s h d) l dom2 gref) (dest_pair d source dom2) _ is refl
  dest-pin-leads c source l p e now is = (refl, tt)

  pin-leads : (pin_purpose : PinPurpose) (l : Leg) (p : HeldPin) (e : Entry) (now : StepsSoFar) → p.entry ≡ e → (IsVia e → IsFirstLeg pin_purpose) → IsLegFor (known_at s h d) d r pin_purpose l → begun (known_at s h d) d r ≡ None
      → Leads s h d r now (rule_at_via (known_at s h d) (Some (record { leg = l; pair = pair_of d pin_purpose })) e) (after_pin_of (known_at s h d) d pin_purpose l p)
  pin-leads Mapping l p e now same first is none = (no-via (known_at s h d) l (pair_of d Mapping) e (λ v. first v), inl refl)
  pin-leads (Source c None) l p e now same first is none = let k = known_at s h d in
      subst (λ (z : Entry). Leads s h d r now (rule_at_via k (Some (record { leg = l; pair = source_pair d c })) e) (after_source_pin k d c l p z)) (sym same) (source-pin-leads c l p e now is.0 none)
  pin-leads (Source c (Some via)) l p e now same first is none = let to = dest-leads c (Through via p) now is.0 none in
      (no-via (known_at s h d) l (pair_of d (Source c (Some via))) e (λ v. first v) ∙ to.0, to.1)
  pin-leads (Dest c source None) l p e now same first is none = let k = known_at s h d in
      subst (λ (z : Entry). Leads s h d r now (rule_at_via k (Some (record { leg = l; pair = dest_pair d source })) e) (after_dest_pin k d c source l p z)) (sym same) (dest-pin-leads c source l p e now is.0)
  pin-leads (Dest c source (Some via)) l p e now same first is none = (no-via (known_at s h d) l (pair_of d (Dest c source (Some via))) e (λ v. first v), tt)

  pub taken-leads : (so_far now : StepsSoFar) (pin_purpose : PinPurpose) (l : Leg) (more word body second : ℕ) (b : Bool) → b ≡ true → IsLegFor (known_at s h d) d r pin_purpose l → IsLegOf s h d r l (pair_of d pin_purpose) → begun (known_at s h d) d r ≡ None
      → first_look l (control_of word) ≡ None → IsAsTried s h l word body second
      → Leads s h d r now (rule_at_pin s h d r so_far (held_of l word body second) (cond b Taken (Missed (word_at s h l.dom.0 l.gref.0))))
      (phase_after (known_at s h d) d (Walking pin_purpose l (Pinning more word body second)) (cond b Taken (Missed (word_at s h l.dom.0 l.gref.0))))
  taken-leads so_far now pin_purpose l more word body second false e is leg none passed tried = absurd (false≢true e)
  taken-leads so_far now pin_purpose l more word body second true e is leg none passed tried = let p = held_of l word body second in let entry = entry_at h l.dom.0 l.gref.0 in
      subst (λ (o : Option LegNow). Leads s h d r now (rule_at_via (known_at s h d) o entry) (after_pin_of (known_at s h d) d pin_purpose l p)) (sym leg)
      (pin-leads pin_purpose l p entry now tried.entry (met-first (known_at s h d) d r pin_purpose l entry (generation_at s h l.dom.0 l.gref.0) (reads_at h l.dom.0 l.gref.0) (writes_at h l.dom.0 l.gref.0) is (ap (first_look l) (sym tried.control) ∙ passed)) is none)
