-- What a domain knows after a step of its call: the same where the call goes on, and where it ends the mappings that the
-- domain then has.
use Rattle.gt_model.specs.Rules.{CallerKnowledge, begun}
use Rattle.std.proofs.Common.{zero, suc, slice_index_or, slice_set, is_some, count_by}
use Rattle.std.proofs.lemmas.List.Elements.{All-pop}
use Rattle.std.proofs.lemmas.List.Sums.{sum_by-cons}
use Rattle.gt_core.proofs.Words.{Publish, ◌≡◌, ◌≢◌, ◌+◌, inl, inr, ℕ, refl, Bool, true, false, cond, ◌==◌, List, []}
use Rattle.gt_core.proofs.Words.{◌∷◌, ◌++◌, Option, Some, None, sym, ap, ◌∙◌, subst, reverse, same_Some, none-some}
use Rattle.gt_core.proofs.Words.{arith, eqb-true, fun_ext, All, DomId, domain_of, HeldPin, Handle, HandleMap, value_of}
use Rattle.gt_core.proofs.Words.{count_of, OpenRequest, Unmap, Release, Observation, Nothing, Word, Taken, Missed, Step}
use Rattle.gt_core.proofs.Words.{LookHeader, LookControl, LookBody, Unpin, StoreBody, StoreHeader, Exchange, CallResult}
use Rattle.gt_core.proofs.Words.{Granted, Given, Refused, Done, Phase, Ending, path, known_at, action_at, Setting}
use Rattle.gt_core.proofs.Words.{Underway, values, open_call, CallAgrees, IsClean, IsRight, StepsRightIn, LeavesAll}
use Rattle.gt_core.proofs.Words.{Rests, pins_at, PhaseStands, next_to_give, mapping_of, mappings_at, maps_answered_at}
use Rattle.gt_core.proofs.Words.{MappingsAgree, one_if_mapped, header_stored, change_at, handle_taken, gather}
use Rattle.gt_core.proofs.Words.{mapping_named, seen_by, word_at, answer_of, FitsStep, HandleSlot, last_first}
use Rattle.gt_core.proofs.Words.{after_beginning, same_handle, Denial, holder_after, FitsNext, eq-eqb, State}
use Rattle.gt_model.specs.declared.action.Action.TheVariants as actions
use Rattle.gt_model.specs.declared.action.Step.TheVariants as call_steps
use Rattle.gt_model.specs.declared.change.EntryChange.TheVariants as changes
use Rattle.gt_model.specs.declared.request.PinHolder.TheVariants as holders
use Rattle.gt_model.specs.declared.action.CallResult.TheVariants as results
use Rattle.gt_model.specs.declared.held.CallPins.{CallPins}
use Rattle.gt_model.specs.declared.action.CallValue.TheVariants.{Frames}
use Rattle.gt_model.specs.declared.action.CallValue.TheVariants as call_values
use Rattle.gt_model.specs.declared.action.Action.{Action}
use Rattle.gt_model.specs.Asking.{GivesUp}
use Rattle.gt_model.specs.Path.{by_mapping as by_handle}
use Rattle.gt_calls.proofs.Advancing.{leads-here, stands-on}
use Rattle.gt_core.proofs.Beginning.{plain-unmapped}
use Rattle.gt_core.proofs.Mappings.{mappings-same}
use Rattle.gt_core.proofs.Phases.{IsHere, next_of}
use Rattle.gt_model.proofs.Observers.{answered-stays, exchanged-live, kept-entry, kept-raises, kept-table, known-as}
use Rattle.gt_model.proofs.Observers.{pins, stepped}
use Rattle.gt_core.proofs.Steps.Pin.{can-pin, leg-maps, map-agrees}
use Rattle.gt_core.proofs.Steps.Unpin.{leg-mappings, mapping-agrees}
use Rattle.gt_core.proofs.Values.{MapEnds, call-ends}
use Rattle.gt_core.specs.Effects.{Adds}
use Rattle.gt_core.specs.GoingOn.{AccessesNoBytes, CanBeReached, IsAccess}
use Rattle.gt_model.specs.History.{History}
use Rattle.gt_model.specs.declared.trace.Answer.{Answer}
use Rattle.gt_model.specs.declared.trace.Answer.TheVariants.{Denied, Mapped}
use Rattle.gt_model.specs.declared.trace.Item.{Item}
use Rattle.gt_handles.specs.Handles.{under}
use Rattle.gt_live.specs.Ending.{WaitsForNobody}
use Rattle.gt_live.specs.Mappings.{KeepsMappings, Removes}
use Rattle.gt_linearization.proofs.AgreementKept.{KeepsWords, live-kept}
use Rattle.gt_linearization.proofs.Stepping.{StandsHere, open-there, state-there}
use Rattle.gt_linearization.specs.Runs.{LeavesMappings}
use Rattle.gt_calls.specs.Machine.{settled}
use Rattle.gt_calls.specs.Resting.{IsCopyOf}
use Rattle.gt_calls.specs.declared.call.Phase.TheVariants.{Accessing}
use Rattle.gt_model.specs.declared.request.OpenRequest.TheVariants.{Probe}
use Rattle.gt_types.specs.declared.copies.CopyArgs.{CopyArgs}

-- where the core stands at an open call

pub stands-open : (s : Setting) (g : History) (d : DomId) (c : Underway) → CanBeReached s g → domain_of s.domains d ≢ None → open_call g d.0 ≡ Some c → (step : Step) × StandsHere s g d c step
stands-open s g d c (core, st) named call =
    let t = state-there s g core.domains d st.domains named in
    let o = open-there s g d t.0.underway (open_call g d.0) c (subst (λ (z : DomId). CallAgrees s g z t.0.underway (open_call g z.0)) t.2 t.3.call) call in (
      o.0.step,
      record {
        core = core;
        st = st;
        phase = o.1.phase;
        here = record {
          legal = st.legal;
          st = st.domains;
          own = λ e. none-some t.0 (sym e ∙ t.1);
          at = o.1.at;
          acts = o.1.acts;
          place = o.1.place;
          held = o.1.held;
          rests = o.1.rests;
          fits = o.1.fits;
        };
        clean = o.1.clean;
      },
    )

-- neither a copy nor a probe waits for nobody
no-copy : (request : OpenRequest) (copy : CopyArgs) → IsCopyOf request copy → WaitsForNobody request → ⊥
no-copy request copy (inl is) waits = subst WaitsForNobody is waits
no-copy request copy (inr is) waits = subst WaitsForNobody is waits

-- an open call without accesses has left all as it was
pub clean-steps : (s : Setting) (g : History) (d : DomId) (c : Underway) (step : Step) → StandsHere s g d c step → WaitsForNobody c.request → All LeavesAll c.steps
clean-steps s g d c step here waits = by here.phase here.here.acts here.here.place here.clean
  where
    by : (p : Phase) → action_at d p ≡ actions.Step step → PhaseStands s g d c.request (reverse c.steps) p → IsClean p c.steps → All LeavesAll c.steps
    by (Ending pins verdict) e (inl none) a = let f : Done verdict ≡ actions.Step step = sym (ap (λ (l : List HeldPin). next_to_give l verdict) none) ∙ e in absurd (cc)
    by (Ending pins verdict) e (inr copy) a = absurd (no-copy c.request copy.0 copy.1 waits)
    by p e b a = a

pub last-leaves : (xs : List (Step × Observation)) (x : Step × Observation) → All LeavesAll (xs ++ x ∷ []) → LeavesAll x
last-leaves xs x a = (All-pop LeavesAll (xs ++ x ∷ []) xs (Some x) refl a).1

-- so a step of a call that goes on leaves all as it was: only a call without accesses makes a step that might not
pub leaves-of : (k : CallerKnowledge) (d : DomId) (request : OpenRequest) (pins : CallPins) (vs : List Observation) (step : Step) (seen : Observation) → AccessesNoBytes step → Rests k d request pins vs (actions.Step step) → (WaitsForNobody request → LeavesAll (step, seen)) → LeavesAll (step, seen)
leaves-of k d request pins vs (LookHeader dom) seen q r f = tt
leaves-of k d request pins vs (LookControl dom gref) seen q r f = tt
leaves-of k d request pins vs (LookBody dom gref body_word) seen q r f = tt
leaves-of k d request pins vs (call_steps.Pin p) seen q r f = tt
leaves-of k d request pins vs (Unpin p (holders.Mapping handle)) seen q (none, (inl e, found)) f = f (subst WaitsForNobody (sym e) tt)
leaves-of k d request pins vs (Unpin p (holders.Mapping handle)) seen q (none, (inr e, found)) f = f (subst WaitsForNobody (sym e) tt)
leaves-of k d request pins vs (Unpin p (holders.Leg n)) seen q r f = tt
leaves-of k d request pins vs (StoreBody gref body_word word) seen q r f = tt
leaves-of k d request pins vs (StoreHeader version frames) seen q (none, inl e) f = f (subst WaitsForNobody (sym e.0) tt)
leaves-of k d request pins vs (StoreHeader version frames) seen q (none, inr e) f = f (subst WaitsForNobody (sym e.0) tt)
leaves-of k d request pins vs (Exchange gref looked (Publish entry)) seen q r f = f (subst WaitsForNobody (sym r.1.0) tt)
leaves-of k d request pins vs (Exchange gref looked changes.Revoke) seen q r f = f (subst WaitsForNobody (sym r.1.0) tt)
leaves-of k d request pins vs (Exchange gref looked changes.Withdraw) seen q r f = f (subst WaitsForNobody (sym r.1.0) tt)
leaves-of k d request pins vs (Exchange gref looked changes.Demote) seen q r f = f (subst WaitsForNobody (sym r.1.0) tt)
leaves-of k d request pins vs (Exchange gref looked changes.Promote) seen q r f = f (subst WaitsForNobody (sym r.1.0) tt)
leaves-of k d request pins vs (call_steps.Read dom frame off len) seen q r f = absurd q
leaves-of k d request pins vs (call_steps.Write dom frame off len) seen q r f = absurd q
leaves-of k d request pins vs (call_steps.Copy from to len) seen q r f = absurd q

-- what stays of what a domain knows, after an item of its own

pub record KeepsOwn (s : Setting) (g : History) (d : DomId) (item : Item) : Type 0 where
  pub known : known_at s (item ∷ g) d ≡ known_at s g d
  pub mappings : mappings_at (item ∷ g) d.0 ≡ mappings_at g d.0
  pub answered : maps_answered_at (item ∷ g) d.0 ≡ maps_answered_at g d.0

pub keeps-own : (s : Setting) (g : History) (d : DomId) (item : Item) → ((r : ℕ) → change_at item.happened r ≡ None) → header_stored item.happened ≡ None → one_if_mapped item.answer ≡ 0 → mappings_at (item ∷ g) d.0 ≡ mappings_at g d.0 → KeepsOwn s g d item
keeps-own s g d item changes head maps same = let n = answered-stays g item d.0 maps in record {
  known = known-as s g (item ∷ g) d (λ r. kept-entry item g d.0 r changes) (λ r. kept-raises item g d.0 r changes) (kept-table s item g d head) same n;
  mappings = same;
  answered = n;
}

pub maps-quiet : (g : History) (d : DomId) (item : Item) → KeepsWords item → mappings_at (item ∷ g) d.0 ≡ mappings_at g d.0
maps-quiet g d item q = ap (gather mapping_named d.0) (live-kept item g q)

-- an access leaves all as it is
pub accesses-known : (s : Setting) (g : History) (d : DomId) (step : Step) (seen : Observation) (answer : Option Answer) → IsAccess step → one_if_mapped answer ≡ 0 → KeepsOwn s g d (stepped d step seen answer)
accesses-known s g d (call_steps.Read dom frame off len) seen answer is none = keeps-own s g d _ (λ r. refl) refl none (maps-quiet g d _ (record { changes = λ z. refl; pins = λ before ps. refl; unpins = λ ps. refl }))
accesses-known s g d (call_steps.Write dom frame off len) seen answer is none = keeps-own s g d _ (λ r. refl) refl none (maps-quiet g d _ (record { changes = λ z. refl; pins = λ before ps. refl; unpins = λ ps. refl }))
accesses-known s g d (call_steps.Copy from to len) seen answer is none = keeps-own s g d _ (λ r. refl) refl none (maps-quiet g d _ (record { changes = λ z. refl; pins = λ before ps. refl; unpins = λ ps. refl }))
accesses-known s g d step seen answer is none = absurd is

-- a step that leaves all as it is, of a call that goes on
pub leaves-known : (s : Setting) (g : History) (d : DomId) (step : Step) (seen : Observation) → LeavesAll (step, seen) → KeepsOwn s g d (stepped d step seen None)
leaves-known s g d (LookHeader dom) seen l = keeps-own s g d _ (λ r. refl) refl refl (maps-quiet g d _ (record { changes = λ z. refl; pins = λ before ps. refl; unpins = λ ps. refl }))
leaves-known s g d (LookControl dom gref) seen l = keeps-own s g d _ (λ r. refl) refl refl (maps-quiet g d _ (record { changes = λ z. refl; pins = λ before ps. refl; unpins = λ ps. refl }))
leaves-known s g d (LookBody dom gref body_word) seen l = keeps-own s g d _ (λ r. refl) refl refl (maps-quiet g d _ (record { changes = λ z. refl; pins = λ before ps. refl; unpins = λ ps. refl }))
leaves-known s g d (call_steps.Pin p) Taken l = keeps-own s g d _ (λ r. refl) refl refl (leg-maps g d p None refl)
leaves-known s g d (call_steps.Pin p) seen l = keeps-own s g d _ (λ r. refl) refl refl (maps-quiet g d _ (record { changes = λ z. refl; pins = λ before ps. refl; unpins = λ ps. refl }))
leaves-known s g d (Unpin p (holders.Mapping handle)) seen l = absurd l
leaves-known s g d (Unpin p (holders.Leg n)) seen l = keeps-own s g d _ (λ r. refl) refl refl (leg-mappings g d p n seen None)
leaves-known s g d (StoreBody gref body_word word) seen l = keeps-own s g d _ (λ r. refl) refl refl (maps-quiet g d _ (record { changes = λ z. refl; pins = λ before ps. refl; unpins = λ ps. refl }))
leaves-known s g d (StoreHeader version frames) seen l = absurd l
leaves-known s g d (Exchange gref looked change) Taken l = absurd l
leaves-known s g d (Exchange gref looked change) seen l = keeps-own s g d _ (λ r. refl) refl refl (maps-quiet g d _ (record { changes = λ z. refl; pins = λ before ps. refl; unpins = λ ps. refl }))
leaves-known s g d (call_steps.Read dom frame off len) seen l = keeps-own s g d _ (λ r. refl) refl refl (maps-quiet g d _ (record { changes = λ z. refl; pins = λ before ps. refl; unpins = λ ps. refl }))
leaves-known s g d (call_steps.Write dom frame off len) seen l = absurd l
leaves-known s g d (call_steps.Copy from to len) seen l = absurd l

-- the handles after a call

-- they are kept
pub handles-kept : (old new : HandleMap HeldPin) (ms : List (Handle × HeldPin)) (n : ℕ) → KeepsMappings old new → MappingsAgree old ms n → MappingsAgree new ms n
handles-kept old new ms n keeps a = record {
  named = fun_ext (λ handle. ap (λ (slots : List (Option (HandleSlot HeldPin))). under handle.serial (slice_index_or slots handle.key None)) keeps.slots ∙ ap (λ (f : Handle → Option HeldPin). f handle) a.named);
  count = ap (count_by is_some) keeps.slots ∙ a.count;
  given = keeps.given ∙ a.given;
  apart = a.apart;
}

-- one is given up

set-none : (slots : List (Option (HandleSlot HeldPin))) (key at : ℕ) → slice_index_or (slice_set slots key None) at None ≡ cond (at == key) None (slice_index_or slots at None)
set-none [] key at = grind arith
set-none (x ∷ xs) zero zero = refl
set-none (x ∷ xs) zero (suc at) = grind arith
set-none (x ∷ xs) (suc key) zero = grind arith
set-none (x ∷ xs) (suc key) (suc at) = grind (arith, set-none xs key at)

taken-of : (kept : HandleMap HeldPin) (handle other : Handle) (m : HeldPin) → value_of kept handle ≡ Some m → value_of (handle_taken handle kept) other ≡ cond (same_handle other handle) None (value_of kept other)
taken-of kept handle other m has = grind (arith, set-none, eqb-true)

count-set : (slots : List (Option (HandleSlot HeldPin))) (key : ℕ) (slot : HandleSlot HeldPin) → slice_index_or slots key None ≡ Some slot → count_by is_some (slice_set slots key None) + 1 ≡ count_by is_some slots
count-set (Some x ∷ os) zero slot e =
    omega (arith, sum_by-cons (λ (o : Option (HandleSlot HeldPin)). cond (is_some o) 1 0) (Some x) os, sum_by-cons (λ (o : Option (HandleSlot HeldPin)). cond (is_some o) 1 0) None os)
count-set (o ∷ os) (suc key) slot e =
    omega (arith, count-set os key slot e, sum_by-cons (λ (o : Option (HandleSlot HeldPin)). cond (is_some o) 1 0) o os, sum_by-cons (λ (o : Option (HandleSlot HeldPin)). cond (is_some o) 1 0) o (slice_set os key None))
count-set slots key slot e = absurd (none-some slot e)

count-taken : (kept : HandleMap HeldPin) (handle : Handle) (m : HeldPin) → value_of kept handle ≡ Some m → count_of (handle_taken handle kept) + 1 ≡ count_of kept
count-taken kept handle m has = grind (arith, count-set)

given-taken : (kept : HandleMap HeldPin) (handle : Handle) → (handle_taken handle kept).given ≡ kept.given
given-taken kept handle = by (is_some (value_of kept handle)) where
  by : (b : Bool) → (cond b (record kept { slots = slice_set kept.slots handle.key None }) kept).given ≡ kept.given
  by true = refl
  by false = refl

handles-less : (old new : HandleMap HeldPin) (handle : Handle) (p q : HeldPin) (ms : List (Handle × HeldPin)) (n : ℕ) → Removes old new handle q → value_of old handle ≡ Some p → MappingsAgree (handle_taken handle old) ms n → MappingsAgree new ms n
handles-less old new handle p q ms n removes has a = let t = removes.taken in record {
  named = fun_ext (λ other. t.updates other ∙ (sym (taken-of old handle other p has) ∙ ap (λ (f : Handle → Option HeldPin). f other) a.named));
  count = (let z = count-taken old handle p has in let y = t.count in let w : count_of new ≡ count_of (handle_taken handle old) = omega arith in w) ∙ a.count;
  given = t.given ∙ (sym (given-taken old handle) ∙ a.given);
  apart = a.apart;
}

-- the last step of a call that keeps no pin

unmaps-by : (o : Option CallResult) (mapping : Option HeldPin) (handle : Handle) (vs : List Observation) (step : Step) → after_beginning o (by_handle mapping (λ m. Unpin m (holders.Mapping handle))) vs ≡ Some (actions.Step step) → (m : HeldPin) × (step ≡ Unpin m (holders.Mapping handle))
unmaps-by (Some v) mapping handle [] step e = absurd (cc)
unmaps-by (Some v) mapping handle (x ∷ vs) step e = absurd (cc)
unmaps-by None None handle [] step e = absurd (cc)
unmaps-by None None handle (x ∷ vs) step e = absurd (cc)
unmaps-by None (Some m) handle [] step e = (m, (cc))
unmaps-by None (Some m) handle (Nothing ∷ []) step e = absurd (cc)
unmaps-by None (Some m) handle (Nothing ∷ x ∷ vs) step e = absurd (cc)
unmaps-by None (Some m) handle (Word w ∷ vs) step e = absurd (cc)
unmaps-by None (Some m) handle (Taken ∷ vs) step e = absurd (cc)
unmaps-by None (Some m) handle (Missed w ∷ vs) step e = absurd (cc)

-- neither an unmap nor a release
abbrev IsOther : OpenRequest → Type 0
IsOther (Unmap handle) = ⊥
IsOther (Release handle) = ⊥
IsOther request = Unit {0}

keeps-others : (request : OpenRequest) (verdict : CallResult) (old new : HandleMap HeldPin) → IsOther request → LeavesMappings request verdict old new → KeepsMappings old new
keeps-others (Unmap handle) verdict old new o l = absurd o
keeps-others (Release handle) verdict old new o l = absurd o
keeps-others request verdict old new o l = l

module _ (s : Setting) (g : History) (d : DomId) (cl : Underway) (vs : List Observation) (seen : Observation) (verdict : CallResult) (old new : HandleMap HeldPin) (call : open_call g d.0 ≡ Some cl)
    (a : MappingsAgree old (mappings_at g d.0) (maps_answered_at g d.0)) (leaves : LeavesMappings cl.request verdict old new) where
  abbrev item : Step → Item
  item step = stepped d step seen (Some (answer_of verdict))

  -- the mappings are the same, and the call was neither an unmap nor a release
  as-it-was : (step : Step) → path (known_at s g d) d cl.request vs ≡ Some (actions.Step step) → ((p : HeldPin) (handle : Handle) → step ≡ Unpin p (holders.Mapping handle) → ⊥) → mappings_at (item step ∷ g) d.0 ≡ mappings_at g d.0
      → MappingsAgree new (mappings_at (item step ∷ g) d.0) (maps_answered_at (item step ∷ g) d.0)
  as-it-was step next not same =
      mappings-same new _ _ _ _ (sym same) (sym (answered-stays g (item step) d.0 (plain-unmapped verdict))) (handles-kept old new _ _ (keeps-others cl.request verdict old new (other cl.request next) leaves) a)
    where
      other : (request : OpenRequest) → path (known_at s g d) d request vs ≡ Some (actions.Step step) → IsOther request
      other (Unmap handle) e = let u = unmaps-by (begun (known_at s g d) d (Unmap handle)) (mapping_of (mappings_at g d.0) handle) handle vs step e in absurd (not u.0 handle u.1)
      other (Release handle) e = let u = unmaps-by (begun (known_at s g d) d (Release handle)) (mapping_of (mappings_at g d.0) handle) handle vs step e in absurd (not u.0 handle u.1)
      other request e = tt

  gone : (p : HeldPin) (handle : Handle) → GivesUp cl.request handle → mapping_of (mappings_at g d.0) handle ≡ Some p → IsRight s g (item (Unpin p (holders.Mapping handle)))
      → MappingsAgree new (mappings_at (item (Unpin p (holders.Mapping handle)) ∷ g) d.0) (maps_answered_at (item (Unpin p (holders.Mapping handle)) ∷ g) d.0)
  gone p handle is found right = by verdict (dropped is verdict leaves) right
      (mapping-agrees g d p handle seen (Some (answer_of verdict)) old (plain-unmapped verdict) found a)
    where
      has : value_of old handle ≡ Some p
      has = ap (λ (f : Handle → Option HeldPin). f handle) a.named ∙ found

      refused : (denial : Denial) → IsRight s g (stepped d (Unpin p (holders.Mapping handle)) seen (Some (Denied denial))) → ⊥
      refused denial ok = let r : StepsRightIn s g (stepped d (Unpin p (holders.Mapping handle)) seen (Some (Denied denial))) (Unpin p (holders.Mapping handle)) seen (Some cl) = subst (StepsRightIn s g (stepped d (Unpin p (holders.Mapping handle)) seen (Some (Denied denial))) (Unpin p (holders.Mapping handle)) seen) call ok in
          last-leaves cl.steps (Unpin p (holders.Mapping handle), seen) (r.left (λ e. none-some denial (sym e))).0

      dropped : GivesUp cl.request handle → (v : CallResult) → LeavesMappings cl.request v old new → LeavesMappings (Unmap handle) v old new
      dropped (inl is) v l = subst (λ (z : OpenRequest). LeavesMappings z v old new) is l
      dropped (inr is) v l = as-unmap v (subst (λ (z : OpenRequest). LeavesMappings z v old new) is l)
        where
          as-unmap : (u : CallResult) → LeavesMappings (Release handle) u old new → LeavesMappings (Unmap handle) u old new
          as-unmap (Refused denial) k = k
          as-unmap u k = k

      by : (v : CallResult) → LeavesMappings (Unmap handle) v old new → IsRight s g (stepped d (Unpin p (holders.Mapping handle)) seen (Some (answer_of v)))
          → MappingsAgree (handle_taken handle old) (mappings_at (stepped d (Unpin p (holders.Mapping handle)) seen (Some (answer_of v)) ∷ g) d.0) (maps_answered_at (stepped d (Unpin p (holders.Mapping handle)) seen (Some (answer_of v)) ∷ g) d.0)
          → MappingsAgree new (mappings_at (stepped d (Unpin p (holders.Mapping handle)) seen (Some (answer_of v)) ∷ g) d.0) (maps_answered_at (stepped d (Unpin p (holders.Mapping handle)) seen (Some (answer_of v)) ∷ g) d.0)
      by (Refused denial) l ok t = absurd (refused denial ok)
      by v l ok t = handles-less old new handle p l.0 _ _ l.1 has t

  pub told-maps : (xs : List State) (phase : Phase) (step : Step) → IsHere s g xs d cl.request (values cl) (reverse cl.steps) phase step → AccessesNoBytes step → path (known_at s g d) d cl.request vs ≡ Some (actions.Step step) → IsRight s g (item step)
      → MappingsAgree new (mappings_at (item step ∷ g) d.0) (maps_answered_at (item step ∷ g) d.0)
  told-maps xs phase step here quiet next right = by step refl here.rests next right
    where
      by : (z : Step) → step ≡ z → Rests (known_at s g d) d cl.request (pins_at phase) (values cl) (actions.Step z) → path (known_at s g d) d cl.request vs ≡ Some (actions.Step z) → IsRight s g (item z)
          → MappingsAgree new (mappings_at (item z ∷ g) d.0) (maps_answered_at (item z ∷ g) d.0)
      by (LookHeader dom) e r n ok = as-it-was _ n (λ p handle f. cc) (maps-quiet g d _ (record { changes = λ z. refl; pins = λ before ps. refl; unpins = λ ps. refl }))
      by (LookControl dom gref) e r n ok = as-it-was _ n (λ p handle f. cc) (maps-quiet g d _ (record { changes = λ z. refl; pins = λ before ps. refl; unpins = λ ps. refl }))
      by (LookBody dom gref body_word) e r n ok = as-it-was _ n (λ p handle f. cc) (maps-quiet g d _ (record { changes = λ z. refl; pins = λ before ps. refl; unpins = λ ps. refl }))
      by (call_steps.Pin p) e r n ok = as-it-was _ n (λ p handle f. cc) (pinned seen)
        where
          leg : (v : CallResult) (m : ℕ) → holder_after (Some (answer_of v)) m ≡ holders.Leg m
          leg Granted m = refl
          leg (Given (Frames n)) m = refl
          leg (Given (call_values.Size n)) m = refl
          leg (Given (call_values.Version n)) m = refl
          leg (results.Mapped q) m = refl
          leg (Refused denial) m = refl

          pinned : (v : Observation) → mappings_at (stepped d (call_steps.Pin p) v (Some (answer_of verdict)) ∷ g) d.0 ≡ mappings_at g d.0
          pinned Taken = leg-maps g d p (Some (answer_of verdict)) (leg verdict _)
          pinned v = maps-quiet g d _ (record { changes = λ z. refl; pins = λ before ps. refl; unpins = λ ps. refl })
      by (Unpin p (holders.Mapping handle)) e r n ok = gone p handle r.1.0 r.1.1 ok
      by (Unpin p (holders.Leg m)) e r n ok = as-it-was _ n (λ q handle f. cc) (leg-mappings g d p m seen (Some (answer_of verdict)))
      by (StoreBody gref body_word word) e r n ok = as-it-was _ n (λ p handle f. cc) (maps-quiet g d _ (record { changes = λ z. refl; pins = λ before ps. refl; unpins = λ ps. refl }))
      by (StoreHeader version frames) e r n ok = as-it-was _ n (λ p handle f. cc) (maps-quiet g d _ (record { changes = λ z. refl; pins = λ before ps. refl; unpins = λ ps. refl }))
      by (Exchange gref looked change) e r n ok = as-it-was _ n (λ p handle f. cc) (turned seen)
        where
          turned : (v : Observation) → mappings_at (stepped d (Exchange gref looked change) v (Some (answer_of verdict)) ∷ g) d.0 ≡ mappings_at g d.0
          turned Taken = ap (gather mapping_named d.0) (exchanged-live g d gref looked change (Some (answer_of verdict)))
          turned v = maps-quiet g d _ (record { changes = λ z. refl; pins = λ before ps. refl; unpins = λ ps. refl })
      by (call_steps.Read dom frame off len) e r n ok = absurd (subst AccessesNoBytes e quiet)
      by (call_steps.Write dom frame off len) e r n ok = absurd (subst AccessesNoBytes e quiet)
      by (call_steps.Copy from to len) e r n ok = absurd (subst AccessesNoBytes e quiet)

-- no probe keeps a pin
kept-settled : (d : DomId) (request : OpenRequest) (p : Phase) (held : HeldPin) → action_at d (settled request p) ≡ Done (results.Mapped held) → action_at d p ≡ Done (results.Mapped held)
kept-settled d (Probe c) (Accessing a source dest) held e = absurd (by (last_first (record { source = source; dest = dest })) e)
  where
    by : (ps : List HeldPin) → next_to_give ps Granted ≡ Done (results.Mapped held) → ⊥
    by [] e = cc
    by (q ∷ qs) e = cc
kept-settled d (Probe c) p held e = e
kept-settled d request p held e = e

-- the last step of a map that keeps its pin
pub kept-maps : (s : Setting) (g : History) (d : DomId) (cl : Underway) (step : Step) (p : HeldPin) (handle : Handle) (old new : HandleMap HeldPin) (here : StandsHere s g d cl step) → FitsStep step (seen_by s g d step)
    → path (known_at s g d) d cl.request (values cl) ≡ Some (actions.Step step) → path (known_at s g d) d cl.request (values cl ++ seen_by s g d step ∷ []) ≡ Some (Done (results.Mapped p)) → Adds old new handle p
    → MappingsAgree old (mappings_at g d.0) (maps_answered_at g d.0)
    → let item = stepped d step (seen_by s g d step) (Some (Mapped handle)) in MappingsAgree new (mappings_at (item ∷ g) d.0) (maps_answered_at (item ∷ g) d.0)
kept-maps s g d cl step p handle old new here fits next last adds a =
    let k = known_at s g d in let seen = seen_by s g d step in
    let on = stands-on k d cl.request (values cl) here.phase seen here.here.at (subst (λ (o : Option Action). FitsNext o seen) (sym next) fits) in
    let acts : action_at d (next_of s g d here.phase step) ≡ Done (results.Mapped p) = kept-settled d cl.request (next_of s g d here.phase step) p
    (same_Some _ _ (sym (leads-here k d cl.request (values cl ++ seen ∷ []) (settled cl.request (next_of s g d here.phase step)) on) ∙ last)) in
    let ends : MapEnds s g d cl.request here.phase step p = call-ends s g here.core.domains d cl.request (values cl) (reverse cl.steps) here.phase step here.here (results.Mapped p) acts in
    let sees : seen_by s g d (call_steps.Pin p) ≡ Taken = ap (λ (b : Bool). cond b Taken (Missed (word_at s g p.dom.0 p.gref.0))) (eq-eqb (word_at s g p.dom.0 p.gref.0) p.word ends.taken) in
    let can = can-pin s g here.core.domains d cl.request (values cl) (reverse cl.steps) here.phase p (subst (IsHere s g here.core.domains d cl.request (values cl) (reverse cl.steps) here.phase) ends.is here.here) ends.taken in
    let m = map-agrees g d p handle old new (subst (Adds old new handle) (sym can.is) adds) a in
    subst (λ (z : Step × Observation). let item = stepped d z.0 z.1 (Some (Mapped handle)) in MappingsAgree new (mappings_at (item ∷ g) d.0) (maps_answered_at (item ∷ g) d.0))
    (sym (let e : ◌≡◌ {A = Step × Observation} (step, seen_by s g d step) (call_steps.Pin p, Taken) = (λ j. (ends.is j, seen_by s g d (ends.is j))) ∙ (λ j. (call_steps.Pin p, sees j)) in e)) m
