-- What the steps of a call touch is what its request names, and what a next move doesn't meet is apart from it.
use Rattle.std.proofs.Common.{◌≡◌, ◌⊎◌, inl, inr, ℕ, zero, suc, refl, Bool, true, false, cond, List, [], ◌∷◌, ◌++◌, length}
use Rattle.std.proofs.Common.{Option, Some, None, sym, ap, ◌∙◌, subst, append-nil, arith}
use Rattle.std.specs.List.{list_any}
use Rattle.std.specs.Prelude.{◌==◌, ◌&&◌, ◌||◌, not, slice_get}
use Rattle.std.proofs.lemmas.Bool.{and_parts, eq-eqb, eqb-true, false≢true}
use Rattle.std.proofs.lemmas.Option.{none-some, same_Some}
use Rattle.gt_types.specs.Copies.{is_dest_granted, is_source_granted}
use Rattle.gt_types.specs.Names.{resolved}
use Rattle.gt_types.specs.declared.Dir.{Dir}
use Rattle.gt_types.specs.declared.Dir.TheVariants as dirs
use Rattle.gt_types.specs.declared.DomId.{DomId}
use Rattle.gt_types.specs.declared.GrantRef.{GrantRef}
use Rattle.gt_types.specs.declared.copies.CopyArgs.{CopyArgs}
use Rattle.gt_model.specs.declared.change.EntryChange.TheVariants.{Publish}
use Rattle.gt_model.specs.declared.change.EntryChange.TheVariants as changes
use Rattle.gt_model.specs.declared.entry.Entry.TheVariants as entries
use Rattle.gt_model.specs.declared.entry.Entry.{Entry}
use Rattle.gt_model.specs.declared.handle.Handle.{Handle}
use Rattle.gt_model.specs.Asking.{asked}
use Rattle.gt_model.specs.Holding.{frame_by, held_by, owner_by}
use Rattle.gt_model.specs.Path.{accesses, after_beginning, asks, copies, dest_pair, end_leg, ended, give_back}
use Rattle.gt_model.specs.Path.{gref_of, map_leg, path, end_spot, refused_holding, second_leg, source_pair, steps_of}
use Rattle.gt_model.specs.Path.{to_dest}
use Rattle.gt_model.specs.Rules.{CallerKnowledge, begun}
use Rattle.gt_model.specs.declared.action.Action.{Action}
use Rattle.gt_model.specs.declared.action.Action.TheVariants.{Done}
use Rattle.gt_model.specs.declared.action.Action.TheVariants as actions
use Rattle.gt_model.specs.declared.action.CallResult.{CallResult}
use Rattle.gt_model.specs.declared.action.CallResult.TheVariants.{Granted, Refused}
use Rattle.gt_model.specs.declared.action.CallResult.TheVariants as results
use Rattle.gt_model.specs.declared.action.Observation.{Observation}
use Rattle.gt_model.specs.declared.action.Step.{Step}
use Rattle.gt_model.specs.declared.action.Step.TheVariants.{Exchange, LookBody, LookControl, LookHeader, StoreBody}
use Rattle.gt_model.specs.declared.action.Step.TheVariants.{StoreHeader, Unpin}
use Rattle.gt_model.specs.declared.action.Step.TheVariants as call_steps
use Rattle.gt_model.specs.declared.action.HeaderQuery.{HeaderQuery}
use Rattle.gt_model.specs.declared.action.HeaderQuery.TheVariants as queries
use Rattle.gt_model.specs.declared.held.AccessPath.{AccessPath}
use Rattle.gt_model.specs.declared.held.AccessPath.TheVariants.{Own, Direct, Through}
use Rattle.gt_model.specs.declared.held.HeldPin.{HeldPin}
use Rattle.gt_model.specs.declared.leg.Leg.{Leg}
use Rattle.gt_model.specs.declared.bounds.TheConstants.{MORE_TRIES}
use Rattle.gt_model.specs.declared.request.OpenRequest.{OpenRequest}
use Rattle.gt_model.specs.declared.request.OpenRequest.TheVariants.{Copy, Demote, GetVersion, Grant, Load, Map, Peek}
use Rattle.gt_model.specs.declared.request.OpenRequest.TheVariants.{Poke, Promote, QuerySize, Revoke, SetVersion}
use Rattle.gt_model.specs.declared.request.OpenRequest.TheVariants.{SetupTable, Store, Probe, Unmap, Release}
use Rattle.gt_model.specs.declared.request.OpenRequest.TheVariants.{Withdraw}
use Rattle.gt_model.specs.declared.request.PinHolder.TheVariants as holders
use Rattle.gt_model.specs.declared.request.Request.{Request}
use Rattle.gt_model.specs.Entries.{frame_of, with_ro}
use Rattle.gt_model.specs.History.{History, Setting, mapping_of, mappings_at, patches_at}
use Rattle.gt_commuting.specs.Swapping.{AreApart, ReleasesNoPinOn, SameLook, TouchApart, looks_header}
use Rattle.gt_commuting.specs.Swapping.{leaves_body, looks_body, stores_body, touches_entry}
use Rattle.gt_commuting.specs.Swapping.{patches_of, reads_frames, stores_header, writes_frames}
use Rattle.gt_model.specs.declared.trace.Answer.{Answer}
use Rattle.gt_model.specs.declared.trace.Item.{Item}
use Rattle.gt_model.specs.declared.trace.ItemEvent.TheVariants.{Stepped}
use Rattle.gt_core.proofs.Steps.Unpin.{loses-mapping}
use Rattle.gt_commuting.proofs.Swapping.{Releases, keeps-elsewhere, steps-apart-in}
use Rattle.gt_script_runs.specs.Runs.{Named, MakesRequest, call_bytes, request_of}
use Rattle.gt_script_lines.specs.declared.calls.ScriptCall.{ScriptCall}
use Rattle.gt_script_lines.specs.declared.calls.ScriptCall.TheVariants as script_calls
use Rattle.gt_script.specs.Lists.{RunAction, RunTask}
use Rattle.gt_script.specs.declared.tasks.RunAction.TheVariants.{Await, Do, Tell}
use Rattle.gt_explore_moves.specs.Touches.{is_access_step, is_load, is_on, is_store, is_write, meets, meets_bytes}
use Rattle.gt_explore_moves.specs.Touches.{frame_touch, is_grant_of, meets_beyond, meets_call, meets_dest, meets_end, meets_last, meets_leg}
use Rattle.gt_explore_moves.specs.Touches.{meets_mapped, meets_source, meets_uses}
use Rattle.gt_explore_moves.specs.Touches.{meets_mapping, meets_task, next_accesses, next_writes, reads_frame_at}
use Rattle.gt_explore_moves.specs.Touches.{step_meets, writes_frame_at}
use Rattle.gt_explore_moves.specs.Granting.{AsksOnlyFitting, IsGranted, ListsGrants}
use Rattle.gt_explore_moves.specs.declared.granted.GrantedEntry.{GrantedEntry}
use Rattle.gt_explore_moves.specs.declared.touches.MappingUse.{MappingUse}
use Rattle.gt_explore_moves.specs.Renaming.{step_under}
use Rattle.gt_explore_moves.specs.declared.touches.NextMove.{NextMove}
use Rattle.gt_explore_moves.specs.declared.touches.NextMove.TheVariants as next_moves
use Rattle.gt_explore_moves.specs.declared.touches.Touch.{Touch}
use Rattle.gt_explore_moves.specs.declared.touches.Touch.TheVariants.{LooksHeader, Raises, Reads, StoresHeader, WholeEntry, Writes}
use Rattle.gt_explore_moves.specs.declared.touches.Touch.TheVariants as touches
use Rattle.gt_commuting.proofs.PathSteps.{Each, GivesWell, IsNoVia, IsPinOf, LegIs, each-ended, each-given, each-grant}
use Rattle.gt_commuting.proofs.PathSteps.{each-leg, each-looks, each-makes, each-mapped, each-once, each-reached}
use Rattle.gt_commuting.proofs.PathSteps.{each-turns}

-- touches

-- what a leg touches is such
abbrev pub LegTouches : (Touch → Type 0) → DomId → GrantRef → Type 0
LegTouches A dom gref = A (LooksHeader dom) × A (touches.Entry dom gref)

-- what is used so of each frame that this entry may grant is such
abbrev pub FramesTouch : (Touch → Type 0) → List GrantedEntry → MappingUse → DomId → GrantRef → Type 0
FramesTouch A grants uses t r = (e : Entry) → IsGranted grants t.0 r.0 e
    → (uses.loads ≡ true → A (Reads t (frame_of e))) × (uses.stores ≡ true → A (Writes t (frame_of e)))

-- what a mapping with this pin may touch is such
abbrev pub PinTouches : (Touch → Type 0) → MappingUse → HeldPin → Type 0
PinTouches A uses p = A (touches.Entry p.dom p.gref) × (uses.loads ≡ true → A (Reads p.dom (frame_of p.entry)))
    × (uses.stores ≡ true → A (Writes p.dom (frame_of p.entry)))

-- the access to each frame that this entry may grant is such
abbrev pub LastTouches : (Touch → Type 0) → List GrantedEntry → Dir → DomId → GrantRef → Type 0
LastTouches A grants dir t r = (e : Entry) → IsGranted grants t.0 r.0 e → A (frame_touch dir t (frame_of e))

-- what comes after the pin on this entry of domain t is such: the access to its frame, or what it leads to
abbrev pub BeyondTouches : (Touch → Type 0) → List GrantedEntry → Dir → DomId → Entry → Type 0
BeyondTouches A grants dir t (entries.Via dom ro dom2 gref) =
    LegTouches A dom2 gref × LastTouches A grants dir dom2 gref
BeyondTouches A grants dir t e = A (frame_touch dir t (frame_of e))

-- what a copy may touch at this end is such
abbrev pub EndTouches : (Touch → Type 0) → List GrantedEntry → Dir → DomId → GrantRef → Type 0
EndTouches A grants dir t r =
    LegTouches A t r × ((e : Entry) → IsGranted grants t.0 r.0 e → BeyondTouches A grants dir t e)

-- what the ends of a copy touch is such
abbrev pub SourceTouches : (Touch → Type 0) → List GrantedEntry → DomId → CopyArgs → Type 0
SourceTouches A grants d c =
    (is_source_granted c ≡ true → EndTouches A grants dirs.Read (resolved d c.source.domid) (gref_of c.source.ptr))
    × (is_source_granted c ≡ false → A (Reads d c.source.ptr))

abbrev pub DestTouches : (Touch → Type 0) → List GrantedEntry → DomId → CopyArgs → Type 0
DestTouches A grants d c =
    (is_dest_granted c ≡ true → EndTouches A grants dirs.Write (resolved d c.dest.domid) (gref_of c.dest.ptr))
    × (is_dest_granted c ≡ false → A (Writes d c.dest.ptr))

-- what a request of this domain may touch is such
abbrev pub RequestTouches : (Touch → Type 0) → List GrantedEntry → MappingUse → DomId → OpenRequest → Type 0
RequestTouches A grants uses d (Grant gref entry) = A (touches.Entry d gref) × A (WholeEntry d gref)
RequestTouches A grants uses d (Revoke gref) = A (touches.Entry d gref)
RequestTouches A grants uses d (Withdraw gref) = A (touches.Entry d gref)
RequestTouches A grants uses d (Demote gref) = A (touches.Entry d gref)
RequestTouches A grants uses d (Promote gref) = A (touches.Entry d gref)
RequestTouches A grants uses d (Map dom gref flags) =
    LegTouches A (resolved d dom) gref × FramesTouch A grants uses (resolved d dom) gref
RequestTouches A grants uses d (Unmap handle) = Unit {0}
RequestTouches A grants uses d (Release handle) = Unit {0}
RequestTouches A grants uses d (Load handle off len) = uses.loads ≡ true
RequestTouches A grants uses d (Store handle off len) = uses.stores ≡ true
RequestTouches A grants uses d (Peek frame off len) = A (Reads d frame)
RequestTouches A grants uses d (Poke frame off len) = A (Writes d frame)
RequestTouches A grants uses d (Copy c) = SourceTouches A grants d c × DestTouches A grants d c
RequestTouches A grants uses d (Probe c) = ⊥
RequestTouches A grants uses d (SetVersion version) = A (StoresHeader d)
RequestTouches A grants uses d (SetupTable frames) = A (StoresHeader d)
RequestTouches A grants uses d (QuerySize dom) = A (LooksHeader (resolved d dom))
RequestTouches A grants uses d (GetVersion dom) = A (LooksHeader (resolved d dom))

-- what a step of this domain touches is such
abbrev pub StepTouches : (Touch → Type 0) → DomId → Step → Type 0
StepTouches A d (LookHeader dom) = A (LooksHeader dom)
StepTouches A d (LookControl dom gref) = A (touches.Entry dom gref)
StepTouches A d (LookBody dom gref body_word) = A (touches.Entry dom gref)
StepTouches A d (call_steps.Pin p) = A (touches.Entry p.dom p.gref)
StepTouches A d (Unpin p holder) = A (touches.Entry p.dom p.gref)
StepTouches A d (StoreBody gref body_word word) = A (WholeEntry d gref)
StepTouches A d (StoreHeader version frames) = A (StoresHeader d)
StepTouches A d (Exchange gref looked change) = A (touches.Entry d gref)
StepTouches A d (call_steps.Read dom frame off len) = A (Reads dom frame)
StepTouches A d (call_steps.Write dom frame off len) = A (Writes dom frame)
StepTouches A d (call_steps.Copy from to len) =
    A (Reads from.frame.owner from.frame.number) × A (Writes to.frame.owner to.frame.number)

-- a pin of this request on this entry may be used so as a mapping
abbrev pub MapsBytes : (Touch → Type 0) → List GrantedEntry → MappingUse → OpenRequest → DomId → GrantRef → Type 0
MapsBytes A grants uses (Map dom gref flags) t r = FramesTouch A grants uses t r
MapsBytes A grants uses request t r = Unit {0}

abbrev pub PinsBytes : (Touch → Type 0) → List GrantedEntry → MappingUse → OpenRequest → Step → Type 0
PinsBytes A grants uses r (call_steps.Pin p) = MapsBytes A grants uses r p.dom p.gref
PinsBytes A grants uses r step = Unit {0}

-- only a map and a copy take pins: a map one
abbrev pub IsPinning : OpenRequest → List HeldPin → Type 0
IsPinning (Map dom gref flags) held = held ≡ []
IsPinning (Copy c) held = Unit {0}
IsPinning r held = ⊥

-- what a step of a request is, by what the caller knows and by the pins that its call holds: an unpin releases the pin
-- of a mapping, or the call's last one; only a grant publishes an entry
abbrev pub StepFacts : CallerKnowledge → OpenRequest → List HeldPin → Step → Type 0
StepFacts k r held (call_steps.Pin p) = IsPinning r held
StepFacts k r held (Unpin p (holders.Mapping handle)) = k.mapping handle ≡ Some p
StepFacts k r held (Unpin p (holders.Leg number)) =
    IsPinning r held × ((others : List HeldPin) × (held ≡ p ∷ others) × (number ≡ length others))
StepFacts k r held (Exchange gref looked (Publish entry)) = r ≡ Grant gref entry
StepFacts k r held step = Unit {0}

-- at its end a call holds no pin but that of a mapping
abbrev pub EndFacts : OpenRequest → List HeldPin → CallResult → Type 0
EndFacts (Map dom gref flags) held (results.Mapped p) = held ≡ p ∷ []
EndFacts r held verdict = held ≡ []

-- what holds for an action of a call
abbrev pub IsActionOf : (Touch → Type 0) → List GrantedEntry → MappingUse → CallerKnowledge → DomId → OpenRequest
    → List HeldPin → Action → Type 0
IsActionOf A grants uses k d r held (actions.Step step) =
    StepTouches A d step × PinsBytes A grants uses r step × StepFacts k r held step
IsActionOf A grants uses k d r held (Done verdict) = EndFacts r held verdict

-- the request is a copy
abbrev pub IsCopy : OpenRequest → Type 0
IsCopy (Copy c) = Unit {0}
IsCopy r = ⊥

module _ (A : Touch → Type 0) (grants : List GrantedEntry) (uses : MappingUse) (k : CallerKnowledge) (d : DomId)
    (L : HeldPin → Type 0)
    (mapped : (handle : Handle) (p : HeldPin) → k.mapping handle ≡ Some p → PinTouches A uses p) where
  abbrev One : OpenRequest → List HeldPin → Action → Type 0
  One r held action = IsActionOf A grants uses k d r held action

  -- each of these pins is on such an entry
  abbrev AllOn : List HeldPin → Type 0
  AllOn [] = Unit {0}
  AllOn (p ∷ ps) = A (touches.Entry p.dom p.gref) × AllOn ps

  -- what holds for each entry that may be granted holds for that of such a pin
  pub record Applies : Type 0 where
    pub beyond_is : (dir : Dir) (p : HeldPin) → L p
        → ((e : Entry) → IsGranted grants p.dom.0 p.gref.0 e → BeyondTouches A grants dir p.dom e)
        → BeyondTouches A grants dir p.dom p.entry
    pub last_is : (dir : Dir) (p : HeldPin) → L p → LastTouches A grants dir p.dom p.gref
        → A (frame_touch dir p.dom (frame_of p.entry))

  pin-on : (l : Leg) (p : HeldPin) → IsPinOf l p → A (touches.Entry l.dom l.gref) → A (touches.Entry p.dom p.gref)
  pin-on l p of touch = subst (λ (q : HeldPin). A (touches.Entry q.dom q.gref)) (sym of.2) touch

  pin-dom : (l : Leg) (p : HeldPin) → IsPinOf l p → l.dom ≡ p.dom
  pin-dom l p of = sym (ap (λ (q : HeldPin). q.dom) of.2)

  leg-is : (r : OpenRequest) (held : List HeldPin) (l : Leg) → LegTouches A l.dom l.gref → IsPinning r held
      → MapsBytes A grants uses r l.dom l.gref → LegIs L (One r) held l
  leg-is r held l touches pinning bytes = record {
    header = (touches.0, tt, tt);
    control = (touches.1, tt, tt);
    body = λ body_word. (touches.1, tt, tt);
    pin = λ p of. (
      pin-on l p of touches.1,
      subst (λ (q : HeldPin). MapsBytes A grants uses r q.dom q.gref) (sym of.2) bytes,
      pinning,
    );
  }

  -- what comes after such a pin of a leg
  after-pin : (dir : Dir) (l : Leg) → Applies → ((e : Entry) → IsGranted grants l.dom.0 l.gref.0 e
      → BeyondTouches A grants dir l.dom e) → (p : HeldPin) → IsPinOf l p → L p
      → BeyondTouches A grants dir p.dom p.entry
  after-pin dir l applies all p of take = applies.beyond_is dir p take
      (subst (λ (q : HeldPin). (e : Entry) → IsGranted grants q.dom.0 q.gref.0 e → BeyondTouches A grants dir q.dom e)
      (sym of.2) all)

  -- the access to the frame of an entry that is not transitive
  direct-access : (dir : Dir) (t : DomId) (e : Entry) → IsNoVia e → BeyondTouches A grants dir t e
      → A (frame_touch dir t (frame_of e))
  direct-access dir t entries.Invalid none touch = touch
  direct-access dir t (entries.Page dom ro frame) none touch = touch
  direct-access dir t (entries.Sub dom ro frame off len) none touch = touch
  direct-access dir t (entries.Via dom ro dom2 gref) none touch = absurd none

  -- the access to the frame of a pin beyond a transitive entry
  last-access : (dir : Dir) (l : Leg) → Applies → LastTouches A grants dir l.dom l.gref → (q : HeldPin) → IsPinOf l q
      → L q → A (frame_touch dir q.dom (frame_of q.entry))
  last-access dir l applies all q of take = applies.last_is dir q take
      (subst (λ (p : HeldPin). LastTouches A grants dir p.dom p.gref) (sym of.2) all)

  each-asked : (r : OpenRequest) (question : HeaderQuery) (dom : DomId)
      → ((verdict : CallResult) → One r [] (Done verdict)) → A (LooksHeader dom)
      → Each L (One r) [] (asks dom question)
  each-asked r question dom ends touches = each-looks L (One r) [] (LookHeader dom) _ (touches, tt, tt)
      (λ word. each-ended L (One r) [] _ (ends _))

  module _ (c : CopyArgs) (from : SourceTouches A grants d c) (to : DestTouches A grants d c) (applies : Applies) where
    gives-well : (held : List HeldPin) → AllOn held → (verdict : CallResult) → GivesWell L (One (Copy c)) held verdict
    gives-well [] on verdict = refl
    gives-well (p ∷ ps) on verdict = ((on.0, tt, (tt, (ps, refl, refl))), gives-well ps on.1 verdict)

    each-access : (source dest : AccessPath) → AllOn (held_by dest ++ held_by source)
        → A (Reads (owner_by d source) (frame_by c.source.ptr source))
        → A (Writes (owner_by d dest) (frame_by c.dest.ptr dest))
        → Each L (One (Copy c)) (held_by dest ++ held_by source) (accesses d c source dest)
    each-access source dest on reads writes = each-makes L (One (Copy c)) (held_by dest ++ held_by source)
        (call_steps.Copy (end_spot d c.source source) (end_spot d c.dest dest) c.len)
        (give_back (held_by dest ++ held_by source) Granted) ((reads, writes), tt, tt)
        (each-given L (One (Copy c)) (held_by dest ++ held_by source) Granted
        (gives-well (held_by dest ++ held_by source) on Granted))

    abbrev source_leg : Leg
    source_leg = end_leg k d c.source dirs.Read c.len

    abbrev dest_leg : Leg
    dest_leg = end_leg k d c.dest dirs.Write c.len

    each-dest : (source : AccessPath) → AllOn (held_by source)
        → A (Reads (owner_by d source) (frame_by c.source.ptr source))
        → Each L (One (Copy c)) (held_by source) (to_dest k d c source)
    each-dest source on reads = each-reached L (One (Copy c)) k dest_leg (dest_pair d source) (held_by source)
        (accesses d c source) (is_dest_granted c)
        (λ granted. leg-is (Copy c) (held_by source) dest_leg (to.0 granted).0 tt tt)
        (λ verdict. gives-well (held_by source) on verdict)
        (λ own. each-access source Own on reads (to.1 own))
        (λ granted p of take none. each-access source (Direct p) (pin-on dest_leg p of (to.0 granted).0.1, on) reads
        (direct-access dirs.Write p.dom p.entry none (after-pin dirs.Write dest_leg applies (to.0 granted).1 p of take)))
        (λ granted p of take dom ro dom2 gref via.
        let there : LegTouches A dom2 gref × LastTouches A grants dirs.Write dom2 gref =
        subst (BeyondTouches A grants dirs.Write p.dom) via
        (after-pin dirs.Write dest_leg applies (to.0 granted).1 p of take) in
        let second = second_leg k dest_leg dom2 gref in
        let first-on = pin-on dest_leg p of (to.0 granted).0.1 in record {
          leg_is = leg-is (Copy c) (p ∷ held_by source) second there.0 tt tt;
          gives = λ verdict. gives-well (p ∷ held_by source) (first-on, on) verdict;
          on = λ q of-second taken. each-access source (Through p q)
              (pin-on second q of-second there.0.1, (first-on, on)) reads
              (last-access dirs.Write second applies there.1 q of-second taken);
        })

    each-copy : Each L (One (Copy c)) [] (copies k d c)
    each-copy = each-reached L (One (Copy c)) k source_leg (source_pair d c) [] (to_dest k d c) (is_source_granted c)
        (λ granted. leg-is (Copy c) [] source_leg (from.0 granted).0 tt tt)
        (λ verdict. gives-well [] tt verdict)
        (λ own. each-dest Own tt (from.1 own))
        (λ granted p of take none. each-dest (Direct p) (pin-on source_leg p of (from.0 granted).0.1, tt)
        (direct-access dirs.Read p.dom p.entry none (after-pin dirs.Read source_leg applies (from.0 granted).1 p of take)))
        (λ granted p of take dom ro dom2 gref via.
        let there : LegTouches A dom2 gref × LastTouches A grants dirs.Read dom2 gref =
        subst (BeyondTouches A grants dirs.Read p.dom) via
        (after-pin dirs.Read source_leg applies (from.0 granted).1 p of take) in
        let second = second_leg k source_leg dom2 gref in
        let first-on = pin-on source_leg p of (from.0 granted).0.1 in record {
          leg_is = leg-is (Copy c) (p ∷ []) second there.0 tt tt;
          gives = λ verdict. gives-well (p ∷ []) (first-on, tt) verdict;
          on = λ q of-second taken. each-dest (Through p q) (pin-on second q of-second there.0.1, (first-on, tt))
              (last-access dirs.Read second applies there.1 q of-second taken);
        })

  -- each action of a call touches only what its request names
  pub each-step : (r : OpenRequest) → RequestTouches A grants uses d r → (IsCopy r → Applies)
      → Each L (One r) [] (steps_of k d r)
  each-step (Grant gref entry) t applies = each-grant L (One (Grant gref entry)) [] (λ verdict. refl) k d gref entry
      (λ body_word w. (t.1, tt, tt)) (λ looked. (t.0, tt, refl))
  each-step (Revoke gref) t applies = each-once L (One (Revoke gref)) [] (λ verdict. refl) d gref changes.Revoke
      (λ looked. (t, tt, tt)) _
  each-step (Withdraw gref) t applies = each-turns L (One (Withdraw gref)) [] (λ verdict. refl) d gref changes.Withdraw
      (λ looked. (t, tt, tt)) (t, tt, tt) MORE_TRIES
  each-step (Demote gref) t applies = each-turns L (One (Demote gref)) [] (λ verdict. refl) d gref changes.Demote
      (λ looked. (t, tt, tt)) (t, tt, tt) MORE_TRIES
  each-step (Promote gref) t applies = each-turns L (One (Promote gref)) [] (λ verdict. refl) d gref changes.Promote
      (λ looked. (t, tt, tt)) (t, tt, tt) MORE_TRIES
  each-step (Map dom gref flags) t applies = each-leg L (One (Map dom gref flags)) [] (map_leg k d dom gref flags)
      (leg-is (Map dom gref flags) [] (map_leg k d dom gref flags) t.0 refl t.1) (refused_holding [])
      (λ p. ended (results.Mapped p)) (λ denial. each-ended L (One (Map dom gref flags)) [] (Refused denial) refl)
      (λ p of take. each-ended L (One (Map dom gref flags)) (p ∷ []) (results.Mapped p) refl)
  each-step (Unmap handle) t applies = each-mapped L (One (Unmap handle)) (k.mapping handle)
      (λ m. Unpin m (holders.Mapping handle)) (λ verdict. refl) (λ m found. ((mapped handle m found).0, tt, found))
      (λ m. refl)
  each-step (Release handle) t applies = each-mapped L (One (Release handle)) (k.mapping handle)
      (λ m. Unpin m (holders.Mapping handle)) (λ verdict. refl) (λ m found. ((mapped handle m found).0, tt, found))
      (λ m. refl)
  each-step (Load handle off len) t applies = each-mapped L (One (Load handle off len)) (k.mapping handle)
      (λ m. call_steps.Read m.dom (frame_of m.entry) off len) (λ verdict. refl)
      (λ m found. ((mapped handle m found).1 t, tt, tt)) (λ m. refl)
  each-step (Store handle off len) t applies = each-mapped L (One (Store handle off len)) (k.mapping handle)
      (λ m. call_steps.Write m.dom (frame_of m.entry) off len) (λ verdict. refl)
      (λ m found. ((mapped handle m found).2 t, tt, tt)) (λ m. refl)
  each-step (Peek frame off len) t applies = each-makes L (One (Peek frame off len)) []
      (call_steps.Read d frame off len) _ (t, tt, tt) (each-ended L (One (Peek frame off len)) [] Granted refl)
  each-step (Poke frame off len) t applies = each-makes L (One (Poke frame off len)) []
      (call_steps.Write d frame off len) _ (t, tt, tt) (each-ended L (One (Poke frame off len)) [] Granted refl)
  each-step (Copy c) t applies = each-copy c t.0 t.1 (applies tt)
  each-step (Probe c) t applies = absurd t
  each-step (SetVersion version) t applies = each-makes L (One (SetVersion version)) []
      (StoreHeader version k.header.frames) _ (t, tt, tt) (each-ended L (One (SetVersion version)) [] Granted refl)
  each-step (SetupTable frames) t applies = each-makes L (One (SetupTable frames)) []
      (StoreHeader k.header.version frames) _ (t, tt, tt) (each-ended L (One (SetupTable frames)) [] _ refl)
  each-step (QuerySize dom) t applies =
      each-asked (QuerySize dom) queries.Size (resolved d dom) (λ verdict. refl) t
  each-step (GetVersion dom) t applies =
      each-asked (GetVersion dom) queries.Version (resolved d dom) (λ verdict. refl) t

-- a call that makes a step was not answered at its beginning

not-ended : (verdict : CallResult) (vs : List Observation) (step : Step) → ended verdict vs ≡ Some (actions.Step step) → ⊥
not-ended verdict [] step e = absurd (cc)
not-ended verdict (v ∷ vs) step e = none-some (actions.Step step) e

pub path-opened : (k : CallerKnowledge) (d : DomId) (r : OpenRequest) (vs : List Observation) (step : Step)
    → path k d r vs ≡ Some (actions.Step step) → (begun k d r ≡ None) × (steps_of k d r vs ≡ Some (actions.Step step))
path-opened k d r vs step e = by (begun k d r) refl e where
  by : (verdict : Option CallResult) → begun k d r ≡ verdict
      → after_beginning verdict (steps_of k d r) vs ≡ Some (actions.Step step)
      → (begun k d r ≡ None) × (steps_of k d r vs ≡ Some (actions.Step step))
  by None is f = (is, f)
  by (Some verdict) is f = absurd (not-ended verdict vs step f)

-- calls of scripts

-- what a call may touch is such
abbrev pub CallTouches : (Touch → Type 0) → List GrantedEntry → MappingUse → DomId → ScriptCall → Type 0
CallTouches A grants uses d (script_calls.Grant gref entry) = A (touches.Entry d gref) × A (WholeEntry d gref)
CallTouches A grants uses d (script_calls.GrantBytes gref hex) = A (touches.Entry d gref) × A (WholeEntry d gref)
CallTouches A grants uses d (script_calls.Revoke gref) = A (touches.Entry d gref)
CallTouches A grants uses d (script_calls.Withdraw gref) = A (touches.Entry d gref)
CallTouches A grants uses d (script_calls.Demote gref) = A (touches.Entry d gref)
CallTouches A grants uses d (script_calls.Promote gref) = A (touches.Entry d gref)
CallTouches A grants uses d (script_calls.Map label dom gref flags) =
    LegTouches A (resolved d dom) gref × FramesTouch A grants uses (resolved d dom) gref
CallTouches A grants uses d (script_calls.Unmap label) = Unit {0}
CallTouches A grants uses d (script_calls.Load label off len) = uses.loads ≡ true
CallTouches A grants uses d (script_calls.Store label off hex) = uses.stores ≡ true
CallTouches A grants uses d (script_calls.Peek frame off len) = A (Reads d frame)
CallTouches A grants uses d (script_calls.Poke frame off hex) = A (Writes d frame)
CallTouches A grants uses d (script_calls.Copy c) = SourceTouches A grants d c × DestTouches A grants d c
CallTouches A grants uses d (script_calls.SetVersion version) = A (StoresHeader d)
CallTouches A grants uses d (script_calls.SetupTable frames) = A (StoresHeader d)
CallTouches A grants uses d (script_calls.QuerySize dom) = A (LooksHeader (resolved d dom))
CallTouches A grants uses d (script_calls.GetVersion dom) = A (LooksHeader (resolved d dom))

pub said-touches : (A : Touch → Type 0) (grants : List GrantedEntry) (uses : MappingUse) (named : List Named)
    (d : DomId) (call : ScriptCall) (q : Request) → MakesRequest named d call q → CallTouches A grants uses d call
    → RequestTouches A grants uses d (asked q)
unfolding request_of
said-touches A grants uses named d call q (bytes, given, is) t = subst (λ r. RequestTouches A grants uses d (asked r)) (sym is)
    (by call given t) where
      by : (c : ScriptCall) → bytes.now ≡ call_bytes c → CallTouches A grants uses d c
          → RequestTouches A grants uses d (asked (request_of named d bytes c))
      by (script_calls.Grant gref entry) e t = t
      by (script_calls.GrantBytes gref hex) e t = t
      by (script_calls.Revoke gref) e t = t
      by (script_calls.Withdraw gref) e t = t
      by (script_calls.Demote gref) e t = t
      by (script_calls.Promote gref) e t = t
      by (script_calls.Map label dom gref flags) e t = t
      by (script_calls.Unmap label) e t = tt
      by (script_calls.Load label off len) e t = t
      by (script_calls.Store label off hex) e t = t
      by (script_calls.Peek frame off len) e t = t
      by (script_calls.Poke frame off hex) e t = t
      by (script_calls.Copy c) e t = t
      by (script_calls.SetVersion version) e t = t
      by (script_calls.SetupTable frames) e t = t
      by (script_calls.QuerySize dom) e t = t
      by (script_calls.GetVersion dom) e t = t

-- what the action of a line may touch is such
abbrev pub ActionTouches : (Touch → Type 0) → List GrantedEntry → MappingUse → DomId → RunAction → Type 0
ActionTouches A grants uses d (Do call) = CallTouches A grants uses d call
ActionTouches A grants uses d (Tell flag) = A (Raises flag)
ActionTouches A grants uses d (Await flag) = Unit {0}

-- the entries that the line of this domain may grant are listed, and what it asks fits its types
pub record IsListedLine (grants : List GrantedEntry) (d : DomId) (run_action : RunAction) : Type 0 where
  pub lists : ListsGrants grants d run_action
  pub fits : AsksOnlyFitting run_action

-- what these tasks of a domain may touch is such, and each is listed
abbrev pub TasksTouch : (Touch → Type 0) → List GrantedEntry → MappingUse → DomId → List RunTask → Type 0
TasksTouch A grants uses d [] = Unit {0}
TasksTouch A grants uses d (t ∷ ts) =
    (ActionTouches A grants uses d t.run_action × IsListedLine grants d t.run_action) × TasksTouch A grants uses d ts

-- touches that a next move doesn't meet

-- the next move does not meet it
abbrev pub Unmet : NextMove → Touch → Type 0
Unmet move touch = meets move touch ≡ false

not-true : (b : Bool) → (b ≡ true → ⊥) → b ≡ false
not-true true none = absurd (none refl)
not-true false none = refl

or-parts : (a b : Bool) → (a || b) ≡ false → (a ≡ false) × (b ≡ false)
or-parts false false e = (refl, refl)
or-parts true b e = absurd (false≢true (sym e))
or-parts false true e = absurd (false≢true (sym e))

no-write : (z : Step) (t f : ℕ) → is_write z ≡ false → writes_frame_at z t f ≡ false
no-write (call_steps.Write dom frame off len) t f e = absurd (false≢true (sym e))
no-write (call_steps.Copy from to len) t f e = absurd (false≢true (sym e))
no-write z t f e = refl

no-access : (z : Step) (t f : ℕ) → is_access_step z ≡ false → (reads_frame_at z t f || writes_frame_at z t f) ≡ false
no-access (call_steps.Read dom frame off len) t f e = absurd (false≢true (sym e))
no-access (call_steps.Write dom frame off len) t f e = absurd (false≢true (sym e))
no-access (call_steps.Copy from to len) t f e = absurd (false≢true (sym e))
no-access z t f e = refl

unmet-reads : (move : NextMove) (t : DomId) (f : ℕ) → next_writes move ≡ false → Unmet move (Reads t f)
unmet-reads (next_moves.Makes d z) t f e = no-write z t.0 f e
unmet-reads (next_moves.Awaits flag) t f e = refl
unmet-reads next_moves.Free t f e = refl

unmet-writes : (move : NextMove) (t : DomId) (f : ℕ) → next_accesses move ≡ false → Unmet move (Writes t f)
unmet-writes (next_moves.Makes d z) t f e = no-access z t.0 f e
unmet-writes (next_moves.Awaits flag) t f e = refl
unmet-writes next_moves.Free t f e = refl

if-used : (a b : Bool) → (a && b) ≡ false → a ≡ true → b ≡ false
if-used true b e is = e
if-used false b e is = absurd (false≢true is)

-- no entry of this list is such

any-at : (f : GrantedEntry → Bool) (gs : List GrantedEntry) (n : ℕ) (g : GrantedEntry) → slice_get gs n ≡ Some g
    → list_any f gs ≡ false → f g ≡ false
any-at f [] n g at none = absurd (none-some g at)
any-at f (h ∷ gs) zero g at none = ap f (sym (same_Some h g at)) ∙ (or-parts (f h) (list_any f gs) none).0
any-at f (h ∷ gs) (suc n) g at none = any-at f gs n g at (or-parts (f h) (list_any f gs) none).1

-- an entry that may be granted has what one in the list has
frame-same : (a b : Entry) → with_ro false a ≡ with_ro false b → frame_of a ≡ frame_of b
frame-same a b e = frame-bare a ∙ ap frame_of e ∙ sym (frame-bare b) where
  frame-bare : (x : Entry) → frame_of x ≡ frame_of (with_ro false x)
  frame-bare entries.Invalid = refl
  frame-bare (entries.Page dom ro frame) = refl
  frame-bare (entries.Sub dom ro frame off len) = refl
  frame-bare (entries.Via dom ro dom2 gref) = refl

is-of : (t : DomId) (r : GrantRef) (g : GrantedEntry) → g.owner.0 ≡ t.0 → g.gref.0 ≡ r.0 → is_grant_of t r g ≡ true
is-of t r g owner gref = grind (arith, eq-eqb)

-- what none of those listed does, none that may be granted does
none-granted : (grants : List GrantedEntry) (t : DomId) (r : GrantRef) (f : Entry → Bool) (e : Entry)
    → list_any (λ (g : GrantedEntry). is_grant_of t r g && f g.entry) grants ≡ false
    → IsGranted grants t.0 r.0 e → (g : Entry) × (with_ro false g ≡ with_ro false e) × (f g ≡ false)
none-granted grants t r f e none (n, g, at, owner, gref, same) = (
  g.entry,
  same,
  if-used (is_grant_of t r g) (f g.entry)
      (any-at (λ (g : GrantedEntry). is_grant_of t r g && f g.entry) grants n g at none) (is-of t r g owner gref),
)

unmet-uses : (uses : MappingUse) (move : NextMove) (t : DomId) (f : ℕ) → meets_uses uses move t f ≡ false
    → (uses.loads ≡ true → Unmet move (Reads t f)) × (uses.stores ≡ true → Unmet move (Writes t f))
unmet-uses uses move t f e =
    let both = or-parts (uses.loads && meets move (Reads t f)) (uses.stores && meets move (Writes t f)) e in (
      (λ is. if-used uses.loads (meets move (Reads t f)) both.0 is),
      (λ is. if-used uses.stores (meets move (Writes t f)) both.1 is),
    )

unmet-frames : (grants : List GrantedEntry) (uses : MappingUse) (move : NextMove) (t : DomId) (r : GrantRef)
    → meets_mapped grants uses move t r ≡ false → FramesTouch (Unmet move) grants uses t r
unmet-frames grants uses move t r e = by (meets_bytes uses move) refl e where
  by : (b : Bool) → meets_bytes uses move ≡ b
      → (b && list_any (λ (g : GrantedEntry). is_grant_of t r g && meets_uses uses move t (frame_of g.entry)) grants)
      ≡ false → FramesTouch (Unmet move) grants uses t r
  by false none f entry granted =
      let both = or-parts (uses.loads && next_writes move) (uses.stores && next_accesses move) none in (
        (λ is. unmet-reads move t (frame_of entry) (if-used uses.loads (next_writes move) both.0 is)),
        (λ is. unmet-writes move t (frame_of entry) (if-used uses.stores (next_accesses move) both.1 is)),
      )
  by true some f entry granted =
      let it = none-granted grants t r (λ (x : Entry). meets_uses uses move t (frame_of x)) entry f granted in
      unmet-uses uses move t (frame_of entry)
      (subst (λ (n : ℕ). meets_uses uses move t n ≡ false) (frame-same it.0 entry it.1) it.2)

pub unmet-mapping : (uses : MappingUse) (move : NextMove) (p : HeldPin) → meets_mapping uses move p ≡ false
    → PinTouches (Unmet move) uses p
unmet-mapping uses move p e =
    let reads = uses.loads && meets move (Reads p.dom (frame_of p.entry)) in
    let writes = uses.stores && meets move (Writes p.dom (frame_of p.entry)) in
    let both = or-parts (meets move (touches.Entry p.dom p.gref) || reads) writes e in
    let first = or-parts (meets move (touches.Entry p.dom p.gref)) reads both.0 in (
      first.0,
      (λ is. if-used uses.loads (meets move (Reads p.dom (frame_of p.entry))) first.1 is),
      (λ is. if-used uses.stores (meets move (Writes p.dom (frame_of p.entry))) both.1 is),
    )

unmet-leg : (move : NextMove) (dom : DomId) (gref : GrantRef) → meets_leg move dom gref ≡ false
    → LegTouches (Unmet move) dom gref
unmet-leg move dom gref e = or-parts (meets move (LooksHeader dom)) (meets move (touches.Entry dom gref)) e

unmet-last : (grants : List GrantedEntry) (move : NextMove) (dir : Dir) (t : DomId) (r : GrantRef)
    → meets_last grants move dir t r ≡ false → LastTouches (Unmet move) grants dir t r
unmet-last grants move dir t r e entry granted =
    let it = none-granted grants t r (λ (x : Entry). meets move (frame_touch dir t (frame_of x))) entry e granted in
    subst (λ (n : ℕ). meets move (frame_touch dir t n) ≡ false) (frame-same it.0 entry it.1) it.2

unmet-beyond : (grants : List GrantedEntry) (move : NextMove) (dir : Dir) (t : DomId) (e : Entry)
    → meets_beyond grants move dir t e ≡ false → BeyondTouches (Unmet move) grants dir t e
unmet-beyond grants move dir t entries.Invalid e = e
unmet-beyond grants move dir t (entries.Page dom ro frame) e = e
unmet-beyond grants move dir t (entries.Sub dom ro frame off len) e = e
unmet-beyond grants move dir t (entries.Via dom ro dom2 gref) e =
    let both = or-parts (meets_leg move dom2 gref) (meets_last grants move dir dom2 gref) e in
    (unmet-leg move dom2 gref both.0, unmet-last grants move dir dom2 gref both.1)

-- what comes after the pin does not depend on the right to write
beyond-bare : (grants : List GrantedEntry) (move : NextMove) (dir : Dir) (t : DomId) (e : Entry)
    → meets_beyond grants move dir t (with_ro false e) ≡ meets_beyond grants move dir t e
beyond-bare grants move dir t entries.Invalid = refl
beyond-bare grants move dir t (entries.Page dom ro frame) = refl
beyond-bare grants move dir t (entries.Sub dom ro frame off len) = refl
beyond-bare grants move dir t (entries.Via dom ro dom2 gref) = refl

unmet-end : (grants : List GrantedEntry) (move : NextMove) (dir : Dir) (t : DomId) (r : GrantRef)
    → meets_end grants move dir t r ≡ false → EndTouches (Unmet move) grants dir t r
unmet-end grants move dir t r e =
    let both = or-parts (meets_leg move t r)
    (list_any (λ (g : GrantedEntry). is_grant_of t r g && meets_beyond grants move dir t g.entry) grants) e in (
      unmet-leg move t r both.0,
      λ entry granted.
          let it = none-granted grants t r (meets_beyond grants move dir t) entry both.1 granted in
          unmet-beyond grants move dir t entry (sym (beyond-bare grants move dir t entry)
          ∙ ap (meets_beyond grants move dir t) (sym it.1) ∙ beyond-bare grants move dir t it.0 ∙ it.2),
    )

unmet-source : (grants : List GrantedEntry) (move : NextMove) (d : DomId) (c : CopyArgs)
    → meets_source grants move d c ≡ false → SourceTouches (Unmet move) grants d c
unmet-source grants move d c e = by (is_source_granted c) e where
  by : (b : Bool) → cond b (meets_end grants move dirs.Read (resolved d c.source.domid) (gref_of c.source.ptr))
      (meets move (Reads d c.source.ptr)) ≡ false
      → (b ≡ true → EndTouches (Unmet move) grants dirs.Read (resolved d c.source.domid) (gref_of c.source.ptr))
      × (b ≡ false → Unmet move (Reads d c.source.ptr))
  by true f = (
    (λ is. unmet-end grants move dirs.Read (resolved d c.source.domid) (gref_of c.source.ptr) f),
    (λ is. absurd (false≢true (sym is))),
  )
  by false f = ((λ is. absurd (false≢true is)), (λ is. f))

unmet-dest : (grants : List GrantedEntry) (move : NextMove) (d : DomId) (c : CopyArgs)
    → meets_dest grants move d c ≡ false → DestTouches (Unmet move) grants d c
unmet-dest grants move d c e = by (is_dest_granted c) e where
  by : (b : Bool) → cond b (meets_end grants move dirs.Write (resolved d c.dest.domid) (gref_of c.dest.ptr))
      (meets move (Writes d c.dest.ptr)) ≡ false
      → (b ≡ true → EndTouches (Unmet move) grants dirs.Write (resolved d c.dest.domid) (gref_of c.dest.ptr))
      × (b ≡ false → Unmet move (Writes d c.dest.ptr))
  by true f = (
    (λ is. unmet-end grants move dirs.Write (resolved d c.dest.domid) (gref_of c.dest.ptr) f),
    (λ is. absurd (false≢true (sym is))),
  )
  by false f = ((λ is. absurd (false≢true is)), (λ is. f))

-- what meets no word of an entry does not meet its control word
unmet-entry : (move : NextMove) (t : DomId) (r : GrantRef) → Unmet move (WholeEntry t r) → Unmet move (touches.Entry t r)
unmet-entry (next_moves.Makes d z) t r e = off-and (is_on d z t.0 r.0) (not (looks_body z)) e where
  off-and : (a b : Bool) → a ≡ false → (a && b) ≡ false
  off-and a b off = grind arith
unmet-entry (next_moves.Awaits flag) t r e = refl
unmet-entry next_moves.Free t r e = refl

-- the uses that a call makes of mappings are among these
abbrev pub CallUses : MappingUse → ScriptCall → Type 0
CallUses uses (script_calls.Load label off len) = uses.loads ≡ true
CallUses uses (script_calls.Store label off hex) = uses.stores ≡ true
CallUses uses call = Unit {0}

unmet-call : (grants : List GrantedEntry) (uses : MappingUse) (move : NextMove) (d : DomId) (call : ScriptCall)
    → CallUses uses call → meets_call grants uses move d call ≡ false → CallTouches (Unmet move) grants uses d call
unmet-call grants uses move d (script_calls.Grant gref entry) used e = (unmet-entry move d gref e, e)
unmet-call grants uses move d (script_calls.GrantBytes gref hex) used e = (unmet-entry move d gref e, e)
unmet-call grants uses move d (script_calls.Revoke gref) used e = e
unmet-call grants uses move d (script_calls.Withdraw gref) used e = e
unmet-call grants uses move d (script_calls.Demote gref) used e = e
unmet-call grants uses move d (script_calls.Promote gref) used e = e
unmet-call grants uses move d (script_calls.Map label dom gref flags) used e =
    let both = or-parts (meets_leg move (resolved d dom) gref) (meets_mapped grants uses move (resolved d dom) gref) e in (
      unmet-leg move (resolved d dom) gref both.0,
      unmet-frames grants uses move (resolved d dom) gref both.1,
    )
unmet-call grants uses move d (script_calls.Unmap label) used e = tt
unmet-call grants uses move d (script_calls.Load label off len) used e = used
unmet-call grants uses move d (script_calls.Store label off hex) used e = used
unmet-call grants uses move d (script_calls.Peek frame off len) used e = e
unmet-call grants uses move d (script_calls.Poke frame off hex) used e = e
unmet-call grants uses move d (script_calls.Copy c) used e =
    let both = or-parts (meets_source grants move d c) (meets_dest grants move d c) e in
    (unmet-source grants move d c both.0, unmet-dest grants move d c both.1)
unmet-call grants uses move d (script_calls.SetVersion version) used e = e
unmet-call grants uses move d (script_calls.SetupTable frames) used e = e
unmet-call grants uses move d (script_calls.QuerySize dom) used e = e
unmet-call grants uses move d (script_calls.GetVersion dom) used e = e

-- the uses that a task makes of mappings are among these
abbrev pub TaskUses : MappingUse → RunTask → Type 0
TaskUses uses t = (is_load t ≡ true → uses.loads ≡ true) × (is_store t ≡ true → uses.stores ≡ true)

pub unmet-run_action : (grants : List GrantedEntry) (uses : MappingUse) (move : NextMove) (d : DomId) (t : RunTask)
    → t.dom ≡ d → TaskUses uses t → meets_task grants uses move t ≡ false
    → ActionTouches (Unmet move) grants uses d t.run_action
unmet-run_action grants uses move d t own used e =
    subst (λ x. ActionTouches (Unmet move) grants uses x t.run_action) own (by t.run_action used e)
  where
    call-uses : (call : ScriptCall) → TaskUses uses (record t { run_action = Do call }) → CallUses uses call
    call-uses (script_calls.Load label off len) u = u.0 refl
    call-uses (script_calls.Store label off hex) u = u.1 refl
    call-uses call u = tt

    by : (run_action : RunAction) → TaskUses uses (record t { run_action = run_action })
        → meets_task grants uses move (record t { run_action = run_action }) ≡ false
        → ActionTouches (Unmet move) grants uses t.dom run_action
    by (Do call) u f = unmet-call grants uses move t.dom call (call-uses call u) f
    by (Tell flag) u f = f
    by (Await flag) u f = tt

pub or-false : (a b : Bool) → (a || b) ≡ false → (a ≡ false) × (b ≡ false)
or-false a b e = or-parts a b e

-- steps that are the same but for a handle meet the same
pub meets-under : (d : DomId) (b : Handle) (z : Step) (touch : Touch)
    → step_meets d (step_under b z) touch ≡ step_meets d z touch
meets-under d b (Unpin p (holders.Mapping a)) (touches.Entry dom gref) = refl
meets-under d b (Unpin p (holders.Mapping a)) (WholeEntry dom gref) = refl
meets-under d b (Unpin p (holders.Mapping a)) (LooksHeader dom) = refl
meets-under d b (Unpin p (holders.Mapping a)) (StoresHeader dom) = refl
meets-under d b (Unpin p (holders.Mapping a)) (Reads dom f) = refl
meets-under d b (Unpin p (holders.Mapping a)) (Writes dom f) = refl
meets-under d b (Unpin p (holders.Mapping a)) (Raises flag) = refl
meets-under d b z touch = refl

-- two steps of which one touches nothing that the other meets

at-place : (a b t r : ℕ) → ((a == t) && (b == r)) ≡ true → (a ≡ t) × (b ≡ r)
at-place a b t r e = let both = and_parts (a == t) (b == r) e in (eqb-true a t both.0, eqb-true b r both.1)

-- what the step meets is off an entry
off-entry : (e : DomId) (z : Step) (dom : DomId) (gref : GrantRef) (t r : ℕ) → is_on e z dom.0 gref.0 ≡ false
    → ((dom.0 == t) && (gref.0 == r)) ≡ true → is_on e z t r ≡ false
off-entry e z dom gref t r off at = let same = at-place dom.0 gref.0 t r at in
    subst (λ x. is_on e z x r ≡ false) same.0 (subst (λ x. is_on e z dom.0 x ≡ false) same.1 off)

-- what looks at no body word is off an entry whose control word it does not meet
plain-off : (a b : Bool) → (a && not b) ≡ false → b ≡ false → a ≡ false
plain-off a b off plain = grind arith

off-word : (e : DomId) (z : Step) (dom : DomId) (gref : GrantRef) (t r : ℕ)
    → (is_on e z dom.0 gref.0 && not (looks_body z)) ≡ false → ((dom.0 == t) && (gref.0 == r)) ≡ true
    → (is_on e z t r && not (looks_body z)) ≡ false
off-word e z dom gref t r off at = let same = at-place dom.0 gref.0 t r at in
    subst (λ x. (is_on e z x r && not (looks_body z)) ≡ false) same.0
    (subst (λ x. (is_on e z dom.0 x && not (looks_body z)) ≡ false) same.1 off)

on-is : (e : DomId) (z : Step) (t r : ℕ) → touches_entry e z t r ≡ true → is_on e z t r ≡ true
on-is e (Unpin p holder) t r on = absurd (false≢true on)
on-is e z t r on = on

reads-access : (z : Step) (t : ℕ) → reads_frames z t ≡ true → is_access_step z ≡ true
reads-access (call_steps.Read dom frame off len) t on = refl
reads-access (call_steps.Copy from to len) t on = refl
reads-access z t on = absurd (false≢true on)

writes-access : (z : Step) (t : ℕ) → writes_frames z t ≡ true → is_access_step z ≡ true
writes-access (call_steps.Write dom frame off len) t on = refl
writes-access (call_steps.Copy from to len) t on = refl
writes-access z t on = absurd (false≢true on)

-- a step that doesn't write to a frame leaves what was written there

no-patch : {X : Type 0} (b : Bool) (xs : List X) → b ≡ false → cond b xs [] ≡ []
no-patch b xs none = ap (λ (x : Bool). cond x xs []) none

none-patched : (h : History) (d : DomId) (z : Step) (seen : Observation) (a : Option Answer) (t f : ℕ)
    → writes_frame_at z t f ≡ false
    → patches_of h (record { actor = d; happened = Stepped z seen; answer = a }) t f ≡ []
none-patched h d (call_steps.Write dom frame off len) seen a t f none = no-patch ((dom.0 == t) && (frame == f)) _ none
none-patched h d (call_steps.Copy from to len) seen a t f none =
    no-patch ((to.frame.owner.0 == t) && (to.frame.number == f)) _ none
none-patched h d z seen a t f none = refl

patches-kept : (h : History) (i : Item) (t f : ℕ) → patches_of h i t f ≡ [] → patches_at (i ∷ h) t f ≡ patches_at h t f
unfolding patches_at
patches-kept h i t f none = ap (λ l. patches_at h t f ++ l) none ∙ append-nil (patches_at h t f)

module _ (d e : DomId) (y z : Step) (unmet : StepTouches (λ touch. step_meets e z touch ≡ false) d y) where
  -- an entry that the one step is on: the other one is off it, or looks at a body word, which the one does not store
  words-off : (t r : ℕ) → touches_entry d y t r ≡ true → (is_on e z t r && not (looks_body z)) ≡ false
  words-off t r on = by y unmet on where
    none-and : (a b : Bool) → a ≡ false → (a && b) ≡ false
    none-and a b off = grind arith

    by : (x : Step) → StepTouches (λ touch. step_meets e z touch ≡ false) d x → touches_entry d x t r ≡ true
        → (is_on e z t r && not (looks_body z)) ≡ false
    by (LookControl dom gref) u on = off-word e z dom gref t r u on
    by (LookBody dom gref body_word) u on = off-word e z dom gref t r u on
    by (call_steps.Pin p) u on = off-word e z p.dom p.gref t r u on
    by (StoreBody gref body_word w) u on = none-and (is_on e z t r) (not (looks_body z)) (off-entry e z d gref t r u on)
    by (Exchange gref looked change) u on = off-word e z d gref t r u on
    by x u on = absurd (false≢true on)

  looks-body : (t r : ℕ) → touches_entry d y t r ≡ true → touches_entry e z t r ≡ true → looks_body z ≡ true
  looks-body t r one other = must (is_on e z t r) (looks_body z) (words-off t r one) (on-is e z t r other) where
    must : (a b : Bool) → (a && not b) ≡ false → a ≡ true → b ≡ true
    must a b off on = grind arith

  -- each leaves what the other one looks at
  leaves-first : (t r : ℕ) → touches_entry d y t r ≡ true → touches_entry e z t r ≡ true → leaves_body y z ≡ true
  leaves-first t r one other = by y unmet one where
    leaves : (a b c : Bool) → b ≡ true → c ≡ false → (a || (b && not c)) ≡ true
    leaves a b c is none = grind arith

    by : (x : Step) → StepTouches (λ touch. step_meets e z touch ≡ false) d x → touches_entry d x t r ≡ true
        → leaves_body x z ≡ true
    by (StoreBody gref body_word w) u on = absurd (false≢true (sym (off-entry e z d gref t r u on) ∙ on-is e z t r other))
    by x u on = leaves (looks_body x) (looks_body z) (stores_body x) (looks-body t r one other) refl

  leaves-second : (t r : ℕ) → touches_entry e z t r ≡ true → touches_entry d y t r ≡ true → leaves_body z y ≡ true
  leaves-second t r other one = either (looks_body z) (looks_body y && not (stores_body z)) (looks-body t r one other) where
    either : (a b : Bool) → a ≡ true → (a || b) ≡ true
    either a b is = grind arith

  module _ (h : History) (mine : Releases h d y)
      (theirs : Releases h e z)
      (quiet : (is_access_step y && is_access_step z) ≡ false) where
    pins-first : (t r : ℕ) → touches_entry e z t r ≡ true → looks_body z ≡ false → ReleasesNoPinOn h d y t r
    pins-first t r on plain = by y unmet mine where
      by : (x : Step) → StepTouches (λ touch. step_meets e z touch ≡ false) d x → Releases h d x → ReleasesNoPinOn h d x t r
      by (Unpin p holder) u releases = keeps-elsewhere h d p holder t r releases
          (not-true ((p.dom.0 == t) && (p.gref.0 == r)) (λ at. false≢true
          (sym (plain-off (is_on e z t r) (looks_body z) (off-word e z p.dom p.gref t r u at) plain) ∙ on-is e z t r on)))
      by x u releases = tt

    pins-second : (t r : ℕ) → touches_entry d y t r ≡ true → looks_body y ≡ false → ReleasesNoPinOn h e z t r
    pins-second t r on plain = by z theirs (words-off t r on) where
      by : (x : Step) → Releases h e x → (is_on e x t r && not (looks_body x)) ≡ false → ReleasesNoPinOn h e x t r
      by (Unpin p holder) releases off = keeps-elsewhere h e p holder t r releases
          (plain-off ((p.dom.0 == t) && (p.gref.0 == r)) false off refl)
      by x releases off = tt

    header-first : (t : ℕ) → stores_header d y t ≡ true → looks_header z t ≡ true → ⊥
    header-first t one other = by y unmet one where
      by : (x : Step) → StepTouches (λ touch. step_meets e z touch ≡ false) d x → stores_header d x t ≡ true → ⊥
      by (StoreHeader version frames) u on = false≢true
          (sym (subst (λ x. looks_header z x ≡ false) (eqb-true d.0 t on) u) ∙ other)
      by x u on = false≢true on

    header-second : (t : ℕ) → stores_header e z t ≡ true → looks_header y t ≡ true → ⊥
    header-second t other one = by y unmet one where
      by : (x : Step) → StepTouches (λ touch. step_meets e z touch ≡ false) d x → looks_header x t ≡ true → ⊥
      by (LookHeader dom) u on = false≢true
          (sym (subst (λ x. stores_header e z x ≡ false) (eqb-true dom.0 t on) u) ∙ other)
      by x u on = false≢true on

    -- at most one of them is on bytes
    not-both : is_access_step y ≡ true → is_access_step z ≡ true → ⊥
    not-both one other = false≢true (sym quiet ∙ and-of (is_access_step y) (is_access_step z) one other) where
      and-of : (a b : Bool) → a ≡ true → b ≡ true → (a && b) ≡ true
      and-of a b x y = grind arith

    touch-apart-of : (d.0 == e.0) ≡ false → TouchApart h d y e z
    touch-apart-of actors = record {
      actors = actors;
      first = record {
        words = leaves-first;
        pins = pins-first;
        header = header-first;
        bytes = λ t one other. not-both (writes-access y t one) (reads-access z t other);
      };
      second = record {
        words = leaves-second;
        pins = pins-second;
        header = header-second;
        bytes = λ t other one. not-both (reads-access y t one) (writes-access z t other);
      };
      writes = λ t one other. not-both (writes-access y t one) (writes-access z t other);
    }

module _ (d e : DomId) (y z : Step) (unmet : StepTouches (λ touch. step_meets e z touch ≡ false) d y)
    (both : (is_access_step y && is_access_step z) ≡ true) where
  is : (is_access_step y ≡ true) × (is_access_step z ≡ true)
  is = and_parts (is_access_step y) (is_access_step z) both

  -- where the one writes, the other does nothing
  writes-off : (t f : ℕ) → writes_frame_at y t f ≡ true → (reads_frame_at z t f ≡ false) × (writes_frame_at z t f ≡ false)
  writes-off t f on = by y unmet on where
    from-frame : (a b : ℕ) → (reads_frame_at z a b || writes_frame_at z a b) ≡ false → ((a == t) && (b == f)) ≡ true
        → (reads_frame_at z t f ≡ false) × (writes_frame_at z t f ≡ false)
    from-frame a b u at = let same = at-place a b t f at in or-parts (reads_frame_at z t f) (writes_frame_at z t f)
        (subst (λ x. (reads_frame_at z x f || writes_frame_at z x f) ≡ false) same.0
        (subst (λ x. (reads_frame_at z a x || writes_frame_at z a x) ≡ false) same.1 u))

    by : (x : Step) → StepTouches (λ touch. step_meets e z touch ≡ false) d x → writes_frame_at x t f ≡ true
        → (reads_frame_at z t f ≡ false) × (writes_frame_at z t f ≡ false)
    by (call_steps.Write dom frame off len) u at = from-frame dom.0 frame u at
    by (call_steps.Copy from to len) u at = from-frame to.frame.owner.0 to.frame.number u.1 at
    by x u at = absurd (false≢true at)

  -- what the one reads, the other does not write
  reads-off : (t f : ℕ) → reads_frame_at z t f ≡ true → writes_frame_at y t f ≡ false
  reads-off t f on = not-true (writes_frame_at y t f) (λ at. false≢true (sym (writes-off t f at).0 ∙ on))

  at-itself : (m n : ℕ) → ((m == m) && (n == n)) ≡ true
  at-itself m n = grind arith

  bytes-apart : (s : Setting) (h : History) (v w : Observation) (a b : Option Answer) → (d.0 == e.0) ≡ false
      → AreApart s h (record { actor = d; happened = Stepped y v; answer = a })
      (record { actor = e; happened = Stepped z w; answer = b })
  bytes-apart s h v w a b actors = record {
    actors = actors;
    first = first y unmet is.0;
    second = second z reads-off is.1;
    frames = λ t f. frames t f (writes_frame_at y t f) refl;
  } where
    kept : (c : DomId) (x : Step) (seen : Observation) (answer : Option Answer) (t f : ℕ) → writes_frame_at x t f ≡ false
        → patches_at (record { actor = c; happened = Stepped x seen; answer = answer } ∷ h) t f ≡ patches_at h t f
    kept c x seen answer t f none = patches-kept h
        (record { actor = c; happened = Stepped x seen; answer = answer }) t f
        (none-patched h c x seen answer t f none)

    first : (x : Step) → StepTouches (λ touch. step_meets e z touch ≡ false) d x → is_access_step x ≡ true
        → SameLook s (record { actor = e; happened = Stepped z w; answer = b } ∷ h) h d x
    first (call_steps.Read dom frame off len) u on = kept e z w b dom.0 frame u
    first (call_steps.Copy from to len) u on = kept e z w b from.frame.owner.0 from.frame.number u.0
    first (call_steps.Write dom frame off len) u on = tt
    first x u on = absurd (false≢true on)

    second : (x : Step) → ((t f : ℕ) → reads_frame_at x t f ≡ true → writes_frame_at y t f ≡ false) → is_access_step x ≡ true
        → SameLook s (record { actor = d; happened = Stepped y v; answer = a } ∷ h) h e x
    second (call_steps.Read dom frame off len) none on = kept d y v a dom.0 frame (none dom.0 frame (at-itself dom.0 frame))
    second (call_steps.Copy from to len) none on = kept d y v a from.frame.owner.0 from.frame.number
        (none from.frame.owner.0 from.frame.number (at-itself from.frame.owner.0 from.frame.number))
    second (call_steps.Write dom frame off len) none on = tt
    second x none on = absurd (false≢true on)

    frames : (t f : ℕ) (x : Bool) → writes_frame_at y t f ≡ x
        → (patches_of h (record { actor = d; happened = Stepped y v; answer = a }) t f ≡ [])
        ⊎ (patches_of h (record { actor = e; happened = Stepped z w; answer = b }) t f ≡ [])
    frames t f false off = inl (none-patched h d y v a t f off)
    frames t f true on = inr (none-patched h e z w b t f (writes-off t f on).1)

-- so they are apart
pub steps-apart : (s : Setting) (h : History) (i j : Item) (y z : Step) (v w : Observation)
    → (i.actor.0 == j.actor.0) ≡ false → StepTouches (λ touch. step_meets j.actor z touch ≡ false) i.actor y
    → Releases h i.actor y → Releases h j.actor z
    → i.happened ≡ Stepped y v → j.happened ≡ Stepped z w → AreApart s h i j
steps-apart s h i j y z v w actors unmet mine theirs one other = by (is_access_step y && is_access_step z) refl where
  by : (b : Bool) → (is_access_step y && is_access_step z) ≡ b → AreApart s h i j
  by false quiet = steps-apart-in s h i j y z v w
      (touch-apart-of i.actor j.actor y z unmet h mine theirs quiet actors) one other
  by true both =
      subst (λ x. AreApart s h (record { actor = i.actor; happened = x; answer = i.answer }) j) (sym one)
      (subst (λ x. AreApart s h (record { actor = i.actor; happened = Stepped y v; answer = i.answer })
      (record { actor = j.actor; happened = x; answer = j.answer })) (sym other)
      (bytes-apart i.actor j.actor y z unmet both s h v w i.answer j.answer actors))

-- the pin of a mapping is the one that its unpin releases
pub unmaps-release : (h : History) (d : DomId) (p : HeldPin) (handle : Handle)
    → mapping_of (mappings_at h d.0) handle ≡ Some p → Releases h d (Unpin p (holders.Mapping handle))
unmaps-release h d p handle found = loses-mapping h d handle p found
