-- What the next action of a call rests on lets its seat make it, and what it then did.
use Rattle.std.proofs.Common.{◌≡◌, ◌≢◌, ◌⊎◌, ℕ, ◌+◌, ◌<◌, ◌==◌, ◌&&◌, not, Bool, true, false, cond, refl, sym, ap}
use Rattle.std.proofs.Common.{◌∙◌, subst, List, [], ◌∷◌, length, zero, suc, Some, None, inl, inr, arith, nat_lt}
use Rattle.std.proofs.Common.{nat_le}
use Rattle.std.specs.Prelude.{unwrap_or, ◌^◌}
use Rattle.std.specs.List.{position_or_len}
use Rattle.std.proofs.lemmas.Bool.{eq-eqb, lt-ltb, ltb-false, not-false}
use Rattle.gt_types.specs.declared.limits.TheConstants.{TABLE_ENTRIES}
use Rattle.gt_types.specs.declared.DomId.{DomId}
use Rattle.gt_types.specs.declared.GrantRef.{GrantRef}
use Rattle.gt_types.specs.declared.Dir.{Dir}
use Rattle.gt_types.specs.declared.Dir.TheVariants.{Write}
use Rattle.gt_types.specs.declared.Use.TheVariants as uses
use Rattle.gt_types.specs.Names.{domain_of, resolved}
use Rattle.gt_model.specs.declared.entry.Entry.{Entry}
use Rattle.gt_model.specs.declared.entry.Entry.TheVariants.{Invalid, Page, Sub, Via}
use Rattle.gt_model.specs.declared.control.EntryKind.{EntryKind}
use Rattle.gt_model.specs.declared.control.EntryKind.TheVariants as kinds
use Rattle.gt_model.specs.Entries.{is_read_only, raise_of, frame_of, is_invalid}
use Rattle.gt_model.specs.Permits.{permits}
use Rattle.gt_model.specs.Spelling.{IsSpelled, idle_word_of, first_body, second_body}
use Rattle.gt_model.specs.Words.{control_of, kind_of, size_of}
use Rattle.gt_words.specs.Conditions.{CanTurn, HasDomain, Holds, IsIdleOf, IsWordOf}
use Rattle.gt_words.specs.Answers.{Changes, Pins}
use Rattle.gt_word_history.specs.Controls.{generation_of, pins_in}
use Rattle.gt_word_history.specs.Rule.{IsKeptHeader, Layout, id_at, position_in}
use Rattle.gt_word_history.specs.Views.{HasBody, is_pin, pins_like, IsAmong, LivePin, Seen as Looks, last_of}
use Rattle.gt_word_history.specs.Views.{last_seen, own_body, live_pins, record_seen, seen, seen_or_none, steps_on}
use Rattle.gt_model.specs.declared.change.BodyWord.TheVariants as body_words
use Rattle.gt_word_history.specs.declared.view.EntryRecord.{EntryRecord}
use Rattle.gt_word_history.specs.History.{Moment}
use Rattle.gt_word_history.specs.declared.view.View.{View}
use Rattle.gt_model.specs.declared.handle.Handle.{Handle}
use Rattle.gt_model.specs.declared.action.Action.TheVariants as actions
use Rattle.gt_model.specs.declared.change.EntryChange.{EntryChange}
use Rattle.gt_model.specs.declared.change.EntryChange.TheVariants.{Publish}
use Rattle.gt_model.specs.declared.change.EntryChange.TheVariants as changes
use Rattle.gt_model.specs.declared.action.Observation.{Observation}
use Rattle.gt_model.specs.declared.action.Observation.TheVariants.{Nothing, Word, Taken, Missed}
use Rattle.gt_model.specs.declared.action.Step.{Step}
use Rattle.gt_model.specs.declared.action.Step.TheVariants.{LookHeader, LookControl, LookBody, Pin, Unpin, StoreBody}
use Rattle.gt_model.specs.declared.action.Step.TheVariants.{StoreHeader, Exchange}
use Rattle.gt_model.specs.declared.action.Step.TheVariants as call_steps
use Rattle.gt_model.specs.declared.request.OpenRequest.{OpenRequest}
use Rattle.gt_model.specs.declared.request.OpenRequest.TheVariants as asks
use Rattle.gt_calls.specs.declared.copying.PinPurpose.{PinPurpose}
use Rattle.gt_calls.specs.declared.copying.PinPurpose.TheVariants.{Mapping, Source, Dest}
use Rattle.gt_model.specs.declared.held.HeldPin.{HeldPin}
use Rattle.gt_model.specs.declared.held.CallPins.{CallPins}
use Rattle.gt_model.specs.declared.leg.Leg.{Leg}
use Rattle.gt_model.specs.declared.request.PinHolder.TheVariants as holders
use Rattle.gt_model.specs.Holding.{last_first}
use Rattle.gt_model.specs.Path.{Continuation, idle_word, is_stopped, path}
use Rattle.gt_types.specs.declared.copies.CopyArgs.{CopyArgs}
use Rattle.gt_calls.specs.Resting.{HasSeenTable, HasStored, IsLegFor, IsMapped, IsOfMap, IsOfRun}
use Rattle.gt_calls.specs.Resting.{LookedLast, IsCopyOf, Rests, RestsOnGrant, RestsOnTry}
use Rattle.gt_model.specs.Rules.{IsAllowed, CallerKnowledge, begun, frame_count_of, is_kind, label_of, map_dir}
use Rattle.gt_model.specs.Rules.{map_perms, triples}
use Rattle.gt_calls.specs.Opening.{OpensGrant, OpensTurn, opens}
use Rattle.gt_model.specs.declared.change.BodyWord.{BodyWord}
use Rattle.gt_live.specs.Driving.{CanMake, ChangesBy, IsSame, Knows, Leaves, MapsBy}
use Rattle.gt_live.specs.Effects.{effect_of}
use Rattle.gt_live.specs.Ending.{IsHeaderChange, IsMap, IsOwnChange, WaitsForNobody}
use Rattle.gt_live.specs.Mappings.{HasPin, entry_record_of}
use Rattle.gt_live.specs.Walks.{IsWalk, Made, view_after, all_shown}
use Rattle.gt_live.proofs.Making.{look-same, same-then}
use Rattle.gt_live.proofs.Rules.{idle-is, is-there, lets-page, page-seen, page-spelled, room-for}
use Rattle.gt_live.proofs.Counting.{count-cons, dir-self}
use Rattle.gt_live.proofs.Walking.{after-position, few-entries, in-seen-table, made-last, read-page}

-- a domain at a place of the run is found there or before
found-by : (ids : List DomId) (p : ℕ) → p < length ids → position_or_len (λ (x : DomId). x.0 == (id_at ids p).0) ids < length ids
found-by [] p lt = absurd (omega arith)
found-by (d ∷ ids) zero lt = by (d.0 == d.0) (eq-eqb d.0 d.0 refl)
  where
    by : (b : Bool) → b ≡ true → cond (not b) (1 + position_or_len (λ (x : DomId). x.0 == d.0) ids) 0 < suc (length ids)
    by true e = omega arith
    by false e = cc
found-by (d ∷ ids) (suc p) lt = by (found-by ids p (omega arith)) (d.0 == (id_at ids p).0)
  where
    by : position_or_len (λ (x : DomId). x.0 == (id_at ids p).0) ids < length ids → (b : Bool) → cond (not b) (1 + position_or_len (λ (x : DomId). x.0 == (id_at ids p).0) ids) 0 < suc (length ids)
    by rest true = omega arith
    by rest false = let more = rest in omega (arith, more)

unwrapped : (n at : ℕ) → at < n → unwrap_or (cond (nat_lt at n) (Some at) None) n < n
unwrapped n at lt = by (nat_lt at n) (lt-ltb at n lt)
  where
    by : (b : Bool) → b ≡ true → unwrap_or (cond b (Some at) None) n < n
    by true e = lt
    by false e = cc

pub own-of-run : (k : Layout) (v : View) (caller d : DomId) → id_at k.ids v.position ≡ caller → v.position < length k.ids → d ≡ caller → HasDomain k d
own-of-run k v caller d named inside same = subst (λ (x : DomId). HasDomain k x) (named ∙ sym same) (unwrapped _ _ (found-by k.ids v.position inside))

which-invalid : (e : Entry) → is_invalid e ≡ true → e ≡ Invalid
which-invalid Invalid e = refl
which-invalid (Page d ro frame) e = cc
which-invalid (Sub d ro frame off len) e = cc
which-invalid (Via d ro dom2 gref) e = cc

valid-entry : (e : Entry) → is_invalid e ≡ false → e ≢ Invalid
valid-entry e f is = let yes = ap is_invalid is in cc

-- a pin that there is counts
pub in-counted : (d : Dir) (x : EntryRecord) (ps : List LivePin) → IsAmong (d, x) ps → 0 < pins_like d x.generation ps
in-counted d x [] there = absurd there
in-counted d x (p ∷ ps) (inl e) =
    let one = count-cons (is_pin d x.generation) p ps in
    let here : is_pin d x.generation p ≡ true = ap (λ (q : LivePin). is_pin d x.generation q) (sym e) ∙ (ap (λ (b : Bool). b && (x.generation == x.generation)) (dir-self d) ∙ eq-eqb x.generation x.generation refl) in
    let w : ◌≡◌ {A = ℕ} (cond (is_pin d x.generation p) 1 0) 1 = ap {B = ℕ} (λ (b : Bool). cond b 1 0) here in omega (arith, one, w)
in-counted d x (p ∷ ps) (inr there) = let more = in-counted d x ps there in let one = count-cons (is_pin d x.generation) p ps in omega (arith, more, one)

-- the facts of a pin that a map tries
pub record Tried (c : CallerKnowledge) (k : Layout) (caller : DomId) (request : OpenRequest) (p : HeldPin) (w : View) : Type 0 where
  pub dom : DomId
  pub gref : GrantRef
  pub flags : ℕ
  pub asked : request ≡ asks.Map dom gref flags
  pub owner : p.dom ≡ resolved caller dom
  pub dir : p.dir ≡ map_dir flags
  pub run : HasDomain k p.dom
  pub inside : p.gref.0 < TABLE_ENTRIES
  pub saw : seen (steps_on (position_in k.ids p.dom) p.gref.0 w) ≡ Some (last_seen (position_in k.ids p.dom) p.gref.0 w)
  pub word : (last_seen (position_in k.ids p.dom) p.gref.0 w).word ≡ p.word
  pub body : HasBody (last_seen (position_in k.ids p.dom) p.gref.0 w)
  pub page : kind_of p.word ≡ kinds.Page
  pub spelled : record_seen (last_seen (position_in k.ids p.dom) p.gref.0 w) ≡ entry_record_of p
  pub few : pins_in p.dir p.word < 4095
  pub permitted : permits p.entry caller p.dir uses.Map 0 0 ≡ true
  pub in_frames : nat_le (frame_count_of c.domains p.dom) (frame_of p.entry) ≡ false

-- neither a copy nor a probe waits for nobody
no-copy : (request : OpenRequest) (copy : CopyArgs) → IsCopyOf request copy → WaitsForNobody request → ⊥
no-copy request copy (inl is) waits = subst (λ (x : OpenRequest). WaitsForNobody x) is waits
no-copy request copy (inr is) waits = subst (λ (x : OpenRequest). WaitsForNobody x) is waits

module _ (c : CallerKnowledge) (k : Layout) (caller : DomId) (v : View) (knows : Knows c k caller v) where
  pub named-run : (d : DomId) → IsOfRun c d → HasDomain k d
  named-run d is = let there = is-there (domain_of c.domains d) is in knows.run d there.0 there.1

  pub in-own : (q : ℕ) → q < size_of c.header → q < TABLE_ENTRIES
  in-own q lt = let fe = few-entries (c.header.version == 2) c.header.frames knows.header.few in omega (arith, fe, lt)

  row : (w : View) → IsSame v w → (q : ℕ) → q < TABLE_ENTRIES → last_of q w ≡ record { generation = c.generation q; entry = c.entry q }
  row w same q lt = same.records q ∙ knows.rows q lt

  tried : (request : OpenRequest) (held : CallPins) (steps : List Moment) (way : Continuation) (p : HeldPin) → WaitsForNobody request → IsWalk k way v steps → RestsOnTry c caller request held way (all_shown steps) p → Tried c k caller request p (view_after steps v)
  tried request held steps way p waits walk r = by r.pin_purpose r.purposed
    where
      of-map : IsOfMap c caller request r.leg → Tried c k caller request p (view_after steps v)
      of-map m =
          let l = r.leg in let w = view_after steps v in let at = position_in k.ids p.dom in
          let purpose : l.purpose ≡ uses.Map = ap (λ (x : Leg). x.purpose) m.leg_is in
          let page = page-seen l p.word purpose r.first in
          let nosub : is_kind (control_of p.word).kind kinds.Sub ≡ false = ap (λ (x : EntryKind). is_kind x kinds.Sub) page in
          let saw = read-page k way v steps p.dom p.gref p.word r.body r.second walk r.read nosub in
          let s : Looks = record { word = p.word; first = Some r.body; second = None } in
          let last : last_seen at p.gref.0 w ≡ s = ap seen_or_none saw in
          let spelt : p.entry ≡ Page (control_of p.word).dom (control_of p.word).ro r.body = ap (λ (x : HeldPin). x.entry) r.pin_is ∙ page-spelled p.word r.body r.second page in
          let lets = lets-page l p.entry (control_of p.word).dom (control_of p.word).ro r.body spelt purpose (ap (λ (x : Leg). x.off) m.leg_is) (ap (λ (x : Leg). x.len) m.leg_is) r.lets in
          let dirs : p.dir ≡ l.dir = ap (λ (x : HeldPin). x.dir) r.pin_is in
          let judge : l.grantee ≡ caller = ap (λ (x : Leg). x.grantee) m.leg_is in
          let owner : p.dom ≡ resolved caller m.dom = ap (λ (x : HeldPin). x.dom) r.pin_is ∙ ap (λ (x : Leg). x.dom) m.leg_is in
          record {
            dom = m.dom;
            gref = m.gref;
            flags = m.flags;
            asked = m.of_map;
            owner = owner;
            dir = dirs ∙ ap (λ (x : Leg). x.dir) m.leg_is;
            run = named-run p.dom r.of_run;
            inside = in-seen-table k way v steps p.dom p.gref walk r.in_table;
            saw = saw ∙ ap (λ (x : Looks). Some x) (sym last);
            word = ap (λ (x : Looks). x.word) last;
            body = subst (λ (x : Looks). HasBody x) (sym last) (refl, λ sub. let k1 = page in absurd (cc));
            page = page;
            spelled = ap record_seen last ∙ ap (λ (e : Entry). record { generation = generation_of p.word; entry = e }) (page-spelled p.word r.body 0 page ∙ sym spelt);
            few = subst (λ (d : Dir). pins_in d p.word < 4095) (sym dirs) (room-for l p.word p.entry r.last);
            permitted = ap (λ (d : Dir). permits p.entry caller d uses.Map 0 0) dirs ∙ (ap (λ (j : DomId). permits p.entry j l.dir uses.Map 0 0) (sym judge) ∙ lets.0);
            in_frames = ap (λ (d : DomId). nat_le (frame_count_of c.domains d) (frame_of p.entry)) owner ∙ (ap (λ (n : ℕ). nat_le n (frame_of p.entry)) (sym (ap (λ (x : Leg). x.frames) m.leg_is)) ∙ lets.1);
          }

      by : (pin_purpose : PinPurpose) → IsLegFor c caller request pin_purpose r.leg → Tried c k caller request p (view_after steps v)
      by Mapping is = of-map is
      by (Source copy via) is = absurd (no-copy request copy is.0 waits)
      by (Dest copy source via) is = absurd (no-copy request copy is.0 waits)

  -- the pin that a mapping has is held still
  still-held : (w : View) (p : HeldPin) → IsSame v w → HasPin k v p → Holds (position_in k.ids p.dom) p.gref.0 p.dir (generation_of p.word) w
  still-held w p same pin =
      let t = position_in k.ids p.dom in let r = p.gref.0 in
      in-counted p.dir (entry_record_of p) (live_pins (steps_on t r w)) (subst (λ (ps : List LivePin). IsAmong (p.dir, entry_record_of p) ps) (sym (same.pins t r)) pin.held)

  grant-opens : (request : OpenRequest) (q : GrantRef) (e : Entry) → begun c caller request ≡ None → request ≡ asks.Grant q e → OpensGrant c q e
  grant-opens request q e none is = opens c caller (asks.Grant q e) (subst (λ (x : OpenRequest). begun c caller x ≡ None) is none)

  can-store : (request : OpenRequest) (q : GrantRef) (body_word : BodyWord) (word : ℕ) (w : View) → IsSame v w → begun c caller request ≡ None → RestsOnGrant request q body_word word → (q.0 < TABLE_ENTRIES) × ((last_of q.0 w).entry ≡ Invalid)
  can-store request q body_word word w same none r = by body_word r
    where
      here : (e : Entry) → request ≡ asks.Grant q e → (q.0 < TABLE_ENTRIES) × ((last_of q.0 w).entry ≡ Invalid)
      here e is =
          let o = grant-opens request q e none is in let lt = in-own q.0 o.in_table in
          (lt, ap (λ (x : EntryRecord). x.entry) (row w same q.0 lt) ∙ which-invalid (c.entry q.0) o.free)

      by : (h : BodyWord) → RestsOnGrant request q h word → (q.0 < TABLE_ENTRIES) × ((last_of q.0 w).entry ≡ Invalid)
      by body_words.First x = here x.0 x.1
      by body_words.Second x = here x.0 x.1

  -- the body words stored spell the entry
  stored : (steps : List Moment) (way : Continuation) (q : GrantRef) (e : Entry) → e ≢ Invalid → IsWalk k way v steps → HasStored way q e (all_shown steps) → IsSpelled e (own_body q.0 body_words.First (view_after steps v)) (own_body q.0 body_words.Second (view_after steps v))
  stored steps way q Invalid ne walk r = absurd (ne refl)
  stored steps way q (Page dom ro frame) ne walk r = (made-last k way v steps [] Nothing (StoreBody q body_words.First (first_body (Page dom ro frame))) walk r.0 r.1).made.stored
  stored steps way q (Via dom ro dom2 gref) ne walk r = (made-last k way v steps [] Nothing (StoreBody q body_words.First (first_body (Via dom ro dom2 gref))) walk r.0 r.1).made.stored
  stored steps way q (Sub dom ro frame off len) ne walk r =
      let e = Sub dom ro frame off len in
      let two = made-last k way v steps (Nothing ∷ []) Nothing (StoreBody q body_words.Second (second_body e)) walk r.0 r.2 in
      let one = made-last k way v two.rest [] Nothing (StoreBody q body_words.First (first_body e)) two.walked two.shown_is r.1 in
      let first : own_body q.0 body_words.First (view_after steps v) ≡ own_body q.0 body_words.First (view_after two.rest v) = two.made.other_body_word body_words.First (λ z. cc) in
      (first ∙ one.made.stored, two.made.stored)

  -- an owner's exchange that is tried once
  once : (w : View) → IsSame v w → (q : GrantRef) → q.0 < TABLE_ENTRIES → IsIdleOf (last_of q.0 w) (idle_word c q)
  once w same q lt = idle-is (c.entry q.0) (c.generation q.0) ∙ ap (λ (y : EntryRecord). idle_word_of y.entry y.generation) (sym (row w same q.0 lt))

  can-publish : (request : OpenRequest) (steps : List Moment) (way : Continuation) (q : GrantRef) (looked : ℕ) (e : Entry) → IsWalk k way v steps → IsSame v (view_after steps v) → begun c caller request ≡ None
      → (request ≡ asks.Grant q e) × (looked ≡ idle_word c q) × HasStored way q e (all_shown steps) → CanMake k (view_after steps v) (Exchange q looked (Publish e))
  can-publish request steps way q looked e walk same none r =
      let w = view_after steps v in
      let o = grant-opens request q e none r.0 in let lt = in-own q.0 o.in_table in let here = row w same q.0 lt in
      let few = knows.generations q.0 lt in let worn = o.not_worn in (
        lt,
        record {
          idle = r.1 ∙ once w same q lt;
          none_yet = ap (λ (x : EntryRecord). x.entry) here ∙ which-invalid (c.entry q.0) o.free;
          room = subst (λ (x : EntryRecord). x.generation < 1048575) (sym here) (omega (arith, few, worn));
          some = valid-entry e o.valid;
          spelled = stored steps way q e (valid-entry e o.valid) walk r.2;
        },
      )

  -- an entry of the caller's own that is valid
  own-valid : (w : View) (q : GrantRef) → IsSame v w → q.0 < TABLE_ENTRIES → is_invalid (c.entry q.0) ≡ false → (last_of q.0 w).entry ≢ Invalid
  own-valid w q same lt valid gone = valid-entry (c.entry q.0) valid (ap (λ (x : EntryRecord). x.entry) (sym (row w same q.0 lt)) ∙ gone)

  can-revoke : (request : OpenRequest) (w : View) (q : GrantRef) (looked : ℕ) → IsSame v w → begun c caller request ≡ None → (request ≡ asks.Revoke q) × (looked ≡ idle_word c q) → CanMake k w (Exchange q looked changes.Revoke)
  can-revoke request w q looked same none r =
      let o = opens c caller (asks.Revoke q) (subst (λ (x : OpenRequest). begun c caller x ≡ None) r.0 none) in let lt = in-own q.0 o.in_table in
      (lt, record { idle = r.1 ∙ once w same q lt; some = own-valid w q same lt o.valid })

  -- the word of the caller's own entry that it looked at last
  own-look : (steps : List Moment) (way : Continuation) (q : GrantRef) (word : ℕ) → IsWalk k way v steps → LookedLast way caller q word [] (all_shown steps) → IsWordOf (last_of q.0 (view_after steps v)) word
  own-look steps way q word walk r = let m = made-last k way v steps r.before (Word word) (LookControl caller q) walk r.shown_is r.looked in
      m.made.1 (sym knows.named ∙ ap (λ (i : ℕ). id_at k.ids i) (sym (after-position m.rest v)))

  can-withdraw : (request : OpenRequest) (steps : List Moment) (way : Continuation) (q : GrantRef) (looked : ℕ) → IsWalk k way v steps → IsSame v (view_after steps v) → begun c caller request ≡ None
      → (request ≡ asks.Withdraw q) × LookedLast way caller q looked [] (all_shown steps) × (is_stopped changes.Withdraw (control_of looked) ≡ false) → CanMake k (view_after steps v) (Exchange q looked changes.Withdraw)
  can-withdraw request steps way q looked walk same none r =
      let o = opens c caller (asks.Withdraw q) (subst (λ (x : OpenRequest). begun c caller x ≡ None) r.0 none) in let lt = in-own q.0 o.in_table in
      (lt, record { word_is = own-look steps way q looked walk r.1; some = own-valid (view_after steps v) q same lt o.valid })

  can-turn : (ro : Bool) (change : EntryChange) (steps : List Moment) (way : Continuation) (q : GrantRef) (looked : ℕ) → IsWalk k way v steps → IsSame v (view_after steps v) → OpensTurn c change q → is_read_only (c.entry q.0) ≡ ro
      → LookedLast way caller q looked [] (all_shown steps) → (q.0 < TABLE_ENTRIES) × CanTurn ro q.0 looked (view_after steps v)
  can-turn ro change steps way q looked walk same o now r =
      let w = view_after steps v in let lt = in-own q.0 o.in_table in let here = row w same q.0 lt in
      let few = knows.generations q.0 lt in let worn = o.not_worn in (
        lt,
        record {
          word_is = own-look steps way q looked walk r;
          some = own-valid w q same lt o.valid;
          now = ap (λ (x : EntryRecord). is_read_only x.entry) here ∙ now;
          room = subst (λ (x : EntryRecord). x.generation < 1048575) (sym here) (omega (arith, few, worn));
        },
      )

  can-demote : (request : OpenRequest) (steps : List Moment) (way : Continuation) (q : GrantRef) (looked : ℕ) → IsWalk k way v steps → IsSame v (view_after steps v) → begun c caller request ≡ None
      → (request ≡ asks.Demote q) × LookedLast way caller q looked [] (all_shown steps) × (is_stopped changes.Demote (control_of looked) ≡ false) → CanMake k (view_after steps v) (Exchange q looked changes.Demote)
  can-demote request steps way q looked walk same none r =
      let o = opens c caller (asks.Demote q) (subst (λ (x : OpenRequest). begun c caller x ≡ None) r.0 none) in
      let turn = can-turn false changes.Demote steps way q looked walk same o o.not_already r.1 in
      let none_left = ltb-false 0 (pins_in Write looked) r.2 in
      (turn.0, (turn.1, omega (arith, none_left)))

  can-promote : (request : OpenRequest) (steps : List Moment) (way : Continuation) (q : GrantRef) (looked : ℕ) → IsWalk k way v steps → IsSame v (view_after steps v) → begun c caller request ≡ None
      → (request ≡ asks.Promote q) × LookedLast way caller q looked [] (all_shown steps) × (is_stopped changes.Promote (control_of looked) ≡ false) → CanMake k (view_after steps v) (Exchange q looked changes.Promote)
  can-promote request steps way q looked walk same none r =
      let o = opens c caller (asks.Promote q) (subst (λ (x : OpenRequest). begun c caller x ≡ None) r.0 none) in
      can-turn true changes.Promote steps way q looked walk same o (not-false _ o.not_already) r.1

  can-header : (request : OpenRequest) (version frames : ℕ) → begun c caller request ≡ None → ((request ≡ asks.SetVersion version) × (frames ≡ c.header.frames)) ⊎ ((request ≡ asks.SetupTable frames) × (version ≡ c.header.version))
      → IsKeptHeader (record { version = version; frames = frames })
  can-header request version frames none (inl r) =
      let o = opens c caller (asks.SetVersion version) (subst (λ (x : OpenRequest). begun c caller x ≡ None) r.0 none) in
      let same = r.1 in let some = knows.header.some in let few = knows.header.few in record { version = o.version_known; some = omega (arith, same, some); few = omega (arith, same, few) }
  can-header request version frames none (inr r) =
      let o = opens c caller (asks.SetupTable frames) (subst (λ (x : OpenRequest). begun c caller x ≡ None) r.0 none) in
      let larger = o.larger in let within = o.within in
      record { version = subst (λ (n : ℕ). (n ≡ 1) ⊎ (n ≡ 2)) (sym r.1) knows.header.version; some = omega (arith, larger); few = omega (arith, within) }

  -- the step that comes next can be made
  pub can-make : (request : OpenRequest) (held : CallPins) (steps : List Moment) (s : Step) → WaitsForNobody request → IsWalk k (path c caller request) v steps → IsSame v (view_after steps v) → last_first held ≡ []
      → Rests c caller request held (all_shown steps) (actions.Step s) → CanMake k (view_after steps v) s
  can-make request held steps (LookHeader d) waits walk same free r = named-run d r.1
  can-make request held steps (LookControl d q) waits walk same free r = by r.1
    where
      by : (IsOfRun c d × HasSeenTable (path c caller request) d q (all_shown steps)) ⊎ ((d ≡ caller) × (q.0 < size_of c.header)) → HasDomain k d × (q.0 < TABLE_ENTRIES)
      by (inl x) = (named-run d x.0, in-seen-table k (path c caller request) v steps d q walk x.1)
      by (inr x) = (own-of-run k v caller d knows.named knows.inside x.0, in-own q.0 x.1)
  can-make request held steps (LookBody d q body_word) waits walk same free r = (named-run d r.1.0, in-seen-table k (path c caller request) v steps d q walk r.1.1)
  can-make request held steps (Pin p) waits walk same free r =
      let t = tried request held steps (path c caller request) p waits walk r.1 in (
        t.run,
        t.inside,
        record {
          looked = (t.saw, t.word, t.body);
          valid = λ gone. let k1 = t.page in absurd (cc);
          room = t.few;
          permitted = inl (
            uses.Map,
            0,
            0,
            ap (λ (x : EntryRecord). permits x.entry (id_at k.ids (view_after steps v).position) p.dir uses.Map 0 0) t.spelled
                ∙ (ap (λ (i : ℕ). permits p.entry (id_at k.ids i) p.dir uses.Map 0 0) (after-position steps v) ∙ (ap (λ (d : DomId). permits p.entry d p.dir uses.Map 0 0) knows.named ∙ t.permitted)),
          );
        },
      )
  can-make request held steps (Unpin p (holders.Mapping handle)) waits walk same free r =
      let pin = knows.mapped handle p r.1.1 in (pin.run, pin.inside, still-held (view_after steps v) p same pin)
  can-make request held steps (Unpin p (holders.Leg place)) waits walk same free r = let some = r.1.held in absurd (cc)
  can-make request held steps (StoreBody q body_word word) waits walk same free r = can-store request q body_word word (view_after steps v) same r.0 r.1
  can-make request held steps (StoreHeader version frames) waits walk same free r = can-header request version frames r.0 r.1
  can-make request held steps (Exchange q looked (Publish e)) waits walk same free r = can-publish request steps (path c caller request) q looked e walk same r.0 r.1
  can-make request held steps (Exchange q looked changes.Revoke) waits walk same free r = can-revoke request (view_after steps v) q looked same r.0 r.1
  can-make request held steps (Exchange q looked changes.Withdraw) waits walk same free r = can-withdraw request steps (path c caller request) q looked walk same r.0 r.1
  can-make request held steps (Exchange q looked changes.Demote) waits walk same free r = can-demote request steps (path c caller request) q looked walk same r.0 r.1
  can-make request held steps (Exchange q looked changes.Promote) waits walk same free r = can-promote request steps (path c caller request) q looked walk same r.0 r.1
  can-make request held steps (call_steps.Read d frame off len) waits walk same free r = by r.1
    where
      by : ((handle : Handle) × (request ≡ asks.Load handle off len) × IsMapped c handle d frame) ⊎ ((request ≡ asks.Peek frame off len) × (d ≡ caller)) → ⊥
      by (inl x) = absurd (subst (λ (y : OpenRequest). WaitsForNobody y) x.1 waits)
      by (inr x) = absurd (subst (λ (y : OpenRequest). WaitsForNobody y) x.0 waits)
  can-make request held steps (call_steps.Write d frame off len) waits walk same free r = by r.1
    where
      by : ((handle : Handle) × (request ≡ asks.Store handle off len) × IsMapped c handle d frame) ⊎ ((request ≡ asks.Poke frame off len) × (d ≡ caller)) → ⊥
      by (inl x) = absurd (subst (λ (y : OpenRequest). WaitsForNobody y) x.1 waits)
      by (inr x) = absurd (subst (λ (y : OpenRequest). WaitsForNobody y) x.0 waits)
  can-make request held steps (call_steps.Copy from to len) waits walk same free r = absurd (subst (λ (y : OpenRequest). WaitsForNobody y) r.1.of_copy waits)

  -- what a step that was made left

  map-allowed : (request : OpenRequest) (p : HeldPin) (w : View) → begun c caller request ≡ None → Tried c k caller request p w → IsAllowed c.may (triples (label_of c.domains caller) (label_of c.domains p.dom) (map_perms p.dir)) × (c.maps_answered + 1 < 2 ^ 64)
  map-allowed request p w none t =
      let o = opens c caller (asks.Map t.dom t.gref t.flags) (subst (λ (x : OpenRequest). begun c caller x ≡ None) t.asked none) in
      let left = o.serials_left in (
        subst (λ (d : Dir). IsAllowed c.may (triples (label_of c.domains caller) (label_of c.domains p.dom) (map_perms d))) (sym t.dir)
            (subst (λ (d : DomId). IsAllowed c.may (triples (label_of c.domains caller) (label_of c.domains d) (map_perms (map_dir t.flags)))) (sym t.owner) o.allowed),
        omega (arith, left),
      )

  pub left-pinned : (request : OpenRequest) (held : CallPins) (steps : List Moment) (p : HeldPin) (w' : View) → WaitsForNobody request → IsWalk k (path c caller request) v steps → IsSame v (view_after steps v)
      → Rests c caller request held (all_shown steps) (actions.Step (Pin p)) → Pins k (position_in k.ids p.dom) p.gref.0 p.dir p.word (view_after steps v) w' → MapsBy c k caller request p v w'
  left-pinned request held steps p w' waits walk same r m =
      let w = view_after steps v in let at = position_in k.ids p.dom in
      let t = tried request held steps (path c caller request) p waits walk r.1 in
      let may = map-allowed request p w r.0 t in
      record {
        asked = subst (λ (x : OpenRequest). IsMap x) (sym t.asked) tt;
        before = w;
        same = same;
        pins = m;
        entry_is = t.spelled;
        mapping = record {
          pin = record { run = t.run; inside = t.inside; held = subst (λ (x : EntryRecord). IsAmong (p.dir, x) (live_pins (steps_on at p.gref.0 w'))) t.spelled m.pin };
          permitted = t.permitted;
          in_frames = t.in_frames;
          allowed = may.0;
        };
        serial = may.1;
      }

  left-changed : (q : GrantRef) (change : EntryChange) (w w' : View) → q.0 < TABLE_ENTRIES → c.generation q.0 + raise_of change < 1048576 → IsSame v w → (looked : ℕ) → Changes k q.0 change looked w w' → (request : OpenRequest) → IsOwnChange request → ChangesBy c k request q.0 change v w'
  left-changed q change w w' lt few same looked m request is = record { asked = is; before = w; same = same; inside = lt; word = looked; changes = m; fresh = few }

  -- what the owner's exchange was asked of
  own-change : (request : OpenRequest) (held : CallPins) (shown_so : List Observation) (q : GrantRef) (looked : ℕ) (change : EntryChange) → Rests c caller request held shown_so (actions.Step (Exchange q looked change)) → (q.0 < TABLE_ENTRIES) × (c.generation q.0 + raise_of change < 1048576) × IsOwnChange request
  own-change request held shown_so q looked (Publish e) r =
      let o = grant-opens request q e r.0 r.1.0 in let lt = in-own q.0 o.in_table in let few = knows.generations q.0 lt in let worn = o.not_worn in (lt, omega (arith, few, worn), subst (λ (x : OpenRequest). IsOwnChange x) (sym r.1.0) tt)
  own-change request held shown_so q looked changes.Revoke r =
      let o = opens c caller (asks.Revoke q) (subst (λ (x : OpenRequest). begun c caller x ≡ None) r.1.0 r.0) in let lt = in-own q.0 o.in_table in let few = knows.generations q.0 lt in (lt, omega (arith, few), subst (λ (x : OpenRequest). IsOwnChange x) (sym r.1.0) tt)
  own-change request held shown_so q looked changes.Withdraw r =
      let o = opens c caller (asks.Withdraw q) (subst (λ (x : OpenRequest). begun c caller x ≡ None) r.1.0 r.0) in let lt = in-own q.0 o.in_table in let few = knows.generations q.0 lt in (lt, omega (arith, few), subst (λ (x : OpenRequest). IsOwnChange x) (sym r.1.0) tt)
  own-change request held shown_so q looked changes.Demote r =
      let o = opens c caller (asks.Demote q) (subst (λ (x : OpenRequest). begun c caller x ≡ None) r.1.0 r.0) in let lt = in-own q.0 o.in_table in let few = knows.generations q.0 lt in let worn = o.not_worn in (lt, omega (arith, few, worn), subst (λ (x : OpenRequest). IsOwnChange x) (sym r.1.0) tt)
  own-change request held shown_so q looked changes.Promote r =
      let o = opens c caller (asks.Promote q) (subst (λ (x : OpenRequest). begun c caller x ≡ None) r.1.0 r.0) in let lt = in-own q.0 o.in_table in let few = knows.generations q.0 lt in let worn = o.not_worn in (lt, omega (arith, few, worn), subst (λ (x : OpenRequest). IsOwnChange x) (sym r.1.0) tt)

  header-asked : (request : OpenRequest) (version frames : ℕ) → ((request ≡ asks.SetVersion version) × (frames ≡ c.header.frames)) ⊎ ((request ≡ asks.SetupTable frames) × (version ≡ c.header.version)) → IsHeaderChange request
  header-asked request version frames (inl r) = subst (λ (x : OpenRequest). IsHeaderChange x) (sym r.0) tt
  header-asked request version frames (inr r) = subst (λ (x : OpenRequest). IsHeaderChange x) (sym r.0) tt

  -- a call left its seat by what its last step did
  pub leaves : (request : OpenRequest) (held : CallPins) (steps : List Moment) (s : Step) (x : Observation) (w' : View) → WaitsForNobody request → IsWalk k (path c caller request) v steps → IsSame v (view_after steps v) → last_first held ≡ []
      → Rests c caller request held (all_shown steps) (actions.Step s) → Made k s x (view_after steps v) w' → Leaves c k caller request v w' (effect_of s x)
  leaves request held steps (LookHeader d) (Word n) w' waits walk same free r m = same-then v (view_after steps v) w' same (look-same k (LookHeader d) (Word n) (view_after steps v) w' m tt)
  leaves request held steps (LookControl d q) (Word n) w' waits walk same free r m = same-then v (view_after steps v) w' same (look-same k (LookControl d q) (Word n) (view_after steps v) w' m tt)
  leaves request held steps (LookBody d q body_word) (Word n) w' waits walk same free r m = same-then v (view_after steps v) w' same (look-same k (LookBody d q body_word) (Word n) (view_after steps v) w' m tt)
  leaves request held steps (StoreBody q body_word n) Nothing w' waits walk same free r m = same-then v (view_after steps v) w' same (look-same k (StoreBody q body_word n) Nothing (view_after steps v) w' m tt)
  leaves request held steps (StoreHeader version frames) Nothing w' waits walk same free r m = (same-then v (view_after steps v) w' same (look-same k (StoreHeader version frames) Nothing (view_after steps v) w' m tt), header-asked request version frames r.1)
  leaves request held steps (Pin p) Taken w' waits walk same free r m = left-pinned request held steps p w' waits walk same r m
  leaves request held steps (Pin p) (Missed n) w' waits walk same free r m = same-then v (view_after steps v) w' same (look-same k (Pin p) (Missed n) (view_after steps v) w' m tt)
  leaves request held steps (Unpin p (holders.Mapping handle)) Nothing w' waits walk same free r m = record { asked = r.1.0; mapping = p; found = r.1.1; before = view_after steps v; same = same; unpins = m }
  leaves request held steps (Unpin p (holders.Leg place)) x w' waits walk same free r m = let some = r.1.held in absurd (cc)
  leaves request held steps (Exchange q looked (Publish e)) Taken w' waits walk same free r m = let o = own-change request held (all_shown steps) q looked (Publish e) r in left-changed q (Publish e) (view_after steps v) w' o.0 o.1 same looked m.changes request o.2
  leaves request held steps (Exchange q looked changes.Revoke) Taken w' waits walk same free r m = let o = own-change request held (all_shown steps) q looked changes.Revoke r in left-changed q changes.Revoke (view_after steps v) w' o.0 o.1 same looked m.changes request o.2
  leaves request held steps (Exchange q looked changes.Withdraw) Taken w' waits walk same free r m = let o = own-change request held (all_shown steps) q looked changes.Withdraw r in left-changed q changes.Withdraw (view_after steps v) w' o.0 o.1 same looked m request o.2
  leaves request held steps (Exchange q looked changes.Demote) Taken w' waits walk same free r m = let o = own-change request held (all_shown steps) q looked changes.Demote r in left-changed q changes.Demote (view_after steps v) w' o.0 o.1 same looked m.changes request o.2
  leaves request held steps (Exchange q looked changes.Promote) Taken w' waits walk same free r m = let o = own-change request held (all_shown steps) q looked changes.Promote r in left-changed q changes.Promote (view_after steps v) w' o.0 o.1 same looked m request o.2
  leaves request held steps (Exchange q looked (Publish e)) (Missed n) w' waits walk same free r m = same-then v (view_after steps v) w' same (look-same k (Exchange q looked (Publish e)) (Missed n) (view_after steps v) w' m tt)
  leaves request held steps (Exchange q looked changes.Withdraw) (Missed n) w' waits walk same free r m = same-then v (view_after steps v) w' same (look-same k (Exchange q looked changes.Withdraw) (Missed n) (view_after steps v) w' m tt)
  leaves request held steps (Exchange q looked changes.Revoke) (Missed n) w' waits walk same free r m = same-then v (view_after steps v) w' same (look-same k (Exchange q looked changes.Revoke) (Missed n) (view_after steps v) w' m tt)
  leaves request held steps (Exchange q looked changes.Demote) (Missed n) w' waits walk same free r m = same-then v (view_after steps v) w' same (look-same k (Exchange q looked changes.Demote) (Missed n) (view_after steps v) w' m tt)
  leaves request held steps (Exchange q looked changes.Promote) (Missed n) w' waits walk same free r m = same-then v (view_after steps v) w' same (look-same k (Exchange q looked changes.Promote) (Missed n) (view_after steps v) w' m tt)
  leaves request held steps _ _ w' waits walk same free r m = absurd m
