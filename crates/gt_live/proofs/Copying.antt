-- A copy on its way: its next step can be made, and where it stands after it.
use Rattle.std.proofs.Common.{◌≡◌, ◌⊎◌, ℕ, ◌-◌, ◌<◌, ◌==◌, Bool, true, false, cond, refl, sym, ap, ◌∙◌, subst, List}
use Rattle.std.proofs.Common.{[], ◌∷◌, ◌++◌, length, Option, Some, None, inl, inr, nat_lt, append_assoc}
use Rattle.std.specs.Prelude.{IsSome}
use Rattle.std.proofs.lemmas.Bool.{eqb-true}
use Rattle.gt_types.specs.declared.limits.TheConstants.{TABLE_ENTRIES}
use Rattle.gt_types.specs.declared.DomId.{DomId}
use Rattle.gt_types.specs.declared.GrantRef.{GrantRef}
use Rattle.gt_types.specs.declared.Dir.{Dir}
use Rattle.gt_types.specs.declared.Dir.TheVariants.{Read, Write}
use Rattle.gt_types.specs.declared.denial.Denial.{Denial}
use Rattle.gt_types.specs.declared.denial.Facts.{Facts}
use Rattle.gt_types.specs.declared.denial.Facts.TheVariants as facts
use Rattle.gt_types.specs.declared.denial.Rule.{Rule}
use Rattle.gt_types.specs.declared.denial.Rule.TheVariants.{N9, N10, N18}
use Rattle.gt_types.specs.Denial.{denial_of}
use Rattle.gt_types.specs.Names.{resolved}
use Rattle.gt_model.specs.declared.entry.Entry.{Entry}
use Rattle.gt_model.specs.declared.entry.Entry.TheVariants.{Invalid, Page, Sub, Via}
use Rattle.gt_model.specs.declared.control.Control.{Control}
use Rattle.gt_model.specs.declared.control.EntryKind.{EntryKind}
use Rattle.gt_model.specs.declared.control.EntryKind.TheVariants as kinds
use Rattle.gt_model.specs.declared.change.BodyWord.TheVariants as body_words
use Rattle.gt_model.specs.declared.change.EntryChange.TheVariants.{Publish}
use Rattle.gt_model.specs.declared.change.EntryChange.TheVariants as changes
use Rattle.gt_model.specs.Permits.{forwards, permits}
use Rattle.gt_model.specs.Spelling.{entry_of, entry_with}
use Rattle.gt_model.specs.Words.{control_of, header_of, is_kind, kind_of, size_of}
use Rattle.gt_words.specs.Conditions.{CanPin, HasDomain, MayPin}
use Rattle.gt_word_history.specs.Controls.{ForwardsPin, LeadsTo, PermitsPin, generation_of, pins_in}
use Rattle.gt_words.specs.Keeping.{SeesNoEarlier}
use Rattle.gt_words.specs.Laws.{domain_at}
use Rattle.gt_word_history.specs.Rule.{Layout, id_at, position_in}
use Rattle.gt_word_history.specs.Views.{HasBody, Seen as Looks, last_seen, record_seen, seen, seen_or_none, steps_on}
use Rattle.gt_word_history.specs.Views.{value_or_zero, with_body}
use Rattle.gt_word_history.specs.declared.view.EntryRecord.{EntryRecord}
use Rattle.gt_word_history.specs.History.{Moment}
use Rattle.gt_word_history.specs.declared.view.View.{View}
use Rattle.gt_model.specs.declared.action.Action.TheVariants as actions
use Rattle.gt_types.specs.declared.places.Spot.{Spot}
use Rattle.gt_model.specs.declared.action.Observation.{Observation}
use Rattle.gt_model.specs.declared.action.Observation.TheVariants.{Nothing, Word, Taken, Missed}
use Rattle.gt_model.specs.declared.action.Step.{Step}
use Rattle.gt_model.specs.declared.action.Step.TheVariants.{LookHeader, LookControl, LookBody, Pin, Unpin, StoreBody}
use Rattle.gt_model.specs.declared.action.Step.TheVariants.{StoreHeader, Exchange}
use Rattle.gt_model.specs.declared.action.Step.TheVariants as call_steps
use Rattle.gt_model.specs.declared.action.CallResult.{CallResult}
use Rattle.gt_model.specs.declared.action.CallResult.TheVariants.{Granted, Given, Mapped, Refused}
use Rattle.gt_calls.specs.declared.call.Phase.{Phase}
use Rattle.gt_calls.specs.declared.call.Phase.TheVariants.{Storing, StoringSecond, Exchanging, Looking, Changing}
use Rattle.gt_calls.specs.declared.call.Phase.TheVariants.{Walking, Accessing, Asking, Last, Ending}
use Rattle.gt_calls.specs.declared.copying.PinPurpose.{PinPurpose}
use Rattle.gt_calls.specs.declared.copying.PinPurpose.TheVariants.{Mapping, Source, Dest}
use Rattle.gt_model.specs.declared.held.HeldPin.{HeldPin}
use Rattle.gt_model.specs.declared.held.CallPins.{CallPins}
use Rattle.gt_model.specs.declared.held.AccessPath.{AccessPath}
use Rattle.gt_model.specs.declared.held.AccessPath.TheVariants.{Own, Direct, Through}
use Rattle.gt_model.specs.declared.leg.Leg.{Leg}
use Rattle.gt_calls.specs.declared.leg.LegNext.TheVariants.{Going}
use Rattle.gt_calls.specs.declared.leg.LegNext.TheVariants as leg_outcomes
use Rattle.gt_calls.specs.declared.leg.LegPhase.{LegPhase}
use Rattle.gt_calls.specs.declared.leg.LegPhase.TheVariants.{Header, Look, Body, Second, Pinning, Relook}
use Rattle.gt_model.specs.declared.request.OpenRequest.{OpenRequest}
use Rattle.gt_model.specs.declared.request.OpenRequest.TheVariants as asks
use Rattle.gt_types.specs.declared.copies.CopyArgs.{CopyArgs}
use Rattle.gt_types.specs.declared.copies.End.{End}
use Rattle.gt_model.specs.declared.request.PinHolder.TheVariants as holders
use Rattle.gt_model.specs.declared.handle.Handle.{Handle}
use Rattle.gt_model.specs.Holding.{held_by, last_first, without_last}
use Rattle.gt_calls.specs.Holding.{pins_so_far}
use Rattle.gt_calls.specs.Machine.{action_at, after_dest_pin, after_leg, after_pin_of, after_source_pin, at_dest}
use Rattle.gt_calls.specs.Machine.{next_to_give, phase_after, where_via}
use Rattle.gt_calls.specs.Legs.{on_control_word, after_miss, after_words, leg_after, leg_step}
use Rattle.gt_model.specs.Path.{Continuation, dest_pair, end_leg, entry_refusal, held_of, path, end_spot, rule_of_try}
use Rattle.gt_model.specs.Path.{second_leg, source_pair}
use Rattle.gt_calls.specs.Resting.{HasRead, HasSeenTable, IsLegFor, IsForwarded, IsMapped, IsOnFrom}
use Rattle.gt_calls.specs.Resting.{IsOfRun, Lets, Rests, RestsOnTry}
use Rattle.gt_model.specs.Asking.{GivesUp}
use Rattle.gt_model.specs.Rules.{CallerKnowledge, first_look, via_judged}
use Rattle.gt_types.specs.Copies.{is_dest_granted}
use Rattle.gt_live.specs.Driving.{CanMake, Knows}
use Rattle.gt_live.specs.Mappings.{HasPin, entry_record_of}
use Rattle.gt_live.specs.Underway.{AreOfRun, HasTaken, StandsInCopy, StandsWell}
use Rattle.gt_live.specs.Walks.{CarriesFound, IsWalk, Made, view_after, all_shown}
use Rattle.gt_live.proofs.Accessing.{wordless-found}
use Rattle.gt_live.proofs.Advancing.{carried-facts}
use Rattle.gt_live.proofs.ActionsAllowed.{in-own, named-run, own-of-run}
use Rattle.gt_live.proofs.Making.{IsLook, look-same, made-gains}
use Rattle.gt_live.proofs.AnsweredAtOnce.{via-refused}
use Rattle.gt_live.proofs.Rules.{none-stands, room-for}
use Rattle.gt_live.proofs.Taking.{has-pin, holds-taken, taken-look, taken-pin, taken-unpin}
use Rattle.gt_live.proofs.Walking.{after-position, in-seen-table, made-last, read-page}

-- what a seat saw of an entry whose words were read, the second body word of a sub-page alone
abbrev pub words_seen : ℕ → ℕ → ℕ → Looks
words_seen word body second = record { word = word; first = Some body; second = cond (is_kind (control_of word).kind kinds.Sub) (Some second) None }

read-words : (k : Layout) (way : Continuation) (v : View) (steps : List Moment) (dom : DomId) (gref : GrantRef) (word body second : ℕ) → IsWalk k way v steps → HasRead way dom gref word body second (all_shown steps)
    → seen (steps_on (position_in k.ids dom) gref.0 (view_after steps v)) ≡ Some (words_seen word body second)
read-words k way v steps dom gref word body second walk r = by (is_kind (control_of word).kind kinds.Sub) refl
  where
    by : (b : Bool) → is_kind (control_of word).kind kinds.Sub ≡ b → seen (steps_on (position_in k.ids dom) gref.0 (view_after steps v)) ≡ Some (record { word = word; first = Some body; second = cond b (Some second) None })
    by false e = read-page k way v steps dom gref word body second walk r e
    by true e =
        let three_shown : all_shown steps ≡ (r.before ++ Word word ∷ Word body ∷ []) ++ Word second ∷ [] =
        r.shown_is ∙ (ap (λ (b : Bool). r.before ++ Word word ∷ Word body ∷ cond b (Word second ∷ []) []) e ∙ sym (append_assoc r.before (Word word ∷ Word body ∷ []) (Word second ∷ []))) in
        let three = made-last k way v steps (r.before ++ Word word ∷ Word body ∷ []) (Word second) (LookBody dom gref body_words.Second) walk three_shown (r.second_read e) in
        let two_shown : all_shown three.rest ≡ (r.before ++ Word word ∷ []) ++ Word body ∷ [] = three.shown_is ∙ sym (append_assoc r.before (Word word ∷ []) (Word body ∷ [])) in
        let two = made-last k way v three.rest (r.before ++ Word word ∷ []) (Word body) (LookBody dom gref body_words.First) three.walked two_shown r.first_read in
        let one = made-last k way v two.rest r.before (Word word) (LookControl dom gref) two.walked two.shown_is r.looked in
        ap seen three.made.steps.adds.here
        ∙ ap (λ (o : Option Looks). with_body body_words.Second second o) (ap seen two.made.steps.adds.here ∙ ap (λ (o : Option Looks). with_body body_words.First body o) (ap seen one.made.0.steps.adds.here))

-- the second body word is of sub-pages alone
second-of-sub : (x : EntryKind) (w : Control) (a b : ℕ) → entry_with x w a (value_or_zero (cond (is_kind x kinds.Sub) (Some b) None)) ≡ entry_with x w a b
second-of-sub kinds.Invalid w a b = refl
second-of-sub kinds.Page w a b = refl
second-of-sub kinds.Sub w a b = refl
second-of-sub kinds.Via w a b = refl

-- what a first leg lets, permits or forwards
lets-first : (l : Leg) (e : Entry) (me : DomId) → l.grantee ≡ me → Lets l e → PermitsPin e me l.dir ⊎ ForwardsPin e me l.dir
lets-first l Invalid me is lets = absurd lets
lets-first l (Page dom ro frame) me is lets = inl (l.purpose, l.off, l.len, ap (λ (d : DomId). permits (Page dom ro frame) d l.dir l.purpose l.off l.len) (sym is) ∙ lets.0)
lets-first l (Sub dom ro frame off len) me is lets = inl (l.purpose, l.off, l.len, ap (λ (d : DomId). permits (Sub dom ro frame off len) d l.dir l.purpose l.off l.len) (sym is) ∙ lets.0)
lets-first l (Via dom ro dom2 gref) me is lets = inr (ap (λ (d : DomId). forwards (Via dom ro dom2 gref) d l.dir) (sym is) ∙ lets.0)

-- what a second leg lets, permits
lets-second : (l : Leg) (e : Entry) → l.beyond_via ≡ true → Lets l e → permits e l.grantee l.dir l.purpose l.off l.len ≡ true
lets-second l Invalid on lets = absurd lets
lets-second l (Page dom ro frame) on lets = lets.0
lets-second l (Sub dom ro frame off len) on lets = lets.0
lets-second l (Via dom ro dom2 gref) on lets = let no_via = lets.2 in cc

-- a second leg goes on from its Via
pub record GoesOnFrom (e : Entry) (first l : Leg) : Type 0 where
  pub leads : LeadsTo e l.dom l.gref.0
  pub judge : l.grantee ≡ first.dom
  pub beyond : l.beyond_via ≡ true
  pub dir : l.dir ≡ first.dir

on-from : (c : CallerKnowledge) (first l : Leg) (e : Entry) → IsOnFrom c first e l → GoesOnFrom e first l
on-from c first l Invalid is = absurd is
on-from c first l (Page dom ro frame) is = absurd is
on-from c first l (Sub dom ro frame off len) is = absurd is
on-from c first l (Via dom ro dom2 gref) is = record {
  leads = (ap (λ (x : Leg). x.dom.0) (sym is), ap (λ (x : Leg). x.gref.0) (sym is));
  judge = ap (λ (x : Leg). x.grantee) is;
  beyond = ap (λ (x : Leg). x.beyond_via) is;
  dir = ap (λ (x : Leg). x.dir) is;
}

-- the request is a copy
abbrev pub IsCopy : OpenRequest → Type 0
IsCopy (asks.Copy copy) = Unit {0}
IsCopy request = ⊥

-- the aim is an end of a copy
abbrev pub IsEnd : PinPurpose → Type 0
IsEnd Mapping = ⊥
IsEnd (Source copy via) = Unit {0}
IsEnd (Dest copy source via) = Unit {0}

an-end : (k : Layout) (v : View) (steps : List Moment) (pin_purpose : PinPurpose) (l : Leg) (at : LegPhase) → StandsInCopy k v steps (Walking pin_purpose l at) → IsEnd pin_purpose
an-end k v steps Mapping l at is = absurd is
an-end k v steps (Source copy via) l at is = tt
an-end k v steps (Dest copy source via) l at is = tt

abbrev tail_of : List HeldPin → List HeldPin
tail_of [] = []
tail_of (p ∷ ps) = ps

-- the pins but the last are those after the first of the list
fewer : (source dest : AccessPath) → last_first (without_last (record { source = source; dest = dest })) ≡ tail_of (last_first (record { source = source; dest = dest }))
fewer Own Own = refl
fewer (Direct p) Own = refl
fewer (Through via p) Own = refl
fewer source (Direct q) = refl
fewer source (Through w q) = refl

pub one-fewer : (pins : CallPins) (p : HeldPin) (ps : List HeldPin) → last_first pins ≡ p ∷ ps → last_first (without_last pins) ≡ ps
one-fewer pins p ps e = fewer pins.source pins.dest ∙ ap tail_of e

-- a word found is found still after one step more
still-found : (k : Layout) (v : View) (x : Moment) (steps : List Moment) (f : Facts) → CarriesFound k v steps f → CarriesFound k v (x ∷ steps) f
still-found k v x steps (facts.Entry dom gref word) is = record { step = is.step; taken = inr is.taken; found = is.found; not_earlier = is.not_earlier }
still-found k v x steps (facts.Header dom word) is = inr is
still-found k v x steps facts.None is = tt
still-found k v x steps (facts.Policy source target perm) is = tt
still-found k v x steps (facts.Field field) is = tt

module _ (c : CallerKnowledge) (k : Layout) (caller : DomId) (v : View) (knows : Knows c k caller v) where
  -- the entry that a leg pins permits or forwards the caller, or permits the owner of a Via that it has pinned
  by-first : (p : HeldPin) (l : Leg) (w : View) → id_at k.ids w.position ≡ caller → l.grantee ≡ caller → Lets l p.entry → MayPin k (position_in k.ids p.dom) p.gref.0 w l.dir (entry_record_of p)
  by-first p l w me judge lets = by (lets-first l p.entry (id_at k.ids w.position) (judge ∙ sym me) lets)
    where
      by : PermitsPin p.entry (id_at k.ids w.position) l.dir ⊎ ForwardsPin p.entry (id_at k.ids w.position) l.dir → MayPin k (position_in k.ids p.dom) p.gref.0 w l.dir (entry_record_of p)
      by (inl x) = inl x
      by (inr x) = inr (inl x)

  by-via : (p via : HeldPin) (l first : Leg) (end : End) (dir : Dir) (w : View) → id_at k.ids w.position ≡ caller → p.dom ≡ l.dom → p.gref ≡ l.gref → HasDomain k p.dom → HasPin k w via → first.dom ≡ resolved caller end.domid → first.dir ≡ dir
      → IsForwarded caller end dir via → IsOnFrom c first via.entry l → Lets l p.entry → MayPin k (position_in k.ids p.dom) p.gref.0 w l.dir (entry_record_of p)
  by-via p via l first end dir w me dom gref run pin first_dom first_dir forwarded is lets =
      let on = on-from c first l via.entry is in
      let dirs : l.dir ≡ dir = on.dir ∙ first_dir in
      let owner : id_at k.ids (position_in k.ids via.dom) ≡ l.grantee = domain_at k via.dom pin.run ∙ (forwarded.named ∙ sym (on.judge ∙ first_dom)) in
      let target : l.dom ≡ id_at k.ids (position_in k.ids p.dom) = sym dom ∙ sym (domain_at k p.dom run) in
      inr (inr (record {
        owner = position_in k.ids via.dom;
        reference = via.gref.0;
        via = (via.dir, entry_record_of via);
        held = pin.held;
        same_kind = forwarded.taken_for ∙ sym dirs;
        forwarded = ap (λ (d : DomId). forwards via.entry d l.dir) me ∙ (ap (λ (d : Dir). forwards via.entry caller d) dirs ∙ forwarded.forwarded);
        leads = subst (λ (d : DomId). LeadsTo via.entry d p.gref.0) target (subst (λ (q : GrantRef). LeadsTo via.entry l.dom q.0) (sym gref) on.leads);
        permits = (l.purpose, l.off, l.len, ap (λ (d : DomId). permits p.entry d l.dir l.purpose l.off l.len) owner ∙ lets-second l p.entry on.beyond lets);
      }))

  may-pin : (request : OpenRequest) → IsCopy request → (pin_purpose : PinPurpose) (l : Leg) (p : HeldPin) (w : View) → IsLegFor c caller request pin_purpose l → id_at k.ids w.position ≡ caller → p.dom ≡ l.dom → p.gref ≡ l.gref → HasDomain k p.dom
      → HasTaken k (last_first (pins_so_far pin_purpose)) v w → AreOfRun k (last_first (pins_so_far pin_purpose)) → Lets l p.entry → MayPin k (position_in k.ids p.dom) p.gref.0 w l.dir (entry_record_of p)
  may-pin request copies Mapping l p w is me dom gref run x all lets = absurd (subst (λ (y : OpenRequest). IsCopy y) is.of_map copies)
  may-pin request copies (Source copy None) l p w is me dom gref run x all lets = by-first p l w me (ap (λ (y : Leg). y.grantee) is.1.1) lets
  may-pin request copies (Source copy (Some via)) l p w is me dom gref run x all lets =
      by-via p via l (end_leg c caller copy.source Read copy.len) copy.source Read w me dom gref run (has-pin k (via ∷ []) v w via x all (inl refl)) refl refl is.1.1 is.1.2 lets
  may-pin request copies (Dest copy source None) l p w is me dom gref run x all lets = by-first p l w me (ap (λ (y : Leg). y.grantee) is.2.1) lets
  may-pin request copies (Dest copy source (Some via)) l p w is me dom gref run x all lets =
      by-via p via l (end_leg c caller copy.dest Write copy.len) copy.dest Write w me dom gref run (has-pin k (via ∷ held_by source) v w via x all (inl refl)) refl refl is.2.1 is.2.2 lets

  -- the facts of a pin that a copy tries
  pub record Tries (p : HeldPin) (w : View) : Type 0 where
    pub run : HasDomain k p.dom
    pub inside : p.gref.0 < TABLE_ENTRIES
    pub can : CanPin k (position_in k.ids p.dom) p.gref.0 p.dir p.word w
    pub spelled : record_seen (last_seen (position_in k.ids p.dom) p.gref.0 w) ≡ entry_record_of p

  pub tries-pin : (request : OpenRequest) → IsCopy request → (held : CallPins) (steps : List Moment) (p : HeldPin) → IsWalk k (path c caller request) v steps → HasTaken k (last_first held) v (view_after steps v) → AreOfRun k (last_first held)
      → RestsOnTry c caller request held (path c caller request) (all_shown steps) p → Tries p (view_after steps v)
  tries-pin request copies held steps p walk x all r =
      let w = view_after steps v in let l = r.leg in let at = position_in k.ids p.dom in let way = path c caller request in
      let saw = read-words k way v steps p.dom p.gref p.word r.body r.second walk r.read in
      let s = words_seen p.word r.body r.second in
      let last : last_seen at p.gref.0 w ≡ s = ap seen_or_none saw in
      let entry : p.entry ≡ entry_of (control_of p.word) r.body r.second = ap (λ (y : HeldPin). y.entry) r.pin_is in
      let spelled : record_seen s ≡ entry_record_of p = ap (λ (e : Entry). record { generation = generation_of p.word; entry = e }) (second-of-sub (control_of p.word).kind (control_of p.word) r.body r.second ∙ sym entry) in
      let here : record_seen (last_seen at p.gref.0 w) ≡ entry_record_of p = ap record_seen last ∙ spelled in
      let dirs : p.dir ≡ l.dir = ap (λ (y : HeldPin). y.dir) r.pin_is in
      let run = named-run c k caller v knows p.dom r.of_run in
      let may = may-pin request copies r.pin_purpose l p w r.purposed (ap (λ (i : ℕ). id_at k.ids i) (after-position steps v) ∙ knows.named) (ap (λ (y : HeldPin). y.dom) r.pin_is) (ap (λ (y : HeldPin). y.gref) r.pin_is) run
      (subst (λ (h : CallPins). HasTaken k (last_first h) v w) r.held x) (subst (λ (h : CallPins). AreOfRun k (last_first h)) r.held all) r.lets in
      let valid = none-stands (is_kind (control_of p.word).kind kinds.Invalid) N10 _ r.first in
      let second_too : kind_of p.word ≡ kinds.Sub → IsSome s.second = λ e. subst (λ (b : Bool). IsSome (cond b (Some r.second) None)) (sym (ap (λ (y : EntryKind). is_kind y kinds.Sub) e)) refl in
      record {
        run = run;
        inside = in-seen-table k way v steps p.dom p.gref walk r.in_table;
        can = record {
          looked = (saw ∙ ap (λ (y : Looks). Some y) (sym last), ap (λ (y : Looks). y.word) last, subst (λ (y : Looks). HasBody y) (sym last) (refl, second_too));
          valid = λ gone. let yes : is_kind (control_of p.word).kind kinds.Invalid ≡ true = ap (λ (y : EntryKind). is_kind y kinds.Invalid) gone in let none_so = valid.0 in absurd (cc);
          room = subst (λ (d : Dir). pins_in d p.word < 4095) (sym dirs) (room-for l p.word p.entry r.last);
          permitted = subst (λ (y : EntryRecord). MayPin k at p.gref.0 w p.dir y) (sym here) (subst (λ (d : Dir). MayPin k at p.gref.0 w d (entry_record_of p)) (sym dirs) may);
        };
        spelled = here;
      }

  -- the step that comes next can be made, where it is no access
  pub can-walk : (request : OpenRequest) → IsCopy request → (held : CallPins) (steps : List Moment) (s : Step) → IsWalk k (path c caller request) v steps → HasTaken k (last_first held) v (view_after steps v) → AreOfRun k (last_first held)
      → Rests c caller request held (all_shown steps) (actions.Step s) → ((from to : Spot) (len : ℕ) → s ≡ call_steps.Copy from to len → ⊥) → CanMake k (view_after steps v) s
  can-walk request copies held steps (LookHeader d) walk x all r other = named-run c k caller v knows d r.1
  can-walk request copies held steps (LookControl d q) walk x all r other = by r.1
    where
      by : (IsOfRun c d × HasSeenTable (path c caller request) d q (all_shown steps)) ⊎ ((d ≡ caller) × (q.0 < size_of c.header)) → HasDomain k d × (q.0 < TABLE_ENTRIES)
      by (inl y) = (named-run c k caller v knows d y.0, in-seen-table k (path c caller request) v steps d q walk y.1)
      by (inr y) = (own-of-run k v caller d knows.named knows.inside y.0, in-own c k caller v knows q.0 y.1)
  can-walk request copies held steps (LookBody d q body_word) walk x all r other = (named-run c k caller v knows d r.1.0, in-seen-table k (path c caller request) v steps d q walk r.1.1)
  can-walk request copies held steps (Pin p) walk x all r other = let t = tries-pin request copies held steps p walk x all r.1 in (t.run, t.inside, t.can)
  can-walk request copies held steps (Unpin p (holders.Mapping handle)) walk x all r other = by r.1.0
    where
      by : GivesUp request handle → CanMake k (view_after steps v) (Unpin p (holders.Mapping handle))
      by (inl y) = absurd (subst (λ (z : OpenRequest). IsCopy z) y copies)
      by (inr y) = absurd (subst (λ (z : OpenRequest). IsCopy z) y copies)
  can-walk request copies held steps (Unpin p (holders.Leg place)) walk x all r other =
      let w = view_after steps v in let x1 : HasTaken k (p ∷ r.1.others) v w = subst (λ (ps : List HeldPin). HasTaken k ps v w) r.1.held x in let a1 : AreOfRun k (p ∷ r.1.others) = subst (λ (ps : List HeldPin). AreOfRun k ps) r.1.held all in
      (a1.0.0, a1.0.1, holds-taken k (p ∷ r.1.others) v w p x1 (inl refl))
  can-walk request copies held steps (StoreBody q body_words.First n) walk x all r other = absurd (subst (λ (y : OpenRequest). IsCopy y) r.1.1 copies)
  can-walk request copies held steps (StoreBody q body_words.Second n) walk x all r other = absurd (subst (λ (y : OpenRequest). IsCopy y) r.1.1 copies)
  can-walk request copies held steps (StoreHeader version frames) walk x all r other = by r.1
    where
      by : ((request ≡ asks.SetVersion version) × (frames ≡ c.header.frames)) ⊎ ((request ≡ asks.SetupTable frames) × (version ≡ c.header.version)) → CanMake k (view_after steps v) (StoreHeader version frames)
      by (inl y) = absurd (subst (λ (z : OpenRequest). IsCopy z) y.0 copies)
      by (inr y) = absurd (subst (λ (z : OpenRequest). IsCopy z) y.0 copies)
  can-walk request copies held steps (Exchange q looked (Publish e)) walk x all r other = absurd (subst (λ (y : OpenRequest). IsCopy y) r.1.0 copies)
  can-walk request copies held steps (Exchange q looked changes.Revoke) walk x all r other = absurd (subst (λ (y : OpenRequest). IsCopy y) r.1.0 copies)
  can-walk request copies held steps (Exchange q looked changes.Withdraw) walk x all r other = absurd (subst (λ (y : OpenRequest). IsCopy y) r.1.0 copies)
  can-walk request copies held steps (Exchange q looked changes.Demote) walk x all r other = absurd (subst (λ (y : OpenRequest). IsCopy y) r.1.0 copies)
  can-walk request copies held steps (Exchange q looked changes.Promote) walk x all r other = absurd (subst (λ (y : OpenRequest). IsCopy y) r.1.0 copies)
  can-walk request copies held steps (call_steps.Read d frame off len) walk x all r other = by r.1
    where
      by : ((handle : Handle) × (request ≡ asks.Load handle off len) × IsMapped c handle d frame) ⊎ ((request ≡ asks.Peek frame off len) × (d ≡ caller)) → ⊥
      by (inl y) = absurd (subst (λ (z : OpenRequest). IsCopy z) y.1 copies)
      by (inr y) = absurd (subst (λ (z : OpenRequest). IsCopy z) y.0 copies)
  can-walk request copies held steps (call_steps.Write d frame off len) walk x all r other = by r.1
    where
      by : ((handle : Handle) × (request ≡ asks.Store handle off len) × IsMapped c handle d frame) ⊎ ((request ≡ asks.Poke frame off len) × (d ≡ caller)) → ⊥
      by (inl y) = absurd (subst (λ (z : OpenRequest). IsCopy z) y.1 copies)
      by (inr y) = absurd (subst (λ (z : OpenRequest). IsCopy z) y.0 copies)
  can-walk request copies held steps (call_steps.Copy from to len) walk x all r other = absurd (other from to len refl)

  -- where a copy stands after a step

  module _ (w : View) (steps : List Moment) where
    walking-stands : (pin_purpose : PinPurpose) (l : Leg) (at : LegPhase) → IsEnd pin_purpose → HasTaken k (last_first (pins_so_far pin_purpose)) v w → AreOfRun k (last_first (pins_so_far pin_purpose)) → StandsWell k v w steps (Walking pin_purpose l at)
    walking-stands Mapping l at is x all = absurd is
    walking-stands (Source copy via) l at is x all = record { stays = tt; taken = x; of_run = all }
    walking-stands (Dest copy source via) l at is x all = record { stays = tt; taken = x; of_run = all }

    pub dest-stands : (copy : CopyArgs) (source : AccessPath) → HasTaken k (held_by source) v w → AreOfRun k (held_by source) → StandsWell k v w steps (at_dest c caller copy source)
    dest-stands copy source x all = by (is_dest_granted copy)
      where
        by : (b : Bool) → StandsWell k v w steps (cond b (Walking (Dest copy source None) (end_leg c caller copy.dest Write copy.len) Header) (Accessing copy source Own))
        by true = record { stays = tt; taken = x; of_run = all }
        by false = record { stays = tt; taken = x; of_run = all }

    via-stands : (pin_purpose : PinPurpose) (l : Leg) (pair : DomId × DomId) (dom : DomId) (second : Leg) → IsEnd pin_purpose → HasTaken k (last_first (pins_so_far pin_purpose)) v w → AreOfRun k (last_first (pins_so_far pin_purpose))
        → StandsWell k v w steps (where_via (via_judged c pair dom) pin_purpose second)
    via-stands pin_purpose l pair dom second is x all = by (via_judged c pair dom) refl
      where
        by : (o : Option CallResult) → via_judged c pair dom ≡ o → StandsWell k v w steps (where_via o pin_purpose second)
        by None e = walking-stands pin_purpose second Header is x all
        by (Some verdict) e =
            let no_word = via-refused c caller pair dom verdict e in
            subst (λ (y : CallResult). StandsWell k v w steps (Ending (pins_so_far pin_purpose) y)) (sym no_word.1)
            (record { stays = wordless-found k v steps no_word.0.facts no_word.2; taken = x; of_run = all })

    pin-stands : (pin_purpose : PinPurpose) (l : Leg) (p : HeldPin) → IsEnd pin_purpose → HasTaken k (p ∷ last_first (pins_so_far pin_purpose)) v w → AreOfRun k (p ∷ last_first (pins_so_far pin_purpose)) → StandsWell k v w steps (after_pin_of c caller pin_purpose l p)
    pin-stands Mapping l p is x all = absurd is
    pin-stands (Source copy None) l p is x all = by p.entry
      where
        by : (e : Entry) → StandsWell k v w steps (after_source_pin c caller copy l p e)
        by (Via dom ro dom2 gref) = via-stands (Source copy (Some p)) l (source_pair caller copy dom2) dom2 (second_leg c l dom2 gref) tt x all
        by Invalid = dest-stands copy (Direct p) x all
        by (Page dom ro frame) = dest-stands copy (Direct p) x all
        by (Sub dom ro frame off len) = dest-stands copy (Direct p) x all
    pin-stands (Source copy (Some via)) l p is x all = dest-stands copy (Through via p) x all
    pin-stands (Dest copy source None) l p is x all = by p.entry
      where
        by : (e : Entry) → StandsWell k v w steps (after_dest_pin c caller copy source l p e)
        by (Via dom ro dom2 gref) = via-stands (Dest copy source (Some p)) l (dest_pair caller source dom2) dom2 (second_leg c l dom2 gref) tt x all
        by Invalid = record { stays = tt; taken = x; of_run = all }
        by (Page dom ro frame) = record { stays = tt; taken = x; of_run = all }
        by (Sub dom ro frame off len) = record { stays = tt; taken = x; of_run = all }
    pin-stands (Dest copy source (Some via)) l p is x all = record { stays = tt; taken = x; of_run = all }

  module _ (u w : View) (steps : List Moment) (low : SeesNoEarlier v u) (still : u.position ≡ v.position) where
    -- a leg that goes on, or is refused by the word that its step found
    module _ (pin_purpose : PinPurpose) (l : Leg) (s : Step) (x : Observation) (m : Made k s x u w) (is : IsEnd pin_purpose) (taken : HasTaken k (last_first (pins_so_far pin_purpose)) v w) (all : AreOfRun k (last_first (pins_so_far pin_purpose))) where
      abbrev pub now : List Moment
      now = (made-gains k s x u w m).step ∷ steps

      goes : (at : LegPhase) → StandsWell k v w now (after_leg c caller pin_purpose l (Going at))
      goes at = walking-stands w now pin_purpose l at is taken all

      refused : (denial : Denial) → CarriesFound k v now denial.facts → StandsWell k v w now (after_leg c caller pin_purpose l (leg_outcomes.Refused denial))
      refused denial found = record { stays = found; taken = taken; of_run = all }

      missed : (more n : ℕ) → CarriesFound k v now (facts.Entry l.dom l.gref n) → StandsWell k v w now (after_leg c caller pin_purpose l (after_miss l more n))
      missed more n found = by (nat_lt 0 more)
        where
          by : (b : Bool) → StandsWell k v w now (after_leg c caller pin_purpose l (cond b (Going (Look (more - 1))) (leg_outcomes.Refused (entry_refusal l.dom l.gref N18 n))))
          by true = goes (Look (more - 1))
          by false = refused (entry_refusal l.dom l.gref N18 n) found

      words : (more word body second : ℕ) (o : Option Rule) → StandsWell k v w now (after_leg c caller pin_purpose l (after_words more word body second o))
      words more word body second (Some rule) = goes (Relook more word rule)
      words more word body second None = goes (Pinning more word body second)

    looked : (pin_purpose : PinPurpose) (s : Step) (x : Observation) → Made k s x u w → IsLook s x → HasTaken k (last_first (pins_so_far pin_purpose)) v u → HasTaken k (last_first (pins_so_far pin_purpose)) v w
    looked pin_purpose s x m is taken = taken-look k (last_first (pins_so_far pin_purpose)) v u w taken (look-same k s x u w m is)

    leg-stands : (pin_purpose : PinPurpose) (l : Leg) (at : LegPhase) (x : Observation) (m : Made k (leg_step l at) x u w) → IsEnd pin_purpose → HasTaken k (last_first (pins_so_far pin_purpose)) v u → AreOfRun k (last_first (pins_so_far pin_purpose))
        → ((p : HeldPin) → leg_step l at ≡ Pin p → Tries p u) → StandsWell k v w ((made-gains k (leg_step l at) x u w m).step ∷ steps) (after_leg c caller pin_purpose l (leg_after l at x))
    leg-stands pin_purpose l Header (Word n) m is x all tries = by (nat_lt l.gref.0 (size_of (header_of n)))
      where
        by : (b : Bool) → StandsWell k v w ((made-gains k (LookHeader l.dom) (Word n) u w m).step ∷ steps) (after_leg c caller pin_purpose l (cond b (Going (Look 3)) (leg_outcomes.Refused (denial_of N9 (facts.Header l.dom n)))))
        by true = goes pin_purpose l (LookHeader l.dom) (Word n) m is (looked pin_purpose (LookHeader l.dom) (Word n) m tt x) all (Look 3)
        by false = refused pin_purpose l (LookHeader l.dom) (Word n) m is (looked pin_purpose (LookHeader l.dom) (Word n) m tt x) all (denial_of N9 (facts.Header l.dom n)) (carried-facts k caller v u w (LookHeader l.dom) (Word n) steps m (facts.Header l.dom n) low (still ∙ knows.stands) (refl, refl))
    leg-stands pin_purpose l (Look more) (Word n) m is x all tries = by (first_look l (control_of n))
      where
        by : (o : Option Rule) → StandsWell k v w ((made-gains k (LookControl l.dom l.gref) (Word n) u w m).step ∷ steps) (after_leg c caller pin_purpose l (on_control_word l more n o))
        by None = goes pin_purpose l (LookControl l.dom l.gref) (Word n) m is (looked pin_purpose (LookControl l.dom l.gref) (Word n) m tt x) all (Body more n)
        by (Some rule) = refused pin_purpose l (LookControl l.dom l.gref) (Word n) m is (looked pin_purpose (LookControl l.dom l.gref) (Word n) m tt x) all (entry_refusal l.dom l.gref rule n)
            (carried-facts k caller v u w (LookControl l.dom l.gref) (Word n) steps m (facts.Entry l.dom l.gref n) low (still ∙ knows.stands) (refl, refl, refl))
    leg-stands pin_purpose l (Body more word) (Word n) m is x all tries = by (is_kind (control_of word).kind kinds.Sub)
      where
        by : (b : Bool) → StandsWell k v w ((made-gains k (LookBody l.dom l.gref body_words.First) (Word n) u w m).step ∷ steps) (after_leg c caller pin_purpose l (cond b (Going (Second more word n)) (after_words more word n 0 (rule_of_try l word n 0))))
        by true = goes pin_purpose l (LookBody l.dom l.gref body_words.First) (Word n) m is (looked pin_purpose (LookBody l.dom l.gref body_words.First) (Word n) m tt x) all (Second more word n)
        by false = words pin_purpose l (LookBody l.dom l.gref body_words.First) (Word n) m is (looked pin_purpose (LookBody l.dom l.gref body_words.First) (Word n) m tt x) all more word n 0 (rule_of_try l word n 0)
    leg-stands pin_purpose l (Second more word body) (Word n) m is x all tries =
        words pin_purpose l (LookBody l.dom l.gref body_words.Second) (Word n) m is (looked pin_purpose (LookBody l.dom l.gref body_words.Second) (Word n) m tt x) all more word body n (rule_of_try l word body n)
    leg-stands pin_purpose l (Relook more word rule) (Word n) m is x all tries = by (n == word) refl
      where
        found : CarriesFound k v ((made-gains k (LookControl l.dom l.gref) (Word n) u w m).step ∷ steps) (facts.Entry l.dom l.gref n)
        found = carried-facts k caller v u w (LookControl l.dom l.gref) (Word n) steps m (facts.Entry l.dom l.gref n) low (still ∙ knows.stands) (refl, refl, refl)

        by : (b : Bool) → (n == word) ≡ b → StandsWell k v w ((made-gains k (LookControl l.dom l.gref) (Word n) u w m).step ∷ steps) (after_leg c caller pin_purpose l (cond b (leg_outcomes.Refused (entry_refusal l.dom l.gref rule word)) (after_miss l more n)))
        by true e = refused pin_purpose l (LookControl l.dom l.gref) (Word n) m is (looked pin_purpose (LookControl l.dom l.gref) (Word n) m tt x) all (entry_refusal l.dom l.gref rule word)
            (subst (λ (y : ℕ). CarriesFound k v ((made-gains k (LookControl l.dom l.gref) (Word n) u w m).step ∷ steps) (facts.Entry l.dom l.gref y)) (eqb-true n word e) found)
        by false e = missed pin_purpose l (LookControl l.dom l.gref) (Word n) m is (looked pin_purpose (LookControl l.dom l.gref) (Word n) m tt x) all more n found
    leg-stands pin_purpose l (Pinning more word body second) Taken m is x all tries =
        let p = held_of l word body second in let t = tries p refl in
        pin-stands w ((made-gains k (Pin p) Taken u w m).step ∷ steps) pin_purpose l p is (taken-pin k p (last_first (pins_so_far pin_purpose)) v u w m t.spelled x) ((t.run, t.inside), all)
    leg-stands pin_purpose l (Pinning more word body second) (Missed n) m is x all tries =
        let p = held_of l word body second in
        missed pin_purpose l (Pin p) (Missed n) m is (looked pin_purpose (Pin p) (Missed n) m tt x) all more n
        (carried-facts k caller v u w (Pin p) (Missed n) steps m (facts.Entry l.dom l.gref n) low (still ∙ knows.stands) (refl, refl, refl))
    leg-stands pin_purpose l _ _ m is x all tries = absurd m

    -- at the end the last pin is given back
    end-stands : (pins : CallPins) (denial : Denial) (p : HeldPin) (ps : List HeldPin) (place : ℕ) (x : Observation) (m : Made k (Unpin p (holders.Leg place)) x u w) → last_first pins ≡ p ∷ ps → StandsWell k v u steps (Ending pins (Refused denial))
        → StandsWell k v w ((made-gains k (Unpin p (holders.Leg place)) x u w m).step ∷ steps) (phase_after c caller (Ending pins (Refused denial)) x)
    end-stands pins denial p ps place Nothing m e st =
        let few = one-fewer pins p ps e in
        record {
          stays = still-found k v (made-gains k (Unpin p (holders.Leg place)) Nothing u w m).step steps denial.facts st.stays;
          taken = subst (λ (qs : List HeldPin). HasTaken k qs v w) (sym few) (taken-unpin k p ps v u w m (subst (λ (qs : List HeldPin). HasTaken k qs v u) e st.taken));
          of_run = subst (λ (qs : List HeldPin). AreOfRun k qs) (sym few) (subst (λ (qs : List HeldPin). AreOfRun k qs) e st.of_run).1;
        }
    end-stands pins denial p ps place (Word n) m e st = absurd m
    end-stands pins denial p ps place Taken m e st = absurd m
    end-stands pins denial p ps place (Missed n) m e st = absurd m

    no-access : (from to : Spot) (len : ℕ) (x : Observation) → Made k (call_steps.Copy from to len) x u w → ⊥
    no-access from to len Nothing m = absurd m
    no-access from to len (Word n) m = absurd m
    no-access from to len Taken m = absurd m
    no-access from to len (Missed n) m = absurd m

    -- a step made where the copy stands
    abbrev pub OnSo : Phase → Observation → Step → Type 0
    OnSo phase x s = (m : Made k s x u w) → ((p : HeldPin) → s ≡ Pin p → Tries p u) → StandsWell k v w ((made-gains k s x u w m).step ∷ steps) (phase_after c caller phase x)

    pub step-stands : (phase : Phase) (s : Step) (x : Observation) → actions.Step s ≡ action_at caller phase → StandsWell k v u steps phase → OnSo phase x s
    step-stands (Walking pin_purpose l at) s x acts st = let same : s ≡ leg_step l at = cc in subst (λ (y : Step). OnSo (Walking pin_purpose l at) x y) (sym same) (λ m tries. leg-stands pin_purpose l at x m (an-end k v steps pin_purpose l at st.stays) st.taken st.of_run tries)
    step-stands (Accessing copy source dest) s x acts st = by acts
      where
        by : actions.Step s ≡ action_at caller (Accessing copy source dest) → OnSo (Accessing copy source dest) x s
        by e = let same : s ≡ call_steps.Copy (end_spot caller copy.source source) (end_spot caller copy.dest dest) copy.len = cc in
            subst (λ (y : Step). OnSo (Accessing copy source dest) x y) (sym same) (λ m tries. absurd (no-access (end_spot caller copy.source source) (end_spot caller copy.dest dest) copy.len x m))
    step-stands (Ending pins (Refused denial)) s x acts st = by (last_first pins) refl acts
      where
        by : (ps : List HeldPin) → last_first pins ≡ ps → actions.Step s ≡ next_to_give ps (Refused denial) → OnSo (Ending pins (Refused denial)) x s
        by [] e a = cc
        by (p ∷ ps) e a = let same : s ≡ Unpin p (holders.Leg (length ps)) = cc in
            subst (λ (y : Step). OnSo (Ending pins (Refused denial)) x y) (sym same) (λ m tries. end-stands pins denial p ps (length ps) x m e st)
    step-stands (Ending pins Granted) s x acts st = absurd st.stays
    step-stands (Ending pins (Given value)) s x acts st = absurd st.stays
    step-stands (Ending pins (Mapped p)) s x acts st = absurd st.stays
    step-stands (Storing gref entry) s x acts st = absurd st.stays
    step-stands (StoringSecond gref entry) s x acts st = absurd st.stays
    step-stands (Exchanging gref looked change) s x acts st = absurd st.stays
    step-stands (Looking gref change more) s x acts st = absurd st.stays
    step-stands (Changing gref change more looked) s x acts st = absurd st.stays
    step-stands (Asking dom question) s x acts st = absurd st.stays
    step-stands (Last step verdict) s x acts st = absurd st.stays
