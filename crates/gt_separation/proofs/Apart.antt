-- Items of high domains leave what low domains have, if no low domain shares with a high one.
use Rattle.std.proofs.Common.{◌≡◌, ◌⊎◌, inl, inr, ℕ, ◌+◌, refl, Bool, true, false, cond, ◌&&◌, ◌==◌, not, List, []}
use Rattle.std.proofs.Common.{◌∷◌, ◌++◌, map, length, Option, Some, None, All, Any, count_by, ap, sym, subst, ◌∙◌}
use Rattle.std.proofs.Common.{if◌then◌else◌, arith, eqb-true}
use Rattle.std.proofs.lemmas.Bool.{true≢false}
use Rattle.std.proofs.lemmas.List.{append-nil}
use Rattle.std.proofs.lemmas.List.Elements.{All-append, All-cons, All-head, All-nil, All-tail}
use Rattle.std.proofs.lemmas.List.Sums.{sum_by-append, sum_by-cons}
use Rattle.gt_types.specs.Copies.{is_dest_granted, is_source_granted}
use Rattle.gt_types.specs.Names.{resolved}
use Rattle.gt_types.specs.declared.Dir.{Dir}
use Rattle.gt_types.specs.declared.Dir.TheVariants.{Read, Write}
use Rattle.gt_types.specs.declared.DomId.{DomId}
use Rattle.gt_types.specs.declared.GrantRef.{GrantRef}
use Rattle.gt_types.specs.declared.Use.{Use}
use Rattle.gt_types.specs.declared.copies.CopyArgs.{CopyArgs}
use Rattle.gt_types.specs.declared.denial.Rule.{Rule}
use Rattle.gt_types.specs.declared.denial.Rule.TheVariants.{N11}
use Rattle.gt_types.specs.declared.places.Spot.{Spot}
use Rattle.gt_model.proofs.Observers.{all-without, other-body, other-entry, other-raises, other-table}
use Rattle.gt_model.specs.FirstRule.{LegNow, after_source, copy_now, dest_now, from_source, leg_at, leg_now}
use Rattle.gt_model.specs.FirstRule.{second_now, source_now, toward_dest, toward_source}
use Rattle.gt_model.specs.History.{History, Pin, Setting, Underway, WriteMade, body_at, by_leg, entry_at}
use Rattle.gt_model.specs.History.{gather, holder_after, same_dir, table_at}
use Rattle.gt_model.specs.History.{generation_at, given_in, is_holder, is_pin_on, known_at, legs_at, live, open_call}
use Rattle.gt_model.specs.History.{patches_at, patches_by, pinned_by, raises_at, reads_at, unpinned_by, without}
use Rattle.gt_model.specs.History.{word_at}
use Rattle.gt_model.specs.History.{writes_at, written_by}
use Rattle.gt_model.specs.Justified.{CopyIsJustified, EndIsJustified, MayAccess, Reaches}
use Rattle.gt_model.specs.Legal.{IsLegalHistory, IsRight, NoneStands, StepsRightIn}
use Rattle.gt_model.specs.Rules.{CallerKnowledge, first, first_look, stands}
use Rattle.gt_model.specs.Spelling.{control_with}
use Rattle.gt_model.specs.Words.{control_word}
use Rattle.gt_model.specs.Written.{Patch, written}
use Rattle.gt_model.specs.declared.action.Observation.{Observation}
use Rattle.gt_model.specs.declared.action.Observation.TheVariants.{Taken}
use Rattle.gt_model.specs.declared.action.Step.TheVariants as call_steps
use Rattle.gt_model.specs.declared.change.BodyWord.{BodyWord}
use Rattle.gt_model.specs.declared.entry.Entry.{Entry}
use Rattle.gt_model.specs.declared.entry.Entry.TheVariants.{Invalid, Page, Sub, Via}
use Rattle.gt_model.specs.declared.held.AccessPath.{AccessPath}
use Rattle.gt_model.specs.declared.held.AccessPath.TheVariants.{Direct, Own, Through}
use Rattle.gt_model.specs.declared.held.HeldPin.{HeldPin}
use Rattle.gt_model.specs.declared.leg.Leg.{Leg}
use Rattle.gt_model.specs.declared.request.OpenRequest.{OpenRequest}
use Rattle.gt_model.specs.declared.request.OpenRequest.TheVariants.{Copy, Map, Probe}
use Rattle.gt_model.specs.declared.request.PinHolder.{PinHolder}
use Rattle.gt_model.specs.declared.trace.Answer.{Answer}
use Rattle.gt_model.specs.declared.trace.Item.{Item}
use Rattle.gt_model.specs.declared.trace.ItemEvent.{ItemEvent}
use Rattle.gt_model.specs.declared.trace.ItemEvent.TheVariants.{Stepped}
use Rattle.gt_separation.specs.Apart.{CallCopiesHigh, CopiesApart, CopiesHigh, EndsAreHigh, LowDomainsKeep, NamesLow}
use Rattle.gt_separation.specs.Apart.{SharesNothing, StaysApart, TakesOrReleasesPin}

pub any-meets : {X : Type 0} (P Q : X → Type 0) (xs : List X) → Any P xs → All Q xs → (x : X) × P x × Q x
any-meets P Q xs any all = (any.1, any.4, subst Q any.3 (all any.0 any.1 any.2))

-- the rules at a first look
granted : (b : Bool) (rest : List (Option Rule)) → first (stands (not b) N11 ∷ rest) ≡ None → b ≡ true
granted true rest none = refl
granted false rest none = cc none

module _ (s : Setting) (high : DomId → Bool) where
  abbrev IsHigh : DomId → Type 0
  IsHigh d = high d ≡ true

  abbrev IsLow : DomId → Type 0
  IsLow d = high d ≡ false

  pub same-domain : (P : DomId → Type 0) (a b : DomId) → a.0 ≡ b.0 → P a → P b
  same-domain P a b same = subst P (ap {B = DomId} (λ (n : ℕ). record { 0 = n }) same)

  -- two domains, of which one is high and the other low, have other numbers
  pub other-number : (d t : DomId) → IsHigh d → IsLow t → (d.0 == t.0) ≡ false
  other-number d t up low = by (d.0 == t.0) refl
    where
      by : (b : Bool) → (d.0 == t.0) ≡ b → b ≡ false
      by false is = refl
      by true is = absurd (true≢false (sym (same-domain IsHigh d t (eqb-true d.0 t.0 is) up) ∙ low))

  -- ---- the domain that the entry of a leg has to permit

  abbrev IsOfHigh : Option LegNow → Type 0
  IsOfHigh None = Unit {0}
  IsOfHigh (Some n) = IsHigh n.leg.grantee

  second-high : (k : CallerKnowledge) (n : LegNow) (e : Entry) → IsHigh n.leg.dom → IsOfHigh (second_now k n e)
  second-high k n Invalid up = tt
  second-high k n (Page dom ro frame) up = tt
  second-high k n (Sub dom ro frame off len) up = tt
  second-high k n (Via dom ro dom2 gref) up = up

  module _ (k : CallerKnowledge) (d : DomId) (c : CopyArgs) (up : IsHigh d) (ends : EndsAreHigh high d c) where
    dest-high : (source : AccessPath) (held : List HeldPin) → is_dest_granted c ≡ true
        → IsOfHigh (toward_dest k d c source held)
    dest-high source [] is = up
    dest-high source (p ∷ []) is = second-high k (dest_now k d c source) p.entry (ends.1 is)
    dest-high source (p ∷ q ∷ more) is = tt

    after-high : (source : AccessPath) (held : List HeldPin) → IsOfHigh (after_source k d c source held)
    after-high source held = by (is_dest_granted c) refl
      where
        by : (b : Bool) → is_dest_granted c ≡ b → IsOfHigh (if b then toward_dest k d c source held else None)
        by true is = dest-high source held is
        by false is = tt

    from-high : (p : HeldPin) (e : Entry) (more : List HeldPin) → is_source_granted c ≡ true
        → IsOfHigh (from_source k d c p e more)
    from-high p (Via dom ro dom2 gref) [] is = second-high k (source_now k d c) (Via dom ro dom2 gref) (ends.0 is)
    from-high p (Via dom ro dom2 gref) (q ∷ more) is = after-high (Through p q) more
    from-high p Invalid more is = after-high (Direct p) more
    from-high p (Page dom ro frame) more is = after-high (Direct p) more
    from-high p (Sub dom ro frame off len) more is = after-high (Direct p) more

    source-high : (held : List HeldPin) → is_source_granted c ≡ true → IsOfHigh (toward_source k d c held)
    source-high [] is = up
    source-high (p ∷ more) is = from-high p p.entry more is

    copy-high : (held : List HeldPin) → IsOfHigh (copy_now k d c held)
    copy-high held = by (is_source_granted c) refl
      where
        by : (b : Bool) → is_source_granted c ≡ b
            → IsOfHigh (if b then toward_source k d c held else after_source k d c Own held)
        by true is = source-high held is
        by false is = after-high Own held

  leg-high : (k : CallerKnowledge) (d : DomId) (r : OpenRequest) (held : List HeldPin) → IsHigh d → CopiesHigh high d r
      → IsOfHigh (leg_now k d r held)
  leg-high k d (Map dom gref flags) held up ends = up
  leg-high k d (Copy c) held up ends = copy-high k d c up ends held
  leg-high k d (Probe c) held up ends = copy-high k d c up ends held
  leg-high k d r held up ends = tt

  -- ---- pins

  -- a first look at an entry that names low domains lets only legs of low ones go on
  permits-low : (l : Leg) (e : Entry) (generation reads writes : ℕ) → NamesLow high e
      → first_look l (control_with e generation reads writes) ≡ None → IsLow l.grantee
  permits-low l Invalid generation reads writes names none = cc none
  permits-low l (Page dom ro frame) generation reads writes names none =
      same-domain IsLow dom l.grantee (eqb-true dom.0 l.grantee.0 (granted (dom.0 == l.grantee.0) _ none)) names
  permits-low l (Sub dom ro frame off len) generation reads writes names none =
      same-domain IsLow dom l.grantee (eqb-true dom.0 l.grantee.0 (granted (dom.0 == l.grantee.0) _ none)) names
  permits-low l (Via dom ro dom2 gref) generation reads writes names none =
      same-domain IsLow dom l.grantee (eqb-true dom.0 l.grantee.0 (granted (dom.0 == l.grantee.0) _ none)) names.0

  -- a pin that a high domain takes is on an entry of a high one
  sound-high : (h : History) (t : DomId) (r : GrantRef) (o : Option LegNow) → SharesNothing high h → IsOfHigh o
      → NoneStands s h t r o → IsHigh t
  sound-high h t r None shares good none = absurd none
  sound-high h t r (Some n) shares good none = by (high t) refl
    where
      by : (b : Bool) → high t ≡ b → b ≡ true
      by true is = refl
      by false is = absurd (true≢false (sym good
          ∙ permits-low n.leg (entry_at h t.0 r.0) (generation_at s h t.0 r.0) (reads_at h t.0 r.0) (writes_at h t.0 r.0)
          (shares t r.0 is) none.0))

  pin-high : (h : History) (i : Item) (p : HeldPin) (c : Option Underway) → SharesNothing high h
      → CallCopiesHigh high i.actor c → IsHigh i.actor → StepsRightIn s h i (call_steps.Pin p) Taken c → IsHigh p.dom
  pin-high h i p None shares ends up right = absurd right
  pin-high h i p (Some c) shares ends up right =
      sound-high h p.dom p.gref (leg_at s h i.actor c.request) shares
      (leg-high (known_at s h i.actor) i.actor c.request (map (λ (q : ℕ × HeldPin). q.1) (legs_at h i.actor.0)) up ends)
      right.sound

  -- a pin of a high domain is on an entry of a high one
  abbrev pub IsApart : Pin → Type 0
  IsApart p = IsHigh (record { 0 = p.actor }) → IsHigh p.held.dom

  pub pinned-apart : (h : History) (d : DomId) (x : ItemEvent) (a : Option Answer) (ps : List Pin)
      → SharesNothing high h → CopiesApart high h → IsRight s h (record { actor = d; happened = x; answer = a })
      → All IsApart (pinned_by d x a h ps)
  pinned-apart h d (Stepped (call_steps.Pin p) Taken) a ps shares copies right =
      All-cons IsApart _ [] (λ up. pin-high h (record { actor = d; happened = Stepped (call_steps.Pin p) Taken; answer = a })
      p (open_call h d.0) shares (copies d up) up right) (All-nil IsApart)
  pinned-apart h d x a ps shares copies right = All-nil IsApart

  unpinned-apart : (d : DomId) (x : ItemEvent) (ps : List Pin) → All IsApart ps → All IsApart (unpinned_by d x ps)
  unpinned-apart d (Stepped (call_steps.Unpin p holder) seen) ps all = all-without IsApart d.0 holder ps all
  unpinned-apart d x ps all = all

  pub now-apart : (h : History) → StaysApart high h → SharesNothing high h × CopiesApart high h
  unfolding StaysApart
  now-apart [] stays = stays
  now-apart (i ∷ h) stays = stays.0

  pins-apart : (h : History) → IsLegalHistory s h → StaysApart high h → All IsApart (live h)
  unfolding StaysApart IsLegalHistory live
  pins-apart [] legal stays = All-nil IsApart
  pins-apart (i ∷ h) legal stays =
      let now = now-apart h stays.1 in
      All-append IsApart (unpinned_by i.actor i.happened (live h)) (pinned_by i.actor i.happened i.answer h (live h))
      (unpinned-apart i.actor i.happened (live h) (pins-apart h legal.1 stays.1))
      (pinned-apart h i.actor i.happened i.answer (live h) now.0 now.1 legal.0)

  -- ---- the counts of pins on an entry of a low domain

  module _ (t : DomId) (low : IsLow t) (r : ℕ) (dir : Dir) where
    abbrev counts : List Pin → ℕ
    counts ps = count_by (is_pin_on t.0 r dir) ps

    and-none : (a b c : Bool) → a ≡ false → (a && b && c) ≡ false
    and-none false b c is = refl
    and-none true b c is = absurd (true≢false is)

    uncounted : (p : Pin) → IsHigh p.held.dom → is_pin_on t.0 r dir p ≡ false
    uncounted p up =
        and-none (p.held.dom.0 == t.0) (p.held.gref.0 == r) (same_dir p.held.dir dir) (other-number p.held.dom t up low)

    none-plus : (n : ℕ) → 0 + n ≡ n
    none-plus n = omega arith

    plus-none : (n : ℕ) → n + 0 ≡ n
    plus-none n = omega arith

    pub count-one : (p : Pin) (ps : List Pin) → counts (p ∷ ps) ≡ cond (is_pin_on t.0 r dir p) 1 0 + counts ps
    count-one p ps = sum_by-cons (λ (q : Pin). cond (is_pin_on t.0 r dir q) 1 0) p ps

    pub skipped : (p : Pin) (ps : List Pin) → IsHigh p.held.dom → counts (p ∷ ps) ≡ counts ps
    skipped p ps up =
        count-one p ps ∙ ap (λ (b : Bool). cond b 1 0 + counts ps) (uncounted p up) ∙ none-plus (counts ps)

    -- a pin that a high domain releases
    both : (a b : Bool) → (a && b) ≡ true → a ≡ true
    both true b e = refl
    both false b e = absurd (true≢false (sym e))

    left-out : (d : DomId) (holder : PinHolder) (p : Pin) (ps : List Pin) (b : Bool) → IsHigh d → IsApart p
        → ((p.actor == d.0) && is_holder p.holder holder) ≡ b → counts (without d.0 holder ps) ≡ counts ps
        → counts (if b then ps else p ∷ without d.0 holder ps) ≡ counts (p ∷ ps)
    left-out d holder p ps true up apart is rest =
        let own : p.actor ≡ d.0 = eqb-true p.actor d.0 (both (p.actor == d.0) (is_holder p.holder holder) is) in
        sym (skipped p ps (apart (same-domain IsHigh d (record { 0 = p.actor }) (sym own) up)))
    left-out d holder p ps false up apart is rest =
        count-one p (without d.0 holder ps)
        ∙ ap (λ (n : ℕ). cond (is_pin_on t.0 r dir p) 1 0 + n) rest ∙ sym (count-one p ps)

    count-without : (d : DomId) (holder : PinHolder) (ps : List Pin) → IsHigh d → All IsApart ps
        → counts (without d.0 holder ps) ≡ counts ps
    unfolding without
    count-without d holder [] up all = refl
    count-without d holder (p ∷ ps) up all =
        left-out d holder p ps ((p.actor == d.0) && is_holder p.holder holder) up (All-head IsApart p ps all) refl
        (count-without d holder ps up (All-tail IsApart p ps all))

    count-unpinned : (d : DomId) (x : ItemEvent) (ps : List Pin) → IsHigh d → All IsApart ps
        → counts (unpinned_by d x ps) ≡ counts ps
    count-unpinned d (Stepped (call_steps.Unpin p holder) seen) ps up all = count-without d holder ps up all
    count-unpinned d x ps up all = refl

    count-pinned : (h : History) (d : DomId) (x : ItemEvent) (a : Option Answer) (ps : List Pin) → IsHigh d
        → SharesNothing high h → CopiesApart high h
        → IsRight s h (record { actor = d; happened = x; answer = a }) → counts (pinned_by d x a h ps) ≡ 0
    count-pinned h d (Stepped (call_steps.Pin p) Taken) a ps up shares copies right =
        skipped (record {
          actor = d.0;
          holder = holder_after a (length (gather by_leg d.0 ps));
          held = record p { entry = entry_at h p.dom.0 p.gref.0 };
        }) [] (pin-high h (record { actor = d; happened = Stepped (call_steps.Pin p) Taken; answer = a }) p
        (open_call h d.0) shares (copies d up) up right)
    count-pinned h d x a ps up shares copies right = refl

    count-after : (h : History) (i : Item) → IsHigh i.actor → IsLegalHistory s (i ∷ h) → StaysApart high h
        → counts (live (i ∷ h)) ≡ counts (live h)
    unfolding live IsLegalHistory
    count-after h i up legal stays =
        let now = now-apart h stays in
        sum_by-append (λ (q : Pin). cond (is_pin_on t.0 r dir q) 1 0) (unpinned_by i.actor i.happened (live h))
        (pinned_by i.actor i.happened i.answer h (live h))
        ∙ ap (λ (n : ℕ). counts (unpinned_by i.actor i.happened (live h)) + n)
        (count-pinned h i.actor i.happened i.answer (live h) up now.0 now.1 legal.0)
        ∙ plus-none (counts (unpinned_by i.actor i.happened (live h)))
        ∙ count-unpinned i.actor i.happened (live h) up (pins-apart h legal.1 stays)

  -- ---- frames

  -- the frames that pins reach, if those of all domains of this kind, high or low, are on entries of such a domain
  module _ (b : Bool) where
    abbrev Is : DomId → Type 0
    Is d = high d ≡ b

    -- a pin of such a domain is on an entry of such a one
    abbrev pub IsAmong : Pin → Type 0
    IsAmong p = Is (record { 0 = p.actor }) → Is p.held.dom

    reached-of : (h : History) (d judged : DomId) (dir : Dir) (purpose : Use) (at : Spot) (len : ℕ) → Is d
        → All IsAmong (live h) → Any (Reaches d judged dir purpose at len) (live h) → Is at.frame.owner
    reached-of h d judged dir purpose at len is all any =
        let found = any-meets (Reaches d judged dir purpose at len) IsAmong (live h) any all in
        same-domain Is found.0.held.dom at.frame.owner found.1.of_owner
        (found.2 (same-domain Is d (record { 0 = found.0.actor }) (sym found.1.of_actor) is))

    pub access-of : (h : History) (d : DomId) (dir : Dir) (at : Spot) (len : ℕ) → Is d → All IsAmong (live h)
        → MayAccess h d dir at len → Is at.frame.owner
    access-of h d dir at len is all (inl own) = same-domain Is d at.frame.owner (sym own) is
    access-of h d dir at len is all (inr any) = reached-of h d d dir _ at len is all any

    pub end-of : (h : History) (d : DomId) (granted : Bool) (dir : Dir) (at : Spot) (len : ℕ) (named : DomId)
        (owners : DomId × DomId) → Is d → All IsAmong (live h)
        → EndIsJustified s h d granted dir at len named owners → Is at.frame.owner
    end-of h d granted dir at len named owners is all (inl own) = subst Is (sym own.1) is
    end-of h d granted dir at len named owners is all (inr (inl direct)) =
        reached-of h d d dir _ at len is all direct.2
    end-of h d granted dir at len named owners is all (inr (inr through)) =
        let found = any-meets _ IsAmong (live h) through.1 all in
        let via = any-meets _ IsAmong (live h) found.1 all in
        same-domain Is found.0.held.dom at.frame.owner via.1.1.of_owner
        (found.2 (same-domain Is d (record { 0 = found.0.actor }) (sym via.1.1.of_actor) is))

  copy-to-high : (h : History) (d : DomId) (r : OpenRequest) (from to : Spot) (len : ℕ) → IsHigh d
      → All IsApart (live h) → CopyIsJustified s h d r from to len → IsHigh to.frame.owner
  copy-to-high h d (Copy c) from to len up all just =
      end-of true h d (is_dest_granted c) Write to len (resolved d c.dest.domid) (from.frame.owner, to.frame.owner) up
      all just.4
  copy-to-high h d r from to len up all just = absurd just

  no-patch : (t : DomId) (f : ℕ) (w : WriteMade) → IsLow t → IsHigh w.at.frame.owner → patches_by (Some w) t.0 f ≡ []
  no-patch t f w low up =
      ap (λ (b : Bool). if b && (w.at.frame.number == f) then record { off = w.at.off; bytes = w.bytes } ∷ [] else [])
      (other-number w.at.frame.owner t up low)

  write-high : (h : History) (i : Item) (dom : DomId) (frame off len : ℕ) (seen : Observation) (c : Option Underway)
      → IsHigh i.actor → All IsApart (live h)
      → StepsRightIn s h i (call_steps.Write dom frame off len) seen c → IsHigh dom
  write-high h i dom frame off len seen None up all right = absurd right
  write-high h i dom frame off len seen (Some c) up all right =
      access-of true h i.actor Write (record { frame = record { owner = dom; number = frame }; off = off }) len up all
      right.justified.1

  copied-high : (h : History) (i : Item) (from to : Spot) (len : ℕ) (seen : Observation) (c : Option Underway)
      → IsHigh i.actor → All IsApart (live h) → StepsRightIn s h i (call_steps.Copy from to len) seen c
      → IsHigh to.frame.owner
  copied-high h i from to len seen None up all right = absurd right
  copied-high h i from to len seen (Some c) up all right =
      copy-to-high h i.actor c.request from to len up all right.justified

  none-written : (h : History) (d : DomId) (x : ItemEvent) (a : Option Answer) (t : DomId) (f : ℕ) (given : List ℕ)
      (contents : ℕ → ℕ → List ℕ) → IsHigh d → IsLow t → All IsApart (live h)
      → IsRight s h (record { actor = d; happened = x; answer = a }) → patches_by (written_by x given contents) t.0 f ≡ []
  none-written h d (Stepped (call_steps.Write dom frame off len) seen) a t f given contents up low all right =
      no-patch t f _ low (write-high h (record {
        actor = d;
        happened = Stepped (call_steps.Write dom frame off len) seen;
        answer = a;
      }) dom frame off len seen (open_call h d.0) up all right)
  none-written h d (Stepped (call_steps.Copy from to len) seen) a t f given contents up low all right =
      no-patch t f _ low (copied-high h (record {
        actor = d;
        happened = Stepped (call_steps.Copy from to len) seen;
        answer = a;
      }) from to len seen (open_call h d.0) up all right)
  none-written h d x a t f given contents up low all right = refl

  pub frame-kept : (h : History) (i : Item) (t : DomId) (f : ℕ) → IsHigh i.actor → IsLow t → All IsApart (live h)
      → IsRight s h i → patches_at (i ∷ h) t.0 f ≡ patches_at h t.0 f
  unfolding patches_at
  frame-kept h i t f up low all right =
      ap (λ (ps : List Patch). patches_at h t.0 f ++ ps)
      (none-written h i.actor i.happened i.answer t f (given_in (open_call h i.actor.0))
      (λ u g. written (patches_at h u g)) up low all right)
      ∙ append-nil (patches_at h t.0 f)

  -- ---- words

  word-kept : (g h : History) (t r : ℕ) → entry_at g t r ≡ entry_at h t r → raises_at g t r ≡ raises_at h t r
      → reads_at g t r ≡ reads_at h t r → writes_at g t r ≡ writes_at h t r → word_at s g t r ≡ word_at s h t r
  word-kept g h t r entry raises reads writes =
      ap (λ (e : Entry). control_word (control_with e (s.first_generation + raises_at g t r) (reads_at g t r)
      (writes_at g t r))) entry
      ∙ ap (λ (n : ℕ). control_word (control_with (entry_at h t r) (s.first_generation + n) (reads_at g t r)
      (writes_at g t r))) raises
      ∙ ap (λ (n : ℕ). control_word (control_with (entry_at h t r) (s.first_generation + raises_at h t r) n
      (writes_at g t r))) reads
      ∙ ap (λ (n : ℕ). control_word (control_with (entry_at h t r) (s.first_generation + raises_at h t r)
      (reads_at h t r) n)) writes

  right-of : (h : History) (i : Item) → IsLegalHistory s (i ∷ h) → IsRight s h i × IsLegalHistory s h
  unfolding IsLegalHistory
  right-of h i legal = legal

  pub high-leaves-low : (h : History) (i : Item) → IsLegalHistory s (i ∷ h) → StaysApart high h → IsHigh i.actor
      → LowDomainsKeep s high (i ∷ h) h
  high-leaves-low h i legal stays up =
      let right = right-of h i legal in
      let all = pins-apart h right.1 stays in
      record {
        words = λ t r low. word-kept (i ∷ h) h t.0 r
            (other-entry i h t.0 r (other-number i.actor t up low)) (other-raises i h t.0 r (other-number i.actor t up low))
            (count-after t low r Read h i up legal stays) (count-after t low r Write h i up legal stays);
        bodies = λ t r which low. other-body i h t.0 r which (other-number i.actor t up low);
        tables = λ t low. other-table s i h t (other-number i.actor t up low);
        frames = λ t f low. ap written (frame-kept h i t f up low all right.0);
      }

  -- ---- what may be seen otherwise

  same-pins : (h : History) (d : DomId) (x : ItemEvent) (a : Option Answer) (ps : List Pin)
      → (unpinned_by d x ps ++ pinned_by d x a h ps ≡ ps) ⊎ TakesOrReleasesPin x
  same-pins h d (Stepped (call_steps.Pin p) Taken) a ps = inr tt
  same-pins h d (Stepped (call_steps.Unpin p holder) seen) a ps = inr tt
  same-pins h d x a ps = inl (append-nil ps)

  word-seen : (h : History) (i : Item) (t r : ℕ) → (i.actor.0 == t) ≡ false
      → (live (i ∷ h) ≡ live h) ⊎ TakesOrReleasesPin i.happened
      → (word_at s (i ∷ h) t r ≡ word_at s h t r) ⊎ TakesOrReleasesPin i.happened
  word-seen h i t r other (inl pins) =
      inl (word-kept (i ∷ h) h t r (other-entry i h t r other) (other-raises i h t r other)
      (ap (λ (ps : List Pin). count_by (is_pin_on t r Read) ps) pins)
      (ap (λ (ps : List Pin). count_by (is_pin_on t r Write) ps) pins))
  word-seen h i t r other (inr pins) = inr pins

  live-seen : (h : History) (i : Item) → (live (i ∷ h) ≡ live h) ⊎ TakesOrReleasesPin i.happened
  unfolding live
  live-seen h i = same-pins h i.actor i.happened i.answer (live h)

  pub shows-only-pins : (h : History) (i : Item) (t : DomId) → IsHigh i.actor → IsLow t
      → ((r : ℕ) → (word_at s (i ∷ h) t.0 r ≡ word_at s h t.0 r) ⊎ TakesOrReleasesPin i.happened)
      × ((r : ℕ) (which : BodyWord) → body_at (i ∷ h) t.0 r which ≡ body_at h t.0 r which)
      × (table_at s (i ∷ h) t ≡ table_at s h t)
  shows-only-pins h i t up low =
      let other = other-number i.actor t up low in
      (λ r. word-seen h i t.0 r other (live-seen h i), λ r which. other-body i h t.0 r which other, other-table s i h t other)
