-- The access paths of a copy, walked on the words: what each part of the walk comes to.
use Rattle.std.proofs.Common.{◌≡◌, ◌∙◌, Bool, true, false, if◌then◌else◌, refl, sym, ap, subst, Option, Some, None}
use Rattle.gt_types.specs.declared.DomId.{DomId}
use Rattle.gt_types.specs.declared.GrantRef.{GrantRef}
use Rattle.gt_types.specs.declared.Dir.TheVariants.{Read, Write}
use Rattle.gt_types.specs.declared.denial.Denial.{Denial}
use Rattle.gt_model.specs.declared.entry.Entry.{Entry}
use Rattle.gt_model.specs.declared.entry.Entry.TheVariants.{Invalid, Page, Sub, Via}
use Rattle.gt_word_history.specs.Rule.{Layout}
use Rattle.gt_word_history.specs.declared.view.View.{View}
use Rattle.gt_model.specs.declared.action.CallResult.{CallResult}
use Rattle.gt_model.specs.declared.action.CallResult.TheVariants.{Refused}
use Rattle.gt_calls.specs.declared.call.Phase.TheVariants.{Accessing, Ending, Walking}
use Rattle.gt_calls.specs.declared.copying.PinPurpose.{PinPurpose}
use Rattle.gt_calls.specs.declared.copying.PinPurpose.TheVariants.{Source, Dest}
use Rattle.gt_model.specs.declared.held.HeldPin.{HeldPin}
use Rattle.gt_model.specs.declared.held.AccessPath.{AccessPath}
use Rattle.gt_model.specs.declared.held.AccessPath.TheVariants.{Own, Direct}
use Rattle.gt_model.specs.declared.leg.Leg.{Leg}
use Rattle.gt_calls.specs.declared.leg.LegNext.{LegNext}
use Rattle.gt_calls.specs.declared.leg.LegNext.TheVariants as leg_outcomes
use Rattle.gt_calls.specs.declared.leg.LegPhase.TheVariants.{Header}
use Rattle.gt_types.specs.declared.copies.CopyArgs.{CopyArgs}
use Rattle.gt_calls.specs.Holding.{pins_so_far}
use Rattle.gt_calls.specs.Machine.{after_dest_pin, after_leg, after_source_pin, at_dest, at_source, through_via}
use Rattle.gt_calls.specs.Machine.{where_via}
use Rattle.gt_model.specs.Path.{dest_pair, end_leg, second_leg, source_pair}
use Rattle.gt_model.specs.Rules.{CallerKnowledge, via_judged}
use Rattle.gt_types.specs.Copies.{is_dest_granted, is_source_granted}
use Rattle.gt_live.specs.Copies.{dest_leg, source_leg}
use Rattle.gt_live.specs.Domains.{denial_in}
use Rattle.gt_live.specs.Legs.{CanWalkLeg, WalksLeg}
use Rattle.gt_live.specs.Phases.{CanRun, Runs}
use Rattle.gt_live.proofs.AnsweredAtOnce.{via-refused}
use Rattle.gt_live.proofs.Phases.{can-from, leg-can, leg-runs, runs-from, runs-none, runs-to}

-- the entry is no Via
abbrev pub IsNoVia : Entry → Type 0
IsNoVia (Via dom ro dom2 gref) = ⊥
IsNoVia e = Unit {0}

pub no-via : (e : Entry) → ((dom : DomId) (ro : Bool) (dom2 : DomId) (gref : GrantRef) → e ≡ Via dom ro dom2 gref → ⊥)
    → IsNoVia e
no-via Invalid other = tt
no-via (Page dom ro frame) other = tt
no-via (Sub dom ro frame off len) other = tt
no-via (Via dom ro dom2 gref) other = absurd (other dom ro dom2 gref refl)

module _ (c : CallerKnowledge) (k : Layout) (caller : DomId) where
  -- a Via whose pair is refused
  pub said : (pair : DomId × DomId) (dom : DomId) (verdict : CallResult) (denial : Denial)
      → via_judged c pair dom ≡ Some verdict → denial ≡ denial_in verdict → verdict ≡ Refused denial
  said pair dom verdict denial e is =
      let n = via-refused c caller pair dom verdict e in
      n.1 ∙ ap (λ (d : Denial). Refused d) (sym (is ∙ ap denial_in n.1))

  pub through-refused : (pin_purpose : PinPurpose) (first : Leg) (pair : DomId × DomId) (dom : DomId) (gref : GrantRef)
      (verdict : CallResult) (denial : Denial) → via_judged c pair dom ≡ Some verdict → denial ≡ denial_in verdict
      → through_via c pin_purpose first pair dom gref ≡ Ending (pins_so_far pin_purpose) (Refused denial)
  through-refused pin_purpose first pair dom gref verdict denial e is =
      ap (λ (o : Option CallResult). where_via o pin_purpose (second_leg c first dom gref)) e
      ∙ ap (λ (y : CallResult). Ending (pins_so_far pin_purpose) y) (said pair dom verdict denial e is)

  pub refused-runs : (pin_purpose : PinPurpose) (first : Leg) (pair : DomId × DomId) (dom : DomId) (gref : GrantRef)
      (verdict : CallResult) (denial : Denial) (v : View) → via_judged c pair dom ≡ Some verdict
      → denial ≡ denial_in verdict
      → Runs c k caller (through_via c pin_purpose first pair dom gref) v (Ending (pins_so_far pin_purpose) (Refused denial)) v
  refused-runs pin_purpose first pair dom gref verdict denial v e is =
      let start = through_via c pin_purpose first pair dom gref in
      runs-to c k caller start start (Ending (pins_so_far pin_purpose) (Refused denial)) v v
      (through-refused pin_purpose first pair dom gref verdict denial e is) (runs-none c k caller start v)

  -- a Via whose pair is allowed: its second leg is walked
  pub through-passed : (pin_purpose : PinPurpose) (first : Leg) (pair : DomId × DomId) (dom : DomId) (gref : GrantRef)
      → via_judged c pair dom ≡ None
      → through_via c pin_purpose first pair dom gref ≡ Walking pin_purpose (second_leg c first dom gref) Header
  through-passed pin_purpose first pair dom gref e =
      ap (λ (o : Option CallResult). where_via o pin_purpose (second_leg c first dom gref)) e

  pub through-can : (pin_purpose : PinPurpose) (first second : Leg) (pair : DomId × DomId) (dom : DomId) (gref : GrantRef) (v : View)
      → via_judged c pair dom ≡ None → second ≡ second_leg c first dom gref
      → CanRun c k caller (through_via c pin_purpose first pair dom gref) v → CanWalkLeg k second v
  through-can pin_purpose first second pair dom gref v e is can =
      subst (λ (l : Leg). CanWalkLeg k l v) (sym is)
      (leg-can c k caller pin_purpose (second_leg c first dom gref) v
      (can-from c k caller (through_via c pin_purpose first pair dom gref) (Walking pin_purpose (second_leg c first dom gref) Header) v
      (through-passed pin_purpose first pair dom gref e) can))

  pub through-runs : (pin_purpose : PinPurpose) (first second : Leg) (pair : DomId × DomId) (dom : DomId) (gref : GrantRef)
      (next : LegNext) (v w : View) → via_judged c pair dom ≡ None → second ≡ second_leg c first dom gref
      → WalksLeg k second v next w
      → Runs c k caller (through_via c pin_purpose first pair dom gref) v
      (after_leg c caller pin_purpose (second_leg c first dom gref) next) w
  through-runs pin_purpose first second pair dom gref next v w e is x =
      let l = second_leg c first dom gref in
      runs-from c k caller (Walking pin_purpose l Header) (through_via c pin_purpose first pair dom gref)
      (after_leg c caller pin_purpose l next) v w (sym (through-passed pin_purpose first pair dom gref e))
      (leg-runs c k caller pin_purpose l v next w (subst (λ (m : Leg). WalksLeg k m v next w) is x))

  -- the leg to the source of a copy
  module _ (copy : CopyArgs) (leg : Leg) (is : leg ≡ end_leg c caller copy.source Read copy.len) where
    pub source-can : (v : View) → CanRun c k caller (source_leg c caller copy) v → CanWalkLeg k leg v
    source-can v can =
        subst (λ (l : Leg). CanWalkLeg k l v) (sym is)
        (leg-can c k caller (Source copy None) (end_leg c caller copy.source Read copy.len) v can)

    pub source-runs : (v : View) (next : LegNext) (w : View) → WalksLeg k leg v next w
        → Runs c k caller (source_leg c caller copy) v (after_leg c caller (Source copy None) leg next) w
    source-runs v next w x =
        subst (λ (l : Leg). Runs c k caller (source_leg c caller copy) v (after_leg c caller (Source copy None) l next) w)
        (sym is)
        (leg-runs c k caller (Source copy None) (end_leg c caller copy.source Read copy.len) v next w
        (subst (λ (l : Leg). WalksLeg k l v next w) is x))

    pub source-refused : (v w : View) (denial : Denial) → WalksLeg k leg v (leg_outcomes.Refused denial) w
        → Runs c k caller (source_leg c caller copy) v (Ending (pins_so_far (Source copy None)) (Refused denial)) w
    source-refused v w denial x = source-runs v (leg_outcomes.Refused denial) w x

    pub source-reached : (v w : View) (p : HeldPin) → WalksLeg k leg v (leg_outcomes.Pinned p) w → IsNoVia p.entry
        → Runs c k caller (source_leg c caller copy) v (at_dest c caller copy (Direct p)) w
    source-reached v w p x plain =
        runs-to c k caller (source_leg c caller copy) (after_source_pin c caller copy leg p p.entry)
        (at_dest c caller copy (Direct p)) v w (by p.entry plain) (source-runs v (leg_outcomes.Pinned p) w x)
      where
        by : (e : Entry) → IsNoVia e → after_source_pin c caller copy leg p e ≡ at_dest c caller copy (Direct p)
        by Invalid plain = refl
        by (Page dom ro frame) plain = refl
        by (Sub dom ro frame off len) plain = refl
        by (Via dom ro dom2 gref) plain = absurd plain

    pub source-via : (v w : View) (p : HeldPin) (dom : DomId) (ro : Bool) (dom2 : DomId) (gref : GrantRef) (named : DomId)
        → WalksLeg k leg v (leg_outcomes.Pinned p) w → p.entry ≡ Via dom ro dom2 gref
        → (dom2, named) ≡ source_pair caller copy dom2
        → Runs c k caller (source_leg c caller copy) v
        (through_via c (Source copy (Some p)) leg (dom2, named) dom2 gref) w
    source-via v w p dom ro dom2 gref named x e pair =
        runs-to c k caller (source_leg c caller copy) (after_source_pin c caller copy leg p p.entry)
        (through_via c (Source copy (Some p)) leg (dom2, named) dom2 gref) v w
        (ap (λ (y : Entry). after_source_pin c caller copy leg p y) e
        ∙ ap (λ (q : DomId × DomId). through_via c (Source copy (Some p)) leg q dom2 gref) (sym pair))
        (source-runs v (leg_outcomes.Pinned p) w x)

  -- the leg to its destination
  module _ (copy : CopyArgs) (source : AccessPath) (leg : Leg) (is : leg ≡ end_leg c caller copy.dest Write copy.len) where
    pub dest-can : (v : View) → CanRun c k caller (dest_leg c caller copy source) v → CanWalkLeg k leg v
    dest-can v can =
        subst (λ (l : Leg). CanWalkLeg k l v) (sym is)
        (leg-can c k caller (Dest copy source None) (end_leg c caller copy.dest Write copy.len) v can)

    pub dest-runs : (v : View) (next : LegNext) (w : View) → WalksLeg k leg v next w
        → Runs c k caller (dest_leg c caller copy source) v (after_leg c caller (Dest copy source None) leg next) w
    dest-runs v next w x =
        subst (λ (l : Leg). Runs c k caller (dest_leg c caller copy source) v
        (after_leg c caller (Dest copy source None) l next) w)
        (sym is)
        (leg-runs c k caller (Dest copy source None) (end_leg c caller copy.dest Write copy.len) v next w
        (subst (λ (l : Leg). WalksLeg k l v next w) is x))

    pub dest-refused : (v w : View) (denial : Denial) → WalksLeg k leg v (leg_outcomes.Refused denial) w
        → Runs c k caller (dest_leg c caller copy source) v
        (Ending (pins_so_far (Dest copy source None)) (Refused denial)) w
    dest-refused v w denial x = dest-runs v (leg_outcomes.Refused denial) w x

    pub dest-reached : (v w : View) (p : HeldPin) → WalksLeg k leg v (leg_outcomes.Pinned p) w → IsNoVia p.entry
        → Runs c k caller (dest_leg c caller copy source) v (Accessing copy source (Direct p)) w
    dest-reached v w p x plain =
        runs-to c k caller (dest_leg c caller copy source) (after_dest_pin c caller copy source leg p p.entry)
        (Accessing copy source (Direct p)) v w (by p.entry plain) (dest-runs v (leg_outcomes.Pinned p) w x)
      where
        by : (e : Entry) → IsNoVia e
            → after_dest_pin c caller copy source leg p e ≡ Accessing copy source (Direct p)
        by Invalid plain = refl
        by (Page dom ro frame) plain = refl
        by (Sub dom ro frame off len) plain = refl
        by (Via dom ro dom2 gref) plain = absurd plain

    pub dest-via : (v w : View) (p : HeldPin) (dom : DomId) (ro : Bool) (dom2 : DomId) (gref : GrantRef) (from : DomId)
        → WalksLeg k leg v (leg_outcomes.Pinned p) w → p.entry ≡ Via dom ro dom2 gref
        → (from, dom2) ≡ dest_pair caller source dom2
        → Runs c k caller (dest_leg c caller copy source) v
        (through_via c (Dest copy source (Some p)) leg (from, dom2) dom2 gref) w
    dest-via v w p dom ro dom2 gref from x e pair =
        runs-to c k caller (dest_leg c caller copy source) (after_dest_pin c caller copy source leg p p.entry)
        (through_via c (Dest copy source (Some p)) leg (from, dom2) dom2 gref) v w
        (ap (λ (y : Entry). after_dest_pin c caller copy source leg p y) e
        ∙ ap (λ (q : DomId × DomId). through_via c (Dest copy source (Some p)) leg q dom2 gref) (sym pair))
        (dest-runs v (leg_outcomes.Pinned p) w x)

  -- which legs a copy has
  pub source-walked : (copy : CopyArgs) → is_source_granted copy ≡ true
      → at_source c caller copy ≡ source_leg c caller copy
  source-walked copy e =
      ap (λ (b : Bool). if b then source_leg c caller copy else at_dest c caller copy Own) e

  pub source-own : (copy : CopyArgs) → is_source_granted copy ≡ false
      → at_source c caller copy ≡ at_dest c caller copy Own
  source-own copy e = ap (λ (b : Bool). if b then source_leg c caller copy else at_dest c caller copy Own) e

  pub dest-walked : (copy : CopyArgs) (source : AccessPath) → is_dest_granted copy ≡ true
      → at_dest c caller copy source ≡ dest_leg c caller copy source
  dest-walked copy source e =
      ap (λ (b : Bool). if b then dest_leg c caller copy source else Accessing copy source Own) e

  pub dest-own : (copy : CopyArgs) (source : AccessPath) → is_dest_granted copy ≡ false
      → at_dest c caller copy source ≡ Accessing copy source Own
  dest-own copy source e =
      ap (λ (b : Bool). if b then dest_leg c caller copy source else Accessing copy source Own) e
