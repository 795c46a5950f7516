-- The leg that an open call makes is the one that its pins determine.
use Rattle.gt_core.proofs.Words.{inl, inr, ◌≡◌, ◌+◌, ℕ, refl, Bool, true, List, [], ◌∷◌, ◌++◌, map, reverse, Option}
use Rattle.gt_core.proofs.Words.{Some, None, cond, sym, ap, ◌∙◌, false≢true, DomId, Dir, Read, Write, Entry, Page, Sub}
use Rattle.gt_core.proofs.Words.{Via, permits, OpenRequest, CopyArgs, HeldPin, AccessPath, Direct, Through, PinPurpose}
use Rattle.gt_core.proofs.Words.{Mapping, Source, Dest, Leg, last_first, pins_so_far, held_by, CallerKnowledge}
use Rattle.gt_core.proofs.Words.{is_source_granted, is_dest_granted, source_pair, dest_pair, IsLegFor, IsToward}
use Rattle.gt_core.proofs.Words.{IsReached, IsOnFrom, GivesHeld, History, Setting, known_at, legs_at, LegNow, numbered}
use Rattle.gt_core.proofs.Words.{begun_access_path, leg_now, copy_now, toward_source, from_source, after_source, source_now}
use Rattle.gt_core.proofs.Words.{dest_now, second_now}
use Rattle.gt_types.specs.declared.Use.TheVariants as uses
use Rattle.gt_core.proofs.{Legs.IsLegOf}
use Rattle.gt_model.specs.declared.held.AccessPath.TheVariants.{Own}
use Rattle.gt_calls.specs.Resting.{IsCopyOf}

-- the pair whose right to copy a Via of this leg needs
abbrev pub pair_of : DomId → PinPurpose → DomId → DomId × DomId
pair_of d Mapping owner = (d, owner)
pair_of d (Source c via) owner = source_pair d c owner
pair_of d (Dest c source via) owner = dest_pair d source owner

pub unnumbered : (n : ℕ) (ps : List HeldPin) → map (λ (p : ℕ × HeldPin). p.1) (numbered n ps) ≡ ps
unnumbered n [] = refl
unnumbered n (p ∷ ps) = ap (λ (l : List HeldPin). p ∷ l) (unnumbered (n + 1) ps)

on-from : (k : CallerKnowledge) (n : LegNow) (e : Entry) (l : Leg) → IsOnFrom k n.leg e l → second_now k n e ≡ Some (record { leg = l; pair = n.pair })
on-from k n (Via dom ro dom2 gref) l is = ap (λ (x : Leg). Some (record { leg = x; pair = n.pair })) (sym is)
on-from k n e l is = absurd is

from-via : (k : CallerKnowledge) (d : DomId) (c : CopyArgs) (p : HeldPin) (e : Entry) (l : Leg) → IsOnFrom k (source_now k d c).leg e l → from_source k d c p e [] ≡ Some (record { leg = l; pair = source_pair d c })
from-via k d c p (Via dom ro dom2 gref) l is = on-from k (source_now k d c) (Via dom ro dom2 gref) l is
from-via k d c p e l is = absurd is

past-via : (k : CallerKnowledge) (d : DomId) (c : CopyArgs) (p q : HeldPin) (e : Entry) (more : List HeldPin) → GivesHeld e q → from_source k d c p e (q ∷ more) ≡ after_source k d c (Through p q) more
past-via k d c p q (Via dom ro dom2 gref) more leads = refl
past-via k d c p q e more leads = absurd leads

past-direct : (k : CallerKnowledge) (d judged : DomId) (dir : Dir) (off len : ℕ) (c : CopyArgs) (p : HeldPin) (e : Entry) (more : List HeldPin) → permits e judged dir uses.Copy off len ≡ true
    → from_source k d c p e more ≡ after_source k d c (Direct p) more
past-direct k d judged dir off len c p (Page dom ro frame) more may = refl
past-direct k d judged dir off len c p (Sub dom ro frame start size) more may = refl
past-direct k d judged dir off len c p e more may = absurd (false≢true may)

granted-source : (k : CallerKnowledge) (d : DomId) (c : CopyArgs) (held : List HeldPin) → is_source_granted c ≡ true → copy_now k d c held ≡ toward_source k d c held
granted-source k d c held e = ap (λ (b : Bool). cond b (toward_source k d c held) (after_source k d c Own held)) e

-- after the source is reached, the leg is that of the destination
reached-source : (k : CallerKnowledge) (d : DomId) (c : CopyArgs) (source : AccessPath) (held : List HeldPin) → IsReached k d (is_source_granted c) c.source Read c.len (source_pair d c) source
    → copy_now k d c (reverse (held_by source) ++ held) ≡ after_source k d c source held
reached-source k d c Own held is = ap (λ (b : Bool). cond b (toward_source k d c held) (after_source k d c Own held)) is.0
reached-source k d c (Direct p) held is = granted-source k d c (p ∷ held) is.0 ∙ past-direct k d d Read c.source.offset c.len c p p.entry held is.2.permitted
reached-source k d c (Through via p) held is = granted-source k d c (via ∷ p ∷ held) is.0 ∙ past-via k d c via p via.entry held is.2

toward-dest : (k : CallerKnowledge) (d : DomId) (c : CopyArgs) (source : AccessPath) (via : Option HeldPin) (l : Leg) → IsToward k d (is_dest_granted c) c.dest Write c.len (dest_pair d source) via l
    → after_source k d c source (held_by (begun_access_path via)) ≡ Some (record { leg = l; pair = dest_pair d source })
toward-dest k d c source None l is =
    ap (λ (b : Bool). cond b (Some (dest_now k d c source)) None) is.0 ∙ ap (λ (x : Leg). Some (record { leg = x; pair = dest_pair d source })) (sym is.1)
toward-dest k d c source (Some via) l is =
    ap (λ (b : Bool). cond b (second_now k (dest_now k d c source) via.entry) None) is.0 ∙ on-from k (dest_now k d c source) via.entry l is.2

toward-source : (k : CallerKnowledge) (d : DomId) (c : CopyArgs) (via : Option HeldPin) (l : Leg) → IsToward k d (is_source_granted c) c.source Read c.len (source_pair d c) via l
    → copy_now k d c (held_by (begun_access_path via)) ≡ Some (record { leg = l; pair = source_pair d c })
toward-source k d c None l is = granted-source k d c [] is.0 ∙ ap (λ (x : Leg). Some (record { leg = x; pair = source_pair d c })) (sym is.1)
toward-source k d c (Some via) l is = granted-source k d c (via ∷ []) is.0 ∙ from-via k d c via via.entry l is.2

-- the pins held, the first one first
first-source : (via : Option HeldPin) → reverse (held_by Own ++ held_by (begun_access_path via)) ≡ held_by (begun_access_path via)
first-source None = refl
first-source (Some via) = refl

first-dest : (source : AccessPath) (via : Option HeldPin) → reverse (held_by (begun_access_path via) ++ held_by source) ≡ reverse (held_by source) ++ held_by (begun_access_path via)
first-dest Own None = refl
first-dest (Direct p) None = refl
first-dest (Through v p) None = refl
first-dest source via = refl

-- a copy and its probe make the same legs
copy-leg : (k : CallerKnowledge) (d : DomId) (r : OpenRequest) (c : CopyArgs) (held : List HeldPin) → IsCopyOf r c → leg_now k d r held ≡ copy_now k d c held
copy-leg k d r c held (inl is) = ap (λ (z : OpenRequest). leg_now k d z held) is
copy-leg k d r c held (inr is) = ap (λ (z : OpenRequest). leg_now k d z held) is

walks : (k : CallerKnowledge) (d : DomId) (r : OpenRequest) (pin_purpose : PinPurpose) (l : Leg) → IsLegFor k d r pin_purpose l → leg_now k d r (reverse (last_first (pins_so_far pin_purpose))) ≡ Some (record { leg = l; pair = pair_of d pin_purpose })
walks k d r Mapping l is =
    ap (λ (z : OpenRequest). leg_now k d z []) is.of_map ∙ ap (λ (x : Leg). Some (record { leg = x; pair = pair_of d Mapping })) (sym is.leg_is)
walks k d r (Source c via) l is =
    copy-leg k d r c (reverse (last_first (pins_so_far (Source c via)))) is.0
    ∙ ap (copy_now k d c) (first-source via) ∙ toward-source k d c via l is.1
walks k d r (Dest c source via) l is =
    copy-leg k d r c (reverse (last_first (pins_so_far (Dest c source via)))) is.0
    ∙ ap (copy_now k d c) (first-dest source via) ∙ reached-source k d c source (held_by (begun_access_path via)) is.1 ∙ toward-dest k d c source via l is.2

-- the leg of a call is the one that its steps so far determine
pub leg-here : (s : Setting) (h : History) (d : DomId) (r : OpenRequest) (pin_purpose : PinPurpose) (l : Leg) → IsLegFor (known_at s h d) d r pin_purpose l → legs_at h d.0 ≡ numbered 0 (reverse (last_first (pins_so_far pin_purpose)))
    → IsLegOf s h d r l (pair_of d pin_purpose)
leg-here s h d r pin_purpose l is held =
    ap (λ (ps : List (ℕ × HeldPin)). leg_now (known_at s h d) d r (map (λ (p : ℕ × HeldPin). p.1) ps)) held
    ∙ ap (leg_now (known_at s h d) d r) (unnumbered 0 (reverse (last_first (pins_so_far pin_purpose)))) ∙ walks (known_at s h d) d r pin_purpose l is
