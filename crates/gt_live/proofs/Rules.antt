-- What holds where no rule stands on a try of a map.
use Rattle.std.proofs.Common.{◌≡◌, ℕ, ◌/◌, ◌%◌, ◌<◌, ◌==◌, not, Bool, true, false, refl, sym, ap, ◌∙◌, subst, List}
use Rattle.std.proofs.Common.{◌∷◌, Option, Some, None, arith, nat_le}
use Rattle.std.specs.Prelude.{is_none, ◌||◌}
use Rattle.std.proofs.lemmas.Bool.{eqb-false, not-false}
use Rattle.gt_types.specs.declared.DomId.{DomId}
use Rattle.gt_types.specs.declared.Dir.{Dir}
use Rattle.gt_types.specs.declared.Dir.TheVariants.{Read, Write}
use Rattle.gt_types.specs.declared.Use.{Use}
use Rattle.gt_types.specs.declared.Use.TheVariants as uses
use Rattle.gt_types.specs.declared.denial.Rule.{Rule}
use Rattle.gt_types.specs.declared.denial.Rule.TheVariants.{N10, N11, N12, N14, N16, N17}
use Rattle.gt_model.specs.declared.entry.Entry.{Entry}
use Rattle.gt_model.specs.declared.entry.Entry.TheVariants.{Invalid, Page, Sub, Via}
use Rattle.gt_model.specs.declared.control.EntryKind.{EntryKind}
use Rattle.gt_model.specs.declared.control.EntryKind.TheVariants as kinds
use Rattle.gt_model.specs.Entries.{frame_of}
use Rattle.gt_model.specs.Words.{control_of, control_word, is_kind, kind_of, pins_of}
use Rattle.gt_model.specs.Spelling.{control_with, idle_word_of, entry_of, entry_with}
use Rattle.gt_model.specs.Permits.{is_copying, permits}
use Rattle.gt_word_history.specs.Controls.{pins_in}
use Rattle.gt_model.specs.declared.leg.Leg.{Leg}
use Rattle.gt_calls.specs.Resting.{Lets}
use Rattle.gt_model.specs.Rules.{before_pin, first, first_look, is_outside_sub, is_past_owner, stands}

-- none of a list of rules stands: the first does not, and none of the others
pub none-stands : (b : Bool) (n : Rule) (xs : List (Option Rule)) → first (stands b n ∷ xs) ≡ None → (b ≡ false) × (first xs ≡ None)
none-stands true n xs e = cc
none-stands false n xs e = (refl, e)

pub is-there : {A : Type 0} (o : Option A) → is_none o ≡ false → (a : A) × (o ≡ Some a)
is-there None e = cc
is-there (Some a) e = (a, refl)

is-page : (x : EntryKind) → is_kind x kinds.Page ≡ true → x ≡ kinds.Page
is-page kinds.Page e = refl
is-page kinds.Invalid e = cc
is-page kinds.Sub e = cc
is-page kinds.Via e = cc

-- a first look of a map leaves a page
pub page-seen : (l : Leg) (word : ℕ) → l.purpose ≡ uses.Map → first_look l (control_of word) ≡ None → kind_of word ≡ kinds.Page
page-seen l word map e =
    let x = control_of word in
    let a = none-stands (is_kind x.kind kinds.Invalid) N10 _ e in
    let b = none-stands (not (x.dom.0 == l.grantee.0)) N11 _ a.1 in
    let d = none-stands (not (is_copying l.purpose || is_kind x.kind kinds.Page)) N12 _ b.1 in
    let page : not (is_kind x.kind kinds.Page) ≡ false = ap (λ (u : Use). not (is_copying u || is_kind x.kind kinds.Page)) (sym map) ∙ d.0 in
    is-page x.kind (not-false _ page)

few : (dir : Dir) (word : ℕ) → (pins_of dir (control_of word) == 4095) ≡ false → pins_in dir word < 4095
few Read word e = let ne = eqb-false _ _ e in let lt : word / 16 % 4096 < 4096 = omega arith in omega (arith, ne)
few Write word e = let ne = eqb-false _ _ e in let lt : word / 65536 % 4096 < 4096 = omega arith in omega (arith, ne)

-- a word before a pin has room for one
pub room-for : (l : Leg) (word : ℕ) (entry : Entry) → before_pin l entry (pins_of l.dir (control_of word)) ≡ None → pins_in l.dir word < 4095
room-for l word entry e =
    let a = none-stands (is_outside_sub l entry) N14 _ e in
    let b = none-stands (is_past_owner l entry) N16 _ a.1 in
    let d = none-stands (pins_of l.dir (control_of word) == 4095) N17 _ b.1 in
    few l.dir word d.0

-- what a leg of a map finds permits its caller, and is of a frame of its owner's
pub lets-page : (l : Leg) (e : Entry) (dom : DomId) (ro : Bool) (frame : ℕ) → e ≡ Page dom ro frame → l.purpose ≡ uses.Map → l.off ≡ 0 → l.len ≡ 0 → Lets l e
    → (permits e l.grantee l.dir uses.Map 0 0 ≡ true) × (nat_le l.frames (frame_of e) ≡ false)
lets-page l e dom ro frame page map off len h =
    subst (λ (x : Entry). (permits x l.grantee l.dir uses.Map 0 0 ≡ true) × (nat_le l.frames (frame_of x) ≡ false)) (sym page) (subst (λ (x : Entry). Lets l x) page h)

pub page-spelled : (word a b : ℕ) → kind_of word ≡ kinds.Page → entry_of (control_of word) a b ≡ Page (control_of word).dom (control_of word).ro a
page-spelled word a b e = ap (λ (x : EntryKind). entry_with x (control_of word) a b) e

-- the owner's word of an entry
pub idle-is : (e : Entry) (g : ℕ) → control_word (control_with e g 0 0) ≡ idle_word_of e g
idle-is Invalid g = omega arith
idle-is (Page dom ro frame) g = omega arith
idle-is (Sub dom ro frame off len) g = omega arith
idle-is (Via dom ro dom2 gref) g = omega arith
