-- If a write is admitted, the frames after it exist.
use Rattle.std.proofs.Common.{◌≡◌, ◌≢◌, ℕ, zero, suc, ◌+◌, ◌<◌, ◌≤◌, ◌==◌, ◌&&◌, Bool, true, false, IsTrue, List, []}
use Rattle.std.proofs.Common.{◌∷◌, length, set, get_or, Option, Some, None, sym, refl, ap, ◌∙◌, subst, arith, eq-eqb}
use Rattle.std.proofs.lemmas.Bool.{eqb-true, and_parts}
use Rattle.std.proofs.lemmas.Bool.Decides.{nat_tests}
use Rattle.std.proofs.lemmas.List.{get_or-set_other, get_or-set_same}
use Rattle.std.proofs.lemmas.Option.{unwrap_or-slice_get}
use Rattle.gt_types.specs.declared.limits.TheConstants.{FRAME_SIZE}
use Rattle.gt_frames.proofs.Overlay.{laid_over}
use Rattle.gt_frames.proofs.Placing.{length-names_of, placed}
use Rattle.gt_frames.proofs.Writes.{all_rightful-append, replay-append}
use Rattle.gt_model.specs.Written.{IsLaidOver, overlay, zeros}
use Rattle.gt_frames.specs.Frames.{IsKept, contents, covers, is_rightful, recorded, with_write}
use Rattle.gt_frames.specs.Places.{frames_of, is_name, names_of}
use Rattle.gt_frames.specs.Sets.{AreKept, FrameSet, WritesTo, admits, frame_at, journal_in, place_in}
use Rattle.gt_types.specs.declared.places.FrameName.{FrameName}
use Rattle.gt_frames.specs.declared.writ.Writ.{Writ}
use Rattle.gt_frames.specs.declared.writ.WriteRecord.{WriteRecord}

module _ (fs : FrameSet) where
  -- the writes to n frames, starting at index i
  abbrev journals : ℕ → ℕ → List (List WriteRecord)
  journals zero i = []
  journals (suc n) i = journal_in (Some i) fs.journals ∷ journals n (suc i)

  many : (n i : ℕ) → length (journals n i) ≡ n
  many zero i = refl
  many (suc n) i = ap suc (many n (suc i))

  stands : (n i q : ℕ) → q < n → get_or (journals n i) q [] ≡ journal_in (Some (i + q)) fs.journals
  stands zero i q l = absurd (omega arith)
  stands (suc n) i zero l = let e : i ≡ i + 0 = omega arith in ap (λ (z : ℕ). journal_in (Some z) fs.journals) e
  stands (suc n) i (suc q) l = let e : suc i + q ≡ i + suc q = omega arith in stands n (suc i) q (omega arith) ∙ ap (λ (z : ℕ). journal_in (Some z) fs.journals) e

  -- the frames after a write to the one at an index
  abbrev after : ℕ → Writ → ℕ → List ℕ → FrameSet
  after place w off ys = record { domains = fs.domains; journals = set (journals (frames_of fs.domains) 0) place (recorded (journal_in (Some place) fs.journals) w off ys) }

  module _ (name : FrameName) (w : Writ) (off : ℕ) (ys : List ℕ) (place : ℕ) (is : place_in fs name ≡ Some place) (fits : off + length ys ≤ FRAME_SIZE) (right : IsTrue (covers w name.owner name.number off (length ys)))
      (kept : AreKept fs) (filled : length (contents (frame_at fs name)) ≡ FRAME_SIZE) where
    abbrev gs : FrameSet
    gs = after place w off ys

    -- the index of a frame is below their number
    below : (other : FrameName) (q : ℕ) → place_in fs other ≡ Some q → q < length (journals (frames_of fs.domains) 0)
    below other q e = let p = placed fs.domains other 0 q e in let a = p.place_is in let b = p.stands.below in omega (arith, length-names_of fs.domains, many (frames_of fs.domains) 0)

    here : frame_at gs name ≡ with_write (frame_at fs name) w off ys
    here =
        let v : List WriteRecord = recorded (journal_in (Some place) fs.journals) w off ys in
        let new : journal_in (place_in fs name) gs.journals ≡ v = ap (λ (o : Option ℕ). journal_in o gs.journals) is ∙ (unwrap_or-slice_get gs.journals place [] ∙ get_or-set_same (journals (frames_of fs.domains) 0) place v [] (below name place is)) in
        let old : v ≡ recorded (journal_in (place_in fs name) fs.journals) w off ys = ap (λ (o : Option ℕ). recorded (journal_in o fs.journals) w off ys) (sym is) in
        λ i. record { owner = name.owner; number = name.number; journal = (new ∙ old) i }

    -- different frames have different indices
    apart : (other : FrameName) (q : ℕ) → place_in fs other ≡ Some q → is_name other name ≡ false → q ≢ place
    apart other q e n same =
        let a = placed fs.domains other 0 q e in let b = placed fs.domains name 0 place is in let ai = a.place_is in let bi = b.place_is in
        let ways : a.way ≡ b.way = omega arith in
        let one : other ≡ name = sym (a.stands.named name) ∙ (ap (λ (i : ℕ). get_or (names_of fs.domains) i name) ways ∙ b.stands.named name) in
        let true_name : is_name other name ≡ true = subst (λ (z : FrameName). is_name z name ≡ true) (sym one) (λ i. eq-eqb name.owner.0 name.owner.0 refl i && eq-eqb name.number name.number refl i) in
        clash (is_name other name) n true_name
      where
        clash : (b : Bool) → b ≡ false → b ≡ true → ⊥
        clash true e f = cc
        clash false e f = cc

    others : (other : FrameName) → is_name other name ≡ false → frame_at gs other ≡ frame_at fs other
    others other n = let same = by (place_in fs other) refl in λ i. record { owner = other.owner; number = other.number; journal = same i }
      where
        by : (o : Option ℕ) → place_in fs other ≡ o → journal_in (place_in fs other) gs.journals ≡ journal_in (place_in fs other) fs.journals
        by None e = ap (λ (o : Option ℕ). journal_in o gs.journals) e ∙ sym (ap (λ (o : Option ℕ). journal_in o fs.journals) e)
        by (Some q) e =
            let v : List WriteRecord = recorded (journal_in (Some place) fs.journals) w off ys in
            let l = below other q e in let m = many (frames_of fs.domains) 0 in let zero_more : 0 + q ≡ q = omega arith in
            ap (λ (o : Option ℕ). journal_in o gs.journals) e
            ∙ (unwrap_or-slice_get gs.journals q [] ∙ (get_or-set_other (journals (frames_of fs.domains) 0) place q v [] (apart other q e n)
            ∙ (stands (frames_of fs.domains) 0 q (omega arith) ∙ (ap (λ (z : ℕ). journal_in (Some z) fs.journals) zero_more ∙ sym (ap (λ (o : Option ℕ). journal_in o fs.journals) e)))))

    laid : contents (frame_at gs name) ≡ overlay (contents (frame_at fs name)) off ys
    laid = ap contents here ∙ replay-append zeros (frame_at fs name).journal (record { writ = w; off = off; bytes = ys })

    written-so : WritesTo fs gs name w off ys
    written-so = record {
      domains = refl;
      write = record {
        journal = here;
        bytes = subst (IsLaidOver (contents (frame_at fs name)) off ys) (sym laid) (laid_over (contents (frame_at fs name)) off ys (omega (arith, filled)));
        contents = laid;
      };
      others = others;
    }

    rightful : IsKept (frame_at gs name)
    rightful =
        let one : IsTrue (is_rightful name.owner name.number (record { writ = w; off = off; bytes = ys })) = grind (arith, nat_tests) in
        subst IsKept (sym here) (all_rightful-append name.owner name.number (frame_at fs name).journal (record { writ = w; off = off; bytes = ys }) (kept name) one)

    still-kept : AreKept gs
    still-kept other = by (is_name other name) refl
      where
        by : (b : Bool) → is_name other name ≡ b → IsKept (frame_at gs other)
        by false e = subst IsKept (sym (others other e)) (kept other)
        by true e =
            let both = and_parts (other.owner.0 == name.owner.0) (other.number == name.number) e in
            let o = eqb-true other.owner.0 name.owner.0 both.0 in let n = eqb-true other.number name.number both.1 in
            let same : other ≡ name = λ i. record { owner = record { 0 = o i }; number = n i } in
            subst (λ (z : FrameName). IsKept (frame_at gs z)) (sym same) rightful

-- the frames after a write that is admitted
pub can-write : (fs : FrameSet) (name : FrameName) (w : Writ) (off : ℕ) (ys : List ℕ) → IsTrue (admits fs name w off (length ys)) → AreKept fs → length (contents (frame_at fs name)) ≡ FRAME_SIZE
    → (gs : FrameSet) × WritesTo fs gs name w off ys × AreKept gs
can-write fs name w off ys may kept filled = by (place_in fs name) refl
  where
    by : (o : Option ℕ) → place_in fs name ≡ o → (gs : FrameSet) × WritesTo fs gs name w off ys × AreKept gs
    by None e = absurd (grind (arith, nat_tests))
    by (Some place) e =
        let fits : off + length ys ≤ FRAME_SIZE = grind (arith, nat_tests) in
        let right : IsTrue (covers w name.owner name.number off (length ys)) = grind (arith, nat_tests) in
        (after fs place w off ys, written-so fs name w off ys place e fits right kept filled, still-kept fs name w off ys place e fits right kept filled)
