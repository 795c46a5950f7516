-- One more write in the journal.
use Rattle.std.proofs.Common.{◌≡◌, ℕ, ◌+◌, ◌≤◌, IsTrue, List, [], ◌∷◌, ◌++◌, length, refl, sym, ◌∙◌, ap, subst, arith}
use Rattle.std.proofs.Common.{rules, slice_range, replicate}
use Rattle.std.proofs.lemmas.List.{length-replicate}
use Rattle.std.proofs.lemmas.Bool.Decides.{nat_tests}
use Rattle.gt_types.specs.declared.limits.TheConstants.{FRAME_SIZE}
use Rattle.gt_types.specs.declared.DomId.{DomId}
use Rattle.gt_frames.specs.declared.frame.FrameParts.{FrameParts}
use Rattle.gt_frames.specs.declared.writ.Writ.{Writ}
use Rattle.gt_frames.specs.declared.writ.WriteRecord.{WriteRecord}
use Rattle.gt_model.specs.Written.{overlay, zeros, replay, written, IsLaidOver}
use Rattle.gt_frames.specs.Frames.{FrameState, patches, contents, bytes_at, covers, is_rightful, all_rightful, IsKept}
use Rattle.gt_frames.specs.Frames.{IsSound, with_write, IsWrite}
use Rattle.gt_frames.proofs.Overlay.{length-overlay, laid_over}

pub replay-append : (xs : List ℕ) (rs : List WriteRecord) (r : WriteRecord) → replay xs (patches (rs ++ r ∷ [])) ≡ overlay (replay xs (patches rs)) r.off r.bytes
replay-append xs [] r = refl
replay-append xs (q ∷ rs) r = replay-append (overlay xs q.off q.bytes) rs r

pub all_rightful-append :
    (owner : DomId) (number : ℕ) (rs : List WriteRecord) (r : WriteRecord) → IsTrue (all_rightful owner number rs) → IsTrue (is_rightful owner number r)
    → IsTrue (all_rightful owner number (rs ++ r ∷ []))
all_rightful-append owner number [] r all one = search rules
all_rightful-append owner number (q ∷ rs) r all one = grind (arith, all_rightful-append owner number rs r)

module _
    (old : FrameState) (owner : DomId) (number : ℕ) (journal new_journal : List WriteRecord) (w : Writ) (off : ℕ) (ks : List ℕ)
    (was : record { owner = owner; number = number; journal = journal } ≡ old)
    (adds : new_journal ≡ journal ++ record { writ = w; off = off; bytes = ks } ∷ [])
  where
    -- the fields are sound after the write is stored
    pub sound_after :
        (bytes new_bytes : List ℕ) (len : ℕ)
        → IsSound owner number bytes journal
        → new_bytes ≡ overlay bytes off ks
        → length ks ≡ len
        → off + len ≤ FRAME_SIZE
        → IsTrue (covers w old.owner old.number off len)
        → IsSound owner number new_bytes new_journal
    sound_after bytes new_bytes len sound lays is fits right =
        let r : WriteRecord = record { writ = w; off = off; bytes = ks } in
        let covered : IsTrue (covers w owner number off len) = subst (λ (f : FrameState). IsTrue (covers w f.owner f.number off len)) (sym was) right in
        let in_right : IsTrue (covers w owner number off (length ks)) = subst (λ (n : ℕ). IsTrue (covers w owner number off n)) (sym is) covered in
        let one : IsTrue (is_rightful owner number r) = grind (arith, nat_tests) in
        record {
          replayed = lays ∙ ap (λ (l : List ℕ). overlay l off ks) sound.replayed ∙ sym (replay-append zeros journal r) ∙ ap (λ (rs : List WriteRecord). written (patches rs)) (sym adds);
          len = ap (λ (l : List ℕ). length l) lays ∙ length-overlay bytes off ks (omega (arith, sound.len)) ∙ sound.len;
          rightful = subst (λ (rs : List WriteRecord). IsTrue (all_rightful owner number rs)) (sym adds) (all_rightful-append owner number journal r sound.rightful one);
        }

    -- and each write was by right
    pub kept_after :
        (bytes : List ℕ) (len : ℕ)
        → IsSound owner number bytes journal
        → length ks ≡ len
        → off + len ≤ FRAME_SIZE
        → IsTrue (covers w old.owner old.number off len)
        → IsKept (record { owner = owner; number = number; journal = new_journal })
    kept_after bytes len sound is fits right = (sound_after bytes (overlay bytes off ks) len sound refl is fits right).rightful

    -- and what contracts see of them is the write
    pub is_write :
        (bytes : List ℕ) (len : ℕ) → IsSound owner number bytes journal → length ks ≡ len → off + len ≤ FRAME_SIZE → (ys : List ℕ) → ks ≡ ys
        → IsWrite old (record { owner = owner; number = number; journal = new_journal }) w off ys
    is_write bytes len sound is fits ys same =
        let new : FrameState = record { owner = owner; number = number; journal = new_journal } in
        let next : new ≡ with_write old w off ys = cc (was, adds, same) in
        let size : length (contents old) ≡ FRAME_SIZE = ap (λ (f : FrameState). length (contents f)) (sym was) ∙ ap (λ (l : List ℕ). length l) (sym sound.replayed) ∙ sound.len in
        let count : length ys ≡ len = ap (λ (l : List ℕ). length l) (sym same) ∙ is in
        let over : contents new ≡ overlay (contents old) off ys = ap contents next ∙ replay-append zeros old.journal (record { writ = w; off = off; bytes = ys }) in
        record {
          journal = next;
          contents = over;
          bytes = subst (λ (l : List ℕ). IsLaidOver (contents old) off ys l) (sym over) (laid_over (contents old) off ys (omega arith));
        }

-- the stored bytes of a range are the frame's
pub same_bytes :
    (f : FrameState) (owner : DomId) (number : ℕ) (bytes : List ℕ) (journal : List WriteRecord) (off len : ℕ)
    → record { owner = owner; number = number; journal = journal } ≡ f → IsSound owner number bytes journal
    → slice_range bytes off (off + len) ≡ bytes_at f off len
same_bytes f owner number bytes journal off len was sound =
    ap (λ (l : List ℕ). slice_range l off (off + len)) sound.replayed ∙ ap (λ (g : FrameState). bytes_at g off len) was

pub zeros_are : replicate FRAME_SIZE 0 ≡ zeros
zeros_are = unfold zeros in refl

-- a new frame is sound
pub new_sound : (owner : DomId) (number : ℕ) (bytes : List ℕ) (journal : List WriteRecord) → bytes ≡ replicate FRAME_SIZE 0 → journal ≡ [] → IsSound owner number bytes journal
new_sound owner number bytes journal fill none =
    record {
      replayed = fill ∙ zeros_are ∙ ap (λ (rs : List WriteRecord). written (patches rs)) (sym none);
      len = ap (λ (l : List ℕ). length l) fill ∙ length-replicate {A = ℕ} FRAME_SIZE 0;
      rightful = subst (λ (rs : List WriteRecord). IsTrue (all_rightful owner number rs)) (sym none) refl;
    }

-- what contracts see of a frame with these parts
abbrev pub seen : FrameParts → FrameState
seen p = record { owner = p.owner; number = p.number; journal = p.journal }

-- the parts are sound
abbrev pub IsSoundIn : FrameParts → Type 0
IsSoundIn p = IsSound p.owner p.number p.bytes p.journal
