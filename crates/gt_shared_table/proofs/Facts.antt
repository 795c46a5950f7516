-- What the calls know between their steps.
use Rattle.std.proofs.Common.{◌≡◌, ℕ, ◌+◌, ◌-◌, ◌≤◌, inl, length-take, length-drop, List, [], ◌∷◌, arith, drop, take}
use Rattle.std.proofs.Common.{Bool, true, false, length, sym, refl, ap, ◌∙◌, subst}
use Rattle.std.specs.Prelude.{IsTrue, Some, None, ◌&&◌, ◌++◌}
use Rattle.atomic_table.specs.Table.{Allows, Me, rest}
use Rattle.gt_frames.specs.Frames.{FrameState, IsKept, all_rightful, bytes_at, contents, is_rightful, recorded}
use Rattle.gt_frames.specs.declared.writ.WriteRecord.{WriteRecord}
use Rattle.gt_types.specs.declared.DomId.{DomId}
use Rattle.gt_frames.specs.declared.writ.Writ.{Writ}
use Rattle.gt_word_history.specs.Views.{IsAmong}
use Rattle.gt_word_history.specs.declared.view.FrameStep.TheVariants.{Copied}
use Rattle.gt_shared_table.specs.declared.rule.FrameHolder.{FrameHolder}
use Rattle.gt_shared_table.specs.Rule.{Cell, HoldsAll, IsSlotOf, Places, slot_frame}
use Rattle.gt_shared_table.specs.declared.rule.FrameSlot.{FrameSlot}
use Rattle.atomic_table.specs.Seated.{TableId}
use Rattle.gt_shared_table.specs.Recording.{Accessed, Frees, IsByHeld, IsOut, OnlyLocked, Returns, Took, held_first}
use Rattle.gt_shared_table.specs.Recording.{holding, without_taken_frame, rest_held}
use Rattle.gt_shared_table.specs.Bytes.{journal_by}
use Rattle.gt_word_history.specs.History.{Layout}
use Rattle.gt_word_history.specs.declared.view.FrameStep.{FrameStep}
use Rattle.gt_shared_table.proofs.Steps.{frees, returns}
use Rattle.gt_types.specs.declared.limits.TheConstants.{FRAME_SIZE}

abbrev pub front : List (ℕ × Cell) → Cell
front [] = None
front (p ∷ ps) = p.1

pub one_value : (x y : FrameState) → Some x ≡ Some y → x ≡ y
one_value x y e = cc

-- a frame that was just taken is out, and was taken last
pub is_out : (b : Places) (s : FrameSlot) (me m : Me Cell FrameHolder) (t : Took b s me m) → IsOut b.layout s true t.0 m
is_out b s me m t = record {
  carried = ap (λ (z : Me Cell FrameHolder). z.1) t.1 ∙ ap (λ (z : Me Cell FrameHolder). (s.index, Some t.0) ∷ rest z.1) (sym t.1);
  left = inl (ap (λ (z : Me Cell FrameHolder). z.0.held) t.1 ∙ ap (λ (z : Me Cell FrameHolder). (s.index, t.0) ∷ rest_held z.0.held) (sym t.1));
  owner = t.2;
  number = t.3;
}

-- the frame that is moved out of its slot
pub moved_out : (k : Layout) (s : FrameSlot) (last : Bool) (x : FrameState) (me : Me Cell FrameHolder) → IsOut k s last x me → (c : Cell) (frame : FrameState)
    → me.1 ≡ (s.index, c) ∷ rest me.1 → c ≡ Some frame → IsOut k s last frame me
moved_out k s last x me out c frame e is =
    subst (λ (y : FrameState). IsOut k s last y me) (one_value x frame (ap front (sym out.carried ∙ e) ∙ is)) out

pub bytes_are : (x f : FrameState) (off n : ℕ) (out bs : List ℕ) → f ≡ x → out ≡ bs → bs ≡ bytes_at f off n → length bs ≡ n → out ≡ bytes_at x off (length out)
bytes_are x f off n out bs same is read len = is ∙ (read ∙ (λ i. bytes_at (same i) off (sym (ap length is ∙ len) i)))

-- the seat with this frame in the slot that it carries first
abbrev pub with_frame : FrameSlot → FrameState → Me Cell FrameHolder → Me Cell FrameHolder
with_frame s frame me = (me.0, (s.index, Some frame) ∷ rest me.1)

-- a frame that is out may be given back by this access
pub frees_out : (b : Places) (slots id : ℕ) (z : TableId) (s : FrameSlot) (last : Bool) (x frame : FrameState) (me : Me Cell FrameHolder) → IsSlotOf b z s → IsOut b.layout s last x me
    → (m : FrameStep) → frame ≡ record x { journal = journal_by m x.journal } → IsByHeld b me.0.held x m → me.0.own.gone ≡ false
    → Allows (HoldsAll b) slots id (with_frame s frame me) s.lock (λ _. 0) (λ _ m'. Frees b (slot_frame s) m (without_taken_frame last me.0.held) (with_frame s frame me) m')
frees_out b slots id z s last x frame me of out m is by_held here =
    subst (λ (i : ℕ). Allows (HoldsAll b) slots id (with_frame s frame me) i (λ _. 0) (λ _ m'. Frees b (slot_frame s) m (without_taken_frame last me.0.held) (with_frame s frame me) m')) (sym of.0)
    (frees b slots id (with_frame s frame me) s.index (slot_frame s) of.2 x (without_taken_frame last me.0.held) out.left frame (rest me.1) refl m is by_held here)

-- or as it was taken
pub returns_out : (b : Places) (slots id : ℕ) (z : TableId) (s : FrameSlot) (last : Bool) (x frame : FrameState) (me : Me Cell FrameHolder) → IsSlotOf b z s → IsOut b.layout s last x me → frame ≡ x
    → Allows (HoldsAll b) slots id (with_frame s frame me) s.lock (λ _. 0) (λ _ m'. Returns (without_taken_frame last me.0.held) (with_frame s frame me) m')
returns_out b slots id z s last x frame me of out is =
    subst (λ (i : ℕ). Allows (HoldsAll b) slots id (with_frame s frame me) i (λ _. 0) (λ _ m'. Returns (without_taken_frame last me.0.held) (with_frame s frame me) m')) (sym of.0)
    (returns b slots id (with_frame s frame me) s.index (slot_frame s) of.2 x (without_taken_frame last me.0.held) out.left (rest me.1) (ap (λ (y : FrameState). (s.index, Some y) ∷ rest me.1) is))

-- a frame that was taken and freed by an access: the seat did nothing else, and took its lock
pub accessed : (b : Places) (s : FrameSlot) (m : FrameStep) (me m1 m' : Me Cell FrameHolder) → Took b s me m1 → Frees b (slot_frame s) m (without_taken_frame true m1.0.held) m1 m' → Accessed b.layout (slot_frame s) m (slot_frame s ∷ me.0.locks) me m'
accessed b s m me m1 m' t freed =
    let f : Frees b (slot_frame s) m me.0.held (holding (slot_frame s) s.index t.0 me.0, (s.index, Some t.0) ∷ me.1) m' = subst (λ (z : Me Cell FrameHolder). Frees b (slot_frame s) m (without_taken_frame true z.0.held) z m') t.1 freed in
    (f.0, f.1, f.2)

-- a frame that was taken and returned: its lock was taken, and nothing else changed
pub unchanged : (b : Places) (s : FrameSlot) (me m1 m' : Me Cell FrameHolder) → Took b s me m1 → Returns (without_taken_frame true m1.0.held) m1 m' → OnlyLocked (slot_frame s ∷ me.0.locks) me m'
unchanged b s me m1 m' t back = subst (λ (z : Me Cell FrameHolder). Returns (without_taken_frame true z.0.held) z m') t.1 back

pub no_bytes_at : (x : FrameState) (off : ℕ) → [] ≡ bytes_at x off (length {A = ℕ} [])
no_bytes_at x off = let e : off + 0 - off ≡ 0 = omega arith in ap (λ (n : ℕ). take n (drop off (contents x))) (sym e)

pub bytes_len : (x : FrameState) (off len : ℕ) → length (contents x) ≡ FRAME_SIZE → off + len ≤ FRAME_SIZE → length (bytes_at x off len) ≡ len
bytes_len x off len size inside = grind (arith, length-take, length-drop)

pub bytes_again : (x : FrameState) (off len : ℕ) → length (contents x) ≡ FRAME_SIZE → off + len ≤ FRAME_SIZE → bytes_at x off len ≡ bytes_at x off (length (bytes_at x off len))
bytes_again x off len size inside = ap (bytes_at x off) (sym (bytes_len x off len size inside))

-- the frame that was just taken is the one that is carried first
pub took_is : (b : Places) (s : FrameSlot) (me m : Me Cell FrameHolder) (t : Took b s me m) (x : FrameState) → m.1 ≡ (s.index, Some x) ∷ rest m.1 → t.0 ≡ x
took_is b s me m t x e = one_value t.0 x (ap front (sym (ap (λ (z : Me Cell FrameHolder). z.1) t.1) ∙ e))

second_of : (a b : Bool) → IsTrue (a && b) → IsTrue b
second_of true b e = e
second_of false b e = absurd (cc e)

first_of : (a b : Bool) → IsTrue (a && b) → IsTrue a
first_of true b e = cc
first_of false b e = absurd (cc e)

-- the last record of a journal of rightful writes is by right
pub last_right : (owner : DomId) (number : ℕ) (rs : List WriteRecord) (r : WriteRecord) → IsTrue (all_rightful owner number (rs ++ r ∷ [])) → IsTrue (is_rightful owner number r)
last_right owner number [] r e = first_of (is_rightful owner number r) true e
last_right owner number (x ∷ rs) r e = last_right owner number rs r (second_of (is_rightful owner number x) (all_rightful owner number (rs ++ r ∷ [])) e)

-- a write that was made is by right
pub is_right : (x frame : FrameState) (w : Writ) (off : ℕ) (ys : List ℕ) → frame ≡ record x { journal = recorded x.journal w off ys } → IsKept frame
    → IsTrue (is_rightful x.owner x.number (record { writ = w; off = off; bytes = ys }))
is_right x frame w off ys is kept = last_right x.owner x.number x.journal (record { writ = w; off = off; bytes = ys }) (subst IsKept is kept)

-- a copy within a frame that was just taken
pub frees_within : (b : Places) (slots id : ℕ) (z : TableId) (s : FrameSlot) (me0 me : Me Cell FrameHolder) (t : Took b s me0 me) → IsSlotOf b z s → (x frame : FrameState) → IsOut b.layout s true x me
    → (w : Writ) (off len to : ℕ) → length (contents x) ≡ FRAME_SIZE → off + len ≤ FRAME_SIZE
    → frame ≡ record x { journal = recorded x.journal w to (bytes_at x off len) } → IsKept frame → me.0.own.gone ≡ false
    → Allows (HoldsAll b) slots id (with_frame s frame me) s.lock (λ _. 0) (λ _ m'. Frees b (slot_frame s) (Copied s.owner s.number off (record { writ = w; off = to; bytes = bytes_at (held_first me.0.held) off len })) (without_taken_frame true me.0.held) (with_frame s frame me) m')
frees_within b slots id z s me0 me t of x frame out w off len to size inside is kept here =
    let x_is : t.0 ≡ x = took_is b s me0 me t x out.carried in
    let held_is : me.0.held ≡ (s.index, x) ∷ me0.0.held = ap (λ (z : Me Cell FrameHolder). z.0.held) t.1 ∙ ap (λ (y : FrameState). (s.index, y) ∷ me0.0.held) x_is in
    subst (λ (y : FrameState). Allows (HoldsAll b) slots id (with_frame s frame me) s.lock (λ _. 0) (λ _ m'. Frees b (slot_frame s) (Copied s.owner s.number off (record { writ = w; off = to; bytes = bytes_at y off len })) (without_taken_frame true me.0.held) (with_frame s frame me) m')) (sym (ap held_first held_is))
    (frees_out b slots id z s true x frame me of out (Copied s.owner s.number off (record { writ = w; off = to; bytes = bytes_at x off len })) is
    ((s.index, x), subst (IsAmong (s.index, x)) (sym held_is) (inl refl), of.2, bytes_again x off len size inside, is_right x frame w to (bytes_at x off len) is kept) here)

-- the one frame that a seat has may go back as it was taken
pub returned_last : (b : Places) (slots id : ℕ) (z : TableId) (s : FrameSlot) (x : FrameState) (me m2 : Me Cell FrameHolder) → IsSlotOf b z s → me.0.held ≡ (s.index, x) ∷ []
    → m2 ≡ (me.0, (s.index, Some x) ∷ rest me.1) → Allows (HoldsAll b) slots id m2 s.lock (λ _. 0) (λ _ m'. Returns (without_taken_frame true m2.0.held) m2 m')
returned_last b slots id z s x me m2 of held e =
    let held_is : m2.0.held ≡ (s.index, x) ∷ [] = ap (λ (z : Me Cell FrameHolder). z.0.held) e ∙ held in
    subst (λ (i : ℕ). Allows (HoldsAll b) slots id m2 i (λ _. 0) (λ _ m'. Returns (without_taken_frame true m2.0.held) m2 m')) (sym of.0)
    (returns b slots id m2 s.index (slot_frame s) of.2 x (without_taken_frame true m2.0.held)
    (inl (held_is ∙ ap (λ (hs : List (ℕ × FrameState)). (s.index, x) ∷ rest_held hs) (sym held_is)))
    (rest me.1) (ap (λ (z : Me Cell FrameHolder). z.1) e))
