-- Records whose bytes were all written again later.
use Rattle.std.specs.Prelude.{◌≡◌, ℕ, ◌+◌, ◌≤◌, ◌⊎◌, Bool, true, false, ◌||◌, IsTrue, None, List, [], ◌∷◌, length}
use Rattle.gt_types.specs.declared.DomId.{DomId}
use Rattle.gt_types.specs.declared.limits.TheConstants.{FRAME_SIZE}
use Rattle.gt_frames.specs.declared.writ.WriteRecord.{WriteRecord}
use Rattle.gt_model.specs.Written.{written}
use Rattle.gt_frames.specs.Frames.{all_rightful, patches}
use Rattle.gt_frames.specs.Writers.{has_byte, last_writ}

-- one of these records has this byte in its range
abbrev pub some_has : List WriteRecord → ℕ → Bool
some_has [] at = false
some_has (r ∷ rs) at = has_byte r at || some_has rs at

-- each byte of the record's range was written again by one of these later records
abbrev pub IsCovered : WriteRecord → List WriteRecord → Type 0
IsCovered r later = (at : ℕ) → has_byte r at ≡ true → some_has later at ≡ true

-- each record lies in the frame
abbrev pub LieInside : List WriteRecord → Type 0
LieInside [] = Unit {0}
LieInside (r ∷ rs) = (r.off + length r.bytes ≤ FRAME_SIZE) × LieInside rs

-- ks are some of the other records, in their order
abbrev pub AreSomeOf : List WriteRecord → List WriteRecord → Type 0
AreSomeOf ks [] = ks ≡ []
AreSomeOf ks (r ∷ rs) = AreSomeOf ks rs ⊎ ((ls : List WriteRecord) × (ks ≡ r ∷ ls) × AreSomeOf ls rs)

-- ks are some of the journal's records, at most as many as a frame has bytes, and stand for all of it: they have the
-- same replay and the same last writ of each byte, and they are by right if all of the journal's are
pub record StandFor (journal ks : List WriteRecord) : Type 0 where
  pub some : AreSomeOf ks journal
  pub most : length ks ≤ FRAME_SIZE
  pub bytes : written (patches ks) ≡ written (patches journal)
  pub writs : (at : ℕ) → last_writ ks at None ≡ last_writ journal at None
  pub rightful : (owner : DomId) (number : ℕ) → IsTrue (all_rightful owner number journal) → IsTrue (all_rightful owner number ks)
