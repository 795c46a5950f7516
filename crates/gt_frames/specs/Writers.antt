-- The last writer of each byte of a frame, and the right by which it wrote.
use Rattle.std.specs.Prelude.{◌≡◌, ℕ, zero, suc, ◌+◌, ◌*◌, ◌<◌, ◌≤◌, Bool, false, true, ◌&&◌, ◌⊎◌, if◌then◌else◌}
use Rattle.std.specs.Prelude.{nat_le, nat_lt, List, [], ◌∷◌, length, replicate, slice_get, slice_index_or, Option}
use Rattle.std.specs.Prelude.{Some, None}
use Rattle.gt_types.specs.declared.limits.TheConstants.{FRAME_SIZE}
use Rattle.gt_model.specs.Written.{overlay}
use Rattle.gt_frames.specs.declared.writ.Writ.{Writ}
use Rattle.gt_frames.specs.declared.writ.WriteRecord.{WriteRecord}
use Rattle.gt_frames.specs.declared.writers.Stretch.{Stretch}
use Rattle.gt_frames.specs.declared.writers.Writers.{Writers}

-- the range of the record has this byte
abbrev pub has_byte : WriteRecord → ℕ → Bool
has_byte r at = nat_le r.off at && nat_lt at (r.off + length r.bytes)

-- the writ of the last of these records whose range has this byte, or else this one
abbrev pub last_writ : List WriteRecord → ℕ → Option Writ → Option Writ
last_writ [] at w = w
last_writ (r ∷ rs) at w = last_writ rs at (if has_byte r at then Some r.writ else w)

-- the writ with this number
abbrev pub writ_under : List Writ → ℕ → Option Writ
writ_under ws zero = None
writ_under ws (suc place) = slice_get ws place

-- the number of each byte: in the latest stretch that of the stretch, whatever the list below has there
unfoldable pub numbers_of : List ℕ → Stretch → List ℕ
numbers_of below s = overlay below s.off (replicate s.len s.number)

-- the stretch lies in the list
abbrev pub LiesIn : Stretch → List ℕ → Type 0
LiesIn s below = s.off + s.len ≤ length below

-- the writ by which the byte was last written, as it is kept
abbrev pub shown : Writers → ℕ → Option Writ
shown w at = writ_under w.writs.items (slice_index_or (numbers_of w.below.items w.latest) at 0)

-- the slot of this number is marked as used
abbrev pub IsUsed : List Bool → ℕ → Type 0
IsUsed used zero = Unit {0}
IsUsed used (suc place) = slice_index_or used place true ≡ true

-- the number of marked slots
abbrev pub count_used : List Bool → ℕ
count_used [] = 0
count_used (true ∷ used) = suc (count_used used)
count_used (false ∷ used) = count_used used

-- the maximum number of writs that a frame keeps
abbrev pub most_writs : ℕ
most_writs = 2 * FRAME_SIZE

-- the number is that of this writ, and its slot is marked
pub record HasWrit (w : Writers) (n : ℕ) (writ : Writ) : Type 0 where
  pub is : writ_under w.writs.items n ≡ Some writ
  pub within : n ≤ length w.writs.items
  pub used : IsUsed w.used.items n

-- if a writ was used last, it has the number kept beside it, and there are numbers for all bytes
pub record KeepsLast (w : Writers) : Type 0 where
  pub has : 0 < w.last → HasWrit w w.last w.last_writ
  pub len : 0 < w.last → length w.below.items ≡ FRAME_SIZE

-- each byte's number is 0 or that of a writ whose slot is marked, and the number of writs is within its bound
pub record AreWriters (w : Writers) : Type 0 where
  pub size : (length w.below.items ≡ 0) ⊎ (length w.below.items ≡ FRAME_SIZE)
  pub lies : LiesIn w.latest w.below.items
  pub within : (at : ℕ) → slice_index_or (numbers_of w.below.items w.latest) at 0 ≤ length w.writs.items
  pub marked : (at : ℕ) → IsUsed w.used.items (slice_index_or (numbers_of w.below.items w.latest) at 0)
  pub places : length w.used.items ≡ length w.writs.items
  pub few : length w.writs.items ≤ most_writs
  pub looks : w.limit ≤ most_writs
  pub last : KeepsLast w

-- each byte has the writ that it had
abbrev pub ShowsSame : Writers → Writers → Type 0
ShowsSame v w = (at : ℕ) → shown w at ≡ shown v at

-- the slot exists, and no byte has its writ
pub record IsFree (w : Writers) (place : ℕ) : Type 0 where
  pub inside : place < length w.writs.items
  pub unused : slice_index_or w.used.items place true ≡ false

-- each byte has the writ that it had, and the list of numbers keeps its length
pub record KeepsWriters (v w : Writers) : Type 0 where
  pub sound : AreWriters w
  pub same : ShowsSame v w
  pub len : length w.below.items ≡ length v.below.items

-- for each byte, the writ of this journal's last write to it is kept
pub record KnowsWriters (w : Writers) (journal : List WriteRecord) : Type 0 where
  pub sound : AreWriters w
  pub shows : (at : ℕ) → shown w at ≡ last_writ journal at None
