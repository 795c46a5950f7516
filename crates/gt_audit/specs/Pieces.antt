-- Records in pieces.
use Rattle.std.specs.Prelude.{◌≡◌, ℕ, zero, suc, ◌*◌, ◌-◌, ◌<◌, ◌≤◌, List, [], ◌∷◌, ◌++◌, length, slice_index_or}
use Rattle.gt_audit.specs.declared.record.Record.{Record}

-- the records, in order, and the number of further records that there is room for
pub record Filling : Type 0 where
  pub records : List Record
  pub room : ℕ

-- the records of all pieces, in order
abbrev pub joined : List (List Record) → List Record
joined [] = []
joined (p ∷ ps) = p ++ joined ps

-- the number of further records that there is room for
abbrev pub room_of : List (List Record) → ℕ
room_of ps = 256 * length ps - length (joined ps)

-- the pieces, each with room for 256 records, as one list
abbrev pub filling_of : List (List Record) → Filling
filling_of ps = record { records = joined ps; room = room_of ps }

-- the pieces before this index are full, and those after it are empty
abbrev pub AreFilled : ℕ → List (List Record) → Type 0
AreFilled at [] = at ≡ 0
AreFilled zero (p ∷ ps) = (length p ≤ 256) × (joined ps ≡ [])
AreFilled (suc at) (p ∷ ps) = (length p ≡ 256) × AreFilled at ps

-- the piece at this index has room, and those before it are full
abbrev pub HasRoomAt : ℕ → List (List Record) → Type 0
HasRoomAt n ps = AreFilled n ps × (n < length ps) × (length (slice_index_or ps n []) < 256)

-- empty pieces were added at the end
pub record AddsEmptyPieces (ps qs : List (List Record)) : Type 0 where
  pub records : joined qs ≡ joined ps
  pub filled : (n : ℕ) → AreFilled n ps → AreFilled n qs
  pub grows : length ps ≤ length qs
