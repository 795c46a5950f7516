-- How a read changes the bytes that a reader has left, and a write those that a writer holds.
use Rattle.std.specs.Prelude.{◌≡◌, ℕ, ◌≤◌, Bool, false, List, ◌++◌, length, take, Option, None, Some}
use Rattle.std.specs.Io.KnownBytes.{Appends, Consumes, IsAtEnd}

-- the reader lost at most this many bytes
abbrev pub ConsumesAtMost : ℕ → Option (List ℕ) → Option (List ℕ) → Type 0
ConsumesAtMost most old new = (read : List ℕ) × (length read ≤ most) × Consumes old new read

-- this holds of the bytes that the reader has left; if they are not known, of some
-- at most 1,048,577 bytes that it may have given
abbrev pub OfInput : Option (List ℕ) → (List ℕ → Type 0) → Type 0
OfInput None P = (input : List ℕ) × (length input ≤ 1048577) × P input
OfInput (Some all) P = P all

-- the buffer grew by the bytes that the reader lost, at most `room` of them;
-- if no more may follow, the reader has none left
pub record ReadsOn (room : ℕ) (more : Bool) (old new : Option (List ℕ)) (before after : List ℕ) : Type 0 where
  pub read : List ℕ
  pub grown : after ≡ before ++ read
  pub few : length read ≤ room
  pub lost : Consumes old new read
  pub ends : more ≡ false → IsAtEnd new

-- a prefix of the text went out, perhaps all of it
abbrev pub AppendsBeginning : Option (List ℕ) → Option (List ℕ) → List ℕ → Type 0
AppendsBeginning old new text = (n : ℕ) × (n ≤ length text) × Appends old new (take n text)

-- a prefix of the waiting bytes went out, and the rest still waits
abbrev pub Sends : Option (List ℕ) → Option (List ℕ) → List ℕ → List ℕ → Type 0
Sends old new before after = (sent : List ℕ) × (before ≡ sent ++ after) × Appends old new sent
