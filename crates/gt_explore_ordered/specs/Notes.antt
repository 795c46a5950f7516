-- What a search keeps of an order: the letters of its text, and the marks of the precedences that hold.
use Rattle.std.specs.Prelude.{ℕ, Bool, false, List, [], ◌∷◌, map, Option, Some, None, ◌==◌, ◌||◌, if◌then◌else◌}
use Rattle.std.specs.List.{flat_map}

-- a letter of a text, or the mark of the precedence with this number
pub data Note : Type 0 where
  letter : ℕ → Note
  mark : ℕ → Note

-- a note as bytes
abbrev pub note_bytes : Note → List ℕ
note_bytes (letter b) = 0 ∷ b ∷ []
note_bytes (mark n) = 1 ∷ n ∷ []

abbrev pub bytes_of_notes : List Note → List ℕ
bytes_of_notes notes = flat_map note_bytes notes

-- the letters of a line as bytes
abbrev pub bytes_of_letters : List ℕ → List ℕ
bytes_of_letters line = bytes_of_notes (map letter line)

-- the mark of this number, if the precedence holds
abbrev pub mark_if : Bool → ℕ → List Note
mark_if b n = if b then mark n ∷ [] else []

-- the letters in these bytes, if the first byte of a note was read already
abbrev pub letters_in : Option ℕ → List ℕ → List ℕ
letters_in None [] = []
letters_in None (b ∷ bs) = letters_in (Some b) bs
letters_in (Some kind) [] = []
letters_in (Some kind) (b ∷ bs) = if kind == 0 then b ∷ letters_in None bs else letters_in None bs

-- whether these bytes have the mark of this number
abbrev pub has_mark : ℕ → Option ℕ → List ℕ → Bool
has_mark n None [] = false
has_mark n None (b ∷ bs) = has_mark n (Some b) bs
has_mark n (Some kind) [] = false
has_mark n (Some kind) (b ∷ bs) = if kind == 0 then has_mark n None bs else ((b == n) || has_mark n None bs)
