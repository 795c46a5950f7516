-- The values of a map as a list, each with its handle.
use Rattle.std.specs.Prelude.{◌≡◌, ◌+◌, ◌++◌, ◌≤◌, ℕ, Bool, false, List, [], ◌∷◌, length, Option, Some, None}
use Rattle.std.specs.Prelude.{if◌then◌else◌, cond, count_by}
use Rattle.gt_handles.specs.Handles.{HandleMap, Updates, count_of, value_of}
use Rattle.gt_model.specs.Asking.{same_handle}
use Rattle.gt_model.specs.declared.handle.Handle.{Handle}
use Rattle.gt_handles.specs.declared.handles.HandleSlot.{HandleSlot}

module _ {T : Type 0} where
  -- the first value that the list has under a handle
  abbrev pub listed : List (Handle × T) → Handle → Option T
  listed [] handle = None
  listed (m ∷ ms) handle = if same_handle m.0 handle then Some m.1 else listed ms handle

  -- the list without the first value under this handle
  abbrev pub unlisted : Handle → List (Handle × T) → List (Handle × T)
  unlisted handle [] = []
  unlisted handle (m ∷ ms) = if same_handle m.0 handle then ms else m ∷ unlisted handle ms

  -- no two values of the list have the same handle
  abbrev pub HandlesDiffer : List (Handle × T) → Type 0
  HandlesDiffer [] = Unit {0}
  HandlesDiffer (m ∷ ms) = (listed ms m.0 ≡ None) × HandlesDiffer ms

  -- the map has exactly the values of this list, and has given this number of serials
  pub record HasJust (kept : HandleMap T) (ms : List (Handle × T)) (given : ℕ) : Type 0 where
    pub named : value_of kept ≡ listed ms
    pub count : count_of kept ≡ length ms
    pub given_is : kept.given ≡ given
    pub apart : HandlesDiffer ms

  -- the slot has a value that passes the test
  abbrev pub has_passing : (T → Bool) → Option (HandleSlot T) → Bool
  has_passing passes None = false
  has_passing passes (Some slot) = passes slot.value

  -- the number of values that pass the test
  abbrev pub count_passing : (T → Bool) → HandleMap T → ℕ
  count_passing passes kept = count_by (has_passing passes) kept.slots

  -- the new map has one value more, under a handle that had none
  pub record IsInserted (old new : HandleMap T) (h : Handle) (x : T) : Type 0 where
    pub fresh : value_of old h ≡ None
    pub updates : Updates old new h (Some x)
    pub count : count_of new ≡ count_of old + 1
    pub given : new.given ≡ old.given + 1

  -- the new map lacks the value that was under this handle
  pub record IsTaken (old new : HandleMap T) (h : Handle) (x : T) : Type 0 where
    pub value : value_of old h ≡ Some x
    pub updates : Updates old new h None
    pub count : count_of new + 1 ≡ count_of old
    pub given : new.given ≡ old.given

-- a new map has the empty list of values
abbrev pub NothingIsListed : Type 0 → Type 0
NothingIsListed T = HasJust {T = T} (record { slots = []; given = 0; room = 0 }) [] 0

-- an insertion appends to the list
abbrev pub InsertedIsListed : Type 0 → Type 0
InsertedIsListed T =
    (old new : HandleMap T) (h : Handle) (x : T) (xs : List (Handle × T)) (n : ℕ) → IsInserted old new h x
    → HasJust old xs n → HasJust new (xs ++ (h, x) ∷ []) (n + 1)

-- a removal removes from the list
abbrev pub TakenIsUnlisted : Type 0 → Type 0
TakenIsUnlisted T =
    (old new : HandleMap T) (h : Handle) (x : T) (xs : List (Handle × T)) (n : ℕ) → IsTaken old new h x
    → HasJust old xs n → HasJust new (unlisted h xs) n

-- an insertion adds one to the number of values that pass a test if its value passes, and else keeps it
abbrev pub InsertedIsCounted : Type 0 → Type 0
InsertedIsCounted T =
    (passes : T → Bool) (old new : HandleMap T) (h : Handle) (x : T) → IsInserted old new h x
    → count_passing passes new ≡ count_passing passes old + cond (passes x) 1 0

-- a removal subtracts one from that number if its value passes, and else keeps it
abbrev pub TakenIsCounted : Type 0 → Type 0
TakenIsCounted T =
    (passes : T → Bool) (old new : HandleMap T) (h : Handle) (x : T) → IsTaken old new h x
    → count_passing passes new + cond (passes x) 1 0 ≡ count_passing passes old

-- no more values pass a test than there are
abbrev pub NoMorePass : Type 0 → Type 0
NoMorePass T = (passes : T → Bool) (kept : HandleMap T) → count_passing passes kept ≤ count_of kept
