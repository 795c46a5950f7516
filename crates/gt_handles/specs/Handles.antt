-- What a contract sees of handles: a finite map from serial and key to values.
use Rattle.std.specs.Prelude.{◌≡◌, ℕ, ◌<◌, ◌≤◌, ◌==◌, List, Option, Some, None, if◌then◌else◌, is_some, count_by, IsSome}
use Rattle.std.specs.Prelude.{slice_index_or, refl}
use Rattle.std.specs.Coded.{Coded, code_by, coded×, coded_ℕ, coded_list, coded_option}
use Rattle.gt_model.specs.declared.handle.Handle.{Handle}
use Rattle.gt_handles.specs.declared.handles.HandleSlot.{HandleSlot}
use Rattle.gt_model.specs.Asking.{same_handle}

-- what each key holds, how many serials were given, and how many more values fit without an allocation
pub record HandleMap (T : Type 0) : Type 0 where
  pub slots : List (Option (HandleSlot T))
  pub given : ℕ
  pub room : ℕ

-- a slot is stored as the pair of its fields
abbrev pub slot_code : {T : Type 0} → Coded T → Coded (HandleSlot T)
slot_code {T} code =
    code_by (ℕ × T) (coded× coded_ℕ code) (λ s. (s.serial, s.value)) (λ p. record { serial = p.0; value = p.1 })
    (λ _. refl)

-- the map is stored as the tuple of its fields
abbrev pub kept_code : {T : Type 0} → Coded T → Coded (HandleMap T)
kept_code {T} code =
    code_by
    (List (Option (HandleSlot T)) × (ℕ × ℕ))
    (coded× (coded_list (coded_option (slot_code code))) (coded× coded_ℕ coded_ℕ))
    (λ s. (s.slots, (s.given, s.room)))
    (λ p. record { slots = p.0; given = p.1.0; room = p.1.1 })
    (λ _. refl)

module _ {T : Type 0} where
  -- the value of a slot, if the slot has this serial
  abbrev pub under : ℕ → Option (HandleSlot T) → Option T
  under serial None = None
  under serial (Some slot) = if slot.serial == serial then Some slot.value else None

  -- the value under a handle
  abbrev pub value_of : HandleMap T → Handle → Option T
  value_of s h = under h.serial (slice_index_or s.slots h.key None)

  -- the number of values
  abbrev pub count_of : HandleMap T → ℕ
  count_of s = count_by is_some s.slots

  -- the new map has `what` under the handle, and is unchanged under every other handle
  abbrev pub Updates : HandleMap T → HandleMap T → Handle → Option T → Type 0
  Updates old new h what =
      (other : Handle) → value_of new other ≡ (if same_handle other h then what else value_of old other)

  -- the handle was given, and has no value; by KeepsSpent it never has one again
  pub record IsSpent (s : HandleMap T) (h : Handle) : Type 0 where
    pub given : h.serial < s.given
    pub gone : value_of s h ≡ None

  -- a spent handle stays spent
  abbrev pub KeepsSpent : HandleMap T → HandleMap T → Type 0
  KeepsSpent old new = (h : Handle) → IsSpent old h → IsSpent new h

  -- no handle of a lower key has a value
  abbrev pub IsLeast : HandleMap T → ℕ → Type 0
  IsLeast s key = (lower : Handle) → lower.key < key → value_of s lower ≡ None

  -- no handle of a key from `from` on and below `key` has a value
  abbrev pub IsLeastFrom : HandleMap T → ℕ → ℕ → Type 0
  IsLeastFrom s from key = (lower : Handle) → from ≤ lower.key → lower.key < key → value_of s lower ≡ None

  -- no handle of a key from `from` on has a value
  abbrev pub IsEmptyFrom : HandleMap T → ℕ → Type 0
  IsEmptyFrom s from = (h : Handle) → from ≤ h.key → value_of s h ≡ None

  -- the handle is the one of the least key from `from` on that has a value
  pub record IsNextFrom (s : HandleMap T) (from : ℕ) (h : Handle) : Type 0 where
    pub there : IsSome (value_of s h)
    pub onwards : from ≤ h.key
    pub least : IsLeastFrom s from h.key

  -- what a search from a key on finds: the handle of the least key that has a value, or None if no key has one
  abbrev pub FindsNext : HandleMap T → ℕ → Option Handle → Type 0
  FindsNext s from None = IsEmptyFrom s from
  FindsNext s from (Some h) = IsNextFrom s from h

  -- no handle has a value
  pub record IsEmpty (s : HandleMap T) : Type 0 where
    pub count : count_of s ≡ 0
    pub none : (h : Handle) → value_of s h ≡ None

  -- each handle with a value has a serial that was given, and no other such handle has the same serial
  pub record HasSoundHandles (s : HandleMap T) : Type 0 where
    pub given : (h : Handle) (x : T) → value_of s h ≡ Some x → h.serial < s.given
    pub one : (a b : Handle) (x y : T) → value_of s a ≡ Some x → value_of s b ≡ Some y → a.serial ≡ b.serial
        → a.key ≡ b.key

  -- each slot has a serial that was given and that no other slot has, and no key below the lowest has a value
  pub record IsInOrder (slots : List (Option (HandleSlot T))) (next lowest : ℕ) : Type 0 where
    pub given : (key : ℕ) (slot : HandleSlot T) → slice_index_or slots key None ≡ Some slot → slot.serial < next
    pub one : (a b : ℕ) (x y : HandleSlot T) → slice_index_or slots a None ≡ Some x → slice_index_or slots b None ≡ Some y
        → x.serial ≡ y.serial → a ≡ b
    pub none : (key : ℕ) → key < lowest → slice_index_or slots key None ≡ None
