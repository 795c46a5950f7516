-- Which lines a choice keeps.
use Rattle.std.specs.Prelude.{◌≡◌, ◌⊎◌, ℕ, ◌<◌, ◌++◌, Bool, true, false, List, [], ◌∷◌, length, map, not}
use Rattle.std.specs.Prelude.{Option, Some, None, if◌then◌else◌, slice_get}
use Rattle.std.specs.List.{flat_map, list_any}
use Rattle.std.specs.Str.{bytes_eq}
use Rattle.gt_explore_choices.specs.Kinds.{Kind, fixed, must, may, leave}
use Rattle.gt_explore_choices.specs.declared.choosing.OpenChoice.{OpenChoice}

-- ---- what a choice is

-- the domain whose list a line is of
abbrev pub list_domain : Kind → Option (List ℕ)
list_domain fixed = None
list_domain (must dom) = Some dom
list_domain (may dom) = Some dom
list_domain (leave dom) = Some dom

-- after the line at this index, no line of the domain is kept
abbrev pub AreLeftOut : List Kind → List Bool → List ℕ → ℕ → Type 0
AreLeftOut kinds kept dom at =
    (k : ℕ) → at < k → slice_get (map list_domain kinds) k ≡ Some (Some dom) → slice_get kept k ≡ Some false

-- the domain leaves at the line of this index: it is one of its `leave` lines, and no later line of it is kept
pub record LeavesAt (kinds : List Kind) (kept : List Bool) (dom : List ℕ) (at : ℕ) : Type 0 where
  pub line : slice_get kinds at ≡ Some (leave dom)
  pub after : AreLeftOut kinds kept dom at

-- it leaves before this index
abbrev pub LeavesBefore : List Kind → List Bool → List ℕ → ℕ → Type 0
LeavesBefore kinds kept dom k = (at : ℕ) × (at < k) × LeavesAt kinds kept dom at

-- These lines are kept in some choice: each line has a flag. A line without a domain is kept, and a `leave` line is
-- not. Any other is kept, unless it is a `maybe` line, or its domain leaves before it.
pub record IsChoice (kinds : List Kind) (kept : List Bool) : Type 0 where
  pub many : length kept ≡ length kinds
  pub stays : (k : ℕ) → slice_get kinds k ≡ Some fixed → slice_get kept k ≡ Some true
  pub marks : (k : ℕ) (dom : List ℕ) → slice_get kinds k ≡ Some (leave dom) → slice_get kept k ≡ Some false
  pub listed : (k : ℕ) (dom : List ℕ) → slice_get kinds k ≡ Some (must dom)
      → (slice_get kept k ≡ Some true) ⊎ LeavesBefore kinds kept dom k

-- ---- how choices are found, line by line

-- a choice of the lines so far, and the domains that left
pub record Open : Type 0 where
  pub kept : List Bool
  pub left : List (List ℕ)

abbrev pub open_seen : OpenChoice → Open
open_seen o = record { kept = o.kept.items; left = map (λ d. d.now) o.left.items }

abbrev pub has_left : List (List ℕ) → List ℕ → Bool
has_left left dom = list_any (λ other. bytes_eq other dom) left

abbrev pub first_open : Open
first_open = record { kept = []; left = [] }

-- a choice with one more line
abbrev pub with_kept : Bool → Open → Open
with_kept is_kept o = record { kept = o.kept ++ is_kept ∷ []; left = o.left }

-- the domain leaves at a line
abbrev pub leaving : List ℕ → Open → Open
leaving dom o = record { kept = o.kept ++ false ∷ []; left = o.left ++ dom ∷ [] }

-- what a choice becomes at a line
abbrev pub widened : Kind → Open → List Open
widened fixed o = with_kept true o ∷ []
widened (must dom) o = with_kept (not (has_left o.left dom)) o ∷ []
widened (may dom) o =
    if has_left o.left dom then with_kept false o ∷ [] else with_kept true o ∷ with_kept false o ∷ []
widened (leave dom) o =
    if has_left o.left dom then with_kept false o ∷ [] else with_kept false o ∷ leaving dom o ∷ []

-- what choices become at these lines
abbrev pub widened_all : List Kind → List Open → List Open
widened_all [] os = os
widened_all (kind ∷ kinds) os = widened_all kinds (flat_map (widened kind) os)
