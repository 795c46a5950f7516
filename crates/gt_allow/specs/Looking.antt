-- The answers of a table of sets of permissions.
use Rattle.std.specs.Prelude.{◌≡◌, ℕ, ◌+◌, ◌*◌, ◌<◌, nat_lt, Bool, ◌&&◌, List, length}
use Rattle.std.specs.List.{slice_index_or}
use Rattle.gt_types.specs.Names.{is_permission}
use Rattle.gt_types.specs.declared.perms.Perms.{Perms}
use Rattle.gt_policy.specs.Allowing.{lists_perm}
use Rattle.gt_policy.specs.Resolving.{no_perms}
use Rattle.gt_policy.specs.Rows.{Lane, lanes_reach}

-- the number of types, and the permissions of each source on each target: by source
-- and then by target
pub record Table : Type 0 where
  pub count : ℕ
  pub sets : List Perms

-- the set at an index holds this one permission
abbrev pub holds_at : List Perms → ℕ → Perms → Bool
holds_at sets place perm = is_permission perm && lists_perm (slice_index_or sets place no_perms) perm

-- the table answers yes: both types are among its types, and the set of the pair holds the permission
abbrev pub looks_up : Table → ℕ → ℕ → Perms → Bool
looks_up table s t perm =
    (nat_lt s table.count && nat_lt t table.count) && holds_at table.sets (s * table.count + t) perm

-- the sets of one source, one for each of `count` targets
abbrev pub IsRow : List Lane → ℕ → List Perms → Type 0
IsRow row count sets =
    (length sets ≡ count) × ((t : ℕ) (perm : Perms) → t < count → holds_at sets t perm ≡ lanes_reach row t perm)

-- the sets of the first `sources` types as sources, each for `count` targets
abbrev pub AreRows : (ℕ → ℕ → Perms → Bool) → ℕ → ℕ → List Perms → Type 0
AreRows may count sources sets =
    (length sets ≡ sources * count)
    × ((s t : ℕ) (perm : Perms) → s < sources → t < count → holds_at sets (s * count + t) perm ≡ may s t perm)
