-- What one type may do, permission by permission.
use Rattle.std.specs.Prelude.{ℕ, ◌==◌, ◌&&◌, ◌||◌, Bool, false, List, [], ◌∷◌, if◌then◌else◌}
use Rattle.gt_types.specs.Names as names
use Rattle.gt_types.specs.declared.perms.Perms.{Perms}
use Rattle.gt_policy.specs.declared.rules.AllowRule.{AllowRule}
use Rattle.gt_policy.specs.declared.types.TypeSet.{TypeSet}
use Rattle.gt_policy.specs.TypeSets.{holds}

-- a statement grants its permissions to this source on this target
abbrev pub is_reached : AllowRule → ℕ → ℕ → Bool
is_reached rule s t = holds rule.source s && (holds rule.target t || (rule.itself && (t == s)))

-- a permission, and the types on which a source has it
abbrev pub Lane : Type 0
Lane = Perms × TypeSet

-- the source has the permission on the type, by the first lane of that permission
abbrev pub lanes_reach : List Lane → ℕ → Perms → Bool
lanes_reach [] t perm = false
lanes_reach (lane ∷ lanes) t perm = if lane.0.0 == perm.0 then holds lane.1 t else lanes_reach lanes t perm

-- one lane for each permission
abbrev pub lanes : TypeSet → TypeSet → TypeSet → TypeSet → TypeSet → TypeSet → TypeSet → List Lane
lanes map_read map_write unmap transfer setup copy query =
    (names.map_read, map_read) ∷ (names.map_write, map_write) ∷ (names.unmap, unmap) ∷ (names.transfer, transfer) ∷
    (names.setup, setup) ∷ (names.copy, copy) ∷ (names.query, query) ∷ []
