-- The lines of a source, triple by triple.
use Rattle.std.specs.Prelude.{ℕ, Bool, List, [], if◌then◌else◌, flat_map}
use Rattle.gt_types.specs.Names.{every_permission}
use Rattle.gt_types.specs.declared.TypeId.{TypeId}
use Rattle.gt_types.specs.declared.perms.Perms.{Perms}
use Rattle.gt_types.specs.declared.rights.Triple.{Triple}
use Rattle.gt_policy_list.specs.Listing.{line_of_triple, is_allowed_triple}

-- the line of a triple, if it is allowed
abbrev pub triple_text : List (List ℕ) → (ℕ → ℕ → Perms → Bool) → Triple → List ℕ
triple_text types may x = if is_allowed_triple may x then line_of_triple types x else []

-- the lines of a source and a target, one for each allowed permission
abbrev pub pair_text : List (List ℕ) → (ℕ → ℕ → Perms → Bool) → TypeId → TypeId → List ℕ
pair_text types may source target =
    flat_map (λ perm. triple_text types may (record { source = source; target = target; perm = perm })) every_permission

-- the lines of a source, with each target in turn
abbrev pub source_text : List (List ℕ) → (ℕ → ℕ → Perms → Bool) → List TypeId → TypeId → List ℕ
source_text types may ids source = flat_map (λ target. pair_text types may source target) ids
