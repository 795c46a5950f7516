-- The lines of the allowed triples.
use Rattle.std.specs.Prelude.{ℕ, Bool, List, ◌++◌, codes, map, filter, flat_map}
use Rattle.gt_types.specs.Names as names
use Rattle.gt_types.specs.declared.TypeId.{TypeId}
use Rattle.gt_types.specs.declared.perms.Perms.{Perms}
use Rattle.gt_types.specs.declared.rights.Triple.{Triple}
use Rattle.gt_policy.specs.Listing.{type_name_of}

-- `SOURCE TARGET PERMISSION`
abbrev pub triple_line : List ℕ → List ℕ → Perms → List ℕ
triple_line source target perm = source ++ codes " " ++ target ++ codes " " ++ names.permission_name perm ++ codes "\n"

-- the line of a triple, by the names of its types
abbrev pub line_of_triple : List (List ℕ) → Triple → List ℕ
line_of_triple types x = triple_line (type_name_of types x.source.0) (type_name_of types x.target.0) x.perm

-- all triples of a source and a target, by permission
abbrev pub pair_triples : TypeId → TypeId → List Triple
pair_triples source target =
    map (λ perm. record { source = source; target = target; perm = perm }) names.every_permission

-- all triples of these types: by source, then by target, then by permission
abbrev pub triples_of : List TypeId → List Triple
triples_of ids = flat_map (λ source. flat_map (λ target. pair_triples source target) ids) ids

-- a triple is allowed
abbrev pub is_allowed_triple : (ℕ → ℕ → Perms → Bool) → Triple → Bool
is_allowed_triple may x = may x.source.0 x.target.0 x.perm

-- the lines of the allowed triples of these types, in order
abbrev pub listing : List (List ℕ) → (ℕ → ℕ → Perms → Bool) → List TypeId → List ℕ
listing types may ids = flat_map (line_of_triple types) (filter (is_allowed_triple may) (triples_of ids))
