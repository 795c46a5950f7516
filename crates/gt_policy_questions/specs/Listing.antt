-- Pairs of types, and the lines that tell whether each is allowed.
use Rattle.std.specs.Prelude.{ℕ, Bool, true, false, List, [], ◌++◌, codes, map, Option, Some, None}
use Rattle.std.specs.List.{flat_map, list_any, slice_get}
use Rattle.gt_types.specs.Names.{every_permission}
use Rattle.gt_types.specs.declared.TypeId.{TypeId}
use Rattle.gt_types.specs.declared.perms.Perms.{Perms}
use Rattle.gt_policy_statements.specs.declared.members.Member.{Member}
use Rattle.gt_policy_questions.specs.declared.listing.TypePair.{TypePair}

-- what a policy allows to a type on a type
abbrev pub PairPolicy : Type 0
PairPolicy = TypeId → TypeId → Perms → Bool

-- the pairs of a source with each of these targets
abbrev pub pairs_of : TypeId → List TypeId → List TypePair
pairs_of source targets = map (λ t. record { source = source; target = t }) targets

-- each source with each target, source by source
abbrev pub pairs_between : List TypeId → List TypeId → List TypePair
pairs_between sources targets = flat_map (λ s. pairs_of s targets) sources

-- the policy allows the permission to the source on the target; some permission, if none is named
abbrev pub is_pair_allowed : PairPolicy → Option Perms → TypePair → Bool
is_pair_allowed may (Some perm) pair = may pair.source pair.target perm
is_pair_allowed may None pair = list_any (λ p. may pair.source pair.target p) every_permission

-- the name of a type, by its number
abbrev pub name_of_member : Option Member → List ℕ
name_of_member None = []
name_of_member (Some member) = member.name

abbrev pub pair_type_name : List Member → TypeId → List ℕ
pair_type_name members id = name_of_member (slice_get members id.0)

abbrev pub allowed_word : Bool → List ℕ
allowed_word true = codes " allowed\n"
allowed_word false = codes " denied\n"

-- the line of a pair: `SOURCE TARGET allowed`, or `denied`
abbrev pub pair_line : PairPolicy → List Member → Option Perms → TypePair → List ℕ
pair_line may members perm pair =
    pair_type_name members pair.source ++ codes " " ++ pair_type_name members pair.target
    ++ allowed_word (is_pair_allowed may perm pair)
