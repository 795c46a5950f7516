-- Types, with the names that denote them.
use Rattle.std.specs.Prelude.{ℕ, Bool, true, List, [], ◌∷◌, map, Option, Some, None, if◌then◌else◌}
use Rattle.std.specs.List.{flat_map, list_any}
use Rattle.std.specs.Str.{bytes_eq}
use Rattle.gt_policy.specs.declared.lined.LinedStatement.{LinedStatement}
use Rattle.gt_policy.specs.declared.statements.Statement.{Statement}
use Rattle.gt_policy.specs.declared.statements.Statement.TheVariants.{DeclareType, DeclareAttribute, GiveAttributes}
use Rattle.gt_policy.specs.declared.statements.Statement.TheVariants.{Allow}
use Rattle.gt_policy_statements.specs.declared.members.Member.{Member}

-- the attributes that a statement gives the type (SELinux policy language: type, typeattribute)
abbrev pub names_given : List ℕ → Statement → List (List ℕ)
names_given t (DeclareType w ms) = if bytes_eq w t then map (λ m. m.name) ms else []
names_given t (DeclareAttribute w) = []
names_given t (GiveAttributes m ms) = if bytes_eq m.name t then map (λ n. n.name) ms else []
names_given t (Allow a) = []

-- the names that denote a type: its own, and those of the attributes that statements give it (SELinux policy language)
abbrev pub names_in_lines : List LinedStatement → List ℕ → List (List ℕ)
names_in_lines xs t = t ∷ flat_map (λ x. names_given t x.statement) xs

-- a type with the names that denote it
abbrev pub membership_of : List LinedStatement → List ℕ → Member
membership_of xs t = record { name = t; names = names_in_lines xs t }

-- a type with these names is asked for: by one of them, or as any type
abbrev pub is_asked : Option (List ℕ) → List (List ℕ) → Bool
is_asked (Some wanted) names = list_any (λ v. bytes_eq v wanted) names
is_asked None names = true

-- the type that a statement declares, if it is asked for
abbrev pub members_in : List LinedStatement → Option (List ℕ) → Statement → List Member
members_in xs asked (DeclareType w ms) = if is_asked asked (names_in_lines xs w) then membership_of xs w ∷ [] else []
members_in xs asked (DeclareAttribute w) = []
members_in xs asked (GiveAttributes m ms) = []
members_in xs asked (Allow a) = []

-- the declared types that are asked for, in the order of their declarations
abbrev pub members_of : List LinedStatement → Option (List ℕ) → List Member
members_of xs asked = flat_map (λ x. members_in xs asked x.statement) xs
