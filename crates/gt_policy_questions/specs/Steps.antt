-- The text of a path.
use Rattle.std.specs.Prelude.{ℕ, Bool, List, [], ◌∷◌, ◌++◌, codes, decimal, find, Option, Some, None}
use Rattle.std.specs.List.{slice_get}
use Rattle.gt_types.specs.declared.TypeId.{TypeId}
use Rattle.gt_flow.specs.Flow.{FlowPolicy}
use Rattle.gt_flow.specs.Accesses.{allowed_access}
use Rattle.gt_flow.specs.declared.accesses.Access.{Access}
use Rattle.gt_flow.specs.declared.accesses.Access.TheVariants as accesses
use Rattle.gt_policy.specs.declared.lined.LinedStatement.{LinedStatement}
use Rattle.gt_policy_statements.specs.Granting.{gives_one}
use Rattle.gt_policy_statements.specs.declared.members.Member.{Member}
use Rattle.gt_policy_questions.specs.Listing.{pair_type_name}
use Rattle.gt_policy_questions.specs.Format.{by_format, name_text}
use Rattle.gt_policy_questions.specs.declared.flows.format.FlowFormat.{FlowFormat}

-- the line of a statement, if there is one
abbrev pub line_at : Option LinedStatement → ℕ
line_at None = 0
line_at (Some stated) = stated.line

-- the line of the first statement that grants the permission to the source on the target
abbrev pub first_granting_line : List LinedStatement → Member → Member → List ℕ → ℕ
first_granting_line xs source target perm = line_at (find (λ x. gives_one perm source target x.statement) xs)

abbrev pub granting_line : List LinedStatement → Option Member → Option Member → List ℕ → ℕ
granting_line xs (Some source) (Some target) perm = first_granting_line xs source target perm
granting_line xs (Some source) None perm = 0
granting_line xs None target perm = 0

abbrev pub line_between : List LinedStatement → List Member → TypeId → TypeId → List ℕ → ℕ
line_between xs members source target perm =
    granting_line xs (slice_get members source.0) (slice_get members target.0) perm

-- a permission, with the line of the first statement that grants it
abbrev pub permission_text : FlowFormat → List LinedStatement → List Member → TypeId → TypeId → List ℕ → List ℕ
permission_text format xs members x y perm =
    by_format format [] (codes "{\"perm\":\"") ++ perm
    ++ by_format format (codes " (line ") (codes "\",\"line\":") ++ decimal (line_between xs members x y perm)
    ++ by_format format (codes ")") (codes "}")

-- what an access from type x to type y asks for: a load the second type on the first, and a copy or a store the first
-- on the second
abbrev pub access_text : FlowFormat → List LinedStatement → List Member → TypeId → TypeId → Option Access → List ℕ
access_text format xs members x y None = []
access_text format xs members x y (Some accesses.Load) =
    by_format format [] (codes "\"access\":\"load\",\"perms\":[")
    ++ permission_text format xs members y x (codes "map_read") ++ by_format format [] (codes "]")
access_text format xs members x y (Some accesses.Copy) =
    by_format format [] (codes "\"access\":\"copy\",\"perms\":[")
    ++ permission_text format xs members x y (codes "copy") ++ by_format format [] (codes "]")
access_text format xs members x y (Some accesses.Store) =
    by_format format [] (codes "\"access\":\"store\",\"perms\":[")
    ++ permission_text format xs members x y (codes "map_read") ++ by_format format (codes ", ") (codes ",")
    ++ permission_text format xs members x y (codes "map_write") ++ by_format format [] (codes "]")

-- the names of two types
abbrev pub type_pair_text : FlowFormat → List Member → TypeId → TypeId → List ℕ
type_pair_text format members x y =
    by_format format [] (codes "{\"source\":") ++ name_text format (pair_type_name members x)
    ++ by_format format (codes " -> ") (codes ",\"target\":") ++ name_text format (pair_type_name members y)
    ++ by_format format (codes "  ") (codes ",")

-- a line of a path
abbrev pub path_line_text : FlowFormat → FlowPolicy → (TypeId → Bool) → List LinedStatement → List Member → TypeId
    → TypeId → List ℕ
path_line_text format may trusted xs members x y =
    by_format format (codes "  ") [] ++ type_pair_text format members x y
    ++ access_text format xs members x y (allowed_access may (trusted x) x y)
    ++ by_format format (codes "\n") (codes "}\n")

-- the lines of a path from type x
abbrev pub path_text : FlowFormat → FlowPolicy → (TypeId → Bool) → List LinedStatement → List Member → TypeId
    → List TypeId → List ℕ
path_text format may trusted xs members x [] = []
path_text format may trusted xs members x (y ∷ path) =
    path_line_text format may trusted xs members x y ++ path_text format may trusted xs members y path

-- the number of accesses of a path, after the names of its types
abbrev pub accesses_text : FlowFormat → ℕ → List ℕ
accesses_text format accesses =
    by_format format [] (codes "\"accesses\":") ++ decimal accesses ++ by_format format (codes "\n") (codes "}\n")

-- the same if there is no path
abbrev pub no_path_text : FlowFormat → List ℕ
no_path_text format = by_format format (codes "none\n") (codes "\"accesses\":null}\n")
