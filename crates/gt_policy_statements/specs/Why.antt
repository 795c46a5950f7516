-- The answer to a question, and its statements.
use Rattle.std.specs.Prelude.{◌≡◌, ℕ, Bool, true, false, ◌==◌, List, [], ◌++◌, codes, length, filter, Option, Some}
use Rattle.std.specs.Prelude.{None, is_none, if◌then◌else◌}
use Rattle.std.specs.List.{flat_map, list_any}
use Rattle.std.specs.Option.{option_map}
use Rattle.gt_types.specs.Names.{every_permission, permission_name, permission_of}
use Rattle.gt_policy.specs.Granting.{is_named, statement_grants}
use Rattle.gt_policy.specs.Lined.{statements_in}
use Rattle.gt_policy.specs.Spelling.{types_in}
use Rattle.gt_policy.specs.declared.lined.LinedStatement.{LinedStatement}
use Rattle.gt_policy.specs.declared.statements.Statement.{Statement}
use Rattle.gt_policy_statements.specs.declared.members.Member.{Member}
use Rattle.gt_policy_statements.specs.declared.asking.WhyAnswer.{WhyAnswer}
use Rattle.gt_policy_statements.specs.declared.asking.WhyAnswer.TheVariants.{Allowed, Denied, NoSource, NoTarget}
use Rattle.gt_policy_statements.specs.declared.asking.WhyAnswer.TheVariants.{NoPermission}
use Rattle.gt_policy_statements.specs.declared.asking.Explanation.{Explanation}
use Rattle.gt_policy_statements.specs.declared.asking.WhyQuestion.{WhyQuestion}
use Rattle.gt_policy_statements.specs.Granting.{gives_of, near_of}
use Rattle.gt_policy_statements.specs.Members.{members_of}
use Rattle.gt_policy_statements.specs.Texts.{report_entry_text}

-- the name that is asked for; none for any type
abbrev pub source_asked : WhyQuestion → Option (List ℕ)
source_asked q = option_map (λ a. a.now) q.source

abbrev pub target_asked : WhyQuestion → Option (List ℕ)
target_asked q = option_map (λ a. a.now) q.target

-- the permission that is asked for; none for any permission
abbrev pub perm_asked : WhyQuestion → Option (List ℕ)
perm_asked q = option_map (λ a. a.now) q.perm

-- the type is asked for: by its name, by that of an attribute that it has, or as any type
abbrev pub is_meant : List Statement → Option (List ℕ) → List ℕ → Bool
is_meant ss (Some wanted) t = is_named ss wanted t
is_meant ss None t = true

-- the declared types that are asked for
abbrev pub types_asked : List LinedStatement → Option (List ℕ) → List (List ℕ)
types_asked xs asked = filter (is_meant (statements_in xs) asked) (types_in (statements_in xs))

-- the statement grants this permission to some source that is asked for, on some target that is asked for
abbrev pub grants_word : List LinedStatement → WhyQuestion → List ℕ → Statement → Bool
grants_word xs q w x = list_any
    (λ s. list_any (λ t. statement_grants (statements_in xs) s t w x) (types_asked xs (target_asked q)))
    (types_asked xs (source_asked q))

-- the same for a permission, or for any if there is none
abbrev pub grants_of : List LinedStatement → WhyQuestion → Option (List ℕ) → Statement → Bool
grants_of xs q (Some w) x = grants_word xs q w x
grants_of xs q None x = list_any (λ p. grants_word xs q (permission_name p) x) every_permission

-- the statement grants a permission that is asked for to some source on some target that are asked for
abbrev pub grants_asked : List LinedStatement → WhyQuestion → Statement → Bool
grants_asked xs q x = grants_of xs q (perm_asked q) x

-- the statement has a target that is asked for, and a permission or a source that is asked for
abbrev pub is_near : List LinedStatement → WhyQuestion → Statement → Bool
is_near xs q x = near_of (perm_asked q) (members_of xs (source_asked q)) (members_of xs (target_asked q)) x

-- a word that is asked for is not one of the seven permissions
abbrev pub is_unknown : Option (List ℕ) → Bool
is_unknown (Some w) = is_none (permission_of w)
is_unknown None = false

-- the line of a statement, if it passes the test
abbrev pub entry_if : (Statement → Bool) → List ℕ → List Member → List Member → LinedStatement → List ℕ
entry_if test file sources targets x = if test x.statement then report_entry_text file sources targets x else []

-- the lines of the statements that pass the test
abbrev pub entries_if : (Statement → Bool) → List ℕ → List Member → List Member → List LinedStatement → List ℕ
entries_if test file sources targets xs = flat_map (λ x. entry_if test file sources targets x) xs

-- the answer of these statements for these sources and targets
abbrev pub answer_to_why : Option (List ℕ) → List Member → List Member → List LinedStatement → WhyAnswer
answer_to_why perm sources targets xs = if is_unknown perm then NoPermission
    else (if length sources == 0 then NoSource
    else (if length targets == 0 then NoTarget
    else (if list_any (λ x. gives_of perm sources targets x.statement) xs then Allowed else Denied)))

-- the statements that are listed under an answer: those that grant the permission if it is allowed, and else the
-- near misses
abbrev pub is_listed_under : WhyAnswer → Option (List ℕ) → List Member → List Member → Statement → Bool
is_listed_under Allowed perm sources targets = gives_of perm sources targets
is_listed_under answer perm sources targets = near_of perm sources targets

-- the lines of an answer
abbrev pub lines_with : WhyAnswer → List ℕ → Option (List ℕ) → List Member → List Member → List LinedStatement
    → List ℕ
lines_with Allowed file perm sources targets xs =
    codes "allowed\n" ++ entries_if (gives_of perm sources targets) file sources targets xs
lines_with Denied file perm sources targets xs =
    codes "denied\n" ++ entries_if (near_of perm sources targets) file sources targets xs
lines_with NoSource file perm sources targets xs = []
lines_with NoTarget file perm sources targets xs = []
lines_with NoPermission file perm sources targets xs = []

-- the answer of a policy: allowed if some statement grants what is asked
abbrev pub why_answer : List LinedStatement → WhyQuestion → WhyAnswer
why_answer xs q = if is_unknown (perm_asked q) then NoPermission
    else (if length (types_asked xs (source_asked q)) == 0 then NoSource
    else (if length (types_asked xs (target_asked q)) == 0 then NoTarget
    else (if list_any (λ x. grants_asked xs q x.statement) xs then Allowed else Denied)))

-- the lines of the statements that pass the test
abbrev pub entries_of : (Statement → Bool) → List ℕ → List LinedStatement → WhyQuestion → List ℕ
entries_of test file xs q =
    flat_map (report_entry_text file (members_of xs (source_asked q)) (members_of xs (target_asked q)))
    (filter (λ x. test x.statement) xs)

-- The lines of an answer: for an allowed question those of exactly the statements that grant it, in the
-- order of the text.
abbrev pub lines_of : WhyAnswer → List ℕ → List LinedStatement → WhyQuestion → List ℕ
lines_of Allowed file xs q = codes "allowed\n" ++ entries_of (grants_asked xs q) file xs q
lines_of Denied file xs q = codes "denied\n" ++ entries_of (is_near xs q) file xs q
lines_of NoSource file xs q = []
lines_of NoTarget file xs q = []
lines_of NoPermission file xs q = []

-- the answer is that of the statements, with its lines
abbrev pub IsExplained : List ℕ → WhyQuestion → List LinedStatement → Explanation → Type 0
IsExplained file q xs e = (e.answer ≡ why_answer xs q) × (e.lines.items ≡ lines_of e.answer file xs q)
