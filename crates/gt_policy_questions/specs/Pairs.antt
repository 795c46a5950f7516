-- The answers for the pairs that a question asks for.
use Rattle.std.specs.Prelude.{◌≡◌, ℕ, zero, suc, Bool, true, false, List, [], ◌∷◌, ◌++◌, filter, length, Option, Some}
use Rattle.std.specs.Prelude.{None, Ok}
use Rattle.std.specs.List.{flat_map, slice_get}
use Rattle.std.specs.Option.{option_map}
use Rattle.gt_types.specs.declared.TypeId.{TypeId}
use Rattle.gt_policy.specs.Allowing.{Meaning, is_allowed}
use Rattle.gt_policy.specs.Lined.{IsLined}
use Rattle.gt_policy.specs.Whole.{ReadsAs}
use Rattle.gt_policy.specs.declared.lined.LinedStatement.{LinedStatement}
use Rattle.gt_policy_statements.specs.Members.{is_asked, members_of}
use Rattle.gt_policy_statements.specs.declared.members.Member.{Member}
use Rattle.gt_policy_questions.specs.Listing.{PairPolicy, is_pair_allowed, pair_line, pairs_between}
use Rattle.gt_policy_questions.specs.declared.asking.PairsQuestion.{PairsQuestion}
use Rattle.gt_policy_questions.specs.declared.asking.PairsReport.{PairsReport}

-- a type is asked for, by its number
abbrev pub is_some_asked : Option Member → Option (List ℕ) → Bool
is_some_asked None asked = false
is_some_asked (Some member) asked = is_asked asked member.names

abbrev pub is_type_asked : List Member → Option (List ℕ) → ℕ → Bool
is_type_asked members asked id = is_some_asked (slice_get members id) asked

-- the type, if it is asked for
abbrev pub type_if : Bool → ℕ → List TypeId
type_if true id = record { 0 = id } ∷ []
type_if false id = []

-- the types that are asked for, among the first ones of this number
unfoldable pub types_asked_of : List Member → Option (List ℕ) → ℕ → List TypeId
types_asked_of members asked zero = []
types_asked_of members asked (suc n) =
    types_asked_of members asked n ++ type_if (is_type_asked members asked n) n

-- the report has a line for each of these pairs, and the numbers of the allowed ones and of all
pub record Reported (may : PairPolicy) (members : List Member) (q : PairsQuestion) (sources targets : List TypeId)
    (report : PairsReport) : Type 0 where
  pub allowed : report.allowed ≡ length (filter (is_pair_allowed may q.perm) (pairs_between sources targets))
  pub pairs : report.pairs ≡ length (pairs_between sources targets)
  pub lines : report.lines.items ≡ flat_map (pair_line may members q.perm) (pairs_between sources targets)

-- the pairs are those of each type asked for as the source with each asked for as the target
abbrev pub AnswersPairs : PairPolicy → ℕ → List LinedStatement → PairsQuestion → PairsReport → Type 0
AnswersPairs may count xs q report =
    let members = members_of xs None in
    Reported may members q (types_asked_of members (option_map (λ a. a.now) q.source) count)
    (types_asked_of members (option_map (λ a. a.now) q.target) count) report

-- what the types of a policy may do, by their numbers
abbrev pub pair_policy : Meaning → PairPolicy
pair_policy m source target perm = is_allowed m source.0 target.0 perm

-- the answers to a question about the policy of a text
abbrev pub ArePairsOf : List ℕ → PairsQuestion → PairsReport → Type 0
ArePairsOf text q report =
    (m : Meaning) × (xs : List LinedStatement) × ReadsAs text (Ok m) × IsLined text xs
    × AnswersPairs (pair_policy m) (length m.types) xs q report
