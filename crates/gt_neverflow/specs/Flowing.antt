-- Which neverflow statements a policy breaks: bytes of a type may reach another one, and a statement forbids it.
use Rattle.std.specs.Prelude.{◌≡◌, ◌==◌, ◌&&◌, ℕ, Bool, true, false, not, List, [], ◌∷◌, ◌++◌, filter, length, map}
use Rattle.std.specs.Prelude.{Option, Some, None, codes}
use Rattle.std.specs.List.{flat_map, range_with_len, slice_get}
use Rattle.gt_types.specs.declared.TypeId.{TypeId}
use Rattle.gt_flow.specs.Flow.{FlowPolicy}
use Rattle.gt_flow.specs.Accesses.{is_among}
use Rattle.gt_flow.specs.Paths.{HasPath}
use Rattle.gt_policy.specs.Allowing.{Meaning}
use Rattle.gt_policy.specs.declared.lined.LinedStatement.{LinedStatement}
use Rattle.gt_policy_statements.specs.Members.{members_of}
use Rattle.gt_policy_statements.specs.declared.members.Member.{Member}
use Rattle.gt_policy_questions.specs.Listing.{pair_type_name}
use Rattle.gt_policy_questions.specs.Pairs.{pair_policy}
use Rattle.gt_neverallow.specs.Breaking.{chosen_by, short_name}
use Rattle.gt_neverallow.specs.declared.statement.Forbidden.{Forbidden}
use Rattle.gt_neverallow.specs.declared.statement.Forbidden.TheVariants.{Flow, Grants}
use Rattle.gt_neverallow.specs.declared.statement.NeverStatement.{NeverStatement}
use Rattle.gt_neverallow.specs.declared.statement.TypeChoice.{TypeChoice}
use Rattle.gt_neverflow.specs.declared.flowing.FlowBreach.{FlowBreach}

-- the choice has the type of this number
abbrev pub chosen_at : TypeChoice → Option Member → Bool
chosen_at choice None = false
chosen_at choice (Some member) = chosen_by choice member.names

-- what a statement forbids is that bytes flow
abbrev pub is_about_flows : Forbidden → Bool
is_about_flows (Grants classes perms) = false
is_about_flows Flow = true

-- the statement forbids bytes of this type to reach some others
abbrev pub flow_from : List Member → TypeId → NeverStatement → Bool
flow_from members source n = is_about_flows n.what && chosen_at n.source (slice_get members source.0)

-- and this type is one of those; no statement forbids bytes to stay in their type
abbrev pub flow_to : List Member → TypeId → NeverStatement → TypeId → Bool
flow_to members source n target = chosen_at n.target (slice_get members target.0) && not (source.0 == target.0)

-- the statement forbids bytes of the first type to reach the second
abbrev pub forbids_flow : List Member → NeverStatement → TypeId → TypeId → Bool
forbids_flow members n source target = flow_from members source n && flow_to members source n target

-- a flow that a statement forbids, from the first type to the second
pub record ForbiddenFlow : Type 0 where
  pub statement : NeverStatement
  pub source : TypeId
  pub target : TypeId

abbrev pub flow_by : NeverStatement → TypeId → TypeId → ForbiddenFlow
flow_by n source target = record { statement = n; source = source; target = target }

-- the types of a policy that has this number of them
abbrev pub types_numbered : ℕ → List TypeId
types_numbered count = map (λ id. record { 0 = id }) (range_with_len 0 count)

-- the flows from a type to these types that a statement forbids
abbrev pub flows_by : List Member → List TypeId → TypeId → NeverStatement → List ForbiddenFlow
flows_by members targets source n = map (flow_by n source) (filter (forbids_flow members n source) targets)

-- the same of these statements
abbrev pub flows_of : List Member → List NeverStatement → List TypeId → TypeId → List ForbiddenFlow
flows_of members ns targets source = flat_map (flows_by members targets source) ns

-- each flow between these types that a statement forbids: by its source, then by the statement, then by its target
abbrev pub forbidden_flows : List Member → List NeverStatement → List TypeId → List ForbiddenFlow
forbidden_flows members ns types = flat_map (flows_of members ns types) types

-- the names of the types of a path, as messages show them
abbrev pub names_on : List Member → TypeId → List TypeId → List ℕ
names_on members x [] = short_name (pair_type_name members x)
names_on members x (y ∷ path) = short_name (pair_type_name members x) ++ codes " -> " ++ names_on members y path

-- no type is trusted
abbrev pub nobody : TypeId → Bool
nobody = is_among []

-- The breaches by these flows: each flow for which there is a path is one, with a shortest path, and no other is.
pub data FlowsFound (may : FlowPolicy) (members : List Member) : List ForbiddenFlow → List FlowBreach → Type 0 where
  no_flow : FlowsFound may members [] []
  reached : (f : ForbiddenFlow) (b : FlowBreach) (path : List TypeId) (fs : List ForbiddenFlow) (bs : List FlowBreach)
      → HasPath may nobody f.source f.target (Some path) → b.forbidden ≡ f.statement.line
      → b.path.items ≡ names_on members f.source path → FlowsFound may members fs bs
      → FlowsFound may members (f ∷ fs) (b ∷ bs)
  kept_apart : (f : ForbiddenFlow) (fs : List ForbiddenFlow) (bs : List FlowBreach)
      → HasPath may nobody f.source f.target None → FlowsFound may members fs bs → FlowsFound may members (f ∷ fs) bs

-- the breaches of neverflow statements by a policy that means this
abbrev pub AreFlowBreaches : Meaning → List LinedStatement → List NeverStatement → List FlowBreach → Type 0
AreFlowBreaches m xs ns found =
    let members = members_of xs None in
    FlowsFound (pair_policy m) members (forbidden_flows members ns (types_numbered (length m.types))) found

-- the breaches by these flows were added
abbrev pub AddsFlows : FlowPolicy → List Member → List ForbiddenFlow → List FlowBreach → List FlowBreach → Type 0
AddsFlows may members flows old new = (more : List FlowBreach) × FlowsFound may members flows more × (new ≡ old ++ more)

-- a flow, if it is forbidden
abbrev pub flow_if : Bool → NeverStatement → TypeId → TypeId → List ForbiddenFlow
flow_if true n source target = flow_by n source target ∷ []
flow_if false n source target = []

-- the flows from a type that a statement forbids, if it is about that type
abbrev pub flows_to : List Member → List TypeId → TypeId → NeverStatement → List ForbiddenFlow
flows_to members targets source n = map (flow_by n source) (filter (flow_to members source n) targets)
