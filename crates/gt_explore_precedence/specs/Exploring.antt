-- What is written of a claim with terms of order, by the result.
use Rattle.std.specs.Prelude.{◌≡◌, ◌⊎◌, ◌+◌, ◌&&◌, ◌||◌, ℕ, Bool, true, false, List, take, Option, Some, Result, Ok, Err}
use Rattle.std.specs.Borrow.{Bor}
use Rattle.std.specs.Io.KnownBytes.{Keeps}
use Rattle.std.specs.List.{list_any, slice_split}
use Rattle.std.specs.Str.Lines.{lines as lines_in}
use Rattle.gt_call_names.specs.Naming.{first_repeated, is_break, with_line_numbers}
use Rattle.gt_script.specs.Preceding.{preceding_all}
use Rattle.gt_script.specs.RunContents.{RunContents}
use Rattle.gt_script.specs.RunScripts.{ReadsAsRun}
use Rattle.gt_script.specs.Script.{Wrong}
use Rattle.gt_script.specs.declared.precedence.Precedence.{Precedence}
use Rattle.gt_text.specs.declared.streams.TheConstants.{READ_LIMIT}
use Rattle.gt_explore.specs.Writing.{Explored}
use Rattle.gt_explore_answers.specs.declared.asking.ExploreOptions.{ExploreOptions}
use Rattle.gt_explore_answers.specs.declared.asking.ExploreRequest.TheVariants as explore_requests
use Rattle.gt_explore_faults.specs.Faults.{claims_memory}
use Rattle.gt_explore_faults.specs.declared.claims.ClaimsFault.{ClaimsFault}
use Rattle.gt_explore_faults.specs.declared.claims.ClaimsFault.TheVariants as claims_faults
use Rattle.gt_explore_faults.specs.declared.fault.ExploreFault.{ExploreFault}
use Rattle.gt_explore_faults.specs.declared.fault.ExploreFault.TheVariants.{Term}
use Rattle.gt_explore_verdict.specs.declared.judging.Claim.{Claim}
use Rattle.gt_explore_verdict.specs.declared.judging.Claim.TheVariants.{Find, Never, Always}
use Rattle.gt_explore_verdict.specs.declared.judging.Verdict.{Verdict}
use Rattle.gt_explore_precedence.specs.Pairs.{ArePairs, IsPairsFault}
use Rattle.gt_explore_precedence.specs.Terms.{has_not, has_other_mark, has_precedence, orders_before, parts_between}
use Rattle.gt_explore_precedence.specs.Terms.{rest_of}
use Rattle.gt_explore_precedence.specs.Orders.{OrdersExplored}
use Rattle.gt_explore_precedence.specs.declared.exploring.PrecedenceOptions.{PrecedenceOptions}

-- the runs that are explored

-- the runs of the second script are those of the first in which the calls are in order that these parts name
abbrev pub AreRunsOf : List (List ℕ) → RunContents → List (List ℕ) → RunContents → Type 0
AreRunsOf lines script parts c =
    (pairs : List Precedence) × ArePairs lines script.tasks parts pairs × (c ≡ preceding_all pairs script)

-- the bytes mean a script whose runs in that order are those of this one, or they have this first fault
abbrev pub ReadsInOrder : List ℕ → List (List ℕ) → Result RunContents Wrong → Type 0
ReadsInOrder input parts (Ok c) =
    (script : RunContents) × ReadsAsRun input (Ok script) × AreRunsOf (lines_in (take READ_LIMIT input)) script parts c
ReadsInOrder input parts (Err wrong) = ReadsAsRun input (Err wrong)

-- faults

-- the fault as it is shown: a term has its number among all terms
abbrev pub IsShownAs : List (List ℕ) → ExploreFault → ClaimsFault → Type 0
IsShownAs parts (Term number fault) shown =
    (shown ≡ claims_faults.Astray)
    ⊎ (shown ≡ claims_faults.Explore (Term (number + orders_before parts number) fault))
IsShownAs parts fault shown = shown ≡ claims_faults.Explore fault

-- a term of order does not name two calls of the script
abbrev pub IsOrderFault : List ℕ → List (List ℕ) → ClaimsFault → Type 0
IsOrderFault input parts fault =
    (script : RunContents) × ReadsAsRun input (Ok script)
    × IsPairsFault (lines_in (take READ_LIMIT input)) script.tasks parts fault

-- a name of the other terms is that of two calls, they are not text, or an allocation failed
abbrev pub IsRestFault : List (List ℕ) → List (List ℕ) → ClaimsFault → Type 0
IsRestFault lines parts fault =
    (fault ≡ claims_memory) ⊎ (fault ≡ claims_faults.Astray)
    ⊎ ((both : ℕ × ℕ) × (fault ≡ claims_faults.Repeated both.0 both.1)
    × (first_repeated lines (slice_split is_break (rest_of parts)) ≡ Some both))

-- what is written

-- the request without the terms of order
pub record IsRest (input : List ℕ) (asked : PrecedenceOptions) (parts : List (List ℕ)) (rest : ExploreOptions) : Type 0 where
  pub expression : Bor (List ℕ)
  pub request : rest.request ≡ explore_requests.Decide asked.claim expression
  pub terms : expression.now ≡ with_line_numbers (lines_in (take READ_LIMIT input)) (rest_of parts)
  pub states : rest.states ≡ asked.states
  pub format : rest.format ≡ asked.format

-- what was written of the other terms: what `explore` writes for the runs in that order
abbrev pub RestExplored : List ℕ → List (List ℕ) → ExploreOptions → Option (List ℕ) → Option (List ℕ)
    → Result Verdict ClaimsFault → Type 0
RestExplored input parts rest old new (Ok verdict) = Explored rest (ReadsInOrder input parts) old new (Ok verdict)
RestExplored input parts rest old new (Err shown) =
    ((fault : ExploreFault) × IsShownAs parts fault shown × Explored rest (ReadsInOrder input parts) old new (Err fault))
    ⊎ (IsOrderFault input parts shown × Keeps old new)

-- the fault before anything was explored
abbrev pub IsUnexplored : List ℕ → List (List ℕ) → Result Verdict ClaimsFault → Type 0
IsUnexplored input parts (Ok verdict) = ⊥
IsUnexplored input parts (Err fault) = IsRestFault (lines_in (take READ_LIMIT input)) parts fault

abbrev pub PartsExplored : List ℕ → PrecedenceOptions → List (List ℕ) → Option (List ℕ) → Option (List ℕ)
    → Result Verdict ClaimsFault → Type 0
PartsExplored input asked parts old new r =
    ((rest : ExploreOptions) × IsRest input asked parts rest × RestExplored input parts rest old new r)
    ⊎ (IsUnexplored input parts r × Keeps old new)

abbrev pub is_always : Claim → Bool
is_always Always = true
is_always Find = false
is_always Never = false

-- a part has a term of order after `!`
abbrev pub is_negated_order : List ℕ → Bool
is_negated_order part = has_not part && has_precedence part

abbrev pub negates_order : List (List ℕ) → Bool
negates_order parts = list_any is_negated_order parts

-- the claim is `always`, the terms are not all joined by `&`, or an order comes after `!`
abbrev pub is_joined_freely : Claim → List ℕ → List (List ℕ) → Bool
is_joined_freely claim expression parts = (is_always claim || has_other_mark expression) || negates_order parts

-- the same for terms that are joined so; or, if they are not, what was written about each order
abbrev pub JoinedExplored : Bool → List ℕ → PrecedenceOptions → Option (List ℕ) → Option (List ℕ)
    → Result Verdict ClaimsFault → Type 0
JoinedExplored true input asked old new r = OrdersExplored input asked old new r
JoinedExplored false input asked old new r = PartsExplored input asked (parts_between asked.expression.now) old new r

-- what was written of a claim; nothing, if an allocation failed before it was read
abbrev pub PrecedingExplored : List ℕ → PrecedenceOptions → Option (List ℕ) → Option (List ℕ)
    → Result Verdict ClaimsFault → Type 0
PrecedingExplored input asked old new r =
    JoinedExplored (is_joined_freely asked.claim asked.expression.now (parts_between asked.expression.now)) input asked
    old new r
    ⊎ ((r ≡ Err claims_memory) × Keeps old new)
