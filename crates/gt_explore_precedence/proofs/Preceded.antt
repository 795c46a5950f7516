-- From what was read to what was written of a claim with terms of order.
use Rattle.std.proofs.Common.{◌≡◌, ℕ, Bool, false, List, Option, Some, Result, Ok, Err, inl, inr, refl, subst, sym, take}
use Rattle.std.specs.List.{slice_split}
use Rattle.std.specs.Str.Lines.{lines as lines_in}
use Rattle.gt_call_names.specs.Naming.{first_repeated, is_break}
use Rattle.gt_script.specs.RunContents.{RunContents}
use Rattle.gt_script.specs.RunScripts.{ReadsAsRun, RunAnswers}
use Rattle.gt_script.specs.declared.faults.ScriptError.{ScriptError}
use Rattle.gt_script.specs.declared.faults.ScriptError.TheVariants as script_errors
use Rattle.gt_script_runs.specs.Faults.{fault_of}
use Rattle.gt_script_runs.specs.declared.fault.PlayFault.{PlayFault}
use Rattle.gt_text.specs.Laws.{keeps_same}
use Rattle.gt_text.specs.declared.streams.TheConstants.{READ_LIMIT}
use Rattle.gt_explore.proofs.Explored.{explored_nothing, explored_script}
use Rattle.gt_explore.specs.Writing.{Explores}
use Rattle.gt_explore_answers.specs.declared.asking.ExploreOptions.{ExploreOptions}
use Rattle.gt_explore_faults.specs.declared.claims.ClaimsFault.{ClaimsFault}
use Rattle.gt_explore_faults.specs.declared.claims.ClaimsFault.TheVariants as claims_faults
use Rattle.gt_explore_faults.specs.declared.fault.ExploreFault.{ExploreFault}
use Rattle.gt_explore_faults.specs.declared.fault.ExploreFault.TheVariants.{Play}
use Rattle.gt_explore_verdict.specs.declared.judging.Verdict.{Verdict}
use Rattle.gt_explore_precedence.specs.Exploring.{AreRunsOf, IsRestFault, IsShownAs, JoinedExplored, PartsExplored}
use Rattle.gt_explore_precedence.specs.Exploring.{PrecedingExplored, ReadsInOrder, RestExplored, is_joined_freely}
use Rattle.gt_explore_precedence.specs.Pairs.{IsPairsFault}
use Rattle.gt_explore_precedence.specs.Terms.{parts_between, rest_of}
use Rattle.gt_explore_precedence.specs.declared.exploring.PrecedenceOptions.{PrecedenceOptions}

module _ (all source : List ℕ) (parts : List (List ℕ)) (read : source ≡ take READ_LIMIT all) where
  -- the script whose runs are explored
  in_order : (script c : RunContents) → ReadsAsRun all (Ok script) → AreRunsOf (lines_in source) script parts c → ReadsInOrder all parts (Ok c)
  in_order script c reads runs = (script, reads, subst (λ (s : List ℕ). AreRunsOf (lines_in s) script parts c) read runs)

  answers_in_order : (error : ScriptError) → RunAnswers (Err error) (ReadsAsRun all) → RunAnswers (Err error) (ReadsInOrder all parts)
  answers_in_order script_errors.Memory h = h
  answers_in_order (script_errors.Fault f) h = h
  answers_in_order (script_errors.Policy f) h = h

  -- there is no script
  pub rest_unread : (rest : ExploreOptions) (error : ScriptError) (fault : PlayFault) (old : Option (List ℕ)) → RunAnswers (Err error) (ReadsAsRun all) → fault ≡ fault_of error
      → RestExplored all parts rest old old (Err (claims_faults.Explore (Play fault)))
  rest_unread rest error fault old told is = inl (Play fault, refl, explored_nothing rest (ReadsInOrder all parts) error fault old (answers_in_order error told) is)

  -- a term of order does not name two calls
  pub rest_misordered : (rest : ExploreOptions) (script : RunContents) (fault : ClaimsFault) (old : Option (List ℕ)) → ReadsAsRun all (Ok script) → IsPairsFault (lines_in source) script.tasks parts fault
      → RestExplored all parts rest old old (Err fault)
  rest_misordered rest script fault old reads is = inr ((script, reads, subst (λ (s : List ℕ). IsPairsFault (lines_in s) script.tasks parts fault) read is), keeps_same old)

  -- the runs were explored
  pub rest_done : (rest : ExploreOptions) (script c : RunContents) (verdict : Verdict) (old new : Option (List ℕ)) → ReadsAsRun all (Ok script) → AreRunsOf (lines_in source) script parts c
      → Explores c rest old new (Ok verdict) → RestExplored all parts rest old new (Ok verdict)
  rest_done rest script c verdict old new reads runs wrote = explored_script rest (ReadsInOrder all parts) c (Ok verdict) old new (in_order script c reads runs) wrote

  pub rest_failed : (rest : ExploreOptions) (script c : RunContents) (fault : ExploreFault) (shown : ClaimsFault) (old new : Option (List ℕ)) → ReadsAsRun all (Ok script) → AreRunsOf (lines_in source) script parts c
      → Explores c rest old new (Err fault) → IsShownAs parts fault shown → RestExplored all parts rest old new (Err shown)
  rest_failed rest script c fault shown old new reads runs wrote is = inl (fault, is, explored_script rest (ReadsInOrder all parts) c (Err fault) old new (in_order script c reads runs) wrote)

  -- nothing was explored
  pub parts_unread : (asked : PrecedenceOptions) (fault : ClaimsFault) (old : Option (List ℕ)) → IsRestFault (lines_in source) parts fault → PartsExplored all asked parts old old (Err fault)
  parts_unread asked fault old is = inr (subst (λ (s : List ℕ). IsRestFault (lines_in s) parts fault) read is, keeps_same old)

-- a name of the other terms is that of two calls
pub rest_repeated : (lines parts : List (List ℕ)) (text : List ℕ) (first second : ℕ) → text ≡ rest_of parts → first_repeated lines (slice_split is_break text) ≡ Some (first, second)
    → IsRestFault lines parts (claims_faults.Repeated first second)
rest_repeated lines parts text first second is twice =
    inr (inr ((first, second), refl, subst (λ (t : List ℕ). first_repeated lines (slice_split is_break t) ≡ Some (first, second)) is twice))

-- the terms of a claim are joined by `&`, or in another way
pub joined : (all : List ℕ) (asked : PrecedenceOptions) (old new : Option (List ℕ)) (r : Result Verdict ClaimsFault) (b : Bool)
    → is_joined_freely asked.claim asked.expression.now (parts_between asked.expression.now) ≡ b → JoinedExplored b all asked old new r → PrecedingExplored all asked old new r
joined all asked old new r b is h = inl (subst (λ (c : Bool). JoinedExplored c all asked old new r) (sym is) h)
