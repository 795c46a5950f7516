-- From what was read to what was written of claims.
use Rattle.std.proofs.Common.{◌≡◌, ◌⊎◌, ℕ, List, Option, Some, None, Result, Ok, Err, All, Bor, ap, ◌∙◌, inl, inr, refl, subst, sym, take, get_or}
use Rattle.std.specs.Io.KnownBytes.{Appends}
use Rattle.std.specs.Prelude.{IfSome}
use Rattle.std.specs.Str.{IsUtf8}
use Rattle.std.specs.Str.Lines.{lines as lines_in}
use Rattle.gt_call_names.specs.Naming.{with_line_numbers}
use Rattle.gt_script.specs.RunContents.{RunContents}
use Rattle.gt_script.specs.RunScripts.{RunAnswers, ReadsAsRun}
use Rattle.gt_script.specs.declared.faults.ScriptError.{ScriptError}
use Rattle.gt_script.specs.declared.faults.ScriptError.TheVariants as script_errors
use Rattle.gt_script_runs.specs.Faults.{fault_of}
use Rattle.gt_script_runs.specs.declared.fault.PlayFault.{PlayFault}
use Rattle.gt_script_runs.specs.declared.fault.PlayFault.TheVariants as play_faults
use Rattle.gt_text.specs.Laws.{keeps_same}
use Rattle.gt_text.specs.Streams.{AppendsBeginning}
use Rattle.gt_text.specs.declared.streams.TheConstants.{READ_LIMIT}
use Rattle.gt_explore_answers.specs.declared.asking.ExploreOptions.{ExploreOptions}
use Rattle.gt_explore_answers.specs.declared.asking.ExploreRequest.{ExploreRequest}
use Rattle.gt_explore_answers.specs.declared.asking.ExploreRequest.TheVariants as explore_requests
use Rattle.gt_explore_answers.specs.Exploring.{AreTextsOf}
use Rattle.gt_explore_answers.specs.Outputs.{Found}
use Rattle.gt_explore_faults.specs.Faults.{claims_memory}
use Rattle.gt_explore_faults.specs.declared.claims.ClaimsFault.{ClaimsFault}
use Rattle.gt_explore_faults.specs.declared.claims.ClaimsFault.TheVariants as claims_faults
use Rattle.gt_explore.specs.Writing.{Explored}
use Rattle.gt_explore_faults.specs.declared.fault.ExploreFault.{ExploreFault}
use Rattle.gt_explore_faults.specs.declared.fault.ExploreFault.TheVariants.{Play, Term, Text, Number, Unfound, Texts}
use Rattle.gt_explore_replay.specs.Orders.{MayGive}
use Rattle.gt_explore_verdict.proofs.Judged.{judged_means}
use Rattle.gt_explore_verdict.specs.declared.judging.Claim.{Claim}
use Rattle.gt_explore_verdict.specs.declared.judging.Verdict.{Verdict}
use Rattle.gt_explore_claims.specs.Deciding.{AreNumberingFailures, IsNumberingFailure, Numbered}
use Rattle.gt_explore_claims.specs.Exploring.{AnswersClaims, AreClaimsOf, AreOptionsNamed, AreSourceLines, ClaimsExplored, IsDecision}
use Rattle.gt_explore_claims.specs.Exploring.{IsNamedRequest, NamedExplored, NamesTwice}
use Rattle.gt_explore_claims.specs.Stating.{IsStatedAs, IsUnstatedFault, Stated}
use Rattle.gt_explore_claims.specs.Unlisted.{AnswerMeans, IsDecidedUnshown, ShowNone, formula_of_claim}
use Rattle.gt_explore_claims.specs.declared.exploring.ClaimsOptions.{ClaimsOptions}

-- the lines of what was read, in which names are looked up
pub source_lines : (all input source : List ℕ) → input ≡ take READ_LIMIT all → (IsUtf8 input → source ≡ input) → AreSourceLines all (lines_in source)
source_lines all input source read is = λ utf8. ap lines_in (is (subst IsUtf8 (sym read) utf8) ∙ read)

-- each verdict means what it says
pub answers_mean : (c : RunContents) (f : Found) (claims : List Numbered) → AreTextsOf c f → All (AnswerMeans c f) claims
answers_mean c f claims are = λ k d there.
    let claim = get_or claims k d in
    judged_means (MayGive c) claim.stated.claim (formula_of_claim claim) f.texts f.whole are.possible are.whole

-- also if no text shows one
pub either_means : (c : RunContents) (f : Found) (claims : List Numbered) → AreTextsOf c f ⊎ ShowNone c claims f → All (AnswerMeans c f) claims
either_means c f claims (inl are) = answers_mean c f claims are
either_means c f claims (inr none) = none.means

-- ---- one claim, or another request

pub some_more : {X : Type 0} (o : Option X) (P Q : X → Type 0) → ((x : X) → P x → Q x) → IfSome o P → IfSome o Q
some_more None P Q more some = tt
some_more (Some x) P Q more some = more x some

module _ (first named : ExploreOptions) (input : List ℕ) (old new : Option (List ℕ)) (are : AreOptionsNamed input first named) where
  -- the request with numbers was answered
  pub named_ok : (verdict : Verdict) → Explored named (ReadsAsRun input) old new (Ok verdict) → NamedExplored first input old new (Ok verdict)
  named_ok verdict wrote = (named, are, inl wrote)

  pub named_err : (fault : ExploreFault) → Explored named (ReadsAsRun input) old new (Err fault) → NamedExplored first input old new (Err (claims_faults.Explore fault))
  named_err fault wrote = (named, are, inl wrote)

  -- its claim was decided by texts of which none shows the verdict
  pub unshown_ok : (c : RunContents) (claim : Claim) (expression text : List ℕ) (verdict : Verdict) → ReadsAsRun input (Ok c) → IsDecision claim expression named.request
      → IsDecidedUnshown c named.format named.states claim expression text verdict → Appends old new text → NamedExplored first input old new (Ok verdict)
  unshown_ok c claim expression text verdict reads is decided wrote = (named, are, inr (c, reads, text, (claim, expression, is, decided), wrote))

  pub unshown_cut : (c : RunContents) (claim : Claim) (expression text : List ℕ) (verdict : Verdict) → ReadsAsRun input (Ok c) → IsDecision claim expression named.request
      → IsDecidedUnshown c named.format named.states claim expression text verdict → AppendsBeginning old new text → NamedExplored first input old new (Err (claims_faults.Explore (Play play_faults.Write)))
  unshown_cut c claim expression text verdict reads is decided wrote = (named, are, inr (c, reads, text, verdict, (claim, expression, is, decided), wrote))

-- what is written if memory was wanting is written for each request
abbrev with_numbers : List ℕ → ExploreRequest → ExploreRequest
with_numbers input explore_requests.Texts = explore_requests.Texts
with_numbers input (explore_requests.Decide claim e) = explore_requests.Decide claim (record e { now = with_line_numbers (lines_in (take READ_LIMIT input)) e.now })
with_numbers input (explore_requests.Has given) = explore_requests.Has given
with_numbers input (explore_requests.Witness number) = explore_requests.Witness number
with_numbers input explore_requests.Witnesses = explore_requests.Witnesses

are_numbers : (input : List ℕ) (r : ExploreRequest) → IsNamedRequest input r (with_numbers input r)
are_numbers input explore_requests.Texts = refl
are_numbers input (explore_requests.Decide claim e) = (lines_in (take READ_LIMIT input), λ utf8. refl, (refl, refl))
are_numbers input (explore_requests.Has given) = refl
are_numbers input (explore_requests.Witness number) = refl
are_numbers input explore_requests.Witnesses = refl

some_named : (input : List ℕ) (asked : ExploreOptions) → (named : ExploreOptions) × AreOptionsNamed input asked named
some_named input asked = (
  record asked { request = with_numbers input asked.request },
  record {
    request = are_numbers input asked.request;
    states = refl;
    format = refl;
  },
)

no_memory_named : (asked : ExploreOptions) (input : List ℕ) (old : Option (List ℕ)) → NamedExplored asked input old old (Err claims_memory)
no_memory_named asked input old = let some = some_named input asked in (some.0, some.1, inl (keeps_same old))

-- the names of the expression have a fault
pub named_fault : (asked : ExploreOptions) (claim : Claim) (e : Bor (List ℕ)) (input : List ℕ) (lines : List (List ℕ)) (old : Option (List ℕ)) (fault : ClaimsFault) → asked.request ≡ explore_requests.Decide claim e
    → AreSourceLines input lines → IsNumberingFailure lines e.now fault → NamedExplored asked input old old (Err fault)
named_fault asked claim e input lines old fault is source (inl none) = subst (λ (f : ClaimsFault). NamedExplored asked input old old (Err f)) (sym none) (no_memory_named asked input old)
named_fault asked claim e input lines old fault is source (inr (both, twice, first)) =
    subst (λ (f : ClaimsFault). NamedExplored asked input old old (Err f)) (sym twice)
    (subst (λ (r : ExploreRequest). NamesTwice input r both) (sym is) (lines, source, first), keeps_same old)

-- ---- several claims

module _ (asked : ClaimsOptions) (input : List ℕ) where
  -- claims were answered for a script
  pub claims_script : (c : RunContents) (claims : List Numbered) (r : Result Verdict ClaimsFault) (old new : Option (List ℕ)) → ReadsAsRun input (Ok c) → AreClaimsOf input asked claims
      → AnswersClaims c asked claims old new r → ClaimsExplored asked input old new r
  claims_script c claims (Ok verdict) old new told are wrote = (c, told, claims, are, wrote)
  claims_script c claims (Err (claims_faults.Term claim number fault)) old new told are wrote = (c, told, claims, are, wrote)
  claims_script c claims (Err (claims_faults.Explore (Texts fault))) old new told are wrote = (c, told, claims, are, wrote)
  claims_script c claims (Err (claims_faults.Explore (Play play_faults.Write))) old new told are wrote = (c, told, claims, are, wrote)
  claims_script c claims (Err (claims_faults.Explore (Play play_faults.Memory))) old new told are wrote = absurd wrote
  claims_script c claims (Err (claims_faults.Explore (Play play_faults.Read))) old new told are wrote = absurd wrote
  claims_script c claims (Err (claims_faults.Explore (Play (play_faults.Script fault)))) old new told are wrote = absurd wrote
  claims_script c claims (Err (claims_faults.Explore (Play (play_faults.Policy fault)))) old new told are wrote = absurd wrote
  claims_script c claims (Err (claims_faults.Explore (Term number fault))) old new told are wrote = absurd wrote
  claims_script c claims (Err (claims_faults.Explore Number)) old new told are wrote = absurd wrote
  claims_script c claims (Err (claims_faults.Explore Unfound)) old new told are wrote = absurd wrote
  claims_script c claims (Err (claims_faults.Explore (Text line fault))) old new told are wrote = absurd wrote
  claims_script c claims (Err (claims_faults.Kind number)) old new told are wrote = absurd wrote
  claims_script c claims (Err (claims_faults.Repeated first second)) old new told are wrote = absurd wrote
  claims_script c claims (Err (claims_faults.Precedence fault)) old new told are wrote = absurd wrote
  claims_script c claims (Err claims_faults.Astray) old new told are wrote = absurd wrote

  -- there is no script
  no_script : (error : ScriptError) (old : Option (List ℕ)) → RunAnswers (Err error) (ReadsAsRun input) → ClaimsExplored asked input old old (Err (claims_faults.Explore (Play (fault_of error))))
  no_script script_errors.Memory old told = keeps_same old
  no_script (script_errors.Fault f) old told = (told, keeps_same old)
  no_script (script_errors.Policy f) old (g, shown, told) = (g, shown, told, keeps_same old)

  pub claims_nothing : (error : ScriptError) (fault : PlayFault) (old : Option (List ℕ)) → RunAnswers (Err error) (ReadsAsRun input) → fault ≡ fault_of error
      → ClaimsExplored asked input old old (Err (claims_faults.Explore (Play fault)))
  claims_nothing error fault old told is = subst (λ (f : PlayFault). ClaimsExplored asked input old old (Err (claims_faults.Explore (Play f)))) (sym is) (no_script error old told)

  -- a line states no claim
  pub claims_unstated : (fault : ClaimsFault) (old : Option (List ℕ)) → IsUnstatedFault (lines_in asked.claims.now) fault → ClaimsExplored asked input old old (Err fault)
  claims_unstated fault old (inl none) = subst (λ (f : ClaimsFault). ClaimsExplored asked input old old (Err f)) (sym none) (keeps_same old)
  claims_unstated fault old (inr (number, is, first)) = subst (λ (f : ClaimsFault). ClaimsExplored asked input old old (Err f)) (sym is) (first, keeps_same old)

  -- the names of an expression have a fault
  pub claims_named_twice : (lines : List (List ℕ)) (stated : List Stated) (fault : ClaimsFault) (old : Option (List ℕ)) → AreSourceLines input lines → IsStatedAs (lines_in asked.claims.now) stated → AreNumberingFailures lines stated fault
      → ClaimsExplored asked input old old (Err fault)
  claims_named_twice lines stated fault old source read (inl none) = subst (λ (f : ClaimsFault). ClaimsExplored asked input old old (Err f)) (sym none) (keeps_same old)
  claims_named_twice lines stated fault old source read (inr (k, s, at, inl none)) = subst (λ (f : ClaimsFault). ClaimsExplored asked input old old (Err f)) (sym none) (keeps_same old)
  claims_named_twice lines stated fault old source read (inr (k, s, at, inr (both, is, first))) =
      subst (λ (f : ClaimsFault). ClaimsExplored asked input old old (Err f)) (sym is)
      (record { lines = lines; source = source; stated = stated; read = read; twice = inr (k, s, at, inr (both, refl, first)) }, keeps_same old)
