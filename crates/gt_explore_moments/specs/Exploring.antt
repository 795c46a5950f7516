-- What `explore --never-state` writes for a script, by the result.
use Rattle.std.specs.Prelude.{◌≡◌, ℕ, List, Option, Some, Result, Ok, Err}
use Rattle.std.specs.Io.KnownBytes.{Appends, Keeps}
use Rattle.gt_policy.specs.declared.fault.TokenFault as policy
use Rattle.gt_types.specs.declared.config.DomainConfig.{DomainConfig}
use Rattle.gt_script.specs.Blocks.{block_fault_shown}
use Rattle.gt_script.specs.Contents.{Contents}
use Rattle.gt_script.specs.RunContents.{RunContents}
use Rattle.gt_script.specs.Script.{Wrong, in_script, in_policy}
use Rattle.gt_text.specs.Streams.{AppendsBeginning}
use Rattle.gt_script_runs.specs.declared.fault.PlayFault.TheVariants.{Memory, Read, Write, Script, Policy}
use Rattle.gt_explore_states.specs.Moments.{HoldsNowhere, LeadsToMoment}
use Rattle.gt_explore_search.specs.declared.spaces.Turn.{Turn}
use Rattle.gt_explore_verdict.specs.declared.judging.Verdict.{Verdict}
use Rattle.gt_explore_verdict.specs.declared.judging.Verdict.TheVariants.{Holds, Fails, Undecided}
use Rattle.gt_state_claims.specs.Claims.{ClaimAsked}
use Rattle.gt_state_claims.specs.Reading.{IsReadFault, claim_read}
use Rattle.gt_state_claims.specs.declared.fault.StateClaimFault.{StateClaimFault}
use Rattle.gt_state_claims.specs.declared.fault.StateClaimFault.TheVariants as claim_faults
use Rattle.gt_moment_scripts.specs.Naming.{entries_named, foreign_domain}
use Rattle.gt_explore_moments.specs.Outputs.{holds_lines, moment_comment, undecided_lines}
use Rattle.gt_moment_scripts.specs.Showing.{ShowsAfterComment}
use Rattle.gt_explore_moments.specs.declared.asking.MomentFault.{MomentFault}
use Rattle.gt_explore_moments.specs.declared.asking.MomentFault.TheVariants.{Claim, Play, Texts}
use Rattle.gt_explore_moments.specs.declared.asking.MomentOptions.{MomentOptions}
use Rattle.gt_explore_moments.specs.declared.exploring.MomentAnswer.{MomentAnswer}

-- a text is not a claim, or it names a domain that is none of these
abbrev pub NamesForeignDomain : List DomainConfig → List ℕ → ℕ → Type 0
NamesForeignDomain domains text number =
    (claim : ClaimAsked) × (claim_read text ≡ Ok claim)
    × (foreign_domain domains (entries_named claim) ≡ Some (record { 0 = number }))

abbrev pub IsClaimFault : List DomainConfig → List ℕ → StateClaimFault → Type 0
IsClaimFault domains text claim_faults.Memory = Unit {0}
IsClaimFault domains text claim_faults.Long = IsReadFault text claim_faults.Long
IsClaimFault domains text (claim_faults.Term number fault) = IsReadFault text (claim_faults.Term number fault)
IsClaimFault domains text (claim_faults.Domain number) = NamesForeignDomain domains text number

-- the output for a moment at which the claim holds
abbrev pub IsMomentOutput : Contents → ClaimAsked → List ℕ → List ℕ → Type 0
IsMomentOutput c claim words text =
    (states : ℕ) × ShowsAfterComment c claim (moment_comment words states) text

-- the verdict on the claim and the output: it holds if no order has a moment at which the claim holds, and fails if one
-- has
abbrev pub IsMomentAnswer : RunContents → ClaimAsked → List ℕ → Verdict → List ℕ → Type 0
IsMomentAnswer c claim words Holds text = HoldsNowhere c claim × ((states : ℕ) × (text ≡ holds_lines states))
IsMomentAnswer c claim words Fails text =
    ((turns : List Turn) × LeadsToMoment c claim turns) × IsMomentOutput c.head claim words text
IsMomentAnswer c claim words Undecided text = (states : ℕ) × (text ≡ undecided_lines states)

-- the same for the claim that is asked
abbrev pub IsAnswerAsked : RunContents → MomentOptions → Verdict → List ℕ → Type 0
IsAnswerAsked c asked verdict text =
    (claim : ClaimAsked) × (claim_read asked.claim.now ≡ Ok claim)
    × IsMomentAnswer c claim asked.claim.now verdict text

-- the answer for a script; or the text is not a claim about it; or the search failed
abbrev pub MakesAnswer : RunContents → MomentOptions → Result MomentAnswer MomentFault → Type 0
MakesAnswer c asked (Ok made) = IsAnswerAsked c asked made.verdict made.text.items
MakesAnswer c asked (Err (Claim fault)) = IsClaimFault c.head.domains asked.claim.now fault
MakesAnswer c asked (Err (Texts fault)) = Unit {0}
MakesAnswer c asked (Err (Play fault)) = ⊥

-- what was written for a script, by the result
abbrev pub MomentWritten : RunContents → MomentOptions → Option (List ℕ) → Option (List ℕ)
    → Result Verdict MomentFault → Type 0
MomentWritten c asked old new (Ok verdict) = (text : List ℕ) × IsAnswerAsked c asked verdict text × Appends old new text
MomentWritten c asked old new (Err (Claim fault)) =
    IsClaimFault c.head.domains asked.claim.now fault × Keeps old new
MomentWritten c asked old new (Err (Texts fault)) = Keeps old new
MomentWritten c asked old new (Err (Play Write)) =
    (text : List ℕ) × (verdict : Verdict) × IsAnswerAsked c asked verdict text × AppendsBeginning old new text
MomentWritten c asked old new (Err (Play Memory)) = ⊥
MomentWritten c asked old new (Err (Play Read)) = ⊥
MomentWritten c asked old new (Err (Play (Script fault))) = ⊥
MomentWritten c asked old new (Err (Play (Policy fault))) = ⊥

-- what was written for bytes that mean this: at Ok a whole answer, after a failed write a prefix of one, and otherwise
-- nothing; a fault of the script is its first, and any other is of a script without a fault
abbrev pub MomentExplored : MomentOptions → (Result RunContents Wrong → Type 0) → Option (List ℕ) → Option (List ℕ)
    → Result Verdict MomentFault → Type 0
MomentExplored asked Told old new (Ok verdict) =
    (c : RunContents) × Told (Ok c) × MomentWritten c asked old new (Ok verdict)
MomentExplored asked Told old new (Err (Claim fault)) =
    (c : RunContents) × Told (Ok c) × MomentWritten c asked old new (Err (Claim fault))
MomentExplored asked Told old new (Err (Texts fault)) =
    (c : RunContents) × Told (Ok c) × MomentWritten c asked old new (Err (Texts fault))
MomentExplored asked Told old new (Err (Play Write)) =
    (c : RunContents) × Told (Ok c) × MomentWritten c asked old new (Err (Play Write))
MomentExplored asked Told old new (Err (Play Memory)) = Keeps old new
MomentExplored asked Told old new (Err (Play Read)) = Keeps old new
MomentExplored asked Told old new (Err (Play (Script fault))) = Told (Err (in_script fault)) × Keeps old new
MomentExplored asked Told old new (Err (Play (Policy fault))) =
    (g : policy.TokenFault) × (block_fault_shown fault ≡ Some g) × Told (Err (in_policy g)) × Keeps old new
