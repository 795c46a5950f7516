-- Verdicts on several claims.
use Rattle.std.specs.Prelude.{◌≡◌, ◌⊎◌, ◌+◌, ℕ, Bool, true, false, List, [], ◌∷◌, Option, Some, None, Result, Ok, Err}
use Rattle.std.specs.Prelude.{if◌then◌else◌, map, slice_get}
use Rattle.std.specs.List.{flat_map, list_any, slice_split}
use Rattle.std.specs.Option.{option_map}
use Rattle.gt_call_names.specs.Naming.{first_repeated, is_break, with_line_numbers}
use Rattle.gt_script.specs.RunContents.{RunContents}
use Rattle.gt_explore_answers.specs.Exploring.{first_unplaced, satisfied}
use Rattle.gt_explore_answers.specs.Outputs.{Found}
use Rattle.gt_explore_answers.specs.declared.asking.ExploreFormat.{ExploreFormat}
use Rattle.gt_explore_faults.specs.Faults.{claims_memory}
use Rattle.gt_explore_faults.specs.declared.claims.ClaimsFault.{ClaimsFault}
use Rattle.gt_explore_faults.specs.declared.claims.ClaimsFault.TheVariants as claims_faults
use Rattle.gt_explore_verdict.specs.Formulas.{Op}
use Rattle.gt_explore_verdict.specs.Judging.{judged}
use Rattle.gt_explore_verdict.specs.Reading.{operations_in}
use Rattle.gt_explore_verdict.specs.declared.fault.ConditionFault.{ConditionFault}
use Rattle.gt_explore_verdict.specs.declared.judging.Judgement.{Judgement}
use Rattle.gt_explore_verdict.specs.declared.judging.Verdict.{Verdict}
use Rattle.gt_explore_verdict.specs.declared.judging.Verdict.TheVariants.{Holds, Fails, Undecided}
use Rattle.gt_explore_claims.specs.Answering.{answer_shown}
use Rattle.gt_explore_claims.specs.Stating.{Stated, stated}
use Rattle.gt_explore_claims.specs.declared.answers.ClaimAnswer.{ClaimAnswer}
use Rattle.gt_explore_claims.specs.declared.deciding.NumberedClaim.{NumberedClaim}

-- a claim, and its expression with the numbers of lines in place of names
pub record Numbered : Type 0 where
  pub stated : Stated
  pub numbered : List ℕ

abbrev pub numbered_claim : NumberedClaim → Numbered
numbered_claim n = record { stated = stated n.stated; numbered = n.numbered.items }

abbrev pub numbered_by_lines : List (List ℕ) → Stated → Numbered
numbered_by_lines lines s = record { stated = s; numbered = with_line_numbers lines s.expression }

-- these claims by the lines of a script
abbrev pub numbered_claims : List (List ℕ) → List Stated → List Numbered
numbered_claims lines claims = map (numbered_by_lines lines) claims

-- the fault of the names of an expression: one is that of the calls on both lines, or an allocation failed
abbrev pub IsNumberingFailure : List (List ℕ) → List ℕ → ClaimsFault → Type 0
IsNumberingFailure lines expression fault =
    (fault ≡ claims_memory)
    ⊎ ((both : ℕ × ℕ) × (fault ≡ claims_faults.Repeated both.0 both.1)
    × (first_repeated lines (slice_split is_break expression) ≡ Some both))

-- the fault of the names of one of these claims
abbrev pub AreNumberingFailures : List (List ℕ) → List Stated → ClaimsFault → Type 0
AreNumberingFailures lines claims fault =
    (fault ≡ claims_memory)
    ⊎ ((k : ℕ) × (s : Stated) × (slice_get claims k ≡ Some s) × IsNumberingFailure lines s.expression fault)

-- the first fault of an expression about a script: its term and the reason
abbrev pub fault_read : RunContents → Result (List Op) (ℕ × ConditionFault) → Option (ℕ × ConditionFault)
fault_read c (Err fault) = Some fault
fault_read c (Ok ops) = first_unplaced c ops

abbrev pub fault_of_expression : RunContents → List ℕ → Option (ℕ × ConditionFault)
fault_of_expression c expression = fault_read c (operations_in expression)

-- the first fault of these claims, the first of which has this number
abbrev pub fault_of_claim : Option (ℕ × ConditionFault) → ℕ → Option (ℕ × ℕ × ConditionFault)
    → Option (ℕ × ℕ × ConditionFault)
fault_of_claim (Some fault) number later = Some (number, fault.0, fault.1)
fault_of_claim None number later = later

abbrev pub first_fault : RunContents → ℕ → List Numbered → Option (ℕ × ℕ × ConditionFault)
first_fault c number [] = None
first_fault c number (claim ∷ claims) =
    fault_of_claim (fault_of_expression c claim.numbered) number (first_fault c (number + 1) claims)

-- the operations of an expression without a fault
abbrev pub operations_read : Result (List Op) (ℕ × ConditionFault) → List Op
operations_read (Ok ops) = ops
operations_read (Err fault) = []

abbrev pub operations_of : Numbered → List Op
operations_of claim = operations_read (operations_in claim.numbered)

-- what is known of a claim by the texts that were found
abbrev pub claim_judged : Found → Numbered → Judgement
claim_judged f claim = judged claim.stated.claim (satisfied (operations_of claim) f) f.whole

abbrev pub claim_answer : Found → Numbered → ClaimAnswer
claim_answer f claim = record {
  verdict = (claim_judged f claim).verdict;
  number = option_map (λ at. at + 1) (claim_judged f claim).shown_by;
}

-- what is printed of these claims in a format
abbrev pub claims_shown : ExploreFormat → Found → List Numbered → List ℕ
claims_shown format f claims = flat_map (λ claim. answer_shown format f claim.stated (claim_answer f claim)) claims

-- a verdict is this one
abbrev pub is_verdict : Verdict → Verdict → Bool
is_verdict Holds Holds = true
is_verdict Fails Fails = true
is_verdict Undecided Undecided = true
is_verdict verdict other = false

-- the verdict of all claims: it fails if one does, is undecided if one of the others is, and holds otherwise
abbrev pub verdict_of_claims : List Verdict → Verdict
verdict_of_claims verdicts = if list_any (is_verdict Fails) verdicts then Fails
    else (if list_any (is_verdict Undecided) verdicts then Undecided else Holds)
