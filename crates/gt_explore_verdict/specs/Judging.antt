-- Claims about the texts of a script, and what is known of them.
use Rattle.std.specs.Prelude.{◌≡◌, ℕ, not, Bool, true, false, List, is_some}
use Rattle.std.specs.List.{position}
use Rattle.gt_explore_verdict.specs.Formulas.{Formula, satisfies}
use Rattle.gt_explore_verdict.specs.declared.judging.Claim.{Claim}
use Rattle.gt_explore_verdict.specs.declared.judging.Claim.TheVariants.{Find, Never, Always}
use Rattle.gt_explore_verdict.specs.declared.judging.Judgement.{Judgement}
use Rattle.gt_explore_verdict.specs.declared.judging.Verdict.{Verdict}
use Rattle.gt_explore_verdict.specs.declared.judging.Verdict.TheVariants.{Holds, Fails, Undecided}

-- a text satisfies a formula, or it does not
abbrev pub Satisfies : Formula → List ℕ → Type 0
Satisfies formula text = satisfies formula text ≡ true

abbrev pub Violates : Formula → List ℕ → Type 0
Violates formula text = satisfies formula text ≡ false

-- some text that may be given is such
abbrev pub Some_text : (List ℕ → Type 0) → (List ℕ → Type 0) → Type 0
Some_text May P = (text : List ℕ) × May text × P text

-- each text that may be given is such
abbrev pub Each_text : (List ℕ → Type 0) → (List ℕ → Type 0) → Type 0
Each_text May P = (text : List ℕ) → May text → P text

-- What a verdict means for the texts that may be given. A claim that some text satisfies the formula holds if one
-- does, and fails if each violates them. A claim that none does, or that each does, is the other way round. A claim
-- that is not decided may hold or fail.
abbrev pub VerdictMeans : (List ℕ → Type 0) → Claim → Formula → Verdict → Type 0
VerdictMeans May Find formula Holds = Some_text May (Satisfies formula)
VerdictMeans May Find formula Fails = Each_text May (Violates formula)
VerdictMeans May Never formula Holds = Each_text May (Violates formula)
VerdictMeans May Never formula Fails = Some_text May (Satisfies formula)
VerdictMeans May Always formula Holds = Each_text May (Satisfies formula)
VerdictMeans May Always formula Fails = Some_text May (Violates formula)
VerdictMeans May claim formula Undecided = Unit {0}

-- a text decides a claim, by whether it satisfies the formula
abbrev pub shows : Claim → Bool → Bool
shows Find satisfied = satisfied
shows Never satisfied = satisfied
shows Always satisfied = not satisfied

-- the verdict, by whether one of the texts that were found decides the claim, and whether all were found
abbrev pub verdict_at : Claim → Bool → Bool → Verdict
verdict_at Find true whole = Holds
verdict_at Never true whole = Fails
verdict_at Always true whole = Fails
verdict_at Find false true = Fails
verdict_at Never false true = Holds
verdict_at Always false true = Holds
verdict_at claim false false = Undecided

-- the verdict on a claim, and the index of the first text that decides it, by whether each text that was found
-- satisfies the formula
abbrev pub judged : Claim → List Bool → Bool → Judgement
judged claim satisfied whole = record {
  verdict = verdict_at claim (is_some (position (shows claim) satisfied)) whole;
  shown_by = position (shows claim) satisfied;
}
