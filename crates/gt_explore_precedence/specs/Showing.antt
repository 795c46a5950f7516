-- What is printed of a claim about orders.
use Rattle.std.specs.Prelude.{◌≡◌, ℕ, ◌+◌, ◌++◌, Bool, List, [], map, Option, Some, None}
use Rattle.gt_explore_answers.specs.Exploring.{verdict_line}
use Rattle.gt_explore_answers.specs.Objects.{summary, text_object}
use Rattle.gt_explore_answers.specs.Outputs.{Found, counterexample_comment, states_line, texts_output}
use Rattle.gt_explore_answers.specs.Witness.{IsTextNumbered}
use Rattle.gt_explore_answers.specs.declared.asking.ExploreFormat.{ExploreFormat}
use Rattle.gt_explore_answers.specs.declared.asking.ExploreFormat.TheVariants as explore_formats
use Rattle.gt_explore_ordered.specs.declared.ordered.OrderedFound.{OrderedFound}
use Rattle.gt_explore_verdict.specs.declared.judging.Claim.{Claim}
use Rattle.gt_explore_verdict.specs.declared.judging.Claim.TheVariants.{Find, Never, Always}
use Rattle.gt_explore_verdict.specs.declared.judging.Judgement.{Judgement}
use Rattle.gt_explore_verdict.specs.declared.judging.Verdict.{Verdict}
use Rattle.gt_explore_precedence.specs.declared.showing.ShownClaim.{ShownClaim}

-- the texts of orders, without their precedences
abbrev pub orders_found : OrderedFound → Found
orders_found f = record {
  texts = map (λ t. t.text.items) f.texts.items;
  states = f.states;
  whole = f.whole;
  depth = f.depth;
}

-- the text at this index as a comment, which shows that a claim does not hold
abbrev pub IsCounterexample : Found → ℕ → List ℕ → Type 0
IsCounterexample f at text =
    (given : List ℕ) × IsTextNumbered f.texts (at + 1) given × (text ≡ counterexample_comment f (at + 1) given)

-- the verdict, or the text at this index if it shows it
abbrev pub IsVerdictShown : Found → Verdict → Option ℕ → List ℕ → Type 0
IsVerdictShown f verdict None text = text ≡ verdict_line verdict ++ states_line f
IsVerdictShown f verdict (Some at) text = IsCounterexample f at text

-- in lines: the texts whose orders satisfy the expression, or the verdict
abbrev pub IsTextOutput : Claim → Found → List Bool → Judgement → List ℕ → Type 0
IsTextOutput Find f met j text = text ≡ texts_output f met
IsTextOutput Never f met j text = IsVerdictShown f j.verdict j.shown_by text
IsTextOutput Always f met j text = IsVerdictShown f j.verdict j.shown_by text

-- the object of the text at this index, if there is one
abbrev pub IsShownObject : Found → Option ℕ → List ℕ → Type 0
IsShownObject f None object = object ≡ []
IsShownObject f (Some at) object =
    (given : List ℕ) × IsTextNumbered f.texts (at + 1) given × (object ≡ text_object f (at + 1) given)

-- in objects: that of the text that shows the verdict, if one does, and the last one
abbrev pub IsObjectOutput : ℕ → Found → Judgement → List ℕ → Type 0
IsObjectOutput limit f j text =
    (object : List ℕ) × IsShownObject f j.shown_by object × (text ≡ object ++ summary f limit j.verdict)

abbrev pub IsFormatOutput : ExploreFormat → ShownClaim → Found → List Bool → List ℕ → Type 0
IsFormatOutput explore_formats.Text shown f met text = IsTextOutput shown.claim f met shown.judgement text
IsFormatOutput explore_formats.Json shown f met text = IsObjectOutput shown.states f shown.judgement text

-- the output for a claim, by the texts found and whether the order of each satisfies its expression
abbrev pub IsOrderOutput : ShownClaim → Found → List Bool → List ℕ → Type 0
IsOrderOutput shown f met text = IsFormatOutput shown.format shown f met text
