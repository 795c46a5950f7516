-- Claims about the orders of a script, and what verdicts on them mean.
use Rattle.std.specs.Prelude.{◌≡◌, ℕ, Bool, true, false, List, [], map, Result, Ok, Err}
use Rattle.gt_call_names.specs.Naming.{with_line_numbers}
use Rattle.gt_explore_ordered.specs.Ordered.{HasEachOrdered, HoldsExactly}
use Rattle.gt_explore_ordered.specs.declared.ordered.OrderedText.{OrderedText}
use Rattle.gt_explore_replay.specs.Orders.{Happening, IsOrderOf}
use Rattle.gt_explore_verdict.specs.Formulas.{Op, formula_of, satisfies}
use Rattle.gt_explore_verdict.specs.Judging.{judged}
use Rattle.gt_explore_verdict.specs.Reading.{operations_in}
use Rattle.gt_explore_verdict.specs.declared.fault.ConditionFault.{ConditionFault}
use Rattle.gt_explore_verdict.specs.declared.judging.Claim.{Claim}
use Rattle.gt_explore_verdict.specs.declared.judging.Claim.TheVariants.{Find, Never, Always}
use Rattle.gt_explore_verdict.specs.declared.judging.Verdict.{Verdict}
use Rattle.gt_explore_verdict.specs.declared.judging.Verdict.TheVariants.{Holds, Fails, Undecided}
use Rattle.gt_script.specs.RunContents.{RunContents}
use Rattle.gt_script.specs.declared.precedence.Precedence.{Precedence}
use Rattle.gt_explore_precedence.specs.Replacing.{replaced_from}
use Rattle.gt_explore_precedence.specs.declared.judging.JudgedOrders.{JudgedOrders}

-- the operations of an expression without a fault
abbrev pub ops_read : Result (List Op) (ℕ × ConditionFault) → List Op
ops_read (Ok ops) = ops
ops_read (Err fault) = []

-- an expression by the lines of a script, for an order in which these precedences hold
abbrev pub expression_in : List (List ℕ) → List ℕ → List Bool → List ℕ
expression_in lines expression held = with_line_numbers lines (replaced_from held 0 [] expression)

-- whether an order with these precedences and this text satisfies an expression
abbrev pub satisfied_in : List (List ℕ) → List ℕ → List Bool → List ℕ → Bool
satisfied_in lines expression held text =
    satisfies (formula_of (ops_read (operations_in (expression_in lines expression held)))) text

abbrev pub order_satisfies : List (List ℕ) → List ℕ → OrderedText → Bool
order_satisfies lines expression t = satisfied_in lines expression t.held.items t.text.items

-- in some order of the script the precedences that hold and the text pass this test, or fail it
abbrev pub InSomeOrder : RunContents → List Precedence → (List Bool → List ℕ → Bool) → Bool → Type 0
InSomeOrder c pairs passes b =
    (hs : List Happening) × (text : List ℕ) × (held : List Bool)
    × IsOrderOf c hs text × HoldsExactly c hs pairs held × (passes held text ≡ b)

-- in each order of the script they do
abbrev pub InEachOrder : RunContents → List Precedence → (List Bool → List ℕ → Bool) → Bool → Type 0
InEachOrder c pairs passes b =
    (hs : List Happening) (text : List ℕ) (held : List Bool)
    → IsOrderOf c hs text → HoldsExactly c hs pairs held → passes held text ≡ b

-- What a verdict means for the orders of a script. A claim that some order satisfies the expression holds if one does,
-- and fails if each violates it. A claim that none does, or that each does, is the other way round. A claim that is not
-- decided may hold or fail.
abbrev pub OrderVerdictMeans : RunContents → List Precedence → Claim → (List Bool → List ℕ → Bool) → Verdict → Type 0
OrderVerdictMeans c pairs Find passes Holds = InSomeOrder c pairs passes true
OrderVerdictMeans c pairs Find passes Fails = InEachOrder c pairs passes false
OrderVerdictMeans c pairs Never passes Holds = InEachOrder c pairs passes false
OrderVerdictMeans c pairs Never passes Fails = InSomeOrder c pairs passes true
OrderVerdictMeans c pairs Always passes Holds = InEachOrder c pairs passes true
OrderVerdictMeans c pairs Always passes Fails = InSomeOrder c pairs passes false
OrderVerdictMeans c pairs claim passes Undecided = Unit {0}

-- a claim about orders was judged by texts of the script with their precedences, and the verdict means what it says
pub record JudgesOrders (c : RunContents) (pairs : List Precedence) (claim : Claim) (passes : List Bool → List ℕ → Bool)
    (j : JudgedOrders) : Type 0 where
  pub each : HasEachOrdered c pairs j.found
  pub met : j.met.items ≡ map (λ t. passes t.held.items t.text.items) j.found.texts.items
  pub judged_so : j.judgement ≡ judged claim j.met.items j.found.whole
  pub means : OrderVerdictMeans c pairs claim passes j.judgement.verdict
