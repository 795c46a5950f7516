use Rattle.std.proofs.Common.{◌≡◌, ◌++◌, ℕ, List, drop}
use Rattle.gt_script.specs.RunContents.{run_contents}
use Rattle.gt_explore_answers.specs.Texts.{texts_of_orders}
use Rattle.gt_explore_answers.specs.Exploring.{AreWitnessOutputs}
use Rattle.gt_explore_answers.specs.Outputs.{found_from}
use Rattle.gt_explore_answers.proofs.answering.push_witnesses.Given as goal

-- what is written so far, and then the scripts that are left, is what is written of all
abbrev pub invariant-orders : goal.invariant-orders
invariant-orders l = record {
  number : l.number ≡ l.order-index;
  told : (rest : List ℕ) → AreWitnessOutputs (run_contents l.script) (found_from l.found) l.number (texts_of_orders (drop l.order-index l.orders)) rest
      → (more : List ℕ) × (l.out.items ++ rest ≡ l.fn.out.items ++ more)
      × AreWitnessOutputs (run_contents l.script) (found_from l.found) 0 (texts_of_orders l.orders) more;
}
