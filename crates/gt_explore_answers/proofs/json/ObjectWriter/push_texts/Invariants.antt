use Rattle.std.proofs.Common.{◌≡◌, ◌++◌, ℕ, List, drop}
use Rattle.gt_script.specs.Contents.{contents_of}
use Rattle.gt_explore_answers.specs.Texts.{texts_of_orders}
use Rattle.gt_explore_answers.specs.Objects.{ShowsTexts}
use Rattle.gt_explore_answers.specs.Outputs.{found_from}
use Rattle.gt_explore_answers.proofs.json.ObjectWriter.push_texts.Given as goal

-- what is written so far, and then the objects that are left, is what is written of all
abbrev pub invariant-orders : goal.invariant-orders
invariant-orders l = record {
  number : l.number ≡ l.order-index;
  told : (rest : List ℕ) → ShowsTexts (contents_of l.self.script.now.head) (found_from l.self.found.now) l.fn.scripts l.number (texts_of_orders (drop l.order-index l.orders)) (drop l.number l.wanted) rest
      → (more : List ℕ) × (l.out.items ++ rest ≡ l.fn.out.items ++ more)
      × ShowsTexts (contents_of l.self.script.now.head) (found_from l.self.found.now) l.fn.scripts 0 (texts_of_orders l.orders) l.wanted more;
}
