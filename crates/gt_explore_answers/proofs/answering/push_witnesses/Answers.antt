use Rattle.std.proofs.Common.{◌∙◌, ◌+◌, ◌++◌, ℕ, List, [], ap, refl, subst, sym}
use Rattle.std.proofs.lemmas.List.{append-nil}
use Rattle.gt_script.specs.RunContents.{run_contents}
use Rattle.gt_explore_search.specs.declared.exploring.FoundText.{FoundText}
use Rattle.gt_explore_answers.specs.Texts.{texts_of_orders}
use Rattle.gt_explore_answers.specs.Exploring.{AreWitnessOutputs}
use Rattle.gt_explore_answers.specs.Outputs.{found_from, witness_comment}
use Rattle.gt_explore_answers.proofs.Answered.{joined, none_left, witness_more}
use Rattle.gt_explore_answers.proofs.answering.push_witnesses.Goals as goal

pub orders-init : goal.orders-init
orders-init c = record { number = refl; told = λ rest told. (rest, refl, told) }

pub orders-preserved : goal.orders-preserved
orders-preserved c =
    let f = found_from c.args.found.now in
    let comment = witness_comment f (c.orders.number + 1) in
    let script = c.in_ok-text.text.items in record {
      number = ap (λ (n : ℕ). n + 1) c.orders.invariant.number;
      told = λ rest told.
          let all = c.orders.invariant.told (comment ++ (script ++ rest)) (witness_more (run_contents c.args.script.now) f c.as_slice-orders.result.now c.orders.order-index c.orders.number c.order-item.result script rest c.orders-test.true c.order-item.is c.in_ok-text.ensures told) in (
            all.0,
            joined c.orders.out.items comment script rest c.push_witness_comment.new.out.items c.extend_from_slice.new.self.items c.in_ok-push_witness_comment.ensures (c.in_ok-extend_from_slice.ensures.items ∙ ap (λ (l : List ℕ). c.push_witness_comment.new.out.items ++ l) c.as_slice.ensures.value) ∙ all.1,
            all.2,
          );
    }

pub returns : goal.returns
returns c =
    let f = found_from c.args.found.now in
    let all = c.orders.invariant.told [] (none_left (run_contents c.args.script.now) f c.orders.number c.orders.order-index c.as_slice-orders.result.now c.orders-test.false) in
    (all.0, sym (append-nil c.orders.out.items) ∙ all.1, subst (λ (os : List FoundText). AreWitnessOutputs (run_contents c.args.script.now) f 0 (texts_of_orders os) all.0) c.as_slice-orders.ensures.value all.2)
