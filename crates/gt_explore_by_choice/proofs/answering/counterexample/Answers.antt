use Rattle.std.proofs.Common.{◌≡◌, ◌∙◌, ◌+◌, ◌++◌, List, ℕ, ap, arith}
use Rattle.gt_explore_by_choice.proofs.Answered.{shows_counter}
use Rattle.gt_explore_by_choice.proofs.answering.counterexample.Goals as goal

pub returns : goal.returns
returns c = λ source each verdict.
    let many : c.in-Some-checked_add.number ≡ c.args.at + 1 = let e = c.in-Some-checked_add.ensures in omega (arith, e) in
    shows_counter source c.args.found.now c.args.at c.in-Some-checked_add.number c.in-Some.order.now c.in_ok-out.out.items c.in_ok-lines.lines.items c.extend_from_slice.new.self.items c.as_slice-2.result.now many
    (rw c.as_slice.ensures.value at c.in-Some.ensures) c.as_slice-2.ensures.value c.in_ok-out.ensures
    (c.in_ok-extend_from_slice.ensures.items ∙ ap (λ (l : List ℕ). c.in_ok-out.out.items ++ l) c.as_slice-3.ensures.value) (c.in_ok-lines.ensures source each) verdict
