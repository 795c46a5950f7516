use Rattle.std.proofs.Common.{◌+◌, ◌≤◌, ◌∙◌, ℕ, ap, arith, length, refl, sym}
use Rattle.std.proofs.lemmas.Option.{slice_get_past}
use Rattle.gt_explore_moves.proofs.LineBegins.{tasks-short}
use Rattle.gt_explore_moves.specs.Ends.{tasks_at}
use Rattle.gt_explore_ordered.proofs.Finding.{call-most, found-there, not-there, passed-more}
use Rattle.gt_explore_ordered.proofs.places.place_in.Goals as goal

pub returns-in_default : goal.returns-in_default
returns-in_default c =
    not-there c.args.line (tasks_at c.args.scene.now c.args.place) c.loop-index.index c.loop-index.before c.loop-index.invariant.passed (sym c.in_default.ensures)

pub returns-then-is_call_of : goal.returns-then-is_call_of
returns-then-is_call_of c = record {
  at = refl;
  task = c.in-Some.task.now;
  first = found-there c.args.line (tasks_at c.args.scene.now c.args.place) c.loop-index.index c.loop-index.before c.loop-index.invariant.passed c.in-Some.task.now (sym c.in-Some.ensures)
      (sym c.is_call_of.ensures ∙ c.if-is_call_of.true);
  there = sym c.in-Some.ensures;
  dom = refl;
  before = c.loop-index.invariant.passed.calls;
}

pub loop-index-preserved : goal.loop-index-preserved
loop-index-preserved c =
    let e = c.call_count-before.ensures in record {
      few = let most = call-most c.in-Some.task.now in let few = c.loop-index.invariant.few in omega (arith, e, most, few);
      passed = passed-more c.args.line (tasks_at c.args.scene.now c.args.place) c.loop-index.index c.loop-index.before c.loop-index.invariant.passed c.in-Some.task.now (sym c.in-Some.ensures)
          (sym c.is_call_of.ensures ∙ c.if-is_call_of.false) _ _ refl (ap (λ (n : ℕ). c.loop-index.before + n) e);
    }

pub returns : goal.returns
returns c =
    let short = tasks-short c.args.scene.now c.args.place in
    let past : length (tasks_at c.args.scene.now c.args.place) ≤ c.loop-index.index = omega (arith, short, c.loop-index-test.false) in
    not-there c.args.line (tasks_at c.args.scene.now c.args.place) c.loop-index.index c.loop-index.before c.loop-index.invariant.passed (slice_get_past (tasks_at c.args.scene.now c.args.place) c.loop-index.index past)
