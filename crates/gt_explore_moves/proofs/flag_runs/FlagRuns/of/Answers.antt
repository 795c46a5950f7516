use Rattle.std.proofs.Common.{◌∙◌, ◌+◌, ℕ, false, Vec, Global, ap, arith, get_or, take, take_all}
use Rattle.std.proofs.lemmas.List.{take_more}
use Rattle.gt_explore_moves.proofs.RunLengths.{all-runs, flag-in-run, flag-past-run, other-flag}
use Rattle.gt_explore_moves.specs.RunLengths.{flags_of_runs}
use Rattle.gt_explore_moves.proofs.flag_runs.FlagRuns.of.Goals.{then-flag-is_raised+in_ok-push, else-flag-is_raised+then-len+in_ok-push-2+in_ok-push-3, else-flag-is_raised+else-len}
use Rattle.gt_explore_moves.proofs.flag_runs.FlagRuns.of.Goals as goal

pub flags-preserved : goal.flags-preserved
flags-preserved c =
    let f = c.flags in
    let n = c.if-flag-is_raised in
    let flag = get_or c.args.flags.now f.flag-index false in
    let before = take f.flag-index c.args.flags.now in
    let done = take (f.flag-index + 1) c.args.flags.now in
    let more = take_more c.args.flags.now f.flag-index false c.flags-test.true in
    elim n.branch [
      | then-flag-is_raised+in_ok-push w ↦ other-flag f.runs.items n.runs.items f.is_raised n.is_raised flag f.len n.len before done f.invariant w.if-flag-is_raised.true (ap (λ (v : Vec ℕ Global). v.items) w.runs-is ∙ w.in_ok-push.ensures.items) w.is_raised-is w.len-is more
      | else-flag-is_raised+then-len+in_ok-push-2+in_ok-push-3 w ↦
          flag-past-run f.runs.items w.push-then-len.new.self.items n.runs.items f.is_raised n.is_raised flag f.len n.len before done f.invariant w.if-flag-is_raised.false w.in_ok-push-2.ensures.items
          (ap (λ (v : Vec ℕ Global). v.items) w.runs-is ∙ w.in_ok-push-3.ensures.items) w.is_raised-is w.len-is more
      | else-flag-is_raised+else-len w ↦ flag-in-run f.runs.items n.runs.items f.is_raised n.is_raised flag f.len n.len before done f.invariant w.if-flag-is_raised.false (ap (λ (v : Vec ℕ Global). v.items) w.runs-is) w.is_raised-is w.len-is more
    ]

pub returns : goal.returns
returns c =
    ap (flags_of_runs false) (c.shrink_to_fit.ensures.items ∙ c.in_ok-push-4.ensures.items) ∙ all-runs c.flags.runs.items c.flags.is_raised c.flags.len (take c.flags.flag-index c.args.flags.now) c.flags.invariant
    ∙ take_all c.flags.flag-index c.args.flags.now (let past = c.flags-test.false in omega (arith, past))
