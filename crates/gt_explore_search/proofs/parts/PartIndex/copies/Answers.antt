use Rattle.std.proofs.Common.{sym, ◌∙◌, ap, refl, get_or}
use Rattle.std.specs.Option.{option_map}
use Rattle.gt_explore_search.specs.Parts.{RepeatsPart}
use Rattle.gt_explore_search.proofs.Numbering.{pair-step}
use Rattle.gt_explore_search.proofs.parts.PartIndex.copies.Goals as goal

pub numbers-preserved : goal.numbers-preserved
numbers-preserved g c = pair-step (RepeatsPart (g.S.TransitionSystem.parts c.args.space.now) c.args.self.now.kept.items) c.args.numbers.now c.numbers.made.items c.push.new.self.items c.numbers.number-index
    (get_or c.args.numbers.now c.numbers.number-index 0) 0 c.in_ok-copy.field-0 c.numbers-test.true c.numbers.invariant refl (
      c.in-Some.part.now,
      sym c.part.ensures ∙ ap (option_map (λ w. w.now)) c.in-Some.is,
      c.in_ok-copy.ensures,
    )
    c.in_ok-push.ensures.items
