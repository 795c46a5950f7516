use Rattle.std.proofs.Common.{refl, sym}
use Rattle.gt_explore.proofs.Added.{adds_new, adds_none}
use Rattle.gt_explore.proofs.texts.add_order.Goals as goal

pub returns-in_ok-push-in-Less : goal.returns-in_ok-push-in-Less
returns-in_ok-push-in-Less c =
    adds_new c.args.texts.now.items c.args.order c.push.new.self.items c.in_ok-push-in-Less.ensures.items
    (sym (rw (c.as_slice-2.ensures.value, c.as_slice.ensures.value) at c.in-Less.ensures))

pub returns-in-Equal : goal.returns-in-Equal
returns-in-Equal c =
    adds_none c.args.texts.now.items c.args.order c.args.texts.now.items refl
    (sym (rw (c.as_slice-2.ensures.value, c.as_slice.ensures.value) at c.in-Equal.ensures))
