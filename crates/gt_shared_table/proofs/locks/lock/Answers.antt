use Rattle.std.proofs.Common.{sym, subst}
use Rattle.atomic_table.specs.Table.{Me}
use Rattle.gt_shared_table.specs.declared.rule.FrameHolder.{FrameHolder}
use Rattle.gt_shared_table.specs.Locking.{AreBelow}
use Rattle.gt_shared_table.specs.Rule.{Cell}
use Rattle.gt_shared_table.proofs.locks.lock.Goals as goal

pub lock_awaited-requires-clause-upwards : goal.lock_awaited-requires-clause-upwards
lock_awaited-requires-clause-upwards g c =
    subst (λ (m : Me Cell FrameHolder). AreBelow c.args.slot.index m.0.held) (sym c.if-try_lock.ensures.took) c.requires.upwards
