use Rattle.std.proofs.Common.{subst, sym}
use Rattle.std.specs.Arc.{arc_value}
use Rattle.gt_attached.specs.Seated.{StandsBy, copy_in_place}
use Rattle.gt_attached.specs.declared.attachment.Attachment.{Attachment}
use Rattle.gt_attached.proofs.attached.AttachedDomain.new.Goals as goal

pub invariant_of-result : goal.invariant_of-result
invariant_of-result g c =
    let m = arc_value c.args.monitor in
    subst (λ (a : Attachment). StandsBy g.P.Allows.may m a.domain (copy_in_place a.is_copying a.pending)) (sym c.new.ensures)
    (c.keep_at_most.ensures.mine m.words m.config (g.P.Allows.may m.rights) c.requires)
