use Rattle.std.proofs.Common.{[], ◌∷◌, ◌++◌, ◌∙◌, add-one, ap, arith, List, sym}
use Rattle.gt_audit.specs.declared.record.Record.{Record}
use Rattle.gt_audit.proofs.Joining.{none_past, take_get}
use Rattle.gt_audit.proofs.trail.Trail.records.Goals as goal
use Rattle.gt_audit.proofs.trail.Trail.records.Goals.{in-Some+in_ok-push, in_default}

pub records-preserved : goal.records-preserved
records-preserved c =
    elim c.match-get.branch [
      | in-Some+in_ok-push w ↦
          rw add-one
          (ap (λ v. v.items) w.records-is ∙ w.in_ok-push.ensures.items
          ∙ ap (λ (xs : List Record). xs ++ w.in-Some.recorded ∷ []) c.records.invariant
          ∙ sym (take_get _ _ _ (sym c.get.ensures ∙ w.in-Some.is)))
      | in_default w ↦ absurd (omega (arith, none_past c.args.self.now.records c.records.index (sym c.get.ensures ∙ w.in_default.is)))
    ]
