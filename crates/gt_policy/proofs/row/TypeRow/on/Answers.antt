use Rattle.std.proofs.Common.{◌∙◌, ap}
use Rattle.gt_types.specs.declared.perms.Perms.{Perms}
use Rattle.gt_policy.specs.Allowing.{lists_perm}
use Rattle.gt_policy.proofs.RowLemmas.{none_listed, one_inserted, row_step, row_end, if_taken, if_not}
use Rattle.gt_policy.proofs.row.TypeRow.on.Goals as goal
use Rattle.gt_policy.proofs.row.TypeRow.on.Goals.{then-reaches, else-reaches}

pub loop-perm-init : goal.loop-perm-init
loop-perm-init c = λ q one. none_listed c.empty-perms.result q (c.empty-perms.ensures tt) one

pub loop-perm-preserved : goal.loop-perm-preserved
loop-perm-preserved c = λ q one.
    elim c.if-reaches.branch [
      | then-reaches w ↦
          row_step c.args.self.now c.args.target.0 c.loop-perm.perm-index (record { 0 = 0 }) c.if-reaches.perms c.loop-perm.perms q c.reaches.result c.loop-perm-test.true c.reaches.ensures
          (ap (λ (p : Perms). lists_perm p q) w.perms-is ∙ one_inserted w.insert.new.self c.loop-perm.perms q c.loop-perm.perm-index (record { 0 = 0 }) c.loop-perm-test.true (w.insert.ensures tt) one
          ∙ if_taken (lists_perm c.loop-perm.perms q) c.reaches.result _ w.if-reaches.true)
          (c.loop-perm.invariant q one)
      | else-reaches w ↦
          row_step c.args.self.now c.args.target.0 c.loop-perm.perm-index (record { 0 = 0 }) c.if-reaches.perms c.loop-perm.perms q c.reaches.result c.loop-perm-test.true c.reaches.ensures
          (ap (λ (p : Perms). lists_perm p q) w.perms-is ∙ if_not (lists_perm c.loop-perm.perms q) c.reaches.result _ w.if-reaches.false)
          (c.loop-perm.invariant q one)
    ]

pub returns : goal.returns
returns c = row_end c.args.self.now c.args.target.0 c.loop-perm.perm-index c.loop-perm.perms c.loop-perm-test.false c.loop-perm.invariant c.answers_one_permission.ensures
