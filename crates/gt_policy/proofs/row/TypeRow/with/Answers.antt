use Rattle.std.proofs.Common.{◌≡◌, ◌||◌, ◌&&◌, false, List, refl, sym, subst, ◌∙◌}
use Rattle.gt_types.specs.Names.{is_permission}
use Rattle.gt_types.specs.Names as names
use Rattle.gt_types.specs.declared.perms.Perms.{Perms}
use Rattle.gt_policy.specs.declared.types.TypeSet.{TypeSet}
use Rattle.gt_policy.specs.Kept.{grants}
use Rattle.gt_policy.specs.TypeSets.{holds}
use Rattle.gt_policy.specs.Rows.{Lane, lanes_reach, lanes, is_reached}
use Rattle.gt_policy.proofs.RowLemmas.{grown_row, lane_grown, nothing_grown}
use Rattle.gt_policy.proofs.row.TypeRow.with.Goals as goal

pub returns : goal.returns
unfolding is_permission
returns c = λ t perm.
    let old : List Lane = lanes c.self.inside.map_read c.self.inside.map_write c.self.inside.unmap c.self.inside.transfer c.self.inside.setup c.self.inside.copy c.self.inside.query in
    let new : List Lane = lanes c.grown.result c.grown-2.result c.grown-3.result c.grown-4.result c.grown-5.result c.grown-6.result c.grown-7.result in
    let lane = λ (p : Perms) (now before : TypeSet). lane_grown c.args.rule.now.perms p now before c.targets-targets.result (is_reached c.args.rule.now c.args.source.0) c.targets-targets.ensures in
    subst (λ (ls : List Lane). lanes_reach new t perm ≡ (lanes_reach ls t perm || (is_permission perm && grants c.args.rule.now c.args.source.0 t perm))) c.self.view_is
    (grown_row c.args.rule.now c.args.source.0 old new (λ q. refl) (
      refl,
      lane names.map_read _ _ c.grown.ensures,
      (refl, lane names.map_write _ _ c.grown-2.ensures, (refl, lane names.unmap _ _ c.grown-3.ensures, (refl, lane names.transfer _ _ c.grown-4.ensures, (refl, lane names.setup _ _ c.grown-5.ensures, (refl, lane names.copy _ _ c.grown-6.ensures, (refl, lane names.query _ _ c.grown-7.ensures, tt)))))),
    ) t perm)

pub returns-then-not-contains : goal.returns-then-not-contains
returns-then-not-contains c = λ t perm.
    let old : List Lane = lanes c.self.inside.map_read c.self.inside.map_write c.self.inside.unmap c.self.inside.transfer c.self.inside.setup c.self.inside.copy c.self.inside.query in
    let apart : holds c.args.rule.now.source c.args.source.0 ≡ false = sym c.contains.ensures ∙ c.if-not-contains.true in
    subst (λ (ls : List Lane). lanes_reach old t perm ≡ (lanes_reach ls t perm || (is_permission perm && grants c.args.rule.now c.args.source.0 t perm))) c.self.view_is
    (nothing_grown c.args.rule.now c.args.source.0 t perm (lanes_reach old t perm) apart)
