use Rattle.std.proofs.Common.{◌≡◌, ◌∙◌, List, ℕ, length, sym, arith}
use Rattle.std.proofs.lemmas.List.{append-nil}
use Rattle.gt_types.specs.Names.{every_permission}
use Rattle.gt_types.specs.declared.perms.Perms.{Perms}
use Rattle.gt_allow.specs.Looking.{looks_up}
use Rattle.gt_policy_list.specs.Lines.{triple_text}
use Rattle.gt_text.proofs.PieceLemmas.{grows, all_pieces}
use Rattle.gt_policy_list.proofs.lines.push_pair.Goals as goal

pub permissions-init : goal.permissions-init
permissions-init c = sym (append-nil c.args.out.now.items)

pub permissions-preserved : goal.permissions-preserved
permissions-preserved c =
    let line : Perms → List ℕ = λ perm. triple_text c.args.policy.now.types (looks_up c.args.table.now) (record { source = c.args.source; target = c.args.target; perm = perm }) in
    grows line every_permission c.permissions.perm-index (record { 0 = 0 }) c.args.out.now.items c.permissions.out.items c.push_triple.new.out.items c.permissions-test.true c.permissions.invariant c.in_ok-push_triple.ensures

pub returns : goal.returns
returns c =
    let line : Perms → List ℕ = λ perm. triple_text c.args.policy.now.types (looks_up c.args.table.now) (record { source = c.args.source; target = c.args.target; perm = perm }) in
    let all : c.permissions.perm-index ≡ length every_permission = omega arith in
    c.permissions.invariant ∙ all_pieces line every_permission c.permissions.perm-index c.args.out.now.items all
