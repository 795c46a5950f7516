use Rattle.std.proofs.Common.{◌≡◌, ◌++◌, take, flat_map}
use Rattle.gt_types.specs.Names.{every_permission}
use Rattle.gt_allow.specs.Looking.{looks_up}
use Rattle.gt_policy_list.specs.Lines.{triple_text}
use Rattle.gt_policy_list.proofs.lines.push_pair.Given as goal

abbrev pub invariant-permissions : goal.invariant-permissions
invariant-permissions l =
    l.out.items ≡ l.initial.out.items ++ flat_map (λ perm. triple_text l.policy.types (looks_up l.table) (record { source = l.fn.source; target = l.fn.target; perm = perm })) (take l.perm-index every_permission)
