use Rattle.std.proofs.Common.{◌≡◌, ◌++◌, take, map}
use Rattle.gt_types.specs.Names.{every_permission, permission_name}
use Rattle.gt_findings.proofs.messages.push_permission_names.Given as goal

-- the names so far
abbrev pub invariant-perms : goal.invariant-perms
invariant-perms l = map (λ n. n.now) l.names.items ≡ map (λ n. n.now) l.initial.names.items ++ map permission_name (take l.perm-index every_permission)
