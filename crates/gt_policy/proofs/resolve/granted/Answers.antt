use Rattle.std.proofs.Common.{ℕ, ◌≡◌, ap, ◌∙◌, true, arith, refl}
use Rattle.bitflags.proofs.OnLiterals.{bitflags_on_literals}
use Rattle.gt_types.specs.declared.perms.Perms.{Perms}
use Rattle.gt_policy.specs.Resolving.{all_perms, has_grant}
use Rattle.gt_policy.proofs.resolve.granted.Goals as goal

pub returns-in-Every : goal.returns-in-Every
unfolding bitflags_on_literals
returns-in-Every c =
    let bits : c.all.result.0 ≡ 127 = c.all.ensures tt in
    let every : c.all.result ≡ all_perms = ap (λ (b : ℕ). let r : Perms = record { 0 = b } in r) bits in
    let classes : has_grant c.args.classes.now ≡ true = grind (arith) in
    every ∙ rw (classes, c.in-Every.is) refl
