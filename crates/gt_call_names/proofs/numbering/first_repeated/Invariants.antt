use Rattle.std.proofs.Common.{◌≡◌, drop, map}
use Rattle.gt_call_names.specs.Naming.{first_repeated}
use Rattle.gt_call_names.proofs.numbering.first_repeated.Given as goal

abbrev pub invariant-parts : goal.invariant-parts
invariant-parts l =
    first_repeated (map (λ line. line.now) l.lines) (map (λ part. part.now) l.parts)
    ≡ first_repeated (map (λ line. line.now) l.lines) (map (λ part. part.now) (drop l.part-index l.parts))
