use Rattle.std.proofs.Common.{◌≡◌, drop, map}
use Rattle.gt_fault_reasons.specs.Fitting.{example_named}
use Rattle.gt_fault_reasons.proofs.forms.part_among.Given as goal

-- the first of this name is among those that are left
abbrev pub invariant-parts : goal.invariant-parts
invariant-parts l =
    example_named l.name (map (λ part. (part.0.now, part.1.now)) l.parts)
    ≡ example_named l.name (map (λ part. (part.0.now, part.1.now)) (drop l.part-index l.parts))
