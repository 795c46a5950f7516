use Rattle.std.proofs.Common.{◌≡◌, ◌++◌, ◌∙◌, ap, take, drop, rules, arith}
use Rattle.std.specs.Prelude.{is_some}
use Rattle.std.proofs.lemmas.Grind.{common_steps}
use Rattle.gt_fault_reasons.proofs.FittingLemmas.{fitted}
use Rattle.gt_fault_reasons.proofs.misfit.fits.Goals as goal

pub returns : goal.returns
returns c =
    let line : c.as_slice.result.now ≡ take c.args.count c.args.words.now ++ drop c.args.count c.args.example.now =
    first_of (search rules, grind (arith, common_steps), cc) in
    c.is_some.ensures ∙ ap is_some c.read_line.ensures ∙ fitted (λ w. w.now) c.as_slice.result.now c.args.words.now c.args.example.now c.args.count line
