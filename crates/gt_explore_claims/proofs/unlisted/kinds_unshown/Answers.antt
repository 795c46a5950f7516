use Rattle.std.proofs.Common.{◌∙◌, List, ap, map, subst, sym}
use Rattle.gt_script.specs.RunContents.{run_contents}
use Rattle.gt_explore_answers.specs.Outputs.{found_from}
use Rattle.gt_explore_kinds.specs.Kinds.{formulas_asked}
use Rattle.gt_explore_verdict.specs.Formulas.{Formula}
use Rattle.gt_explore_claims.specs.Deciding.{numbered_claim}
use Rattle.gt_explore_claims.specs.Unlisted.{HasEachKindOf}
use Rattle.gt_explore_claims.proofs.Unshown.{kinds_mean, none_of_all, none_shown}
use Rattle.gt_explore_claims.proofs.unlisted.kinds_unshown.Goals as goal

pub returns : goal.returns
returns g c =
    let d = run_contents c.args.script.now in let f = found_from c.in_ok-found.found in let claims = map numbered_claim c.args.claims.now in
    let kinds = subst (λ (l : List Formula). HasEachKindOf d l f) (ap formulas_asked c.as_slice.ensures.value ∙ c.in_ok-expressions.ensures) c.in_ok-found.ensures in
    let none = sym c.in_ok-is_shown.ensures ∙ c.if-is_shown.false in
    record {
      possible = kinds.possible;
      none = none_shown d f claims kinds none;
      means = kinds_mean d f claims kinds;
      same = none_of_all d f claims kinds none;
    }
