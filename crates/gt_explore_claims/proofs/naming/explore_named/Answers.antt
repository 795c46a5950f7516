use Rattle.std.proofs.Common.{List, ℕ, subst, sym}
use Rattle.std.specs.Str.Lines.{lines as lines_in}
use Rattle.gt_explore_answers.specs.declared.asking.ExploreRequest.{ExploreRequest}
use Rattle.gt_explore_claims.specs.Exploring.{IsDecision, IsNamedRequest}
use Rattle.gt_explore_claims.proofs.Explored.{named_fault, source_lines}
use Rattle.gt_explore_claims.proofs.naming.explore_named.Goals as goal

pub returns-in-Err : goal.returns-in-Err
returns-in-Err g c = λ all e.
    named_fault c.args.asked.now c.in-Decide.claim c.in-Decide.expression all (lines_in c.source_of.result.now) _ c.in-Err.fault c.in-Decide.is
    (source_lines all c.args.input.now c.source_of.result.now e c.source_of.ensures) c.in-Err.ensures.fault

pub returns : goal.returns
returns g c = λ all e. c.explore_claim.ensures all e (λ r is.
    subst (λ (q : ExploreRequest). IsNamedRequest all q r) (sym c.in-Decide.is) (
      lines_in c.source_of.result.now,
      source_lines all c.args.input.now c.source_of.result.now e c.source_of.ensures,
      subst (λ (text : List ℕ). IsDecision c.in-Decide.claim text r) c.in-Ok.ensures.ok is,
    ))
