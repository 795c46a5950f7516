use Rattle.std.proofs.Common.{◌∙◌, ap, map}
use Rattle.std.specs.Str.Lines.{lines as lines_in}
use Rattle.gt_explore_claims.specs.Deciding.{numbered_claim}
use Rattle.gt_explore_claims.specs.Stating.{stated}
use Rattle.gt_explore_claims.proofs.Explored.{claims_named_twice, source_lines}
use Rattle.gt_explore_claims.proofs.exploring.explore_stated.Goals as goal

pub returns-in-Ok : goal.returns-in-Ok
returns-in-Ok g c = λ all e read. c.explore_numbered.ensures all e (record {
  lines = lines_in c.source_of.result.now;
  source = source_lines all c.args.input.now c.source_of.result.now e c.source_of.ensures;
  stated = map stated c.args.claims.now;
  read = read;
  named = ap (map numbered_claim) c.as_slice.ensures.value ∙ c.in-Ok.ensures.ok;
})

pub returns-in-Err : goal.returns-in-Err
returns-in-Err g c = λ all e read.
    claims_named_twice c.args.asked.now all (lines_in c.source_of.result.now) (map stated c.args.claims.now) c.in-Err.fault _
    (source_lines all c.args.input.now c.source_of.result.now e c.source_of.ensures) read c.in-Err.ensures.fault
