use Rattle.std.proofs.Common.{sym, ◌∙◌}
use Rattle.gt_policy.specs.Kept.{allowed_of}
use Rattle.gt_script.specs.Contents.{contents_of}
use Rattle.gt_script.proofs.FaultLemmas.{block_open, block_rest, block_faulty}
use Rattle.gt_script.proofs.ScriptLemmas.{texts}
use Rattle.gt_script.proofs.parsing.of_block.Goals as goal

pub returns-in_default : goal.returns-in_default
returns-in_default c = block_open c.args.command c.args.count c.args.first (texts c.args.lines.now) c.in_ok-end.field-0 c.in_ok-end.ensures.closes c.in_default.is

pub returns-in-Ok : goal.returns-in-Ok
returns-in-Ok c =
    block_rest c.args.command c.args.count c.args.first c.in-Some.end c.args.lines.now (allowed_of c.in-Ok.policy) (contents_of c.new-script.result) c.with_rest.result (sym c.in-Some.is ∙ c.in_ok-end.ensures.closes) c.in-Ok.ensures c.new-script.ensures c.with_rest.ensures

pub returns-in-Err : goal.returns-in-Err
returns-in-Err c = block_faulty c.args.command c.args.count c.args.first c.in-Some.end c.args.lines.now c.in-Err.error (sym c.in-Some.is ∙ c.in_ok-end.ensures.closes) c.in-Err.ensures
