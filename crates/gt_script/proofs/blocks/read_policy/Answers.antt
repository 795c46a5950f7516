use Rattle.std.proofs.Common.{◌∙◌}
use Rattle.gt_script.proofs.FaultLemmas.{policy_faulty}
use Rattle.gt_script.proofs.blocks.read_policy.Goals as goal

pub returns : goal.returns
returns c = policy_faulty c.args.before c.in-Err.fault.line c.in-Err.fault.kind _ _ c.in_block.result (c.as_str.ensures.value ∙ c.in_ok-text.ensures) c.in-Err.ensures.fault c.in_block.ensures
