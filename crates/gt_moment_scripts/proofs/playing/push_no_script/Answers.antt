use Rattle.std.proofs.Common.{codes, decimal}
use Rattle.gt_moment_scripts.proofs.Scripts.{three_in_turn}
use Rattle.gt_moment_scripts.proofs.playing.push_no_script.Goals as goal

pub returns : goal.returns
returns c =
    three_in_turn c.push_text-2.result c.args.out.now.items (codes "# no script for play gives it: domain ") (decimal c.args.dom.0) (codes " leaves with a mapping that it may not unmap\n") _ _ _
    c.in_ok-push_text.ensures.ok c.in_ok-push_number.ensures.text c.push_text-2.ensures.ok
