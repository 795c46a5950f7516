use Rattle.std.proofs.Common.{codes}
use Rattle.gt_json.specs.Strings.{quoted}
use Rattle.gt_explore_answers.proofs.Shown.{two_joined}
use Rattle.gt_explore_answers.proofs.objects.push_witness_member.Goals as goal

pub returns : goal.returns
returns c = two_joined c.push_quoted.result c.args.out.now.items (codes ",\"witness\":") (quoted c.args.script.now) _ _ c.in_ok-push_text.ensures.ok c.push_quoted.ensures
