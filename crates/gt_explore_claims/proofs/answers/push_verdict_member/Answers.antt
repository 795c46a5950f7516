use Rattle.std.proofs.Common.{codes}
use Rattle.gt_explore_claims.specs.Answering.{verdict_member, verdict_word}
use Rattle.gt_explore_claims.proofs.Numbered.{three_joined}
use Rattle.gt_explore_claims.proofs.answers.push_verdict_member.Goals as goal

pub returns : goal.returns
unfolding verdict_member
returns c =
    three_joined c.push_text-3.result c.args.out.now.items (codes ",\"verdict\":\"") c.verdict_word.result.now (verdict_word c.args.verdict) (codes "\"}\n")
    c.push_text.new.out.items c.push_text-2.new.out.items c.push_text-3.new.out.items
    c.in_ok-push_text.ensures.ok c.verdict_word.ensures c.in_ok-push_text-2.ensures.ok c.push_text-3.ensures.ok
