use Rattle.gt_neverallow.proofs.BreakingLemmas.{shown_by}
use Rattle.gt_neverallow.proofs.example.example_by.Goals as goal

pub returns-in_ok-example_text-in-Some-clause-shows : goal.returns-in_ok-example_text-in-Some-clause-shows
returns-in_ok-example_text-in-Some-clause-shows c =
    shown_by c.in_ok-example_text-in-Some.field-0.items c.args.perm.now c.args.members.now c.args.never.now c.args.allowed.now c.args.source.now c.in-Some.target.now c.in-Some.ensures.target c.in_ok-example_text-in-Some.ensures
