use Rattle.gt_explore_tracing.proofs.answering.objects_made.Goals as goal

pub returns : goal.returns
returns c = record { objects = c.in_ok-text.text.items; shown = (c.in_ok-text.ensures, c.verdict_of_all-verdict.ensures); ended = c.in_ok-push_summary.ensures }
