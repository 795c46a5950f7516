use Rattle.std.proofs.Common.{ap, ◌∙◌}
use Rattle.gt_script.specs.Contents.{KeptContents}
use Rattle.gt_script.proofs.RunLemmas.{known-in}
use Rattle.gt_script.proofs.run_script.of_script.Goals as goal

pub stuck_line-requires-clause-known : goal.stuck_line-requires-clause-known
stuck_line-requires-clause-known c =
    known-in c.as_slice-2.result.now c.args.script.domains c.as_slice.result.now c.args.script.tasks
    (c.as_slice-2.ensures.value ∙ ap (λ (k : KeptContents). k.domains) c.head.view_is ∙ ap (λ (k : KeptContents). k.domains) c.script.view_is)
    (c.as_slice.ensures.value ∙ ap (λ (k : KeptContents). k.tasks) c.script.view_is) c.requires.known
