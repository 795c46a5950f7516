use Rattle.std.proofs.Common.{subst, sym}
use Rattle.gt_script.specs.Contents.{KeptContents, contents_of}
use Rattle.gt_script.specs.RunScripts.{CanConfigure}
use Rattle.gt_script_runs.specs.Playing.{StartsFor}
use Rattle.gt_text.specs.Laws.{keeps_same}
use Rattle.gt_text.specs.Laws.{OnErr-all}
use Rattle.gt_host.proofs.PlayLemmas.{not_begun, starts_whole}
use Rattle.gt_host.proofs.playing.run_script.Goals as goal

pub returns-in_err-core-clause-beginning : goal.returns-in_err-core-clause-beginning
returns-in_err-core-clause-beginning g c = OnErr-all _ _ (not_begun (contents_of c.args.script.now) c.args.audit _ _ (keeps_same _))

pub core_of-requires : goal.core_of-requires
core_of-requires g c =
    subst (λ (k : KeptContents). CanConfigure (contents_of k)) (sym c.head.ensures) (c.requires.0, c.requires.1, c.requires.2)

pub run_lines-requires-clause-starts : goal.run_lines-requires-clause-starts
run_lines-requires-clause-starts g c =
    starts_whole c.args.script.now c.in_ok-core.core
    (subst (λ (k : KeptContents). StartsFor (contents_of k) c.in_ok-core.core) c.head.ensures c.in_ok-core.ensures.starts)
