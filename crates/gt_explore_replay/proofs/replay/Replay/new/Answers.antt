use Rattle.std.proofs.Common.{ℕ, ◌∙◌, ap, refl, subst, sym}
use Rattle.gt_script.specs.Contents.{KeptContents, contents_of, type_names}
use Rattle.gt_script.specs.RunContents.{run_contents}
use Rattle.gt_script_runs.specs.Playing.{StartsFor}
use Rattle.gt_explore_replay.specs.Walking.{HaveOwnIds}
use Rattle.gt_script.specs.Stuck.{AreNumbered}
use Rattle.gt_explore_replay.proofs.Following.{begins_abreast}
use Rattle.gt_explore_replay.proofs.Starting.{begins}
use Rattle.gt_explore_replay.proofs.replay.Replay.new.Goals as goal

pub returns-clause-walks : goal.returns-clause-walks
returns-clause-walks c =
    begins (run_contents c.args.script.now) _ c.domains.result.now
    (subst (λ (k : KeptContents). StartsFor (contents_of k) c.in_ok-core.core) c.head-head.ensures c.in_ok-core.ensures.starts)
    (subst (λ (k : KeptContents). HaveOwnIds (contents_of k).domains) c.head-head.ensures (c.in_ok-core.ensures.apart refl))
    (c.in_ok-types.ensures ∙ ap (λ (k : KeptContents). type_names (contents_of k)) c.head-head.ensures)
    c.in_ok-walkers.ensures.doms (c.domains.ensures ∙ ap (λ (k : KeptContents). k.domains) c.head-head.ensures) c.in_ok-walkers.ensures.first c.in_ok-told.ensures.none

pub returns-clause-abreast : goal.returns-clause-abreast
returns-clause-abreast c = λ numbered.
    begins_abreast (run_contents c.args.script.now) _ c.domains.result.now
    (subst (λ (k : KeptContents). StartsFor (contents_of k) c.in_ok-core.core) c.head-head.ensures c.in_ok-core.ensures.starts)
    (subst (λ (k : KeptContents). HaveOwnIds (contents_of k).domains) c.head-head.ensures (c.in_ok-core.ensures.apart refl))
    (c.in_ok-types.ensures ∙ ap (λ (k : KeptContents). type_names (contents_of k)) c.head-head.ensures)
    c.in_ok-walkers.ensures.doms (c.domains.ensures ∙ ap (λ (k : KeptContents). k.domains) c.head-head.ensures) c.in_ok-walkers.ensures.first
    (subst (λ (n : ℕ). AreNumbered n c.args.script.now.tasks) (sym (c.in_ok-told.ensures.many ∙ c.flags.ensures)) numbered)
