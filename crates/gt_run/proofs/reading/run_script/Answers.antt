use Rattle.std.proofs.Common.{ℕ, ap, ◌∙◌, subst, sym}
use Rattle.std.proofs.lemmas.Result.{err_from_is_err_and}
use Rattle.gt_script.specs.Contents.{KeptContents, first_gen, contents_of, type_names}
use Rattle.gt_script.specs.RunContents.{run_contents}
use Rattle.gt_script.specs.Stuck.{AreNumbered}
use Rattle.gt_script_runs.specs.Rights.{may_in}
use Rattle.gt_run.proofs.RanLemmas.{wrote_nothing, wrote_script}
use Rattle.gt_run.proofs.reading.run_script.Goals as goal

pub returns-in_err-from_slice : goal.returns-in_err-from_slice
returns-in_err-from_slice g c =
    let p = err_from_is_err_and c.from_residual.result c.from_residual.ensures.1 in
    rw p.1 (wrote_nothing (g.G.Gate.refuses c.args.gate.now) (run_contents c.args.script.now) _ _ _ p.2)

pub returns-in_err-rights : goal.returns-in_err-rights
returns-in_err-rights g c =
    let p = err_from_is_err_and c.from_residual-in_err-rights.result c.from_residual-in_err-rights.ensures.1 in
    rw p.1 (wrote_nothing (g.G.Gate.refuses c.args.gate.now) (run_contents c.args.script.now) _ _ _ p.2)

pub returns-in_err-types : goal.returns-in_err-types
returns-in_err-types g c =
    let p = err_from_is_err_and c.from_residual-in_err-types.result c.from_residual-in_err-types.ensures.1 in
    rw p.1 (wrote_nothing (g.G.Gate.refuses c.args.gate.now) (run_contents c.args.script.now) _ _ _ p.2)

pub returns-in_err-parts : goal.returns-in_err-parts
returns-in_err-parts g c =
    let p = err_from_is_err_and c.from_residual-in_err-parts.result c.from_residual-in_err-parts.ensures.1 in
    rw p.1 (wrote_nothing (g.G.Gate.refuses c.args.gate.now) (run_contents c.args.script.now) _ _ _ p.2)

pub returns : goal.returns
returns g c =
    wrote_script (g.G.Gate.refuses c.args.gate.now) (run_contents c.args.script.now) _ _ _ c.in-Ok.flags c.in_ok-parts.parts.items c.as_slice-2.result.now c.run_lists.result _ _ c.domains-2.result.now c.tasks.result.now c.as_slice.result.now
    c.in_ok-parts.ensures (c.domains-2.ensures ∙ ap (λ (k : KeptContents). k.domains) c.head-head.ensures) c.tasks.ensures
    (c.as_slice.ensures.value ∙ c.in_ok-types.ensures ∙ ap (λ (k : KeptContents). type_names (contents_of k)) c.head-head.ensures) c.as_slice-2.ensures.value
    (c.in_ok-from_slice.ensures.items ∙ c.domains.ensures ∙ ap (λ (k : KeptContents). k.domains) c.head-head.ensures)
    (c.first_gen.ensures ∙ ap (λ (k : KeptContents). first_gen (contents_of k)) c.head-head.ensures)
    (c.in_ok-rights.ensures ∙ ap (λ (k : KeptContents). may_in (contents_of k)) c.head-head.ensures)
    (subst (λ (n : ℕ). AreNumbered n c.args.script.now.tasks) (sym (c.in-Ok.ensures.1 ∙ c.flags.ensures)) c.requires.numbered) c.run_lists.ensures
