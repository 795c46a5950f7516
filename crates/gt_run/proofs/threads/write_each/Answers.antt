use Rattle.std.proofs.Common.{rules, ◌≡◌, ◌++◌, ℕ, List, None, OnOk, subst}
use Rattle.std.specs.Io.KnownBytes.{Appends}
use Rattle.std.proofs.lemmas.Result.{err_from_is_err_and}
use Rattle.gt_text.specs.Streams.{AppendsBeginning}
use Rattle.gt_audit.specs.Lines.{lost_text}
use Rattle.gt_run.proofs.JobLemmas.{joined_together, wrote_all, wrote_lines}
use Rattle.gt_run.proofs.threads.write_each.Goals as goal

pub returns : goal.returns
returns g c =
    let given : c.args.started.refused ≡ None = search rules in
    let joined = joined_together g.P.Allows.may (g.G.Gate.refuses c.args.gate.now) c.args.monitor.now _ _ _ _ _ _ _ (c.requires.run given).0 c.learn_of_all.ensures c.join_each-outcome.ensures.joins in
    let out = subst (λ (l : List ℕ). OnOk c.write_audit.result (Appends (g.W.Write.contents c.join_each-outcome.new.writer) (g.W.Write.contents c.write_audit.new.writer)
    (l ++ lost_text c.join_each-outcome.result.lost))) c.as_slice.ensures.value c.write_audit.ensures.whole in
    let begun = subst (λ (l : List ℕ). AppendsBeginning (g.W.Write.contents c.join_each-outcome.new.writer) (g.W.Write.contents c.write_audit.new.writer)
    (l ++ lost_text c.join_each-outcome.result.lost)) c.as_slice.ensures.value c.write_audit.ensures.beginning in
    wrote_all g.P.Allows.may (g.G.Gate.refuses c.args.gate.now) _ c.args.started.refused _ _ _ _ _ _ _ _ c.in_ok-outcome.was given joined out begun c.write_audit.ensures.late

pub returns-in_err-outcome : goal.returns-in_err-outcome
returns-in_err-outcome g c =
    let given : c.args.started.refused ≡ None = search rules in
    let p = err_from_is_err_and c.from_residual.result c.from_residual.ensures.1 in
    rw (p.1, p.2) (wrote_lines _ g.P.Allows.may (g.G.Gate.refuses c.args.gate.now) _ _ _ _ _ _ _ _ c.in_err-outcome.was given c.join_each-outcome.ensures.joins)
