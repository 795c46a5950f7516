use Rattle.std.proofs.Common.{◌∙◌, refl, subst}
use Rattle.gt_words.specs.Conditions.{IsSeatOf}
use Rattle.gt_live.specs.Domains.{HasLeft}
use Rattle.gt_live.specs.declared.monitor.Monitor.{Monitor}
use Rattle.gt_run.proofs.ListLemmas.{starts_told}
use Rattle.gt_run.proofs.JobLemmas.{begun_not, came_plain, came_told}
use Rattle.gt_run.proofs.serving.work.Goals as goal
use Rattle.gt_run.proofs.serving.work.Goals.{in-Some, in-None}

pub serve-whole-requires-clause-recorded : goal.serve-whole-requires-clause-recorded
serve-whole-requires-clause-recorded g c = starts_told g.P.Allows.may c.args.job c.args.domain _ c.requires c.logger_for-logger.ensures

pub returns-then-not-wait : goal.returns-then-not-wait
returns-then-not-wait g c = (
  begun_not g.P.Allows.may c.args.job c.args.domain c.new-text.result.items c.new-text.ensures.items c.requires,
  (subst (λ (m : Monitor g.row.P.Denot). IsSeatOf m.words c.finish.result.seat) c.requires.0 c.finish.ensures.seat, c.finish.ensures.left.seat.dom ∙ c.requires.1.own),
)

pub returns : goal.returns
returns g c =
    let over = c.serve-whole.ensures.same.0 ∙ c.requires.0 in
    let leaves = subst (λ (m : Monitor g.row.P.Denot). HasLeft m.words.layout c.serve-whole.new.domain.domain c.finish-left.result) over c.finish-left.ensures.left in
    let seat = subst (λ (m : Monitor g.row.P.Denot). IsSeatOf m.words c.finish-left.result.seat) over c.finish-left.ensures.seat in
    let own = c.finish-left.ensures.left.seat.dom ∙ (c.serve-whole.ensures.same.1 ∙ c.requires.1.own) in
    elim c.match-logger.branch [
      | in-Some w ↦ rw w.audit-is (
        came_told g.P.Allows.may (g.G.Gate.refuses c.args.gate.now) c.args.job c.args.domain c.serve-whole.new.domain.domain c.finish-left.result.trail c.serve-whole.result c.serve-whole.new.logger _ _
            c.requires w.in-Some.is leaves.records leaves c.serve-whole.ensures.served w.audit.ensures w.lost.ensures,
        (seat, own),
      )
      | in-None w ↦ rw w.audit-is (
        came_plain g.P.Allows.may (g.G.Gate.refuses c.args.gate.now) c.args.job c.args.domain c.serve-whole.new.domain.domain c.serve-whole.result c.serve-whole.new.logger _
            c.requires w.in-None.is leaves c.serve-whole.ensures.served w.new-in-None.ensures.items refl,
        (seat, own),
      )
    ]
