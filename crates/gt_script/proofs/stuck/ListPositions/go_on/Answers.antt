use Rattle.std.proofs.Common.{◌∙◌, arith, refl, sym}
use Rattle.gt_script.proofs.RoundLemmas.{way-start, way-own, way-other, below-at, stops-at, goes-to-end}
use Rattle.gt_script.proofs.stuck.ListPositions.go_on.Goals.{then-is_own+else-is_waiting, else-is_own}
use Rattle.gt_script.proofs.stuck.ListPositions.go_on.Goals as goal

pub tasks-init : goal.tasks-init
tasks-init c = (way-start c.args.tasks.now c.args.dom c.args.self.now.told.items c.args.from c.requires.come, refl)

pub is_waiting-requires : goal.is_waiting-requires
is_waiting-requires c =
    below-at c.args.tasks.now c.args.self.now.told.items c.tasks.self.told.items c.args.dom c.tasks.place c.tasks.is_news c.index-tasks-place.result c.requires.numbered c.tasks.invariant.0 c.tasks-test.true c.index-tasks-place.is

pub tell-is_news-requires : goal.tell-is_news-requires
tell-is_news-requires c =
    below-at c.args.tasks.now c.args.self.now.told.items c.tasks.self.told.items c.args.dom c.tasks.place c.tasks.is_news c.index-tasks-place.result c.requires.numbered c.tasks.invariant.0 c.tasks-test.true c.index-tasks-place.is

pub returns-then-is_waiting-clause-goes : goal.returns-then-is_waiting-clause-goes
returns-then-is_waiting-clause-goes c =
    stops-at c.args.tasks.now c.args.dom c.args.self.now.told.items c.tasks.self.told.items c.tasks.place c.tasks.is_news c.index-tasks-place.result c.tasks.invariant.0 c.tasks-test.true c.index-tasks-place.is
    (c.is_own.ensures.0 c.if-is_own.true) (sym c.is_waiting.ensures ∙ c.if-is_waiting.true)

pub tasks-preserved : goal.tasks-preserved
tasks-preserved c = elim c.if-is_own.branch [
  | then-is_own+else-is_waiting w ↦
      let below = below-at c.args.tasks.now c.args.self.now.told.items c.tasks.self.told.items c.args.dom c.tasks.place c.tasks.is_news c.index-tasks-place.result c.requires.numbered c.tasks.invariant.0 c.tasks-test.true c.index-tasks-place.is in
      rw (w.self-is, w.is_news-is) (
        way-own c.args.tasks.now c.args.dom c.args.self.now.told.items c.tasks.self.told.items w.tell-is_news.new.self.told.items c.tasks.place c.tasks.is_news w.tell-is_news.result c.index-tasks-place.result
            c.tasks.invariant.0 c.tasks-test.true c.index-tasks-place.is (c.is_own.ensures.0 w.if-is_own.true) below (sym w.is_waiting.ensures ∙ w.if-is_waiting.false) w.tell-is_news.ensures.told w.tell-is_news.ensures.news,
        w.tell-is_news.ensures.places ∙ c.tasks.invariant.1,
      )
  | else-is_own w ↦
      rw (w.self-is, w.is_news-is) (
        way-other c.args.tasks.now c.args.dom c.args.self.now.told.items c.tasks.self.told.items c.tasks.place c.tasks.is_news c.index-tasks-place.result c.tasks.invariant.0 c.tasks-test.true c.index-tasks-place.is
            (λ e. cc (c.is_own.ensures.1 e, w.if-is_own.false)),
        c.tasks.invariant.1,
      )
]

pub returns-clause-goes : goal.returns-clause-goes
returns-clause-goes c =
    let past = c.tasks-test.false in
    let short = c.tasks.auto.place in
    goes-to-end c.args.tasks.now c.args.dom c.args.self.now.told.items c.tasks.self.told.items c.tasks.place c.tasks.is_news c.tasks.invariant.0 (omega arith)
