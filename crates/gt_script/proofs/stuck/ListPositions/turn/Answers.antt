use Rattle.std.proofs.Common.{◌∙◌}
use Rattle.std.proofs.lemmas.List.{length-set}
use Rattle.gt_script.proofs.RoundLemmas.{turn-start, turn-more, numbered-more, come-here}
use Rattle.gt_script.proofs.stuck.ListPositions.turn.Goals as goal

pub domains-init : goal.domains-init
domains-init c = (turn-start c.args.tasks.now c.args.domains.now c.args.self.now.places.items c.args.self.now.told.items c.requires.come, c.requires.many)

pub go_on-way-requires-clause-numbered : goal.go_on-way-requires-clause-numbered
go_on-way-requires-clause-numbered c = numbered-more c.args.tasks.now c.args.self.now.told.items c.domains.self.told.items c.requires.numbered c.domains.invariant.0.many

pub go_on-way-requires-clause-place : goal.go_on-way-requires-clause-place
go_on-way-requires-clause-place c =
    (come-here c.args.tasks.now c.args.domains.now c.domains.self.places.items c.domains.self.told.items c.domains.i c.index-from.result.now (record { id = record { 0 = 0 }; label = record { 0 = 0 }; frames = 0; table_frames = 0; version = 0 })
    c.domains.invariant.0.have c.domains-test.true c.domains.invariant.1 c.index-from.ensures).0

pub go_on-way-requires-clause-come : goal.go_on-way-requires-clause-come
go_on-way-requires-clause-come c =
    (come-here c.args.tasks.now c.args.domains.now c.domains.self.places.items c.domains.self.told.items c.domains.i c.index-from.result.now (record { id = record { 0 = 0 }; label = record { 0 = 0 }; frames = 0; table_frames = 0; version = 0 })
    c.domains.invariant.0.have c.domains-test.true c.domains.invariant.1 c.index-from.ensures).1

pub domains-preserved : goal.domains-preserved
domains-preserved c =
    rw c.go_on-way.ensures.places (
      turn-more c.args.tasks.now c.args.domains.now c.domains.self.places.items c.args.self.now.told.items c.domains.self.told.items c.go_on-way.new.self.told.items c.domains.i c.go_on-way.result.place c.domains.is_news c.go_on-way.result.is_news
          (record { id = record { 0 = 0 }; label = record { 0 = 0 }; frames = 0; table_frames = 0; version = 0 }) c.domains.invariant.0 c.domains-test.true c.domains.invariant.1 c.go_on-way.ensures.goes,
      length-set c.domains.self.places.items c.domains.i c.go_on-way.result.place ∙ c.domains.invariant.1,
    )
