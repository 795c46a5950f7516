use Rattle.std.proofs.Common.{◌∙◌}
use Rattle.gt_script.proofs.RoundLemmas.{closed-told}
use Rattle.gt_script.proofs.stuck.raised_flags.Goals as goal

pub turns-preserved : goal.turns-preserved
turns-preserved c =
    (c.turn.ensures.turns.many ∙ c.turns.invariant.0, c.turn.ensures.many, c.turn.ensures.turns.have, λ set closed. c.turn.ensures.turns.sound set closed (c.turns.invariant.3 set closed))

pub returns-then-not-turn-clause-closed : goal.returns-then-not-turn-clause-closed
returns-then-not-turn-clause-closed c =
    closed-told c.args.tasks.now c.args.domains.now c.turn.new.self.places.items c.turns.turns.told.items c.turn.new.self.told.items c.turn.result c.requires.known c.turn.ensures.turns c.if-not-turn.true

pub returns-then-not-turn-clause-least : goal.returns-then-not-turn-clause-least
returns-then-not-turn-clause-least c = λ set closed. c.turn.ensures.turns.sound set closed (c.turns.invariant.3 set closed)
