use Rattle.gt_calls.specs.Known.{knows}
use Rattle.gt_calls.specs.Machine.{at_source}
use Rattle.gt_live.specs.Copies.{after_copy, filled}
use Rattle.gt_live.proofs.Phases.{may-run, stands-first, stands-then, stops}
use Rattle.gt_live.proofs.access_paths.drive_copy.Goals as goal

pub walk-requires-clause-can : goal.walk-requires-clause-can
walk-requires-clause-can g c =
    let known = knows g.P.Allows.may c.args.known.now in let k = c.args.words.now.layout in
    let caller = c.args.by.caller in let copy = c.args.copy.now in let v = c.args.seat.now.view in
    let law = c.every_call_goes_on_by_its_phase.ensures known in
    may-run known k caller copy law v c.requires.knows (at_source known caller copy)
    (stands-first known k caller copy law v c.requires.knows c.requires.unanswered)

pub returns-clause-stops : goal.returns-clause-stops
returns-clause-stops g c =
    let known = knows g.P.Allows.may c.args.known.now in let k = c.args.words.now.layout in
    let caller = c.args.by.caller in let copy = c.args.copy.now in let v = c.args.seat.now.view in
    let law = c.every_call_goes_on_by_its_phase.ensures known in let w = c.walk.new.seat.view in
    stops known k caller copy law v c.requires.knows (filled c.walk.result c.walk.new.pins) w
    (stands-then known k caller copy law v c.requires.knows (at_source known caller copy) (after_copy copy (filled c.walk.result c.walk.new.pins))
    w (stands-first known k caller copy law v c.requires.knows c.requires.unanswered) c.walk.ensures.goes)
