use Rattle.gt_words.proofs.FramesAccessed.{passed_header, passed_place, passed_step}
use Rattle.gt_words.proofs.flags.pass_at.Goals as goal

pub returns-clause-seat : goal.returns-clause-seat
returns-clause-seat c = let r = c.pass_flag in passed_place r.result c.args.words.now.layout c.args.flag c.args.seat.now r.new.seat r.ensures.table r.ensures.step

pub returns-clause-step : goal.returns-clause-step
returns-clause-step c = let r = c.pass_flag in passed_step r.result c.args.words.now.layout c.args.flag c.args.seat.now.view r.new.seat.view r.ensures.step

pub returns-clause-header : goal.returns-clause-header
returns-clause-header c = let r = c.pass_flag in passed_header r.result c.args.words.now.layout c.args.flag c.args.seat.now.view r.new.seat.view r.ensures.step
