use Rattle.std.proofs.Common.{ap}
use Rattle.gt_word_history.specs.Views.{own_header}
use Rattle.gt_word_history.specs.declared.view.FlagStep.TheVariants.{Raised}
use Rattle.gt_words.proofs.FramesAccessed.{same_place, steps_on_flag}
use Rattle.gt_words.proofs.flags.raise_at.Goals as goal

pub returns-clause-seat : goal.returns-clause-seat
returns-clause-seat c = let r = c.raise_flag in same_place c.args.seat.now r.new.seat r.ensures.step.0 _ r.ensures.table r.ensures.step.1

pub returns-clause-step : goal.returns-clause-step
returns-clause-step c = let r = c.raise_flag in steps_on_flag c.args.words.now.layout c.args.flag Raised c.args.seat.now.view r.new.seat.view r.ensures.step

pub returns-clause-header : goal.returns-clause-header
returns-clause-header c = ap own_header c.raise_flag.ensures.step.1
