use Rattle.gt_words.proofs.WithoutFrames.{has_table, keeps_none, same_layout}
use Rattle.gt_words.proofs.start.make_without_frames.Goals as goal

pub make_words-requires-clause-table : goal.make_words-requires-clause-table
make_words-requires-clause-table c = has_table c.args.config.now c.in_ok-frameless.frameless c.requires c.in_ok-frameless.ensures

pub make_words-requires-clause-same : goal.make_words-requires-clause-same
make_words-requires-clause-same c = same_layout c.args.config.now c.in_ok-frameless.frameless c.in_ok-frameless.ensures

pub returns-clause-frames : goal.returns-clause-frames
returns-clause-frames c = let e = c.in_ok-frameless.frameless in keeps_none c.args.config.now e c.in_ok-frameless.ensures c.make_words.result c.make_words.ensures.frames
