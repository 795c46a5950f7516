use Rattle.std.proofs.Common.{◌∙◌}
use Rattle.gt_live.proofs.OneFrame.{fault_of, same_layout}
use Rattle.gt_live.proofs.start.frameless_words.Goals as goal

pub returns-in-Err-clause-err : goal.returns-in-Err-clause-err
returns-in-Err-clause-err c = fault_of c.args.config c.in-Ok.one_frame c.one_frame_is_enough.ensures c.in-Ok.ensures c.in-Err.fault c.in-Err.ensures.err

pub returns-in-Ok-of_runnable-clause-words : goal.returns-in-Ok-of_runnable-clause-words
returns-in-Ok-of_runnable-clause-words c = c.in-Ok-without_frames.ensures.words ∙ same_layout c.args.config c.in-Ok.one_frame c.in-Ok.ensures
