use Rattle.std.proofs.Common.{refl}
use Rattle.gt_check_command.proofs.Broken.{words_unwritten}
use Rattle.gt_check_command.proofs.breaking.write_words.Goals as goal

pub returns-in-Ok : goal.returns-in-Ok
returns-in-Ok g c = (refl, c.in-Ok.ensures.1)

pub returns-in-Err : goal.returns-in-Err
returns-in-Err g c =
    words_unwritten c.args.form c.args.texts.now.never_file.now c.args.texts.now.never.now c.args.texts.now.file.now
    c.args.words.now c.args.line _ _ c.in-Err.fault c.in-Err.ensures
