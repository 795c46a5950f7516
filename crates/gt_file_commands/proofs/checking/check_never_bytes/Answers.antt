use Rattle.std.proofs.Common.{inr}
use Rattle.std.specs.Option.{option_map}
use Rattle.gt_command_line.specs.Files.{file_names_of}
use Rattle.gt_text.specs.Laws.{keeps_same}
use Rattle.gt_file_commands.proofs.Worked.{checked_never}
use Rattle.gt_file_commands.proofs.checking.check_never_bytes.Goals as goal

pub returns-in-Ok : goal.returns-in-Ok
returns-in-Ok g c =
    checked_never c.args.never.now c.in-Ok.text.now c.args.bytes.now c.args.files.now.format (g.T.TextSource.file c.args.context.now.texts.now) (g.T.TextSource.input c.args.context.now.texts.now) (option_map (λ f. f.now) c.args.files.now.file) (file_names_of c.args.files.now.more) (g.W.Write.contents c.args.out.now) (g.W.Write.contents c.check_all.new.out) c.check_all.result c.in-Ok.ensures.text c.check_all.ensures

pub returns-in-Err : goal.returns-in-Err
returns-in-Err g c = inr (c.fail.ensures, keeps_same _)
