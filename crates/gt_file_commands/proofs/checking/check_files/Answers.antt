use Rattle.std.specs.Option.{option_map}
use Rattle.gt_command_line.specs.Files.{file_names_of}
use Rattle.gt_file_commands.proofs.Worked.{checked_kind}
use Rattle.gt_file_commands.proofs.checking.check_files.Goals as goal

pub returns : goal.returns
returns g c =
    checked_kind c.args.script c.kind_of-kind.result c.args.files.now.format (g.T.TextSource.file c.args.context.now.texts.now) (g.T.TextSource.input c.args.context.now.texts.now) (option_map (λ f. f.now) c.args.files.now.file) (file_names_of c.args.files.now.more) (g.W.Write.contents c.args.out.now) (g.W.Write.contents c.check_all.new.out) c.check_all.result c.kind_of-kind.ensures c.check_all.ensures
