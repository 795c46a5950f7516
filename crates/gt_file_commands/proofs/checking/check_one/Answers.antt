use Rattle.std.specs.Option.{option_map}
use Rattle.gt_command_reasons.specs.Names.{shown_name}
use Rattle.gt_file_commands.specs.Working.{Checks}
use Rattle.gt_file_commands.proofs.Worked.{checked_one}
use Rattle.gt_file_commands.proofs.checking.check_one.Goals as goal

pub returns : goal.returns
returns g c =
    checked_one (Checks c.args.kind) c.args.format c.form_of.result c.shown_name.result.now (shown_name (option_map (λ f. f.now) c.args.file)) _ _ _ _ _ c.form_of.ensures c.shown_name.ensures c.work_asked.ensures
