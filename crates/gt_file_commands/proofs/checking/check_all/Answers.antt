use Rattle.std.proofs.Common.{ap, ◌∙◌, map}
use Rattle.std.specs.Option.{option_map}
use Rattle.gt_file_commands.specs.Working.{Checks, ChecksIn}
use Rattle.gt_file_commands.proofs.Worked.{files_named}
use Rattle.gt_file_commands.proofs.checking.check_all.Goals as goal

pub returns : goal.returns
returns g c =
    let names = ap (map (option_map (λ v. v.now))) c.as_slice.ensures ∙ c.names-names.ensures in (
      g.W.Write.contents c.check_one-one.new.out,
      c.check_one-one.result,
      c.check_more-others.result,
      c.check_one-one.ensures,
      files_named (ChecksIn (Checks c.args.kind) c.args.files.now.format) _ _ _ _ _ _ names c.check_more-others.ensures,
      c.worse.ensures,
    )
