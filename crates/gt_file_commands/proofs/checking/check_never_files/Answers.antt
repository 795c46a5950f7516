use Rattle.std.proofs.Common.{List, ℕ, refl, subst}
use Rattle.std.specs.Option.{option_map}
use Rattle.gt_command_line.specs.Files.{file_names_of}
use Rattle.gt_text.specs.Laws.{keeps_same}
use Rattle.gt_file_commands.specs.Working.{ChecksAll, ChecksIn, ChecksNever, OrNothing}
use Rattle.gt_file_commands.specs.Laws.{nothing_done, with_text}
use Rattle.gt_file_commands.proofs.checking.check_never_files.Goals as goal

pub returns-in-Some : goal.returns-in-Some
returns-in-Some g c =
    with_text _ (λ (given : List ℕ). ChecksAll (ChecksIn (ChecksNever c.args.never.now given) c.args.files.now.format) (g.T.TextSource.file c.args.context.now.texts.now) (g.T.TextSource.input c.args.context.now.texts.now) (option_map (λ f. f.now) c.args.files.now.file) (file_names_of c.args.files.now.more)) c.in-Some.bytes.items (g.W.Write.contents c.args.out.now) (g.W.Write.contents c.check_never_bytes.new.out) c.check_never_bytes.result c.in-Some.ensures
    (subst (λ (b : List ℕ). OrNothing (ChecksAll (ChecksIn (ChecksNever c.args.never.now b) c.args.files.now.format) (g.T.TextSource.file c.args.context.now.texts.now) (g.T.TextSource.input c.args.context.now.texts.now) (option_map (λ f. f.now) c.args.files.now.file) (file_names_of c.args.files.now.more)) (g.W.Write.contents c.args.out.now) (g.W.Write.contents c.check_never_bytes.new.out) c.check_never_bytes.result) c.as_slice.ensures.value c.check_never_bytes.ensures)

pub returns-in-None : goal.returns-in-None
returns-in-None g c = nothing_done _ (λ (given : List ℕ). ChecksAll (ChecksIn (ChecksNever c.args.never.now given) c.args.files.now.format) (g.T.TextSource.file c.args.context.now.texts.now) (g.T.TextSource.input c.args.context.now.texts.now) (option_map (λ f. f.now) c.args.files.now.file) (file_names_of c.args.files.now.more)) _ _ _ refl (keeps_same _)
