use Rattle.std.proofs.Common.{List, ℕ, inl, refl}
use Rattle.std.specs.Option.{option_map}
use Rattle.gt_text.specs.Laws.{keeps_same}
use Rattle.gt_file_commands.specs.Working.{Works, known_text}
use Rattle.gt_program.specs.Obeying.{SeeksText}
use Rattle.gt_file_commands.specs.declared.outcome.Outcome.TheVariants.{Unknown}
use Rattle.gt_file_commands.specs.Laws.{nothing_done, with_text}
use Rattle.gt_program.proofs.exploring.find_text.Goals as goal

pub returns-in-Some : goal.returns-in-Some
returns-in-Some g c =
    let found = rw c.as_slice.ensures.value at c.find_bytes.ensures in
    with_text _ (λ (text : List ℕ). Works (SeeksText text c.args.options.format c.args.options.states) Unknown (option_map (λ f. f.now) c.args.options.file) (known_text (g.T.TextSource.file c.args.context.now.texts.now) (g.T.TextSource.input c.args.context.now.texts.now) (option_map (λ f. f.now) c.args.options.file))) c.in-Some.text.items _ _ _ c.in-Some.ensures (inl found)

pub returns-in-None : goal.returns-in-None
returns-in-None g c =
    nothing_done _ (λ (text : List ℕ). Works (SeeksText text c.args.options.format c.args.options.states) Unknown (option_map (λ f. f.now) c.args.options.file) (known_text (g.T.TextSource.file c.args.context.now.texts.now) (g.T.TextSource.input c.args.context.now.texts.now) (option_map (λ f. f.now) c.args.options.file))) _ _ _ refl (keeps_same _)
