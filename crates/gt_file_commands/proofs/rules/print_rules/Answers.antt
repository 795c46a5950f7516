use Rattle.std.proofs.Common.{◌∙◌, sym}
use Rattle.std.specs.Option.{option_map}
use Rattle.gt_file_commands.proofs.RuleLemmas.{cut, printed}
use Rattle.gt_file_commands.proofs.rules.print_rules.Goals as goal

pub returns-in-Ok-finish : goal.returns-in-Ok-finish
returns-in-Ok-finish g c =
    printed (λ row. (row.0, row.1.now, row.2.now)) c.args.width (option_map (λ n. n.now) c.args.name) c.in-Ok.rows.items c.as_slice.result.now _ c.in-Ok-rules_text.text.items c.as_slice-in-Ok-rules_text.result.now (g.W.Write.contents c.args.out.now) (g.W.Write.contents c.finish.new.writer) c.in-Ok.ensures c.as_slice.ensures.value c.in-Ok-rules_text.ensures
    c.as_slice-in-Ok-rules_text.ensures.value c.as_slice.ensures.len (sym c.is_empty.ensures ∙ c.if-is_empty.false) c.in-Ok-finish.ensures.whole

pub returns-in-Ok-rules_text : goal.returns-in-Ok-rules_text
returns-in-Ok-rules_text g c =
    cut (λ row. (row.0, row.1.now, row.2.now)) c.args.width (option_map (λ n. n.now) c.args.name) c.in-Ok.rows.items c.as_slice.result.now 0 c.in-Ok-rules_text.text.items c.as_slice-in-Ok-rules_text.result.now (g.W.Write.contents c.args.out.now) (g.W.Write.contents c.finish.new.writer) c.in-Ok.ensures c.as_slice.ensures.value c.in-Ok-rules_text.ensures
    c.as_slice-in-Ok-rules_text.ensures.value _ c.report-in-Err-finish.ensures c.finish.ensures.beginning
