use Rattle.std.proofs.Common.{ℕ, List}
use Rattle.gt_text.specs.Laws.{of_input}
use Rattle.gt_entries.specs.Dumps.{WroteDump}
use Rattle.gt_entries.proofs.DumpLemmas.{untold_read}
use Rattle.gt_entries.proofs.dumping.entries.Goals as goal

pub returns-in-Ok-clause-text : goal.returns-in-Ok-clause-text
returns-in-Ok-clause-text g c = of_input _ c.in-Ok.input.items (λ (input : List ℕ). WroteDump c.args.asked input _ _ c.write_input.result) c.in-Ok.ensures.limit c.in-Ok.ensures.text c.write_input.ensures

pub returns-in-Err-clause-text : goal.returns-in-Err-clause-text
returns-in-Err-clause-text g c = untold_read _ _ _ c.in-Err.fault _ c.from.ensures
