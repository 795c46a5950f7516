use Rattle.std.proofs.Common.{List, ℕ}
use Rattle.gt_entries.specs.Dumps.{WroteDump}
use Rattle.gt_entries.specs.declared.fault.DumpFault.TheVariants as dump_faults
use Rattle.gt_json.specs.declared.places.PrintedText.TheVariants.{Entries}
use Rattle.gt_file_commands.proofs.JsonLemmas.{passed}
use Rattle.gt_file_commands.proofs.json.entries_json.Goals as goal

pub returns-clause-text : goal.returns-clause-text
returns-clause-text g c =
    passed _ Entries dump_faults.Memory dump_faults.Write (λ (input : List ℕ). WroteDump c.args.asked input) c.new-text.result.items c.entries-outcome.new.writer.items c.as_slice.result.now _ _ _ _
    c.new-text.ensures.items c.as_slice.ensures.value c.entries-outcome.ensures.text c.pass_entries.ensures
