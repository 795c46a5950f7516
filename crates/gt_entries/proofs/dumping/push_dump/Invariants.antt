use Rattle.gt_entries.specs.Dumps.{AreEntryTexts}
use Rattle.gt_entries.proofs.dumping.push_dump.Given as goal

abbrev pub invariant-entries : goal.invariant-entries
invariant-entries l = AreEntryTexts l.asked l.dump l.gref l.out.items
