use Rattle.std.proofs.Common.{◌≡◌, ◌++◌, take}
use Rattle.gt_script_runs.specs.Auditing.{record_lines}
use Rattle.gt_host.proofs.audit.push_records.Given as goal

abbrev pub invariant-records : goal.invariant-records
invariant-records l = l.out.items ≡ l.initial.out.items ++ record_lines l.names (take l.entry-index l.records)
