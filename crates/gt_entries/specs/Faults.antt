-- The words of the errors.
use Rattle.std.specs.Prelude.{ℕ, List, codes}
use Rattle.gt_text.specs.declared.fault.ReadFault.{ReadFault}
use Rattle.gt_text.specs.declared.fault.ReadFault.TheVariants as read_faults
use Rattle.gt_entries.specs.declared.fault.DumpFault.{DumpFault}
use Rattle.gt_entries.specs.declared.fault.DumpFault.TheVariants as dump_faults

-- the error for a failed read
abbrev pub dump_read_fault : ReadFault → DumpFault
dump_read_fault read_faults.Memory = dump_faults.Memory
dump_read_fault read_faults.Read = dump_faults.Read

-- the word of an error
abbrev pub dump_fault_text : DumpFault → List ℕ
dump_fault_text dump_faults.Memory = codes "memory"
dump_fault_text dump_faults.Read = codes "read"
dump_fault_text dump_faults.Write = codes "write"
dump_fault_text dump_faults.Limit = codes "limit"
dump_fault_text dump_faults.Syntax = codes "syntax"
