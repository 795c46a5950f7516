use Rattle.std.proofs.Common.{◌≤◌, length}
use Rattle.std.specs.Io.KnownBytes.{Consumes}
use Rattle.gt_text.proofs.streams.read_text.Given as goal

abbrev pub invariant-reads : goal.invariant-reads
invariant-reads g l = (length l.bytes.items ≤ 1048577) × Consumes (g.R.Read.remaining l.initial.reader) (g.R.Read.remaining l.reader) l.bytes.items
