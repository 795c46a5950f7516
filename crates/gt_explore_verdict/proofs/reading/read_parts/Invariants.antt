use Rattle.std.proofs.Common.{◌≡◌, ◌≤◌, Ok, drop, map}
use Rattle.gt_explore_verdict.specs.Reading.{parts_read, reader_asked}
use Rattle.gt_explore_verdict.proofs.reading.read_parts.Given as goal

abbrev pub invariant-segments : goal.invariant-segments
invariant-segments l = record {
  at : l.at ≡ l.segment-index;
  terms : l.reader.terms ≤ l.at;
  read : parts_read (Ok (reader_asked l.initial.reader)) (map (λ s. s.now) l.segments) l.marks
      ≡ parts_read (Ok (reader_asked l.reader)) (map (λ s. s.now) (drop l.at l.segments)) (drop l.at l.marks);
}
