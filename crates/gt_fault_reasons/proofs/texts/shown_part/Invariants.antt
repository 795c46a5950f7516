use Rattle.std.proofs.Common.{◌≡◌, ◌≤◌, take}
use Rattle.std.specs.List.{count_by}
use Rattle.gt_fault_reasons.specs.Reasons.{begins_character}
use Rattle.gt_fault_reasons.proofs.texts.shown_part.Given as goal

abbrev pub invariant-bytes : goal.invariant-bytes
invariant-bytes l = record {
  counts : l.count ≡ count_by begins_character (take l.i l.word);
  few : l.count ≤ 160;
}
