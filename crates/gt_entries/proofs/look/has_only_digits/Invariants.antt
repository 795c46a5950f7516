use Rattle.std.proofs.Common.{◌≡◌, drop}
use Rattle.std.specs.List.{list_all}
use Rattle.gt_entries.specs.Look.{is_digit_or_blank}
use Rattle.gt_entries.proofs.look.has_only_digits.Given as goal

abbrev pub invariant-bytes : goal.invariant-bytes
invariant-bytes l = list_all is_digit_or_blank l.input ≡ list_all is_digit_or_blank (drop l.byte-index l.input)
