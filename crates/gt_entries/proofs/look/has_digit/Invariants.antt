use Rattle.std.proofs.Common.{◌≡◌, drop}
use Rattle.std.specs.Char.{is_ascii_hexdigit}
use Rattle.std.specs.List.{list_any}
use Rattle.gt_entries.proofs.look.has_digit.Given as goal

abbrev pub invariant-bytes : goal.invariant-bytes
invariant-bytes l = list_any is_ascii_hexdigit l.input ≡ list_any is_ascii_hexdigit (drop l.byte-index l.input)
