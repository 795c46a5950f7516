use Rattle.std.proofs.Common.{◌≡◌, ◌++◌, drop, map}
use Rattle.std.specs.Prelude.{string_bytes}
use Rattle.gt_command_line.specs.Letters.{with_long_flags, long_flags_from}
use Rattle.gt_command_line.proofs.letters.with_long_flags.Given as goal

-- the words so far, and then those that are left, are all of them
abbrev pub invariant-words : goal.invariant-words
invariant-words l =
    map string_bytes l.all.items ++ long_flags_from l.is_marked (map string_bytes (drop l.word-index l.words))
    ≡ with_long_flags (map string_bytes l.words)
