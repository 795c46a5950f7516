use Rattle.std.proofs.Common.{◌≡◌, drop, map}
use Rattle.std.specs.Prelude.{string_bytes}
use Rattle.gt_command_line.specs.Claiming.{claim_words, no_words, words_taken}
use Rattle.gt_command_line.proofs.claiming.words_taken.Given as goal

-- the words so far, and then those that are left, are all
abbrev pub invariant-words : goal.invariant-words
invariant-words l =
    words_taken (claim_words l.all) (map string_bytes (drop l.word-index l.words)) ≡ words_taken no_words (map string_bytes l.words)
