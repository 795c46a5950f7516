use Rattle.std.proofs.Common.{◌≡◌, ◌++◌, drop, map}
use Rattle.gt_file_commands.specs.Rules.{more_words}
use Rattle.gt_file_commands.proofs.rules.push_more.Given as goal

-- what was appended, and what the words that are left will append
abbrev pub invariant-words : goal.invariant-words
invariant-words l =
    l.out.items ++ more_words l.width l.room (map (λ w. w.now) (drop l.word-index l.words))
    ≡ l.fn.out.items ++ more_words l.width l.fn.room (map (λ w. w.now) l.words)
