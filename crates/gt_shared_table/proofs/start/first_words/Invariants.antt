use Rattle.std.proofs.Common.{◌≡◌, ℕ, ◌+◌, ◌*◌, ◌<◌, ◌≤◌, get_or, length}
use Rattle.gt_word_history.specs.History.{initial}
use Rattle.gt_word_history.specs.Rule.{layout_of}
use Rattle.gt_shared_table.proofs.start.first_words.Given as goal

abbrev pub invariant-loop-row : goal.invariant-loop-row
invariant-loop-row l = record {
  many : length l.words.items ≡ length l.config.domains.items * 65544 + 8 * l.frames + l.flags;
  done : (j : ℕ) → j < 8 * l.row → get_or l.words.items j 0 ≡ initial (layout_of l.config) j;
  rest : (j : ℕ) → 8 * l.row ≤ j → j < length l.words.items → get_or l.words.items j 0 ≡ 0;
}
