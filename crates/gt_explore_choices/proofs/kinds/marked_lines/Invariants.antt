use Rattle.std.proofs.Common.{◌≡◌, ◌++◌, drop, map}
use Rattle.std.specs.Prelude.{count_by}
use Rattle.gt_explore_choices.specs.Kinds.{is_domain_line, marked_lines, marked_seen}
use Rattle.gt_explore_choices.proofs.kinds.marked_lines.Given as goal

-- the lines so far, and then those that are left
abbrev pub invariant-lines : goal.invariant-lines
invariant-lines l = record {
  later : l.later ≡ count_by is_domain_line (map (λ line. line.now) (drop l.line-index l.lines));
  all : map marked_seen l.all.items ++ marked_lines (map (λ line. line.now) (drop l.line-index l.lines))
      ≡ marked_lines (map (λ line. line.now) l.lines);
}
