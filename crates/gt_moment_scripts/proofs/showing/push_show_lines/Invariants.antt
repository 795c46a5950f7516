use Rattle.std.proofs.Common.{◌≡◌, ◌+◌, ◌++◌, drop}
use Rattle.gt_moment_scripts.specs.Showing.{show_lines, shown_among}
use Rattle.gt_moment_scripts.proofs.showing.push_show_lines.Given as goal

abbrev pub invariant-named : goal.invariant-named
invariant-named l = record {
  count : l.number ≡ l.line + l.entry-index;
  shown : l.initial.out.items ++ show_lines l.line l.named (shown_among l.entries.rows.now)
      ≡ l.out.items ++ show_lines l.number (drop l.entry-index l.named) (shown_among l.entries.rows.now);
}
