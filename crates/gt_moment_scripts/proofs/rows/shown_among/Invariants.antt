use Rattle.std.proofs.Common.{◌≡◌, drop}
use Rattle.gt_moment_scripts.specs.Showing.{shown_among}
use Rattle.gt_moment_scripts.proofs.rows.shown_among.Given as goal

abbrev pub invariant-rows : goal.invariant-rows
invariant-rows l = shown_among l.rows l.dom l.gref.0 ≡ shown_among (drop l.row-index l.rows) l.dom l.gref.0
