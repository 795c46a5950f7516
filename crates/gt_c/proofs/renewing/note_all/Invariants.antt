use Rattle.std.proofs.Common.{◌≡◌, ℕ}
use Rattle.gt_c.specs.Grantees.{noted_first}
use Rattle.gt_c.proofs.renewing.note_all.Given as goal

abbrev pub invariant-entries : goal.invariant-entries
invariant-entries l = record {
  count : ℕ;
  at : l.at ≡ count;
  noted : l.lent ≡ noted_first count l.fn.lent;
}
