use Rattle.std.proofs.Common.{◌≡◌, ◌<◌, ◌≤◌, ℕ, List, length}
use Rattle.std.specs.List.{count_by}
use Rattle.std.specs.Prelude.{HoldsAt}
use Rattle.gt_live.specs.Closing.{ClosesRows, IsInvalidOrInUse, StaysQuiet, is_in_use}
use Rattle.gt_live.specs.Domains.{BelongsTo}
use Rattle.gt_live.proofs.domain.Domain.close.Given as goal

abbrev pub invariant-entries : goal.invariant-entries
invariant-entries g l = record {
  mine : BelongsTo g.P.Allows.may l.monitor l.self;
  quiet : StaysQuiet l.fn.self l.self;
  words : List ℕ;
  all : length words ≡ l.at;
  left_is : l.left ≡ count_by is_in_use words;
  few : l.left ≤ l.at;
  rows : ClosesRows g.P.Allows.may l.monitor l.fn.self 0 words l.self;
  counted : (r : ℕ) → r < l.at → HoldsAt (IsInvalidOrInUse l.self r) words r;
}
