use Rattle.std.proofs.Common.{◌≡◌, ◌+◌, ◌<◌, ◌≤◌, ℕ, length, All}
use Rattle.std.specs.Prelude.{HoldsAt, vec_capacity}
use Rattle.gt_words.specs.Answers.{IsNewSeat}
use Rattle.gt_live.specs.Starting.{first_rows, IsNewDomain}
use Rattle.gt_live.proofs.start.make_domains.Given as goal

abbrev pub invariant-domains : goal.invariant-domains
invariant-domains g l = record {
  seats : length l.seats.items + l.at ≡ l.count;
  rows : length l.rows.items + l.at ≡ l.count;
  made : length l.domains.items ≡ l.at;
  room : l.count ≤ vec_capacity l.domains;
  new_rows : All (λ w. w.items ≡ first_rows l.monitor.config.first_gen) l.rows.items;
  new_seats : (i : ℕ) → i < length l.seats.items → HoldsAt (λ s. IsNewSeat l.monitor.words (l.at + i) s) l.seats.items i;
  new_domains : (i : ℕ) → i < l.at → HoldsAt (λ d. IsNewDomain l.monitor.words l.monitor.config (g.P.Allows.may l.monitor.rights) i d) l.domains.items i;
}
