use Rattle.std.proofs.Common.{◌≡◌, ◌+◌, drop, map}
use Rattle.gt_state_claims.specs.Reading.{terms_read}
use Rattle.gt_state_claims.proofs.ReadLemmas.{before_read}
use Rattle.gt_state_claims.proofs.reading.terms_read.Given as goal

abbrev pub invariant-texts : goal.invariant-texts
invariant-texts l = record {
  count : l.number ≡ l.before + l.text-index;
  read : terms_read l.before (map (λ t. t.now) l.texts)
      ≡ before_read l.terms.items (terms_read l.number (map (λ t. t.now) (drop l.text-index l.texts)));
}
