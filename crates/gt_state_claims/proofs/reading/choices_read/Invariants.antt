use Rattle.std.proofs.Common.{◌≡◌, ◌+◌, ◌<◌, ◌^◌, drop, map}
use Rattle.gt_state_claims.specs.Reading.{choices_read, terms_in}
use Rattle.gt_state_claims.proofs.ReadLemmas.{before_read}
use Rattle.gt_state_claims.proofs.reading.choices_read.Given as goal

abbrev pub invariant-texts : goal.invariant-texts
invariant-texts l = record {
  few : l.before + terms_in (map (λ t. t.now) (drop l.text-index l.texts)) < 2 ^ 64;
  read : choices_read 0 (map (λ t. t.now) l.texts)
      ≡ before_read (map (λ t. t.items) l.choices.items)
      (choices_read l.before (map (λ t. t.now) (drop l.text-index l.texts)));
}
