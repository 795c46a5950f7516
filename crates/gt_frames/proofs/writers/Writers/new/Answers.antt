use Rattle.std.proofs.Common.{◌≡◌, ◌∙◌, ℕ, List, ap, arith, refl, rules, get_or, length}
use Rattle.gt_frames.specs.Writers.{numbers_of}
use Rattle.gt_frames.proofs.Stretches.{no_stretch}
use Rattle.gt_frames.proofs.Shown.{empty_read, used-zero}
use Rattle.gt_frames.proofs.writers.Writers.new.Goals as goal

pub returns-clause-sound : goal.returns-clause-sound
returns-clause-sound c =
    let none : (at : ℕ) → get_or (numbers_of c.new.result.items (record { off = 0; len = 0; number = 0 })) at 0 ≡ 0 =
    λ at. ap (λ (xs : List ℕ). get_or xs at 0) (no_stretch c.new.result.items _ refl refl) ∙ empty_read c.new.result.items at (ap (λ (xs : List ℕ). length xs) c.new.ensures.items) in
    record {
      size = search rules;
      lies = omega arith;
      within = λ at. omega (arith, none at);
      marked = λ at. used-zero _ _ (omega (arith, none at));
      places = search rules;
      few = search rules;
      looks = omega arith;
      last = record { has = λ lt. absurd (omega (arith, lt)); len = λ lt. absurd (omega (arith, lt)) };
    }
