use Rattle.std.proofs.Common.{◌≡◌, ◌∙◌, sym, arith, refl, length, replicate, rules}
use Rattle.std.proofs.lemmas.Bool.{eqb-true}
use Rattle.gt_types.specs.declared.limits.TheConstants.{FRAME_SIZE}
use Rattle.gt_frames.proofs.Shown.{shows_zeros, sound_zeros}
use Rattle.gt_frames.proofs.writers.Writers.make_numbers.Goals as goal

pub returns-in_ok-self-clause-sound : goal.returns-in_ok-self-clause-sound
returns-in_ok-self-clause-sound c =
    let zeros : c.in_ok-self.field-0.items ≡ replicate FRAME_SIZE 0 = search rules in
    let none : length c.args.self.now.below.items ≡ 0 = omega (arith, eqb-true _ _ (sym c.is_empty.ensures ∙ c.if-is_empty.true)) in
    sound_zeros c.args.self.now (record c.args.self.now { below = c.in_ok-self.field-0 }) refl refl refl refl refl c.requires refl zeros none

pub returns-in_ok-self-clause-same : goal.returns-in_ok-self-clause-same
returns-in_ok-self-clause-same c =
    let zeros : c.in_ok-self.field-0.items ≡ replicate FRAME_SIZE 0 = search rules in
    let none : length c.args.self.now.below.items ≡ 0 = omega (arith, eqb-true _ _ (sym c.is_empty.ensures ∙ c.if-is_empty.true)) in
    shows_zeros c.args.self.now (record c.args.self.now { below = c.in_ok-self.field-0 }) refl refl refl refl refl c.requires refl zeros none
