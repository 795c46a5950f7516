use Rattle.std.proofs.Common.{◌≡◌, ℕ, arith, length, refl, replicate, subst}
use Rattle.std.proofs.lemmas.Grind.{common_steps}
use Rattle.gt_model.specs.Written.{overlay}
use Rattle.gt_frames.specs.Frames.{recorded}
use Rattle.gt_frames.specs.Writers.{numbers_of}
use Rattle.gt_frames.proofs.Shown.{knows_after}
use Rattle.gt_frames.proofs.frame.store.Goals as goal

pub returns-in-Ok-clause-knows : goal.returns-in-Ok-clause-knows
returns-in-Ok-clause-knows c =
    let adds : c.add.new.self ≡ recorded c.args.journal.now c.args.writ.now c.args.off c.args.bytes.now = grind (arith, common_steps) in
    let old = numbers_of c.number_of.new.self.below.items c.number_of.new.self.latest in
    let laid : numbers_of c.show.new.self.below.items c.show.new.self.latest ≡ overlay old c.args.off (replicate (length c.args.bytes.now) c.in-Ok.number) =
    subst (λ (k : ℕ). numbers_of c.show.new.self.below.items c.show.new.self.latest ≡ overlay old k (replicate (length c.args.bytes.now) c.in-Ok.number))
    c.from-start.ensures c.show.ensures.numbers in
    knows_after c.args.writers.now c.show.new.self c.args.journal.now c.add.new.self c.args.writ.now c.in-Ok.number c.args.off c.args.bytes.now
    c.number_of.new.self c.in-Ok.ensures.sound c.in-Ok.ensures.same c.requires.knows c.in-Ok.ensures.has c.in-Ok.ensures.len c.requires.range c.show.ensures.sound
    c.show.ensures.writs laid adds

pub returns-in-Err-clause-contents_kept : goal.returns-in-Err-clause-contents_kept
returns-in-Err-clause-contents_kept c = refl
