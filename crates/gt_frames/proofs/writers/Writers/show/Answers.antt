use Rattle.std.proofs.Common.{refl}
use Rattle.gt_frames.proofs.Shown.{sound_show}
use Rattle.gt_frames.proofs.writers.Writers.show.Goals as goal

pub returns-clause-sound : goal.returns-clause-sound
returns-clause-sound c =
    sound_show c.args.self.now _ refl refl refl refl refl c.requires.sound c.args.number c.args.off c.args.len c.requires.size c.requires.range
    c.requires.has.0 c.requires.has.1 c.assign.ensures.len c.assign.ensures.lies c.assign.ensures.numbers
