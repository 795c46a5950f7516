use Rattle.std.proofs.Common.{◌∙◌, ap}
use Rattle.gt_words.specs.Conditions.{SeatOf}
use Rattle.gt_words.specs.Frames.{index_of}
use Rattle.gt_words.proofs.FramesAccessed.{copied_at}
use Rattle.gt_words.proofs.words.Words.copy_frames.Goals as goal
use Rattle.gt_words.proofs.words.Words.copy_frames.Goals.{in-Ok, in-Err}

pub returns-clause-step : goal.returns-clause-step
returns-clause-step g c =
    let b = c.args.self.now in let a = c.args in let r = c.copy_frames in
    let from = c.in-Some.ensures.found in let to = c.in-Some-frame_at.ensures.found in
    elim c.match-copy_frames.branch [
      | in-Ok w ↦
          rw w.result-is
          (copied_at b c.self.inside.words (index_of b a.source) c.in-Some.from (index_of b a.dest)
          c.in-Some-frame_at.to a.copy.writ.now a.copy.range a.copy.to_off a.seat.now.view
          c.seat.inside.place.view r.new.seat.view c.self.view_is from.0 to.0
          (ap (λ (s : SeatOf). s.view) (c.seat.view_is ∙ (c.frame_at-2.ensures.seat ∙ c.frame_at.ensures.seat))) from.1 to.1
          w.in-Ok.ensures.step)
      | in-Err w ↦ rw w.result-is tt
    ]
