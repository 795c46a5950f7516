use Rattle.std.proofs.Common.{◌∙◌, ap}
use Rattle.gt_word_history.specs.declared.view.FrameStep.TheVariants.{Wrote}
use Rattle.gt_words.specs.Conditions.{SeatOf}
use Rattle.gt_words.specs.Frames.{index_of}
use Rattle.gt_words.proofs.FramesAccessed.{accessed_at}
use Rattle.gt_words.proofs.words.Words.write_frame.Goals as goal
use Rattle.gt_words.proofs.words.Words.write_frame.Goals.{in-Ok, in-Err}

pub returns-clause-step : goal.returns-clause-step
returns-clause-step g c =
    let b = c.args.self.now in let found = c.in-Some.ensures.found in let r = c.write_frame in let a = c.args in
    elim c.match-write_frame.branch [
      | in-Ok w ↦
          rw w.result-is
          (accessed_at b c.self.inside.words (index_of b a.name) c.in-Some.frame
          (Wrote (record { writ = a.write.writ.now; off = a.write.off; bytes = a.write.bytes.now })) a.seat.now.view c.seat.inside.place.view
          r.new.seat.view c.self.view_is found.0 (ap (λ (s : SeatOf). s.view) (c.seat.view_is ∙ c.frame_at.ensures.seat)) found.1
          w.in-Ok.ensures.step)
      | in-Err w ↦ rw w.result-is tt
    ]
