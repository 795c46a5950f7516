use Rattle.std.proofs.Common.{◌∙◌, ap}
use Rattle.gt_word_history.specs.declared.view.FrameStep.TheVariants.{Read}
use Rattle.gt_words.specs.Conditions.{SeatOf}
use Rattle.gt_words.specs.Frames.{index_of}
use Rattle.gt_words.proofs.FramesAccessed.{accessed_at}
use Rattle.gt_words.proofs.words.Words.read_frame_to.Goals as goal

pub returns-clause-step : goal.returns-clause-step
returns-clause-step g c =
    let b = c.args.self.now in let found = c.in_ok-found.ensures.found in let r = c.read_frame_to in
    accessed_at b c.self.inside.words (index_of b c.args.name) c.in_ok-found.found (Read c.args.off r.result.bytes)
    c.args.seat.now.view c.seat.inside.place.view r.new.seat.view c.self.view_is found.0
    (ap (λ (s : SeatOf). s.view) (c.seat.view_is ∙ c.frame_at.ensures.seat)) found.1 r.ensures.step
