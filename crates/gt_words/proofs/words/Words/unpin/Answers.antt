use Rattle.std.proofs.Common.{subst}
use Rattle.gt_words.specs.Answers.{UnpinsPinTo}
use Rattle.gt_words.specs.Conditions.{SeatOf}
use Rattle.gt_words.proofs.words.Words.unpin.Goals as goal

pub returns-clause-left : goal.returns-clause-left
returns-clause-left c =
    subst (λ (s : SeatOf). UnpinsPinTo c.args.self.now c.args.pin c.unpin_at.result s.view c.unpin_at.new.seat.view)
    c.position-at.ensures.seat c.unpin_at.ensures.left
