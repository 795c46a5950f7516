use Rattle.std.proofs.Common.{subst}
use Rattle.gt_word_history.specs.Controls.{generation_of}
use Rattle.gt_word_history.specs.Rule.{position_in}
use Rattle.gt_words.specs.Answers.{UnpinsTo}
use Rattle.gt_words.specs.declared.words.Pin.{Pin}
use Rattle.gt_live.proofs.access_paths.give_pin_back.Goals as goal

pub returns-clause-left : goal.returns-clause-left
returns-clause-left c =
    let k = c.args.words.now.layout in
    subst (λ (p : Pin). UnpinsTo k (position_in k.ids p.dom) p.gref.0 p.dir (generation_of p.word) c.unpin.result c.args.seat.now.view c.unpin.new.seat.view)
    c.pin_of.ensures c.unpin.ensures.left
