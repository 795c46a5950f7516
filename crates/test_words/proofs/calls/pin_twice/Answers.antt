use Rattle.gt_words.specs.Conditions.{position_at}
use Rattle.gt_word_history.specs.Controls.{generation_of}
use Rattle.test_words.proofs.Left.{of_entry, of_pin, one_left, still_held}
use Rattle.test_words.proofs.calls.pin_twice.Goals as goal

pub unpin-requires-clause-held : goal.unpin-requires-clause-held
unpin-requires-clause-held c = let b = c.args.words.now in let t = position_at b c.args.dom in let r = c.args.gref.0 in let p = c.in-Some.first in let q = c.in-Some-pin_to_read.second in
    of_pin b c.args.dom c.args.gref p c.pin_to_read-2.new.seat.view c.in-Some.ensures.pin.pin
    (still_held t r (generation_of p.word) (generation_of q.word) c.pin_to_read.new.seat.view c.look-sight-2.new.seat.view c.pin_to_read-2.new.seat.view c.in-Some.ensures.pin.held c.look-sight-2.ensures.pins c.in-Some-pin_to_read.ensures.pin.one_more)

pub unpin-requires-2-clause-held : goal.unpin-requires-2-clause-held
unpin-requires-2-clause-held c = let b = c.args.words.now in let t = position_at b c.args.dom in let r = c.args.gref.0 in let p = c.in-Some.first in let q = c.in-Some-pin_to_read.second in let v3 = c.pin_to_read-2.new.seat.view in let v4 = c.unpin.new.seat.view in
    of_pin b c.args.dom c.args.gref q v4 c.in-Some-pin_to_read.ensures.pin.pin
    (one_left t r (generation_of p.word) (generation_of q.word) c.look-sight.new.seat.view c.pin_to_read.new.seat.view c.look-sight-2.new.seat.view v3 v4 c.in-Some.ensures.pin.one_more c.look-sight-2.ensures.pins c.in-Some-pin_to_read.ensures.pin.one_more
    (of_entry b c.args.dom c.args.gref p v3 v4 c.in-Some.ensures.pin.pin c.unpin.ensures.step))
