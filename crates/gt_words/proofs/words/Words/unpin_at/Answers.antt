use Rattle.std.proofs.Common.{◌∙◌, ℕ, ap, subst}
use Rattle.gt_model.specs.declared.control.Control.{Control}
use Rattle.gt_word_history.specs.Controls.{generation_of}
use Rattle.gt_word_history.specs.Places.{Board}
use Rattle.gt_word_history.specs.Rule.{Layout}
use Rattle.gt_word_history.specs.declared.view.View.{View}
use Rattle.gt_words.specs.Answers.{UnpinsTo}
use Rattle.gt_words.specs.Conditions.{SeatOf, position_at}
use Rattle.gt_words.proofs.words.Words.unpin_at.Goals as goal

pub returns-clause-left : goal.returns-clause-left
returns-clause-left c =
    let p = c.args.pin in let n : ℕ = c.unpin.result in let w : View = c.unpin.new.seat.view in
    let k : Layout = c.self.inside.words.layout in let v : View = c.seat.inside.place.view in
    let t : ℕ = position_at c.args.self.now p.dom in
    let here = subst (λ (x : ℕ). UnpinsTo k x p.gref.0 p.dir c.from-generation.result n v w) c.requires.place c.unpin.ensures.left in
    let then = subst (λ (x : ℕ). UnpinsTo k t p.gref.0 p.dir x n v w)
    (c.from-generation.ensures ∙ ap (λ (x : Control). x.generation) c.unpack.ensures.holds) here in
    let there = subst (λ (x : Layout). UnpinsTo x t p.gref.0 p.dir (generation_of p.word) n v w) (ap (λ (b : Board). b.layout) c.self.view_is) then in
    subst (λ (x : View). UnpinsTo c.args.self.now.layout t p.gref.0 p.dir (generation_of p.word) n x w) (ap (λ (s : SeatOf). s.view) c.seat.view_is) there
