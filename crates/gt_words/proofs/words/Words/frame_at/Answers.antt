use Rattle.std.proofs.Common.{ℕ, ◌<◌, ap, ◌∙◌, refl, subst}
use Rattle.gt_word_history.specs.Places.{Board}
use Rattle.gt_word_history.specs.Rule.{id_at}
use Rattle.gt_words.specs.Conditions.{IsLayoutWithinLimits}
use Rattle.gt_words.proofs.WithoutFrames.{named_there}
use Rattle.gt_words.proofs.words.Words.frame_at.Goals as goal

pub returns-then-has_frame-clause-named : goal.returns-then-has_frame-clause-named
returns-then-has_frame-clause-named c =
    let k = c.args.self.now.layout in let run : IsLayoutWithinLimits k = subst (λ (b : Board). IsLayoutWithinLimits b.layout) c.self.view_is c.self.invariant.1 in
    let has = c.if-has_frame.ensures.0 refl in let at = c.owner_position.ensures.position in
    let inside : c.owner_position.result < k.domains = subst (λ (b : Board). c.owner_position.result < b.layout.domains) c.self.view_is has.0 in
    ap (λ (t : ℕ). id_at k.ids t) at ∙ named_there k c.args.name.owner run (subst (λ (t : ℕ). t < k.domains) at inside)
