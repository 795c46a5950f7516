use Rattle.std.proofs.Common.{◌≡◌, ◌∙◌, ◌-◌, ap, arith, drop, length, length-drop, sym, take}
use Rattle.std.proofs.lemmas.List.{take_all}
use Rattle.gt_explore_witness.specs.GivingAnswers.{begins_with}
use Rattle.gt_moment_scripts.proofs.Pieces.{piece_at}
use Rattle.gt_moment_scripts.proofs.playing.is_at.Goals as goal

pub returns : goal.returns
returns c = λ yes.
    let text = c.args.text.now in
    let at = c.args.at in
    let all : take (length text - at) (drop at text) ≡ drop at text = take_all (length text - at) (drop at text) (let n = length-drop at text in omega (arith, n)) in
    piece_at text c.args.piece.now at (ap (begins_with c.args.piece.now) (sym all) ∙ sym c.begins_with.ensures ∙ yes)
