use Rattle.std.proofs.Common.{List, [], sym, subst}
use Rattle.std.proofs.lemmas.List.{append-nil}
use Rattle.gt_model.specs.declared.held.HeldPin.{HeldPin}
use Rattle.gt_model.specs.Holding.{held_by}
use Rattle.gt_live.specs.Underway.{HasTaken}
use Rattle.gt_live.proofs.GivingBack.{can-give, dest-run, given-both, given-taken, gives-back, source-run}
use Rattle.gt_live.proofs.access_paths.give_back.Goals as goal

pub give_back_access_path-dest-requires-clause-can : goal.give_back_access_path-dest-requires-clause-can
give_back_access_path-dest-requires-clause-can c =
    let k = c.args.words.now.layout in let pins = c.args.pins.now in
    can-give k (held_by pins.dest) (held_by pins.source) c.requires.taken.0 c.args.seat.now.view c.requires.taken.1
    (dest-run k (held_by pins.dest) (held_by pins.source) c.requires.of_run)

pub give_back_access_path-source-requires-clause-can : goal.give_back_access_path-source-requires-clause-can
give_back_access_path-source-requires-clause-can c =
    let k = c.args.words.now.layout in let pins = c.args.pins.now in let base = c.requires.taken.0 in
    let mid = c.give_back_access_path-dest.new.seat.view in
    can-give k (held_by pins.source) [] base mid
    (subst (λ (ps : List HeldPin). HasTaken k ps base mid) (sym (append-nil (held_by pins.source)))
    (given-taken k (held_by pins.dest) (held_by pins.source) base c.args.seat.now.view mid
    c.give_back_access_path-dest.ensures.given c.requires.taken.1))
    (source-run k (held_by pins.dest) (held_by pins.source) c.requires.of_run)

pub returns-clause-gives : goal.returns-clause-gives
returns-clause-gives c =
    let k = c.args.words.now.layout in let pins = c.args.pins.now in
    gives-back k pins c.args.seat.now.view c.give_back_access_path-source.new.seat.view
    (given-both k (held_by pins.dest) (held_by pins.source) c.args.seat.now.view c.give_back_access_path-dest.new.seat.view
    c.give_back_access_path-source.new.seat.view c.give_back_access_path-dest.ensures.given c.give_back_access_path-source.ensures.given)

pub returns-clause-left : goal.returns-clause-left
returns-clause-left c =
    (c.give_back_access_path-dest.new.seat.view, c.give_back_access_path-dest.ensures.left, c.give_back_access_path-source.ensures.left)
