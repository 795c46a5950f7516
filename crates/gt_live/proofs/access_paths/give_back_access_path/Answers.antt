use Rattle.std.proofs.Common.{refl, sym, subst}
use Rattle.gt_model.specs.declared.held.AccessPath.{AccessPath}
use Rattle.gt_model.specs.Holding.{held_by}
use Rattle.gt_live.specs.Copies.{CanGiveBack, IsGivenBack}
use Rattle.gt_live.specs.Releasing.{AccessPathLeaves}
use Rattle.gt_live.proofs.access_paths.give_back_access_path.Goals as goal

pub give_pin_back-requires-in-Through-2-clause-can : goal.give_pin_back-requires-in-Through-2-clause-can
give_pin_back-requires-in-Through-2-clause-can c =
    let k = c.args.words.now.layout in let v = c.args.seat.now.view in
    let can = subst (λ (r : AccessPath). CanGiveBack k (held_by r) v) c.in-Through.is c.requires.can in
    (can.1 c.give_pin_back-in-Through.new.seat.view (c.give_pin_back-in-Through.ensures.made 0)).0

pub returns-in-Direct-clause-given : goal.returns-in-Direct-clause-given
returns-in-Direct-clause-given c =
    let k = c.args.words.now.layout in let v = c.args.seat.now.view in let w = c.give_pin_back.new.seat.view in
    subst (λ (r : AccessPath). IsGivenBack k (held_by r) v w) (sym c.in-Direct.is)
    (w, c.give_pin_back.ensures.made 0, refl)

pub returns-in-Through-clause-given : goal.returns-in-Through-clause-given
returns-in-Through-clause-given c =
    let k = c.args.words.now.layout in let v = c.args.seat.now.view in
    let u = c.give_pin_back-in-Through.new.seat.view in let w = c.give_pin_back-in-Through-2.new.seat.view in
    subst (λ (r : AccessPath). IsGivenBack k (held_by r) v w) (sym c.in-Through.is)
    (u, c.give_pin_back-in-Through.ensures.made 0, (w, c.give_pin_back-in-Through-2.ensures.made 0, refl))

pub returns-in-Direct-clause-left : goal.returns-in-Direct-clause-left
returns-in-Direct-clause-left c =
    let k = c.args.words.now.layout in let v = c.args.seat.now.view in let w = c.give_pin_back.new.seat.view in
    subst (λ (r : AccessPath). AccessPathLeaves k r c.give_pin_back.result v w) (sym c.in-Direct.is) c.give_pin_back.ensures.left

pub returns-in-Through-clause-left : goal.returns-in-Through-clause-left
returns-in-Through-clause-left c =
    let k = c.args.words.now.layout in let v = c.args.seat.now.view in
    let u = c.give_pin_back-in-Through.new.seat.view in let w = c.give_pin_back-in-Through-2.new.seat.view in
    subst (λ (r : AccessPath). AccessPathLeaves k r c.give_pin_back-in-Through-2.result v w) (sym c.in-Through.is)
    (u, c.give_pin_back-in-Through.ensures.made 0, c.give_pin_back-in-Through-2.ensures.left)
