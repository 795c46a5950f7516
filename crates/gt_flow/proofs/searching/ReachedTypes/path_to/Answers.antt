use Rattle.std.proofs.Common.{◌≡◌, ◌∙◌, get_or, subst, sym}
use Rattle.gt_flow.specs.Paths.{AreBackward}
use Rattle.gt_flow.proofs.Walking.{arrived, inside-found, is-less, no-path, not-yet, one-back}
use Rattle.gt_flow.proofs.searching.ReachedTypes.path_to.Goals as goal

pub back-init : goal.back-init
back-init c = rw c.new-path.ensures.items
    (not-yet c.args.self.now c.in-Some.place
    (inside-found c.args.self.now c.args.target c.in-Some.place (sym c.target_place.ensures ∙ c.in-Some.is)))

pub back-smaller : goal.back-smaller
back-smaller c = is-less c.args.self.now c.in-Some.place c.back.at c.back.path.items c.index-hop.result.now c.back.invariant
    c.back-test.true
    (subst (λ q. c.index-hop.result.now ≡ get_or q c.back.at c.index-hop.result.now) c.self.view_is c.index-hop.ensures)
    (subst AreBackward c.self.view_is c.self.invariant)

pub back-preserved : goal.back-preserved
back-preserved c = rw c.in_ok-insert.ensures.items
    (one-back c.args.self.now c.in-Some.place c.back.at c.back.path.items c.index-hop.result.now c.back.invariant
    c.back-test.true
    (subst (λ q. c.index-hop.result.now ≡ get_or q c.back.at c.index-hop.result.now) c.self.view_is c.index-hop.ensures)
    (subst AreBackward c.self.view_is c.self.invariant))

pub returns : goal.returns
returns c = arrived c.args.self.now c.args.target c.in-Some.place c.back.at c.back.path.items
    (sym c.target_place.ensures ∙ c.in-Some.is) c.back-test.false c.back.invariant

pub returns-in_default : goal.returns-in_default
returns-in_default c = no-path c.args.self.now c.args.target (sym c.target_place.ensures ∙ c.in_default.is)
