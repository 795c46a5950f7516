use Rattle.std.proofs.Common.{List, ℕ, get_or, subst}
use Rattle.std.proofs.lemmas.List.{get_or_default, take_all}
use Rattle.gt_policy_check.specs.Earlier.{AddsAtAll}
use Rattle.gt_policy_check.proofs.KnownLemmas.{one_more}
use Rattle.gt_policy_check.proofs.earlier.push_at_all.Goals as goal

pub places-preserved : goal.places-preserved
places-preserved c =
    one_more c.args.lists.now.items c.places.lists.items c.push_at.new.lists.items c.args.places.now c.places.place-index (get_or c.args.places.now c.places.place-index 0) c.args.number
    c.places-test.true (get_or_default c.args.places.now c.places.place-index 0 _ c.places-test.true) c.places.invariant c.in_ok-push_at.ensures

pub returns : goal.returns
returns c = subst (λ (l : List ℕ). AddsAtAll c.args.lists.now.items l c.args.number c.places.lists.items)
    (take_all c.places.place-index c.args.places.now c.places-test.false) c.places.invariant
