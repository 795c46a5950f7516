use Rattle.std.proofs.Common.{◌<◌, arith, refl, true}
use Rattle.gt_explore.proofs.Added.{some_holds}
use Rattle.gt_explore_answers.specs.Outputs.{found_from}
use Rattle.gt_explore_by_choice.proofs.United.{gathered_found, gathered_stuck, none_holds}
use Rattle.gt_explore_by_choice.specs.Gathering.{AreFoundFor, IsNoScript}
use Rattle.gt_explore_by_choice.proofs.gathering.gather_choice.Goals as goal

pub returns-in-Ok-clause-ok : goal.returns-in-Ok-clause-ok
returns-in-Ok-clause-ok g c =
    gathered_found c.args.choices.now c.args.at c.in_ok-choice.choice.items (found_from c.in-Some.found) c.args.all.now.orders.items c.in-Some.found.texts.items c.push_found.new.all.orders.items
    c.push_found.new.all.whole c.push_found.new.all.waiting c.args.all.now.waiting true refl c.requires.before c.in_ok-choice.ensures.ok
    (some_holds (λ all. AreFoundFor c.in_ok-choice.choice.items (found_from all)) c.in_ok-found.field-0 c.in-Some.found (rw c.as_slice.ensures.value at c.in_ok-found.ensures.found) c.in-Some.is)
    refl c.in-Ok.ensures.orders c.in-Ok.ensures.whole c.in-Ok.ensures.waiting

pub returns-clause-ok : goal.returns-clause-ok
returns-clause-ok g c =
    let some : 0 < c.saturating_add-all.result = let e = c.saturating_add-all.ensures in omega (arith, e) in
    gathered_stuck c.args.choices.now c.args.at c.in_ok-choice.choice.items c.args.all.now.orders.items c.args.all.now.whole c.saturating_add-all.result c.args.all.now.waiting
    c.requires.whole c.requires.before c.in_ok-choice.ensures.ok
    (none_holds (IsNoScript c.in_ok-choice.choice.items) c.in_ok-found.field-0 (rw c.as_slice.ensures.value at c.in_ok-found.ensures.none) c.in-None.is) some
