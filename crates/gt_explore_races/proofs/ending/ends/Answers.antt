use Rattle.std.proofs.Common.{◌++◌, ◌∷◌, [], List, append_assoc, rules, subst}
use Rattle.gt_explore_replay.specs.Orders.{Happening}
use Rattle.gt_explore_replay.specs.Walking.{HasWalked}
use Rattle.gt_explore_races.proofs.Remade.{walked-more}
use Rattle.gt_explore_races.proofs.ending.ends.Goals as goal

pub moves-preserved : goal.moves-preserved
moves-preserved c = λ d hs walked.
    let more = c.moves.invariant d hs walked in
    let on = walked-more d (hs ++ more.0) c.advance.new.self c.in-Some.place c.in_ok-moved.moved (c.in_ok-moved.ensures.walks d (hs ++ more.0) more.1) (search rules) in
    (more.0 ++ on.0 ∷ [], subst (λ (l : List Happening). HasWalked d l c.advance.new.self) (append_assoc hs more.0 (on.0 ∷ [])) on.1)
