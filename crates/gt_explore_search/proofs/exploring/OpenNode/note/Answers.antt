use Rattle.std.proofs.Common.{refl, subst, List, ℕ}
use Rattle.gt_explore_search.specs.Exploring.{HasEnd}
use Rattle.gt_explore_search.proofs.Finding.{notes_new, notes_old}
use Rattle.gt_explore_search.proofs.exploring.OpenNode.note.Goals as goal

pub returns-then-has : goal.returns-then-has
returns-then-has c = notes_old c.args.self.now c.args.list (subst (λ (l : List ℕ). HasEnd l c.args.list) c.as_slice.ensures.value (c.has.ensures c.if-has.true))

pub returns : goal.returns
returns c = notes_new c.args.self.now c.args.list _ refl refl refl refl c.in_ok-push.ensures.items
