-- Domains once more.
use Rattle.std.proofs.Common.{List, [], ◌∷◌, ◌++◌}
use Rattle.gt_explore_moves.specs.Copies.{SameActor, SameActors}
use Rattle.gt_explore_moves.specs.declared.actor.Actor.{Actor}

pub actors-more : (xs ys : List Actor) (x y : Actor) → SameActors xs ys → SameActor x y → SameActors (xs ++ x ∷ []) (ys ++ y ∷ [])
actors-more [] [] x y a b = (b, tt)
actors-more (v ∷ xs) (w ∷ ys) x y a b = (a.0, actors-more xs ys x y a.1 b)
actors-more [] (w ∷ ys) x y a b = absurd a
actors-more (v ∷ xs) [] x y a b = absurd a
