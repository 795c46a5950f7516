use Rattle.std.proofs.Common.{◌≡◌, ℕ, List, [], Option, None, Some, slice_get, ap, ◌∙◌}
use Rattle.std.specs.Prelude.{unwrap_or}
use Rattle.std.proofs.lemmas.Option.{unwrap_or-slice_get}
use Rattle.gt_policy.specs.Listing.{type_name_of}
use Rattle.gt_policy_list.proofs.lines.name_at.Goals as goal

named : (types : List (List ℕ)) (n : ℕ) (o : Option (List ℕ)) → o ≡ slice_get types n → unwrap_or o [] ≡ type_name_of types n
named types n o is = ap (λ (x : Option (List ℕ)). unwrap_or x []) is ∙ unwrap_or-slice_get types n []

pub returns-in-Some : goal.returns-in-Some
returns-in-Some c = named c.args.policy.now.types c.args.id.0 (Some c.in-Some.name.now) c.in-Some.ensures

pub returns-in-None : goal.returns-in-None
returns-in-None c = named c.args.policy.now.types c.args.id.0 None c.in-None.ensures
