-- A table that has the positions of the last domains.
use Rattle.std.proofs.Common.{◌≡◌, ℕ, ◌<◌, ◌≤◌, ◌+◌, replicate, List, [], ◌∷◌, length, get_or, set, drop, cond, refl}
use Rattle.std.proofs.Common.{ap, ◌∙◌, sym, arith}
use Rattle.std.specs.Prelude.{◌==◌}
use Rattle.std.specs.List.{position_or_len}
use Rattle.gt_types.specs.declared.DomId.{DomId}

-- the table has the positions of the domains starting at this one, or the count of all
abbrev pub HasLast : List DomId → ℕ → List ℕ → Type 0
HasLast ids at table = (d : ℕ) → get_or table d (length ids) ≡ at + position_or_len (λ x. x.0 == d) (drop at ids)
