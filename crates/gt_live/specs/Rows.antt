-- How an owner's rows change.
use Rattle.std.specs.Prelude.{ℕ, List, [], ◌∷◌, zero, suc}
use Rattle.gt_model.specs.declared.change.EntryChange.{EntryChange}
use Rattle.gt_calls.specs.declared.known.OwnerEntry.{OwnerEntry}
use Rattle.gt_calls.specs.Known.{own_after}

-- the rows after a change of the row r, if there is one
abbrev pub row_changed : List OwnerEntry → ℕ → EntryChange → List OwnerEntry
row_changed [] r change = []
row_changed (o ∷ os) zero change = own_after change o ∷ os
row_changed (o ∷ os) (suc r) change = o ∷ row_changed os r change
