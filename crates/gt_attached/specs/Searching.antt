-- A search for the mappings of a domain, by their keys.
use Rattle.std.specs.Prelude.{◌≡◌, ℕ, Option, Some, None}
use Rattle.gt_handles.specs.Handles.{FindsNext, HandleMap, value_of}
use Rattle.gt_model.specs.declared.held.HeldPin.{HeldPin}
use Rattle.gt_live.specs.declared.domain.mappings.NewMapping.{NewMapping}

-- the mapping of the least key from this one on, with its handle and its pin; none if no such key has a mapping
abbrev pub FindsMapping : HandleMap HeldPin → ℕ → Option NewMapping → Type 0
FindsMapping s from None = FindsNext s from None
FindsMapping s from (Some n) = FindsNext s from (Some n.handle) × (value_of s n.handle ≡ Some n.held)
