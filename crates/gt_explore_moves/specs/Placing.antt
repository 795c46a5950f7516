-- The handles under which a call finds the mappings of a state: the serial of each is the index of its mapping.
use Rattle.std.specs.Prelude.{◌≡◌, ℕ, suc, List, [], ◌∷◌, length, map, Option, Some, slice_get}
use Rattle.gt_types.specs.declared.DomId.{DomId}
use Rattle.gt_model.specs.declared.handle.Handle.{Handle}
use Rattle.gt_handles.specs.Listing.{HasJust}
use Rattle.gt_model.specs.declared.held.HeldPin.{HeldPin}
use Rattle.gt_script_runs.specs.Naming.{AreNamed}
use Rattle.gt_script_runs.specs.Runs.{Named, with_name}
use Rattle.gt_explore_moves.specs.Mappings.{labels_of, mapping_pins}
use Rattle.gt_explore_moves.specs.declared.actor.LabelledMapping.{LabelledMapping}
use Rattle.gt_explore_moves.specs.declared.names.ActorHandles.{ActorHandles}

-- the serials of the handles are consecutive numbers, starting at this one
abbrev pub CountFrom : ℕ → List Handle → Type 0
CountFrom n [] = Unit {0}
CountFrom n (handle ∷ more) = (handle.serial ≡ n) × CountFrom (suc n) more

-- what these labels name, if these are the handles of their mappings, in addition to what was named before; the last
-- one comes first
abbrev pub place_names_after : DomId → List Handle → List (Option (List ℕ)) → List Named → List Named
place_names_after dom (handle ∷ handles) (label ∷ labels) named =
    place_names_after dom handles labels (with_name named dom label (Some handle))
place_names_after dom handles labels named = named

-- the same, with nothing named before
abbrev pub place_names : DomId → List Handle → List (Option (List ℕ)) → List Named
place_names dom handles labels = place_names_after dom handles labels []

-- each of these mappings has a handle whose serial is its index, by which its pin is found, and which its label names
pub record ArePlaced (dom : DomId) (mappings : List LabelledMapping) (n : ActorHandles) : Type 0 where
  pub pairs : List (Handle × HeldPin)
  pub kept : HasJust n.mappings pairs (length mappings)
  pub pins : map (λ (m : Handle × HeldPin). m.1) pairs ≡ mapping_pins mappings
  pub handles : map (λ (m : Handle × HeldPin). m.0) pairs ≡ n.handles.items
  pub places : CountFrom 0 n.handles.items
  pub labels : AreNamed n.labels (place_names dom n.handles.items (labels_of mappings))

-- the pin of the mapping whose index is the serial of this handle
abbrev pub pin_by_place : List HeldPin → Handle → Option HeldPin
pin_by_place pins handle = slice_get pins handle.serial
