-- The mappings of a domain in a state.
use Rattle.std.specs.Prelude.{◌++◌, bytes_eq, ℕ, suc, if◌then◌else◌, List, map, take, drop, Option, Some, None}
use Rattle.std.specs.Borrow.{Bor}
use Rattle.std.specs.Option.{option_map}
use Rattle.gt_model.specs.declared.held.HeldPin.{HeldPin}
use Rattle.gt_model.specs.declared.request.PinHolder.{PinHolder}
use Rattle.gt_model.specs.declared.request.PinHolder.TheVariants as holders
use Rattle.gt_explore_moves.specs.declared.actor.LabelledMapping.{LabelledMapping}

-- the bytes of a label, if there is one
abbrev pub label_bytes : Option (Bor (List ℕ)) → Option (List ℕ)
label_bytes label = option_map (λ l. l.now) label

-- the labels of these mappings
abbrev pub labels_of : List LabelledMapping → List (Option (List ℕ))
labels_of ms = map (λ m. label_bytes m.label) ms

-- their pins
abbrev pub mapping_pins : List LabelledMapping → List HeldPin
mapping_pins ms = map (λ m. m.held) ms

-- a label, unless another mapping gets it
abbrev pub unless_given : Option (List ℕ) → Option (List ℕ) → Option (List ℕ)
unless_given None old = old
unless_given (Some label) None = None
unless_given (Some label) (Some old) = if bytes_eq old label then None else Some old

-- these labels, without the one that another mapping gets
abbrev pub apart_from : Option (List ℕ) → List (Option (List ℕ)) → List (Option (List ℕ))
apart_from given labels = map (unless_given given) labels

-- the mappings without the one whose index is the serial of this handle
abbrev pub given_back : PinHolder → List LabelledMapping → List LabelledMapping
given_back (holders.Mapping handle) ms = take handle.serial ms ++ drop (suc handle.serial) ms
given_back (holders.Leg number) ms = ms
