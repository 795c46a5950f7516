-- The pins that a copy has taken.
use Rattle.std.specs.Prelude.{◌≡◌, ℕ, ◌==◌, ◌&&◌, Bool, cond, List, [], ◌∷◌, ◌++◌}
use Rattle.gt_live.specs.Prelude.{HeldPin, Layout, LivePin, View, last_of, live_pins, position_in, steps_on}
use Rattle.gt_words.specs.Keeping.{SeesNoEarlier}
use Rattle.gt_live.specs.Mappings.{entry_record_of}

-- the pin is one of the entry r of the domain t
abbrev pub is_of_entry : Layout → ℕ → ℕ → HeldPin → Bool
is_of_entry k t r p = (position_in k.ids p.dom == t) && (p.gref.0 == r)

-- those of these pins that are of the entry r of the domain t, as a view has them
abbrev pub live_pins_by : Layout → ℕ → ℕ → List HeldPin → List LivePin
live_pins_by k t r [] = []
live_pins_by k t r (p ∷ ps) =
    cond (is_of_entry k t r p) ((p.dir, entry_record_of p) ∷ live_pins_by k t r ps) (live_pins_by k t r ps)

-- the seat has taken these pins, the last one first, and otherwise has the same pins and records as before
pub record HasTaken (k : Layout) (taken : List HeldPin) (v w : View) : Type 0 where
  pub pins : (t r : ℕ) → live_pins (steps_on t r w) ≡ live_pins_by k t r taken ++ live_pins (steps_on t r v)
  pub records : (r : ℕ) → last_of r w ≡ last_of r v
  pub seen : SeesNoEarlier v w
  pub position : w.position ≡ v.position
  pub ids : w.ids ≡ v.ids
