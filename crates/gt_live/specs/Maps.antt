-- How a driven map ended.
use Rattle.std.specs.Prelude.{Result, Ok, Err}
use Rattle.gt_types.specs.declared.denial.Denial.{Denial}
use Rattle.gt_words.specs.declared.words.Pin.{Pin}
use Rattle.gt_model.specs.declared.action.CallResult.{CallResult}
use Rattle.gt_model.specs.declared.action.CallResult.TheVariants.{Mapped, Refused}
use Rattle.gt_model.specs.declared.held.HeldPin.{HeldPin}
use Rattle.gt_live.specs.declared.driving.Effect.{Effect}
use Rattle.gt_live.specs.declared.driving.Effect.TheVariants.{Nothing, Pinned}

-- the result of a map's path that took this pin, or was refused
abbrev pub pin_verdict : Result HeldPin Denial → CallResult
pin_verdict (Ok p) = Mapped p
pin_verdict (Err denial) = Refused denial

-- what the map did
abbrev pub pin_effect : Result HeldPin Denial → Effect
pin_effect (Ok p) = Pinned p
pin_effect (Err denial) = Nothing

-- a pin as the words know it
abbrev pub pin_of : HeldPin → Pin
pin_of p = record { dom = p.dom; gref = p.gref; word = p.word; dir = p.dir }
