use Rattle.std.proofs.Common.{◌≡◌, arith, refl, Option, Some, None}
use Rattle.gt_model.specs.declared.held.HeldPin.{HeldPin}
use Rattle.gt_handles.specs.Handles.{HandleMap, HasSoundHandles, value_of}
use Rattle.gt_model.specs.declared.handle.Handle.{Handle}
use Rattle.gt_live.proofs.domain.Domain.unused_handle.Goals as goal

-- no value is under the serial that is given next
not-yet : (kept : HandleMap HeldPin) (h : Handle) → HasSoundHandles kept → h.serial ≡ kept.given → (found : Option HeldPin)
    → value_of kept h ≡ found → found ≡ None
not-yet kept h sound next None e = refl
not-yet kept h sound next (Some p) e = let below = sound.given h p e in absurd (omega (arith, below, next))

pub returns-clause-unused : goal.returns-clause-unused
returns-clause-unused c =
    not-yet c.args.self.now.mappings _ c.given.ensures.sound c.given.ensures.value _ refl
