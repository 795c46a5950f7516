use Rattle.std.proofs.Common.{inl, inr, refl, sym, ◌∙◌}
use Rattle.gt_c.proofs.Made.{none-of}
use Rattle.gt_c.proofs.beginning.end_copy.Goals as goal

pub returns-then-is_copying : goal.returns-then-is_copying
returns-then-is_copying c = record { settled = inr c.copy_end.ensures.ends; idle = c.copy_end.ensures.ends.2.1 }

pub returns-else-is_copying : goal.returns-else-is_copying
returns-else-is_copying c =
    let none = none-of c.args.attached.now.copying (sym c.is_copying.ensures ∙ c.if-is_copying.false) in
    record { settled = inl (none, refl); idle = none }
