use Rattle.std.proofs.Common.{subst, sym}
use Rattle.std.specs.Str.{IsUtf8}
use Rattle.gt_text.proofs.TextLemmas.{text_appended, type_is_text}
use Rattle.gt_text.proofs.denials.push_type.Goals as goal

pub returns-clause-stays : goal.returns-clause-stays
returns-clause-stays g c all =
    text_appended _ _ _ c.in_ok-extend_from_slice.ensures.items (subst IsUtf8 (sym c.name_of.ensures) (type_is_text _ _ _ all))
