use Rattle.std.proofs.Common.{◌≡◌, ◌∙◌, sym, ap, subst, Some}
use Rattle.std.specs.Prelude.{true, option_copied}
use Rattle.gt_types.specs.declared.DomId.{DomId}
use Rattle.gt_types.specs.declared.Use.TheVariants as uses
use Rattle.gt_model.specs.Permits.{permits}
use Rattle.gt_model.specs.declared.held.HeldPin.{HeldPin}
use Rattle.gt_handles.specs.Handles.{value_of}
use Rattle.gt_live.proofs.domain.Domain.mapped_page.Goals as goal

pub page_of-requires : goal.page_of-requires
page_of-requires c =
    let kept = c.unwrap-kept.result.now in
    let there : value_of c.args.self.now.mappings c.args.handle ≡ Some kept = sym c.get.ensures.value ∙ ap option_copied c.unwrap-kept.ensures in
    subst (λ (dom : DomId). permits kept.entry dom kept.dir uses.Map 0 0 ≡ true) (sym c.dom.ensures) (c.requires.page kept there)

pub returns : goal.returns
returns c = sym c.get.ensures.value ∙ ap option_copied c.unwrap-kept.ensures ∙ ap (λ (held : HeldPin). Some held) (sym c.page_of.ensures)
