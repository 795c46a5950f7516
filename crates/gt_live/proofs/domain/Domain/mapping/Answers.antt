use Rattle.std.proofs.Common.{◌≡◌, ◌∙◌, sym, Option, Some, None, refl}
use Rattle.std.specs.Prelude.{IfSome}
use Rattle.gt_live.specs.AccessPaths.{MayAccessBy}
use Rattle.gt_model.specs.declared.held.HeldPin.{HeldPin}
use Rattle.gt_model.specs.declared.held.AccessPath.TheVariants.{Direct}
use Rattle.gt_live.specs.Mappings.{ReachesItsFrame}
use Rattle.gt_live.proofs.Accessing.{reaches-its-frame}
use Rattle.gt_live.proofs.domain.Domain.mapping.Goals as goal

if-found : (Is : HeldPin → Type 0) (found : Option HeldPin) → ((p : HeldPin) → found ≡ Some p → Is p) → IfSome found Is
if-found Is None all = tt
if-found Is (Some p) all = all p refl

pub returns-clause-reaches : goal.returns-clause-reaches
returns-clause-reaches g c =
    let m = c.args.monitor.now in let d = c.args.self.now in let may = g.P.Allows.may m.rights in
    if-found (ReachesItsFrame m.words.layout d.seat) c.copied.result
    (λ (p : HeldPin) (there : c.copied.result ≡ Some p). reaches-its-frame m.words.layout m.config.domains.items may d.seat p (c.requires.mine.mapped c.args.handle p (sym c.get.ensures.value ∙ sym c.copied.ensures ∙ there)))

pub returns-clause-may : goal.returns-clause-may
returns-clause-may g c =
    let m = c.args.monitor.now in let d = c.args.self.now in let may = g.P.Allows.may m.rights in
    if-found (λ (p : HeldPin). MayAccessBy m.config.domains.items may d.seat.dom (Direct p)) c.copied.result
    (λ (p : HeldPin) (there : c.copied.result ≡ Some p). (c.requires.mine.mapped c.args.handle p (sym c.get.ensures.value ∙ sym c.copied.ensures ∙ there)).allowed)
