use Rattle.std.proofs.Common.{◌≡◌, ◌∙◌, ℕ, ap, subst, sym, Option, Some}
use Rattle.std.specs.Option.{IsSome}
use Rattle.gt_handles.specs.Handles.{value_of}
use Rattle.gt_words.specs.Conditions.{position_at}
use Rattle.gt_model.specs.declared.held.HeldPin.{HeldPin}
use Rattle.gt_live.proofs.Positions.{found-there, some-there}
use Rattle.gt_live.proofs.domain.Domain.position_under.Goals as goal

pub unwrap-requires : goal.unwrap-requires
unwrap-requires g c =
    let m = c.args.monitor.now in let held = c.in-Some.held in
    let there : value_of c.args.self.now.mappings c.args.handle ≡ Some held = sym c.get.ensures.value ∙ sym c.copied.ensures ∙ c.in-Some.is in
    subst (λ (o : Option ℕ). IsSome o) (sym c.position.ensures)
    (some-there m.words.layout m.config held.dom m.same_run (c.requires.mine.mapped c.args.handle held there).pin.run)

pub returns-in-Some : goal.returns-in-Some
returns-in-Some g c = λ p there.
    let m = c.args.monitor.now in
    let same : Some c.in-Some.held ≡ Some p = sym c.in-Some.is ∙ c.copied.ensures ∙ c.get.ensures.value ∙ there in
    let is : c.in-Some.held ≡ p = cc in
    found-there m.words.layout m.config c.in-Some.held.dom c.unwrap.result m.same_run (sym c.position.ensures ∙ c.unwrap.ensures)
    ∙ ap (λ (x : HeldPin). position_at m.words x.dom) is

pub returns-in-None : goal.returns-in-None
returns-in-None g c = λ p there.
    let none : c.copied.result ≡ Some p = c.copied.ensures ∙ c.get.ensures.value ∙ there in
    let is = c.in-None.is in absurd (cc)
