use Rattle.std.proofs.Common.{◌≡◌, ◌∙◌, ap, subst, sym, Option, Some}
use Rattle.std.specs.Option.{IsSome}
use Rattle.gt_types.specs.Names.{domain_of}
use Rattle.gt_types.specs.declared.config.DomainConfig.{DomainConfig}
use Rattle.gt_word_history.specs.Rule.{Layout}
use Rattle.gt_words.specs.Conditions.{HasDomain}
use Rattle.gt_words.specs.Laws.{domain_of_run}
use Rattle.gt_model.specs.Rules.{label_in, owner_label}
use Rattle.gt_model.specs.declared.held.HeldPin.{HeldPin}
use Rattle.gt_handles.specs.Handles.{value_of}
use Rattle.gt_live.proofs.domain.Domain.owner_label.Goals as goal

pub unwrap-requires : goal.unwrap-requires
unwrap-requires g c =
    let m = c.args.monitor.now in let held = c.in-Some.held in
    let there : value_of c.args.self.now.mappings c.args.handle ≡ Some held = sym c.get.ensures.value ∙ sym c.copied.ensures ∙ c.in-Some.is in
    let run = subst (λ (k : Layout). HasDomain k held.dom) m.same_run (c.requires.mine.mapped c.args.handle held there).pin.run in
    subst (λ (o : Option DomainConfig). IsSome o) (sym c.domain.ensures) ((domain_of_run m.config held.dom).1 run)

pub returns-in-Some : goal.returns-in-Some
returns-in-Some g c =
    let m = c.args.monitor.now in let held = c.in-Some.held in
    let there : value_of c.args.self.now.mappings c.args.handle ≡ Some held = sym c.get.ensures.value ∙ sym c.copied.ensures ∙ c.in-Some.is in
    let found : Some c.unwrap.result ≡ domain_of m.config.domains.items held.dom = sym c.unwrap.ensures ∙ c.domain.ensures in
    ap label_in found ∙ sym (ap (λ (o : Option HeldPin). owner_label m.config.domains.items o) there)

pub returns-in-None : goal.returns-in-None
returns-in-None g c =
    let none = sym c.get.ensures.value ∙ sym c.copied.ensures ∙ c.in-None.is in
    sym (ap (λ (o : Option HeldPin). owner_label c.args.monitor.now.config.domains.items o) none)
