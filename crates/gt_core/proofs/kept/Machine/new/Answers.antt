use Rattle.gt_core.proofs.{Words.List, Words.[], Words.refl, Words.sym, Words.subst, Words.State, Words.DomainsStand}
use Rattle.gt_core.proofs.{Words.setting_of, Words.ap, Words.◌∙◌, Words.Config, Placed.ids_in, Placed.ids-first}
use Rattle.gt_core.proofs.{Placed.numbers, Starting.starts}
use Rattle.gt_core.proofs.kept.Machine.new.Goals as goal

pub returns-clause-domains : goal.returns-clause-domains
returns-clause-domains g c = let may = g.P.Allows.may c.args.rights in
    subst (λ (l : List State). DomainsStand (setting_of c.args.config may) [] l) (sym c.in_ok-domains.ensures) (starts c.args.config may (c.in_default.ensures.ok.0 refl))

pub invariant_of-result : goal.invariant_of-result
invariant_of-result g c = record {
  placed = ap ids_in c.in_ok-domains.ensures ∙ ids-first c.args.config.first_gen c.args.config.domains.items ∙ ap (λ (x : Config). numbers x.domains.items) (sym c.in-Ok.ensures.ok);
}
