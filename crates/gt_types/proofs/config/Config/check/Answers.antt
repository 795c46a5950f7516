use Rattle.std.proofs.Common.{◌≡◌, ◌≤◌, length, List, refl, sym, ap, ◌∙◌, arith}
use Rattle.std.proofs.lemmas.Bool.Decides.{nat_tests}
use Rattle.gt_types.specs.declared.config.DomainConfig.{DomainConfig}
use Rattle.gt_types.specs.Config.{AreFaultless}
use Rattle.gt_types.proofs.Faults.{within, not-within, stops, goes-on, ends}
use Rattle.gt_types.proofs.config.Config.check.Goals as goal

pub returns-in-Some-clause-first : goal.returns-in-Some-clause-first
returns-in-Some-clause-first c =
    stops c.args.self.now c.loop-at.at c.deref-domain-items.result.now c.deref.result.now _ c.in-Some.fault c.deref-domain-items.ensures.value c.deref.ensures.value c.loop-at-test.true
    c.loop-at.invariant (sym c.fault.ensures ∙ c.in-Some.is)

pub returns-in-Some-clause-ok : goal.returns-in-Some-clause-ok
returns-in-Some-clause-ok c = (λ e. absurd cc, λ w. absurd (not-within c.args.self.now c.in-Some.fault (returns-in-Some-clause-first c) w))

pub loop-at-preserved : goal.loop-at-preserved
loop-at-preserved c =
    goes-on c.args.self.now c.loop-at.at c.deref-domain-items.result.now c.deref.result.now _ c.deref-domain-items.ensures.value c.deref.ensures.value c.loop-at-test.true
    c.loop-at.invariant (sym c.fault.ensures ∙ c.in_default.is)

all-looked : (c : goal.Else-self-gt-LAST_GENERATION) → AreFaultless c.args.self.now.domains.items
all-looked c =
    let same : length c.deref-domain-items.result.now ≡ length c.args.self.now.domains.items = ap (λ (ds : List DomainConfig). length ds) c.deref-domain-items.ensures.value in
    ends c.args.self.now.domains.items c.loop-at.at (omega arith) c.loop-at.invariant

some : (c : goal.Else-self-gt-LAST_GENERATION) → 1 ≤ length c.args.self.now.domains.items
some c =
    let same : length c.deref-domain-items.result.now ≡ length c.args.self.now.domains.items = ap (λ (ds : List DomainConfig). length ds) c.deref-domain-items.ensures.value in
    grind (arith, nat_tests)

pub returns-clause-ok : goal.returns-clause-ok
returns-clause-ok c = (λ e. within c.args.self.now (some c) (all-looked c) c.if-self-gt-LAST_GENERATION.false, λ w. refl)
