-- Deeds behind other deeds.
use Rattle.std.proofs.Common.{◌≡◌, List, [], ◌∷◌, ◌++◌, sym, ap, ◌∙◌}
use Rattle.gt_types.specs.declared.config.Config.{Config}
use Rattle.gt_words.specs.Conditions.{Board}
use Rattle.gt_live.specs.Domains.{AllowRelation}
use Rattle.gt_live.specs.declared.domain.Domain.{Domain}
use Rattle.gt_linearization.specs.Runs.{AreDeeds, DomainAct, IsAtRest, domain_after}
use Rattle.gt_linearization.specs.Runs.DomainAct.{Call, Look, OnFlag}

pub at-rest : (d e : Domain) → e ≡ d → IsAtRest e d
at-rest d e is = record { seat = ap (λ (x : Domain). x.seat) (sym is); own = ap (λ (x : Domain). x.own.items) (sym is); mappings = ap (λ (x : Domain). x.mappings) (sym is) }

module _ (first d : Domain) (ms : List DomainAct) (now : IsAtRest (domain_after first ms) d) where
  pub rest-on : (us : List DomainAct) (e : Domain) → IsAtRest (domain_after d us) e → IsAtRest (domain_after first (us ++ ms)) e
  rest-on [] e r = record { seat = r.seat ∙ now.seat; own = r.own ∙ now.own; mappings = r.mappings ∙ now.mappings }
  rest-on (Call u ∷ us) e r = r
  rest-on (OnFlag x ∷ us) e r = r
  rest-on (Look x ∷ us) e r = r

  pub run_actions-on : (b : Board) (c : Config) (may : AllowRelation) (us : List DomainAct) → AreDeeds b c may first ms → AreDeeds b c may d us → AreDeeds b c may first (us ++ ms)
  run_actions-on b c may [] made x = made
  run_actions-on b c may (Call u ∷ us) made x = (x.0, rest-on us u.old x.1, run_actions-on b c may us made x.2)
  run_actions-on b c may (OnFlag f ∷ us) made x = (x.0, rest-on us f.old x.1, run_actions-on b c may us made x.2)
  run_actions-on b c may (Look f ∷ us) made x = (x.0, rest-on us f.old x.1, run_actions-on b c may us made x.2)
