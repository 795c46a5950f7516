-- Closing a table, resetting a domain and looking at an entry are deeds of a run.
use Rattle.std.specs.Prelude.{◌≡◌, ℕ, List, [], ◌∷◌, ◌++◌, Option, Some, None}
use Rattle.gt_types.specs.declared.GrantRef.{GrantRef}
use Rattle.gt_model.specs.declared.control.Control.{Control}
use Rattle.gt_model.specs.Words.{control_of}
use Rattle.gt_model.specs.declared.request.Request.TheVariants as requests
use Rattle.gt_live.specs.Closing.{Closes, LooksAtOwn, Resets}
use Rattle.gt_live.specs.Domains.{AllowRelation, BelongsTo}
use Rattle.gt_live.specs.declared.domain.Domain.{Domain}
use Rattle.gt_live.specs.declared.monitor.Monitor.{Monitor}
use Rattle.gt_linearization.specs.Leaving.{AreReleases}
use Rattle.gt_linearization.specs.Runs.{AreDeeds, DomainAct, IsAtRest, LookMade, domain_after}
use Rattle.gt_linearization.specs.Runs.DomainAct.{Call, Look, OnFlag}
use Rattle.gt_live.specs.Parts.{config_of, rights_of, words_of}

-- the domain d did these deeds, the last one first, and is then e, between two deeds
pub record LeadTo {P : Type 0} (may : P → AllowRelation) (m : Monitor P) (d : Domain) (run_actions : List DomainAct)
    (e : Domain) : Type 0 where
  pub made : AreDeeds (words_of m) (config_of m) (may (rights_of m)) d run_actions
  pub now : IsAtRest (domain_after d run_actions) e

-- each of these deeds is a withdrawal of an entry, or a look at one
abbrev pub AreClosing : List DomainAct → Type 0
AreClosing [] = Unit {0}
AreClosing (Call m ∷ ms) = ((gref : GrantRef) × (m.request ≡ requests.Withdraw gref)) × AreClosing ms
AreClosing (OnFlag x ∷ ms) = ⊥
AreClosing (Look x ∷ ms) = AreClosing ms

-- what `close` does is withdrawals and looks
abbrev pub ClosingIsWithdrawing : {P : Type 0} → (P → AllowRelation) → Monitor P → Type 0
ClosingIsWithdrawing may m =
    (d e : Domain) (left : ℕ) → BelongsTo may m d → Closes may m d left e
    → (run_actions : List DomainAct) × LeadTo may m d run_actions e × AreClosing run_actions

-- what `reset` does is releases, each Ok, and then withdrawals and looks
abbrev pub ResettingIsReleasing : {P : Type 0} → (P → AllowRelation) → Monitor P → Type 0
ResettingIsReleasing may m =
    (d e : Domain) (left : ℕ) → BelongsTo may m d → Resets may m d left e
    → (closing releases : List DomainAct)
    × LeadTo may m d (closing ++ releases) e × AreClosing closing × AreReleases releases

-- a look at this entry that found this control; none if there is no control
abbrev pub IsStatus : GrantRef → Option Control → List DomainAct → Type 0
IsStatus gref None run_actions = run_actions ≡ []
IsStatus gref (Some control) run_actions =
    (x : LookMade) × (run_actions ≡ Look x ∷ []) × (x.gref ≡ gref) × (control ≡ control_of x.word)

-- what `status` does is one look, or nothing
abbrev pub StatusIsLooking : {P : Type 0} → (P → AllowRelation) → Monitor P → Type 0
StatusIsLooking may m =
    (d e : Domain) (gref : GrantRef) (found : Option Control) → BelongsTo may m d
    → LooksAtOwn (words_of m).layout d gref found e
    → (run_actions : List DomainAct) × LeadTo may m d run_actions e × IsStatus gref found run_actions
