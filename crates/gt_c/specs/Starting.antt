-- The start of a run for C.
use Rattle.std.specs.Prelude.{◌≡◌, ◌≢◌, ◌⊎◌, ℕ, true, List, Option, Some, length, map}
use Rattle.std.specs.List.{list_any}
use Rattle.gt_c.specs.Prelude.{Begins, DomainSettings, EncodedFault, DomainHandle, CDomain, IsFaultOf, Seated, Table}
use Rattle.gt_c.specs.Prelude.{no_fault, wrong_handles}
use Rattle.gt_c.specs.Grantees.{unnoted}
use Rattle.gt_start.specs.Beginning.{IsLabelNamed, IsNameFault, IsNoLabel, IsPolicyMeaning}
use Rattle.gt_policy.specs.Allowing.{Meaning, type_named}
use Rattle.gt_c.specs.declared.beginning.NameReport.{NameReport}
use Rattle.gt_c.specs.declared.beginning.TypeReport.{TypeReport}

-- the domain of a handle, if it has one
abbrev pub domain_of_handle : DomainHandle → Option CDomain
domain_of_handle h = h.held.value

-- a domain of the run with this number, as a handle holds it: it has granted no entry
abbrev pub c_domain_of : ℕ → Seated Table → CDomain
c_domain_of run g = record { attached = g; run = run; granted = unnoted }

-- a handle has this domain
abbrev pub filled_handle : CDomain → Option CDomain
filled_handle d = Some d

-- the number of handles is not that of the domains, or one of the handles has a domain
abbrev pub AreWrong : List DomainSettings → List DomainHandle → Type 0
AreWrong settings handles =
    (length handles ≢ length settings) ⊎ (list_any (λ h. h.is_live) handles ≡ true)

-- a run with this number started, and the handle at each position has the domain at that position
pub record StartsRun (settings : List DomainSettings) (first_gen run : ℕ) (policy : List ℕ)
    (handles : List DomainHandle) : Type 0 where
  pub guests : List (Seated Table)
  pub begun : Begins settings first_gen policy guests
  pub handed : map domain_of_handle handles ≡ map (λ g. filled_handle (c_domain_of run g)) guests

-- why no run started: the handles are wrong; or they are right, and the text, a label or the configuration has a fault
abbrev pub IsFaultOfNewRun : List DomainSettings → ℕ → List ℕ → List DomainHandle → EncodedFault → Type 0
IsFaultOfNewRun settings first_gen policy handles fault =
    ((fault ≡ wrong_handles) × AreWrong settings handles)
    ⊎ ((¬ AreWrong settings handles) × IsFaultOf settings first_gen policy fault)

-- a run started; or none did, the fault gives the reason, and the handles are unchanged
abbrev pub StartsWith : List DomainSettings → ℕ → ℕ → List ℕ → EncodedFault → List DomainHandle → List DomainHandle → Type 0
StartsWith settings first_gen run policy fault old new =
    ((fault ≡ no_fault) × StartsRun settings first_gen run policy new)
    ⊎ ((new ≡ old) × IsFaultOfNewRun settings first_gen policy old fault)

-- the label of a type, if the policy's text declares a type of this name; otherwise 0 and the reason
abbrev pub ReportsType : List ℕ → List ℕ → TypeReport → Type 0
ReportsType policy name report =
    ((report.fault ≡ no_fault)
    × ((m : Meaning) × IsPolicyMeaning policy m × (type_named m.types name ≡ Some (record { 0 = report.label }))))
    ⊎ ((report.label ≡ 0) × IsNameFault policy name report.fault)

-- the length of the name of the type with this number, if the policy's text declares one, and as much of the name as fits
-- was written; otherwise 0 and the reason, and nothing was written
abbrev pub ReportsName : List ℕ → ℕ → NameReport → List ℕ → List ℕ → Type 0
ReportsName policy label report old new =
    ((report.fault ≡ no_fault) × IsLabelNamed policy label report.len old new)
    ⊎ ((report.len ≡ 0) × (new ≡ old) × IsNoLabel policy label report.fault)
