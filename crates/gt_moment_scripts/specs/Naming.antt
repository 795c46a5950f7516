-- The entries that a claim names.
use Rattle.std.specs.Prelude.{◌==◌, ◌&&◌, ◌++◌, ℕ, Bool, List, [], ◌∷◌, Option, Some, None, is_some, if◌then◌else◌}
use Rattle.std.specs.List.{list_any}
use Rattle.gt_types.specs.Names.{domain_of}
use Rattle.gt_types.specs.declared.DomId.{DomId}
use Rattle.gt_types.specs.declared.config.DomainConfig.{DomainConfig}
use Rattle.gt_state_claims.specs.Claims.{ClaimAsked}
use Rattle.gt_state_claims.specs.declared.terms.StateTerm.{StateTerm}
use Rattle.gt_moment_scripts.specs.declared.naming.NamedEntry.{NamedEntry}

-- an entry has this domain and this reference
abbrev pub is_same_entry : NamedEntry → DomId → ℕ → Bool
is_same_entry entry dom r = (entry.dom.0 == dom.0) && (entry.gref.0 == r)

-- these entries, and that of a term, once each
abbrev pub with_entry : List NamedEntry → StateTerm → List NamedEntry
with_entry entries term =
    if list_any (λ e. is_same_entry e term.dom term.gref.0) entries then entries
    else entries ++ record { dom = term.dom; gref = term.gref } ∷ []

abbrev pub terms_added : List NamedEntry → List StateTerm → List NamedEntry
terms_added entries [] = entries
terms_added entries (term ∷ terms) = terms_added (with_entry entries term) terms

abbrev pub entries_added : List NamedEntry → ClaimAsked → List NamedEntry
entries_added entries [] = entries
entries_added entries (terms ∷ choices) = entries_added (terms_added entries terms) choices

-- the entries that a claim names, once each, in the order in which each comes first
abbrev pub entries_named : ClaimAsked → List NamedEntry
entries_named claim = entries_added [] claim

-- the first domain of these entries that a run with these domains does not have
abbrev pub foreign_domain : List DomainConfig → List NamedEntry → Option DomId
foreign_domain domains [] = None
foreign_domain domains (entry ∷ entries) =
    if is_some (domain_of domains entry.dom) then foreign_domain domains entries else Some entry.dom
