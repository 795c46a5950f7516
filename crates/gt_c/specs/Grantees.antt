-- To whom the entries of a domain were last granted.
use Rattle.std.specs.Prelude.{◌≡◌, ℕ, zero, suc, List, replicate, slice_index_or, slice_set}
use Rattle.gt_types.specs.declared.DomId.{DomId}
use Rattle.gt_types.specs.declared.GrantRef.{GrantRef}
use Rattle.gt_types.specs.declared.limits.TheConstants.{TABLE_ENTRIES}
use Rattle.gt_model.specs.declared.entry.Entry.{Entry}
use Rattle.gt_model.specs.declared.entry.Entry.TheVariants.{Invalid, Page, Sub, Via}
use Rattle.gt_live.specs.Following.{own_entry_at}
use Rattle.gt_c.specs.declared.c_domain.CDomain.{CDomain}

-- the number of no domain of a run
abbrev pub no_grantee : DomId
no_grantee = record { 0 = 65535 }

-- the list of a domain that has granted no entry
abbrev pub unnoted : List DomId
unnoted = replicate TABLE_ENTRIES no_grantee

-- the list after this entry was granted under this reference; an Invalid one is granted to no domain
abbrev pub noted : List DomId → ℕ → Entry → List DomId
noted list r Invalid = list
noted list r (Page dom ro frame) = slice_set list r dom
noted list r (Sub dom ro frame off len) = slice_set list r dom
noted list r (Via dom ro dom2 gref) = slice_set list r dom

-- the entry of this reference was noted, as the domain has it
abbrev pub noted_at : GrantRef → CDomain → CDomain
noted_at gref d = record d { granted = noted d.granted gref.0 (own_entry_at d.attached.domain gref) }

-- the domain's first n entries were noted, one after another
abbrev pub noted_first : ℕ → CDomain → CDomain
noted_first zero d = d
noted_first (suc n) d = noted_at (record { 0 = n }) (noted_first n d)

-- the domain to which this entry was last granted
abbrev pub grantee_of : CDomain → GrantRef → DomId
grantee_of d gref = slice_index_or d.granted gref.0 no_grantee

-- a call granted no entry
abbrev pub KeepsGrantees : CDomain → CDomain → Type 0
KeepsGrantees d e = e.granted ≡ d.granted

-- a call about this entry noted to whom the entry is then granted
abbrev pub NotesEntry : GrantRef → CDomain → CDomain → Type 0
NotesEntry gref d e = e.granted ≡ noted d.granted gref.0 (own_entry_at e.attached.domain gref)

-- the same for each entry that a table may have
abbrev pub NotesAll : CDomain → CDomain → Type 0
NotesAll d e = e.granted ≡ (noted_first TABLE_ENTRIES (record e { granted = d.granted })).granted
