-- Entries that are invalid and still have pins: their owner uses them no more, and others do.
use Rattle.std.specs.Prelude.{◌≡◌, ◌⊎◌, ◌+◌, ◌≤◌, ◌&&◌, ℕ, zero, suc, Bool, true, false, Option, Some, None}
use Rattle.gt_types.specs.declared.GrantRef.{GrantRef}
use Rattle.gt_types.specs.declared.limits.TheConstants.{TABLE_ENTRIES}
use Rattle.gt_model.specs.declared.control.Control.{Control}
use Rattle.gt_model.specs.declared.control.EntryKind.TheVariants as kinds
use Rattle.gt_model.specs.Rules.{size_of}
use Rattle.gt_model.specs.Words.{is_kind}
use Rattle.gt_live.specs.Closing.{LooksAtOwn, has_pins}
use Rattle.gt_live.specs.Parts.{seat_of}
use Rattle.gt_live.specs.Prelude.{Layout, own_table}
use Rattle.gt_live.specs.declared.domain.Domain.{Domain}

-- the entry is invalid, and has pins of some kind
abbrev pub is_unused : Control → Bool
is_unused c = is_kind c.kind kinds.Invalid && has_pins c

-- one look at this entry of the domain found it, and whether it is unused; nothing else changed
abbrev pub LooksForPins : Layout → Domain → ℕ → Bool → Domain → Type 0
LooksForPins k d r unused e =
    (control : Control) × LooksAtOwn k d (record { 0 = r }) (Some control) e × (is_unused control ≡ unused)

-- looks at this many entries from this one on, one after another, found each of them, and none unused
abbrev pub PassesOver : Layout → Domain → ℕ → ℕ → Domain → Type 0
PassesOver k d from zero e = e ≡ d
PassesOver k d from (suc n) e = (c : Domain) × PassesOver k d from n c × LooksForPins k c (from + n) false e

-- the domain's table ends before this entry
abbrev pub IsPastTable : Domain → ℕ → Type 0
IsPastTable d r = (size_of (own_table (seat_of d).view) ≤ r) ⊎ (TABLE_ENTRIES ≤ r)

-- the first unused entry from this one on, by one look at each entry; none up to the end of the table
abbrev pub FindsUnused : Layout → Domain → ℕ → Option GrantRef → Domain → Type 0
FindsUnused k d from (Some gref) e =
    (n : ℕ) × (c : Domain) × PassesOver k d from n c × (gref.0 ≡ from + n) × LooksForPins k c gref.0 true e
FindsUnused k d from None e = (n : ℕ) × PassesOver k d from n e × IsPastTable e (from + n)
