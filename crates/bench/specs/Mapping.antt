-- The conditions on a mapper and its entry.
use Rattle.std.specs.Prelude.{◌≡◌, ◌≢◌, ◌⊎◌, ℕ, ◌<◌, ◌≤◌}
use Rattle.gt_model.specs.declared.entry.Entry.TheVariants.{Invalid}
use Rattle.gt_types.specs.declared.Dir.TheVariants.{Read}
use Rattle.gt_types.specs.declared.DomId.{DomId}
use Rattle.gt_types.specs.declared.GrantRef.{GrantRef}
use Rattle.gt_types.specs.declared.limits.TheConstants.{TABLE_ENTRIES}
use Rattle.gt_words.specs.Conditions.{Board, IsEntryOf, IsSameSeat, IsSeatOf, SeatOf}
use Rattle.gt_word_history.specs.Controls.{ForwardsPin, LeadsTo}
use Rattle.gt_word_history.specs.Rule.{Layout, id_at, position_in}
use Rattle.gt_word_history.specs.Views.{IsAmong, LivePin, last_of, live_pins, steps_on}
use Rattle.gt_word_history.specs.declared.view.View.{View}
use Rattle.bench.specs.declared.words.mapper.Target.{Target}
use Rattle.bench.specs.declared.words.owner.Row.{Row}

-- the seat has published no entry at reference n or beyond
abbrev pub IsUnusedFrom : ℕ → View → Type 0
IsUnusedFrom n v = (r : ℕ) → n ≤ r → last_of r v ≡ record { generation = 0; entry = Invalid }

-- the seat is one of these words', and the row is its knowledge of its entry, which is in its table
abbrev pub Owns : Board → SeatOf → GrantRef → Row → Type 0
Owns b s q row =
    IsSeatOf b s × (q.0 < TABLE_ENTRIES)
    × (last_of q.0 s.view ≡ record { generation = row.generation; entry = row.entry })

-- the seat stays the same, and the row is then its knowledge
abbrev pub OwnsStill : SeatOf → SeatOf → GrantRef → Row → Type 0
OwnsStill s s' q row =
    IsSameSeat s s' × (last_of q.0 s'.view ≡ record { generation = row.generation; entry = row.entry })

-- the view has a read pin of a transitive entry of the domain m, which differs from t; the entry forwarded the seat's
-- domain and leads to the entry r of the domain t (after grant_table.h, transitive)
pub record KeepsVia (k : Layout) (t r : ℕ) (m : DomId) (v : View) : Type 0 where
  pub owner : ℕ
  pub reference : ℕ
  pub via : LivePin
  pub held : IsAmong via (live_pins (steps_on owner reference v))
  pub same_kind : via.0 ≡ Read
  pub forwarded : ForwardsPin via.1.entry (id_at k.ids v.position) Read
  pub leads : LeadsTo via.1.entry (id_at k.ids t) r
  pub named : id_at k.ids owner ≡ m
  pub apart : t ≢ owner

-- the target names the seat's own domain, or one whose transitive entry to the target is kept pinned (after
-- grant_table.h, transitive)
abbrev pub MayMap : Board → Target → View → Type 0
MayMap b x v =
    (id_at b.layout.ids v.position ≡ x.named)
    ⊎ KeepsVia b.layout (position_in b.layout.ids x.granter) x.gref.0 x.named v

-- the seat has the pins that it had, except for those of entries of the domain t
abbrev pub KeepsPinsBeyond : ℕ → View → View → Type 0
KeepsPinsBeyond t v w = (t' r' : ℕ) → t ≢ t' → live_pins (steps_on t' r' w) ≡ live_pins (steps_on t' r' v)

-- the seat can map the target
pub record CanMap (b : Board) (s : SeatOf) (x : Target) : Type 0 where
  pub seat : IsSeatOf b s
  pub entry : IsEntryOf b x.granter x.gref
  pub may : MayMap b x s.view
