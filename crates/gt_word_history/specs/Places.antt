-- What clauses see of the table and of its seats, and the views that seats begin with.
use Rattle.std.specs.Prelude.{◌≡◌, ℕ, ◌+◌, ◌*◌, ◌<◌, ◌≤◌, List, [], false}
use Rattle.gt_types.specs.declared.limits.TheConstants.{MAX_DOMAINS}
use Rattle.gt_word_history.specs.Prelude.{DOMAIN_WORDS, DomId, TABLE_ENTRIES, TableId, View}
use Rattle.gt_word_history.specs.declared.rule.EntryAt.{EntryAt}
use Rattle.gt_word_history.specs.declared.view.Outlook.{Outlook}
use Rattle.gt_word_history.specs.Rule.{Layout}

-- what clauses see of the table: its identity, the run that it serves, the number of frames that it has of each domain,
-- and the number of flags
pub record Board : Type 0 where
  pub table : TableId
  pub layout : Layout
  pub frames : List ℕ
  pub flags : ℕ

-- what clauses see of a seat of the table: its table, its view, and the frames whose locks it took, the last one first:
-- each by its owner's position and its number
pub record SeatAt : Type 0 where
  pub table : TableId
  pub view : View
  pub locks : List (ℕ × ℕ)

-- the table has the words of each domain, and at most MAX_DOMAINS domains
abbrev pub IsWide : ℕ → Layout → Type 0
IsWide words k = (k.domains * DOMAIN_WORDS ≤ words) × (k.domains ≤ MAX_DOMAINS)

-- the entry is one of a domain of the run
abbrev pub IsInside : Layout → EntryAt → Type 0
IsInside k e = (e.position < k.domains) × (e.gref < TABLE_ENTRIES)

-- the view of a seat that has made no step
abbrev pub new_view : ℕ → List ℕ → List DomId → ℕ → View
new_view g headers ids t =
    record { position = t; first = g; headers = headers; ids = ids; dealt = 1; steps = []; past = [] }

-- the view of the first seat of a run, at the start
abbrev pub first_view : Layout → View
first_view k = new_view k.first k.headers k.ids 0

-- the view of the dealer after it dealt a seat
abbrev pub dealer_after : View → View
dealer_after v = record v { dealt = v.dealt + 1 }

-- the view of the seat that was dealt, by that of the dealer before
abbrev pub dealt_to : View → View
dealt_to v = new_view v.first v.headers v.ids v.dealt

-- what the dealer knows after it, and what the seat knows that it dealt
abbrev pub dealing : Outlook → Outlook
dealing o = record o { own = dealer_after o.own }

abbrev pub dealt_outlook : Outlook → Outlook
dealt_outlook o = record { own = dealt_to o.own; taken = []; gone = false }

-- the same seat of the table, whatever it knows by now
abbrev pub IsSamePlace : SeatAt → SeatAt → Type 0
IsSamePlace s t =
    (t.table ≡ s.table) × (t.view.position ≡ s.view.position) × (t.view.first ≡ s.view.first)
    × (t.view.headers ≡ s.view.headers) × (t.view.ids ≡ s.view.ids)

-- the seat for the position i, which has made no step
pub record IsNewPlace (z : TableId) (k : Layout) (i : ℕ) (s : SeatAt) : Type 0 where
  pub table : s.table ≡ z
  pub position : s.view.position ≡ i
  pub first : s.view.first ≡ k.first
  pub headers : s.view.headers ≡ k.headers
  pub ids : s.view.ids ≡ k.ids
  pub steps : s.view.steps ≡ []
