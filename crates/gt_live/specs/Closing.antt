-- How a domain closes its table, and what a look at one of its entries finds.
use Rattle.std.specs.Prelude.{◌≡◌, ◌⊎◌, ◌<◌, ◌≤◌, ℕ, zero, suc, Bool, true, nat_lt, not, ◌||◌, List, [], ◌∷◌, length}
use Rattle.std.specs.Prelude.{count_by, HoldsAt, Option, Some, None, Result, Ok, Err, slice_get}
use Rattle.gt_model.specs.declared.control.Control.{Control}
use Rattle.gt_model.specs.declared.control.EntryKind.TheVariants as kinds
use Rattle.gt_model.specs.Rules.{size_of}
use Rattle.gt_handles.specs.Handles.{IsEmpty}
use Rattle.gt_live.specs.Prelude.{Denial, Domain, GrantRef, Handle, Invalid, IsSameSeat, Layout, LookControl, Moment}
use Rattle.gt_live.specs.Prelude.{Monitor, TABLE_ENTRIES, View, Withdraw, Word, control_of, entry_in, is_kind}
use Rattle.gt_live.specs.Prelude.{own_table}
use Rattle.gt_live.specs.Domains.{AllowRelation, BelongsTo, IsUnsettled, KeepsPinned, Released, StaysIn}
use Rattle.gt_live.specs.Following.{Calls, own_entry_at}
use Rattle.gt_live.specs.Walks.{Made, view_after}

-- the view w is the view v with some more steps
abbrev pub GoesOn : View → View → Type 0
GoesOn v w = (steps : List Moment) × (w ≡ view_after steps v)

-- the domain continues with the seat, mappings, pins and records that it had
pub record StaysQuiet (d e : Domain) : Type 0 where
  pub seat : IsSameSeat d.seat e.seat
  pub pinned : KeepsPinned d e
  pub trail : e.trail ≡ d.trail
  pub goes_on : GoesOn d.seat.view e.seat.view

-- a control with pins, of either kind
abbrev pub has_pins : Control → Bool
has_pins c = nat_lt 0 c.reads || nat_lt 0 c.writes

-- the control of an entry that is in use: the entry is valid, or has pins
abbrev pub is_used : Control → Bool
is_used c = not (is_kind c.kind kinds.Invalid) || has_pins c

-- the control word is of an entry that is in use
abbrev pub is_in_use : ℕ → Bool
is_in_use word = is_used (control_of word)

-- a withdrawal of one of the domain's entries was asked for and had this result, and nothing else was done
abbrev pub AsksWithdrawal : {P : Type 0} → (P → AllowRelation) → Monitor P → Domain → GrantRef
    → Result (Unit {0}) Denial → Domain → Type 0
AsksWithdrawal may m d gref result e = StaysIn may m d e × Calls may m d gref Withdraw result e

-- this many withdrawals of an entry were asked for, one after another, and each was refused
abbrev pub AreRefused : {P : Type 0} → (P → AllowRelation) → Monitor P → Domain → GrantRef → ℕ → Domain → Type 0
AreRefused may m d gref zero e = e ≡ d
AreRefused may m d gref (suc n) e =
    (c : Domain) × (denial : Denial) × AreRefused may m d gref n c × AsksWithdrawal may m c gref (Err denial) e

-- the number of times that the withdrawal of an entry is asked for, with up to four tries each
abbrev pub most_withdrawals : ℕ
most_withdrawals = 16

-- an entry was withdrawn, after fewer withdrawals of it than the most were refused
pub record IsWithdrawn {P : Type 0} (may : P → AllowRelation) (m : Monitor P) (d : Domain) (gref : GrantRef)
    (e : Domain) : Type 0 where
  pub refusals : ℕ
  pub few : refusals < most_withdrawals
  pub before : Domain
  pub refused : AreRefused may m d gref refusals before
  pub granted : AsksWithdrawal may m before gref (Ok tt) e

-- an entry was shut: it was Invalid and nothing was done, or it was withdrawn, or the most withdrawals were refused
abbrev pub ShutsRow : {P : Type 0} → (P → AllowRelation) → Monitor P → Domain → GrantRef → Domain → Type 0
ShutsRow may m d gref e =
    ((own_entry_at d gref ≡ Invalid) × (e ≡ d))
    ⊎ (IsWithdrawn may m d gref e ⊎ AreRefused may m d gref most_withdrawals e)

-- an entry was closed: it was shut, a look at it then found this word, and nothing else was done; the other entries are
-- as they were
pub record ClosesRow {P : Type 0} (may : P → AllowRelation) (m : Monitor P) (d : Domain) (gref : GrantRef) (word : ℕ)
    (e : Domain) : Type 0 where
  pub between : Domain
  pub shut : ShutsRow may m d gref between
  pub look : Made m.words.layout (LookControl d.seat.dom gref) (Word word) between.seat.view e.seat.view
  pub kept : IsUnsettled between e
  pub others : (q : ℕ) → (gref.0 ≡ q → ⊥) → slice_get e.own.items q ≡ slice_get d.own.items q

-- the entries from this one on were closed, one after another, and looks at them found these words; nothing else was done
abbrev pub ClosesRows : {P : Type 0} → (P → AllowRelation) → Monitor P → Domain → ℕ → List ℕ → Domain → Type 0
ClosesRows may m d r [] e = e ≡ d
ClosesRows may m d r (word ∷ words) e =
    (c : Domain) × ClosesRow may m d (record { 0 = r }) word c × ClosesRows may m c (suc r) words e

-- the domain's entry is Invalid, or this word shows it as in use
abbrev pub IsInvalidOrInUse : Domain → ℕ → ℕ → Type 0
IsInvalidOrInUse e r word = (entry_in e.own.items r ≡ Invalid) ⊎ (is_in_use word ≡ true)

-- each entry of the domain was closed, and nothing else was done; left of the entries are still in use: by the words
-- that were found, they have pins or could not be withdrawn
pub record Closes {P : Type 0} (may : P → AllowRelation) (m : Monitor P) (d : Domain) (left : ℕ) (e : Domain)
    : Type 0 where
  pub words : List ℕ
  pub all : length words ≡ TABLE_ENTRIES
  pub left_is : left ≡ count_by is_in_use words
  pub rows : ClosesRows may m d 0 words e
  pub counted : (r : ℕ) → r < TABLE_ENTRIES → HoldsAt (IsInvalidOrInUse e r) words r

-- the domain released each of its mappings, and then each of its entries was closed, of which left are still in use;
-- nothing else was done
pub record Resets {P : Type 0} (may : P → AllowRelation) (m : Monitor P) (d : Domain) (left : ℕ) (e : Domain)
    : Type 0 where
  pub between : Domain
  pub mine : BelongsTo may m between
  pub seat : IsSameSeat d.seat between.seat
  pub handles : List Handle
  pub released : Released m.words.layout handles d.mappings d.seat.view between.mappings between.seat.view
  pub trail : between.trail ≡ d.trail
  pub quiet : StaysQuiet between e
  pub closes : Closes may m between left e
  pub none : IsEmpty e.mappings

-- a look at one of the domain's entries found this control word, and nothing else changed; no look was made if its
-- table has no such entry
abbrev pub LooksAtOwn : Layout → Domain → GrantRef → Option Control → Domain → Type 0
LooksAtOwn k d gref None e = (size_of (own_table d.seat.view) ≤ gref.0) × (e ≡ d)
LooksAtOwn k d gref (Some control) e =
    (gref.0 < size_of (own_table d.seat.view)) × IsUnsettled d e
    × ((word : ℕ) × Made k (LookControl d.seat.dom gref) (Word word) d.seat.view e.seat.view × (control ≡ control_of word))
