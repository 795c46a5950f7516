-- The knowledge of the tests' owner about its entry.
use Rattle.std.specs.Prelude.{◌≡◌, ℕ}
use Rattle.gt_model.specs.declared.entry.Entry.{Entry}
use Rattle.gt_words.specs.Conditions.{Board, HasDomain, IsSameSeat, IsSeatOf, SeatOf}
use Rattle.gt_word_history.specs.Views.{last_of}
use Rattle.gt_word_history.specs.declared.view.View.{View}

-- the view's last state of the owner's only entry, the first of its table, is this generation and entry
abbrev pub IsOnlyEntry : ℕ → Entry → View → Type 0
IsOnlyEntry generation entry v = last_of 0 v ≡ record { generation = generation; entry = entry }

-- the seat is one of these words', and has this knowledge of its entry
abbrev pub HasRow : Board → SeatOf → ℕ → Entry → Type 0
HasRow b s generation entry = IsSeatOf b s × IsOnlyEntry generation entry s.view

-- the seat stays the same, and then has this knowledge of its entry
abbrev pub HasRowStill : SeatOf → SeatOf → ℕ → Entry → Type 0
HasRowStill s s' generation entry = IsSameSeat s s' × IsOnlyEntry generation entry s'.view

-- a worked run begins: the run has domain 1, whose seat has this knowledge of its entry, and the other seat is of the
-- same words
pub record BeginsWorkedRun (b : Board) (owner other : SeatOf) (generation : ℕ) (entry : Entry) : Type 0 where
  pub domain : HasDomain b.layout (record { 0 = 1 })
  pub own : owner.dom ≡ record { 0 = 1 }
  pub owner_seat : IsSeatOf b owner
  pub row : IsOnlyEntry generation entry owner.view
  pub other_seat : IsSeatOf b other
