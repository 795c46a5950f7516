-- The records that were pushed, and those that were lost.
use Rattle.std.specs.Prelude.{◌≡◌, ℕ, ◌+◌, ◌-◌, ◌^◌, ◌<◌, ◌≤◌, min, ◌⊎◌, List, [], ◌∷◌, ◌++◌, length}
use Rattle.gt_types.specs.declared.DomId.{DomId}
use Rattle.gt_audit.specs.declared.record.Record.{Record}

-- the records that are kept, in order; the number of lost ones; the bound; the number of further records that there
-- is room for
pub record TrailState : Type 0 where
  pub records : List Record
  pub lost : ℕ
  pub most : ℕ
  pub room : ℕ

-- nothing was pushed yet
abbrev pub silent : TrailState
silent = record { records = []; lost = 0; most = 2 ^ 64 - 1; room = 0 }

-- there is no record, and none was lost
abbrev pub HasNone : TrailState → Type 0
HasNone t = (t.records ≡ []) × (t.lost ≡ 0)

-- the trail has room for as many records as it had, and for as many more as it had room for
abbrev pub KeepsRoom : TrailState → TrailState → Type 0
KeepsRoom old new = length old.records + old.room ≤ new.room

-- what was taken of a trail and what is left of it are together all that it had
pub record ArePartsOf (whole taken left : TrailState) : Type 0 where
  pub records : taken.records ++ left.records ≡ whole.records
  pub lost : taken.lost + left.lost ≡ whole.lost

-- one more is lost; the count stops at 2^64 - 1
abbrev pub one_more_lost : ℕ → ℕ
one_more_lost lost = min (lost + 1) (2 ^ 64 - 1)

-- the record is appended
abbrev pub IsRecordAppended : TrailState → Record → TrailState → Type 0
IsRecordAppended old r new = (new.records ≡ old.records ++ r ∷ []) × (new.lost ≡ old.lost)

-- the record is lost, and the others stay
abbrev pub IsLost : TrailState → TrailState → Type 0
IsLost old new = (new.records ≡ old.records) × (new.lost ≡ one_more_lost old.lost)

-- the record is appended, or it is lost and the others stay; it is lost at the bound; it is appended if there is room
-- and the trail is below its bound
pub record AppendsRecord (old : TrailState) (r : Record) (new : TrailState) : Type 0 where
  pub recorded : IsRecordAppended old r new ⊎ IsLost old new
  pub full : old.most ≤ length old.records → IsLost old new
  pub kept : length old.records < old.most → 1 ≤ old.room → IsRecordAppended old r new
  pub most : new.most ≡ old.most
  pub room : old.room ≤ new.room + 1

-- the records that a domain pushed into a shared log, each with its number, in order, and the number of lost ones
pub record Account : Type 0 where
  pub dom : DomId
  pub recorded : List (ℕ × Record)
  pub lost : ℕ

-- the domain has pushed nothing yet
abbrev pub empty_account : DomId → Account
empty_account d = record { dom = d; recorded = []; lost = 0 }

-- the record is appended under its number, or it is lost and the others stay
abbrev pub AppendsNumbered : Account → ℕ → Record → Account → Type 0
AppendsNumbered old number r new =
    (new.dom ≡ old.dom)
    × (((new.recorded ≡ old.recorded ++ (number, r) ∷ []) × (new.lost ≡ old.lost))
    ⊎ ((new.recorded ≡ old.recorded) × (new.lost ≡ one_more_lost old.lost)))
