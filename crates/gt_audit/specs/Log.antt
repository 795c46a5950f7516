-- What a token of the shared log shows.
use Rattle.std.specs.Prelude.{◌≡◌, ℕ}
use Rattle.boxcar.specs.Table.{Shows}
use Rattle.gt_types.specs.declared.DomId.{DomId}
use Rattle.gt_audit.specs.declared.record.Record.{Record}
use Rattle.gt_audit.specs.declared.shared.SharedLog.{SharedLog}
use Rattle.gt_audit.specs.declared.shared.Pushed.{Pushed}

-- the token belongs to this log
abbrev pub IsIn : SharedLog → Pushed → Type 0
IsIn log p = Shows log.entries p.token

-- the record that the token was returned for
abbrev pub pushed_record : Pushed → Record
pushed_record p = p.token.value.recorded

-- the number that the record was pushed under, and the record
abbrev pub numbered_of : Pushed → ℕ × Record
numbered_of p = (p.token.value.number, p.token.value.recorded)

-- the token belongs to this log, and its record was pushed for this domain
abbrev pub IsPushedBy : SharedLog → DomId → Pushed → Type 0
IsPushedBy log d p = IsIn log p × (p.token.value.dom ≡ d)

-- the token was returned for this record, pushed for this domain under this number
pub record IsFor (p : Pushed) (by : DomId) (count : ℕ) (r : Record) : Type 0 where
  pub dom : p.token.value.dom ≡ by
  pub number : p.token.value.number ≡ count
  pub recorded : pushed_record p ≡ r
