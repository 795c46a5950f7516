-- How a handle lends its domain.
use Rattle.std.specs.Prelude.{Bool, false, not, Option, Some, None, is_some}
use Rattle.std.specs.Borrow.{MutBor, Fml, Lends}
use Rattle.gt_c.specs.declared.c_domain.CDomain.{CDomain}
use Rattle.gt_c.specs.declared.held.RawBox.{RawBox}
use Rattle.gt_c.specs.contracts.c_domain.CDomain.{the_row as c_domain_row}
use Rattle.gt_c.specs.contracts.held.RawBox.{the_row as held_row}

-- there is a domain, and it is in no copy
abbrev pub can_be_called : Option CDomain → Bool
can_be_called None = false
can_be_called (Some d) = not (is_some d.attached.copying)

-- the handle with this domain
abbrev pub with_c_domain : RawBox → CDomain → RawBox
with_c_domain h d = record h { value = Some d }

-- the handle ends with the last value of the lent domain
abbrev pub LendsCDomain : MutBor RawBox → MutBor CDomain → Fml
LendsCDomain s r = Lends held_row c_domain_row s r (with_c_domain s.now)
