-- The records that a domain pushes into the shared log.
use Rattle.std.specs.Prelude.{◌≡◌, ℕ, length, Option, None, Some, slice_get}
use Rattle.gt_audit.specs.Trails.{TrailState, AppendsNumbered}
use Rattle.gt_audit.specs.declared.record.Record.{Record}
use Rattle.gt_run.specs.declared.logging.TrailLogger.{TrailLogger}

-- the record that the trail has beyond those pushed, if it has one, is pushed under its index there; then `next` is the
-- number of the trail's records
abbrev pub LogsNext : Option Record → ℕ → TrailLogger → TrailLogger → Type 0
LogsNext None count old new = new ≡ old
LogsNext (Some r) count old new = AppendsNumbered old.log old.next r new.log × (new.next ≡ count)

-- the next record of the trail is pushed, if there is a log
abbrev pub LogsTrail : TrailState → Option TrailLogger → Option TrailLogger → Type 0
LogsTrail trail None new = new ≡ None
LogsTrail trail (Some t) new =
    (u : TrailLogger) × (new ≡ Some u) × LogsNext (slice_get trail.records t.next) (length trail.records) t u
