-- The parts of a monitor and of a domain that contracts name.
use Rattle.gt_types.specs.declared.config.Config.{Config}
use Rattle.gt_audit.specs.Trails.{TrailState}
use Rattle.gt_live.specs.Prelude.{Board, CopyArgs, Departed, Domain, HandleMap, HeldPin, Monitor, PendingCopy, SeatOf}

-- the words of a monitor's run
abbrev pub words_of : {P : Type 0} → Monitor P → Board
words_of m = m.words

-- its configuration
abbrev pub config_of : {P : Type 0} → Monitor P → Config
config_of m = m.config

-- its policy
abbrev pub rights_of : {P : Type 0} → Monitor P → P
rights_of m = m.rights

-- the seat of a domain
abbrev pub seat_of : Domain → SeatOf
seat_of d = d.seat

-- its mappings, each under its handle
abbrev pub mappings_of : Domain → HandleMap HeldPin
mappings_of d = d.mappings

-- its records
abbrev pub trail_of : Domain → TrailState
trail_of d = d.trail

-- the domain with these records
abbrev pub with_trail : Domain → TrailState → Domain
with_trail d trail = record d { trail = trail }

-- the seat that a domain leaves behind
abbrev pub seat_left : Departed → SeatOf
seat_left l = l.seat

-- its records
abbrev pub trail_left : Departed → TrailState
trail_left l = l.trail

-- the copy that is at its access
abbrev pub copy_at_access : PendingCopy → CopyArgs
copy_at_access h = h.copy
