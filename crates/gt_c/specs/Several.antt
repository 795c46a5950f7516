-- Several maps in one call, for C.
use Rattle.std.specs.Prelude.{◌≡◌, ◌≢◌, ◌⊎◌, ℕ, List, length, map, Result, Ok, Err}
use Rattle.gt_attached.specs.Several.{MapsAllOrNone, without_handle}
use Rattle.gt_attached.specs.declared.answer.AttachedOutcome.TheVariants as outcomes
use Rattle.gt_attached.specs.declared.answer.RefusedMap.{RefusedMap}
use Rattle.gt_attached.specs.declared.several.MapRequest.{MapRequest}
use Rattle.gt_c.specs.Prelude.{AttachedOutcome, CDomain, DomId, EncodedAnswer, StaysIdle, encoded, may}
use Rattle.gt_c.specs.declared.mappings.MapHandle.{MapHandle}

-- the name of the mapping of a request, which this domain has in this run
abbrev pub named_each : DomId → ℕ → MapRequest → MapHandle
named_each dom run r = record { serial = r.serial; key = r.key; run = run; dom = dom.0 }

-- the result of maps for this many requests
abbrev pub outcome_each : ℕ → Result (Unit {0}) RefusedMap → AttachedOutcome
outcome_each count (Ok done) = outcomes.MappedAll count
outcome_each count (Err refused) = outcomes.RefusedAt refused

-- the names after the maps: those of the requests' mappings, or what they were
abbrev pub names_after : Result (Unit {0}) RefusedMap → DomId → ℕ → List MapRequest → List MapHandle → List MapHandle
names_after (Ok done) dom run rs old = map (named_each dom run) rs
names_after (Err refused) dom run rs old = old

-- what a call passes and leaves: the requests and the names, before and after
pub record Passed : Type 0 where
  pub requests : List MapRequest
  pub requests_left : List MapRequest
  pub names : List MapHandle
  pub names_left : List MapHandle

-- requests and names are unchanged
abbrev pub AreUnchanged : Passed → Type 0
AreUnchanged p = (p.requests_left ≡ p.requests) × (p.names_left ≡ p.names)

-- the map of each request was made, or none remains, and the answer encodes the result; each mapping has its name, and the
-- requests ask for what they asked
pub record EncodesMaps (p : Passed) (answer : EncodedAnswer) (d e : CDomain) : Type 0 where
  pub result : Result (Unit {0}) RefusedMap
  pub encodes : answer ≡ encoded (outcome_each (length p.requests_left) result)
  pub stays : StaysIdle d.attached e.attached
  pub maps : MapsAllOrNone may d.attached.monitor d.attached.domain p.requests_left result e.attached.domain
  pub names : p.names_left ≡ names_after result d.attached.domain.seat.dom d.run p.requests_left p.names
  pub asked : map without_handle p.requests_left ≡ map without_handle p.requests

-- there are not as many names as requests, so nothing was done
abbrev pub LacksNames : Passed → EncodedAnswer → CDomain → CDomain → Type 0
LacksNames p answer d e =
    (length p.names ≢ length p.requests) × AreUnchanged p × (answer ≡ encoded outcomes.Absent) × (e ≡ d)

-- the maps were made, or there are not as many names as requests
abbrev pub MapsNamed : Passed → EncodedAnswer → CDomain → CDomain → Type 0
MapsNamed p answer d e = LacksNames p answer d e ⊎ EncodesMaps p answer d e
