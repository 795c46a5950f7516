-- Which requests are probes.
use Rattle.gt_calls.specs.Prelude.{OpenRequest, Probe}

-- the request is a probe
abbrev pub IsProbe : OpenRequest → Type 0
IsProbe (Probe c) = Unit {0}
IsProbe request = ⊥
