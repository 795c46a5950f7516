-- The bytes that a step accesses, and when two steps conflict.
use Rattle.std.specs.Prelude.{◌≡◌, ◌⊎◌, ◌≤◌, ◌<◌, ◌+◌, ℕ, Option, Some, None}
use Rattle.gt_model.specs.declared.action.Step.{Step}
use Rattle.gt_model.specs.declared.action.Step.TheVariants as call_steps
use Rattle.gt_explore_races.specs.declared.accesses.FrameBytes.{FrameBytes}

-- the bytes that a step reads
abbrev pub bytes_read : Step → Option FrameBytes
bytes_read (call_steps.Read dom frame off len) =
    Some (record { owner = dom; frame = frame; off = off; len = len })
bytes_read (call_steps.Copy from to len) =
    Some (record { owner = from.frame.owner; frame = from.frame.number; off = from.off; len = len })
bytes_read step = None

-- the bytes that a step writes
abbrev pub bytes_written : Step → Option FrameBytes
bytes_written (call_steps.Write dom frame off len) =
    Some (record { owner = dom; frame = frame; off = off; len = len })
bytes_written (call_steps.Copy from to len) =
    Some (record { owner = to.frame.owner; frame = to.frame.number; off = to.off; len = len })
bytes_written step = None

-- this byte of a frame of domain t is one of these
abbrev pub HasByte : Option FrameBytes → ℕ → ℕ → ℕ → Type 0
HasByte None t f byte = ⊥
HasByte (Some b) t f byte = (b.owner.0 ≡ t) × (b.frame ≡ f) × (b.off ≤ byte) × (byte < b.off + b.len)

-- both have some byte
abbrev pub ShareByte : Option FrameBytes → Option FrameBytes → Type 0
ShareByte one other = (t : ℕ) × (f : ℕ) × (byte : ℕ) × HasByte one t f byte × HasByte other t f byte

-- two steps access a common byte, and at least one of them writes it
abbrev pub Conflict : Step → Step → Type 0
Conflict y z =
    ShareByte (bytes_written y) (bytes_written z)
    ⊎ (ShareByte (bytes_written y) (bytes_read z) ⊎ ShareByte (bytes_read y) (bytes_written z))
