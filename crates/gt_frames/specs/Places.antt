-- Pool numbers: the positions of frames among all frames of a run.
use Rattle.std.specs.Prelude.{ℕ, ◌+◌, ◌==◌, Bool, ◌&&◌, nat_lt, if◌then◌else◌, List, [], ◌∷◌, map, Option, Some, None}
use Rattle.std.specs.List.{flat_map, range_with_len}
use Rattle.gt_types.specs.declared.DomId.{DomId}
use Rattle.gt_types.specs.declared.config.DomainConfig.{DomainConfig}
use Rattle.gt_frames.specs.declared.places.FrameCount.{FrameCount}
use Rattle.gt_types.specs.declared.places.FrameName.{FrameName}

-- the number of frames of each domain
abbrev pub frame_counts : List DomainConfig → List FrameCount
frame_counts ds = map (λ (d : DomainConfig). record { owner = d.id; frames = d.frames }) ds

-- the pool number of a frame, if the numbers of these domains' frames begin at `at`; they count the frames of the
-- first domain, then those of the second, and so on
abbrev pub pool_number : List FrameCount → DomId → ℕ → ℕ → Option ℕ
pool_number [] owner number at = None
pool_number (d ∷ ds) owner number at =
    if d.owner.0 == owner.0
    then (if nat_lt number d.frames then Some (at + number) else None)
    else pool_number ds owner number (at + d.frames)

-- the number of frames of these domains
abbrev pub frames_of : List FrameCount → ℕ
frames_of [] = 0
frames_of (d ∷ ds) = d.frames + frames_of ds

-- the frame of this domain with this number
abbrev pub name_in : FrameCount → ℕ → FrameName
name_in d number = record { owner = d.owner; number = number }

-- the frames of these domains, by name, in the order of their pool numbers
abbrev pub names_of : List FrameCount → List FrameName
names_of ds = flat_map (λ (d : FrameCount). map (name_in d) (range_with_len 0 d.frames)) ds

-- the names are the same
abbrev pub is_name : FrameName → FrameName → Bool
is_name a b = (a.owner.0 == b.owner.0) && (a.number == b.number)
