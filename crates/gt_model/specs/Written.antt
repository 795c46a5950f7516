-- Bytes laid over bytes.
use Rattle.std.specs.Prelude.{◌≡◌, ℕ, ◌+◌, ◌<◌, ◌≤◌, List, [], ◌∷◌, ◌++◌, take, drop, length, replicate, slice_index}
use Rattle.gt_types.specs.declared.limits.TheConstants.{FRAME_SIZE}

-- the list xs with ys laid over it, starting at off
abbrev pub overlay : List ℕ → ℕ → List ℕ → List ℕ
overlay xs off ys = take off xs ++ ys ++ drop (off + length ys) xs

-- zs has ys, starting at off, and elsewhere the bytes of xs: an overlay, byte by byte
pub record IsLaidOver (xs : List ℕ) (off : ℕ) (ys zs : List ℕ) : Type 0 where
  pub len : length zs ≡ length xs
  pub inside : (at : ℕ) → at < length ys → slice_index zs (off + at) ≡ slice_index ys at
  pub before : (at : ℕ) → at < off → slice_index zs at ≡ slice_index xs at
  pub after : (at : ℕ) → off + length ys ≤ at → slice_index zs at ≡ slice_index xs at

-- the bytes of a frame that was never written
unfoldable pub zeros : List ℕ
zeros = replicate FRAME_SIZE 0

-- a write: the offset of its first byte, and its bytes
pub record Patch : Type 0 where
  pub off : ℕ
  pub bytes : List ℕ

-- the list after these writes, the oldest first
abbrev pub replay : List ℕ → List Patch → List ℕ
replay xs [] = xs
replay xs (p ∷ ps) = replay (overlay xs p.off p.bytes) ps

-- the bytes of a frame to which these writes were made, the oldest first
abbrev pub written : List Patch → List ℕ
written ps = replay zeros ps
