-- The bytes of the frames that were written to.
use Rattle.std.specs.Prelude.{◌≡◌, ◌==◌, ◌&&◌, ◌-◌, ◌++◌, ℕ, Bool, List, [], ◌∷◌, length, replicate, if◌then◌else◌}
use Rattle.gt_types.specs.declared.limits.TheConstants.{FRAME_SIZE}
use Rattle.gt_model.specs.Written.{overlay}
use Rattle.gt_explore_state.specs.declared.pages.SparsePage.{SparsePage}

-- the page is of frame f of domain t
abbrev pub is_page_of : ℕ → ℕ → SparsePage → Bool
is_page_of t f p = (p.owner.0 == t) && (p.frame == f)

-- the bytes that the first page of a frame keeps, none if it has no page
abbrev pub kept_bytes : List SparsePage → ℕ → ℕ → List ℕ
kept_bytes [] t f = []
kept_bytes (p ∷ ps) t f = if is_page_of t f p then p.bytes.items else kept_bytes ps t f

-- the bytes of a frame: those that are kept, and zeros up to its end
unfoldable pub padded : List ℕ → List ℕ
padded bytes = bytes ++ replicate (FRAME_SIZE - length bytes) 0

-- the bytes of frame f of domain t
abbrev pub page_contents : List SparsePage → ℕ → ℕ → List ℕ
page_contents pages t f = padded (kept_bytes pages t f)

-- the pages after these bytes are written to frame f of domain t: that frame is overwritten with them, and all others
-- are unchanged
abbrev pub WritesPage : List SparsePage → List SparsePage → ℕ → ℕ → ℕ → List ℕ → Type 0
WritesPage old new t f off bytes =
    (u g : ℕ) → page_contents new u g
    ≡ (if (t == u) && (f == g) then overlay (page_contents old u g) off bytes else page_contents old u g)
