-- Each frame of a run has its slot, and begins as zeros.
use Rattle.std.proofs.Common.{◌≡◌, ℕ, zero, suc, ◌+◌, ◌-◌, ◌*◌, ◌<◌, ◌≤◌, List, [], ◌∷◌, ◌++◌, map, length, get_or, sym, refl}
use Rattle.std.proofs.Common.{ap, ◌∙◌, arith, All}
use Rattle.std.specs.Prelude.{Some}
use mathlib.Core.Option.{some, some-injective, some-ne-none}
use lib.ListN.{get_elem?}
use Rattle.std.specs.List.{flat_map, range_with_len}
use Rattle.gt_frames.specs.Frames.{FrameState}
use Rattle.gt_frames.specs.Places.{frame_counts, frames_of}
use Rattle.gt_frames.specs.Sets.{zero_frames, zero_in}
use Rattle.gt_frames.specs.declared.places.FrameCount.{FrameCount}
use Rattle.gt_types.specs.declared.DomId.{DomId}
use Rattle.gt_types.specs.declared.config.DomainConfig.{DomainConfig}
use Rattle.gt_word_history.specs.Rule.{id_at}
use Rattle.gt_shared_table.specs.Rule.{Cell, FrameAt, frame_of_owner, names_from}
use Rattle.gt_shared_table.specs.Words.{first_slots}

abbrev row : ℕ → ℕ → ℕ → List FrameAt → List FrameAt
row t f n xs = map (frame_of_owner t) (range_with_len f n) ++ xs

in_row : (t a n f : ℕ) (xs : List FrameAt) → f < n → get_elem? (row t a n xs) f ≡ some (t, a + f)
in_row t a zero f xs l = absurd (omega arith)
in_row t a (suc n) zero xs l = ap (λ (i : ℕ). some (t, i)) (let e : a ≡ a + 0 = omega arith in e)
in_row t a (suc n) (suc f) xs l = in_row t (a + 1) n f xs (omega arith) ∙ ap (λ (i : ℕ). some (t, i)) (let e : a + 1 + f ≡ a + suc f = omega arith in e)

past_row : (t a n m : ℕ) (xs : List FrameAt) → get_elem? (row t a n xs) (n + m) ≡ get_elem? xs m
past_row t a zero m xs = ap (get_elem? xs) (let e : 0 + m ≡ m = omega arith in e)
past_row t a (suc n) m xs = ap (get_elem? (row t a (suc n) xs)) (let e : suc n + m ≡ suc (n + m) = omega arith in e) ∙ past_row t (a + 1) n m xs

not_below : (at : ℕ) (ds : List DomainConfig) (i : ℕ) → i < length ds → at ≤ get_or (first_slots at ds) i 0
not_below at [] i l = absurd (omega arith)
not_below at (d ∷ ds) zero l = omega arith
not_below at (d ∷ ds) (suc i) l = let r = not_below (at + d.frames) ds i (omega arith) in omega arith

-- the frame f of the domain i is in its slot
pub placed : (t at : ℕ) (ds : List DomainConfig) (i f k : ℕ) → i < length ds → f < get_or (map (λ d. d.frames) ds) i 0
    → get_or (first_slots at ds) i 0 ≡ at + k → get_elem? (names_from t ds) (k + f) ≡ some (t + i, f)
placed t at [] i f k l in_it e = absurd (omega arith)
placed t at (d ∷ ds) zero f k l in_it e =
    ap (get_elem? (names_from t (d ∷ ds))) (let q : k + f ≡ f = omega arith in q) ∙ in_row t 0 d.frames f (names_from (t + 1) ds) in_it
    ∙ (λ j. some ((let q : t ≡ t + 0 = omega arith in q) j, (let q : 0 + f ≡ f = omega arith in q) j))
placed t at (d ∷ ds) (suc i) f k l in_it e =
    let low = not_below (at + d.frames) ds i (omega arith) in
    let more : k ≡ d.frames + (k - d.frames) = omega arith in
    ap (get_elem? (names_from t (d ∷ ds))) (let q : k + f ≡ d.frames + (k - d.frames + f) = omega arith in q)
    ∙ past_row t 0 d.frames (k - d.frames + f) (names_from (t + 1) ds)
    ∙ placed (t + 1) (at + d.frames) ds i f (k - d.frames) (omega arith) in_it (let q : get_or (first_slots (at + d.frames) ds) i 0 ≡ at + d.frames + (k - d.frames) = omega arith in q)
    ∙ ap (λ (j : ℕ). some (j, f)) (let q : t + 1 + i ≡ t + suc i = omega arith in q)

row_len : (t a n : ℕ) (xs : List FrameAt) → length (row t a n xs) ≡ n + length xs
row_len t a zero xs = omega arith
row_len t a (suc n) xs = let r = row_len t (a + 1) n xs in omega arith

pub names_len : (t : ℕ) (ds : List DomainConfig) → length (names_from t ds) ≡ frames_of (frame_counts ds)
names_len t [] = refl
names_len t (d ∷ ds) = let r = row_len t 0 d.frames (names_from (t + 1) ds) in let s = names_len (t + 1) ds in omega arith

pub few_frames : (ds : List DomainConfig) → All (λ d. d.frames ≤ 64) ds → frames_of (frame_counts ds) ≤ 64 * length ds
few_frames [] all = omega arith
few_frames (d ∷ ds) all = let r = few_frames ds (λ i x l. all (suc i) x (omega arith)) in let s = all 0 d (omega arith) in omega arith

abbrev zero_of : List DomId → FrameAt → FrameState
zero_of ids n = record { owner = id_at ids n.0; number = n.1; journal = [] }

abbrev cells_of : List FrameState → List Cell
cells_of fs = map (λ f. Some f) fs

zeros_in_row : (ids : List DomId) (t a n : ℕ) (d : FrameCount) (xs : List FrameAt) (ys : List FrameState) → id_at ids t ≡ d.owner
    → ((q : ℕ) (m : FrameAt) → get_elem? xs q ≡ some m → get_elem? (cells_of ys) q ≡ some (Some (zero_of ids m)))
    → (q : ℕ) (m : FrameAt) → get_elem? (row t a n xs) q ≡ some m → get_elem? (cells_of (map (zero_in d) (range_with_len a n) ++ ys)) q ≡ some (Some (zero_of ids m))
zeros_in_row ids t a zero d xs ys own rest q m e = rest q m e
zeros_in_row ids t a (suc n) d xs ys own rest zero m e = ap (λ (o : DomId). some (Some (record { owner = o; number = a; journal = [] }))) (sym own) ∙ ap (λ (p : FrameAt). some (Some (zero_of ids p))) (some-injective (t, a) m e)
zeros_in_row ids t a (suc n) d xs ys own rest (suc q) m e = zeros_in_row ids t (a + 1) n d xs ys own rest q m e

-- the slot of each frame has its frame of zeros
pub zeros_at : (ids : List DomId) (t : ℕ) (ds : List DomainConfig) → ((j : ℕ) (d : DomainConfig) → get_elem? ds j ≡ some d → id_at ids (t + j) ≡ d.id)
    → (q : ℕ) (m : FrameAt) → get_elem? (names_from t ds) q ≡ some m → get_elem? (cells_of (flat_map zero_frames (frame_counts ds))) q ≡ some (Some (zero_of ids m))
zeros_at ids t [] own q m e = absurd (some-ne-none m (sym e))
zeros_at ids t (d ∷ ds) own q m e =
    zeros_in_row ids t 0 d.frames (record { owner = d.id; frames = d.frames }) (names_from (t + 1) ds) (flat_map zero_frames (frame_counts ds))
    (ap (id_at ids) (let z : t ≡ t + 0 = omega arith in z) ∙ own 0 d refl)
    (zeros_at ids (t + 1) ds (λ j x f. ap (id_at ids) (let z : t + 1 + j ≡ t + suc j = omega arith in z) ∙ own (suc j) x f))
    q m e

pub id_here : (ds : List DomainConfig) (j : ℕ) (d : DomainConfig) → get_elem? ds j ≡ some d → id_at (map (λ x. x.id) ds) j ≡ d.id
id_here [] j d e = absurd (some-ne-none d (sym e))
id_here (x ∷ xs) zero d e = ap (λ (y : DomainConfig). y.id) (some-injective x d e)
id_here (x ∷ xs) (suc j) d e = id_here xs j d e

pub slots_len : (at : ℕ) (ds : List DomainConfig) → length (first_slots at ds) ≡ length ds
slots_len at [] = refl
slots_len at (d ∷ ds) = ap suc (slots_len (at + d.frames) ds)
