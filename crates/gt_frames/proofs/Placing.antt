-- The pool numbers of frames.
use Rattle.std.proofs.Common.{◌≡◌, ℕ, ◌+◌, ◌<◌, ◌==◌, nat_lt, Bool, true, false, cond, List, [], ◌∷◌, map, length}
use Rattle.std.proofs.Common.{get_or, Some, None, refl, sym, ◌∙◌, ap, arith, length-append}
use Rattle.std.specs.List.{range_with_len}
use Rattle.std.proofs.lemmas.Bool.{eqb-true, ltb-true}
use Rattle.std.proofs.lemmas.Option.{same_Some, none-some}
use Rattle.std.proofs.lemmas.List.{get_or_append_left, get_or-append-add}
use Rattle.std.proofs.lemmas.List.FromFn.{length-map-range_with_len, get_or-map-range_with_len}
use Rattle.gt_frames.specs.declared.places.FrameCount.{FrameCount}
use Rattle.gt_types.specs.declared.places.FrameName.{FrameName}
use Rattle.gt_frames.specs.Places.{pool_number, frames_of, name_in, names_of}

-- as many names as frames
pub length-names_of : (ds : List FrameCount) → length (names_of ds) ≡ frames_of ds
length-names_of [] = refl
length-names_of (d ∷ ds) =
    omega (arith, length-append (map (name_in d) (range_with_len 0 d.frames)) (names_of ds), length-map-range_with_len (name_in d) 0 d.frames, length-names_of ds)

-- the name at position `way` among the names of these domains
pub record StandsAt (ds : List FrameCount) (name : FrameName) (way : ℕ) : Type 0 where
  pub below : way < length (names_of ds)
  pub named : (default : FrameName) → get_or (names_of ds) way default ≡ name

pub record IsPlaced (ds : List FrameCount) (name : FrameName) (at place : ℕ) : Type 0 where
  pub way : ℕ
  pub place_is : place ≡ at + way
  pub stands : StandsAt ds name way

module _ (d : FrameCount) (ds : List FrameCount) (name : FrameName) (at place : ℕ) where
  first : List FrameName
  first = map (name_in d) (range_with_len 0 d.frames)

  size : length first ≡ d.frames
  unfolding first
  size = length-map-range_with_len (name_in d) 0 d.frames

  all : length (names_of (d ∷ ds)) ≡ d.frames + length (names_of ds)
  all = omega (arith, length-append (map (name_in d) (range_with_len 0 d.frames)) (names_of ds), length-map-range_with_len (name_in d) 0 d.frames)

  here : d.owner.0 ≡ name.owner.0 → name.number < d.frames → place ≡ at + name.number → IsPlaced (d ∷ ds) name at place
  here owner within is =
      let same : name_in d name.number ≡ name = ap (λ (o : ℕ). record { owner = record { 0 = o }; number = name.number }) owner in
      let len = length-map-range_with_len (name_in d) 0 d.frames in
      let named : (default : FrameName) → get_or (names_of (d ∷ ds)) name.number default ≡ name = λ default.
      get_or_append_left (map (name_in d) (range_with_len 0 d.frames)) (names_of ds) default name.number (omega (arith, len))
      ∙ get_or-map-range_with_len (name_in d) 0 d.frames name.number name.number default within (omega arith)
      ∙ same in
      record { way = name.number; place_is = is; stands = record { below = omega (arith, all); named = named } }

  there : IsPlaced ds name (at + d.frames) place → IsPlaced (d ∷ ds) name at place
  there p =
      let len = length-map-range_with_len (name_in d) 0 d.frames in
      let named : (default : FrameName) → get_or (names_of (d ∷ ds)) (d.frames + p.way) default ≡ name = λ default.
      ap (λ (n : ℕ). get_or (names_of (d ∷ ds)) (n + p.way) default) (sym len)
      ∙ get_or-append-add (map (name_in d) (range_with_len 0 d.frames)) (names_of ds) p.way default
      ∙ p.stands.named default in
      let i = p.place_is in
      let b = p.stands.below in
      record { way = d.frames + p.way; place_is = omega arith; stands = record { below = omega (arith, all); named = named } }

  step :
      (owns within : Bool) → (d.owner.0 == name.owner.0) ≡ owns → nat_lt name.number d.frames ≡ within
      → cond owns (cond within (Some (at + name.number)) None) (pool_number ds name.owner name.number (at + d.frames)) ≡ Some place
      → (pool_number ds name.owner name.number (at + d.frames) ≡ Some place → IsPlaced ds name (at + d.frames) place)
      → IsPlaced (d ∷ ds) name at place
  step true true owner below is rest = here (eqb-true d.owner.0 name.owner.0 owner) (ltb-true name.number d.frames below) (sym (same_Some _ _ is))
  step true false owner below is rest = absurd (none-some place is)
  step false within owner below is rest = there (rest is)

-- the frame at a pool number has the name that was looked up
pub placed : (ds : List FrameCount) (name : FrameName) (at place : ℕ) → pool_number ds name.owner name.number at ≡ Some place → IsPlaced ds name at place
placed [] name at place is = absurd (none-some place is)
placed (d ∷ ds) name at place is =
    step d ds name at place (d.owner.0 == name.owner.0) (nat_lt name.number d.frames) refl refl is (placed ds name (at + d.frames) place)
