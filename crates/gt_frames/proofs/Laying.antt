-- Frames at the pool numbers of their names.
use Rattle.std.proofs.Common.{◌≡◌, ◌≢◌, ℕ, zero, suc, ◌+◌, ◌<◌, ◌==◌, ◌⊎◌, inl, inr, true, false, IsTrue, List, [], ◌∷◌}
use Rattle.std.proofs.Common.{◌++◌, map, set, length, replicate, get_or, slice_get, unwrap_or, Option, Some, None, refl}
use Rattle.std.proofs.Common.{sym, ◌∙◌, ap, subst, arith, append_assoc}
use Rattle.std.specs.List.{range_with_len, flat_map}
use Rattle.std.specs.Option.{option_map}
use Rattle.std.specs.Prelude.{Result, Ok, Err, OnOk, OnErr}
use Rattle.std.proofs.lemmas.Result.{on_ok_weaker, on_err_weaker}
use Rattle.std.proofs.Math.Seq.{map-set_same}
use Rattle.std.proofs.lemmas.Bool.{eq-eqb, and_from, both_ways}
use Rattle.std.proofs.lemmas.List.{set-append_left, set-get_or, map-set, map-append, length-set, length-map}
use Rattle.std.proofs.lemmas.List.{length-replicate, replicate-append-replicate, get_or-set_same, get_or-set_other}
use Rattle.std.proofs.lemmas.List.FromFn.{map-range_with_len_more}
use Rattle.std.proofs.lemmas.Option.{slice_get-map, slice_get_read, slice_get-get_or, slice_get_within}
use Rattle.std.proofs.lemmas.Option.{get_or_from_slice_get, unwrap_or-slice_get, same_Some, none-some}
use Rattle.gt_types.specs.declared.DomId.{DomId}
use Rattle.gt_frames.specs.declared.places.FrameCount.{FrameCount}
use Rattle.gt_types.specs.declared.places.FrameName.{FrameName}
use Rattle.gt_frames.specs.declared.writ.Writ.{Writ}
use Rattle.gt_frames.specs.declared.writ.WriteRecord.{WriteRecord}
use Rattle.gt_frames.specs.Receipts.{Copying, copying_of}
use Rattle.gt_frames.specs.Frames.{FrameState, bytes_at, all_rightful, IsKept, IsWrite}
use Rattle.gt_frames.specs.Places.{pool_number, frames_of, name_in, names_of, is_name}
use Rattle.gt_frames.specs.Sets.{FrameSet, journal_in, place_in, frame_at, zero_in, zero_frame, zero_frames, name_of}
use Rattle.gt_frames.specs.Sets.{journal_of, AreLaidOut, AreKept, WritesTo, CopiesAmong}
use Rattle.gt_frames.proofs.Placing.{length-names_of, placed}

-- what contracts see of these frames
abbrev pub seen : List FrameCount → List FrameState → FrameSet
seen ds fs = record { domains = ds; journals = map journal_of fs }

-- an element of a list after one was set: the one set, or the one that was there
set_cases : {X : Type 0} (xs : List X) (k j : ℕ) (y x : X) → slice_get (set xs k y) j ≡ Some x → (slice_get xs j ≡ Some x) ⊎ (x ≡ y)
set_cases [] k j y x h = inl h
set_cases (z ∷ zs) zero zero y x h = inr (sym (same_Some y x h))
set_cases (z ∷ zs) zero (suc j) y x h = inl h
set_cases (z ∷ zs) (suc k) zero y x h = inl h
set_cases (z ∷ zs) (suc k) (suc j) y x h = set_cases zs k j y x h

-- two names with one pool number are the same
one_name : (ds : List FrameCount) (a b : FrameName) (place : ℕ) → pool_number ds a.owner a.number 0 ≡ Some place → pool_number ds b.owner b.number 0 ≡ Some place → a ≡ b
one_name ds a b place here there =
    let p = placed ds a 0 place here in
    let q = placed ds b 0 place there in
    let i = p.place_is in
    let j = q.place_is in
    let same : p.way ≡ q.way = omega arith in
    sym (p.stands.named a) ∙ ap (λ (n : ℕ). get_or (names_of ds) n a) same ∙ q.stands.named a

same_name : (a b : FrameName) → a ≡ b → is_name a b ≡ true
same_name a b e = and_from (a.owner.0 == b.owner.0) (a.number == b.number) (eq-eqb _ _ (ap (λ (n : FrameName). n.owner.0) e)) (eq-eqb _ _ (ap (λ (n : FrameName). n.number) e))

module _ (ds : List FrameCount) (fs : List FrameState) (out : AreLaidOut ds fs) where
  pub below : (name : FrameName) (place : ℕ) → pool_number ds name.owner name.number 0 ≡ Some place → place < length fs
  below name place is =
      let p = placed ds name 0 place is in
      let i = p.place_is in
      let b = p.stands.below in
      let n = out.count in
      omega (arith, length-names_of ds)

  module _ (name : FrameName) (place : ℕ) (f : FrameState) (is : pool_number ds name.owner name.number 0 ≡ Some place) (here : slice_get fs place ≡ Some f) where
    pub is_named : name_of f ≡ name
    is_named =
        let p = placed ds name 0 place is in
        let i = p.place_is in
        let way : p.way ≡ place = omega arith in
        let at : slice_get (map name_of fs) place ≡ Some (name_of f) = slice_get-map name_of fs place ∙ ap (λ o. option_map name_of o) here in
        sym (get_or_from_slice_get (map name_of fs) place (name_of f) (name_of f) at)
        ∙ ap (λ (l : List FrameName). get_or l place (name_of f)) out.names
        ∙ ap (λ (n : ℕ). get_or (names_of ds) n (name_of f)) (sym way)
        ∙ p.stands.named (name_of f)

    journal_here : journal_in (place_in (seen ds fs) name) (map journal_of fs) ≡ f.journal
    journal_here =
        let at : slice_get (map journal_of fs) place ≡ Some f.journal = slice_get-map journal_of fs place ∙ ap (λ o. option_map journal_of o) here in
        ap (λ (o : Option ℕ). journal_in o (map journal_of fs)) is ∙ ap (λ (o : Option (List WriteRecord)). unwrap_or o []) at

    -- the frame at the pool number is the one of this name
    pub found : f ≡ frame_at (seen ds fs) name
    found =
        let o : f.owner ≡ name.owner = ap (λ (n : FrameName). n.owner) is_named in
        let n : f.number ≡ name.number = ap (λ (n : FrameName). n.number) is_named in
        let same : f ≡ record { owner = f.owner; number = f.number; journal = f.journal } = refl in
        same ∙ cc (o, n, journal_here)

  -- each frame was written by right
  pub kept_all : AreKept (seen ds fs)
  kept_all name = there (pool_number ds name.owner name.number 0) refl
    where
      there : (o : Option ℕ) → pool_number ds name.owner name.number 0 ≡ o → IsKept (frame_at (seen ds fs) name)
      there None none = subst (λ (o : Option ℕ). IsKept (record { owner = name.owner; number = name.number; journal = journal_in o (map journal_of fs) })) (sym none) refl
      there (Some place) is =
          let f : FrameState = get_or fs place (zero_frame name) in
          let here : slice_get fs place ≡ Some f = slice_get-get_or fs place (zero_frame name) (below name place is) in
          subst (λ (g : FrameState). IsKept g) (found name place f is here) (out.kept place f here)

module _
    (ds : List FrameCount) (fs : List FrameState) (out : AreLaidOut ds fs) (name : FrameName) (place : ℕ) (f : FrameState)
    (is : pool_number ds name.owner name.number 0 ≡ Some place) (here : slice_get fs place ≡ Some f)
    (g : FrameState) (w : Writ) (off : ℕ) (ys : List ℕ) (writes : IsWrite f g w off ys) (kept : IsKept g)
  where
    -- each frame is still at its pool number after one was written
    pub laid_after : AreLaidOut ds (set fs place g)
    laid_after =
        let same : name_of g ≡ name_of (get_or fs place f) = ap name_of writes.journal ∙ ap name_of (sym (get_or_from_slice_get fs place f f here)) in
        record {
          count = length-set fs place g ∙ out.count;
          names = map-set_same name_of fs place g f same ∙ out.names;
          kept = λ at x stands. elim (set_cases fs place at g x stands) [ inl old ↦ out.kept at x old | inr new ↦ subst (λ (h : FrameState). IsKept h) (sym new) kept ];
        }

    stands : slice_get (set fs place g) place ≡ Some g
    stands =
        let b : place < length fs = slice_get_within fs place f here in
        slice_get_read (set fs place g) (length fs) place g (sym (length-set fs place g)) b (sym (get_or-set_same fs place g g b))

    elsewhere : (o : Option ℕ) → (o ≡ Some place → ⊥) → journal_in o (map journal_of (set fs place g)) ≡ journal_in o (map journal_of fs)
    elsewhere None apart = refl
    elsewhere (Some at) apart =
        let away : at ≢ place = λ e. apart (ap (λ (n : ℕ). Some n) e) in
        ap (λ (js : List (List WriteRecord)). unwrap_or (slice_get js at) []) (map-set journal_of fs place g)
        ∙ unwrap_or-slice_get (set (map journal_of fs) place g.journal) at []
        ∙ get_or-set_other (map journal_of fs) place at g.journal [] away
        ∙ sym (unwrap_or-slice_get (map journal_of fs) at [])

    -- contracts see the same
    pub writes_after : WritesTo (seen ds fs) (seen ds (set fs place g)) name w off ys
    writes_after =
        let old : f ≡ frame_at (seen ds fs) name = found ds fs out name place f is here in
        let new : g ≡ frame_at (seen ds (set fs place g)) name = found ds (set fs place g) laid_after name place g is stands in
        let others : (other : FrameName) → is_name other name ≡ false → frame_at (seen ds (set fs place g)) other ≡ frame_at (seen ds fs) other = λ other differs.
        ap (λ (j : List WriteRecord). record { owner = other.owner; number = other.number; journal = j })
        (elsewhere (pool_number ds other.owner other.number 0) (λ same. both_ways (is_name other name) differs (same_name other name (one_name ds other name place same is)))) in
        record {
          domains = refl;
          write = subst (λ (x : FrameState). IsWrite x (frame_at (seen ds (set fs place g)) name) w off ys) old (subst (λ (x : FrameState). IsWrite f x w off ys) new writes);
          others = others;
        }

-- frames that were never written

pub zeros_more : (d : FrameCount) (n : ℕ) (base : List FrameState) → (base ++ map (zero_in d) (range_with_len 0 n)) ++ zero_in d n ∷ [] ≡ base ++ map (zero_in d) (range_with_len 0 (n + 1))
zeros_more d n base =
    append_assoc base (map (zero_in d) (range_with_len 0 n)) (zero_in d n ∷ [])
    ∙ ap (λ (l : List FrameState). base ++ l) (sym (map-range_with_len_more (zero_in d) 0 n n (omega arith)))

named_zeros : (d : FrameCount) (ns : List ℕ) → map name_of (map (zero_in d) ns) ≡ map (name_in d) ns
named_zeros d [] = refl
named_zeros d (n ∷ ns) = ap (λ (l : List FrameName). name_in d n ∷ l) (named_zeros d ns)

names_new : (ds : List FrameCount) → map name_of (flat_map zero_frames ds) ≡ names_of ds
names_new [] = refl
names_new (d ∷ ds) =
    map-append name_of (zero_frames d) (flat_map zero_frames ds)
    ∙ ap (λ (l : List FrameName). l ++ map name_of (flat_map zero_frames ds)) (named_zeros d (range_with_len 0 d.frames))
    ∙ ap (λ (l : List FrameName). map (name_in d) (range_with_len 0 d.frames) ++ l) (names_new ds)

no_writes : (d : FrameCount) (a n : ℕ) → map journal_of (map (zero_in d) (range_with_len a n)) ≡ replicate n []
no_writes d a zero = refl
no_writes d a (suc n) = ap (λ (l : List (List WriteRecord)). [] ∷ l) (no_writes d (a + 1) n)

pub journals_new : (ds : List FrameCount) → map journal_of (flat_map zero_frames ds) ≡ replicate (frames_of ds) []
journals_new [] = refl
journals_new (d ∷ ds) =
    map-append journal_of (zero_frames d) (flat_map zero_frames ds)
    ∙ ap (λ (l : List (List WriteRecord)). l ++ map journal_of (flat_map zero_frames ds)) (no_writes d 0 d.frames)
    ∙ ap (λ (l : List (List WriteRecord)). replicate d.frames [] ++ l) (journals_new ds)
    ∙ replicate-append-replicate d.frames (frames_of ds) []

in_replicate : (n k : ℕ) (x y : List WriteRecord) → slice_get (replicate n x) k ≡ Some y → y ≡ x
in_replicate zero k x y h = absurd (none-some y h)
in_replicate (suc n) zero x y h = sym (same_Some x y h)
in_replicate (suc n) (suc k) x y h = in_replicate n k x y h

pub laid_new : (ds : List FrameCount) → AreLaidOut ds (flat_map zero_frames ds)
laid_new ds =
    let all : length (map journal_of (flat_map zero_frames ds)) ≡ frames_of ds = ap (λ (l : List (List WriteRecord)). length l) (journals_new ds) ∙ length-replicate {A = List WriteRecord} (frames_of ds) [] in
    record {
      count = sym (length-map (flat_map zero_frames ds) journal_of) ∙ all;
      names = names_new ds;
      kept = λ place f here.
          let at : slice_get (map journal_of (flat_map zero_frames ds)) place ≡ Some f.journal = slice_get-map journal_of (flat_map zero_frames ds) place ∙ ap (λ o. option_map journal_of o) here in
          let none : f.journal ≡ [] = in_replicate (frames_of ds) place [] f.journal (ap (λ (l : List (List WriteRecord)). slice_get l place) (sym (journals_new ds)) ∙ at) in
          subst (λ (j : List WriteRecord). IsTrue (all_rightful f.owner f.number j)) (sym none) refl;
    }

-- two frames of a list that is split in two

get_front : (xs ys : List FrameState) (k : ℕ) → k < length xs → slice_get (xs ++ ys) k ≡ slice_get xs k
get_front [] ys k below = absurd (omega arith)
get_front (x ∷ xs) ys zero below = refl
get_front (x ∷ xs) ys (suc k) below = get_front xs ys k (omega arith)

get_back : (xs ys : List FrameState) → slice_get (xs ++ ys) (length xs) ≡ slice_get ys 0
get_back [] ys = refl
get_back (x ∷ xs) ys = get_back xs ys

set_back : (xs ys : List FrameState) (y : FrameState) → set (xs ++ ys) (length xs) y ≡ xs ++ set ys 0 y
set_back [] ys y = refl
set_back (x ∷ xs) ys y = ap (λ (l : List FrameState). x ∷ l) (set_back xs ys y)

module _ (all front back : List FrameState) (cut : ℕ) (parts : all ≡ front ++ back) (len : length front ≡ cut) where
  pub at_front : (k : ℕ) (f g : FrameState) → k < cut → f ≡ get_or front k f → slice_get all k ≡ Some g → g ≡ f
  at_front k f g below read is =
      same_Some g f (sym is ∙ ap (λ (l : List FrameState). slice_get l k) parts ∙ get_front front back k (omega arith) ∙ slice_get_read front (length front) k f refl (omega arith) read)

  pub at_back : (f g : FrameState) → 0 < length back → f ≡ get_or back 0 f → slice_get all cut ≡ Some g → g ≡ f
  at_back f g some read is =
      same_Some g f
      (sym is ∙ ap (λ (l : List FrameState). slice_get l cut) parts ∙ ap (λ (n : ℕ). slice_get (front ++ back) n) (sym len) ∙ get_back front back ∙ slice_get_read back (length back) 0 f refl some read)

  pub set_front_is : (k : ℕ) (f : FrameState) → k < cut → set front k f ++ back ≡ set all k f
  set_front_is k f below = sym (set-append_left front back k f (omega arith)) ∙ ap (λ (l : List FrameState). set l k f) (sym parts)

  pub set_back_is : (f : FrameState) → front ++ set back 0 f ≡ set all cut f
  set_back_is f = sym (set_back front back f) ∙ ap (λ (n : ℕ). set (front ++ back) n f) len ∙ ap (λ (l : List FrameState). set l cut f) (sym parts)

-- a copy between two frames, as a change of all of them
pub copied_among :
    (old new : List FrameState) (source dest : ℕ) (w : Writ) (from_off to_off len : ℕ) (from to after : FrameState)
    → ((g : FrameState) → slice_get old source ≡ Some g → g ≡ from) → ((g : FrameState) → slice_get old dest ≡ Some g → g ≡ to)
    → IsWrite to after w to_off (bytes_at from from_off len) → IsKept after → new ≡ set old dest after
    → CopiesAmong old new source dest w from_off to_off len
copied_among old new source dest w from_off to_off len from to after is_from is_to write kept is f t at_from at_to =
    let writes : IsWrite t after w to_off (bytes_at f from_off len) =
    subst (λ (x : FrameState). IsWrite x after w to_off (bytes_at f from_off len)) (sym (is_to t at_to))
    (subst (λ (x : FrameState). IsWrite to after w to_off (bytes_at x from_off len)) (sym (is_from f at_from)) write) in
    (after, writes, kept, is)

pub receipt_among :
    (old : List FrameState) (source dest : ℕ) (writer : DomId) (from_off to_off len : ℕ) (from to : FrameState) (r : Copying)
    → ((g : FrameState) → slice_get old source ≡ Some g → g ≡ from) → ((g : FrameState) → slice_get old dest ≡ Some g → g ≡ to)
    → r ≡ copying_of from from_off to to_off len writer
    → (f t : FrameState) → slice_get old source ≡ Some f → slice_get old dest ≡ Some t → r ≡ copying_of f from_off t to_off len writer
receipt_among old source dest writer from_off to_off len from to r is_from is_to is f t at_from at_to =
    is ∙ ap (λ (x : FrameState). copying_of x from_off to to_off len writer) (sym (is_from f at_from)) ∙ ap (λ (x : FrameState). copying_of f from_off x to_off len writer) (sym (is_to t at_to))

-- a fact that holds whether a call succeeds or fails
pub either_way : {T E P : Type 0} (r : Result T E) → OnOk r P → OnErr r P → P
either_way (Ok x) here there = here
either_way (Err e) here there = there

set_as_was : (fs : List FrameState) (place : ℕ) (f g : FrameState) → slice_get fs place ≡ Some f → g ≡ f → set fs place g ≡ fs
set_as_was fs place f g here same =
    ap (λ (x : FrameState). set fs place x) (same ∙ sym (get_or_from_slice_get fs place f f here)) ∙ set-get_or fs place f

-- the frame read at a pool number is the one of this name
pub found_read :
    (ds : List FrameCount) (fs : List FrameState) (out : AreLaidOut ds fs) (name : FrameName) (place : ℕ) (f : FrameState)
    → pool_number ds name.owner name.number 0 ≡ Some place → f ≡ get_or fs place f → f ≡ frame_at (seen ds fs) name
found_read ds fs out name place f is read =
    found ds fs out name place f is (slice_get_read fs (length fs) place f refl (below ds fs out name place is) read)

-- one frame was written, or the write failed
module _
    (ds : List FrameCount) (fs : List FrameState) (out : AreLaidOut ds fs) (name : FrameName) (place : ℕ) (f : FrameState)
    (is : pool_number ds name.owner name.number 0 ≡ Some place) (read : f ≡ get_or fs place f)
    {T E : Type 0} (r : Result T E) (g : FrameState) (w : Writ) (off : ℕ) (ys : List ℕ)
    (writes : OnOk r (IsWrite f g w off ys)) (kept : IsKept g) (refused : OnErr r (g ≡ f))
  where
    at_place : slice_get fs place ≡ Some f
    at_place = slice_get_read fs (length fs) place f refl (below ds fs out name place is) read

    pub it_is : f ≡ frame_at (seen ds fs) name
    it_is = found ds fs out name place f is at_place

    pub still_laid : AreLaidOut ds (set fs place g)
    still_laid =
        either_way r
        (on_ok_weaker r (λ write. laid_after ds fs out name place f is at_place g w off ys write kept) writes)
        (on_err_weaker r (λ same. subst (λ (l : List FrameState). AreLaidOut ds l) (sym (set_as_was fs place f g at_place same)) out) refused)

    pub one_written : OnOk r (WritesTo (seen ds fs) (seen ds (set fs place g)) name w off ys)
    one_written = on_ok_weaker r (λ write. writes_after ds fs out name place f is at_place g w off ys write kept) writes

-- bytes were copied between two frames, or the copy failed
module _
    (ds : List FrameCount) (fs new : List FrameState) (out : AreLaidOut ds fs) (from to : FrameName) (source dest : ℕ)
    (is_source : pool_number ds from.owner from.number 0 ≡ Some source) (is_dest : pool_number ds to.owner to.number 0 ≡ Some dest)
    {T E : Type 0} (r : Result T E) (w : Writ) (from_off to_off len : ℕ)
    (copies : OnOk r (CopiesAmong fs new source dest w from_off to_off len)) (refused : OnErr r (new ≡ fs))
  where
    at_source : slice_get fs source ≡ Some (get_or fs source (zero_frame from))
    at_source = slice_get-get_or fs source (zero_frame from) (below ds fs out from source is_source)

    at_dest : slice_get fs dest ≡ Some (get_or fs dest (zero_frame to))
    at_dest = slice_get-get_or fs dest (zero_frame to) (below ds fs out to dest is_dest)

    pub source_is : get_or fs source (zero_frame from) ≡ frame_at (seen ds fs) from
    source_is = found ds fs out from source (get_or fs source (zero_frame from)) is_source at_source

    pub dest_is : get_or fs dest (zero_frame to) ≡ frame_at (seen ds fs) to
    dest_is = found ds fs out to dest (get_or fs dest (zero_frame to)) is_dest at_dest

    laid_by : CopiesAmong fs new source dest w from_off to_off len → AreLaidOut ds new
    laid_by copy =
        let done = copy (get_or fs source (zero_frame from)) (get_or fs dest (zero_frame to)) at_source at_dest in
        subst (λ (l : List FrameState). AreLaidOut ds l) (sym done.3)
        (laid_after ds fs out to dest (get_or fs dest (zero_frame to)) is_dest at_dest done.0 w to_off (bytes_at (get_or fs source (zero_frame from)) from_off len) done.1 done.2)

    written_by : CopiesAmong fs new source dest w from_off to_off len → WritesTo (seen ds fs) (seen ds new) to w to_off (bytes_at (frame_at (seen ds fs) from) from_off len)
    written_by copy =
        let done = copy (get_or fs source (zero_frame from)) (get_or fs dest (zero_frame to)) at_source at_dest in
        subst (λ (l : List FrameState). WritesTo (seen ds fs) (seen ds l) to w to_off (bytes_at (frame_at (seen ds fs) from) from_off len)) (sym done.3)
        (subst (λ (x : FrameState). WritesTo (seen ds fs) (seen ds (set fs dest done.0)) to w to_off (bytes_at x from_off len)) source_is
        (writes_after ds fs out to dest (get_or fs dest (zero_frame to)) is_dest at_dest done.0 w to_off (bytes_at (get_or fs source (zero_frame from)) from_off len) done.1 done.2))

    len_by : CopiesAmong fs new source dest w from_off to_off len → length new ≡ length fs
    len_by copy =
        let done = copy (get_or fs source (zero_frame from)) (get_or fs dest (zero_frame to)) at_source at_dest in
        ap (λ (l : List FrameState). length l) done.3 ∙ length-set fs dest done.0

    pub same_len : length new ≡ length fs
    same_len = either_way r (on_ok_weaker r len_by copies) (on_err_weaker r (λ same. ap (λ (l : List FrameState). length l) same) refused)

    pub laid_still : AreLaidOut ds new
    laid_still = either_way r (on_ok_weaker r laid_by copies) (on_err_weaker r (λ same. subst (λ (l : List FrameState). AreLaidOut ds l) (sym same) out) refused)

    pub one_copied : OnOk r (WritesTo (seen ds fs) (seen ds new) to w to_off (bytes_at (frame_at (seen ds fs) from) from_off len))
    one_copied = on_ok_weaker r written_by copies

    pub told_of :
        (writer : DomId) (t : Copying)
        → ((f g : FrameState) → slice_get fs source ≡ Some f → slice_get fs dest ≡ Some g → t ≡ copying_of f from_off g to_off len writer)
        → t ≡ copying_of (frame_at (seen ds fs) from) from_off (frame_at (seen ds fs) to) to_off len writer
    told_of writer t tells =
        tells (get_or fs source (zero_frame from)) (get_or fs dest (zero_frame to)) at_source at_dest
        ∙ ap (λ (x : FrameState). copying_of x from_off (get_or fs dest (zero_frame to)) to_off len writer) source_is
        ∙ ap (λ (x : FrameState). copying_of (frame_at (seen ds fs) from) from_off x to_off len writer) dest_is
