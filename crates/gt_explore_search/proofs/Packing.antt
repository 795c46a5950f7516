-- Lists of numbers in pieces.
use Rattle.std.proofs.Common.{◌≡◌, ◌<◌, ◌≤◌, ℕ, List, [], ◌∷◌, ◌++◌, length, get_or, map, ap, sym, ◌∙◌, refl, subst, inl, inr, Some}
use Rattle.std.proofs.Common.{append_assoc}
use Rattle.std.proofs.lemmas.List.{flat_map_more, get_or_append_left, length-map, map-append}
use Rattle.std.proofs.lemmas.Option.{get_or_from_slice_get, slice_get-map}
use Rattle.std.specs.Option.{option_map}
use Rattle.gt_explore_search.specs.Numbers.{AllBelow, EachBelow, IsKeptAs, list_of_pieces}
use Rattle.gt_explore_search.specs.Parts.{Extends}
use Rattle.gt_explore_search.proofs.Keeping.{below_more, kept_more, kept_there, kept_within}

-- numbers of pieces

pub below_push : (count : ℕ) (ns : List ℕ) (n : ℕ) → AllBelow count ns → n < count → AllBelow count (ns ++ n ∷ [])
below_push count [] n has lt = (lt, tt)
below_push count (m ∷ ns) n has lt = (has.0, below_push count ns n has.1 lt)

pub each_more : (a b : ℕ) (ls : List (List ℕ)) → a ≤ b → EachBelow a ls → EachBelow b ls
each_more a b [] le has = tt
each_more a b (l ∷ ls) le has = (below_more a b l le has.0, each_more a b ls le has.1)

each_push : (count : ℕ) (ls : List (List ℕ)) (l : List ℕ) → EachBelow count ls → AllBelow count l → EachBelow count (ls ++ l ∷ [])
each_push count [] l has also = (also, tt)
each_push count (m ∷ ls) l has also = (has.0, each_push count ls l has.1 also)

pub each_kept : (count : ℕ) (old : List (List ℕ)) (l : List ℕ) (n : ℕ) (new : List (List ℕ)) → IsKeptAs old l n new → EachBelow count old → AllBelow count l → EachBelow count new
each_kept count old l n new (inl (same, there)) has also = subst (EachBelow count) (sym same) has
each_kept count old l n new (inr (next, more)) has also = subst (EachBelow count) (sym more) (each_push count old l has also)

-- more pieces

unpacked_kept : (old new : List (List ℕ)) (ns : List ℕ) → Extends old new → AllBelow (length old) ns → list_of_pieces new ns ≡ list_of_pieces old ns
unpacked_kept old new [] grows has = refl
unpacked_kept old new (n ∷ ns) grows has =
    ap (λ (l : List ℕ). l ++ list_of_pieces new ns) (ap (λ (ls : List (List ℕ)). get_or ls n []) grows.1 ∙ get_or_append_left old grows.0 [] n has.0)
    ∙ ap (λ (l : List ℕ). get_or old n [] ++ l) (unpacked_kept old new ns grows has.1)

pub all_kept : (old new ls : List (List ℕ)) → Extends old new → EachBelow (length old) ls → map (list_of_pieces new) ls ≡ map (list_of_pieces old) ls
all_kept old new [] grows has = refl
all_kept old new (l ∷ ls) grows has =
    ap (λ (x : List ℕ). x ∷ map (list_of_pieces new) ls) (unpacked_kept old new l grows has.0)
    ∙ ap (λ (xs : List (List ℕ)). list_of_pieces old l ∷ xs) (all_kept old new ls grows has.1)

-- one piece more was packed
pub pack_step : (old new : List (List ℕ)) (out more rest piece later list : List ℕ) (n : ℕ) → IsKeptAs old piece n new → AllBelow (length old) out → list_of_pieces old out ++ rest ≡ list → piece ++ later ≡ rest → more ≡ out ++ n ∷ []
    → list_of_pieces new more ++ later ≡ list
pack_step old new out more rest piece later list n kept below whole parts is =
    ap (λ (l : List ℕ). list_of_pieces new l ++ later) is
    ∙ ap (λ (l : List ℕ). l ++ later) (sym (flat_map_more (λ (k : ℕ). get_or new k []) [] out n))
    ∙ ap (λ (l : List ℕ). (l ++ get_or new n []) ++ later) (unpacked_kept old new out (kept_more old piece n new kept) below)
    ∙ ap (λ (l : List ℕ). (list_of_pieces old out ++ l) ++ later) (get_or_from_slice_get new n piece [] (kept_there old piece n new kept))
    ∙ append_assoc (list_of_pieces old out) piece later
    ∙ ap (λ (l : List ℕ). list_of_pieces old out ++ l) parts
    ∙ whole

pub pack_below : (old new : List (List ℕ)) (out more piece : List ℕ) (n : ℕ) → IsKeptAs old piece n new → length old ≤ length new → AllBelow (length old) out → more ≡ out ++ n ∷ [] → AllBelow (length new) more
pack_below old new out more piece n kept le below is =
    subst (AllBelow (length new)) (sym is) (below_push (length new) out n (below_more (length old) (length new) out le below) (kept_within old piece n new kept))

-- one piece more was unpacked
pub unpack_step : (pieces : List (List ℕ)) (list done out more : List ℕ) (n : ℕ) → out ≡ list_of_pieces pieces done → list ≡ done ++ n ∷ [] → more ≡ out ++ get_or pieces n [] → more ≡ list_of_pieces pieces list
unpack_step pieces list done out more n was is so =
    so ∙ ap (λ (l : List ℕ). l ++ get_or pieces n []) was ∙ flat_map_more (λ (k : ℕ). get_or pieces k []) [] done n ∙ ap (list_of_pieces pieces) (sym is)

-- the number of the pieces is that of the list
pub kept_unpacked : (pieces old new : List (List ℕ)) (packed list : List ℕ) (n : ℕ) → IsKeptAs old packed n new → list_of_pieces pieces packed ≡ list
    → IsKeptAs (map (list_of_pieces pieces) old) list n (map (list_of_pieces pieces) new)
kept_unpacked pieces old new packed list n (inl (same, there)) is =
    inl (ap (map (list_of_pieces pieces)) same, slice_get-map (list_of_pieces pieces) old n ∙ ap (option_map (list_of_pieces pieces)) there ∙ ap (λ (l : List ℕ). Some l) is)
kept_unpacked pieces old new packed list n (inr (next, more)) is = inr (
  next ∙ sym (length-map old (list_of_pieces pieces)),
  ap (map (list_of_pieces pieces)) more ∙ map-append (list_of_pieces pieces) old (packed ∷ []) ∙ ap (λ (l : List ℕ). map (list_of_pieces pieces) old ++ l ∷ []) is,
)
