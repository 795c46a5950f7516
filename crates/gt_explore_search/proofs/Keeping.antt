-- Lists of numbers that lie one after the other, each kept once.
use Rattle.std.proofs.Common.{◌≡◌, ◌⊎◌, ◌<◌, ◌≤◌, ◌+◌, ◌-◌, ℕ, zero, suc, List, [], ◌∷◌, ◌++◌, length, take, drop, get_or, ap, sym, ◌∙◌, refl}
use Rattle.std.proofs.Common.{arith, subst, inl, inr, Some, None, slice_get, append_assoc, length-append, length-drop}
use Rattle.std.proofs.lemmas.List.{append-nil, drop_at, drop-append-le, take_all, take-append-le}
use Rattle.std.proofs.lemmas.Option.{none-some, same_Some, slice_get_within}
use Rattle.gt_explore_search.specs.Numbers.{AllBelow, AreCut, IsKeptAs, lists_cut}

-- lists that grow

pub at_last : {X : Type 0} (xs : List X) (e : X) → slice_get (xs ++ e ∷ []) (length xs) ≡ Some e
at_last [] e = refl
at_last (x ∷ xs) e = at_last xs e

pub get_kept : {X : Type 0} (xs more : List X) (i : ℕ) (x : X) → slice_get xs i ≡ Some x → slice_get (xs ++ more) i ≡ Some x
get_kept [] more i x is = absurd (none-some x is)
get_kept (y ∷ xs) more zero x is = is
get_kept (y ∷ xs) more (suc i) x is = get_kept xs more i x is

pub get_grown : {X : Type 0} (xs ys : List X) (i : ℕ) (x : X) → (more : List X) × (ys ≡ xs ++ more) → slice_get xs i ≡ Some x → slice_get ys i ≡ Some x
get_grown xs ys i x (more, is) there = ap (λ l. slice_get l i) is ∙ get_kept xs more i x there

pub no_more : {X : Type 0} (xs ys : List X) → ys ≡ xs → (more : List X) × (ys ≡ xs ++ more)
no_more xs ys is = ([], is ∙ sym (append-nil xs))

pub both_more : {X : Type 0} (xs ys zs : List X) → (more : List X) × (ys ≡ xs ++ more) → (more : List X) × (zs ≡ ys ++ more) → (more : List X) × (zs ≡ xs ++ more)
both_more xs ys zs (a, first) (b, second) = (a ++ b, second ∙ ap (λ l. l ++ b) first ∙ append_assoc xs a b)

pub within_more : {X : Type 0} (xs ys : List X) (n : ℕ) → (more : List X) × (ys ≡ xs ++ more) → n < length xs → n < length ys
within_more xs ys n (more, is) lt = let len : length ys ≡ length xs + length more = ap length is ∙ length-append xs more in omega (arith, lt, len)

pub length_grown : {X : Type 0} (xs ys : List X) → (more : List X) × (ys ≡ xs ++ more) → length xs ≤ length ys
length_grown xs ys (more, is) = let len : length ys ≡ length xs + length more = ap length is ∙ length-append xs more in omega (arith, len)

-- numbers below a number

pub below_more : (a b : ℕ) (ns : List ℕ) → a ≤ b → AllBelow a ns → AllBelow b ns
below_more a b [] le has = tt
below_more a b (n ∷ ns) le has = let first = has.0 in (omega (arith, first), below_more a b ns le has.1)

-- lists with ends

pub cut_at : (begin : ℕ) (items ends : List ℕ) (n e : ℕ) → slice_get ends n ≡ Some e
    → slice_get (lists_cut begin items ends) n ≡ Some (take (e - get_or (begin ∷ ends) n 0) (drop (get_or (begin ∷ ends) n 0) items))
cut_at begin items [] n e is = absurd (none-some e is)
cut_at begin items (d ∷ ends) zero e is = ap (λ (x : ℕ). Some (take (x - begin) (drop begin items))) (same_Some d e is)
cut_at begin items (d ∷ ends) (suc n) e is = cut_at d items ends n e is

pub cut_none : (begin : ℕ) (items ends : List ℕ) (n : ℕ) → slice_get ends n ≡ None → slice_get (lists_cut begin items ends) n ≡ None
cut_none begin items [] n is = refl
cut_none begin items (d ∷ ends) zero is = absurd (none-some d (sym is))
cut_none begin items (d ∷ ends) (suc n) is = cut_none d items ends n is

pub cut_length : (begin : ℕ) (items ends : List ℕ) → length (lists_cut begin items ends) ≡ length ends
cut_length begin items [] = refl
cut_length begin items (d ∷ ends) = ap suc (cut_length d items ends)

-- each list lies within the items
pub within_cut : (begin : ℕ) (items ends : List ℕ) (n e : ℕ) → AreCut begin items ends → slice_get ends n ≡ Some e → (get_or (begin ∷ ends) n 0 ≤ e) × (e ≤ length items)
within_cut begin items [] n e cut is = absurd (none-some e is)
within_cut begin items (d ∷ ends) zero e cut is = (subst (λ (x : ℕ). begin ≤ x) (same_Some d e is) cut.0, subst (λ (x : ℕ). x ≤ length items) (same_Some d e is) cut.1)
within_cut begin items (d ∷ ends) (suc n) e cut is = within_cut d items ends n e cut.2 is

-- where a list but the first one begins
pub begin_next : (ends : List ℕ) (n : ℕ) → (n ≡ 0 → ⊥) → get_or ends (n - 1) 0 ≡ get_or (0 ∷ ends) n 0
begin_next ends zero more = absurd (more refl)
begin_next ends (suc n) more = let is : suc n - 1 ≡ n = omega arith in ap (λ (k : ℕ). get_or ends k 0) is

-- one list more

last_cut : (begin : ℕ) (items list : List ℕ) (end : ℕ) → begin ≡ length items → end ≡ length items + length list → take (end - begin) (drop begin (items ++ list)) ≡ list
last_cut begin items list end is e =
    ap (λ (l : List ℕ). take (end - begin) l) (drop_at items list begin (sym is)) ∙ take_all (end - begin) list (omega (arith, is, e))

first_kept : (begin end : ℕ) (items list : List ℕ) → begin ≤ end → end ≤ length items → take (end - begin) (drop begin (items ++ list)) ≡ take (end - begin) (drop begin items)
first_kept begin end items list le within =
    let begins : begin ≤ length items = omega (arith, le, within) in
    let len : length (drop begin items) ≡ length items - begin = length-drop begin items in
    let fits : end - begin ≤ length (drop begin items) = omega (arith, le, within, len) in
    ap (λ (l : List ℕ). take (end - begin) l) (drop-append-le begin items list begins) ∙ take-append-le (end - begin) (drop begin items) list fits

pub cut_more : (begin : ℕ) (items ends list : List ℕ) (end : ℕ) → AreCut begin items ends → end ≡ length items + length list
    → lists_cut begin (items ++ list) (ends ++ end ∷ []) ≡ lists_cut begin items ends ++ list ∷ []
cut_more begin items [] list end cut is = ap (λ (l : List ℕ). l ∷ []) (last_cut begin items list end cut is)
cut_more begin items (d ∷ ends) list end cut is =
    ap (λ (l : List ℕ). l ∷ lists_cut d (items ++ list) (ends ++ end ∷ [])) (first_kept begin d items list cut.0 cut.1)
    ∙ ap (λ (ls : List (List ℕ)). take (d - begin) (drop begin items) ∷ ls) (cut_more d items ends list end cut.2 is)

pub are_cut_more : (begin : ℕ) (items ends list : List ℕ) (end : ℕ) → AreCut begin items ends → end ≡ length items + length list → AreCut begin (items ++ list) (ends ++ end ∷ [])
are_cut_more begin items [] list end cut is =
    let len : length (items ++ list) ≡ length items + length list = length-append items list in
    (omega (arith, cut, is), omega (arith, is, len), is ∙ sym len)
are_cut_more begin items (d ∷ ends) list end cut is =
    let len : length (items ++ list) ≡ length items + length list = length-append items list in
    let within : d ≤ length items = cut.1 in
    (cut.0, omega (arith, within, len), are_cut_more d items ends list end cut.2 is)

-- lists that are kept

pub kept_there : (old : List (List ℕ)) (list : List ℕ) (n : ℕ) (new : List (List ℕ)) → IsKeptAs old list n new → slice_get new n ≡ Some list
kept_there old list n new (inl (same, there)) = ap (λ (l : List (List ℕ)). slice_get l n) same ∙ there
kept_there old list n new (inr (next, more)) =
    ap (λ (l : List (List ℕ)). slice_get l n) more ∙ ap (λ (m : ℕ). slice_get (old ++ list ∷ []) m) next ∙ at_last old list

pub kept_more : (old : List (List ℕ)) (list : List ℕ) (n : ℕ) (new : List (List ℕ)) → IsKeptAs old list n new → (more : List (List ℕ)) × (new ≡ old ++ more)
kept_more old list n new (inl (same, there)) = no_more old new same
kept_more old list n new (inr (next, more)) = (list ∷ [], more)

pub kept_within : (old : List (List ℕ)) (list : List ℕ) (n : ℕ) (new : List (List ℕ)) → IsKeptAs old list n new → n < length new
kept_within old list n new kept = slice_get_within new n list (kept_there old list n new kept)

last_either : (xs : List (List ℕ)) (x : List ℕ) (k : ℕ) → (get_or (xs ++ x ∷ []) k [] ≡ get_or xs k []) ⊎ (get_or (xs ++ x ∷ []) k [] ≡ x)
last_either [] x zero = inr refl
last_either [] x (suc k) = inl refl
last_either (y ∷ xs) x zero = inl refl
last_either (y ∷ xs) x (suc k) = last_either xs x k

-- the list at each number is the one before or the one that was added
pub kept_either : (old : List (List ℕ)) (list : List ℕ) (n : ℕ) (new : List (List ℕ)) → IsKeptAs old list n new → (k : ℕ)
    → (get_or new k [] ≡ get_or old k []) ⊎ (get_or new k [] ≡ list)
kept_either old list n new (inl (same, there)) k = inl (ap (λ (l : List (List ℕ)). get_or l k []) same)
kept_either old list n new (inr (next, more)) k = by (last_either old list k)
  where
    now : get_or new k [] ≡ get_or (old ++ list ∷ []) k []
    now = ap (λ (l : List (List ℕ)). get_or l k []) more

    by : (get_or (old ++ list ∷ []) k [] ≡ get_or old k []) ⊎ (get_or (old ++ list ∷ []) k [] ≡ list) → (get_or new k [] ≡ get_or old k []) ⊎ (get_or new k [] ≡ list)
    by (inl e) = inl (now ∙ e)
    by (inr e) = inr (now ∙ e)
