use Rattle.std.proofs.Common.{[], IfSome, ◌≡◌, Bool, false, subst, ℕ, ◌-◌, ◌≤◌, ◌+◌, List, ◌++◌, length, take, drop}
use Rattle.std.proofs.Common.{Option, Some, None, ap, ◌∙◌, append_assoc, sym, arith, length-append}
use Rattle.std.proofs.Math.Seq.{take-add, take-append_seam}
use Rattle.std.proofs.lemmas.List.{append-nil, take_all}
use Rattle.std.specs.Io.KnownBytes.{Appends, Consumes, IsAtEnd}
use Rattle.gt_text.specs.Streams.{ConsumesAtMost, ReadsOn}

take-front_more : (i n : ℕ) (xs : List ℕ) → i ≤ n → take n xs ≡ take i xs ++ take (n - i) (drop i xs)
take-front_more i n xs h =
    let e : n ≡ i + (n - i) = omega arith in ap (λ k. take k xs) e ∙ take-add i (n - i) xs

-- the first i bytes went out, and then those up to n
pub appends_front : (a b c : Option (List ℕ)) (i n : ℕ) (xs : List ℕ) → i ≤ n → Appends a b (take i xs) → Appends b c (take (n - i) (drop i xs)) → Appends a c (take n xs)
appends_front None b c i n xs h p q = tt
appends_front (Some x) None c i n xs h p q = absurd p
appends_front (Some x) (Some y) None i n xs h p q = absurd q
appends_front (Some x) (Some y) (Some z) i n xs h p q =
    q ∙ ap (λ l. l ++ take (n - i) (drop i xs)) p ∙ append_assoc x _ _ ∙ ap (λ l. x ++ l) (sym (take-front_more i n xs h))

-- what was read up to the end is all there was
read_is_all : (a b : Option (List ℕ)) (limit : ℕ) (bytes : List ℕ) → Consumes a b bytes → length bytes ≤ limit → IsAtEnd b → IfSome a (λ all. bytes ≡ take limit all)
read_is_all None b limit bytes p few end = tt
read_is_all (Some all) None limit bytes p few end = absurd p
read_is_all (Some all) (Some rest) limit bytes p few end =
    let e : all ≡ bytes = p ∙ ap (λ (l : List ℕ). bytes ++ l) end ∙ append-nil bytes in
    sym (ap (take limit) e ∙ take_all limit bytes few)

read_both : (a b c : Option (List ℕ)) (xs ys : List ℕ) → Consumes a b xs → Consumes b c ys → Consumes a c (xs ++ ys)
read_both None b c xs ys p q = tt
read_both (Some x) None c xs ys p q = absurd p
read_both (Some x) (Some y) None xs ys p q = absurd q
read_both (Some x) (Some y) (Some z) xs ys p q = p ∙ ap (λ (l : List ℕ). xs ++ l) q ∙ sym (append_assoc xs ys z)

-- a read after which no more may follow ends it
pub read_ends : (a b c : Option (List ℕ)) (limit room : ℕ) (more : Bool) (before after : List ℕ)
    → Consumes a b before → length before + room ≤ limit → ReadsOn room more b c before after → more ≡ false → IfSome a (λ all. after ≡ take limit all)
read_ends a b c limit room more before after p few on e =
    let few' = on.few in
    let n : length after ≤ limit = rw (on.grown, length-append) (omega arith) in
    read_is_all a c limit after (subst (λ (l : List ℕ). Consumes a c l) (sym on.grown) (read_both a b c before on.read p on.lost)) n (on.ends e)

-- what was read up to the limit is the front of what there was
pub read_is_front : (a b : Option (List ℕ)) (limit : ℕ) (bytes : List ℕ) → Consumes a b bytes → length bytes ≡ limit → IfSome a (λ all. bytes ≡ take limit all)
read_is_front None b limit bytes p full = tt
read_is_front (Some all) None limit bytes p full = absurd p
read_is_front (Some all) (Some rest) limit bytes p full =
    sym (ap (take limit) p ∙ ap (λ (n : ℕ). take n (bytes ++ rest)) (sym full) ∙ take-append_seam bytes rest)

-- what was read, and then some bytes more
pub reads_more : (a b c : Option (List ℕ)) (limit room : ℕ) (bytes : List ℕ) → Consumes a b bytes → length bytes + room ≤ limit → ConsumesAtMost room b c → ConsumesAtMost limit a c
reads_more None b c limit room bytes p few (read, less, q) = ([], omega arith, tt)
reads_more (Some x) None c limit room bytes p few (read, less, q) = absurd p
reads_more (Some x) (Some y) None limit room bytes p few (read, less, q) = absurd q
reads_more (Some x) (Some y) (Some z) limit room bytes p few (read, less, q) =
    (bytes ++ read, rw length-append (omega (arith, few, less)), p ∙ ap (λ (l : List ℕ). bytes ++ l) q ∙ sym (append_assoc bytes read z))
