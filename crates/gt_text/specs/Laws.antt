-- Successive writes, and the input of a reader that promises no bytes.
use Rattle.std.proofs.Common.{◌≡◌, ◌≤◌, IfSome, ℕ, ◌+◌, List, [], ◌++◌, length, take, Option, None, Some, Result, Ok}
use Rattle.std.proofs.Common.{Err, min, refl, ap, sym, subst, ◌∙◌, append_assoc, length-append, arith}
use Rattle.std.proofs.Math.Seq.{take-append-add}
use Rattle.std.proofs.lemmas.List.{append-nil, length-take, take-append-le, take_all}
use Rattle.std.specs.Result.{OnErr}
use Rattle.std.specs.Io.KnownBytes.{Appends, Keeps}
use Rattle.gt_text.specs.Streams.{AppendsBeginning, OfInput}

-- nothing went out
pub keeps_same : (a : Option (List ℕ)) → Keeps a a
keeps_same None = tt
keeps_same (Some xs) = refl

pub appends_nothing : (a : Option (List ℕ)) → Appends a a []
appends_nothing None = tt
appends_nothing (Some xs) = sym (append-nil xs)

-- two texts went out, one after the other
pub appends_both : (a b c : Option (List ℕ)) (xs ys : List ℕ) → Appends a b xs → Appends b c ys → Appends a c (xs ++ ys)
appends_both None b c xs ys p q = tt
appends_both (Some x) None c xs ys p q = absurd p
appends_both (Some x) (Some y) None xs ys p q = absurd q
appends_both (Some x) (Some y) (Some z) xs ys p q = q ∙ ap (λ (l : List ℕ). l ++ ys) p ∙ append_assoc x xs ys

-- a text went out, and then a prefix of another
pub begins_after : (a b c : Option (List ℕ)) (xs ys : List ℕ) → Appends a b xs → AppendsBeginning b c ys
    → AppendsBeginning a c (xs ++ ys)
begins_after a b c xs ys p (n, few, q) = (
  length xs + n,
  rw length-append (omega (arith, few)),
  subst (λ (l : List ℕ). Appends a c l) (sym (take-append-add xs ys n)) (appends_both a b c xs (take n ys) p q),
)

-- a prefix of a text is one of a longer text
pub begins_longer : (a c : Option (List ℕ)) (xs ys : List ℕ) → AppendsBeginning a c xs → AppendsBeginning a c (xs ++ ys)
begins_longer a c xs ys (n, few, q) = (
  n,
  rw length-append (omega (arith, few)),
  subst (λ (l : List ℕ). Appends a c l) (sym (take-append-le n xs ys few)) q,
)

-- what holds of all inputs that begin with the bytes that were read holds of the input
pub of_input : (known : Option (List ℕ)) (bytes : List ℕ) (P : List ℕ → Type 0) → length bytes ≤ 1048577
    → IfSome known (λ all. bytes ≡ take 1048577 all)
    → ((all : List ℕ) → bytes ≡ take 1048577 all → P all) → OfInput known P
of_input None bytes P few e h = (bytes, few, h bytes (sym (take_all 1048577 bytes few)))
of_input (Some all) bytes P few e h = h all e

-- what holds of all inputs holds of the input
pub of_any_input : (known : Option (List ℕ)) (P : List ℕ → Type 0) → ((all : List ℕ) → P all) → OfInput known P
of_any_input None P h = ([], omega arith, h [])
of_any_input (Some all) P h = h all

-- if at most n elements came when n + 1 were asked for, they are the whole list
pub take_whole : (n : ℕ) (xs : List ℕ) → length (take (n + 1) xs) ≤ n → take (n + 1) xs ≡ xs
take_whole n xs h =
    let few : min (n + 1) (length xs) ≤ n = subst (λ (k : ℕ). k ≤ n) (length-take (n + 1) xs) h in
    take_all (n + 1) xs (omega (arith, few))

-- what holds anyway holds at an error
pub OnErr-all : {T E : Type 0} (r : Result T E) (P : Type 0) → P → OnErr r P
OnErr-all (Ok x) P h = tt
OnErr-all (Err e) P h = h
