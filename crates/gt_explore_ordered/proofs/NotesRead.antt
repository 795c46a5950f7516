-- What is read of notes.
use Rattle.std.proofs.Common.{◌≡◌, ◌∙◌, ◌+◌, ◌<◌, ◌≤◌, ap, refl, sym, subst, arith, ℕ, zero, suc, Bool, true, false, List, [], ◌∷◌, ◌++◌, map, Option, Some, None}
use Rattle.std.proofs.Common.{append_assoc, inl, inr, ◌⊎◌, add-one, drop, drop-cons, get_or, length}
use mathlib.Core.Bool.{beq, not}
use Rattle.std.proofs.lemmas.Bool.{cases_order, eq-eqb, false≢true, ne_eqb}
use Rattle.std.proofs.lemmas.Grind.{flat_map-append}
use Rattle.std.proofs.lemmas.Option.{none-some, same_Some}
use Rattle.std.specs.List.{flat_map, range_with_len}
use Rattle.std.specs.Prelude.{◌==◌, ◌||◌, if◌then◌else◌, slice_get}
use Rattle.gt_explore_ordered.specs.Notes.{Note, bytes_of_notes, has_mark, letter, letters_in, mark, mark_if, note_bytes}

-- the letters among notes
abbrev pub letters_noted : List Note → List ℕ
letters_noted [] = []
letters_noted (letter b ∷ ns) = b ∷ letters_noted ns
letters_noted (mark n ∷ ns) = letters_noted ns

-- whether the mark of this number is among them
abbrev pub is_marked : ℕ → List Note → Bool
is_marked k [] = false
is_marked k (letter b ∷ ns) = is_marked k ns
is_marked k (mark n ∷ ns) = (n == k) || is_marked k ns

pub letters-read : (ns : List Note) → letters_in None (bytes_of_notes ns) ≡ letters_noted ns
letters-read [] = refl
letters-read (letter b ∷ ns) = ap (λ (l : List ℕ). b ∷ l) (letters-read ns)
letters-read (mark n ∷ ns) = letters-read ns

pub mark-read : (k : ℕ) (ns : List Note) → has_mark k None (bytes_of_notes ns) ≡ is_marked k ns
mark-read k [] = refl
mark-read k (letter b ∷ ns) = mark-read k ns
mark-read k (mark n ∷ ns) = ap (λ (b : Bool). (n == k) || b) (mark-read k ns)

pub letters-append : (ns ms : List Note) → letters_noted (ns ++ ms) ≡ letters_noted ns ++ letters_noted ms
letters-append [] ms = refl
letters-append (letter b ∷ ns) ms = ap (λ (l : List ℕ). b ∷ l) (letters-append ns ms)
letters-append (mark n ∷ ns) ms = letters-append ns ms

or_assoc : (a b c : Bool) → (a || (b || c)) ≡ ((a || b) || c)
or_assoc true b c = refl
or_assoc false b c = refl

pub or_none : (b : Bool) → (b || false) ≡ b
or_none true = refl
or_none false = refl

or_swap : (a b c : Bool) → ((a || b) || c) ≡ ((a || c) || b)
or_swap true b c = refl
or_swap false true true = refl
or_swap false true false = refl
or_swap false false true = refl
or_swap false false false = refl

pub marked-append : (k : ℕ) (ns ms : List Note) → is_marked k (ns ++ ms) ≡ (is_marked k ns || is_marked k ms)
marked-append k [] ms = refl
marked-append k (letter b ∷ ns) ms = marked-append k ns ms
marked-append k (mark n ∷ ns) ms = ap (λ (b : Bool). (n == k) || b) (marked-append k ns ms) ∙ or_assoc (n == k) (is_marked k ns) (is_marked k ms)

pub line-letters : (line : List ℕ) → letters_noted (map letter line) ≡ line
line-letters [] = refl
line-letters (b ∷ line) = ap (λ (l : List ℕ). b ∷ l) (line-letters line)

pub line-unmarked : (k : ℕ) (line : List ℕ) → is_marked k (map letter line) ≡ false
line-unmarked k [] = refl
line-unmarked k (b ∷ line) = line-unmarked k line

-- a test that two are different fails
pub same-bools : (a b : Bool) → not (beq a b) ≡ false → a ≡ b
same-bools true true e = refl
same-bools true false e = absurd (false≢true (sym e))
same-bools false true e = absurd (false≢true (sym e))
same-bools false false e = refl

-- one mark

pub mark-letters : (b : Bool) (n : ℕ) (ms : List Note) → letters_noted (mark_if b n ++ ms) ≡ letters_noted ms
mark-letters true n ms = refl
mark-letters false n ms = refl

pub mark-other : (b : Bool) (n k : ℕ) (ms : List Note) → (n ≡ k → ⊥) → is_marked k (mark_if b n ++ ms) ≡ is_marked k ms
mark-other true n k ms other = ap (λ (b : Bool). b || is_marked k ms) (ne_eqb n k other)
mark-other false n k ms other = refl

pub mark-here : (b : Bool) (n : ℕ) (ms : List Note) → is_marked n ms ≡ false → is_marked n (mark_if b n ++ ms) ≡ b
mark-here true n ms none = ap (λ (b : Bool). b || is_marked n ms) (eq-eqb n n refl)
mark-here false n ms none = none

-- all domains

pub bytes-of-all : (f : ℕ → List Note) (xs : List ℕ) → flat_map (λ at. bytes_of_notes (f at)) xs ≡ bytes_of_notes (flat_map f xs)
bytes-of-all f [] = refl
bytes-of-all f (x ∷ xs) = ap (λ (l : List ℕ). bytes_of_notes (f x) ++ l) (bytes-of-all f xs) ∙ sym (flat_map-append note_bytes (f x) (flat_map f xs))

pub letters-of-all : (f : ℕ → List Note) (g : ℕ → List ℕ) (xs : List ℕ) → ((at : ℕ) → letters_noted (f at) ≡ g at) → letters_noted (flat_map f xs) ≡ flat_map g xs
letters-of-all f g [] same = refl
letters-of-all f g (x ∷ xs) same =
    letters-append (f x) (flat_map f xs) ∙ ap (λ (l : List ℕ). l ++ letters_noted (flat_map f xs)) (same x) ∙ ap (λ (l : List ℕ). g x ++ l) (letters-of-all f g xs same)

-- the notes of one domain grew
module _ (f g : ℕ → List Note) (place : ℕ) (more : List Note) (k : ℕ) (here : g place ≡ f place ++ more) (others : (at : ℕ) → (place ≡ at → ⊥) → g at ≡ f at) where
  unmarked-behind : (base n : ℕ) → place < base → is_marked k (flat_map g (range_with_len base n)) ≡ is_marked k (flat_map f (range_with_len base n))
  unmarked-behind base zero lt = refl
  unmarked-behind base (suc n) lt =
      let differs : place ≡ base → ⊥ = λ is. omega (arith, is, lt) in
      ap (λ (l : List Note). is_marked k (l ++ flat_map g (range_with_len (base + 1) n))) (others base differs)
      ∙ marked-append k (f base) (flat_map g (range_with_len (base + 1) n))
      ∙ ap (λ (b : Bool). is_marked k (f base) || b) (unmarked-behind (base + 1) n (omega (arith, lt)))
      ∙ sym (marked-append k (f base) (flat_map f (range_with_len (base + 1) n)))

  pub marked-more : (base n : ℕ) → base ≤ place → place < base + n → is_marked k (flat_map g (range_with_len base n)) ≡ (is_marked k (flat_map f (range_with_len base n)) || is_marked k more)
  marked-more base zero le lt = absurd (omega (arith, le, lt))
  marked-more base (suc n) le lt = elim (cases_order place base) [
    | inl is ↦
        let there : g base ≡ f base ++ more = subst (λ (at : ℕ). g at ≡ f at ++ more) is here in
        ap (λ (l : List Note). is_marked k (l ++ flat_map g (range_with_len (base + 1) n))) there
        ∙ marked-append k (f base ++ more) (flat_map g (range_with_len (base + 1) n))
        ∙ ap (λ (b : Bool). b || is_marked k (flat_map g (range_with_len (base + 1) n))) (marked-append k (f base) more)
        ∙ ap (λ (b : Bool). (is_marked k (f base) || is_marked k more) || b) (unmarked-behind (base + 1) n (omega (arith, is)))
        ∙ or_swap (is_marked k (f base)) (is_marked k more) (is_marked k (flat_map f (range_with_len (base + 1) n)))
        ∙ ap (λ (b : Bool). b || is_marked k more) (sym (marked-append k (f base) (flat_map f (range_with_len (base + 1) n))))
    | inr differ ↦ elim differ [
      | inl below ↦ absurd (omega (arith, below, le))
      | inr above ↦
          let differs : place ≡ base → ⊥ = λ is. omega (arith, is, above) in
          ap (λ (l : List Note). is_marked k (l ++ flat_map g (range_with_len (base + 1) n))) (others base differs)
          ∙ marked-append k (f base) (flat_map g (range_with_len (base + 1) n))
          ∙ ap (λ (b : Bool). is_marked k (f base) || b) (marked-more (base + 1) n (omega (arith, above)) (omega (arith, lt)))
          ∙ or_assoc (is_marked k (f base)) (is_marked k (flat_map f (range_with_len (base + 1) n))) (is_marked k more)
          ∙ ap (λ (b : Bool). b || is_marked k more) (sym (marked-append k (f base) (flat_map f (range_with_len (base + 1) n))))
    ]
  ]

-- one byte more was read

drop-next : (bytes : List ℕ) (i : ℕ) → i < length bytes → drop i bytes ≡ get_or bytes i 0 ∷ drop (i + 1) bytes
drop-next bytes i lt = rw (add-one, drop-cons bytes i 0)

module _ (bytes : List ℕ) (i : ℕ) (lt : i < length bytes) (kind next : Option ℕ) where
  abbrev byte : ℕ
  byte = get_or bytes i 0

  abbrev left : List ℕ
  left = drop (i + 1) bytes

  module _ (text new all : List ℕ) (before : text ++ letters_in kind (drop i bytes) ≡ all) where
    pub letters-first : kind ≡ None → next ≡ Some byte → new ≡ text → new ++ letters_in next left ≡ all
    letters-first was is same =
        ap (λ (l : List ℕ). l ++ letters_in next left) same ∙ ap (λ (k : Option ℕ). text ++ letters_in k left) is
        ∙ sym (ap (λ (k : Option ℕ). text ++ letters_in k (drop i bytes)) was ∙ ap (λ (l : List ℕ). text ++ letters_in None l) (drop-next bytes i lt)) ∙ before

    pub letters-more : (k : ℕ) → kind ≡ Some k → k ≡ 0 → next ≡ None → new ≡ text ++ byte ∷ [] → new ++ letters_in next left ≡ all
    letters-more k was none is more =
        ap (λ (l : List ℕ). l ++ letters_in next left) more ∙ ap (λ (o : Option ℕ). (text ++ byte ∷ []) ++ letters_in o left) is
        ∙ append_assoc text (byte ∷ []) (letters_in None left)
        ∙ sym (ap (λ (o : Option ℕ). text ++ letters_in o (drop i bytes)) (was ∙ ap (λ (n : ℕ). Some n) none) ∙ ap (λ (l : List ℕ). text ++ letters_in (Some 0) l) (drop-next bytes i lt)) ∙ before

    pub letters-past : (k : ℕ) → kind ≡ Some k → (k ≡ 0 → ⊥) → next ≡ None → new ≡ text → new ++ letters_in next left ≡ all
    letters-past k was other is same =
        ap (λ (l : List ℕ). l ++ letters_in next left) same ∙ ap (λ (o : Option ℕ). text ++ letters_in o left) is
        ∙ sym (ap (λ (o : Option ℕ). text ++ letters_in o (drop i bytes)) was ∙ ap (λ (l : List ℕ). text ++ letters_in (Some k) l) (drop-next bytes i lt)
        ∙ ap (λ (b : Bool). text ++ (if b then byte ∷ letters_in None left else letters_in None left)) (ne_eqb k 0 other)) ∙ before

  module _ (n : ℕ) (all : Bool) (before : has_mark n kind (drop i bytes) ≡ all) where
    pub mark-first : kind ≡ None → next ≡ Some byte → has_mark n next left ≡ all
    mark-first was is =
        ap (λ (k : Option ℕ). has_mark n k left) is
        ∙ sym (ap (λ (k : Option ℕ). has_mark n k (drop i bytes)) was ∙ ap (has_mark n None) (drop-next bytes i lt)) ∙ before

    pub mark-letter : (k : ℕ) → kind ≡ Some k → k ≡ 0 → next ≡ None → has_mark n next left ≡ all
    mark-letter k was none is =
        ap (λ (o : Option ℕ). has_mark n o left) is
        ∙ sym (ap (λ (o : Option ℕ). has_mark n o (drop i bytes)) (was ∙ ap (λ (m : ℕ). Some m) none) ∙ ap (has_mark n (Some 0)) (drop-next bytes i lt)) ∙ before

    pub mark-past : (k : ℕ) → kind ≡ Some k → (k ≡ 0 → ⊥) → next ≡ None → (byte ≡ n → ⊥) → has_mark n next left ≡ all
    mark-past k was other is differs =
        ap (λ (o : Option ℕ). has_mark n o left) is
        ∙ sym (ap (λ (o : Option ℕ). has_mark n o (drop i bytes)) was ∙ ap (has_mark n (Some k)) (drop-next bytes i lt)
        ∙ ap (λ (b : Bool). if b then has_mark n None left else ((byte == n) || has_mark n None left)) (ne_eqb k 0 other)
        ∙ ap (λ (b : Bool). b || has_mark n None left) (ne_eqb byte n differs)) ∙ before

    pub mark-found : (k : ℕ) → kind ≡ Some k → (k ≡ 0 → ⊥) → byte ≡ n → true ≡ all
    mark-found k was other same =
        sym (ap (λ (o : Option ℕ). has_mark n o (drop i bytes)) was ∙ ap (has_mark n (Some k)) (drop-next bytes i lt)
        ∙ ap (λ (b : Bool). if b then has_mark n None left else ((byte == n) || has_mark n None left)) (ne_eqb k 0 other)
        ∙ ap (λ (b : Bool). b || has_mark n None left) (eq-eqb byte n same)) ∙ before
