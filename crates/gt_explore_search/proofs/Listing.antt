-- What lists of answers say stays when lines and lists are added.
use Rattle.std.proofs.Common.{◌≡◌, ◌⊎◌, ◌<◌, ◌==◌, ℕ, zero, suc, Bool, true, false, List, [], ◌∷◌, ◌++◌, length, ap}
use Rattle.std.proofs.Common.{sym, ◌∙◌, refl, subst, arith, inl, inr, append_assoc}
use Rattle.std.proofs.Common.{Option, None, Some, slice_get, ◌&&◌, if◌then◌else◌}
use borrow.Author.Tests.{eqb-true}
use Rattle.std.proofs.Common.{◌+◌, nat_eq}
use Rattle.std.proofs.lemmas.List.{append-nil, get_or_append_left}
use Rattle.std.proofs.lemmas.Option.{get_or_from_slice_get, none-some, same_Some, slice_get_within}
use Rattle.std.specs.Global.{Vec}
use Rattle.std.specs.List.{flat_map, range_with_len}
use Rattle.std.proofs.Common.{get_or}
use lib.Pointwise.{pointwise}
use Rattle.gt_explore_search.specs.Lists.{items_at, printed_of, rest_by, line_by, HasLine, HasListAt}
use Rattle.gt_explore_search.specs.Lists.{AreWhole, HasItsLine, GrowsInto, IsLonger}
use Rattle.gt_explore_search.specs.Numbers.{AllBelow, IsKeptAs}
use Rattle.gt_explore_search.specs.declared.suffixes.AnswerLine.{AnswerLine}
use Rattle.gt_explore_search.specs.declared.suffixes.AnswerLists.{AnswerLists}
use Rattle.gt_explore_search.proofs.Keeping.{below_more, both_more, get_grown, kept_either, kept_more, kept_there, kept_within, length_grown, no_more, within_more}

-- lists of which each element is that of the other
pub same_items : {X : Type 0} (E : X → X → Bool) → ((x y : X) → E x y ≡ true → x ≡ y) → (xs ys : List X) → pointwise E xs ys ≡ true → xs ≡ ys
same_items E same [] [] is = refl
same_items E same [] (y ∷ ys) is = absurd (cc)
same_items E same (x ∷ xs) [] is = absurd (cc)
same_items E same (x ∷ xs) (y ∷ ys) is = by (same_items E same xs ys) (E x y) refl is
  where
    by : (pointwise E xs ys ≡ true → xs ≡ ys) → (b : Bool) → E x y ≡ b → (b && pointwise E xs ys) ≡ true → x ∷ xs ≡ y ∷ ys
    by rest true e all = ap (λ z. z ∷ xs) (same x y e) ∙ ap (λ l. y ∷ l) (rest all)
    by rest false e all = absurd (cc)

pub same_numbers : (xs ys : List ℕ) → pointwise nat_eq xs ys ≡ true → xs ≡ ys
same_numbers xs ys is = same_items nat_eq (λ x y e. eqb-true x y e) xs ys is

-- keys with one that may be new
pub adds_key : {X : Type 0} (b : Bool) (keys new : List X) (key : X) → new ≡ (if b then keys else keys ++ key ∷ []) → (more : List X) × (new ≡ keys ++ more)
adds_key true keys new key is = ([], is ∙ sym (append-nil keys))
adds_key false keys new key is = (key ∷ [], is)

-- items at a number
pub items_stored : {X : Type 0} (vs : List (Vec X)) (n : ℕ) (v : Vec X) → slice_get vs n ≡ Some v → items_at vs n ≡ v.items
items_stored [] n v is = absurd (none-some v is)
items_stored (w ∷ vs) zero v is = ap (λ x. x.items) (same_Some w v is)
items_stored (w ∷ vs) (suc n) v is = items_stored vs n v is

items_kept : {X : Type 0} (vs more : List (Vec X)) (n : ℕ) → n < length vs → items_at (vs ++ more) n ≡ items_at vs n
items_kept [] more n lt = absurd (omega arith)
items_kept (v ∷ vs) more zero lt = refl
items_kept (v ∷ vs) more (suc n) lt = items_kept vs more n (omega arith)

pub items_none : {X : Type 0} (vs : List (Vec X)) (n : ℕ) → slice_get vs n ≡ None → items_at vs n ≡ []
items_none [] n is = refl
items_none (v ∷ vs) zero is = absurd (none-some v (sym is))
items_none (v ∷ vs) (suc n) is = items_none vs n is

-- what is printed, when there are more lines
printed_kept : (lines more : List (Vec ℕ)) (tail : List ℕ) → AllBelow (length lines) tail → printed_of (lines ++ more) tail ≡ printed_of lines tail
printed_kept lines more [] has = refl
printed_kept lines more (l ∷ ls) has =
    ap (λ (w : List ℕ). w ++ printed_of (lines ++ more) ls) (items_kept lines more l has.0)
    ∙ ap (λ (w : List ℕ). items_at lines l ++ w) (printed_kept lines more ls has.1)

pub rest_kept : (s t : AnswerLists) (n at : ℕ) → AreWhole s → GrowsInto s t → HasListAt s n → rest_by t n at ≡ rest_by s n at
rest_kept s t n at whole grows has =
    ap (λ (l : List ℕ). printed_of t.lines.keys (get_or t.tails (get_or l at 0) []))
    (ap (λ (ls : List (List ℕ)). get_or ls n []) grows.lists.1 ∙ get_or_append_left s.lists grows.lists.0 [] n has)
    ∙ ap (λ (l : List ℕ). printed_of t.lines.keys l)
    (ap (λ (ls : List (List ℕ)). get_or ls (get_or (get_or s.lists n []) at 0) []) grows.tails.1
    ∙ get_or_append_left s.tails grows.tails.0 [] (get_or (get_or s.lists n []) at 0) (whole.tails n at))
    ∙ ap (λ (lines : List (Vec ℕ)). printed_of lines (get_or s.tails (get_or (get_or s.lists n []) at 0) [])) grows.lines.1
    ∙ printed_kept s.lines.keys grows.lines.0 (get_or s.tails (get_or (get_or s.lists n []) at 0) []) (whole.lines (get_or (get_or s.lists n []) at 0))

-- one line was added
pub line_added : (s t : AnswerLists) (b : Bool) (key : Vec ℕ) → t.tails ≡ s.tails → t.lists ≡ s.lists → t.lines.keys ≡ (if b then s.lines.keys else s.lines.keys ++ key ∷ []) → GrowsInto s t
line_added s t b key tails lists is =
    let more = adds_key b s.lines.keys t.lines.keys key is in
    record {
      lines = more;
      tails = no_more s.tails t.tails tails;
      lists = no_more s.lists t.lists lists;
      whole = λ whole. record {
        lines = λ n. subst (λ (ls : List (List ℕ)). AllBelow (length t.lines.keys) (get_or ls n [])) (sym tails)
            (below_more (length s.lines.keys) (length t.lines.keys) (get_or s.tails n []) (length_grown s.lines.keys t.lines.keys more) (whole.lines n));
        tails = λ n at. subst (λ (ls : List (List ℕ)). get_or (get_or ls n []) at 0 < length t.tails) (sym lists)
            (subst (λ (ls : List (List ℕ)). get_or (get_or s.lists n []) at 0 < length ls) (sym tails) (whole.tails n at));
      };
    }

pub has_line : (s : AnswerLists) (n : ℕ) (line : List ℕ) (v : Vec ℕ) → slice_get s.lines.keys n ≡ Some v → pointwise nat_eq line v.items ≡ true → HasLine s n line
has_line s n line v is same = (slice_get_within s.lines.keys n v is, items_stored s.lines.keys n v is ∙ sym (same_numbers line v.items same))

-- a list with a line in front

-- the list differs from the old one in the tail of the domain at this position
abbrev pub HasTail : List ℕ → ℕ → ℕ → List ℕ → Type 0
HasTail old place tail list = (at : ℕ) → get_or list at 0 ≡ (if place == at then tail else get_or old at 0)

-- one tail and one list were added
pub list_added : (s t : AnswerLists) (old later list : List ℕ) (number place line tail n : ℕ) → t.lines ≡ s.lines → slice_get s.lists number ≡ Some old → line < length s.lines.keys
    → slice_get s.tails (get_or old place 0) ≡ Some later → IsKeptAs s.tails (line ∷ later) tail t.tails → HasTail old place tail list → IsKeptAs s.lists list n t.lists → GrowsInto s t
list_added s t old later list number place line tail n lines old_there line_there later_there tails entry lists = record {
  lines = no_more s.lines.keys t.lines.keys (ap (λ x. x.keys) lines);
  tails = more;
  lists = kept_more s.lists list n t.lists lists;
  whole = λ whole. record {
    lines = λ k. subst (λ (m : ℕ). AllBelow m (get_or t.tails k [])) (ap (λ x. length x.keys) (sym lines)) (lines_on whole k (kept_either s.tails (line ∷ later) tail t.tails tails k));
    tails = λ k at. tails_on whole k at (kept_either s.lists list n t.lists lists k);
  };
}
  where
    more : (more : List (List ℕ)) × (t.tails ≡ s.tails ++ more)
    more = kept_more s.tails (line ∷ later) tail t.tails tails

    lines_on : AreWhole s → (k : ℕ) → (get_or t.tails k [] ≡ get_or s.tails k []) ⊎ (get_or t.tails k [] ≡ line ∷ later) → AllBelow (length s.lines.keys) (get_or t.tails k [])
    lines_on whole k (inl was) = subst (AllBelow (length s.lines.keys)) (sym was) (whole.lines k)
    lines_on whole k (inr new) = subst (AllBelow (length s.lines.keys)) (sym new)
        (line_there, subst (AllBelow (length s.lines.keys)) (get_or_from_slice_get s.tails (get_or old place 0) later [] later_there) (whole.lines (get_or old place 0)))

    at_most : (m : ℕ) → m < length s.tails → m < length t.tails
    at_most m lt = within_more s.tails t.tails m more lt

    either : AreWhole s → (at : ℕ) (b : Bool) → (if b then tail else get_or old at 0) < length t.tails
    either whole at true = kept_within s.tails (line ∷ later) tail t.tails tails
    either whole at false = at_most (get_or old at 0) (subst (λ (l : List ℕ). get_or l at 0 < length s.tails) (get_or_from_slice_get s.lists number old [] old_there) (whole.tails number at))

    tails_on : AreWhole s → (k at : ℕ) → (get_or t.lists k [] ≡ get_or s.lists k []) ⊎ (get_or t.lists k [] ≡ list) → get_or (get_or t.lists k []) at 0 < length t.tails
    tails_on whole k at (inl was) = subst (λ (l : List ℕ). get_or l at 0 < length t.tails) (sym was) (at_most (get_or (get_or s.lists k []) at 0) (whole.tails k at))
    tails_on whole k at (inr new) = subst (λ (l : List ℕ). get_or l at 0 < length t.tails) (sym new) (subst (λ (m : ℕ). m < length t.tails) (sym (entry at)) (either whole at (place == at)))

-- the list that was found or added is the longer one
pub is_longer : (s t : AnswerLists) (old later list : List ℕ) (number place line tail n : ℕ) → GrowsInto s t → slice_get s.lists number ≡ Some old
    → slice_get s.tails (get_or old place 0) ≡ Some later → IsKeptAs s.tails (line ∷ later) tail t.tails → HasTail old place tail list → IsKeptAs s.lists list n t.lists
    → IsLonger t (Some (record { place = place; number = line })) number n
is_longer s t old later list number place line tail n grows old_there later_there tails entry lists = λ at.
    ap (λ (l : List ℕ). printed_of t.lines.keys (get_or t.tails (get_or l at 0) [])) (get_or_from_slice_get t.lists n list [] (kept_there s.lists list n t.lists lists))
    ∙ ap (λ (k : ℕ). printed_of t.lines.keys (get_or t.tails k [])) (entry at)
    ∙ by at (place == at) refl
    ∙ ap (λ (l : List ℕ). (if place == at then items_at t.lines.keys line else []) ++ printed_of t.lines.keys (get_or t.tails (get_or l at 0) [])) (sym old_now)
  where
    old_now : get_or t.lists number [] ≡ old
    old_now = get_or_from_slice_get t.lists number old [] (get_grown s.lists t.lists number old grows.lists old_there)

    later_now : get_or t.tails (get_or old place 0) [] ≡ later
    later_now = get_or_from_slice_get t.tails (get_or old place 0) later [] (get_grown s.tails t.tails (get_or old place 0) later grows.tails later_there)

    tail_now : get_or t.tails tail [] ≡ line ∷ later
    tail_now = get_or_from_slice_get t.tails tail (line ∷ later) [] (kept_there s.tails (line ∷ later) tail t.tails tails)

    by : (at : ℕ) (b : Bool) → (place == at) ≡ b → printed_of t.lines.keys (get_or t.tails (if b then tail else get_or old at 0) [])
        ≡ (if b then items_at t.lines.keys line else []) ++ printed_of t.lines.keys (get_or t.tails (get_or old at 0) [])
    by at true is =
        ap (λ (l : List ℕ). printed_of t.lines.keys l) tail_now
        ∙ ap (λ (l : List ℕ). items_at t.lines.keys line ++ printed_of t.lines.keys l) (sym later_now)
        ∙ ap (λ (k : ℕ). items_at t.lines.keys line ++ printed_of t.lines.keys (get_or t.tails (get_or old k 0) [])) (eqb-true place at is)
    by at false is = refl

-- growing

pub grows_same : (s : AnswerLists) → GrowsInto s s
grows_same s = record { lines = no_more s.lines.keys _ refl; tails = no_more s.tails _ refl; lists = no_more s.lists _ refl; whole = λ whole. whole }

pub grows_on : (s t u : AnswerLists) → GrowsInto s t → GrowsInto t u → GrowsInto s u
grows_on s t u first second = record {
  lines = both_more s.lines.keys t.lines.keys u.lines.keys first.lines second.lines;
  tails = both_more s.tails t.tails u.tails first.tails second.tails;
  lists = both_more s.lists t.lists u.lists first.lists second.lists;
  whole = λ whole. second.whole (first.whole whole);
}

pub list_grown : (s t : AnswerLists) (n : ℕ) → GrowsInto s t → HasListAt s n → HasListAt t n
list_grown s t n grows has = within_more s.lists t.lists n grows.lists has

pub line_grown : (s t : AnswerLists) (line : Option AnswerLine) → GrowsInto s t → HasItsLine s line → HasItsLine t line
line_grown s t None grows is = tt
line_grown s t (Some l) grows is = within_more s.lines.keys t.lines.keys l.number grows.lines is

pub line_kept : (s t : AnswerLists) (line : Option AnswerLine) (at : ℕ) → GrowsInto s t → HasItsLine s line → line_by t line at ≡ line_by s line at
line_kept s t None at grows is = refl
line_kept s t (Some l) at grows is =
    ap (λ w. if l.place == at then w else []) (ap (λ v. items_at v l.number) grows.lines.1 ∙ items_kept s.lines.keys grows.lines.0 l.number is)

-- an index of only the empty list

pub starts_whole : (s : AnswerLists) → s.tails ≡ [] ∷ [] → s.lists ≡ [] ∷ [] → AreWhole s
starts_whole s tails lists = record {
  lines = λ n. subst (λ (ls : List (List ℕ)). AllBelow (length s.lines.keys) (get_or ls n [])) (sym tails) (none n);
  tails = λ n at. subst (λ (ls : List (List ℕ)). get_or (get_or ls n []) at 0 < length s.tails) (sym lists)
      (subst (λ (ls : List (List ℕ)). get_or (get_or ([] ∷ []) n []) at 0 < length ls) (sym tails) (first n at));
}
  where
    none : (n : ℕ) → AllBelow (length s.lines.keys) (get_or ([] ∷ []) n [])
    none zero = tt
    none (suc n) = tt

    first : (n at : ℕ) → get_or (get_or ([] ∷ []) n []) at 0 < 1
    first zero at = omega arith
    first (suc n) at = omega arith

pub starts_empty : (s : AnswerLists) (at : ℕ) → s.tails ≡ [] ∷ [] → s.lists ≡ [] ∷ [] → rest_by s 0 at ≡ []
starts_empty s at tails lists =
    ap (λ (ls : List (List ℕ)). printed_of s.lines.keys (get_or s.tails (get_or (get_or ls 0 []) at 0) [])) lists
    ∙ ap (λ (ls : List (List ℕ)). printed_of s.lines.keys (get_or ls 0 [])) tails

-- texts

-- the tail with a number
pub tail_none : (tails : List (List ℕ)) (n : ℕ) → slice_get tails n ≡ None → get_or tails n [] ≡ []
tail_none [] n is = refl
tail_none (t ∷ tails) zero is = absurd (none-some t (sym is))
tail_none (t ∷ tails) (suc n) is = tail_none tails n is

pub tail_stored : (tails : List (List ℕ)) (n : ℕ) (t : List ℕ) → slice_get tails n ≡ Some t → get_or tails n [] ≡ t
tail_stored tails n t is = get_or_from_slice_get tails n t [] is

-- what the domain at this position prints by a list of tails
abbrev pub said_by : AnswerLists → List ℕ → ℕ → List ℕ
said_by s list at = printed_of s.lines.keys (get_or s.tails (get_or list at 0) [])

-- one domain more
pub domains_more : (f : ℕ → List ℕ) (a n : ℕ) → flat_map f (range_with_len a (n + 1)) ≡ flat_map f (range_with_len a n) ++ f (a + n)
domains_more f a zero = let none : a + 0 ≡ a = omega arith in append-nil (f a) ∙ ap f (sym none)
domains_more f a (suc n) =
    let next : suc n + 1 ≡ suc (n + 1) = omega arith in
    let place : a + 1 + n ≡ a + suc n = omega arith in
    ap (λ (m : ℕ). flat_map f (range_with_len a m)) next ∙ ap (λ (o : List ℕ). f a ++ o) (domains_more f (a + 1) n ∙ ap (λ (p : ℕ). flat_map f (range_with_len (a + 1) n) ++ f p) place)
    ∙ sym (append_assoc (f a) (flat_map f (range_with_len (a + 1) n)) (f (a + suc n)))

pub domains_next : (f : ℕ → List ℕ) (n : ℕ) → flat_map f (range_with_len 0 (n + 1)) ≡ flat_map f (range_with_len 0 n) ++ f n
domains_next f n = let same : 0 + n ≡ n = omega arith in domains_more f 0 n ∙ ap (λ (m : ℕ). flat_map f (range_with_len 0 n) ++ f m) same
