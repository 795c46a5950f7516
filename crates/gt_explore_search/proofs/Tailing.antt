-- Lists of lines, each kept as its first line and the number of the list behind it.
use Rattle.std.proofs.Common.{◌≡◌, ◌<◌, ◌≤◌, ◌+◌, ◌-◌, ◌&&◌, ◌++◌, ℕ, zero, suc, List, [], ◌∷◌, length, get_or, ap, sym, ◌∙◌, refl, Bool, true, false}
use Rattle.std.proofs.Common.{arith, subst, inl, inr, Option, Some, None, IfSome, IfNone, slice_get, length-append, nat_eq, if◌then◌else◌, true≢false, append_assoc}
use Rattle.std.proofs.lemmas.List.{append-nil, get_or_append_left}
use Rattle.std.proofs.lemmas.Option.{none-some, same_Some, slice_get_past}
use Rattle.std.proofs.lemmas.List.Folds.{list_any_at}
use Rattle.std.proofs.lemmas.List.Sums.{position_or_len_is}
use Rattle.std.specs.List.{list_any, position_or_len}
use borrow.Author.Tests.{eqb-true}
use Rattle.gt_explore_search.specs.Numbers.{IsKeptAs}
use Rattle.gt_explore_search.specs.Tails.{AreBehind, BeginsWith, tails_with}
use Rattle.gt_explore_search.specs.declared.tails.TailNode.{TailNode}
use Rattle.gt_explore_search.proofs.Keeping.{at_last, get_kept}
use Rattle.gt_explore_search.proofs.Listing.{tail_none, tail_stored}

-- the lines of a node in front of one of these tails
abbrev pub lines_of : List (List ℕ) → TailNode → List ℕ
lines_of tails n = n.line ∷ get_or tails n.behind []

pub tails_length : (tails : List (List ℕ)) (nodes : List TailNode) → length (tails_with tails nodes) ≡ length tails + length nodes
tails_length tails [] = omega arith
tails_length tails (n ∷ ns) =
    let len : length (tails ++ lines_of tails n ∷ []) ≡ length tails + 1 = length-append tails (lines_of tails n ∷ []) in
    let rest : length (tails_with (tails ++ lines_of tails n ∷ []) ns) ≡ length (tails ++ lines_of tails n ∷ []) + length ns = tails_length (tails ++ lines_of tails n ∷ []) ns in
    omega (arith, len, rest)

-- earlier tails stay
pub tails_kept : (tails : List (List ℕ)) (nodes : List TailNode) → (more : List (List ℕ)) × (tails_with tails nodes ≡ tails ++ more)
tails_kept tails [] = ([], sym (append-nil tails))
tails_kept tails (n ∷ ns) =
    let rest = tails_kept (tails ++ lines_of tails n ∷ []) ns in
    (lines_of tails n ∷ rest.0, rest.1 ∙ append_assoc tails (lines_of tails n ∷ []) rest.0)

kept_at : (tails : List (List ℕ)) (nodes : List TailNode) (i : ℕ) → i < length tails → get_or (tails_with tails nodes) i [] ≡ get_or tails i []
kept_at tails nodes i lt = let kept = tails_kept tails nodes in ap (λ (l : List (List ℕ)). get_or l i []) kept.1 ∙ get_or_append_left tails kept.0 [] i lt

-- the tail of each node
pub node_at : (tails : List (List ℕ)) (nodes : List TailNode) (i : ℕ) (n : TailNode) → AreBehind (length tails) nodes → slice_get nodes i ≡ Some n
    → (n.behind < length tails + i) × (slice_get (tails_with tails nodes) (length tails + i) ≡ Some (lines_of (tails_with tails nodes) n))
node_at tails [] i n behind is = absurd (none-some n is)
node_at tails (m ∷ ns) zero n behind is = (
  omega (arith, less),
  ap (λ (l : List (List ℕ)). slice_get l (length tails + 0)) kept.1
      ∙ get_kept (tails ++ lines_of tails m ∷ []) kept.0 (length tails + 0) (lines_of tails m) (ap (λ (k : ℕ). slice_get (tails ++ lines_of tails m ∷ []) k) none ∙ at_last tails (lines_of tails m))
      ∙ ap (λ (l : List ℕ). Some (m.line ∷ l)) (sym (kept_at tails (m ∷ ns) m.behind behind.0))
      ∙ ap (λ (k : TailNode). Some (lines_of (tails_with tails (m ∷ ns)) k)) same,
)
  where
    same : m ≡ n
    same = same_Some m n is

    less : n.behind < length tails
    less = subst (λ (k : TailNode). k.behind < length tails) same behind.0

    none : length tails + 0 ≡ length tails
    none = omega arith

    kept : (more : List (List ℕ)) × (tails_with tails (m ∷ ns) ≡ (tails ++ lines_of tails m ∷ []) ++ more)
    kept = tails_kept (tails ++ lines_of tails m ∷ []) ns
node_at tails (m ∷ ns) (suc i) n behind is =
    let len : length (tails ++ lines_of tails m ∷ []) ≡ length tails + 1 = length-append tails (lines_of tails m ∷ []) in
    let rest = node_at (tails ++ lines_of tails m ∷ []) ns i n (subst (λ (k : ℕ). AreBehind k ns) (sym len) behind.1) is in
    let place : length tails + suc i ≡ length (tails ++ lines_of tails m ∷ []) + i = omega (arith, len) in
    (subst (λ (k : ℕ). n.behind < k) (sym place) rest.0, ap (λ (k : ℕ). slice_get (tails_with tails (m ∷ ns)) k) place ∙ rest.1)

-- one node more

pub tails_more : (tails : List (List ℕ)) (nodes : List TailNode) (n : TailNode) → tails_with tails (nodes ++ n ∷ []) ≡ tails_with tails nodes ++ lines_of (tails_with tails nodes) n ∷ []
tails_more tails [] n = refl
tails_more tails (m ∷ ns) n = tails_more (tails ++ lines_of tails m ∷ []) ns n

pub behind_more : (number : ℕ) (nodes : List TailNode) (n : TailNode) → AreBehind number nodes → n.behind < number + length nodes → AreBehind number (nodes ++ n ∷ [])
behind_more number [] n all lt = (omega (arith, lt), tt)
behind_more number (m ∷ ns) n all lt = (all.0, behind_more (number + 1) ns n all.1 (omega (arith, lt)))

-- the tails of an index

-- the tails that an index with these nodes has
abbrev pub tails_of : List TailNode → List (List ℕ)
tails_of nodes = tails_with ([] ∷ []) nodes

pub empty_first : (nodes : List TailNode) → get_or (tails_of nodes) 0 [] ≡ []
empty_first nodes = kept_at ([] ∷ []) nodes 0 (omega arith)

pub empty_past : (nodes : List TailNode) (number : ℕ) → length nodes < number → get_or (tails_of nodes) number [] ≡ []
empty_past nodes number past =
    let len : length (tails_of nodes) ≡ 1 + length nodes = tails_length ([] ∷ []) nodes in
    tail_none (tails_of nodes) number (slice_get_past (tails_of nodes) number (omega (arith, past, len)))

tail_at : (nodes : List TailNode) (at : ℕ) (n : TailNode) → AreBehind 1 nodes → slice_get nodes at ≡ Some n → (n.behind < at + 1) × (slice_get (tails_of nodes) (at + 1) ≡ Some (lines_of (tails_of nodes) n))
tail_at nodes at n behind is =
    let it = node_at ([] ∷ []) nodes at n behind is in
    let place : at + 1 ≡ 1 + at = omega arith in
    (omega (arith, it.0), ap (λ (k : ℕ). slice_get (tails_of nodes) k) place ∙ it.1)

past_none : (nodes : List TailNode) (at : ℕ) → slice_get nodes at ≡ None → length nodes ≤ at
past_none [] at none = omega arith
past_none (m ∷ ns) zero none = absurd (none-some m (sym none))
past_none (m ∷ ns) (suc at) none = let rest : length ns ≤ at = past_none ns at none in omega (arith, rest)

-- the node that was read
pub begins : (nodes : List TailNode) (number at : ℕ) (read : Option TailNode) → 1 ≤ number → at ≡ number - 1 → read ≡ slice_get nodes at → AreBehind 1 nodes → IfSome read (BeginsWith (tails_of nodes) number)
begins nodes number at None some is there behind = tt
begins nodes number at (Some n) some is there behind =
    let it = tail_at nodes at n behind (sym there) in
    let next : at + 1 ≡ number = omega (arith, some, is) in
    subst (λ (k : ℕ). BeginsWith (tails_of nodes) k n) next (it.0, tail_stored (tails_of nodes) (at + 1) (lines_of (tails_of nodes) n) it.1)

pub ends : (nodes : List TailNode) (number at : ℕ) (read : Option TailNode) → 1 ≤ number → at ≡ number - 1 → read ≡ slice_get nodes at → IfNone read (get_or (tails_of nodes) number [] ≡ [])
ends nodes number at (Some n) some is there = tt
ends nodes number at None some is there =
    let past : length nodes ≤ at = past_none nodes at (sym there) in
    empty_past nodes number (omega (arith, past, some, is))

pub ends_first : (nodes : List TailNode) (number : ℕ) (read : Option TailNode) → (1 ≤ number → ⊥) → IfNone read (get_or (tails_of nodes) number [] ≡ [])
ends_first nodes number (Some n) none = tt
ends_first nodes number None none = let zeroth : number ≡ 0 = omega (arith, none) in ap (λ (k : ℕ). get_or (tails_of nodes) k []) zeroth ∙ empty_first nodes

-- a node that may be new

first_or_len : (E : TailNode → Bool) (nodes : List TailNode) → list_any E nodes ≡ false → position_or_len E nodes ≡ length nodes
first_or_len E nodes none = position_or_len_is E nodes (length nodes) (record { line = 0; behind = 0 }) (omega arith) (λ k lt. by k lt (E (get_or nodes k (record { line = 0; behind = 0 }))) refl) (λ lt. absurd (omega (arith, lt)))
  where
    by : (k : ℕ) → k < length nodes → (b : Bool) → E (get_or nodes k (record { line = 0; behind = 0 })) ≡ b → E (get_or nodes k (record { line = 0; behind = 0 })) ≡ false
    by k lt true is = absurd (true≢false (sym (list_any_at E nodes k (record { line = 0; behind = 0 }) lt is) ∙ none))
    by k lt false is = is

-- nodes of which each number is that of the other one
pub same_node : (n m : TailNode) → (nat_eq n.line m.line && nat_eq n.behind m.behind) ≡ true → n ≡ m
same_node n m is = by (nat_eq n.line m.line) (nat_eq n.behind m.behind) refl refl is
  where
    by : (b c : Bool) → nat_eq n.line m.line ≡ b → nat_eq n.behind m.behind ≡ c → (b && c) ≡ true → n ≡ m
    by true true one two all = ap (λ (l : ℕ). record { line = l; behind = n.behind }) (eqb-true n.line m.line one) ∙ ap (λ (k : ℕ). record { line = m.line; behind = k }) (eqb-true n.behind m.behind two)
    by true false one two all = absurd (cc)
    by false c one two all = absurd (cc)

-- whether another node is this one
abbrev pub is_node : TailNode → TailNode → Bool
is_node n m = nat_eq n.line m.line && nat_eq n.behind m.behind

pub node_kept : (n : TailNode) (nodes new : List TailNode) (at : ℕ) → new ≡ (if list_any (is_node n) nodes then nodes else nodes ++ n ∷ []) → at ≡ position_or_len (is_node n) nodes
    → (k : TailNode) × (slice_get new at ≡ Some k) × (is_node n k ≡ true) → AreBehind 1 nodes → n.behind < length (tails_of nodes)
    → AreBehind 1 new × IsKeptAs (tails_of nodes) (lines_of (tails_of nodes) n) (at + 1) (tails_of new)
node_kept n nodes new at keys place (k, there, equal) behind lt = by (list_any (is_node n) nodes) refl
  where
    len : length (tails_of nodes) ≡ 1 + length nodes
    len = tails_length ([] ∷ []) nodes

    by : (b : Bool) → list_any (is_node n) nodes ≡ b → AreBehind 1 new × IsKeptAs (tails_of nodes) (lines_of (tails_of nodes) n) (at + 1) (tails_of new)
    by true is =
        let old : new ≡ nodes = keys ∙ ap (λ (b : Bool). if b then nodes else nodes ++ n ∷ []) is in
        let here : slice_get nodes at ≡ Some n = ap (λ (l : List TailNode). slice_get l at) (sym old) ∙ there ∙ ap (λ (m : TailNode). Some m) (sym (same_node n k equal)) in
        (subst (AreBehind 1) (sym old) behind, inl (ap tails_of old, (tail_at nodes at n behind here).1))
    by false is =
        let more : new ≡ nodes ++ n ∷ [] = keys ∙ ap (λ (b : Bool). if b then nodes else nodes ++ n ∷ []) is in
        let last : at ≡ length nodes = place ∙ first_or_len (is_node n) nodes is in (
          subst (AreBehind 1) (sym more) (behind_more 1 nodes n behind (omega (arith, lt, len))),
          inr (omega (arith, last, len), ap tails_of more ∙ tails_more ([] ∷ []) nodes n),
        )
