-- Which earlier statements are listed for a type.
use Rattle.std.proofs.Common.{◌≡◌, ◌⊎◌, inl, inr, ℕ, zero, suc, ◌+◌, ◌<◌, ◌≤◌, Bool, true, false, ◌&&◌, ◌||◌, List, [], ◌∷◌}
use Rattle.std.proofs.Common.{◌++◌, Option, Some, None, get_or, length, set, take, refl, sym, ap, subst, ◌∙◌, arith}
use Rattle.std.specs.Global.{Vec}
use Rattle.std.specs.Prelude.{All, Contains, MatchOption, is_some}
use Rattle.std.proofs.lemmas.Bool.{cases_lt, false≢true}
use Rattle.std.proofs.lemmas.List.{get_or_default, get_or_push, length-append, length-set}
use Rattle.std.proofs.lemmas.List.Elements.{All-contains, All-more, Contains-append_left, Contains-push}
use Rattle.std.proofs.lemmas.List.Folds.{list_any_at, list_any_none}
use Rattle.std.proofs.Math.ListN.{get_or-append}
use Rattle.gt_policy.specs.declared.lined.LinedStatement.{LinedStatement}
use Rattle.gt_policy.specs.declared.statements.Statement.{Statement}
use Rattle.gt_policy.specs.declared.statements.Statement.TheVariants.{DeclareType, DeclareAttribute, GiveAttributes, Allow}
use Rattle.gt_policy_check.specs.Check.{no_more_with, repeats_with, some_no_more_with}
use Rattle.gt_policy_check.specs.Earlier.{has_source, list_at, member_at, AddsAt, AddsAtAll, AreSources, GrantsTriple}
use Rattle.gt_policy_check.specs.Earlier.{IsRepeatAt, KeepsLists, ListsEarlier}
use Rattle.gt_policy_check.specs.declared.earlier.EarlierStatements.{EarlierStatements}
use Rattle.gt_policy_check.specs.declared.earlier.Triple.{Triple}
use Rattle.gt_policy_statements.specs.declared.members.Member.{Member}
use Rattle.gt_policy_check.proofs.EarlierLemmas.{grants_some, grants_too, has_its_source}

-- ---- lists

pub kept_lists : (lists : List (Vec ℕ)) → KeepsLists lists lists
kept_lists lists = (refl, λ s i h. h)

pub keeps_on : (a b c : List (Vec ℕ)) → KeepsLists a b → KeepsLists b c → KeepsLists a c
keeps_on a b c k m = (m.0 ∙ k.0, λ s i h. m.1 s i (k.1 s i h))

pub none_so_far : (old lists : List (Vec ℕ)) (number : ℕ) → AddsAtAll old [] number old
none_so_far old lists number = (kept_lists old, λ k d below. absurd (omega (arith, below)))

-- one place more
pub one_more : (old now next : List (Vec ℕ)) (places : List ℕ) (k place number : ℕ) → k < length places → place ≡ get_or places k place
    → AddsAtAll old (take k places) number now → AddsAt now place number next → AddsAtAll old (take (k + 1) places) number next
one_more old now next places k place number below is so adds = (
  keeps_on old now next so.0 adds.0,
  All-more (λ p. p < length old → Contains (list_at next p) number) places k 0 below
      (λ j d l h. adds.0.1 (get_or (take k places) j d) number (so.1 j d l h))
      (λ h. subst (λ (p : ℕ). Contains (list_at next p) number) (here h) (adds.1 (omega (arith, h, so.0.0, same)))),
)
  where
    same : place ≡ get_or places k 0
    same = is ∙ get_or_default places k place 0 below

    here : get_or places k 0 < length old → place ≡ get_or places k 0
    here h = same

-- ---- one statement more

module _ (members : List Member) (before : List LinedStatement) (x : LinedStatement) (sources : List ℕ) (old : EarlierStatements)
    (knows : ListsEarlier members before old) where
  old_one : (i s : ℕ) (y : LinedStatement) → i < length before → s < length members
      → has_source (member_at members s) (get_or (before ++ x ∷ []) i y).statement ≡ true
      → Contains (list_at old.of_source.items s) i ⊎ Contains old.of_many.items i
  old_one i s y below in_types has =
      knows.every i s y below in_types (ap (λ (z : LinedStatement). has_source (member_at members s) z.statement) (sym (get_or-append before (x ∷ []) y i below)) ∙ has)

  last_one : (i : ℕ) → i < length (before ++ x ∷ []) → length before ≤ i → length before ≡ i
  last_one i below above = let long : length (before ++ x ∷ []) ≡ length before + 1 = length-append before (x ∷ []) in omega (arith, below, above, long)

  -- it is among those that have many
  pub knows_many : (new : EarlierStatements) → new.of_source ≡ old.of_source → new.of_many.items ≡ old.of_many.items ++ length before ∷ [] → ListsEarlier members (before ++ x ∷ []) new
  knows_many new same is = record {
    lists = ap (λ (v : Vec (Vec ℕ)). length v.items) same ∙ knows.lists;
    every = λ i s y below in_types has. by i s y in_types has below (cases_lt i (length before));
  }
    where
      many : (i : ℕ) → Contains (old.of_many.items ++ length before ∷ []) i → Contains new.of_many.items i
      many i c = subst (λ (l : List ℕ). Contains l i) (sym is) c

      by : (i s : ℕ) (y : LinedStatement) → s < length members → has_source (member_at members s) (get_or (before ++ x ∷ []) i y).statement ≡ true
          → i < length (before ++ x ∷ []) → (i < length before) ⊎ (length before ≤ i) → Contains (list_at new.of_source.items s) i ⊎ Contains new.of_many.items i
      by i s y in_types has below (inr above) =
          inr (many i (subst (λ (n : ℕ). Contains (old.of_many.items ++ length before ∷ []) n) (last_one i below above) (Contains-push old.of_many.items (length before))))
      by i s y in_types has below (inl within) = on (old_one i s y within in_types has)
        where
          on : Contains (list_at old.of_source.items s) i ⊎ Contains old.of_many.items i → Contains (list_at new.of_source.items s) i ⊎ Contains new.of_many.items i
          on (inl c) = inl (subst (λ (v : Vec (Vec ℕ)). Contains (list_at v.items s) i) (sym same) c)
          on (inr c) = inr (many i (Contains-append_left old.of_many.items (length before ∷ []) i c))

  -- it is in the lists of the types in its source set
  pub knows_few : (new : EarlierStatements) → AreSources members x.statement sources → AddsAtAll old.of_source.items sources (length before) new.of_source.items
      → new.of_many ≡ old.of_many → ListsEarlier members (before ++ x ∷ []) new
  knows_few new are adds same = record {
    lists = adds.0.0 ∙ knows.lists;
    every = λ i s y below in_types has. by i s y in_types has below (cases_lt i (length before));
  }
    where
      listed : (z : Statement) → AreSources members z sources → (s : ℕ) → s < length members → has_source (member_at members s) z ≡ true → Contains (list_at new.of_source.items s) (length before)
      listed (DeclareType w ms) so s in_types has = absurd (false≢true has)
      listed (DeclareAttribute w) so s in_types has = absurd (false≢true has)
      listed (GiveAttributes m ms) so s in_types has = absurd (false≢true has)
      listed (Allow a) so s in_types has =
          All-contains (λ p. p < length old.of_source.items → Contains (list_at new.of_source.items p) (length before)) sources s adds.1 (so.every s in_types has)
          (omega (arith, in_types, knows.lists))

      by : (i s : ℕ) (y : LinedStatement) → s < length members → has_source (member_at members s) (get_or (before ++ x ∷ []) i y).statement ≡ true
          → i < length (before ++ x ∷ []) → (i < length before) ⊎ (length before ≤ i) → Contains (list_at new.of_source.items s) i ⊎ Contains new.of_many.items i
      by i s y in_types has below (inr above) =
          let last = last_one i below above in
          let is : get_or (before ++ x ∷ []) i y ≡ x = get_or_push before x y i last in
          inl (subst (λ (n : ℕ). Contains (list_at new.of_source.items s) n) last
          (listed x.statement are s in_types (ap (λ (z : LinedStatement). has_source (member_at members s) z.statement) (sym is) ∙ has)))
      by i s y in_types has below (inl within) = on (old_one i s y within in_types has)
        where
          on : Contains (list_at old.of_source.items s) i ⊎ Contains old.of_many.items i → Contains (list_at new.of_source.items s) i ⊎ Contains new.of_many.items i
          on (inl c) = inl (adds.0.1 s i c)
          on (inr c) = inr (subst (λ (v : Vec ℕ). Contains v.items i) (sym same) c)

-- ---- what is found

module _ (members : List Member) (before : List LinedStatement) (x : Statement) where
  -- an earlier statement that grants all of it
  pub repeat_found : (i : ℕ) → IsRepeatAt members before x i → some_no_more_with members before x ≡ true
  repeat_found i found =
      list_any_at (λ y. no_more_with members x y.statement) before i (record { line = 0; statement = DeclareAttribute [] }) found.0 (found.1 (record { line = 0; statement = DeclareAttribute [] }))

  -- none is among those that are listed
  pub no_repeat_found : (e : EarlierStatements) (t : Triple) → ListsEarlier members before e → GrantsTriple members x t
      → All (λ i. IsRepeatAt members before x i → ⊥) (list_at e.of_source.items t.source) → All (λ i. IsRepeatAt members before x i → ⊥) e.of_many.items
      → some_no_more_with members before x ≡ false
  no_repeat_found known t knows has few many =
      list_any_none (λ y. no_more_with members x y.statement) before (λ i y below. by i y below (no_more_with members x (get_or before i y).statement) refl)
    where
      repeats : (i : ℕ) (y : LinedStatement) → i < length before → no_more_with members x (get_or before i y).statement ≡ true → IsRepeatAt members before x i
      repeats i y below so = (below, λ z. ap (λ (v : LinedStatement). no_more_with members x v.statement) (get_or_default before i z y below) ∙ so)

      by : (i : ℕ) (y : LinedStatement) → i < length before → (b : Bool) → no_more_with members x (get_or before i y).statement ≡ b → no_more_with members x (get_or before i y).statement ≡ false
      by i y below false so = so
      by i y below true so = on (knows.every i t.source y below has.source (has_its_source members (get_or before i y).statement t (grants_too members x (get_or before i y).statement t has so)))
        where
          on : Contains (list_at known.of_source.items t.source) i ⊎ Contains known.of_many.items i → no_more_with members x (get_or before i y).statement ≡ false
          on (inl c) = absurd (All-contains (λ j. IsRepeatAt members before x j → ⊥) (list_at known.of_source.items t.source) i few c (repeats i y below so))
          on (inr c) = absurd (All-contains (λ j. IsRepeatAt members before x j → ⊥) known.of_many.items i many c (repeats i y below so))

-- ---- a number more in a list

keep_set : (lists : List (Vec ℕ)) (p s i : ℕ) (v : Vec ℕ) → ((j : ℕ) → Contains (list_at lists p) j → Contains v.items j) → Contains (list_at lists s) i → Contains (list_at (set lists p v) s) i
keep_set [] p s i v more h = h
keep_set (w ∷ ws) zero zero i v more h = more i h
keep_set (w ∷ ws) zero (suc s) i v more h = h
keep_set (w ∷ ws) (suc p) zero i v more h = h
keep_set (w ∷ ws) (suc p) (suc s) i v more h = keep_set ws p s i v more h

set_there : (lists : List (Vec ℕ)) (p : ℕ) (v : Vec ℕ) → p < length lists → list_at (set lists p v) p ≡ v.items
set_there [] p v below = absurd (omega (arith, below))
set_there (w ∷ ws) zero v below = refl
set_there (w ∷ ws) (suc p) v below = set_there ws p v (omega (arith, below))

pub list_there : (lists : List (Vec ℕ)) (p : ℕ) (d : Vec ℕ) → p < length lists → list_at lists p ≡ (get_or lists p d).items
list_there [] p d below = absurd (omega (arith, below))
list_there (w ∷ ws) zero d below = refl
list_there (w ∷ ws) (suc p) d below = list_there ws p d (omega (arith, below))

pub list_past : (lists : List (Vec ℕ)) (p : ℕ) → length lists ≤ p → list_at lists p ≡ []
list_past [] p past = refl
list_past (w ∷ ws) zero past = absurd (omega (arith, past))
list_past (w ∷ ws) (suc p) past = list_past ws p (omega (arith, past))

pub adds_at : (old new : List (Vec ℕ)) (p number : ℕ) (v : Vec ℕ) → p < length old → new ≡ set old p v → v.items ≡ list_at old p ++ number ∷ [] → AddsAt old p number new
adds_at old new p number v below is holds = subst (AddsAt old p number) (sym is) (
  (length-set old p v, λ s i h. keep_set old p s i v (λ j c. subst (λ (l : List ℕ). Contains l j) (sym holds) (Contains-append_left (list_at old p) (number ∷ []) j c)) h),
  λ h. subst (λ (l : List ℕ). Contains l number) (sym (set_there old p v below ∙ holds)) (Contains-push (list_at old p) number),
)

pub adds_nothing : (old : List (Vec ℕ)) (p number : ℕ) → length old ≤ p → AddsAt old p number old
adds_nothing old p number past = (kept_lists old, λ below. absurd (omega (arith, past, below)))

-- whether one is found is whether there is one
pub repeated_is : (members : List Member) (before : List LinedStatement) (x : Statement) (known : EarlierStatements) (t : Triple) (few many : List ℕ) (a b r : Option ℕ)
    → ListsEarlier members before known → GrantsTriple members x t → few ≡ list_at known.of_source.items t.source → many ≡ known.of_many.items
    → MatchOption a (All (λ i. IsRepeatAt members before x i → ⊥) few) (IsRepeatAt members before x)
    → MatchOption b (All (λ i. IsRepeatAt members before x i → ⊥) many) (IsRepeatAt members before x)
    → is_some r ≡ (is_some a || is_some b) → is_some r ≡ repeats_with members before x
repeated_is members before x known t few many a b r knows has few_is many_is of_few of_many is = by a b of_few of_many is
  where
    with_grant : (c : Bool) → some_no_more_with members before x ≡ c → repeats_with members before x ≡ c
    with_grant c e = ap (λ (g : Bool). g && some_no_more_with members before x) (grants_some members x t has) ∙ e

    by : (a b : Option ℕ) → MatchOption a (All (λ i. IsRepeatAt members before x i → ⊥) few) (IsRepeatAt members before x)
        → MatchOption b (All (λ i. IsRepeatAt members before x i → ⊥) many) (IsRepeatAt members before x)
        → is_some r ≡ (is_some a || is_some b) → is_some r ≡ repeats_with members before x
    by (Some i) b found other e = e ∙ sym (with_grant true (repeat_found members before x i found))
    by None (Some i) none found e = e ∙ sym (with_grant true (repeat_found members before x i found))
    by None None none others e = e ∙ sym (with_grant false (no_repeat_found members before x known t knows has
        (subst (All (λ i. IsRepeatAt members before x i → ⊥)) few_is none) (subst (All (λ i. IsRepeatAt members before x i → ⊥)) many_is others)))
