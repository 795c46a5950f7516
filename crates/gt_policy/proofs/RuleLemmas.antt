-- Statements with sets of types.
use Rattle.std.proofs.Common.{◌≡◌, ◌≢◌, ℕ, ◌+◌, ◌<◌, ◌==◌, ◌||◌, ◌&&◌, Bool, true, false, List, [], ◌∷◌, ◌++◌, length, take, set}
use Rattle.std.proofs.Common.{get_or, replicate, refl, sym, ap, ◌∙◌, arith, rules, cond, nat_lt, ◌≤◌, ◌-◌}
use Rattle.std.specs.Prelude.{not}
use Rattle.std.specs.List.{list_any}
use Rattle.std.proofs.lemmas.Bool.{false≢true}
use Rattle.std.proofs.lemmas.Bool.Decides.{nat_tests}
use Rattle.std.proofs.lemmas.List.{get_or-set_same, get_or-set_other, get_or-replicate, length-replicate, get_or_past}
use Rattle.std.proofs.lemmas.List.{take_all}
use Rattle.std.proofs.lemmas.Nat.Bits.{bit_at-zero}
use Rattle.std.proofs.lemmas.List.Folds.{list_any_more, list_any-append}
use Rattle.gt_policy.specs.declared.types.TypeSet.{TypeSet}
use Rattle.gt_policy.specs.declared.resolve.TypeAttribute.{TypeAttribute}
use Rattle.gt_policy.specs.declared.resolve.DraftRule.{DraftRule}
use Rattle.gt_types.specs.declared.perms.Perms.{Perms}
use Rattle.std.proofs.Math.Path.{fun_ext}
use Rattle.gt_policy.specs.TypeSets.{has_bit, holds}
use Rattle.gt_policy.specs.Members.{no_types}
use Rattle.gt_policy.specs.declared.rules.AllowRule.{AllowRule}
use Rattle.gt_policy.specs.Allowing.{was_given, is_granted_by}
use Rattle.gt_policy.specs.Kept.{grants, some_grants}
use Rattle.gt_policy.proofs.BoolLemmas.{or_no, or_false}

-- nothing is in the set with no type
no_types-none : (n : ℕ) → holds no_types n ≡ false
no_types-none n = go (nat_lt n 128) (nat_lt n 256)
  where
    go : (v w : Bool) → cond v (has_bit 0 n) (w && has_bit 0 (n - 128)) ≡ false
    go true w = ap (λ x. x == 1) (bit_at-zero n)
    go false true = ap (λ x. x == 1) (bit_at-zero (n - 128))
    go false false = refl

or_yes : (b c : Bool) → (b || c) ≡ (b || (c && true))
or_yes true c = refl
or_yes false true = refl
or_yes false false = refl

-- one more attribute that was given to a type
pub gives_more : (given : List TypeAttribute) (i : ℕ) (d : TypeAttribute) (sets : List TypeSet) (v : TypeSet) → i < length given → (get_or given i d).attribute < length sets
    → ((a n : ℕ) → holds (get_or sets a no_types) n ≡ was_given (take i given) a n) → ((n : ℕ) → holds v n ≡ (holds (get_or sets (get_or given i d).attribute no_types) n || (n == (get_or given i d).to)))
    → (a n : ℕ) → holds (get_or (set sets (get_or given i d).attribute v) a no_types) n ≡ was_given (take (i + 1) given) a n
gives_more given i d sets v within fits so_far added a n = go (a == (get_or given i d).attribute) refl ∙ sym (list_any_more (λ g. (n == g.to) && (a == g.attribute)) given i d within)
  where
    go : (t : Bool) → (a == (get_or given i d).attribute) ≡ t → holds (get_or (set sets (get_or given i d).attribute v) a no_types) n ≡ (was_given (take i given) a n || ((n == (get_or given i d).to) && t))
    go true e =
        let same : a ≡ (get_or given i d).attribute = grind (arith, nat_tests) in
        let there : get_or (set sets (get_or given i d).attribute v) a no_types ≡ v = ap (λ j. get_or (set sets (get_or given i d).attribute v) j no_types) same ∙ get_or-set_same sets (get_or given i d).attribute v no_types fits in
        ap (λ s. holds s n) there ∙ added n ∙ ap (λ j. holds (get_or sets j no_types) n || (n == (get_or given i d).to)) (sym same) ∙ ap (λ b. b || (n == (get_or given i d).to)) (so_far a n) ∙ or_yes _ _
    go false e =
        let other : a ≢ (get_or given i d).attribute = λ same. false≢true (sym e ∙ search (rules, nat_tests)) in
        ap (λ s. holds s n) (get_or-set_other sets (get_or given i d).attribute a v no_types other) ∙ so_far a n ∙ or_no _ _

-- before the first
pub gives_none : (k : ℕ) (s : TypeSet) → ((n : ℕ) → holds s n ≡ false) → (a n : ℕ) → holds (get_or (replicate k s) a no_types) n ≡ false
gives_none k s none a n = go (nat_lt a k) refl
  where
    go : (t : Bool) → nat_lt a k ≡ t → holds (get_or (replicate k s) a no_types) n ≡ false
    go true e = ap (λ u. holds u n) (get_or-replicate k a s no_types (grind (arith, nat_tests))) ∙ none n
    go false e =
        let long = length-replicate k s in
        let past : get_or (replicate k s) a no_types ≡ no_types = get_or_past (replicate k s) a no_types (grind (arith, nat_tests)) in
        ap (λ u. holds u n) past ∙ no_types-none n

-- one more item, statement or name that makes an answer true
pub or_more : {X : Type 0} (p : X → Bool) (xs : List X) (i : ℕ) (d : X) (b c e : Bool) → i < length xs → e ≡ (b || c) → b ≡ list_any p (take i xs) → c ≡ p (get_or xs i d) → e ≡ list_any p (take (i + 1) xs)
or_more p xs i d b c e within now so_far here = now ∙ ap (λ x. x || c) so_far ∙ ap (λ x. list_any p (take i xs) || x) here ∙ sym (list_any_more p xs i d within)

-- one more rule
pub rule_more : (made pushed : List AllowRule) (rule : AllowRule) (drafts : List DraftRule) (d : DraftRule) (i : ℕ) (ask : DraftRule → Bool) (s t : ℕ) (perm : Perms) → i < length drafts → pushed ≡ made ++ rule ∷ []
    → grants rule s t perm ≡ ask (get_or drafts i d) → some_grants made s t perm ≡ list_any ask (take i drafts) → some_grants pushed s t perm ≡ list_any ask (take (i + 1) drafts)
rule_more made pushed rule drafts d i ask s t perm within push here so_far =
    ap (λ (rs : List AllowRule). some_grants rs s t perm) push
    ∙ list_any-append (λ r. grants r s t perm) made (rule ∷ [])
    ∙ ap (λ (b : Bool). b || list_any (λ r. grants r s t perm) (rule ∷ [])) so_far
    ∙ ap (λ (b : Bool). list_any ask (take i drafts) || b) (sym (or_false (grants rule s t perm)) ∙ here)
    ∙ sym (list_any_more ask drafts i d within)

-- all items were seen
pub set_end : {X : Type 0} (p q : X → Bool) (xs : List X) (i : ℕ) (b : Bool) → length xs ≤ i → b ≡ list_any q (take i xs) → (list_any p (take i xs) && not b) ≡ (list_any p xs && not (list_any q xs))
set_end p q xs i b all so_far =
    let whole : take i xs ≡ xs = take_all i xs all in
    ap (λ x. list_any p (take i xs) && not x) so_far ∙ ap (λ ys. list_any p ys && not (list_any q ys)) whole

-- the rules of statements, once their sets are sets of types
pub rules_same : (has : ℕ → ℕ → Bool) (lent given : List TypeAttribute) (drafts rules : List DraftRule) (s t : ℕ) (perm : Perms) (b : Bool) → ((a n : ℕ) → has a n ≡ was_given lent a n) → lent ≡ given → drafts ≡ rules
    → b ≡ list_any (λ rule. is_granted_by has s t perm rule) drafts → b ≡ list_any (λ rule. is_granted_by (was_given given) s t perm rule) rules
rules_same has lent given drafts rules s t perm b shown same_given same_rules is =
    let members : has ≡ was_given given = fun_ext (λ a. fun_ext (λ n. shown a n ∙ ap (λ (g : List TypeAttribute). was_given g a n) same_given)) in
    is ∙ ap (λ (h : ℕ → ℕ → Bool). list_any (λ rule. is_granted_by h s t perm rule) drafts) members ∙ ap (λ (rs : List DraftRule). list_any (λ rule. is_granted_by (was_given given) s t perm rule) rs) same_rules
