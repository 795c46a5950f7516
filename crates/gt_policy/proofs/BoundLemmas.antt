-- What statements grant lies between declared types.
use Rattle.std.proofs.Common.{◌≡◌, ◌<◌, ℕ, ◌==◌, ◌||◌, ◌&&◌, Bool, true, false, List, [], ◌∷◌, ◌++◌, length, Some, Ok}
use Rattle.std.proofs.Common.{◌⊎◌, inl, inr, map, arith, refl, sym, ap, subst, ◌∙◌}
use Rattle.std.specs.List.{list_any}
use Rattle.std.specs.Str.{bytes_eq}
use Rattle.std.proofs.lemmas.Bool.{eqb-true, false≢true}
use Rattle.std.proofs.lemmas.List.Folds.{list_any-append}
use Rattle.std.proofs.lemmas.List.{length-map}
use Rattle.std.proofs.lemmas.List.Quantifiers.{position-Some}
use Rattle.gt_types.specs.declared.perms.Perms.{Perms}
use Rattle.gt_policy.specs.declared.symbols.Symbol.{Symbol}
use Rattle.gt_policy.specs.declared.symbols.Symbol.TheVariants.{IsType, IsAttribute}
use Rattle.gt_policy.specs.declared.statements.Mention.{Mention}
use Rattle.gt_policy.specs.declared.statements.SetElement.{SetElement}
use Rattle.gt_policy.specs.declared.statements.SetElement.TheVariants as set_elements
use Rattle.gt_policy.specs.declared.statements.Statement.{Statement}
use Rattle.gt_policy.specs.declared.statements.Statement.TheVariants.{DeclareType, DeclareAttribute, GiveAttributes}
use Rattle.gt_policy.specs.declared.statements.Statement.TheVariants.{Allow}
use Rattle.gt_policy.specs.declared.resolve.DraftElement.{DraftElement}
use Rattle.gt_policy.specs.declared.resolve.DraftElement.TheVariants.{With, Without, Itself}
use Rattle.gt_policy.specs.declared.resolve.TypeAttribute.{TypeAttribute}
use Rattle.gt_policy.specs.declared.resolve.DraftRule.{DraftRule}
use Rattle.gt_policy.specs.declared.resolve.Draft.{Draft}
use Rattle.gt_policy.specs.declared.rules.AllowRule.{AllowRule}
use Rattle.gt_policy.specs.Names.{Names, symbol_of}
use Rattle.gt_policy.specs.Resolving.{known, type_in, attribute_in, element_of, elements_of, given_by, with_statement}
use Rattle.gt_policy.specs.Resolving.{resolved_draft, granted, nothing_given}
use Rattle.gt_policy.specs.Allowing.{was_given, stands_for, is_with, holds_type, names_itself, is_granted_by}
use Rattle.gt_policy.specs.Kept.{some_grants, AreWithin}
use Rattle.gt_policy.proofs.TextLemmas.{bind_ok}
use Rattle.gt_policy.proofs.GrantingLemmas.{known_ok, type_ok, type_place, give_rules, allow_read, rule_of}
use Rattle.gt_policy.proofs.SpellingLemmas.{ok_of, ok_part}

either : (b c : Bool) → (b || c) ≡ true → (b ≡ true) ⊎ (c ≡ true)
either true c e = inl refl
either false c e = inr e

left : (b c : Bool) → (b && c) ≡ true → b ≡ true
left true c e = refl
left false c e = e

right : (b c : Bool) → (b && c) ≡ true → c ≡ true
right true c e = e
right false c e = absurd (false≢true e)

alone : (b : Bool) → (b || false) ≡ true → b ≡ true
alone true e = refl
alone false e = e

-- one more element
one_more : {X : Type 0} (p : X → Bool) (xs : List X) (x : X) → list_any p (xs ++ x ∷ []) ≡ true → (list_any p xs ≡ true) ⊎ (p x ≡ true)
one_more p xs x e = elim (either (list_any p xs) (p x || false) (sym (list_any-append p xs (x ∷ [])) ∙ e)) [ inl a ↦ inl a | inr b ↦ inr (alone (p x) b) ]

module _ (names : Names) where
  -- it is true of declared types alone
  abbrev Bounded : (ℕ → Bool) → Type 0
  Bounded p = (n : ℕ) → p n ≡ true → n < length names.types

  -- they are granted to declared types alone, on such
  abbrev pub Between : (ℕ → ℕ → Bool) → List DraftRule → Type 0
  Between has rules = (s t : ℕ) (perm : Perms) → list_any (λ r. is_granted_by has s t perm r) rules ≡ true → (s < length names.types) × (t < length names.types)

  type_bound : (w : List ℕ) (n : ℕ) → symbol_of names w ≡ Some (IsType n) → n < length names.types
  type_bound w n e = (position-Some (λ t. bytes_eq t w) names.types n [] (type_place _ _ n e)).0

  -- attributes
  give_bound : (ms : List Mention) (d end : Draft) (id : ℕ) → id < length names.types → given_by names d id ms ≡ Ok end → ((a : ℕ) → Bounded (was_given d.given a)) → (a : ℕ) → Bounded (was_given end.given a)
  give_bound [] d end id low e so_far a n h = so_far a n (ap (λ (q : Draft). was_given q.given a n) (ok_part d end e) ∙ h)
  give_bound (m ∷ ms) d end id low e so_far a n h =
      let next : ℕ → Draft = λ b. record { given = d.given ++ record { to = id; attribute = b } ∷ []; rules = d.rules } in
      let b = bind_ok (attribute_in names m.name m.line) (λ b. given_by names (next b) id ms) end e in
      let more : (c : ℕ) → Bounded (was_given (next b.0).given c) = λ c k is.
      elim (one_more (λ (g : TypeAttribute). (k == g.to) && (c == g.attribute)) d.given (record { to = id; attribute = b.0 }) is) [
        | inl old ↦ so_far c k old
        | inr here ↦ subst (λ (j : ℕ). j < length names.types) (sym (eqb-true k id (left (k == id) (c == b.0) here))) low
      ] in
      give_bound ms (next b.0) end id low b.2 more a n h

  statement_bound : (s : Statement) (d end : Draft) → with_statement names d s ≡ Ok end → ((a : ℕ) → Bounded (was_given d.given a)) → (a : ℕ) → Bounded (was_given end.given a)
  unfolding with_statement
  statement_bound (DeclareType w ms) d end e so_far a n h =
      let b = bind_ok (type_in names w 0) (λ id. given_by names d id ms) end e in
      give_bound ms d end b.0 (type_bound w b.0 (type_ok w 0 (symbol_of names w) b.0 b.1)) b.2 so_far a n h
  statement_bound (DeclareAttribute w) d end e so_far a n h = so_far a n (ap (λ (q : Draft). was_given q.given a n) (ok_part d end e) ∙ h)
  statement_bound (GiveAttributes m ms) d end e so_far a n h =
      let b = bind_ok (type_in names m.name m.line) (λ id. given_by names d id ms) end e in
      give_bound ms d end b.0 (type_bound m.name b.0 (type_ok m.name m.line (symbol_of names m.name) b.0 b.1)) b.2 so_far a n h
  statement_bound (Allow r) d end e so_far a n h =
      let b = allow_read names d end r e in
      so_far a n (ap (λ (g : List TypeAttribute). was_given g a n) (sym b.4) ∙ h)

  statements_bound : (ss : List Statement) (d end : Draft) → resolved_draft names d ss ≡ Ok end → ((a : ℕ) → Bounded (was_given d.given a)) → (a : ℕ) → Bounded (was_given end.given a)
  statements_bound [] d end e so_far a n h = so_far a n (ap (λ (q : Draft). was_given q.given a n) (ok_part d end e) ∙ h)
  statements_bound (s ∷ ss) d end e so_far a n h =
      let b = bind_ok (with_statement names d s) (λ q. resolved_draft names q ss) end e in
      statements_bound ss b.0 end b.2 (statement_bound s d b.0 b.1 so_far) a n h

  -- sets and allow statements
  module _ (has : ℕ → ℕ → Bool) (all : (a : ℕ) → Bounded (has a)) where
    stands_bound : (w : List ℕ) (s : Symbol) → symbol_of names w ≡ Some s → Bounded (stands_for has s)
    stands_bound w (IsType t) e n h = subst (λ (k : ℕ). k < length names.types) (sym (eqb-true n t h)) (type_bound w t e)
    stands_bound w (IsAttribute a) e n h = all a n h

    item_bound : (i : SetElement) (x : DraftElement) → element_of names i ≡ Ok x → Bounded (is_with has x)
    unfolding element_of
    item_bound (set_elements.With m) x e n h =
        let b = bind_ok (known names m.name m.line) (λ s. ok_of (With s)) x e in
        stands_bound m.name b.0 (known_ok m.name m.line (symbol_of names m.name) b.0 b.1) n (ap (λ y. is_with has y n) (ok_part (With b.0) x b.2) ∙ h)
    item_bound (set_elements.Without m) x e n h =
        let b = bind_ok (known names m.name m.line) (λ s. ok_of (Without s)) x e in
        absurd (false≢true (ap (λ y. is_with has y n) (ok_part (Without b.0) x b.2) ∙ h))
    item_bound set_elements.Itself x e n h = absurd (false≢true (ap (λ y. is_with has y n) (ok_part Itself x e) ∙ h))

    items_bound : (items : List SetElement) (set els : List DraftElement) → elements_of names set items ≡ Ok els → Bounded (λ n. list_any (λ x. is_with has x n) set) → Bounded (λ n. list_any (λ x. is_with has x n) els)
    items_bound [] set els e so_far n h = so_far n (ap (λ (xs : List DraftElement). list_any (λ x. is_with has x n) xs) (ok_part set els e) ∙ h)
    items_bound (i ∷ items) set els e so_far n h =
        let b = bind_ok (element_of names i) (λ x. elements_of names (set ++ x ∷ []) items) els e in
        let more : Bounded (λ n. list_any (λ x. is_with has x n) (set ++ b.0 ∷ [])) = λ k is.
        elim (one_more (λ x. is_with has x k) set b.0 is) [ inl old ↦ so_far k old | inr here ↦ item_bound i b.0 b.1 k here ] in
        items_bound items (set ++ b.0 ∷ []) els b.2 more n h

    set_bound : (items : List SetElement) (els : List DraftElement) → elements_of names [] items ≡ Ok els → Bounded (holds_type has els)
    set_bound items els e n h = items_bound items [] els e (λ k none. absurd (false≢true none)) n (left _ _ h)

    rule_between : (d end : Draft) (s : Statement) → with_statement names d s ≡ Ok end → Between has d.rules → Between has end.rules
    unfolding with_statement
    rule_between d end (DeclareType w ms) e so_far =
        let b = bind_ok (type_in names w 0) (λ id. given_by names d id ms) end e in
        subst (λ (rs : List DraftRule). Between has rs) (sym (give_rules names ms d end b.0 b.2)) so_far
    rule_between d end (DeclareAttribute w) e so_far = subst (λ (q : Draft). Between has q.rules) (ok_part d end e) so_far
    rule_between d end (GiveAttributes m ms) e so_far =
        let b = bind_ok (type_in names m.name m.line) (λ id. given_by names d id ms) end e in
        subst (λ (rs : List DraftRule). Between has rs) (sym (give_rules names ms d end b.0 b.2)) so_far
    rule_between d end (Allow r) e so_far =
        let b = allow_read names d end r e in
        let rule : DraftRule = rule_of b.0 b.1 (granted r.classes r.perms) in
        let more : Between has (d.rules ++ rule ∷ []) = λ s t perm h.
        elim (one_more (λ (x : DraftRule). is_granted_by has s t perm x) d.rules rule h) [
          | inl old ↦ so_far s t perm old
          | inr here ↦
              let source : s < length names.types = set_bound r.source b.0 b.2 s (right _ _ (left _ _ here)) in (
                source,
                elim (either _ _ (right _ _ here)) [
                  | inl target ↦ set_bound r.target b.1 b.3 t target
                  | inr itself ↦ subst (λ (k : ℕ). k < length names.types) (sym (eqb-true t s (right (names_itself b.1) (t == s) itself))) source
                ],
              )
        ] in
        subst (λ (rs : List DraftRule). Between has rs) (sym b.5) more

    rules_between : (ss : List Statement) (d end : Draft) → resolved_draft names d ss ≡ Ok end → Between has d.rules → Between has end.rules
    rules_between [] d end e so_far = subst (λ (q : Draft). Between has q.rules) (ok_part d end e) so_far
    rules_between (s ∷ ss) d end e so_far =
        let b = bind_ok (with_statement names d s) (λ q. resolved_draft names q ss) end e in
        rules_between ss b.0 end b.2 (rule_between d b.0 s b.1 so_far)

  -- what statements grant lies between declared types
  pub granted_between : (ss : List Statement) (d : Draft) → resolved_draft names nothing_given ss ≡ Ok d → Between (was_given d.given) d.rules
  granted_between ss d e =
      rules_between (was_given d.given) (statements_bound ss nothing_given d e (λ a n none. absurd (false≢true none))) ss nothing_given d e (λ s t perm none. absurd (false≢true none))

-- so do the kept rules of statements
pub grants_within : {S : Type 0} (bytes : S → List ℕ) (items : List S) (seen : Names) (ss : List Statement) (d : Draft) (rules : List AllowRule) → map bytes items ≡ seen.types → resolved_draft seen nothing_given ss ≡ Ok d
    → ((s t : ℕ) (perm : Perms) → some_grants rules s t perm ≡ list_any (λ rule. is_granted_by (was_given d.given) s t perm rule) d.rules) → AreWithin (length items) rules
grants_within {S = S} bytes items seen ss d rules named e same s t perm h =
    let count : length seen.types ≡ length items = ap (λ (ts : List (List ℕ)). length ts) (sym named) ∙ length-map items bytes in
    let found = granted_between seen ss d e s t perm (sym (same s t perm) ∙ h) in
    (omega (arith, found.0), omega (arith, found.1))
