-- What statements grant by names is what a policy allows by numbers.
use Rattle.std.proofs.Common.{◌≡◌, ℕ, ◌==◌, ◌||◌, ◌&&◌, Bool, true, false, List, [], ◌∷◌, ◌++◌, Option, Some, None}
use Rattle.std.proofs.Common.{Result, Ok, Err, refl, sym, ap, ◌∙◌, arith, position, get_or}
use Rattle.std.specs.Prelude.{not}
use Rattle.std.specs.List.{list_any}
use Rattle.std.specs.Str.{bytes_eq}
use Rattle.std.proofs.lemmas.Bool.Decides.{nat_tests}
use Rattle.std.proofs.lemmas.Option.{same_Some, none-some}
use Rattle.std.proofs.lemmas.List.Folds.{list_any-append}
use Rattle.std.proofs.lemmas.List.Quantifiers.{position-Some}
use Rattle.std.proofs.lemmas.Slice.Eq.{bytes_eq-Decides}
use Rattle.gt_types.specs.declared.perms.Perms.{Perms}
use Rattle.gt_policy.specs.declared.fault.TokenFault.{TokenFault}
use Rattle.gt_policy.specs.declared.symbols.Symbol.{Symbol}
use Rattle.gt_policy.specs.declared.symbols.Symbol.TheVariants.{IsType, IsAttribute}
use Rattle.gt_policy.specs.declared.statements.Mention.{Mention}
use Rattle.gt_policy.specs.declared.statements.SetElement.{SetElement}
use Rattle.gt_policy.specs.declared.statements.SetElement.TheVariants as set_elements
use Rattle.gt_policy.specs.declared.statements.Statement.{Statement}
use Rattle.gt_policy.specs.declared.statements.Statement.TheVariants.{DeclareType, DeclareAttribute, GiveAttributes}
use Rattle.gt_policy.specs.declared.statements.Statement.TheVariants.{Allow}
use Rattle.gt_policy.specs.declared.statements.Allowance.{Allowance}
use Rattle.gt_policy.specs.declared.resolve.DraftElement.{DraftElement}
use Rattle.gt_policy.specs.declared.resolve.DraftElement.TheVariants.{With, Without, Itself}
use Rattle.gt_policy.specs.declared.resolve.TypeAttribute.{TypeAttribute}
use Rattle.gt_policy.specs.declared.resolve.DraftRule.{DraftRule}
use Rattle.gt_policy.specs.declared.resolve.Draft.{Draft}
use Rattle.gt_types.specs.declared.TypeId.{TypeId}
use Rattle.std.specs.Option.{option_map}
use Rattle.gt_policy.specs.Spelling.{declared_names}
use Rattle.gt_policy.specs.Whole.{meaning_of}
use Rattle.gt_policy.specs.Accepting.{meant_by}
use Rattle.gt_policy.specs.Names.{Names, symbol_at, symbol_of}
use Rattle.gt_types.specs.Names.{permission_of, is_permission}
use Rattle.gt_policy.specs.Grammar.{◌>>=◌}
use Rattle.gt_policy.specs.Resolving.{known, any_symbol, type_in, type_symbol, attribute_in, attribute_symbol}
use Rattle.gt_policy.specs.Resolving.{element_of, elements_of, given_by, with_allowance, with_statement, resolved_draft}
use Rattle.gt_policy.specs.Resolving.{granted}
use Rattle.gt_policy.specs.Resolving.{has_grant, nothing_given}
use Rattle.gt_policy.specs.Allowing.{was_given, stands_for, is_with, is_without, holds_type, is_itself, names_itself}
use Rattle.gt_policy.specs.Allowing.{is_granted_by, is_allowed, type_named, Meaning}
use Rattle.gt_policy.specs.Granting.{mentions, gives, is_named, names_with, names_without, set_holds, is_self}
use Rattle.gt_policy.specs.Granting.{lists_word, statement_grants, is_granted}
use Rattle.gt_policy.proofs.TextLemmas.{bind_ok}
use Rattle.gt_policy.proofs.PermLemmas.{lists_words}
use Rattle.gt_policy.proofs.BoolLemmas.{or_false, or_no, or_assoc}
use Rattle.gt_policy.proofs.SpellingLemmas.{ok_of, ok_part}

pub known_ok : (w : List ℕ) (n : ℕ) (o : Option Symbol) (s : Symbol) → any_symbol w n o ≡ Ok s → o ≡ Some s
known_ok w n (Some x) s e = ap (λ y. Some y) (ok_part x s e)
known_ok w n None s e = absurd (cc)

pub type_ok : (w : List ℕ) (n : ℕ) (o : Option Symbol) (i : ℕ) → type_symbol w n o ≡ Ok i → o ≡ Some (IsType i)
type_ok w n (Some (IsType x)) i e = ap (λ y. Some (IsType y)) (ok_part x i e)
type_ok w n (Some (IsAttribute x)) i e = absurd (cc)
type_ok w n None i e = absurd (cc)

attribute_ok : (w : List ℕ) (n : ℕ) (o : Option Symbol) (i : ℕ) → attribute_symbol w n o ≡ Ok i → o ≡ Some (IsAttribute i)
attribute_ok w n (Some (IsType x)) i e = absurd (cc)
attribute_ok w n (Some (IsAttribute x)) i e = ap (λ y. Some (IsAttribute y)) (ok_part x i e)
attribute_ok w n None i e = absurd (cc)

-- a name that stands at a place is the one there
at_place : (names : List (List ℕ)) (v w : List ℕ) (i : ℕ) → position (λ t. bytes_eq t v) names ≡ Some i → position (λ t. bytes_eq t w) names ≡ Some i → v ≡ w
at_place names v w i e f =
    let a = position-Some (λ t. bytes_eq t v) names i [] e in
    let b = position-Some (λ t. bytes_eq t w) names i [] f in
    sym ((bytes_eq-Decides (get_or names i []) v).0 a.1) ∙ (bytes_eq-Decides (get_or names i []) w).0 b.1

pub type_place : (t a : Option ℕ) (i : ℕ) → symbol_at t a ≡ Some (IsType i) → t ≡ Some i
type_place (Some j) a i e = ap (λ y. Some y) (let same : IsType j ≡ IsType i = same_Some (IsType j) (IsType i) e in cc)
type_place None (Some j) i e = let same : IsAttribute j ≡ IsType i = same_Some (IsAttribute j) (IsType i) e in absurd (cc)
type_place None None i e = absurd (none-some (IsType i) e)

attribute_place : (t a : Option ℕ) (i : ℕ) → symbol_at t a ≡ Some (IsAttribute i) → a ≡ Some i
attribute_place (Some j) a i e = let same : IsType j ≡ IsAttribute i = same_Some (IsType j) (IsAttribute i) e in absurd (cc)
attribute_place None (Some j) i e = ap (λ y. Some y) (let same : IsAttribute j ≡ IsAttribute i = same_Some (IsAttribute j) (IsAttribute i) e in cc)
attribute_place None None i e = absurd (none-some (IsAttribute i) e)

-- two names of one kind are the same where their numbers are
same_symbol : (names : Names) (make : ℕ → Symbol) (declared : List (List ℕ)) (v w : List ℕ) (i j : ℕ) → ((a b : ℕ) → make a ≡ make b → a ≡ b)
    → ((u : List ℕ) (a : ℕ) → symbol_of names u ≡ Some (make a) → position (λ t. bytes_eq t u) declared ≡ Some a)
    → symbol_of names v ≡ Some (make j) → symbol_of names w ≡ Some (make i) → bytes_eq v w ≡ (i == j)
same_symbol names make declared v w i j apart place e f = go (bytes_eq v w) refl
  where
    go : (b : Bool) → bytes_eq v w ≡ b → b ≡ (i == j)
    go true s =
        let same : Some (make j) ≡ Some (make i) = sym e ∙ ap (λ u. symbol_of names u) ((bytes_eq-Decides v w).0 s) ∙ f in
        let equal : j ≡ i = apart j i (same_Some (make j) (make i) same) in grind (arith, nat_tests)
    go false s = other (i == j) refl
      where
        other : (c : Bool) → (i == j) ≡ c → false ≡ c
        other true t =
            let equal : i ≡ j = grind (arith, nat_tests) in
            let there : symbol_of names v ≡ Some (make i) = e ∙ ap (λ k. Some (make k)) (sym equal) in
            let same = at_place declared v w i (place v i there) (place w i f) in
            sym s ∙ (bytes_eq-Decides v w).1 same
        other false t = refl

same_type : (names : Names) (v w : List ℕ) (i j : ℕ) → symbol_of names v ≡ Some (IsType j) → symbol_of names w ≡ Some (IsType i) → bytes_eq v w ≡ (i == j)
same_type names v w i j e f = same_symbol names (λ n. IsType n) names.types v w i j (λ a b h. cc) (λ u a h. type_place _ _ a h) e f

same_attribute : (names : Names) (v w : List ℕ) (i j : ℕ) → symbol_of names v ≡ Some (IsAttribute j) → symbol_of names w ≡ Some (IsAttribute i) → bytes_eq v w ≡ (i == j)
same_attribute names v w i j e f = same_symbol names (λ n. IsAttribute n) names.attributes v w i j (λ a b h. cc) (λ u a h. attribute_place _ _ a h) e f

-- a type is no attribute
apart : (names : Names) (v w : List ℕ) (i j : ℕ) → symbol_of names v ≡ Some (IsAttribute j) → symbol_of names w ≡ Some (IsType i) → bytes_eq v w ≡ false
apart names v w i j e f = go (bytes_eq v w) refl
  where
    go : (b : Bool) → bytes_eq v w ≡ b → b ≡ false
    go true s =
        let same : Some (IsAttribute j) ≡ Some (IsType i) = sym e ∙ ap (λ u. symbol_of names u) ((bytes_eq-Decides v w).0 s) ∙ f in
        let number : IsAttribute j ≡ IsType i = same_Some (IsAttribute j) (IsType i) same in absurd (cc)
    go false s = refl

pub bytes_eq_swap : (v w : List ℕ) → bytes_eq v w ≡ bytes_eq w v
bytes_eq_swap v w = go (bytes_eq v w) (bytes_eq w v) refl refl
  where
    go : (b c : Bool) → bytes_eq v w ≡ b → bytes_eq w v ≡ c → b ≡ c
    go true c e f = sym ((bytes_eq-Decides w v).1 (sym ((bytes_eq-Decides v w).0 e))) ∙ f
    go false true e f = sym e ∙ (bytes_eq-Decides v w).1 (sym ((bytes_eq-Decides w v).0 f))
    go false false e f = refl

and_false : (b : Bool) → (b && false) ≡ false
and_false true = refl
and_false false = refl

one_given : (x y p q : Bool) → ((x || ((y && p) || false)) || (y && q)) ≡ (x || (y && (p || q)))
one_given true y p q = refl
one_given false true true q = refl
one_given false true false q = refl
one_given false false p q = refl

-- attributes that a statement gives
give_read : (names : Names) (aw : List ℕ) (a : ℕ) → symbol_of names aw ≡ Some (IsAttribute a) → (ms : List Mention) (d end : Draft) (id n : ℕ) → given_by names d id ms ≡ Ok end
    → was_given end.given a n ≡ (was_given d.given a n || ((n == id) && mentions ms aw))
give_read names aw a is [] d end id n e = ap (λ (q : Draft). was_given q.given a n) (sym (ok_part d end e)) ∙ or_no (was_given d.given a n) (n == id)
give_read names aw a is (m ∷ ms) d end id n e =
    let next : ℕ → Draft = λ b. record { given = d.given ++ record { to = id; attribute = b } ∷ []; rules = d.rules } in
    let b = bind_ok (attribute_in names m.name m.line) (λ b. given_by names (next b) id ms) end e in
    let here = attribute_ok m.name m.line (symbol_of names m.name) b.0 b.1 in
    give_read names aw a is ms (next b.0) end id n b.2
    ∙ ap (λ x. x || ((n == id) && mentions ms aw)) (list_any-append (λ (g : TypeAttribute). (n == g.to) && (a == g.attribute)) d.given (record { to = id; attribute = b.0 } ∷ []))
    ∙ one_given (was_given d.given a n) (n == id) (a == b.0) (mentions ms aw)
    ∙ ap (λ x. was_given d.given a n || ((n == id) && (x || mentions ms aw))) (sym (same_attribute names m.name aw a b.0 here is))

pub give_rules : (names : Names) (ms : List Mention) (d end : Draft) (id : ℕ) → given_by names d id ms ≡ Ok end → end.rules ≡ d.rules
give_rules names [] d end id e = ap (λ (q : Draft). q.rules) (sym (ok_part d end e))
give_rules names (m ∷ ms) d end id e =
    let next : ℕ → Draft = λ b. record { given = d.given ++ record { to = id; attribute = b } ∷ []; rules = d.rules } in
    let b = bind_ok (attribute_in names m.name m.line) (λ b. given_by names (next b) id ms) end e in
    give_rules names ms (next b.0) end id b.2

give_none : (names : Names) (w : List ℕ) (i : ℕ) → symbol_of names w ≡ Some (IsType i) → (ms : List Mention) (d end : Draft) (id : ℕ) → given_by names d id ms ≡ Ok end → mentions ms w ≡ false
give_none names w i is [] d end id e = refl
give_none names w i is (m ∷ ms) d end id e =
    let next : ℕ → Draft = λ b. record { given = d.given ++ record { to = id; attribute = b } ∷ []; rules = d.rules } in
    let b = bind_ok (attribute_in names m.name m.line) (λ b. given_by names (next b) id ms) end e in
    let here = attribute_ok m.name m.line (symbol_of names m.name) b.0 b.1 in
    let other = apart names m.name w i b.0 here is in
    rw other (give_none names w i is ms (next b.0) end id b.2)

-- an allow statement
abbrev pub rule_of : List DraftElement → List DraftElement → Perms → DraftRule
rule_of s t p = record { source = s; target = t; perms = p }

pub allow_read : (names : Names) (d end : Draft) (a : Allowance) → with_allowance names d a ≡ Ok end
    → (s : List DraftElement) × (t : List DraftElement) × (elements_of names [] a.source ≡ Ok s) × (elements_of names [] a.target ≡ Ok t) × (end.given ≡ d.given) × (end.rules ≡ d.rules ++ rule_of s t (granted a.classes a.perms) ∷ [])
unfolding with_allowance
allow_read names d end a e =
    let made : List DraftElement → List DraftElement → Draft = λ s t. record { given = d.given; rules = d.rules ++ rule_of s t (granted a.classes a.perms) ∷ [] } in
    let b1 = bind_ok (elements_of names [] a.source) (λ s. elements_of names [] a.target >>= λ t. ok_of (made s t)) end e in
    let b2 = bind_ok (elements_of names [] a.target) (λ t. ok_of (made b1.0 t)) end b1.2 in
    let same = sym (ok_part (made b1.0 b2.0) end b2.2) in
    (b1.0, b2.0, b1.1, b2.1, ap (λ (q : Draft). q.given) same, ap (λ (q : Draft). q.rules) same)

-- attributes that statements give
statement_given : (names : Names) (aw t : List ℕ) (a n : ℕ) → symbol_of names aw ≡ Some (IsAttribute a) → symbol_of names t ≡ Some (IsType n) → (s : Statement) (d end : Draft) → with_statement names d s ≡ Ok end
    → was_given end.given a n ≡ (was_given d.given a n || gives s aw t)
unfolding with_statement
statement_given names aw t a n is_a is_t (DeclareType w ms) d end e =
    let b = bind_ok (type_in names w 0) (λ id. given_by names d id ms) end e in
    let here = type_ok w 0 (symbol_of names w) b.0 b.1 in
    give_read names aw a is_a ms d end b.0 n b.2 ∙ ap (λ x. was_given d.given a n || (x && mentions ms aw)) (sym (same_type names w t n b.0 here is_t))
statement_given names aw t a n is_a is_t (DeclareAttribute w) d end e = ap (λ (q : Draft). was_given q.given a n) (sym (ok_part d end e)) ∙ or_false (was_given d.given a n)
statement_given names aw t a n is_a is_t (GiveAttributes m ms) d end e =
    let b = bind_ok (type_in names m.name m.line) (λ id. given_by names d id ms) end e in
    let here = type_ok m.name m.line (symbol_of names m.name) b.0 b.1 in
    give_read names aw a is_a ms d end b.0 n b.2 ∙ ap (λ x. was_given d.given a n || (x && mentions ms aw)) (sym (same_type names m.name t n b.0 here is_t))
statement_given names aw t a n is_a is_t (Allow r) d end e =
    let b = allow_read names d end r e in
    ap (λ (g : List TypeAttribute). was_given g a n) b.4 ∙ or_false (was_given d.given a n)

statements_given : (names : Names) (aw t : List ℕ) (a n : ℕ) → symbol_of names aw ≡ Some (IsAttribute a) → symbol_of names t ≡ Some (IsType n) → (ss : List Statement) (d end : Draft) → resolved_draft names d ss ≡ Ok end
    → was_given end.given a n ≡ (was_given d.given a n || list_any (λ s. gives s aw t) ss)
statements_given names aw t a n is_a is_t [] d end e = ap (λ (q : Draft). was_given q.given a n) (sym (ok_part d end e)) ∙ or_false (was_given d.given a n)
statements_given names aw t a n is_a is_t (s ∷ ss) d end e =
    let b = bind_ok (with_statement names d s) (λ q. resolved_draft names q ss) end e in
    statements_given names aw t a n is_a is_t ss b.0 end b.2 ∙ ap (λ x. x || list_any (λ s. gives s aw t) ss) (statement_given names aw t a n is_a is_t s d b.0 b.1)
    ∙ or_assoc (was_given d.given a n) (gives s aw t) (list_any (λ s. gives s aw t) ss)

statement_none : (names : Names) (w t : List ℕ) (i : ℕ) → symbol_of names w ≡ Some (IsType i) → (s : Statement) (d end : Draft) → with_statement names d s ≡ Ok end → gives s w t ≡ false
unfolding with_statement
statement_none names w t i is (DeclareType v ms) d end e =
    let b = bind_ok (type_in names v 0) (λ id. given_by names d id ms) end e in
    ap (λ x. bytes_eq v t && x) (give_none names w i is ms d end b.0 b.2) ∙ and_false (bytes_eq v t)
statement_none names w t i is (DeclareAttribute v) d end e = refl
statement_none names w t i is (GiveAttributes m ms) d end e =
    let b = bind_ok (type_in names m.name m.line) (λ id. given_by names d id ms) end e in
    ap (λ x. bytes_eq m.name t && x) (give_none names w i is ms d end b.0 b.2) ∙ and_false (bytes_eq m.name t)
statement_none names w t i is (Allow r) d end e = refl

statements_none : (names : Names) (w t : List ℕ) (i : ℕ) → symbol_of names w ≡ Some (IsType i) → (ss : List Statement) (d end : Draft) → resolved_draft names d ss ≡ Ok end → list_any (λ s. gives s w t) ss ≡ false
statements_none names w t i is [] d end e = refl
statements_none names w t i is (s ∷ ss) d end e =
    let b = bind_ok (with_statement names d s) (λ q. resolved_draft names q ss) end e in
    ap (λ x. x || list_any (λ s. gives s w t) ss) (statement_none names w t i is s d b.0 b.1) ∙ statements_none names w t i is ss b.0 end b.2

-- what is given by number is given by name
record Knows (names : Names) (ss : List Statement) (has : ℕ → ℕ → Bool) : Type 0 where
  given : (aw t : List ℕ) (a n : ℕ) → symbol_of names aw ≡ Some (IsAttribute a) → symbol_of names t ≡ Some (IsType n) → has a n ≡ list_any (λ s. gives s aw t) ss
  none : (w t : List ℕ) (i : ℕ) → symbol_of names w ≡ Some (IsType i) → list_any (λ s. gives s w t) ss ≡ false

module _ (names : Names) (ss : List Statement) (has : ℕ → ℕ → Bool) (knows : Knows names ss has) where
  stands_named : (w t : List ℕ) (n : ℕ) (s : Symbol) → symbol_of names w ≡ Some s → symbol_of names t ≡ Some (IsType n) → stands_for has s n ≡ is_named ss w t
  stands_named w t n (IsType i) e is = sym (same_type names w t n i e is) ∙ or_false (bytes_eq w t) ∙ ap (λ x. bytes_eq w t || x) (sym (knows.none w t i e))
  stands_named w t n (IsAttribute a) e is = knows.given w t a n e is ∙ ap (λ x. x || list_any (λ s. gives s w t) ss) (sym (apart names w t n a e is))

  item_with : (t : List ℕ) (n : ℕ) → symbol_of names t ≡ Some (IsType n) → (i : SetElement) (x : DraftElement) → element_of names i ≡ Ok x → is_with has x n ≡ names_with ss i t
  unfolding element_of
  item_with t n is (set_elements.With m) x e =
      let b = bind_ok (known names m.name m.line) (λ s. ok_of (With s)) x e in
      ap (λ y. is_with has y n) (sym (ok_part (With b.0) x b.2)) ∙ stands_named m.name t n b.0 (known_ok m.name m.line (symbol_of names m.name) b.0 b.1) is
  item_with t n is (set_elements.Without m) x e =
      let b = bind_ok (known names m.name m.line) (λ s. ok_of (Without s)) x e in
      ap (λ y. is_with has y n) (sym (ok_part (Without b.0) x b.2))
  item_with t n is set_elements.Itself x e = ap (λ y. is_with has y n) (sym (ok_part Itself x e))

  item_without : (t : List ℕ) (n : ℕ) → symbol_of names t ≡ Some (IsType n) → (i : SetElement) (x : DraftElement) → element_of names i ≡ Ok x → is_without has x n ≡ names_without ss i t
  unfolding element_of
  item_without t n is (set_elements.With m) x e =
      let b = bind_ok (known names m.name m.line) (λ s. ok_of (With s)) x e in
      ap (λ y. is_without has y n) (sym (ok_part (With b.0) x b.2))
  item_without t n is (set_elements.Without m) x e =
      let b = bind_ok (known names m.name m.line) (λ s. ok_of (Without s)) x e in
      ap (λ y. is_without has y n) (sym (ok_part (Without b.0) x b.2)) ∙ stands_named m.name t n b.0 (known_ok m.name m.line (symbol_of names m.name) b.0 b.1) is
  item_without t n is set_elements.Itself x e = ap (λ y. is_without has y n) (sym (ok_part Itself x e))

  item_self : (i : SetElement) (x : DraftElement) → element_of names i ≡ Ok x → is_itself x ≡ is_self i
  unfolding element_of
  item_self (set_elements.With m) x e =
      let b = bind_ok (known names m.name m.line) (λ s. ok_of (With s)) x e in
      ap (λ y. is_itself y) (sym (ok_part (With b.0) x b.2))
  item_self (set_elements.Without m) x e =
      let b = bind_ok (known names m.name m.line) (λ s. ok_of (Without s)) x e in
      ap (λ y. is_itself y) (sym (ok_part (Without b.0) x b.2))
  item_self set_elements.Itself x e = ap (λ y. is_itself y) (sym (ok_part Itself x e))

  items_any : (p : DraftElement → Bool) (q : SetElement → Bool) → ((i : SetElement) (x : DraftElement) → element_of names i ≡ Ok x → p x ≡ q i) → (items : List SetElement) (set els : List DraftElement) → elements_of names set items ≡ Ok els
      → list_any p els ≡ (list_any p set || list_any q items)
  items_any p q each [] set els e = ap (λ (xs : List DraftElement). list_any p xs) (sym (ok_part set els e)) ∙ or_false (list_any p set)
  items_any p q each (i ∷ items) set els e =
      let b = bind_ok (element_of names i) (λ x. elements_of names (set ++ x ∷ []) items) els e in
      items_any p q each items (set ++ b.0 ∷ []) els b.2
      ∙ ap (λ x. x || list_any q items) (list_any-append p set (b.0 ∷ []) ∙ ap (λ x. list_any p set || x) (sym (or_false (p b.0)) ∙ each i b.0 b.1))
      ∙ or_assoc (list_any p set) (q i) (list_any q items)

  set_named : (t : List ℕ) (n : ℕ) → symbol_of names t ≡ Some (IsType n) → (items : List SetElement) (els : List DraftElement) → elements_of names [] items ≡ Ok els → holds_type has els n ≡ set_holds ss items t
  set_named t n is items els e =
      ap (λ x. x && not (list_any (λ y. is_without has y n) els)) (items_any (λ y. is_with has y n) (λ i. names_with ss i t) (item_with t n is) items [] els e)
      ∙ ap (λ x. list_any (λ i. names_with ss i t) items && not x) (items_any (λ y. is_without has y n) (λ i. names_without ss i t) (item_without t n is) items [] els e)

  -- rules
  statement_rules : (s t w : List ℕ) (i j : ℕ) (perm : Perms) → symbol_of names s ≡ Some (IsType i) → symbol_of names t ≡ Some (IsType j) → permission_of w ≡ Some perm → (x : Statement) (d end : Draft) → with_statement names d x ≡ Ok end
      → list_any (λ r. is_granted_by has i j perm r) end.rules ≡ (list_any (λ r. is_granted_by has i j perm r) d.rules || statement_grants ss s t w x)
  unfolding with_statement
  statement_rules s t w i j perm is_s is_t is_w (DeclareType v ms) d end e =
      let b = bind_ok (type_in names v 0) (λ id. given_by names d id ms) end e in
      ap (λ (rs : List DraftRule). list_any (λ r. is_granted_by has i j perm r) rs) (give_rules names ms d end b.0 b.2) ∙ or_false (list_any (λ r. is_granted_by has i j perm r) d.rules)
  statement_rules s t w i j perm is_s is_t is_w (DeclareAttribute v) d end e =
      ap (λ (q : Draft). list_any (λ r. is_granted_by has i j perm r) q.rules) (sym (ok_part d end e)) ∙ or_false (list_any (λ r. is_granted_by has i j perm r) d.rules)
  statement_rules s t w i j perm is_s is_t is_w (GiveAttributes m ms) d end e =
      let b = bind_ok (type_in names m.name m.line) (λ id. given_by names d id ms) end e in
      ap (λ (rs : List DraftRule). list_any (λ r. is_granted_by has i j perm r) rs) (give_rules names ms d end b.0 b.2) ∙ or_false (list_any (λ r. is_granted_by has i j perm r) d.rules)
  statement_rules s t w i j perm is_s is_t is_w (Allow a) d end e =
      let b = allow_read names d end a e in
      let p : DraftRule → Bool = λ r. is_granted_by has i j perm r in
      let source = set_named s i is_s a.source b.0 b.2 in
      let target = set_named t j is_t a.target b.1 b.3 in
      let self = items_any is_itself is_self item_self a.target [] b.1 b.3 in
      let one = same_type names s t j i is_s is_t in
      let listed = lists_words a.classes a.perms w perm is_w in
      ap (λ (rs : List DraftRule). list_any p rs) b.5 ∙ list_any-append p d.rules (rule_of b.0 b.1 (granted a.classes a.perms) ∷ [])
      ∙ ap (λ x. list_any p d.rules || x) (sym (or_false (p (rule_of b.0 b.1 (granted a.classes a.perms))))
      ∙ ap (λ x. (x && holds_type has b.0 i) && (holds_type has b.1 j || (names_itself b.1 && (j == i)))) listed
      ∙ ap (λ x. ((has_grant a.classes && lists_word a.perms w) && x) && (holds_type has b.1 j || (names_itself b.1 && (j == i)))) source
      ∙ ap (λ x. ((has_grant a.classes && lists_word a.perms w) && set_holds ss a.source s) && (x || (names_itself b.1 && (j == i)))) target
      ∙ ap (λ x. ((has_grant a.classes && lists_word a.perms w) && set_holds ss a.source s) && (set_holds ss a.target t || (x && (j == i)))) self
      ∙ ap (λ x. ((has_grant a.classes && lists_word a.perms w) && set_holds ss a.source s) && (set_holds ss a.target t || (list_any is_self a.target && x))) (sym one))

  statements_rules : (s t w : List ℕ) (i j : ℕ) (perm : Perms) → symbol_of names s ≡ Some (IsType i) → symbol_of names t ≡ Some (IsType j) → permission_of w ≡ Some perm → (xs : List Statement) (d end : Draft) → resolved_draft names d xs ≡ Ok end
      → list_any (λ r. is_granted_by has i j perm r) end.rules ≡ (list_any (λ r. is_granted_by has i j perm r) d.rules || list_any (λ x. statement_grants ss s t w x) xs)
  statements_rules s t w i j perm is_s is_t is_w [] d end e =
      ap (λ (q : Draft). list_any (λ r. is_granted_by has i j perm r) q.rules) (sym (ok_part d end e)) ∙ or_false (list_any (λ r. is_granted_by has i j perm r) d.rules)
  statements_rules s t w i j perm is_s is_t is_w (x ∷ xs) d end e =
      let b = bind_ok (with_statement names d x) (λ q. resolved_draft names q xs) end e in
      statements_rules s t w i j perm is_s is_t is_w xs b.0 end b.2
      ∙ ap (λ y. y || list_any (λ x. statement_grants ss s t w x) xs) (statement_rules s t w i j perm is_s is_t is_w x d b.0 b.1)
      ∙ or_assoc (list_any (λ r. is_granted_by has i j perm r) d.rules) (statement_grants ss s t w x) (list_any (λ x. statement_grants ss s t w x) xs)

meaning_ok : (names : Names) (r : Result Draft TokenFault) (m : Meaning) → meaning_of names r ≡ Ok m → (d : Draft) × (r ≡ Ok d) × (m.types ≡ names.types) × (m.given ≡ d.given) × (m.rules ≡ d.rules)
meaning_ok names (Ok d) m e =
    let made : Meaning = record { types = names.types; given = d.given; rules = d.rules } in
    let same = sym (ok_part made m e) in
    (d, refl, ap (λ q. q.types) same, ap (λ q. q.given) same, ap (λ q. q.rules) same)
meaning_ok names (Err f) m e = absurd (cc)

type_at : (types attributes : List (List ℕ)) (w : List ℕ) (o a : Option ℕ) (i : TypeId) → option_map (λ k. let t : TypeId = record { 0 = k } in t) o ≡ Some i → symbol_at o a ≡ Some (IsType i.0)
type_at types attributes w (Some k) a i e =
    let t : TypeId = record { 0 = k } in
    ap (λ (q : TypeId). let s : Option Symbol = Some (IsType q.0) in s) (same_Some t i e)
type_at types attributes w None a i e = absurd (none-some i e)

-- what a policy allows is what its statements grant
pub allowed_granted : ((w : List ℕ) (perm : Perms) → permission_of w ≡ Some perm → is_permission perm ≡ true) → (ss : List Statement) (m : Meaning) (s t w : List ℕ) (i j : TypeId) (perm : Perms) → meant_by ss ≡ Ok m → type_named m.types s ≡ Some i → type_named m.types t ≡ Some j → permission_of w ≡ Some perm
    → is_allowed m i.0 j.0 perm ≡ is_granted ss s t w
allowed_granted named_one ss m s t w i j perm e is_s is_t is_w =
    let names : Names = declared_names ss in
    let r = meaning_ok names (resolved_draft names nothing_given ss) m e in
    let types : (v : List ℕ) (k : TypeId) → type_named m.types v ≡ Some k → symbol_of names v ≡ Some (IsType k.0) =
    λ v k is. type_at names.types names.attributes v (position (λ t. bytes_eq t v) names.types) (position (λ a. bytes_eq a v) names.attributes) k (ap (λ (ts : List (List ℕ)). type_named ts v) (sym r.2) ∙ is) in
    let knows : Knows names ss (was_given r.0.given) = record {
      given = λ aw v a n is_a is_v. statements_given names aw v a n is_a is_v ss nothing_given r.0 r.1;
      none = λ v u k is. statements_none names v u k is ss nothing_given r.0 r.1;
    } in
    ap (λ b. b && list_any (λ rule. is_granted_by (was_given m.given) i.0 j.0 perm rule) m.rules) (named_one w perm is_w)
    ∙ ap (λ (g : List TypeAttribute). list_any (λ rule. is_granted_by (was_given g) i.0 j.0 perm rule) m.rules) r.3
    ∙ ap (λ (rs : List DraftRule). list_any (λ rule. is_granted_by (was_given r.0.given) i.0 j.0 perm rule) rs) r.4
    ∙ statements_rules names ss (was_given r.0.given) knows s t w i.0 j.0 perm (types s i is_s) (types t j is_t) is_w ss nothing_given r.0 r.1
