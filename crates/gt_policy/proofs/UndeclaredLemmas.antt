-- Names are looked up one after the other, so the fault is that of the first that is not declared.
use Rattle.std.proofs.Common.{subst, ◌≡◌, ℕ, ◌||◌, ◌&&◌, Bool, true, false, List, [], ◌∷◌, ◌++◌, Option, Some, None}
use Rattle.std.proofs.Common.{is_some, Result, Ok, Err, position, refl, sym, ap, ◌∙◌, append_assoc}
use Rattle.std.specs.List.{list_any, list_all}
use Rattle.std.specs.Str.{bytes_eq}
use Rattle.std.proofs.lemmas.List.Folds.{list_all-append}
use Rattle.std.proofs.lemmas.Bool.{false≢true}
use Rattle.std.proofs.lemmas.Slice.Eq.{bytes_eq-Decides}
use Rattle.gt_policy.specs.declared.fault.TokenFault.{TokenFault}
use Rattle.gt_policy.specs.declared.fault.TokenFaultKind.TheVariants.{Unknown}
use Rattle.gt_policy.specs.declared.symbols.Symbol.{Symbol}
use Rattle.gt_policy.specs.declared.statements.Mention.{Mention}
use Rattle.gt_policy.specs.declared.statements.SetElement.{SetElement}
use Rattle.gt_policy.specs.declared.statements.SetElement.TheVariants as set_elements
use Rattle.gt_policy.specs.declared.statements.Statement.{Statement}
use Rattle.gt_policy.specs.declared.statements.Statement.TheVariants.{DeclareType, DeclareAttribute, GiveAttributes}
use Rattle.gt_policy.specs.declared.statements.Statement.TheVariants.{Allow}
use Rattle.gt_policy.specs.declared.statements.Allowance.{Allowance}
use Rattle.gt_policy.specs.declared.resolve.DraftElement.{DraftElement}
use Rattle.gt_policy.specs.declared.resolve.DraftElement.TheVariants.{With, Without}
use Rattle.gt_policy.specs.declared.resolve.Draft.{Draft}
use Rattle.gt_policy.specs.Names.{symbol_at, symbol_of}
use Rattle.gt_policy.specs.Grammar.{◌>>=◌, at}
use Rattle.gt_policy.specs.Spelling.{types_in, attributes_in, declared_in, declared_names, AreDistinct, AreClean}
use Rattle.gt_policy.specs.Allowing.{Meaning}
use Rattle.gt_policy.specs.Resolving.{known, any_symbol, type_in, type_symbol, attribute_in, attribute_symbol}
use Rattle.gt_policy.specs.Resolving.{element_of, elements_of, given_by, with_allowance, with_statement, resolved_draft}
use Rattle.gt_policy.specs.Resolving.{granted}
use Rattle.gt_policy.specs.Resolving.{nothing_given}
use Rattle.gt_policy.specs.Whole.{meaning_of}
use Rattle.gt_policy.specs.Accepting.{meant_by}
use Rattle.gt_policy.specs.Undeclared.{Role, InSet, OfType, OfAttribute, Use, all_used, set_uses, statement_uses}
use Rattle.gt_policy.specs.Undeclared.{uses_of, is_type, is_attribute, is_met, AreDeclared, IsFirstUndeclared}
use Rattle.gt_policy.proofs.CleanLemmas.{declared_known, is_some_position}
use Rattle.gt_policy.proofs.GrantingLemmas.{bytes_eq_swap}
use Rattle.gt_policy.proofs.SpellingLemmas.{ok_of}

-- a walk over these names ends well where all are declared, and else with the fault of the first that is not
abbrev Tells : {X : Type 0} → List Statement → List Use → Result X TokenFault → Type 0
Tells ss us (Ok x) = list_all (is_met ss) us ≡ true
Tells ss us (Err f) = IsFirstUndeclared ss us f

and_true : (a b : Bool) → a ≡ true → b ≡ true → (a && b) ≡ true
and_true a b x y = rw (x, y) refl

left_true : (a b : Bool) → (a && b) ≡ true → a ≡ true
left_true true b e = refl
left_true false b e = absurd (cc)

right_true : (a b : Bool) → (a && b) ≡ true → b ≡ true
right_true true b e = e
right_true false b e = absurd (cc)

or_true : (a b : Bool) → b ≡ true → (a || b) ≡ true
or_true true b e = refl
or_true false b e = e

both_declared : (ss : List Statement) (us vs : List Use) → list_all (is_met ss) us ≡ true → list_all (is_met ss) vs ≡ true → list_all (is_met ss) (us ++ vs) ≡ true
both_declared ss us vs a b = list_all-append (is_met ss) us vs ∙ and_true (list_all (is_met ss) us) (list_all (is_met ss) vs) a b

first_in_front : (ss : List Statement) (us vs : List Use) (f : TokenFault) → IsFirstUndeclared ss us f → IsFirstUndeclared ss (us ++ vs) f
first_in_front ss us vs f r = record {
  before = r.before;
  here = r.here;
  behind = r.behind ++ vs;
  place = ap (λ xs. xs ++ vs) r.place ∙ append_assoc r.before (r.here ∷ r.behind) vs;
  declared = r.declared;
  undeclared = r.undeclared;
  fault = r.fault;
}

first_behind : (ss : List Statement) (us vs : List Use) (f : TokenFault) → list_all (is_met ss) us ≡ true → IsFirstUndeclared ss vs f → IsFirstUndeclared ss (us ++ vs) f
first_behind ss us vs f all r = record {
  before = us ++ r.before;
  here = r.here;
  behind = r.behind;
  place = ap (λ xs. us ++ xs) r.place ∙ sym (append_assoc us r.before (r.here ∷ r.behind));
  declared = both_declared ss us r.before all r.declared;
  undeclared = r.undeclared;
  fault = r.fault;
}

tells_behind : {B : Type 0} (ss : List Statement) (us vs : List Use) (r : Result B TokenFault) → list_all (is_met ss) us ≡ true → Tells ss vs r → Tells ss (us ++ vs) r
tells_behind ss us vs (Ok y) all t = both_declared ss us vs all t
tells_behind ss us vs (Err f) all t = first_behind ss us vs f all t

-- one walk after the other
tells_bind : {A B : Type 0} (ss : List Statement) (us vs : List Use) (m : Result A TokenFault) (k : A → Result B TokenFault) → Tells ss us m → ((x : A) → Tells ss vs (k x)) → Tells ss (us ++ vs) (m >>= k)
tells_bind ss us vs (Ok x) k t step = tells_behind ss us vs (k x) t (step x)
tells_bind ss us vs (Err f) k t step = first_in_front ss us vs f t

tells_made : {A B : Type 0} (ss : List Statement) (us : List Use) (m : Result A TokenFault) (g : A → B) → Tells ss us m → Tells ss us (m >>= λ x. Ok (g x))
tells_made ss us (Ok x) g t = t
tells_made ss us (Err f) g t = t

one_declared : (ss : List Statement) (u : Use) → is_met ss u ≡ true → list_all (is_met ss) (u ∷ []) ≡ true
one_declared ss u e = and_true (is_met ss u) true e refl

-- no name is a type and an attribute
declared_type : (ss : List Statement) (w : List ℕ) → is_type ss w ≡ true → list_any (λ v. bytes_eq w v) (declared_in ss) ≡ true
declared_type [] w e = absurd (cc)
declared_type (DeclareType v ms ∷ ss) w e = go (λ h. declared_type ss w h) (bytes_eq v w) refl e
  where
    go : (is_type ss w ≡ true → list_any (λ u. bytes_eq w u) (declared_in ss) ≡ true) → (b : Bool) → bytes_eq v w ≡ b → (b || is_type ss w) ≡ true → (bytes_eq w v || list_any (λ u. bytes_eq w u) (declared_in ss)) ≡ true
    go more true x h = ap (λ b. b || list_any (λ u. bytes_eq w u) (declared_in ss)) (bytes_eq_swap w v ∙ x)
    go more false x h = ap (λ b. b || list_any (λ u. bytes_eq w u) (declared_in ss)) (bytes_eq_swap w v ∙ x) ∙ more h
declared_type (DeclareAttribute v ∷ ss) w e = or_true (bytes_eq w v) (list_any (λ u. bytes_eq w u) (declared_in ss)) (declared_type ss w e)
declared_type (GiveAttributes m ms ∷ ss) w e = declared_type ss w e
declared_type (Allow a ∷ ss) w e = declared_type ss w e

declared_attribute : (ss : List Statement) (w : List ℕ) → is_attribute ss w ≡ true → list_any (λ v. bytes_eq w v) (declared_in ss) ≡ true
declared_attribute [] w e = absurd (cc)
declared_attribute (DeclareAttribute v ∷ ss) w e = go (λ h. declared_attribute ss w h) (bytes_eq v w) refl e
  where
    go : (is_attribute ss w ≡ true → list_any (λ u. bytes_eq w u) (declared_in ss) ≡ true) → (b : Bool) → bytes_eq v w ≡ b → (b || is_attribute ss w) ≡ true → (bytes_eq w v || list_any (λ u. bytes_eq w u) (declared_in ss)) ≡ true
    go more true x h = ap (λ b. b || list_any (λ u. bytes_eq w u) (declared_in ss)) (bytes_eq_swap w v ∙ x)
    go more false x h = ap (λ b. b || list_any (λ u. bytes_eq w u) (declared_in ss)) (bytes_eq_swap w v ∙ x) ∙ more h
declared_attribute (DeclareType v ms ∷ ss) w e = or_true (bytes_eq w v) (list_any (λ u. bytes_eq w u) (declared_in ss)) (declared_attribute ss w e)
declared_attribute (GiveAttributes m ms ∷ ss) w e = declared_attribute ss w e
declared_attribute (Allow a ∷ ss) w e = declared_attribute ss w e

kinds_apart : (ss : List Statement) (w : List ℕ) → AreDistinct (declared_in ss) → is_type ss w ≡ true → is_attribute ss w ≡ false
kinds_apart [] w d e = refl
kinds_apart (DeclareType v ms ∷ ss) w d e = go (λ h. kinds_apart ss w d.1 h) (bytes_eq v w) refl e
  where
    none : (b : Bool) → v ≡ w → is_attribute ss w ≡ b → b ≡ false
    none true same x =
        let there : list_any (λ u. bytes_eq v u) (declared_in ss) ≡ true = ap (λ (q : List ℕ). list_any (λ u. bytes_eq q u) (declared_in ss)) same ∙ declared_attribute ss w x in
        sym there ∙ d.0
    none false same x = refl

    go : (is_type ss w ≡ true → is_attribute ss w ≡ false) → (b : Bool) → bytes_eq v w ≡ b → (b || is_type ss w) ≡ true → is_attribute ss w ≡ false
    go more true x h = none (is_attribute ss w) ((bytes_eq-Decides v w).0 x) refl
    go more false x h = more h
kinds_apart (DeclareAttribute v ∷ ss) w d e = go (kinds_apart ss w d.1 e) (bytes_eq v w) refl
  where
    go : is_attribute ss w ≡ false → (b : Bool) → bytes_eq v w ≡ b → (b || is_attribute ss w) ≡ false
    go more true x =
        let there : list_any (λ u. bytes_eq v u) (declared_in ss) ≡ true = ap (λ (q : List ℕ). list_any (λ u. bytes_eq q u) (declared_in ss)) ((bytes_eq-Decides v w).0 x) ∙ declared_type ss w e in
        sym there ∙ d.0
    go more false x = more
kinds_apart (GiveAttributes m ms ∷ ss) w d e = kinds_apart ss w d e
kinds_apart (Allow a ∷ ss) w d e = kinds_apart ss w d e

-- one name
undeclared : (ss : List Statement) (role : Role) (m : Mention) → is_met ss (role, m) ≡ false → IsFirstUndeclared ss ((role, m) ∷ []) (at m.line (Unknown m.name))
undeclared ss role m e = record { before = []; here = (role, m); behind = []; place = refl; declared = refl; undeclared = e; fault = refl }

known_tells : (ss : List Statement) (m : Mention) → Tells ss ((InSet, m) ∷ []) (known (declared_names ss) m.name m.line)
known_tells ss m = go (symbol_of (declared_names ss) m.name) (declared_known (declared_names ss) m.name)
  where
    go : (o : Option Symbol) → is_some o ≡ (is_type ss m.name || is_attribute ss m.name) → Tells ss ((InSet, m) ∷ []) (any_symbol m.name m.line o)
    go (Some s) e = one_declared ss (InSet, m) (sym e)
    go None e = undeclared ss InSet m (sym e)

type_place : (ss : List Statement) (w : List ℕ) → is_some (position (λ t. bytes_eq t w) (types_in ss)) ≡ is_type ss w
type_place ss w = is_some_position (λ t. bytes_eq t w) (types_in ss)

attribute_place : (ss : List Statement) (w : List ℕ) → is_some (position (λ a. bytes_eq a w) (attributes_in ss)) ≡ is_attribute ss w
attribute_place ss w = is_some_position (λ a. bytes_eq a w) (attributes_in ss)

type_tells : (ss : List Statement) (m : Mention) → Tells ss ((OfType, m) ∷ []) (type_in (declared_names ss) m.name m.line)
type_tells ss m = go (position (λ t. bytes_eq t m.name) (types_in ss)) (position (λ a. bytes_eq a m.name) (attributes_in ss)) (type_place ss m.name)
  where
    go : (t a : Option ℕ) → is_some t ≡ is_type ss m.name → Tells ss ((OfType, m) ∷ []) (type_symbol m.name m.line (symbol_at t a))
    go (Some i) a e = one_declared ss (OfType, m) (sym e)
    go None (Some i) e = undeclared ss OfType m (sym e)
    go None None e = undeclared ss OfType m (sym e)

attribute_tells : (ss : List Statement) → AreDistinct (declared_in ss) → (m : Mention) → Tells ss ((OfAttribute, m) ∷ []) (attribute_in (declared_names ss) m.name m.line)
attribute_tells ss d m = go (position (λ t. bytes_eq t m.name) (types_in ss)) (position (λ a. bytes_eq a m.name) (attributes_in ss)) (type_place ss m.name) (attribute_place ss m.name)
  where
    go : (t a : Option ℕ) → is_some t ≡ is_type ss m.name → is_some a ≡ is_attribute ss m.name → Tells ss ((OfAttribute, m) ∷ []) (attribute_symbol m.name m.line (symbol_at t a))
    go (Some i) a e f = undeclared ss OfAttribute m (kinds_apart ss m.name d (sym e))
    go None (Some i) e f = one_declared ss (OfAttribute, m) (sym f)
    go None None e f = undeclared ss OfAttribute m (sym f)

-- a set
element_tells : (ss : List Statement) (i : SetElement) → Tells ss (set_uses (i ∷ [])) (element_of (declared_names ss) i)
unfolding element_of
element_tells ss (set_elements.With m) = tells_made ss ((InSet, m) ∷ []) (known (declared_names ss) m.name m.line) (λ s. With s) (known_tells ss m)
element_tells ss (set_elements.Without m) = tells_made ss ((InSet, m) ∷ []) (known (declared_names ss) m.name m.line) (λ s. Without s) (known_tells ss m)
element_tells ss set_elements.Itself = refl

uses_more : (i : SetElement) (items : List SetElement) → set_uses (i ∷ []) ++ set_uses items ≡ set_uses (i ∷ items)
uses_more (set_elements.With m) items = refl
uses_more (set_elements.Without m) items = refl
uses_more set_elements.Itself items = refl

elements_tell : (ss : List Statement) (items : List SetElement) (set : List DraftElement) → Tells ss (set_uses items) (elements_of (declared_names ss) set items)
elements_tell ss [] set = refl
elements_tell ss (i ∷ items) set =
    subst (λ (us : List Use). Tells ss us (elements_of (declared_names ss) set (i ∷ items))) (uses_more i items)
    (tells_bind ss (set_uses (i ∷ [])) (set_uses items) (element_of (declared_names ss) i) (λ e. elements_of (declared_names ss) (set ++ e ∷ []) items) (element_tells ss i) (λ e. elements_tell ss items (set ++ e ∷ [])))

-- attributes given
given_tells : (ss : List Statement) → AreDistinct (declared_in ss) → (ms : List Mention) (d : Draft) (id : ℕ) → Tells ss (all_used OfAttribute ms) (given_by (declared_names ss) d id ms)
given_tells ss distinct [] d id = refl
given_tells ss distinct (m ∷ ms) d id =
    let next : ℕ → Draft = λ a. record { given = d.given ++ record { to = id; attribute = a } ∷ []; rules = d.rules } in
    tells_bind ss ((OfAttribute, m) ∷ []) (all_used OfAttribute ms) (attribute_in (declared_names ss) m.name m.line) (λ a. given_by (declared_names ss) (next a) id ms) (attribute_tells ss distinct m) (λ a. given_tells ss distinct ms (next a) id)

-- a statement; the type that it declares is among those declared
allow_tells : (ss : List Statement) (d : Draft) (a : Allowance) → Tells ss (set_uses a.source ++ set_uses a.target) (with_allowance (declared_names ss) d a)
unfolding with_allowance
allow_tells ss d a =
    let made : List DraftElement → List DraftElement → Draft = λ s t. record { given = d.given; rules = d.rules ++ record { source = s; target = t; perms = granted a.classes a.perms } ∷ [] } in
    tells_bind ss (set_uses a.source) (set_uses a.target) (elements_of (declared_names ss) [] a.source) (λ s. elements_of (declared_names ss) [] a.target >>= λ t. ok_of (made s t)) (elements_tell ss a.source [])
    (λ s. tells_made ss (set_uses a.target) (elements_of (declared_names ss) [] a.target) (λ t. made s t) (elements_tell ss a.target []))

own_type : (ss : List Statement) (w : List ℕ) → is_type ss w ≡ true → (i : ℕ) × (type_in (declared_names ss) w 0 ≡ ok_of i)
own_type ss w e = go (position (λ t. bytes_eq t w) (types_in ss)) (position (λ a. bytes_eq a w) (attributes_in ss)) (type_place ss w)
  where
    go : (t a : Option ℕ) → is_some t ≡ is_type ss w → (i : ℕ) × (type_symbol w 0 (symbol_at t a) ≡ ok_of i)
    go (Some i) a f = (i, refl)
    go None a f = absurd (false≢true (f ∙ e))

abbrev declares : List Statement → Statement → Type 0
declares ss (DeclareType w ms) = is_type ss w ≡ true
declares ss (DeclareAttribute w) = Unit {0}
declares ss (GiveAttributes m ms) = Unit {0}
declares ss (Allow a) = Unit {0}

statement_tells : (ss : List Statement) → AreDistinct (declared_in ss) → (s : Statement) (d : Draft) → declares ss s → Tells ss (statement_uses s) (with_statement (declared_names ss) d s)
unfolding with_statement
statement_tells ss distinct (DeclareType w ms) d is =
    let own = own_type ss w is in
    subst (λ (r : Result ℕ TokenFault). Tells ss (all_used OfAttribute ms) (r >>= λ id. given_by (declared_names ss) d id ms)) (sym own.1) (given_tells ss distinct ms d own.0)
statement_tells ss distinct (DeclareAttribute w) d is = refl
statement_tells ss distinct (GiveAttributes m ms) d is =
    tells_bind ss ((OfType, m) ∷ []) (all_used OfAttribute ms) (type_in (declared_names ss) m.name m.line) (λ id. given_by (declared_names ss) d id ms) (type_tells ss m) (λ id. given_tells ss distinct ms d id)
statement_tells ss distinct (Allow a) d is = allow_tells ss d a

-- all statements
abbrev declare_all : List Statement → List Statement → Type 0
declare_all ss [] = Unit {0}
declare_all ss (x ∷ xs) = declares ss x × declare_all ss xs

statements_tell : (ss : List Statement) → AreDistinct (declared_in ss) → (xs : List Statement) (d : Draft) → declare_all ss xs → Tells ss (uses_of xs) (resolved_draft (declared_names ss) d xs)
statements_tell ss distinct [] d own = refl
statements_tell ss distinct (x ∷ xs) d own =
    tells_bind ss (statement_uses x) (uses_of xs) (with_statement (declared_names ss) d x) (λ e. resolved_draft (declared_names ss) e xs) (statement_tells ss distinct x d own.0) (λ e. statements_tell ss distinct xs e own.1)

eq_self : (w : List ℕ) → bytes_eq w w ≡ true
eq_self w = (bytes_eq-Decides w w).1 refl

-- what a part of the statements declares, the whole declares
own_of : (ss xs : List Statement) → ((w : List ℕ) → is_type xs w ≡ true → is_type ss w ≡ true) → declare_all ss xs
own_of ss [] part = tt
own_of ss (DeclareType w ms ∷ xs) part = (part w (ap (λ b. b || is_type xs w) (eq_self w)), own_of ss xs (λ v e. part v (or_true (bytes_eq w v) (is_type xs v) e)))
own_of ss (DeclareAttribute w ∷ xs) part = (tt, own_of ss xs part)
own_of ss (GiveAttributes m ms ∷ xs) part = (tt, own_of ss xs part)
own_of ss (Allow a ∷ xs) part = (tt, own_of ss xs part)

all_tell : (ss : List Statement) → AreClean ss → Tells ss (uses_of ss) (resolved_draft (declared_names ss) nothing_given ss)
all_tell ss clean = statements_tell ss clean.distinct ss nothing_given (own_of ss ss (λ w e. e))

-- the first is one alone
one_first : (ss : List Statement) (before others behind rest : List Use) (here there : Use) → before ++ here ∷ behind ≡ others ++ there ∷ rest
    → list_all (is_met ss) before ≡ true → list_all (is_met ss) others ≡ true → is_met ss here ≡ false → is_met ss there ≡ false → here ≡ there
one_first ss [] [] behind rest here there e a b x y = cc
one_first ss [] (v ∷ others) behind rest here there e a b x y =
    let same : here ≡ v = cc in
    absurd (false≢true (sym x ∙ ap (λ (q : Use). is_met ss q) same ∙ left_true (is_met ss v) (list_all (is_met ss) others) b))
one_first ss (u ∷ before) [] behind rest here there e a b x y =
    let same : u ≡ there = cc in
    absurd (false≢true (sym y ∙ ap (λ (q : Use). is_met ss q) (sym same) ∙ left_true (is_met ss u) (list_all (is_met ss) before) a))
one_first ss (u ∷ before) (v ∷ others) behind rest here there e a b x y =
    let more : before ++ here ∷ behind ≡ others ++ there ∷ rest = cc in
    one_first ss before others behind rest here there more (right_true (is_met ss u) (list_all (is_met ss) before) a) (right_true (is_met ss v) (list_all (is_met ss) others) b) x y

same_fault : (ss : List Statement) (us : List Use) (f g : TokenFault) → IsFirstUndeclared ss us f → IsFirstUndeclared ss us g → f ≡ g
same_fault ss us f g r q =
    sym r.fault ∙ ap (λ (u : Use). at u.1.line (Unknown u.1.name)) (one_first ss r.before q.before r.behind q.behind r.here q.here (sym r.place ∙ q.place) r.declared q.declared r.undeclared q.undeclared) ∙ q.fault

none_first : (ss : List Statement) (us : List Use) (f : TokenFault) → list_all (is_met ss) us ≡ true → IsFirstUndeclared ss us f → ⊥
none_first ss us f all r =
    let parts : (list_all (is_met ss) r.before && list_all (is_met ss) (r.here ∷ r.behind)) ≡ true = sym (list_all-append (is_met ss) r.before (r.here ∷ r.behind)) ∙ ap (λ (xs : List Use). list_all (is_met ss) xs) (sym r.place) ∙ all in
    let here : is_met ss r.here ≡ true = left_true (is_met ss r.here) (list_all (is_met ss) r.behind) (right_true (list_all (is_met ss) r.before) (list_all (is_met ss) (r.here ∷ r.behind)) parts) in
    false≢true (sym r.undeclared ∙ here)

-- the fault of clean statements names the first that is not declared
pub meant_undeclared : (ss : List Statement) (f : TokenFault) → AreClean ss → meant_by ss ≡ Err f → IsFirstUndeclared ss (uses_of ss) f
meant_undeclared ss f clean e = go (resolved_draft (declared_names ss) nothing_given ss) (all_tell ss clean) e
  where
    go : (r : Result Draft TokenFault) → Tells ss (uses_of ss) r → meaning_of (declared_names ss) r ≡ Err f → IsFirstUndeclared ss (uses_of ss) f
    go (Ok d) t h = absurd (cc)
    go (Err g) t h =
        let same : g ≡ f = cc in
        subst (λ (q : TokenFault). IsFirstUndeclared ss (uses_of ss) q) same t

pub undeclared_meant : (ss : List Statement) (f : TokenFault) → AreClean ss → IsFirstUndeclared ss (uses_of ss) f → meant_by ss ≡ Err f
undeclared_meant ss f clean first = go (resolved_draft (declared_names ss) nothing_given ss) (all_tell ss clean)
  where
    go : (r : Result Draft TokenFault) → Tells ss (uses_of ss) r → meaning_of (declared_names ss) r ≡ Err f
    go (Ok d) t = absurd (none_first ss (uses_of ss) f t first)
    go (Err g) t = ap (λ (q : TokenFault). let r : Result Meaning TokenFault = Err q in r) (same_fault ss (uses_of ss) g f t first)

-- where all names are declared there is a meaning, and only there
pub meant_declared : (ss : List Statement) (m : Meaning) → AreClean ss → meant_by ss ≡ Ok m → AreDeclared ss
meant_declared ss m clean e = go (resolved_draft (declared_names ss) nothing_given ss) (all_tell ss clean) e
  where
    go : (r : Result Draft TokenFault) → Tells ss (uses_of ss) r → meaning_of (declared_names ss) r ≡ Ok m → AreDeclared ss
    go (Ok d) t h = t
    go (Err g) t h = absurd (cc)

pub declared_meant : (ss : List Statement) → AreClean ss → AreDeclared ss → (m : Meaning) × (meant_by ss ≡ Ok m)
declared_meant ss clean all = go (resolved_draft (declared_names ss) nothing_given ss) (all_tell ss clean)
  where
    go : (r : Result Draft TokenFault) → Tells ss (uses_of ss) r → (m : Meaning) × (meaning_of (declared_names ss) r ≡ Ok m)
    go (Ok d) t = (record { types = types_in ss; given = d.given; rules = d.rules }, refl)
    go (Err g) t = absurd (none_first ss (uses_of ss) g all t)
