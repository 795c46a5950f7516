-- Names are added one after the other exactly where the statements are clean.
use Rattle.std.proofs.Common.{◌≡◌, ◌<◌, ◌≤◌, ℕ, ◌+◌, Bool, true, false, cond, List, [], ◌∷◌, ◌++◌, length, Option, Some}
use Rattle.std.proofs.Common.{None, is_some, Result, Ok, Err, position, refl, sym, ap, ◌∙◌, arith, nat_lt, append_assoc}
use Rattle.std.proofs.Common.{length-append}
use Rattle.std.specs.Prelude.{if◌then◌else◌, ◌||◌}
use Rattle.std.specs.List.{list_any, position_from}
use Rattle.std.specs.Str.{bytes_eq}
use Rattle.std.proofs.lemmas.Bool.Decides.{nat_tests}
use Rattle.std.proofs.lemmas.Iterator.Adapters.{position_from-zero}
use Rattle.std.proofs.lemmas.List.Folds.{list_any-append}
use Rattle.gt_policy.specs.declared.fault.TokenFault.{TokenFault}
use Rattle.gt_policy.specs.declared.fault.TokenFaultKind.TheVariants.{Twice, Limit}
use Rattle.gt_policy.specs.declared.statements.Statement.{Statement}
use Rattle.gt_policy.specs.declared.statements.Statement.TheVariants.{DeclareType, DeclareAttribute, GiveAttributes}
use Rattle.gt_policy.specs.declared.statements.Statement.TheVariants.{Allow}
use Rattle.gt_policy.specs.Names.{Names, no_names, symbol_at, is_declared, with_declared_type, with_attribute}
use Rattle.gt_policy.specs.Names.{with_allow}
use Rattle.gt_policy.specs.Grammar.{◌>>=◌}
use Rattle.gt_policy.specs.Spelling.{types_in, attributes_in, declared_in, allows_in, AreDistinct, AreClean}
use Rattle.gt_policy.specs.Spelling.{declared_names}
use Rattle.gt_policy.proofs.TextLemmas.{all_added, bind_ok}
use Rattle.std.proofs.lemmas.Bool.{or_from, or_parts}
use Rattle.std.proofs.lemmas.List.{append-nil}
use Rattle.gt_policy.proofs.SpellingLemmas.{ok_of, ok_part}

-- the name is declared
abbrev known : Names → List ℕ → Bool
known seen w = list_any (λ t. bytes_eq t w) seen.types || list_any (λ a. bytes_eq a w) seen.attributes

is_some_from : {X : Type 0} (p : X → Bool) (n : ℕ) (xs : List X) → is_some (position_from p n xs) ≡ list_any p xs
is_some_from p n [] = refl
is_some_from p n (x ∷ xs) = go (p x) (is_some_from p (n + 1) xs)
  where
    go : (v : Bool) → is_some (position_from p (n + 1) xs) ≡ list_any p xs → is_some (cond v (Some n) (position_from p (n + 1) xs)) ≡ (v || list_any p xs)
    go true h = refl
    go false h = h

pub is_some_position : {X : Type 0} (p : X → Bool) (xs : List X) → is_some (position p xs) ≡ list_any p xs
is_some_position p xs = ap (λ o. is_some o) (position_from-zero p xs) ∙ is_some_from p 0 xs

some_at : (t a : Option ℕ) → is_some (symbol_at t a) ≡ (is_some t || is_some a)
some_at (Some i) a = refl
some_at None (Some i) = refl
some_at None None = refl

pub declared_known : (seen : Names) (w : List ℕ) → is_declared seen w ≡ known seen w
declared_known seen w =
    some_at (position (λ t. bytes_eq t w) seen.types) (position (λ a. bytes_eq a w) seen.attributes)
    ∙ ap (λ b. b || is_some (position (λ a. bytes_eq a w) seen.attributes)) (is_some_position (λ t. bytes_eq t w) seen.types)
    ∙ ap (λ b. list_any (λ t. bytes_eq t w) seen.types || b) (is_some_position (λ a. bytes_eq a w) seen.attributes)

abbrev plus_type : Names → List ℕ → Names
plus_type seen w = record { types = seen.types ++ w ∷ []; attributes = seen.attributes; allows = seen.allows }

abbrev plus_attribute : Names → List ℕ → Names
plus_attribute seen w = record { types = seen.types; attributes = seen.attributes ++ w ∷ []; allows = seen.allows }

abbrev plus_allow : Names → Names
plus_allow seen = record { types = seen.types; attributes = seen.attributes; allows = seen.allows + 1 }

swap_first : (a b c : Bool) → ((a || (c || false)) || b) ≡ ((a || b) || c)
swap_first true b c = refl
swap_first false true true = refl
swap_first false true false = refl
swap_first false false true = refl
swap_first false false false = refl

swap_second : (a b c : Bool) → (a || (b || (c || false))) ≡ ((a || b) || c)
swap_second true b c = refl
swap_second false true c = refl
swap_second false false true = refl
swap_second false false false = refl

known_type : (seen : Names) (w q : List ℕ) → known (plus_type seen w) q ≡ (known seen q || bytes_eq w q)
known_type seen w q =
    ap (λ b. b || list_any (λ a. bytes_eq a q) seen.attributes) (list_any-append (λ t. bytes_eq t q) seen.types (w ∷ []))
    ∙ swap_first (list_any (λ t. bytes_eq t q) seen.types) (list_any (λ a. bytes_eq a q) seen.attributes) (bytes_eq w q)

known_attribute : (seen : Names) (w q : List ℕ) → known (plus_attribute seen w) q ≡ (known seen q || bytes_eq w q)
known_attribute seen w q =
    ap (λ b. list_any (λ t. bytes_eq t q) seen.types || b) (list_any-append (λ a. bytes_eq a q) seen.attributes (w ∷ []))
    ∙ swap_second (list_any (λ t. bytes_eq t q) seen.types) (list_any (λ a. bytes_eq a q) seen.attributes) (bytes_eq w q)

-- none of the names is declared
abbrev AllNew : Names → List (List ℕ) → Type 0
AllNew seen [] = Unit {0}
AllNew seen (w ∷ ws) = (known seen w ≡ false) × AllNew seen ws

new_after : (seen next : Names) (w : List ℕ) (ws : List (List ℕ)) → ((q : List ℕ) → known next q ≡ (known seen q || bytes_eq w q)) → AllNew seen ws → list_any (λ v. bytes_eq w v) ws ≡ false → AllNew next ws
new_after seen next w [] now new apart = tt
new_after seen next w (v ∷ ws) now new apart = (
  now v ∙ or_from (known seen v) (bytes_eq w v) new.0 (or_parts (bytes_eq w v) (list_any (λ u. bytes_eq w u) ws) apart).0,
  new_after seen next w ws now new.1 (or_parts (bytes_eq w v) (list_any (λ u. bytes_eq w u) ws) apart).1,
)

new_before : (seen next : Names) (w : List ℕ) (ws : List (List ℕ)) → ((q : List ℕ) → known next q ≡ (known seen q || bytes_eq w q)) → AllNew next ws → AllNew seen ws × (list_any (λ v. bytes_eq w v) ws ≡ false)
new_before seen next w [] now new = (tt, refl)
new_before seen next w (v ∷ ws) now new =
    let both : (known seen v || bytes_eq w v) ≡ false = sym (now v) ∙ new.0 in
    let others = new_before seen next w ws now new.1 in
    (((or_parts (known seen v) (bytes_eq w v) both).0, others.0), or_from (bytes_eq w v) (list_any (λ u. bytes_eq w u) ws) (or_parts (known seen v) (bytes_eq w v) both).1 others.1)

-- there is room for what the statements declare
record Room (seen : Names) (ss : List Statement) : Type 0 where
  distinct : AreDistinct (declared_in ss)
  new : AllNew seen (declared_in ss)
  types : length seen.types + length (types_in ss) ≤ 256
  attributes : length seen.attributes + length (attributes_in ss) ≤ 256
  allows : seen.allows + allows_in ss ≤ 65536

abbrev plus_all : Names → List Statement → Names
plus_all seen ss = record { types = seen.types ++ types_in ss; attributes = seen.attributes ++ attributes_in ss; allows = seen.allows + allows_in ss }

abbrev names : List (List ℕ) → List (List ℕ) → ℕ → Names
names ts gs n = record { types = ts; attributes = gs; allows = n }

same_names : (t t' a a' : List (List ℕ)) (n n' : ℕ) → t ≡ t' → a ≡ a' → n ≡ n' → names t a n ≡ names t' a' n'
same_names t t' a a' n n' e f g = ap (λ x. names x a n) e ∙ ap (λ x. names t' x n) f ∙ ap (λ x. names t' a' x) g

-- each statement by itself
tests_pass : (v u : Bool) (f g : TokenFault) (x : Names) → v ≡ false → u ≡ true → (if v then Err f else (if u then ok_of x else Err g)) ≡ ok_of x
tests_pass v u f g x d e = rw (d, e) refl

tests_passed : (v u : Bool) (f g : TokenFault) (x y : Names) → (if v then Err f else (if u then ok_of x else Err g)) ≡ ok_of y → (v ≡ false) × (u ≡ true) × (x ≡ y)
tests_passed true u f g x y e = absurd (cc)
tests_passed false true f g x y e = (refl, refl, ok_part x y e)
tests_passed false false f g x y e = absurd (cc)

type_added : (seen : Names) (w : List ℕ) → known seen w ≡ false → length seen.types < 256 → with_declared_type seen w 0 ≡ Ok (plus_type seen w)
unfolding with_declared_type
type_added seen w new few =
    tests_pass (is_declared seen w) (nat_lt (length seen.types) 256) (record { line = 0; kind = Twice w }) (record { line = 0; kind = Limit }) (plus_type seen w) (declared_known seen w ∙ new) (grind (arith, nat_tests))

added_type : (seen next : Names) (w : List ℕ) → with_declared_type seen w 0 ≡ Ok next → (known seen w ≡ false) × (length seen.types < 256) × (plus_type seen w ≡ next)
unfolding with_declared_type
added_type seen next w e =
    let p = tests_passed (is_declared seen w) (nat_lt (length seen.types) 256) (record { line = 0; kind = Twice w }) (record { line = 0; kind = Limit }) (plus_type seen w) next e in
    let few : nat_lt (length seen.types) 256 ≡ true = p.1 in
    (sym (declared_known seen w) ∙ p.0, grind (arith, nat_tests), p.2)

attribute_added : (seen : Names) (w : List ℕ) → known seen w ≡ false → length seen.attributes < 256 → with_attribute seen w 0 ≡ Ok (plus_attribute seen w)
unfolding with_attribute
attribute_added seen w new few =
    tests_pass (is_declared seen w) (nat_lt (length seen.attributes) 256) (record { line = 0; kind = Twice w }) (record { line = 0; kind = Limit }) (plus_attribute seen w) (declared_known seen w ∙ new) (grind (arith, nat_tests))

added_attribute : (seen next : Names) (w : List ℕ) → with_attribute seen w 0 ≡ Ok next → (known seen w ≡ false) × (length seen.attributes < 256) × (plus_attribute seen w ≡ next)
unfolding with_attribute
added_attribute seen next w e =
    let p = tests_passed (is_declared seen w) (nat_lt (length seen.attributes) 256) (record { line = 0; kind = Twice w }) (record { line = 0; kind = Limit }) (plus_attribute seen w) next e in
    let few : nat_lt (length seen.attributes) 256 ≡ true = p.1 in
    (sym (declared_known seen w) ∙ p.0, grind (arith, nat_tests), p.2)

allow_added : (seen : Names) → seen.allows < 65536 → with_allow seen 0 ≡ Ok (plus_allow seen)
unfolding with_allow
allow_added seen few =
    let one : nat_lt seen.allows 65536 ≡ true = grind (arith, nat_tests) in
    tests_pass false (nat_lt seen.allows 65536) (record { line = 0; kind = Limit }) (record { line = 0; kind = Limit }) (plus_allow seen) refl one

added_allow : (seen next : Names) → with_allow seen 0 ≡ Ok next → (seen.allows < 65536) × (plus_allow seen ≡ next)
unfolding with_allow
added_allow seen next e =
    let p = tests_passed false (nat_lt seen.allows 65536) (record { line = 0; kind = Limit }) (record { line = 0; kind = Limit }) (plus_allow seen) next e in
    let few : nat_lt seen.allows 65536 ≡ true = p.1 in
    (grind (arith, nat_tests), p.2)

length-push : (xs : List (List ℕ)) (w : List ℕ) → length (xs ++ w ∷ []) ≡ length xs + 1
length-push xs w = length-append xs (w ∷ [])

-- clean statements are added
room_added : (ss : List Statement) (seen : Names) → Room seen ss → all_added seen ss ≡ Ok (plus_all seen ss)
room_added [] seen r = ap (λ (q : Names). ok_of q) (same_names seen.types (seen.types ++ []) seen.attributes (seen.attributes ++ []) seen.allows (seen.allows + 0) (sym (append-nil seen.types)) (sym (append-nil seen.attributes)) (let e : seen.allows ≡ seen.allows + 0 = omega arith in e))
room_added (DeclareType w ms ∷ ss) seen r =
    let t = r.types in
    let longer = length-push seen.types w in
    let next : Names = plus_type seen w in
    let after : Room next ss = record { distinct = r.distinct.1; new = new_after seen next w (declared_in ss) (known_type seen w) r.new.1 r.distinct.0; types = omega arith; attributes = r.attributes; allows = r.allows } in
    ap (λ (q : Result Names TokenFault). q >>= λ n. all_added n ss) (type_added seen w r.new.0 (omega arith)) ∙ room_added ss next after
    ∙ ap (λ (xs : List (List ℕ)). ok_of (names xs (seen.attributes ++ attributes_in ss) (seen.allows + allows_in ss))) (append_assoc seen.types (w ∷ []) (types_in ss))
room_added (DeclareAttribute w ∷ ss) seen r =
    let t = r.attributes in
    let longer = length-push seen.attributes w in
    let next : Names = plus_attribute seen w in
    let after : Room next ss = record { distinct = r.distinct.1; new = new_after seen next w (declared_in ss) (known_attribute seen w) r.new.1 r.distinct.0; types = r.types; attributes = omega arith; allows = r.allows } in
    ap (λ (q : Result Names TokenFault). q >>= λ n. all_added n ss) (attribute_added seen w r.new.0 (omega arith)) ∙ room_added ss next after
    ∙ ap (λ (xs : List (List ℕ)). ok_of (names (seen.types ++ types_in ss) xs (seen.allows + allows_in ss))) (append_assoc seen.attributes (w ∷ []) (attributes_in ss))
room_added (GiveAttributes m ms ∷ ss) seen r =
    let after : Room seen ss = record { distinct = r.distinct; new = r.new; types = r.types; attributes = r.attributes; allows = r.allows } in
    room_added ss seen after
room_added (Allow a ∷ ss) seen r =
    let t = r.allows in
    let next : Names = plus_allow seen in
    let after : Room next ss = record { distinct = r.distinct; new = new_allow seen (declared_in ss) r.new; types = r.types; attributes = r.attributes; allows = omega arith } in
    ap (λ (q : Result Names TokenFault). q >>= λ n. all_added n ss) (allow_added seen (omega arith)) ∙ room_added ss next after
    ∙ ap (λ n. ok_of (names (seen.types ++ types_in ss) (seen.attributes ++ attributes_in ss) n)) (let e : seen.allows + 1 + allows_in ss ≡ seen.allows + (allows_in ss + 1) = omega arith in e)
  where
    new_allow : (seen : Names) (ws : List (List ℕ)) → AllNew seen ws → AllNew (plus_allow seen) ws
    new_allow seen [] new = tt
    new_allow seen (w ∷ ws) new = (new.0, new_allow seen ws new.1)

old_allow : (seen : Names) (ws : List (List ℕ)) → AllNew (plus_allow seen) ws → AllNew seen ws
old_allow seen [] new = tt
old_allow seen (w ∷ ws) new = (new.0, old_allow seen ws new.1)

-- what is added is clean
added_room : (ss : List Statement) (seen end : Names) → all_added seen ss ≡ Ok end → length seen.types ≤ 256 → length seen.attributes ≤ 256 → seen.allows ≤ 65536 → Room seen ss × (plus_all seen ss ≡ end)
added_room [] seen end e ft fa fn = (
  record { distinct = tt; new = tt; types = omega arith; attributes = omega arith; allows = omega arith },
  same_names (seen.types ++ []) seen.types (seen.attributes ++ []) seen.attributes (seen.allows + 0) seen.allows (append-nil seen.types) (append-nil seen.attributes) (let e : seen.allows + 0 ≡ seen.allows = omega arith in e) ∙ ok_part seen end e,
)
added_room (DeclareType w ms ∷ ss) seen end e ft fa fn =
    let b = bind_ok (with_declared_type seen w 0) (λ n. all_added n ss) end e in
    let p = added_type seen b.0 w b.1 in
    let here : all_added (plus_type seen w) ss ≡ Ok end = ap (λ (q : Names). all_added q ss) p.2 ∙ b.2 in
    let longer = length-push seen.types w in
    let few = p.1 in
    let r = added_room ss (plus_type seen w) end here (omega arith) fa fn in
    let t = r.0.types in
    let old = new_before seen (plus_type seen w) w (declared_in ss) (known_type seen w) r.0.new in (
      record { distinct = (old.1, r.0.distinct); new = (p.0, old.0); types = omega arith; attributes = r.0.attributes; allows = r.0.allows },
      sym (ap (λ (xs : List (List ℕ)). names xs (seen.attributes ++ attributes_in ss) (seen.allows + allows_in ss)) (append_assoc seen.types (w ∷ []) (types_in ss))) ∙ r.1,
    )
added_room (DeclareAttribute w ∷ ss) seen end e ft fa fn =
    let b = bind_ok (with_attribute seen w 0) (λ n. all_added n ss) end e in
    let p = added_attribute seen b.0 w b.1 in
    let here : all_added (plus_attribute seen w) ss ≡ Ok end = ap (λ (q : Names). all_added q ss) p.2 ∙ b.2 in
    let longer = length-push seen.attributes w in
    let few = p.1 in
    let r = added_room ss (plus_attribute seen w) end here ft (omega arith) fn in
    let t = r.0.attributes in
    let old = new_before seen (plus_attribute seen w) w (declared_in ss) (known_attribute seen w) r.0.new in (
      record { distinct = (old.1, r.0.distinct); new = (p.0, old.0); types = r.0.types; attributes = omega arith; allows = r.0.allows },
      sym (ap (λ (xs : List (List ℕ)). names (seen.types ++ types_in ss) xs (seen.allows + allows_in ss)) (append_assoc seen.attributes (w ∷ []) (attributes_in ss))) ∙ r.1,
    )
added_room (GiveAttributes m ms ∷ ss) seen end e ft fa fn =
    let r = added_room ss seen end e ft fa fn in
    (record { distinct = r.0.distinct; new = r.0.new; types = r.0.types; attributes = r.0.attributes; allows = r.0.allows }, r.1)
added_room (Allow a ∷ ss) seen end e ft fa fn =
    let b = bind_ok (with_allow seen 0) (λ n. all_added n ss) end e in
    let p = added_allow seen b.0 b.1 in
    let here : all_added (plus_allow seen) ss ≡ Ok end = ap (λ (q : Names). all_added q ss) p.1 ∙ b.2 in
    let few = p.0 in
    let r = added_room ss (plus_allow seen) end here ft fa (omega arith) in
    let t = r.0.allows in (
      record { distinct = r.0.distinct; new = old_allow seen (declared_in ss) r.0.new; types = r.0.types; attributes = r.0.attributes; allows = omega arith },
      ap (λ n. names (seen.types ++ types_in ss) (seen.attributes ++ attributes_in ss) n) (let e : seen.allows + (allows_in ss + 1) ≡ seen.allows + 1 + allows_in ss = omega arith in e) ∙ r.1,
    )

none_known : (ws : List (List ℕ)) → AllNew no_names ws
none_known [] = tt
none_known (w ∷ ws) = (refl, none_known ws)

-- of a whole text
pub clean_added : (ss : List Statement) → AreClean ss → all_added no_names ss ≡ Ok (declared_names ss)
clean_added ss c =
    let t = c.few_types in let a = c.few_attributes in let n = c.few_allows in
    let room : Room no_names ss = record { distinct = c.distinct; new = none_known (declared_in ss); types = omega arith; attributes = omega arith; allows = omega arith } in
    room_added ss no_names room ∙ ap (λ k. ok_of (names (types_in ss) (attributes_in ss) k)) (let e : 0 + allows_in ss ≡ allows_in ss = omega arith in e)

pub added_clean : (ss : List Statement) (end : Names) → all_added no_names ss ≡ Ok end → AreClean ss × (declared_names ss ≡ end)
added_clean ss end e =
    let r = added_room ss no_names end e (omega arith) (omega arith) (omega arith) in
    let t = r.0.types in let a = r.0.attributes in let n = r.0.allows in (
      record { distinct = r.0.distinct; few_types = omega arith; few_attributes = omega arith; few_allows = omega arith },
      sym (ap (λ k. names (types_in ss) (attributes_in ss) k) (let e : 0 + allows_in ss ≡ allows_in ss = omega arith in e)) ∙ r.1,
    )
