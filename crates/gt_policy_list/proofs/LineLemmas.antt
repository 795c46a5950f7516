-- The lines of all triples, source by source and target by target.
use Rattle.std.proofs.Common.{◌≡◌, ℕ, Bool, true, false, List, [], ◌∷◌, ◌++◌, Option, refl, ap, sym, subst, ◌∙◌}
use Rattle.std.specs.Prelude.{if◌then◌else◌, filter}
use Rattle.std.specs.List.{flat_map}
use Rattle.std.proofs.lemmas.List.Concat.{flat_map-append}
use Rattle.std.proofs.lemmas.List.Folds.{flat_map-map}
use Rattle.std.specs.Io.KnownBytes.{Appends}
use Rattle.gt_types.specs.declared.TypeId.{TypeId}
use Rattle.gt_types.specs.declared.perms.Perms.{Perms}
use Rattle.gt_types.specs.Names.{every_permission}
use Rattle.gt_policy_list.specs.Listing.{line_of_triple, pair_triples, triples_of, is_allowed_triple, listing}
use Rattle.gt_policy_list.specs.Lines.{triple_text, pair_text, source_text}
use Rattle.gt_text.specs.Streams.{AppendsBeginning, Sends}
use Rattle.gt_text.proofs.PieceLemmas.{sends_all}

flat_map_same : {X : Type 0} (f g : X → List ℕ) → ((x : X) → f x ≡ g x) → (xs : List X) → flat_map f xs ≡ flat_map g xs
flat_map_same f g same [] = refl
flat_map_same f g same (x ∷ xs) = ap (λ (l : List ℕ). l ++ flat_map f xs) (same x) ∙ ap (λ (l : List ℕ). g x ++ l) (flat_map_same f g same xs)

flat_map_twice : {X Y : Type 0} (f : Y → List ℕ) (g : X → List Y) (xs : List X) → flat_map f (flat_map g xs) ≡ flat_map (λ x. flat_map f (g x)) xs
flat_map_twice f g [] = refl
flat_map_twice f g (x ∷ xs) = flat_map-append f (g x) (flat_map g xs) ∙ ap (λ (l : List ℕ). flat_map f (g x) ++ l) (flat_map_twice f g xs)

-- the text of an element that passes a test, and nothing of another
abbrev pub if_passed : {X : Type 0} → (X → List ℕ) → (X → Bool) → X → List ℕ
if_passed f test x = if test x then f x else []

one_passed : {X : Type 0} (f : X → List ℕ) (x : X) (xs : List X) (b : Bool) → flat_map f (if b then x ∷ xs else xs) ≡ (if b then f x else []) ++ flat_map f xs
one_passed f x xs true = refl
one_passed f x xs false = refl

passed : {X : Type 0} (f : X → List ℕ) (test : X → Bool) (xs : List X) → flat_map f (filter test xs) ≡ flat_map (if_passed f test) xs
passed f test [] = refl
passed f test (x ∷ xs) = one_passed f x (filter test xs) (test x) ∙ ap (λ (l : List ℕ). if_passed f test x ++ l) (passed f test xs)

-- source by source is the listing
pub by_source : (types : List (List ℕ)) (may : ℕ → ℕ → Perms → Bool) (ids : List TypeId) → flat_map (source_text types may ids) ids ≡ listing types may ids
by_source types may ids =
    let pair = λ (s t : TypeId). flat_map-map (triple_text types may) (λ (perm : Perms). record { source = s; target = t; perm = perm }) every_permission in
    let source = λ (s : TypeId). flat_map_twice (triple_text types may) (λ t. pair_triples s t) ids ∙ flat_map_same (λ t. flat_map (triple_text types may) (pair_triples s t)) (λ t. pair_text types may s t) (pair s) ids in
    sym (passed (line_of_triple types) (is_allowed_triple may) (triples_of ids) ∙ flat_map_twice (triple_text types may) (λ s. flat_map (λ t. pair_triples s t) ids) ids
    ∙ flat_map_same (λ s. flat_map (triple_text types may) (flat_map (λ t. pair_triples s t) ids)) (source_text types may ids) source ids)

-- what goes out source by source is the listing
pub appends_listing : (types : List (List ℕ)) (may : ℕ → ℕ → Perms → Bool) (ids : List TypeId) (a c : Option (List ℕ)) → Appends a c (flat_map (source_text types may ids) ids) → Appends a c (listing types may ids)
appends_listing types may ids a c h = subst (λ (l : List ℕ). Appends a c l) (by_source types may ids) h

pub begins_listing : (types : List (List ℕ)) (may : ℕ → ℕ → Perms → Bool) (ids : List TypeId) (a c : Option (List ℕ)) → AppendsBeginning a c (flat_map (source_text types may ids) ids) → AppendsBeginning a c (listing types may ids)
begins_listing types may ids a c h = subst (λ (l : List ℕ). AppendsBeginning a c l) (by_source types may ids) h

-- the last lines went out
pub finished : (types : List (List ℕ)) (may : ℕ → ℕ → Perms → Bool) (ids : List TypeId) (a b c : Option (List ℕ)) (waiting : List ℕ) → Sends a b (flat_map (source_text types may ids) ids) waiting → Appends b c waiting → Appends a c (listing types may ids)
finished types may ids a b c waiting sent h = appends_listing types may ids a c (sends_all a b c (flat_map (source_text types may ids) ids) waiting sent h)
