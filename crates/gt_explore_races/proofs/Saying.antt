-- The races whose texts were found.
use Rattle.std.proofs.Common.{◌≡◌, ◌<◌, ◌≤◌, ◌+◌, ◌^◌, ◌⊎◌, ℕ, zero, suc, Bool, true, false, cond, List, [], ◌∷◌, ◌++◌, length, take}
use Rattle.std.proofs.Common.{Option, Some, None, refl, ap, sym, ◌∙◌, subst, inl, inr, arith, get_or}
use Rattle.std.proofs.lemmas.Bool.{false≢true, leb-false, leb-true}
use Rattle.std.proofs.lemmas.List.{append_cancel_left, get_or_append_left, length-append, take_all, take_more}
use Rattle.std.proofs.lemmas.List.Elements.{All-nil, All-push}
use Rattle.std.proofs.lemmas.List.Sorted.{All-permutation, Contains-permutation}
use Rattle.std.specs.List.Sorted.{IsPermutation, IsStrictlySortedBy}
use Rattle.std.proofs.lemmas.Nat.{from_be_bytes-to_be_bytes_8}
use Rattle.std.proofs.lemmas.Option.{none-some, same_Some, slice_get_within, get_or_from_slice_get}
use Rattle.std.proofs.Math.Seq.{get_or-append_seam, take-append_seam}
use Rattle.std.specs.Int.{from_be_bytes, to_be_bytes, w64}
use Rattle.std.specs.Option.{option_map}
use Rattle.std.specs.Prelude.{◌==◌, Contains, nat_le, slice_get}
use Rattle.gt_explore_moves.specs.Scenes.{IsSceneOf}
use Rattle.gt_explore_moves.specs.declared.scene.SearchContext.{SearchContext}
use Rattle.gt_explore_replay.proofs.Places.{get_cases}
use Rattle.gt_explore_replay.specs.Courses.{IsTurnedBy}
use Rattle.gt_explore_replay.specs.Orders.{Happening, IsOrderOf}
use Rattle.gt_explore_replay.specs.Walking.{HaveOwnIds}
use Rattle.gt_explore_search.specs.Exploring.{AllTextsFound}
use Rattle.gt_explore_search.specs.declared.exploring.FoundText.{FoundText}
use Rattle.gt_explore_search.specs.declared.exploring.SearchResult.{SearchResult}
use Rattle.gt_explore_search.specs.declared.spaces.Turn.{Turn}
use Rattle.gt_script.specs.Lists.{RunTask}
use Rattle.gt_script.specs.RunContents.{RunContents}
use Rattle.gt_script.specs.RunScripts.{list_of}
use Rattle.gt_types.specs.declared.DomId.{DomId}
use Rattle.gt_explore_races.proofs.Orders.{one-race, race-found}
use Rattle.gt_explore_races.specs.Listing.{AreSmall, HasRacesOfTexts, IsSmall, IsTextOfRace}
use Rattle.gt_explore_races.specs.Races.{AreRacesOf, EachRaces, HasEachRace, IsRaceOf, Races, last_line}
use Rattle.gt_explore_races.specs.Spaces.{race_ways}
use Rattle.gt_explore_races.specs.Texts.{race_of, race_text}
use Rattle.gt_explore_races.specs.declared.racing.Race.{Race}

abbrev pair : ℕ → ℕ → Race
pair m n = record { first = m; second = n }

-- each race has another text

long : (n : ℕ) → length (to_be_bytes w64 n) ≡ 8
long n = refl

front : (m n : ℕ) (xs ys : List ℕ) → to_be_bytes w64 m ++ xs ≡ to_be_bytes w64 n ++ ys → to_be_bytes w64 m ≡ to_be_bytes w64 n
front m n xs ys e =
    sym (take-append_seam (to_be_bytes w64 m) xs) ∙ ap (λ (k : ℕ). take k (to_be_bytes w64 m ++ xs)) (long m) ∙ ap (take 8) e
    ∙ ap (λ (k : ℕ). take k (to_be_bytes w64 n ++ ys)) (sym (long n)) ∙ take-append_seam (to_be_bytes w64 n) ys

one-number : (m n : ℕ) → m < 2 ^ 64 → n < 2 ^ 64 → to_be_bytes w64 m ≡ to_be_bytes w64 n → m ≡ n
one-number m n p q e = sym (from_be_bytes-to_be_bytes_8 m p) ∙ ap (from_be_bytes w64) e ∙ from_be_bytes-to_be_bytes_8 n q

one-text : (r t : Race) → IsSmall r → IsSmall t → race_text r ≡ race_text t → r ≡ t
one-text r t p q e =
    let same : to_be_bytes w64 r.first ≡ to_be_bytes w64 t.first = front r.first t.first (to_be_bytes w64 r.second) (to_be_bytes w64 t.second) e in
    let rest : to_be_bytes w64 r.second ≡ to_be_bytes w64 t.second =
    append_cancel_left (to_be_bytes w64 t.first) (to_be_bytes w64 r.second) (to_be_bytes w64 t.second) (ap (λ (l : List ℕ). l ++ to_be_bytes w64 r.second) (sym same) ∙ e) in
    ap (λ (n : ℕ). pair n r.second) (one-number r.first t.first p.first q.first same)
    ∙ ap (λ (n : ℕ). pair t.first n) (one-number r.second t.second p.second q.second rest)

-- a text more

-- an empty text is that of no race
not-empty : (r : Race) → [] ≡ race_text r → ⊥
not-empty r e = let empty : 0 ≡ length (race_text r) = ap (λ (l : List ℕ). length l) e in absurd (omega (arith, empty, length-append (to_be_bytes w64 r.first) (to_be_bytes w64 r.second), long r.first))

-- the races so far, and the text that comes next
said-next : (found : List FoundText) (n : ℕ) (o : FoundText) (races : List Race) → n < length found → o ≡ get_or found n o → HasRacesOfTexts (take n found) races
    → ((r : Race) → o.text.items ≡ race_text r → IsSmall r → Contains races r) → HasRacesOfTexts (take (n + 1) found) races
said-next found n o races lt is said here at p r there text small =
    let front : take (n + 1) found ≡ take n found ++ o ∷ [] = take_more found n o lt ∙ ap (λ (z : FoundText). take n found ++ z ∷ []) (sym is) in
    elim (get_cases (take n found) o p at (ap (λ (l : List FoundText). slice_get l at) (sym front) ∙ there)) [
      | inl (less, before) ↦ said at p r before text small
      | inr (last, same) ↦ here r (ap (λ (z : FoundText). z.text.items) same ∙ text) small
    ]

pub said-empty : (found : List FoundText) (n : ℕ) (o : FoundText) (races : List Race) → n < length found → o ≡ get_or found n o → HasRacesOfTexts (take n found) races → o.text.items ≡ [] → HasRacesOfTexts (take (n + 1) found) races
said-empty found n o races lt is said none = said-next found n o races lt is said (λ r text small. absurd (not-empty r (sym none ∙ text)))

-- a race more
pub contains-more : (races : List Race) (r t : Race) → Contains races t → Contains (races ++ r ∷ []) t
contains-more races r t (at, lt, is) = let long = length-append races (r ∷ []) in (at, omega (arith, lt, long), get_or_append_left races (r ∷ []) t at lt ∙ is)

pub contains-last : (races : List Race) (r : Race) → Contains (races ++ r ∷ []) r
contains-last races r = let long = length-append races (r ∷ []) in (length races, omega (arith, long), get_or-append_seam races r [] r)

pub said-race : (c : RunContents) (found : List FoundText) (n : ℕ) (o : FoundText) (races : List Race) (race : Race) → n < length found → o ≡ get_or found n o → HasRacesOfTexts (take n found) races → IsTextOfRace c o race
    → HasRacesOfTexts (take (n + 1) found) (races ++ race ∷ [])
said-race c found n o races race lt is said says =
    said-next found n o (races ++ race ∷ []) lt is (λ at p r there text small. contains-more races race r (said at p r there text small))
    (λ r text small. subst (λ (t : Race). Contains (races ++ race ∷ []) t) (one-text race r says.small small (says.text ∙ text)) (contains-last races race))

pub nil-of : (xs : List ℕ) → length xs ≡ 0 → xs ≡ []
nil-of [] e = refl
nil-of (x ∷ xs) e = absurd (omega (arith, e))

-- no text
pub said-none : (found : List FoundText) (races : List Race) → HasRacesOfTexts (take 0 found) races
said-none found races at o r there text small = absurd (none-some o there)

-- a race more, which there is
pub each-more : (c : RunContents) (races : List Race) (race : Race) (o : FoundText) → EachRaces c races → IsTextOfRace c o race → EachRaces c (races ++ race ∷ [])
each-more c races race o each says = All-push (Races c) races race each says.races

-- all texts
pub said-all : (found : List FoundText) (n : ℕ) (races : List Race) → length found ≤ n → HasRacesOfTexts (take n found) races → HasRacesOfTexts found races
said-all found n races le said = subst (λ (l : List FoundText). HasRacesOfTexts l races) (take_all n found le) said

-- in another order
pub said-sorted : (found : List FoundText) (xs ys : List Race) → IsPermutation xs ys → HasRacesOfTexts found xs → HasRacesOfTexts found ys
said-sorted found xs ys same said at o r there text small = Contains-permutation xs ys r same (said at o r there text small)

pub each-sorted : (c : RunContents) (xs ys : List Race) → IsPermutation xs ys → EachRaces c xs → EachRaces c ys
each-sorted c xs ys same each = All-permutation (Races c) xs ys same each

-- lines

small-own : (tasks : List RunTask) → AreSmall tasks → (d : DomId) → AreSmall (list_of tasks d)
small-own [] small d at t there = absurd (none-some t there)
small-own (u ∷ tasks) small d at t there = by (u.dom.0 == d.0) refl at there (small-own tasks (λ n v here. small (suc n) v here) d) where
  by : (b : Bool) → (u.dom.0 == d.0) ≡ b → (n : ℕ) → slice_get (cond b (u ∷ list_of tasks d) (list_of tasks d)) n ≡ Some t → AreSmall (list_of tasks d) → t.line < 2 ^ 64
  by true e zero here rest = small zero t here
  by true e (suc n) here rest = rest n t here
  by false e n here rest = rest n t here

small-last : (tasks : List RunTask) → AreSmall tasks → (n k : ℕ) → last_line tasks n ≡ Some k → k < 2 ^ 64
small-last tasks small zero k e = absurd (none-some k e)
small-last tasks small (suc n) k e = by (slice_get tasks n) refl e where
  by : (o : Option RunTask) → slice_get tasks n ≡ o → option_map (λ (t : RunTask). t.line) o ≡ Some k → k < 2 ^ 64
  by None is f = absurd (none-some k f)
  by (Some t) is f = subst (λ (m : ℕ). m < 2 ^ 64) (same_Some t.line k f) (small n t is)

small-race : (k l : ℕ) → k < 2 ^ 64 → l < 2 ^ 64 → IsSmall (race_of k l)
small-race k l p q = by (nat_le k l) where
  by : (b : Bool) → IsSmall (cond b (pair k l) (pair l k))
  by true = record { first = p; second = q }
  by false = record { first = q; second = p }

-- the first of these tasks
abbrev pub AreSmallTo : List RunTask → ℕ → Type 0
AreSmallTo tasks n = (at : ℕ) (t : RunTask) → at < n → slice_get tasks at ≡ Some t → t.line < 2 ^ 64

at-or-below : (at n : ℕ) → at < n + 1 → (at < n) ⊎ (at ≡ n)
at-or-below at n lt = grind arith

pub small-more : (tasks : List RunTask) (n : ℕ) (t : RunTask) → t ≡ get_or tasks n t → t.line < 2 ^ 64 → AreSmallTo tasks n → AreSmallTo tasks (n + 1)
small-more tasks n t is small before at u lt there = elim (at-or-below at n lt) [
  | inl less ↦ before at u less there
  | inr same ↦ subst (λ (z : RunTask). z.line < 2 ^ 64) (is ∙ get_or_from_slice_get tasks n u t (ap (slice_get tasks) (sym same) ∙ there)) small
]

pub small-all : (tasks : List RunTask) (n : ℕ) → length tasks ≤ n → AreSmallTo tasks n → AreSmall tasks
small-all tasks n le before at t there = before at t (let lt = slice_get_within tasks at t there in omega arith) there

-- races

less-or-same : (m n : ℕ) → m < n → m ≤ n
less-or-same m n less = omega arith

pub none-found : (c : RunContents) → AreRacesOf c false []
unfolding IsStrictlySortedBy
none-found c = record {
  ascending = tt;
  each = All-nil (Races c);
  all = λ whole. absurd (false≢true whole);
}

pub in-either : (c : RunContents) (k l : ℕ) → IsRaceOf c k l → Races c (race_of k l)
in-either c k l race = by (nat_le k l) refl where
  by : (b : Bool) → nat_le k l ≡ b → Races c (cond b (pair k l) (pair l k))
  by true e = (leb-true k l e, inl race)
  by false e = (less-or-same l k (leb-false k l e), inr race)

module _ (scene : SearchContext) (c : RunContents) (is : IsSceneOf c scene) (found : SearchResult) (races : List Race)
    (turned : (d : RunContents) (hs : List Happening) (text : List ℕ) → HaveOwnIds d.head.domains → IsOrderOf d hs text → (turns : List Turn) × IsTurnedBy d hs turns text)
    (all : AllTextsFound (race_ways scene) found) (small : AreSmall c.tasks) (said : HasRacesOfTexts found.orders.items races) where
  listed : (k l : ℕ) → IsRaceOf c k l → Contains races (race_of k l)
  listed k l race =
      let f = race-found scene c is k l race found turned all in
      let first = small-last (list_of c.tasks race.one) (small-own c.tasks small race.one) _ k race.first_line in
      let second = small-last (list_of c.tasks race.other) (small-own c.tasks small race.other) _ l race.second_line in
      said f.0 f.1 (race_of k l) f.2 f.3 (small-race k l first second)

  pub each-listed : HasEachRace c races
  each-listed k l (inl race) = listed k l race
  each-listed k l (inr race) = subst (λ (r : Race). Contains races r) (one-race l k) (listed l k race)
