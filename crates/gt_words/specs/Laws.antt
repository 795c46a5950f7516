-- Consequences of the definitions, for callers.
use Rattle.std.specs.Prelude.{◌≡◌, ◌≢◌, ◌⊎◌, ℕ, ◌+◌, ◌<◌, ◌≤◌, AllPairs, ◌==◌, not, cond, Bool, true, false, List}
use Rattle.std.specs.Prelude.{[], ◌∷◌, ◌++◌, map, length, zero, suc, Option, Some, None, position, unwrap_or, nat_lt}
use Rattle.std.specs.Prelude.{IsSome, slice_index}
use Rattle.gt_words.specs.Prelude.{arith, inl, inr, ⊎_elim, get_or, eq-eqb, ne_eqb, refl, sym, ap, ◌∙◌, subst}
use Rattle.gt_words.specs.Prelude.{position_or_len, lt-ltb, nat_tests, position-Some, some, get_elem?}
use Rattle.gt_words.specs.Prelude.{State, keeps, stepped, at_map, Entry, Invalid, domain_of, DomId}
use Rattle.gt_words.specs.Prelude.{Config, DomainConfig, TABLE_ENTRIES, Dir, EntryRecord, EntryStep, Pinned, SeatStep}
use Rattle.gt_words.specs.Prelude.{View}
use Rattle.gt_words.specs.Conditions.{Board, HasDomain, IsSeatOf, SeatOf, position_at}
use Rattle.gt_words.specs.Answers.{Publishes, Revokes}
use Rattle.gt_word_history.specs.Controls.{generation_of, pins_in}
use Rattle.gt_word_history.specs.Events.{TookPlace}
use Rattle.gt_word_history.specs.History.{StepHistory}
pub use Rattle.gt_word_history.specs.Order.{AllowedStepsRecordWhatIsThere, HistoryIsOne, StepsAreTakenThen}
use Rattle.gt_word_history.specs.Rule.{IsLawful, IsNextEntry, IsRevocation, Layout, Shows, header_place, id_at}
use Rattle.gt_word_history.specs.Rule.{layout_of, owner_steps, place, position_in}
use Rattle.gt_words.specs.Sight.{SawRecord}
use Rattle.gt_word_history.specs.Steps.{on_entry}
use Rattle.gt_word_history.specs.Views.{IsAmong, LivePin, earlier_records, exchanged, last_of, last_record, live_pins}
use Rattle.gt_word_history.specs.Views.{seen}
use Rattle.gt_word_history.specs.Views.{steps_on}
use Rattle.gt_word_history.specs.Views.{with_step}

-- a domain belongs to the run exactly if the configuration has it
abbrev pub DomainsAreOfRun : Type 0
DomainsAreOfRun =
    (c : Config) (d : DomId) → (IsSome (domain_of c.domains.items d) → HasDomain (layout_of c) d)
    × (HasDomain (layout_of c) d → IsSome (domain_of c.domains.items d))

-- a domain of the run is at its position
abbrev pub DomainsStandThere : Type 0
DomainsStandThere = (k : Layout) (d : DomId) → HasDomain k d → id_at k.ids (position_in k.ids d) ≡ d

-- if all domains have different numbers, a seat is at the position of its domain
abbrev pub SeatPositionIsItsDomains : Type 0
SeatPositionIsItsDomains =
    (c : Config) (b : Board) (s : SeatOf) → AllPairs (λ d e. d.id.0 ≢ e.id.0) c.domains.items → b.layout ≡ layout_of c
    → IsSeatOf b s → s.view.position ≡ position_at b s.dom

-- in each state that words and views show, pins of one entry and generation have one record, whoever has them
abbrev pub PinsHaveOneRecord : Type 0
PinsHaveOneRecord =
    (k : Layout) (s : State (Unit {0}) View) (i j : ℕ) (v w : View) (t r : ℕ) (p q : LivePin) → Shows k s
    → get_elem? s.views i ≡ some v → get_elem? s.views j ≡ some w → t < k.domains → r < TABLE_ENTRIES
    → IsAmong p (live_pins (steps_on t r v)) → IsAmong q (live_pins (steps_on t r w))
    → p.1.generation ≡ q.1.generation → p.1 ≡ q.1

-- in each state that words and views show, each pin is of an entry, and not of an invalid record
abbrev pub PinsAreOfEntries : Type 0
PinsAreOfEntries =
    (k : Layout) (s : State (Unit {0}) View) (i : ℕ) (v : View) (t r : ℕ) (p : LivePin) → Shows k s
    → get_elem? s.views i ≡ some v → t < k.domains → r < TABLE_ENTRIES → IsAmong p (live_pins (steps_on t r v))
    → p.1.entry ≢ Invalid

-- in each state that words and views show, a pin that is left of a record is counted by each word of that record, or of
-- a later one, that the owner exchanged from: so none is left of a revoked record
abbrev pub PinsLeftAreCounted : Type 0
PinsLeftAreCounted =
    (k : Layout) (s : State (Unit {0}) View) (i : ℕ) (v : View) (t r e : ℕ) (p : LivePin) → Shows k s
    → get_elem? s.views i ≡ some v → t < k.domains → r < TABLE_ENTRIES
    → IsAmong p (live_pins (steps_on t r v)) → IsAmong e (exchanged (owner_steps t (map (steps_on t r) s.views)))
    → p.1.generation ≤ generation_of e → 0 < pins_in p.0 e

-- in each state that words and views show, what a seat saw last of an entry is of the owner's list: the word that it
-- saw encodes a record of it, and so do the body values read since, if that record is still the last one
abbrev pub WhatWasSeenIsListed : Type 0
WhatWasSeenIsListed =
    (k : Layout) (s : State (Unit {0}) View) (i : ℕ) (v : View) (t r : ℕ) → Shows k s
    → get_elem? s.views i ≡ some v → t < k.domains → r < TABLE_ENTRIES
    → let ms : List EntryStep = owner_steps t (map (steps_on t r) s.views) in
    SawRecord (last_record k.first ms) (earlier_records k.first ms) (seen (steps_on t r v))

-- the owner with the view v revoked its entry r, or published it, in a state in which no view had a pin of it
abbrev pub EndsPins : Layout → ℕ → ℕ → View → View → Type 0
EndsPins k r word v w = Revokes k r word v w ⊎ ((e : Entry) × Publishes k r e word v w)

-- after an entry was revoked, or published, each pin that a view has of it is of a later generation than the record
-- before: in each shown state that has the owner's steps up to then, with any later ones
abbrev pub NoPinOutlivesItsRecord : Type 0
NoPinOutlivesItsRecord =
    (k : Layout) (s : State (Unit {0}) View) (r word i : ℕ) (v w u x : View) (later : List SeatStep) (p : LivePin)
    → EndsPins k r word v w → v.position < k.domains → r < TABLE_ENTRIES
    → Shows k s → get_elem? s.views v.position ≡ some u → u.steps ≡ later ++ w.steps
    → get_elem? s.views i ≡ some x → IsAmong p (live_pins (steps_on v.position r x))
    → (last_of r v).generation < p.1.generation

-- if the owner exchanged from the word e, no step that takes a pin of the record of that word, or of an earlier one,
-- leads from a state that words and views show to another
abbrev pub PastPinsAreRefused : Type 0
PastPinsAreRefused =
    (k : Layout) (s : State (Unit {0}) View) (i : ℕ) (v : View) (t r e at expected left : ℕ) (d : Dir) (y : EntryRecord)
    (past : StepHistory) → Shows k s → get_elem? s.views i ≡ some v → t < k.domains → r < TABLE_ENTRIES
    → IsAmong e (exchanged (owner_steps t (map (steps_on t r) s.views))) → y.generation ≤ generation_of e
    → ¬ Shows k (stepped s at left i [] (with_step past (on_entry t r (Pinned d expected y)) v) keeps)

-- two states that words and views show with the same views have the same words: so the word that a step leaves is the
-- one that its view records
abbrev pub WordsFollowViews : Type 0
WordsFollowViews = (k : Layout) (s z : State (Unit {0}) View) → Shows k s → Shows k z → s.views ≡ z.views
    → ((t r j : ℕ) → t < k.domains → r < TABLE_ENTRIES → j < 3
    → slice_index s.words (place t r j) ≡ slice_index z.words (place t r j))
    × ((t : ℕ) → t < k.domains → slice_index s.words (header_place t) ≡ slice_index z.words (header_place t))

-- each step x of the history, by the seat i after the steps h, was taken at that moment
abbrev pub EachStepHappened : Type 0
EachStepHappened =
    (k : Layout) (s : State (Unit {0}) View) (later h : StepHistory) (i : ℕ) (x : SeatStep) (shown : Shows k s)
    → shown.history ≡ later ++ (i, x) ∷ h
    → TookPlace k i (h, x)

-- the list of records

pub bounded : (x : EntryRecord) (xs : List EntryRecord) (y : EntryRecord) → IsLawful x xs → IsAmong y (x ∷ xs)
    → y.generation ≤ x.generation
bounded x [] y l (inl e) = let g : y.generation ≡ x.generation = ap (λ (z : EntryRecord). z.generation) e in omega arith
bounded x [] y l (inr h) = absurd h
bounded x (z ∷ zs) y l (inl e) = let g : y.generation ≡ x.generation = ap (λ (w : EntryRecord). w.generation) e in
    omega arith
bounded x (z ∷ zs) y l (inr h) = let r = bounded z zs y l.2 h in
    ⊎_elim (λ (t : IsRevocation x z). let e = t.1 in omega arith)
    (λ (t : IsNextEntry x z). let e = t.0 in omega arith) l.1

-- if the last record is an entry, no other has its generation
pub alone : (x : EntryRecord) (xs : List EntryRecord) (y : EntryRecord) → IsLawful x xs → x.entry ≢ Invalid
    → IsAmong y (x ∷ xs) → y.generation ≡ x.generation → y ≡ x
alone x [] y l n (inl e) g = e
alone x [] y l n (inr h) g = absurd h
alone x (z ∷ zs) y l n (inl e) g = e
alone x (z ∷ zs) y l n (inr h) g = let r = bounded z zs y l.2 h in absurd (⊎_elim (λ (t : IsRevocation x z). n t.0)
    (λ (t : IsNextEntry x z). let e = t.0 in omega arith) l.1)

-- entries of one generation are one record
pub one_record : (x : EntryRecord) (xs : List EntryRecord) (y z : EntryRecord) → IsLawful x xs → IsAmong y (x ∷ xs)
    → IsAmong z (x ∷ xs) → y.entry ≢ Invalid → z.entry ≢ Invalid → y.generation ≡ z.generation → y ≡ z
one_record x xs y z l (inl e) (inl f) a b g = e ∙ sym f
one_record x xs y z l (inl e) (inr h) a b g =
    e ∙ sym (alone x xs z l (subst (λ (u : EntryRecord). u.entry ≢ Invalid) e a) (inr h)
    (sym g ∙ ap (λ (u : EntryRecord). u.generation) e))
one_record x xs y z l (inr h) (inl f) a b g =
    alone x xs y l (subst (λ (u : EntryRecord). u.entry ≢ Invalid) f b) (inr h)
    (g ∙ ap (λ (u : EntryRecord). u.generation) f) ∙ sym f
one_record x [] y z l (inr h) (inr j) a b g = absurd h
one_record x (u ∷ us) y z l (inr h) (inr j) a b g = one_record u us y z l.2 h j a b g

-- domains and positions

-- a number is found at its position, if it is at no earlier one
position_or_len-id : (xs : List DomId) (at : ℕ) → at < length xs → ((i : ℕ) → i < at → (id_at xs i).0 ≢ (id_at xs at).0)
    → position_or_len (λ (x : DomId). x.0 == (id_at xs at).0) xs ≡ at
position_or_len-id [] at inside apart = absurd (omega arith)
position_or_len-id (x ∷ xs) zero inside apart =
    ap (λ (b : Bool). cond (not b) (1 + position_or_len (λ (y : DomId). y.0 == x.0) xs) 0) (eq-eqb x.0 x.0 refl)
position_or_len-id (x ∷ xs) (suc at) inside apart = let n = apart 0 (omega arith) in
    let rest = position_or_len-id xs at (omega arith) (λ i l. apart (suc i) (omega arith)) in
    ap (λ (b : Bool). cond (not b) (1 + position_or_len (λ (y : DomId). y.0 == (id_at xs at).0) xs) 0)
    (ne_eqb x.0 (id_at xs at).0 n)
    ∙ (let e : 1 + position_or_len (λ (y : DomId). y.0 == (id_at xs at).0) xs ≡ suc at = omega arith in e)

pub id_at-map : (xs : List DomainConfig) (i : ℕ) (d : DomainConfig) → i < length xs
    → id_at (map (λ y. y.id) xs) i ≡ (get_or xs i d).id
id_at-map [] i d inside = absurd (omega arith)
id_at-map (x ∷ xs) zero d inside = refl
id_at-map (x ∷ xs) (suc i) d inside = id_at-map xs i d (omega arith)

pub length-ids : (xs : List DomainConfig) → length (map (λ y. y.id) xs) ≡ length xs
length-ids [] = refl
length-ids (x ∷ xs) = ap suc (length-ids xs)

distinct_ids : (xs : List DomainConfig) → AllPairs (λ d e. d.id.0 ≢ e.id.0) xs → (i j : ℕ) → i < j → j < length xs
    → (id_at (map (λ y. y.id) xs) i).0 ≢ (id_at (map (λ y. y.id) xs) j).0
distinct_ids [] distinct i j below inside = absurd (omega arith)
distinct_ids (x ∷ xs) distinct i j below inside =
    λ e. distinct i j x below inside
    (ap (λ (u : DomId). u.0) (sym (id_at-map (x ∷ xs) i x (omega arith)))
    ∙ (e ∙ ap (λ (u : DomId). u.0) (id_at-map (x ∷ xs) j x inside)))

found_there : (n len : ℕ) → n < len → unwrap_or (cond (nat_lt n len) (Some n) None) len ≡ n
found_there n len inside = grind (arith, nat_tests)

-- a seat's domain is found at the seat's position
pub own_position : (key : Config) (k : Layout) (ids : List DomId) (p : ℕ) (dom : DomId) → layout_of key ≡ k
    → AllPairs (λ d e. d.id.0 ≢ e.id.0) key.domains.items → ids ≡ (layout_of key).ids → p < length k.ids → id_at k.ids p ≡ dom → p ≡ position_in ids dom
own_position key k ids p dom is distinct same inside named = let xs : List DomId = (layout_of key).ids in
    let all : List DomainConfig = key.domains.items in
    let inside' : p < length xs = subst (λ (u : Layout). p < length u.ids) (sym is) inside in
    let named' : id_at xs p ≡ dom = subst (λ (u : Layout). id_at u.ids p ≡ dom) (sym is) named in
    let l = length-ids all in let found =
    position_or_len-id xs p inside' (λ i below. distinct_ids all distinct i p below (omega arith)) in
    let at : position_in xs (id_at xs p) ≡ p =
    ap (λ (n : ℕ). unwrap_or (cond (nat_lt n (length xs)) (Some n) None) (length xs)) found
    ∙ found_there p (length xs) inside' in
    sym at ∙ ((λ i. position_in xs (named' i)) ∙ (λ i. position_in (sym same i) dom))

found_at : (xs : List DomId) (d : DomId) (o : Option ℕ) → position (λ (x : DomId). x.0 == d.0) xs ≡ o
    → unwrap_or o (length xs) < length xs → (id_at xs (unwrap_or o (length xs))).0 ≡ d.0
found_at xs d None is inside = absurd (omega arith)
found_at xs d (Some i) is inside =
    let passes = (position-Some (λ (x : DomId). x.0 == d.0) xs i (record { 0 = 0 }) is).1 in grind (arith, nat_tests)

abbrev domain_numbered : ℕ → DomId
domain_numbered n = record { 0 = n }

-- a domain of the run is at its position
pub domain_at : DomainsStandThere
domain_at k d inside = ap domain_numbered (found_at k.ids d (position (λ (x : DomId). x.0 == d.0) k.ids) refl inside)

id_of : DomainConfig → DomId
id_of x = x.id

-- whether the list of a configuration has a domain or not
among : (ds : List DomainConfig) (d : DomId) → IsSome (domain_of ds d)
    → position_or_len (λ (y : DomId). y.0 == d.0) (map (λ z. z.id) ds) < length (map (λ z. z.id) ds)
among [] d e = cc
among (c ∷ ds) d e = by (λ z. among ds d z) (c.id.0 == d.0) e
  where
    by : (IsSome (domain_of ds d)
        → position_or_len (λ (y : DomId). y.0 == d.0) (map (λ z. z.id) ds) < length (map (λ z. z.id) ds)) → (b : Bool)
        → IsSome (cond b (Some c) (domain_of ds d))
        → cond (not b) (1 + position_or_len (λ (y : DomId). y.0 == d.0) (map (λ z. z.id) ds)) 0 < suc
        (length (map (λ z. z.id) ds))
    by rest true is = omega arith
    by rest false is = let more = rest is in omega (arith, more)

named : (ds : List DomainConfig) (d : DomId)
    → position_or_len (λ (y : DomId). y.0 == d.0) (map (λ z. z.id) ds) < length (map (λ z. z.id) ds)
    → IsSome (domain_of ds d)
named [] d e = absurd (omega arith)
named (c ∷ ds) d e = by (λ z. named ds d z) (c.id.0 == d.0) e
  where
    by : (position_or_len (λ (y : DomId). y.0 == d.0) (map (λ z. z.id) ds) < length (map (λ z. z.id) ds)
        → IsSome (domain_of ds d)) → (b : Bool)
        → cond (not b) (1 + position_or_len (λ (y : DomId). y.0 == d.0) (map (λ z. z.id) ds)) 0 < suc
        (length (map (λ z. z.id) ds)) → IsSome (cond b (Some c) (domain_of ds d))
    by rest true is = refl
    by rest false is = rest (omega arith)

unwrapped : (n at : ℕ) → at < n → unwrap_or (cond (nat_lt at n) (Some at) None) n < n
unwrapped n at lt = by (nat_lt at n) (lt-ltb at n lt)
  where
    by : (b : Bool) → b ≡ true → unwrap_or (cond b (Some at) None) n < n
    by true e = lt
    by false e = cc

wrapped : (n at : ℕ) → unwrap_or (cond (nat_lt at n) (Some at) None) n < n → at < n
wrapped n at lt = grind (arith, nat_tests)

-- a domain belongs to the run exactly if the configuration has it
pub domain_of_run : DomainsAreOfRun
domain_of_run c d = (λ e. unwrapped _ _ (among c.domains.items d e), λ lt. named c.domains.items d (wrapped _ _ lt))

-- a seat is at the position of its domain
pub seat_at : SeatPositionIsItsDomains
seat_at c b s distinct layout is =
    own_position c b.layout b.layout.ids s.view.position s.dom (sym layout) distinct
    (ap (λ (k : Layout). k.ids) layout) is.inside is.named

-- pins of one entry and generation have one record
pub pins_alike : PinsHaveOneRecord
pins_alike k s i j v w t r p q shown at_v at_w tn rn p_in q_in same = let f = (shown.now.entries t r tn rn).record_shown in
    let a = f.pinned i (steps_on t r v) (at_map (steps_on t r) s.views i v at_v) p p_in in
    let b = f.pinned j (steps_on t r w) (at_map (steps_on t r) s.views j w at_w) q q_in in
    one_record _ _ p.1 q.1 f.lawful a.0 b.0 a.1 b.1 same

-- each pin is of an entry
pub pin_entry : PinsAreOfEntries
pin_entry k s i v t r p shown at tn rn p_in =
    ((shown.now.entries t r tn rn).record_shown.pinned i (steps_on t r v) (at_map (steps_on t r) s.views i v at) p p_in).1
