-- Domains and positions, and what a step leaves of the words and of the owners' records.
use Rattle.std.proofs.lemmas.Bool.{cases_eq, cases_lt}
use Rattle.gt_model.specs.declared.change.EntryChange.{EntryChange}
use Rattle.std.proofs.Common.{inl, inr, ◌≡◌, ◌≢◌, ℕ, ◌<◌, Bool, true, false, cond, ◌==◌, ◌&&◌, List, [], ◌∷◌, length}
use Rattle.std.proofs.Common.{sym, refl, ap, ◌∙◌, subst, arith, eq-eqb, ne_eqb}
use Rattle.gt_types.specs.Config.{IsWithinLimits}
use Rattle.gt_types.specs.declared.DomId.{DomId}
use Rattle.gt_types.specs.declared.config.Config.{Config}
use Rattle.gt_types.specs.declared.config.DomainConfig.{DomainConfig}
use Rattle.gt_types.specs.declared.limits.TheConstants.{TABLE_ENTRIES}
use Rattle.gt_word_history.proofs.Order.{part_else, part_here}
use Rattle.gt_words.specs.Conditions.{HasDomain}
use Rattle.gt_word_history.specs.History.{StepHistory, Layout, left_by, part_of, word_place_of, word_after}
use Rattle.gt_words.specs.Laws.{domain_at, id_at-map, length-ids}
use Rattle.gt_word_history.specs.Rule.{header_place, id_at, layout_of, place, position_in}
use Rattle.gt_word_history.specs.Views.{entry_steps, last_record}
use Rattle.gt_word_history.specs.declared.view.EntryRecord.{EntryRecord}
use Rattle.gt_word_history.specs.declared.view.EntryStep.{EntryStep}
use Rattle.gt_word_history.specs.declared.view.EntryStep.TheVariants.{Changed}
use Rattle.gt_word_history.specs.declared.view.SeatStep.{SeatStep}
use Rattle.gt_word_history.specs.declared.view.SeatStep.TheVariants.{Entry, Flag, Frame, Header}
use Rattle.gt_linearization.specs.Agreeing.{dom_at, last_at}

-- domains and positions

pub as-many : (c : Config) (k : Layout) → k ≡ layout_of c → length k.ids ≡ k.domains
as-many c k is = subst (λ (z : Layout). length z.ids ≡ z.domains) (sym is) (length-ids c.domains.items)

-- a domain of the run is the one at its position, which is one of theirs
pub dom-there : (c : Config) (k : Layout) (d : DomId) (t : ℕ) → k ≡ layout_of c → HasDomain k d → t ≡ position_in k.ids d → (dom_at k t ≡ d) × (t < k.domains)
dom-there c k d t is has at = (ap (id_at k.ids) at ∙ domain_at k d has, let n = as-many c k is in omega arith)

no-two : (c : Config) (i j : ℕ) → IsWithinLimits c → i < j → j < length c.domains.items → (dom_at (layout_of c) i).0 ≢ (dom_at (layout_of c) j).0
no-two c i j limits below inside e = by c.domains.items refl inside where
  by : (xs : List DomainConfig) → xs ≡ c.domains.items → j < length xs → ⊥
  by [] is l = absurd (omega arith)
  by (x ∷ xs) is l =
      let within : i < length c.domains.items = omega arith in
      let a = id_at-map c.domains.items i x within in let b = id_at-map c.domains.items j x inside in
      limits.distinct i j x below inside (ap (λ (u : DomId). u.0) (sym a) ∙ (e ∙ ap (λ (u : DomId). u.0) b))

-- no two positions have one domain
pub one-position : (c : Config) (k : Layout) (i j : ℕ) → k ≡ layout_of c → IsWithinLimits c → i < k.domains → j < k.domains → (dom_at k i).0 ≡ (dom_at k j).0 → i ≡ j
one-position c k i j is limits a b e =
    let a' : i < length c.domains.items = subst (λ (z : Layout). i < z.domains) is a in
    let b' : j < length c.domains.items = subst (λ (z : Layout). j < z.domains) is b in
    let e' : (dom_at (layout_of c) i).0 ≡ (dom_at (layout_of c) j).0 = subst (λ (z : Layout). (dom_at z i).0 ≡ (dom_at z j).0) is e in
    elim (cases_eq i j) [ inl same ↦ same | inr n ↦ elim (cases_lt i j) [ inl l ↦ absurd (no-two c i j limits l b' e') | inr l ↦ let m : j < i = omega arith in absurd (no-two c j i limits m a' (sym e')) ] ]

pub test-same : (c : Config) (k : Layout) (i t : ℕ) → i ≡ t → ((dom_at k i).0 == (dom_at k t).0) ≡ true
test-same c k i t e = eq-eqb (dom_at k i).0 (dom_at k t).0 (ap (λ (z : ℕ). (dom_at k z).0) e)

pub test-apart : (c : Config) (k : Layout) (i t : ℕ) → k ≡ layout_of c → IsWithinLimits c → i < k.domains → t < k.domains → i ≢ t → ((dom_at k i).0 == (dom_at k t).0) ≡ false
test-apart c k i t is limits a b n = ne_eqb (dom_at k i).0 (dom_at k t).0 (λ e. n (one-position c k i t is limits a b e))

-- what a step leaves of the words

pub word-here : (k : Layout) (i : ℕ) (x : SeatStep) (h : StepHistory) (p : ℕ) → word_place_of x ≡ p → word_after k ((i, x) ∷ h) p ≡ left_by x (word_after k h p)
word-here k i x h p e = ap (λ (b : Bool). cond b (left_by x (word_after k h p)) (word_after k h p)) (eq-eqb (word_place_of x) p e)

pub word-else : (k : Layout) (i : ℕ) (x : SeatStep) (h : StepHistory) (p : ℕ) → word_place_of x ≢ p → word_after k ((i, x) ∷ h) p ≡ word_after k h p
word-else k i x h p n = ap (λ (b : Bool). cond b (left_by x (word_after k h p)) (word_after k h p)) (ne_eqb (word_place_of x) p n)

cond-same : {A : Type 0} (b : Bool) (x y : A) → x ≡ y → cond b x y ≡ y
cond-same true x y e = e
cond-same false x y e = refl

-- a step that leaves the number that it finds leaves each word
pub word-kept : (k : Layout) (i : ℕ) (x : SeatStep) (h : StepHistory) (p : ℕ) → ((n : ℕ) → left_by x n ≡ n) → word_after k ((i, x) ∷ h) p ≡ word_after k h p
word-kept k i x h p keeps = cond-same (word_place_of x == p) (left_by x (word_after k h p)) (word_after k h p) (keeps (word_after k h p))

-- places are apart

pub places-apart : (t r j u q i : ℕ) → r < TABLE_ENTRIES → q < TABLE_ENTRIES → j < 3 → i < 3 → place t r j ≡ place u q i → (t ≡ u) × (r ≡ q) × (j ≡ i)
places-apart t r j u q i a b c d e = (omega arith, omega arith, omega arith)

pub header-apart : (t r j u : ℕ) → r < TABLE_ENTRIES → j < 3 → place t r j ≡ header_place u → ⊥
header-apart t r j u a b e = omega arith

pub headers-apart : (t u : ℕ) → header_place t ≡ header_place u → t ≡ u
headers-apart t u e = omega arith

-- the owners' records

-- a step that is no taken exchange
abbrev pub IsNoChange : EntryStep → Type 0
IsNoChange (Changed c e n x) = ⊥
IsNoChange m = Unit {0}

abbrev pub ChangesNothing : SeatStep → Type 0
ChangesNothing (Entry t r m) = IsNoChange m
ChangesNothing (Header t m) = Unit {0}
ChangesNothing (Frame t f m) = Unit {0}
ChangesNothing (Flag f m) = Unit {0}

record-plain : (first : ℕ) (m : EntryStep) (ms : List EntryStep) → IsNoChange m → last_record first (m ∷ ms) ≡ last_record first ms
record-plain first (Changed c e n x) ms q = absurd q
record-plain first m ms q = refl

record-after : (first t r : ℕ) (x : SeatStep) (xs : List SeatStep) → ChangesNothing x → last_record first (entry_steps t r (x ∷ xs)) ≡ last_record first (entry_steps t r xs)
record-after first t r (Entry d q m) xs c = by ((d == t) && (q == r))
  where
    by : (b : Bool) → last_record first (cond b (m ∷ entry_steps t r xs) (entry_steps t r xs)) ≡ last_record first (entry_steps t r xs)
    by true = record-plain first m (entry_steps t r xs) c
    by false = refl
record-after first t r (Header d m) xs c = refl
record-after first t r (Frame d f m) xs c = refl
record-after first t r (Flag f m) xs c = refl

-- a step that changes nothing leaves each record
pub record-kept : (k : Layout) (i : ℕ) (x : SeatStep) (h : StepHistory) (t r : ℕ) → ChangesNothing x → last_at k t r ((i, x) ∷ h) ≡ last_at k t r h
record-kept k i x h t r c = by (i == t)
  where
    by : (b : Bool) → last_record k.first (entry_steps t r (cond b (x ∷ part_of t h) (part_of t h))) ≡ last_at k t r h
    by true = record-after k.first t r x (part_of t h) c
    by false = refl

-- and a taken exchange leaves each but its own
pub record-here : (k : Layout) (i q : ℕ) (c : EntryChange) (e n : ℕ) (y : EntryRecord) (h : StepHistory) → last_at k i q ((i, Entry i q (Changed c e n y)) ∷ h) ≡ y
record-here k i q c e n y h =
    ap (λ (l : List SeatStep). last_record k.first (entry_steps i q l)) (part_here i (Entry i q (Changed c e n y)) h)
    ∙ ap (λ (b : Bool). last_record k.first (cond b (Changed c e n y ∷ entry_steps i q (part_of i h)) (entry_steps i q (part_of i h)))) (let b : ((i == i) && (q == q)) ≡ true = λ z. eq-eqb i i refl z && eq-eqb q q refl z in b)

pub record-else : (k : Layout) (i q : ℕ) (m : EntryStep) (h : StepHistory) (t r : ℕ) → (i ≡ t → q ≡ r → ⊥) → last_at k t r ((i, Entry i q m) ∷ h) ≡ last_at k t r h
record-else k i q m h t r n =
    elim (cases_eq i t) [
      | inl e ↦ by (i == t) (let f : q ≢ r = n e in λ z. (i == t) && ne_eqb q r f z)
      | inr f ↦ ap (λ (l : List SeatStep). last_record k.first (entry_steps t r l)) (part_else i (Entry i q m) h t f)
    ]
  where
    by : (b : Bool) → ((i == t) && (q == r)) ≡ ((i == t) && false) → last_record k.first (entry_steps t r (cond b (Entry i q m ∷ part_of t h) (part_of t h))) ≡ last_at k t r h
    by true e = ap (λ (b : Bool). last_record k.first (cond b (m ∷ entry_steps t r (part_of t h)) (entry_steps t r (part_of t h)))) (e ∙ off (i == t))
      where
        off : (b : Bool) → (b && false) ≡ false
        off true = refl
        off false = refl
    by false e = refl
