-- Steps on a header word keep the rule, and take the shown state to the one that their event gives.
use Rattle.std.proofs.Common.{◌≡◌, ◌≢◌, ◌⊎◌, inl, inr, ℕ, ◌*◌, ◌<◌, ◌≤◌, Bool, true, false, cond, ◌==◌, List, [], ◌∷◌}
use Rattle.std.proofs.Common.{map, get_or, set, sym, refl, ap, ◌∙◌, subst, arith, length-set, get_or-set_other}
use Rattle.std.proofs.Common.{get_or-set_same, eq-eqb, ne_eqb, if◌then◌else◌}
use mathlib.Core.Option.{some, none}
use mathlib.Core.Logic.{dite}
use native.Mathlib.Decide.{ℕ_discrete}
use lib.ListN.{get_elem?}
use lib.Seq.{map-set}
use Rattle.atomic_table.specs.Table.{State, Me, step, stepped, keeps, Allows}
use Rattle.atomic_table.proofs.Lists.{set_again, at_map}
use Rattle.gt_words.proofs.Lists.{whose_at, whose_here}
use Rattle.gt_words.proofs.SeatsKept.{header_keeps, header_keeps_pins, header_keeps_rows, header_sees}
use Rattle.gt_words.proofs.Lifts.{still_dealt, still_seated}
use Rattle.gt_words.proofs.StepDuties.{kind_owes}
use Rattle.gt_entry.specs.Laws.{header-round}
use Rattle.gt_model.specs.Words.{header_of, header_word, size_of}
use Rattle.gt_model.specs.declared.header.Header.{Header}
use Rattle.gt_types.specs.declared.limits.TheConstants.{ENTRIES_V1, ENTRIES_V2, TABLE_ENTRIES}
use Rattle.gt_words.specs.Answers.{AddsToHeader, LooksAtHeader, StepsOnHeader, StoresHeader}
use Rattle.gt_word_history.specs.Events.{HeaderByOwner, header_after}
use Rattle.gt_word_history.proofs.Order.{leads_on}
use Rattle.gt_word_history.specs.History.{StepHistory, RecordsWord, left_by}
use Rattle.gt_word_history.specs.Rule.{IsHeader, IsKeptHeader, Layout, Shows, HasStood, Stands, ShowsEntry}
use Rattle.gt_word_history.specs.Rule.{header_now, header_place, place}
use Rattle.gt_word_history.specs.Steps.{TakesStep, looking_at_header, on_header, storing_header, promises_step}
use Rattle.gt_word_history.specs.Views.{own, own_header, steps_on, steps_on_header, stored_header, with_step}
use Rattle.gt_word_history.specs.declared.view.EntryStep.{EntryStep}
use Rattle.gt_word_history.specs.declared.view.HeaderStep.{HeaderStep}
use Rattle.gt_word_history.specs.declared.view.View.{View}
use Rattle.gt_word_history.specs.declared.view.HeaderStep.TheVariants as header

header_here : (past : StepHistory) (t : ℕ) (m : HeaderStep) (v : View) → steps_on_header t (with_step past (on_header t m) v) ≡ m ∷ steps_on_header t v
header_here past t m v = ap (λ (b : Bool). cond b (m ∷ steps_on_header t v) (steps_on_header t v)) (eq-eqb t t refl)

header_else : (past : StepHistory) (t : ℕ) (m : HeaderStep) (v : View) (u : ℕ) → t ≢ u → steps_on_header u (with_step past (on_header t m) v) ≡ steps_on_header u v
header_else past t m v u n = ap (λ (b : Bool). cond b (m ∷ steps_on_header u v) (steps_on_header u v)) (ne_eqb t u n)

-- the header after a step of the seat i, whose steps on it were h
header_now-set : (k : Layout) (t : ℕ) (hs : List (List HeaderStep)) (i : ℕ) (h : List HeaderStep) (m : HeaderStep) → get_elem? hs i ≡ some h → HeaderByOwner i t m → header_now k t (set hs i (m ∷ h)) ≡ header_after m (header_now k t hs)
header_now-set k t hs i h (header.Looked n) at own = let w : ℕ = get_or k.headers t 0 in let m : HeaderStep = header.Looked n in dite (ℕ_discrete t i)
    (λ e. subst (λ (z : ℕ). stored_header w (get_or (set hs i (m ∷ h)) z []) ≡ stored_header w (get_or hs z [])) (sym e) (ap (stored_header w) (whose_here hs i h (m ∷ h) at) ∙ sym (ap (stored_header w) (whose_at hs i h at))))
    (λ ne. ap (stored_header w) (get_or-set_other hs i t (m ∷ h) [] ne))
header_now-set k t hs i h (header.Stored n) at own = let m : HeaderStep = header.Stored n in
    ap (stored_header (get_or k.headers t 0)) (subst (λ (z : ℕ). get_or (set hs i (m ∷ h)) z [] ≡ m ∷ h) own (whose_here hs i h (m ∷ h) at))

-- a look finds this header
abbrev Finds : HeaderStep → ℕ → Type 0
Finds (header.Looked n) w = n ≡ w
Finds (header.Stored n) w = Unit {0}

module _ {S : Type 0} (past : StepHistory) (k : Layout) (s : State S View) (id : ℕ) (v : View) (t : ℕ) (m : HeaderStep) (at : get_elem? s.views id ≡ some v) where
  abbrev w : View
  w = with_step past (on_header t m) v

  map_header : map (steps_on_header t) (set s.views id w) ≡ set (map (steps_on_header t) s.views) id (m ∷ steps_on_header t v)
  map_header = map-set (steps_on_header t) s.views id w ∙ ap (set (map (steps_on_header t) s.views) id) (header_here past t m v)

  map_header_else : (u : ℕ) → t ≢ u → map (steps_on_header u) (set s.views id w) ≡ map (steps_on_header u) s.views
  map_header_else u n = map-set (steps_on_header u) s.views id w ∙ (ap (set (map (steps_on_header u) s.views) id) (header_else past t m v u n) ∙ set_again (map (steps_on_header u) s.views) id (steps_on_header u v) (at_map (steps_on_header u) s.views id v at))

  map_entry : (u r : ℕ) → map (steps_on u r) (set s.views id w) ≡ map (steps_on u r) s.views
  map_entry u r = map-set (steps_on u r) s.views id w ∙ set_again (map (steps_on u r) s.views) id (steps_on u r v) (at_map (steps_on u r) s.views id v at)

  module _ (shown : Shows k s) (led : shown.history ≡ past) where
    shows_header : (y : ℕ) → t < k.domains → v.position ≡ id → HeaderByOwner id t m → Finds m (header_now k t (map (steps_on_header t) s.views)) → y ≡ header_after m (header_now k t (map (steps_on_header t) s.views)) → IsHeader y → Shows k (stepped s (header_place t) y id [] w keeps)
    shows_header y tn seat own finds is ok = record {
      history = (id, on_header t m) ∷ past;
      stood = ((s, now), subst (λ (h : StepHistory). HasStood S k h) led shown.stood);
      now = record {
        wide = length-set s.words (header_place t) y ∙ shown.now.wide;
        dealt = still_dealt past k s id v (on_header t m) shown at;
        seats = still_seated past k s id v (on_header t m) shown at;
        entries = λ u r un rn. let p : (j : ℕ) → j < 3 → get_or s.words (place u r j) 0 ≡ get_or (set s.words (header_place t) y) (place u r j) 0 = λ j jn. sym (get_or-set_other s.words (header_place t) (place u r j) y 0 (λ e. omega arith)) in
            let p0 = p 0 (omega arith) in let p1 = p 1 (omega arith) in let p2 = p 2 (omega arith) in let q = sym (map_entry u r) in
            subst (λ (z : ℕ × ℕ × ℕ × List (List EntryStep)). ShowsEntry k.first u z.0 z.1 z.2 z.3) (λ i. (p0 i, p1 i, p2 i, q i)) (shown.now.entries u r un rn);
        headers = λ u un. dite (ℕ_discrete t u) (λ e. subst (λ (z : ℕ). (get_or (set s.words (header_place t) y) (header_place z) 0 ≡ header_now k z (map (steps_on_header z) (set s.views id w))) × IsHeader (get_or (set s.words (header_place t) y) (header_place z) 0)) e
            (let p : get_or (set s.words (header_place t) y) (header_place t) 0 ≡ y = get_or-set_same s.words (header_place t) y 0 (let z = shown.now.wide in omega arith) in
            let q = ap (header_now k t) map_header ∙ header_now-set k t (map (steps_on_header t) s.views) id (steps_on_header t v) m (at_map (steps_on_header t) s.views id v at) own in
            (p ∙ (is ∙ sym q), subst IsHeader (sym p) ok)))
            (λ n. let p : get_or (set s.words (header_place t) y) (header_place u) 0 ≡ get_or s.words (header_place u) 0 = get_or-set_other s.words (header_place t) (header_place u) y 0 (λ e. n (omega arith)) in
            let h = shown.now.headers u un in (p ∙ (h.0 ∙ ap (header_now k u) (sym (map_header_else u n))), subst IsHeader (sym p) h.1));
        led_here = leads_on k s id v past (on_header t m) (header_place t) y at now.led_here seat shown.now.wide (omega arith) refl (is ∙ left m (sym (shown.now.headers t tn).0)) (says m (finds_there m finds (sym (shown.now.headers t tn).0))) own tt;
      };
    }
      where
        now : Stands k past s
        now = subst (λ (h : StepHistory). Stands k h s) led shown.now

        left : (x : HeaderStep) → header_now k t (map (steps_on_header t) s.views) ≡ get_or s.words (header_place t) 0 → header_after x (header_now k t (map (steps_on_header t) s.views)) ≡ left_by (on_header t x) (get_or s.words (header_place t) 0)
        left (header.Looked n) e = e
        left (header.Stored n) e = refl

        finds_there : (x : HeaderStep) → Finds x (header_now k t (map (steps_on_header t) s.views)) → header_now k t (map (steps_on_header t) s.views) ≡ get_or s.words (header_place t) 0 → Finds x (get_or s.words (header_place t) 0)
        finds_there x f e = subst (Finds x) e f

        says : (x : HeaderStep) → Finds x (get_or s.words (header_place t) 0) → RecordsWord (on_header t x) (get_or s.words (header_place t) 0)
        says (header.Looked n) f = f
        says (header.Stored n) f = tt

module _ {S : Type 0} (k : Layout) (slots id : ℕ) (me : Me S View) (t : ℕ) (tn : t < k.domains) where
  -- the step m is taken, where it leaves the header that its event gives
  header_owes : (m : ℕ → HeaderStep) (f : ℕ → ℕ) (a : ℕ) → ((s : State S View) → Shows k s → get_elem? s.views id ≡ some me.0 → HeaderByOwner id t (m (get_or s.words (header_place t) 0)))
      → ((n : ℕ) → Finds (m n) n) → ((n : ℕ) → f n ≡ header_after (m n) n) → ((n : ℕ) → IsHeader n → IsHeader (f n))
      → Allows (Shows k) slots id me (header_place t) f (promises_step (record { layout = k; step = λ n. on_header t (m n); leaves = f }) (step slots (header_place t) a 0 none) me)
  header_owes m f a own finds leaves ok = kind_owes (record { layout = k; step = λ n. on_header t (m n); leaves = f }) slots id me (header_place t) f (step slots (header_place t) a 0 none) refl (λ n. refl) (omega arith) (λ n. refl)
      (λ s shown at fits. let n : ℕ = get_or s.words (header_place t) 0 in let v : View = me.0 in let h = shown.now.headers t tn in let by = own s shown at in
      let z = shows_header shown.history k s id v t (m n) at shown refl (f n) tn (shown.now.seats id v at).0 by (subst (Finds (m n)) h.0 (finds n)) (leaves n ∙ ap (header_after (m n)) h.0) (ok n h.1) in
      ((shown.now.seats id v at).0, z))

  pub look_header_owes : Allows (Shows k) slots id me (header_place t) (λ n. n) (promises_step (looking_at_header k t) (step slots (header_place t) 0 0 none) me)
  look_header_owes = header_owes (λ n. header.Looked n) (λ n. n) 0 (λ s shown at. tt) (λ n. refl) (λ n. refl) (λ n h. h)

  pub store_header_owes : (y : ℕ) → me.0.position ≡ t → IsHeader y → Allows (Shows k) slots id me (header_place t) (λ _. y) (promises_step (storing_header k t y) (step slots (header_place t) y 0 none) me)
  store_header_owes y own ok = header_owes (λ n. header.Stored y) (λ n. y) y (λ s shown at. sym (shown.now.seats id me.0 at).0 ∙ own) (λ n. tt) (λ n. refl) (λ n h. ok)

-- one more step on a header
pub adds_to_header : (past : StepHistory) (t : ℕ) (m : HeaderStep) (v w : View) → w ≡ with_step past (on_header t m) v → AddsToHeader past t m v w
adds_to_header past t m v w e = record {
  view = e;
  here = ap (steps_on_header t) e ∙ header_here past t m v;
  others = λ u n. ap (steps_on_header u) e ∙ header_else past t m v u n;
  entries = λ u r. ap (steps_on u r) e;
}

-- a version has room in its two bits
pub small_version : (n : ℕ) → (n ≡ 1) ⊎ (n ≡ 2) → n < 4
small_version n (inl e) = omega arith
small_version n (inr e) = omega arith

-- a header within the limits is read from its word
pub kept_read : (h : Header) → IsKeptHeader h → header_of (header_word h) ≡ h
kept_read h k = let few = k.few in header-round h (small_version h.version k.version) (omega arith)

-- its table has no more entries than there is room for
table_fits : (h : Header) → IsKeptHeader h → size_of h ≤ TABLE_ENTRIES
table_fits h k = by (h.version == 2)
  where
    by : (b : Bool) → h.frames * (if b then ENTRIES_V2 else ENTRIES_V1) ≤ TABLE_ENTRIES
    by true = let few = k.few in omega arith
    by false = let few = k.few in omega arith

-- a look at a header
pub looks_at_header : (k : Layout) (t n : ℕ) (v w : View) → t < k.domains → (past : StepHistory) → w ≡ with_step past (on_header t (header.Looked n)) v → TakesStep (Unit {0}) k v past (on_header t (header.Looked n)) (header_place t) n n → LooksAtHeader k t n v w
looks_at_header k t n v w tn past view step = let a = adds_to_header past t (header.Looked n) v w view in
    let is : IsHeader n = subst IsHeader (step.stood.1.led_here.words (header_place t) (omega arith) ∙ step.found_is) (step.stood.1.headers t tn).1 in
    let read : header_of n ≡ is.0 = ap header_of is.2 ∙ kept_read is.0 is.1 in record {
      steps = record { past = past; adds = a; step = step };
      word = is.2 ∙ ap header_word (sym read);
      header = subst IsKeptHeader (sym read) is.1;
      size = subst (λ (h : Header). size_of h ≤ TABLE_ENTRIES) (sym read) (table_fits is.0 is.1);
      keeps = header_keeps t n v w a;
    }

-- the owner stored its header
pub stores_header : (k : Layout) (at value : ℕ) (h : Header) (found : ℕ) (v w : View) → v.position ≡ at → value ≡ header_word h → StepsOnHeader k at (header.Stored value) found value v w → StoresHeader k h v w
stores_header k at value h found v w own is z = record {
  found = found;
  steps = subst (λ (u : ℕ × ℕ). StepsOnHeader k u.0 (header.Stored u.1) found u.1 v w) (λ i. (sym own i, is i)) z;
  header = ap own_header z.adds.view ∙ (ap (stored_header (get_or v.headers v.position 0)) (subst (λ (u : ℕ). steps_on_header v.position (with_step z.past (on_header u (header.Stored value)) v) ≡ header.Stored value ∷ steps_on_header v.position v) own (header_here z.past v.position (header.Stored value) v)) ∙ is);
  rows = header_keeps_rows at (header.Stored value) v w z.adds;
  pins = header_keeps_pins at (header.Stored value) v w z.adds;
  seen = header_sees at (header.Stored value) v w z.adds;
}
