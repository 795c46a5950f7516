-- Each step of a history takes what the steps before it make to what its event gives.
use Rattle.std.proofs.Common.{◌≡◌, ℕ, zero, suc, ◌+◌, ◌<◌, ◌≤◌, Bool, true, false, cond, ◌==◌, ◌&&◌, List, [], ◌∷◌}
use Rattle.std.proofs.Common.{◌++◌, ◌*◌, length, map, get_or, get_or-set_same, set, sym, refl, ap, ◌∙◌, subst, arith}
use Rattle.std.proofs.Common.{eq-eqb, ne_eqb, lt_of_not-le}
use mathlib.Core.Option.{Option as Maybe, none, some}
use mathlib.Core.Logic.{dite}
use native.Mathlib.Decide.{ℕ_discrete}
use lib.ListN.{get_elem?}
use Rattle.atomic_table.specs.Table.{State, keeps, stepped}
use Rattle.atomic_table.proofs.Lists.{at_map, set_here}
use Rattle.gt_types.specs.declared.Dir.{Dir}
use Rattle.gt_words.proofs.StepOnEntry.{happens_here}
use Rattle.gt_word_history.proofs.Order.{apart_test}
use Rattle.gt_words.proofs.Lifts.{parts_at}
use Rattle.gt_word_history.proofs.Moments.{beyond, goes_on}
use Rattle.gt_words.proofs.OneEntry.{held_at}
use Rattle.gt_word_history.proofs.Order.{part_else, part_here, within}
use Rattle.gt_word_history.specs.Events.{Happens, entry_after, event_on_entry, event_on_header}
use Rattle.gt_word_history.specs.History.{PinsLast, entry_by, entry_made, header_made, parts_on, HasLedTo}
use Rattle.gt_word_history.specs.History.{StepHistory, IsByOwner, IsOwners, IsTrue, Layout, RecordsWord, part_of}
use Rattle.gt_word_history.specs.History.{word_place_of}
use Rattle.gt_word_history.specs.History.{word_after}
use Rattle.gt_words.specs.Laws.{EachStepHappened}
use Rattle.gt_word_history.specs.Rule.{HasStood, Shows, Stands, total_pins}
use Rattle.gt_word_history.specs.Steps.{TakesStep}
use Rattle.gt_word_history.specs.Views.{entry_steps, header_steps, pin_count, live_pins, steps_on, stored_header}
use Rattle.gt_word_history.specs.Views.{with_step}
use Rattle.gt_word_history.specs.declared.view.EntryStep.{EntryStep}
use Rattle.gt_word_history.specs.declared.view.HeaderStep.{HeaderStep}
use Rattle.gt_word_history.specs.declared.view.HeaderStep.TheVariants as header
use Rattle.gt_word_history.specs.declared.view.SeatStep.{SeatStep}
use Rattle.gt_word_history.specs.declared.view.SeatStep.TheVariants.{Entry, Flag, Frame, Header}
use Rattle.gt_word_history.specs.declared.view.View.{View}
use Rattle.gt_word_history.specs.declared.rule.TheConstants.{DOMAIN_WORDS}

true_at : (k : Layout) (later h : StepHistory) (p : ℕ × SeatStep) → IsTrue k (later ++ p ∷ h) → RecordsWord p.1 (word_after k h (word_place_of p.1)) × IsOwners p.0 p.1 × PinsLast k h p.1
true_at k [] h p is = (is.0, is.1, is.2)
true_at k (q ∷ later) h p is = true_at k later h p is.3

stood_at : (S : Type 0) (k : Layout) (later h : StepHistory) (p : ℕ × SeatStep) → HasStood S k (later ++ p ∷ h) → (z : State S View) × Stands k h z
stood_at S k [] h p is = is.0
stood_at S k (q ∷ later) h p is = stood_at S k later h p is.1

longer : (b : Bool) (x : SeatStep) (l : List SeatStep) → 0 < length l → 0 < length (cond b (x ∷ l) l)
longer true x l is = omega arith
longer false x l is = is

part_there : (later h : StepHistory) (p : ℕ × SeatStep) → 0 < length (part_of p.0 (later ++ p ∷ h))
part_there [] h p = let e : length (part_of p.0 (p ∷ h)) ≡ suc (length (part_of p.0 h)) = ap length (part_here p.0 p.1 h) in omega arith
part_there (q ∷ later) h p = longer (q.0 == p.0) q.1 (part_of p.0 (later ++ p ∷ h)) (part_there later h p)

module _ (t r i : ℕ) (x : SeatStep) (h : StepHistory) where
  -- a step that is on no such entry
  pub same_part : ((l : List SeatStep) → entry_steps t r (x ∷ l) ≡ entry_steps t r l) → (j : ℕ) → entry_steps t r (part_of j ((i, x) ∷ h)) ≡ entry_steps t r (part_of j h)
  same_part off j = by (i == j)
    where
      by : (b : Bool) → entry_steps t r (cond b (x ∷ part_of j h) (part_of j h)) ≡ entry_steps t r (part_of j h)
      by true = off (part_of j h)
      by false = refl

  same_parts : ((l : List SeatStep) → entry_steps t r (x ∷ l) ≡ entry_steps t r l) → (j n : ℕ) → parts_on t r ((i, x) ∷ h) j n ≡ parts_on t r h j n
  same_parts off j zero = refl
  same_parts off j (suc n) = λ z. same_part off j z ∷ same_parts off (suc j) n z

  past_parts : (j n : ℕ) → i < j → parts_on t r ((i, x) ∷ h) j n ≡ parts_on t r h j n
  past_parts j zero l = refl
  past_parts j (suc n) l = let rest = past_parts (suc j) n (omega arith) in let e = part_else i x h j (λ f. omega arith) in λ z. entry_steps t r (e z) ∷ rest z

  parts_set : (m : EntryStep) → ((l : List SeatStep) → entry_steps t r (x ∷ l) ≡ m ∷ entry_steps t r l) → (q n j : ℕ) → i ≡ q + j → q < n
      → parts_on t r ((i, x) ∷ h) j n ≡ set (parts_on t r h j n) q (m ∷ entry_steps t r (part_of i h))
  parts_set m adds q zero j e l = absurd (omega arith)
  parts_set m adds zero (suc n) j e l = let rest = past_parts (suc j) n (omega arith) in
      let here : entry_steps t r (part_of j ((i, x) ∷ h)) ≡ m ∷ entry_steps t r (part_of i h) = ap (λ (z : ℕ). entry_steps t r (part_of z ((i, x) ∷ h))) (let f : j ≡ i = omega arith in f) ∙ (ap (entry_steps t r) (part_here i x h) ∙ adds (part_of i h)) in
      λ z. here z ∷ rest z
  parts_set m adds (suc q) (suc n) j e l = let rest = parts_set m adds q n (suc j) (omega arith) (omega arith) in let f = part_else i x h j (λ g. omega arith) in λ z. entry_steps t r (f z) ∷ rest z

module _ (k : Layout) (i : ℕ) (h : StepHistory) (inside : i < k.domains) where
  on_entry : (d q : ℕ) (m : EntryStep) → IsByOwner i d m → (t r : ℕ) → entry_made k t r ((i, Entry d q m) ∷ h) ≡ event_on_entry i (Entry d q m) t r (entry_made k t r h)
  on_entry d q m may t r = dite (ℕ_discrete d t) (λ e. dite (ℕ_discrete q r) (λ f. same e f) (λ n. else (λ _ g. n g))) (λ n. else (λ g _. n g))
    where
      x : SeatStep
      x = Entry d q m

      adds : (l : List SeatStep) → entry_steps d q (Entry d q m ∷ l) ≡ m ∷ entry_steps d q l
      adds l = let b : ((d == d) && (q == q)) ≡ true = λ z. eq-eqb d d refl z && eq-eqb q q refl z in ap (λ (z : Bool). cond z (m ∷ entry_steps d q l) (entry_steps d q l)) b

      here : entry_made k d q ((i, Entry d q m) ∷ h) ≡ entry_after i m (entry_made k d q h)
      here = ap (entry_by k.first d) (parts_set d q i (Entry d q m) h m adds i k.domains 0 (omega arith) inside)
          ∙ happens_here k.first d (parts_on d q h 0 k.domains) i (entry_steps d q (part_of i h)) (parts_at d q h i k.domains 0 i (omega arith) inside) m may

      same : d ≡ t → q ≡ r → entry_made k t r ((i, Entry d q m) ∷ h) ≡ event_on_entry i (Entry d q m) t r (entry_made k t r h)
      same e f = subst (λ (z : ℕ × ℕ). entry_made k z.0 z.1 ((i, Entry d q m) ∷ h) ≡ entry_after i m (entry_made k z.0 z.1 h)) (λ z. (e z, f z)) here
          ∙ ap (λ (b : Bool). cond b (entry_after i m (entry_made k t r h)) (entry_made k t r h)) (sym (let b : ((d == t) && (q == r)) ≡ true = λ z. eq-eqb d t e z && eq-eqb q r f z in b))

      else : (d ≡ t → q ≡ r → ⊥) → entry_made k t r ((i, Entry d q m) ∷ h) ≡ event_on_entry i (Entry d q m) t r (entry_made k t r h)
      else n = ap (entry_by k.first t) (same_parts t r i (Entry d q m) h (λ l. ap (λ (z : Bool). cond z (m ∷ entry_steps t r l) (entry_steps t r l)) (apart_test d q t r n)) 0 k.domains)
          ∙ ap (λ (b : Bool). cond b (entry_after i m (entry_made k t r h)) (entry_made k t r h)) (sym (apart_test d q t r n))

  entries : (x : SeatStep) → IsOwners i x → (t r : ℕ) → entry_made k t r ((i, x) ∷ h) ≡ event_on_entry i x t r (entry_made k t r h)
  entries (Entry d q m) may t r = on_entry d q m may t r
  entries (Header d m) may t r = ap (entry_by k.first t) (same_parts t r i (Header d m) h (λ l. refl) 0 k.domains)
  entries (Frame d q m) may t r = ap (entry_by k.first t) (same_parts t r i (Frame d q m) h (λ l. refl) 0 k.domains)
  entries (Flag f m) may t r = ap (entry_by k.first t) (same_parts t r i (Flag f m) h (λ l. refl) 0 k.domains)

  headers : (x : SeatStep) → IsOwners i x → (t : ℕ) → header_made k t ((i, x) ∷ h) ≡ event_on_header x t (header_made k t h)
  headers (Entry d q m) may t = by (i == t)
    where
      by : (b : Bool) → stored_header (get_or k.headers t 0) (header_steps t (cond b (Entry d q m ∷ part_of t h) (part_of t h))) ≡ header_made k t h
      by true = refl
      by false = refl
  headers (Frame d q m) may t = by (i == t)
    where
      by : (b : Bool) → stored_header (get_or k.headers t 0) (header_steps t (cond b (Frame d q m ∷ part_of t h) (part_of t h))) ≡ header_made k t h
      by true = refl
      by false = refl
  headers (Flag f m) may t = by (i == t)
    where
      by : (b : Bool) → stored_header (get_or k.headers t 0) (header_steps t (cond b (Flag f m ∷ part_of t h) (part_of t h))) ≡ header_made k t h
      by true = refl
      by false = refl
  headers (Header d (header.Looked n)) may t = by (i == t) (d == t)
    where
      w : List HeaderStep
      w = header_steps t (part_of t h)

      looked : (b : Bool) → stored_header (get_or k.headers t 0) (cond b (header.Looked n ∷ header_steps t (part_of t h)) (header_steps t (part_of t h))) ≡ cond b (header_made k t h) (header_made k t h)
      looked true = refl
      looked false = refl

      plain : (b : Bool) → header_made k t h ≡ cond b (header_made k t h) (header_made k t h)
      plain true = refl
      plain false = refl

      by : (b c : Bool) → stored_header (get_or k.headers t 0) (header_steps t (cond b (Header d (header.Looked n) ∷ part_of t h) (part_of t h))) ≡ cond (d == t) (header_made k t h) (header_made k t h)
      by true c = looked (d == t)
      by false c = plain (d == t)
  headers (Header d (header.Stored n)) may t = dite (ℕ_discrete i t)
      (λ e. let f : (d == t) ≡ true = eq-eqb d t (sym may ∙ e) in
      ap (λ (l : List SeatStep). stored_header (get_or k.headers t 0) (header_steps t l)) (ap (λ (z : ℕ). part_of z ((i, Header d (header.Stored n)) ∷ h)) (sym e) ∙ (part_here i (Header d (header.Stored n)) h ∙ ap (λ (z : ℕ). Header d (header.Stored n) ∷ part_of z h) e))
      ∙ (ap (λ (b : Bool). stored_header (get_or k.headers t 0) (cond b (header.Stored n ∷ header_steps t (part_of t h)) (header_steps t (part_of t h)))) f ∙ ap (λ (b : Bool). cond b n (header_made k t h)) (sym f)))
      (λ ne. let f : (d == t) ≡ false = ne_eqb d t (λ z. ne (may ∙ z)) in
      ap (λ (l : List SeatStep). stored_header (get_or k.headers t 0) (header_steps t l)) (part_else i (Header d (header.Stored n)) h t ne) ∙ ap (λ (b : Bool). cond b n (header_made k t h)) (sym f))

-- what a seat has of an entry is its part of the history
module _ {S : Type 0} (k : Layout) (h : StepHistory) (s : State S View) (led : HasLedTo k h s) (t r i : ℕ) where
  -- its pins are among all
  pub held_there : (d : Dir) → pin_count d (live_pins (entry_steps t r (part_of i h))) ≤ total_pins d (map (steps_on t r) s.views)
  held_there d = go (get_elem? s.views i) refl
    where
      go : (o : Maybe View) → get_elem? s.views i ≡ o → pin_count d (live_pins (entry_steps t r (part_of i h))) ≤ total_pins d (map (steps_on t r) s.views)
      go none e = subst (λ (l : List SeatStep). pin_count d (live_pins (entry_steps t r l)) ≤ total_pins d (map (steps_on t r) s.views)) (sym (led.no_other i (beyond s.views i e))) (omega arith)
      go (some v) e = subst (λ (l : List EntryStep). pin_count d (live_pins l) ≤ total_pins d (map (steps_on t r) s.views)) (ap (entry_steps t r) (led.parts i v e).0) (held_at d (map (steps_on t r) s.views) i (steps_on t r v) (at_map (steps_on t r) s.views i v e))

seated : {S : Type 0} (k : Layout) (h : StepHistory) (s : State S View) (id : ℕ) (v : View) → Stands k h s → get_elem? s.views id ≡ some v → id < k.domains
seated k h s id v stands here = let l = within s.views id v here in let few = stands.dealt.1 in omega arith

-- a step from a state that is shown to another is taken then
pub takes : {S : Type 0} (k : Layout) (s : State S View) (id : ℕ) (v : View) (x : SeatStep) (at left : ℕ) (shown : Shows k s) → get_elem? s.views id ≡ some v → v.position ≡ id → at < k.domains * DOMAIN_WORDS → word_place_of x ≡ at
    → Shows k (stepped s at left id [] (with_step shown.history x v) keeps) → TakesStep S k v shown.history x at (get_or s.words at 0) left
takes {S} k s id v x at left shown here own inside there after = let h : StepHistory = shown.history in let w : View = with_step h x v in let z : State S View = stepped s at left id [] w keeps in
    let go = goes_on k s id v x h h after.history at left [] keeps shown.now.led_here after.now.led_here here in let is = subst (IsTrue k) go after.now.led_here.true_steps in
    let next : Stands k ((v.position, x) ∷ h) z = subst (λ (i : ℕ). Stands k ((i, x) ∷ h) z) (sym own) (subst (λ (g : StepHistory). Stands k g z) go after.now) in
    let lt = seated k h s id v shown.now here in let there_is = shown.now.led_here.words at inside in record {
      stood = (s, shown.now, subst (λ (i : ℕ). get_elem? s.views i ≡ some v) (sym own) here);
      stood_before = shown.stood;
      still_stands = (z, next, subst (λ (i : ℕ). get_elem? z.views i ≡ some w) (sym own) (set_here s.views id w (within s.views id v here)));
      found_is = sym there_is;
      left_is = sym (next.led_here.words at inside) ∙ get_or-set_same s.words at left 0 (let wide = shown.now.wide in omega arith);
      recorded = subst (RecordsWord x) (ap (word_after k h) there ∙ sym there_is) is.0;
      of_last = is.2;
      happens = subst (λ (i : ℕ). Happens k i x h) (sym own) (record { entries = entries k id h lt x is.1; headers = headers k id h lt x is.1 });
    }

-- each step of a history happened
pub each_happened : EachStepHappened
each_happened k s later h i x shown is = let led = shown.now.led_here in
    let there = true_at k later h (i, x) (subst (IsTrue k) is led.true_steps) in
    let some_part : 0 < length (part_of i shown.history) = subst (λ (g : StepHistory). 0 < length (part_of i g)) (sym is) (part_there later h (i, x)) in
    let seat : i < length s.views = lt_of_not-le (λ l. let e : length (part_of i shown.history) ≡ 0 = ap length (led.no_other i l) in omega arith) in
    let few = shown.now.dealt.1 in let inside : i < k.domains = omega arith in
    record { stood = stood_at (Unit {0}) k later h (i, x) (subst (HasStood (Unit {0}) k) is shown.stood); recorded = there.0; of_last = there.2; happens = record { entries = entries k i h inside x there.1; headers = headers k i h inside x there.1 } }
