-- What a step leaves of what its seat knew.
use Rattle.std.proofs.Common.{◌≡◌, ◌≢◌, inl, inr, ℕ, ◌+◌, ◌<◌, ◌≤◌, Bool, true, false, cond, ◌==◌, ◌&&◌, List, []}
use Rattle.std.proofs.Common.{◌∷◌, get_or, sym, refl, ap, ◌∙◌, subst, arith, Option, Some, None, eq-eqb, ne_eqb}
use Rattle.std.proofs.lemmas.Bool.{and_parts, eqb-true}
use Rattle.std.proofs.lemmas.List.Sums.{sum_by-cons}
use mathlib.Core.Logic.{dite}
use native.Mathlib.Decide.{ℕ_discrete}
use Rattle.gt_model.specs.declared.change.BodyWord.{BodyWord}
use Rattle.gt_model.specs.declared.change.BodyWord.TheVariants.{First, Second}
use Rattle.gt_types.specs.declared.Dir.{Dir}
use Rattle.gt_types.specs.declared.Dir.TheVariants.{Read, Write}
use Rattle.gt_words.proofs.Records.{IsIn-without_pin}
use Rattle.gt_words.specs.Answers.{AddsToEntry, AddsToHeader}
use Rattle.gt_word_history.specs.History.{StepHistory}
use Rattle.gt_words.specs.Keeping.{Holds, HoldsOneMore, Keeps, KeepsOtherRows, KeepsPins, KeepsRecords, KeepsRows}
use Rattle.gt_words.specs.Keeping.{SeesNoEarlier, generation_in, held, is_pin_of}
use Rattle.gt_word_history.specs.Views.{IsAmong, LivePin, Seen, is_pin, is_same_dir, last_record, own, own_header}
use Rattle.gt_word_history.specs.Views.{live_pins, pins_like, seen, steps_on, steps_on_header, stored_body}
use Rattle.gt_word_history.specs.Views.{stored_header, with_body, without_pin}
use Rattle.gt_word_history.specs.declared.view.EntryRecord.{EntryRecord}
use Rattle.gt_word_history.specs.declared.view.EntryStep.{EntryStep}
use Rattle.gt_word_history.specs.declared.view.EntryStep.TheVariants.{Pinned, Unpinned}
use Rattle.gt_word_history.specs.declared.view.HeaderStep.{HeaderStep}
use Rattle.gt_word_history.specs.declared.view.View.{View}
use Rattle.gt_word_history.specs.declared.view.HeaderStep.TheVariants as header

-- a step that is no change and stores no body word
pub record IsQuiet (m : EntryStep) : Type 0 where
  pub lists : (g : ℕ) (ms : List EntryStep) → own g (m ∷ ms) ≡ own g ms
  pub last : (g : ℕ) (ms : List EntryStep) → last_record g (m ∷ ms) ≡ last_record g ms
  pub bodies : (h : BodyWord) (ms : List EntryStep) → stored_body h (m ∷ ms) ≡ stored_body h ms

module _ {past : StepHistory} (t r : ℕ) (m : EntryStep) (v w : View) (z : AddsToEntry past t r m v w) where
  -- what holds of the steps on each entry before and after a step on one
  pub at_each : (P : List EntryStep → List EntryStep → Type 0) → ((ms : List EntryStep) → P ms ms) → P (steps_on t r v) (m ∷ steps_on t r v) → (t' r' : ℕ) → P (steps_on t' r' v) (steps_on t' r' w)
  at_each P same here t' r' = dite (ℕ_discrete t t')
      (λ e. dite (ℕ_discrete r r') (λ f. subst (λ (u : ℕ × ℕ). P (steps_on u.0 u.1 v) (steps_on u.0 u.1 w)) (λ i. (e i, f i)) (subst (P (steps_on t r v)) (sym z.here) here)) (λ n. else (λ _ f. n f)))
      (λ n. else (λ e _. n e))
    where
      else : (t ≡ t' → r ≡ r' → ⊥) → P (steps_on t' r' v) (steps_on t' r' w)
      else n = subst (P (steps_on t' r' v)) (sym (z.others t' r' n)) (same (steps_on t' r' v))

  row_kept : {A : Type 0} (f : ℕ → List EntryStep → A) → ((ms : List EntryStep) → f v.first (m ∷ ms) ≡ f v.first ms) → (q : ℕ) → f w.first (steps_on w.position q w) ≡ f v.first (steps_on v.position q v)
  row_kept f quiet q = ap (λ (u : View). f u.first (steps_on u.position q w)) z.view ∙ at_each (λ a b. f v.first b ≡ f v.first a) (λ ms. refl) (quiet (steps_on t r v)) v.position q

  pub keeps_rows : IsQuiet m → KeepsRows v w
  keeps_rows quiet = record { lists = row_kept own (quiet.lists v.first); last = row_kept last_record (quiet.last v.first); bodies = λ q h. row_kept (λ g. stored_body h) (quiet.bodies h) q }

  -- a step that takes no pin and gives none back
  pub keeps_pins : live_pins (m ∷ steps_on t r v) ≡ live_pins (steps_on t r v) → KeepsPins v w
  keeps_pins same = at_each (λ a b. live_pins b ≡ live_pins a) (λ ms. refl) same

  pub keeps_header : own_header w ≡ own_header v
  keeps_header = ap own_header z.view

  pub sees_no_earlier : generation_in (seen (steps_on t r v)) ≤ generation_in (seen (m ∷ steps_on t r v)) → SeesNoEarlier v w
  sees_no_earlier later = at_each (λ a b. generation_in (seen a) ≤ generation_in (seen b)) (λ ms. omega arith) later

  pub keeps : IsQuiet m → live_pins (m ∷ steps_on t r v) ≡ live_pins (steps_on t r v) → generation_in (seen (steps_on t r v)) ≤ generation_in (seen (m ∷ steps_on t r v)) → Keeps v w
  keeps quiet same later = record { rows = keeps_rows quiet; header = keeps_header; pins = keeps_pins same; seen = sees_no_earlier later }

-- a step of the owner on its entry r leaves its other entries
pub keeps_others : {past : StepHistory} (r : ℕ) (m : EntryStep) (v w : View) → AddsToEntry past v.position r m v w → KeepsOtherRows r v w
keeps_others r m v w z = record { lists = other own; last = other last_record; bodies = λ q h n. other (λ g. stored_body h) q n }
  where
    other : {A : Type 0} (f : ℕ → List EntryStep → A) (q : ℕ) → r ≢ q → f w.first (steps_on w.position q w) ≡ f v.first (steps_on v.position q v)
    other f q n = ap (λ (u : View). f u.first (steps_on u.position q w)) z.view ∙ ap (f v.first) (z.others v.position q (λ _ e. n e))

pub body_generation : (h : BodyWord) (n : ℕ) (s : Option Seen) → generation_in (with_body h n s) ≡ generation_in s
body_generation h n None = refl
body_generation First n (Some s) = refl
body_generation Second n (Some s) = refl

-- pins, counted

count_cons : (d : Dir) (g : ℕ) (p : LivePin) (ps : List LivePin) → pins_like d g (p ∷ ps) ≡ cond (is_pin d g p) 1 0 + pins_like d g ps
count_cons d g p ps = sum_by-cons (λ (y : LivePin). cond (is_pin d g y) 1 0) p ps

same_dir : (a b : Dir) → is_same_dir a b ≡ true → a ≡ b
same_dir Read Read e = refl
same_dir Write Write e = refl
same_dir Read Write e = cc
same_dir Write Read e = cc

-- where pins of a kind and generation are counted, there is one
pub there_is : (d : Dir) (g : ℕ) (ps : List LivePin) → 0 < pins_like d g ps → (p : LivePin) × IsAmong p ps × (p.0 ≡ d) × (p.1.generation ≡ g)
there_is d g [] lt = absurd (omega arith)
there_is d g (p ∷ ps) lt = by (λ (h : 0 < pins_like d g ps). there_is d g ps h) (is_pin d g p) refl (subst (λ (n : ℕ). 0 < n) (count_cons d g p ps) lt)
  where
    by : (0 < pins_like d g ps → (q : LivePin) × IsAmong q ps × (q.0 ≡ d) × (q.1.generation ≡ g)) → (b : Bool) → is_pin d g p ≡ b → 0 < cond b 1 0 + pins_like d g ps → (q : LivePin) × IsAmong q (p ∷ ps) × (q.0 ≡ d) × (q.1.generation ≡ g)
    by rest true e h = let parts = and_parts (is_same_dir d p.0) (g == p.1.generation) e in (p, inl refl, sym (same_dir d p.0 parts.0), sym (eqb-true g p.1.generation parts.1))
    by rest false e h = let more = rest (omega arith) in (more.0, inr more.1, more.2, more.3)

-- 1 where the pins given up are those counted, else 0
abbrev one_of : Dir → ℕ → Dir → ℕ → ℕ
one_of a h d g = cond (is_same_dir a d && (h == g)) 1 0

-- a pin given up is one less of its kind and generation, and none of another
given_up : (a : Dir) (h : ℕ) (d : Dir) (g : ℕ) (ps : List LivePin) → 0 < pins_like d g ps → pins_like a h ps ≡ pins_like a h (without_pin d g ps) + one_of a h d g
given_up a h d g [] lt = absurd (omega arith)
given_up a h d g (p ∷ ps) lt = by (λ (z : 0 < pins_like d g ps). given_up a h d g ps z) (is_pin d g p) refl (subst (λ (n : ℕ). 0 < n) (count_cons d g p ps) lt)
  where
    by : (0 < pins_like d g ps → pins_like a h ps ≡ pins_like a h (without_pin d g ps) + one_of a h d g) → (b : Bool) → is_pin d g p ≡ b → 0 < cond b 1 0 + pins_like d g ps
        → pins_like a h (p ∷ ps) ≡ pins_like a h (cond b ps (p ∷ without_pin d g ps)) + one_of a h d g
    by rest true e z = let parts = and_parts (is_same_dir d p.0) (g == p.1.generation) e in
        let e1 = same_dir d p.0 parts.0 in let e2 = eqb-true g p.1.generation parts.1 in
        let same : one_of a h d g ≡ cond (is_pin a h p) 1 0 = ap (λ (x : Dir). one_of a h x g) e1 ∙ ap (λ (x : ℕ). one_of a h p.0 x) e2 in
        let all = count_cons a h p ps in omega (arith, same, all)
    by rest false e z = let more = rest (omega arith) in let all = count_cons a h p ps in let new = count_cons a h p (without_pin d g ps) in omega (arith, more, all, new)

-- the entry itself, and another
here_is : (t r : ℕ) (b : Bool) → ((t == t) && ((r == r) && b)) ≡ b
here_is t r b = λ i. eq-eqb t t refl i && (eq-eqb r r refl i && b)

apart_is : (t r t' r' : ℕ) (b : Bool) → (t ≡ t' → r ≡ r' → ⊥) → ((t == t') && ((r == r') && b)) ≡ false
apart_is t r t' r' b n = dite (ℕ_discrete t t') (λ e. let f : r ≢ r' = n e in λ i. eq-eqb t t' e i && (ne_eqb r r' f i && b)) (λ e. λ i. ne_eqb t t' e i && ((r == r') && b))

-- one pin more on the entry r of the domain t is one pin more of all
one_more_of_all : (t r : ℕ) (d : Dir) (g : ℕ) (v w : View) → ((t' r' : ℕ) → (t ≡ t' → r ≡ r' → ⊥) → steps_on t' r' w ≡ steps_on t' r' v)
    → ((a : Dir) (h : ℕ) → held t r a h w ≡ held t r a h v + one_of a h d g) → HoldsOneMore t r d g v w
one_more_of_all t r d g v w others here t' r' a h = dite (ℕ_discrete t t')
    (λ e. dite (ℕ_discrete r r') (λ f. subst (λ (u : ℕ × ℕ). held u.0 u.1 a h w ≡ held u.0 u.1 a h v + cond (is_pin_of t r d g u.0 u.1 a h) 1 0) (λ i. (e i, f i))
    (here a h ∙ ap {B = ℕ} (λ (b : Bool). held t r a h v + cond b 1 0) (sym (here_is t r (is_same_dir a d && (h == g)))))) (λ n. else (λ _ f. n f)))
    (λ n. else (λ e _. n e))
  where
    else : (t ≡ t' → r ≡ r' → ⊥) → held t' r' a h w ≡ held t' r' a h v + cond (is_pin_of t r d g t' r' a h) 1 0
    else n = let same : held t' r' a h w ≡ held t' r' a h v = ap (λ (ms : List EntryStep). pins_like a h (live_pins ms)) (others t' r' n) in
        let none : cond (is_pin_of t r d g t' r' a h) 1 0 ≡ 0 = ap {B = ℕ} (λ (b : Bool). cond b 1 0) (apart_is t r t' r' (is_same_dir a d && (h == g)) n) in omega (arith, same, none)

-- a pin was taken
pub taken_more : {past : StepHistory} (t r : ℕ) (d : Dir) (e : ℕ) (x : EntryRecord) (v w : View) → AddsToEntry past t r (Pinned d e x) v w → HoldsOneMore t r d x.generation v w
taken_more t r d e x v w z = one_more_of_all t r d x.generation v w z.others (λ a h. let here : held t r a h w ≡ pins_like a h ((d, x) ∷ live_pins (steps_on t r v)) = ap (λ (ms : List EntryStep). pins_like a h (live_pins ms)) z.here in
    let all = count_cons a h (d, x) (live_pins (steps_on t r v)) in omega (arith, here, all))

-- a pin was given back
pub given_less : {past : StepHistory} (t r : ℕ) (d : Dir) (g : ℕ) (v w : View) → Holds t r d g v → AddsToEntry past t r (Unpinned d g) v w → HoldsOneMore t r d g w v
given_less t r d g v w holds z = one_more_of_all t r d g w v (λ t' r' n. sym (z.others t' r' n)) (λ a h. let here : held t r a h w ≡ pins_like a h (without_pin d g (live_pins (steps_on t r v))) = ap (λ (ms : List EntryStep). pins_like a h (live_pins ms)) z.here in
    let all = given_up a h d g (live_pins (steps_on t r v)) holds in omega (arith, here, all))

-- pins of one generation have one record
abbrev pub AreAlike : List LivePin → Type 0
AreAlike ps = (p q : LivePin) → IsAmong p ps → IsAmong q ps → p.1.generation ≡ q.1.generation → p.1 ≡ q.1

pub taken_records : {past : StepHistory} (t r : ℕ) (d : Dir) (e : ℕ) (x : EntryRecord) (v w : View) → AddsToEntry past t r (Pinned d e x) v w → KeepsRecords v w
taken_records t r d e x v w z t' r' p at holds = at_each t r (Pinned d e x) v w z (λ a b. IsAmong p (live_pins a) → IsAmong p (live_pins b)) (λ ms h. h) (λ h. inr h) t' r' at

pub given_records : {past : StepHistory} (t r : ℕ) (d : Dir) (g : ℕ) (v w : View) → AreAlike (live_pins (steps_on t r v)) → AddsToEntry past t r (Unpinned d g) v w → KeepsRecords v w
given_records t r d g v w alike z t' r' p at holds = at_each t r (Unpinned d g) v w z (λ a b. IsAmong p (live_pins a) → 0 < pins_like p.0 p.1.generation (live_pins b) → IsAmong p (live_pins b)) (λ ms h _. h) here t' r' at holds
  where
    here : IsAmong p (live_pins (steps_on t r v)) → 0 < pins_like p.0 p.1.generation (without_pin d g (live_pins (steps_on t r v))) → IsAmong p (without_pin d g (live_pins (steps_on t r v)))
    here h lt = let q = there_is p.0 p.1.generation (without_pin d g (live_pins (steps_on t r v))) lt in
        let one : q.0.1 ≡ p.1 = alike q.0 p (IsIn-without_pin d g q.0 (live_pins (steps_on t r v)) q.1) h q.3 in
        subst (λ (u : LivePin). IsAmong u (without_pin d g (live_pins (steps_on t r v)))) (λ i. (q.2 i, one i)) q.1

-- a step on a header keeps all entries
pub header_keeps_rows : {past : StepHistory} (t : ℕ) (m : HeaderStep) (v w : View) → AddsToHeader past t m v w → KeepsRows v w
header_keeps_rows t m v w z = record { lists = row own; last = row last_record; bodies = λ q h. row (λ g. stored_body h) q }
  where
    row : {A : Type 0} (f : ℕ → List EntryStep → A) (q : ℕ) → f w.first (steps_on w.position q w) ≡ f v.first (steps_on v.position q v)
    row f q = ap (λ (u : View). f u.first (steps_on u.position q w)) z.view ∙ ap (f v.first) (z.entries v.position q)

pub header_keeps_pins : {past : StepHistory} (t : ℕ) (m : HeaderStep) (v w : View) → AddsToHeader past t m v w → KeepsPins v w
header_keeps_pins t m v w z t' r' = ap live_pins (z.entries t' r')

pub header_sees : {past : StepHistory} (t : ℕ) (m : HeaderStep) (v w : View) → AddsToHeader past t m v w → SeesNoEarlier v w
header_sees t m v w z t' r' = let e : generation_in (seen (steps_on t' r' w)) ≡ generation_in (seen (steps_on t' r' v)) = ap (λ (ms : List EntryStep). generation_in (seen ms)) (z.entries t' r') in omega (arith, e)

look_keeps : (h n : ℕ) (ms : List HeaderStep) (b : Bool) → stored_header h (cond b (header.Looked n ∷ ms) ms) ≡ stored_header h ms
look_keeps h n ms true = refl
look_keeps h n ms false = refl

-- a look at a header keeps all
pub header_keeps : {past : StepHistory} (t n : ℕ) (v w : View) → AddsToHeader past t (header.Looked n) v w → Keeps v w
header_keeps t n v w z = record {
  rows = header_keeps_rows t (header.Looked n) v w z;
  header = ap own_header z.view ∙ look_keeps (get_or v.headers v.position 0) n (steps_on_header v.position v) (t == v.position);
  pins = header_keeps_pins t (header.Looked n) v w z;
  seen = header_sees t (header.Looked n) v w z;
}

-- with one more there is some
pub some_more : (t r : ℕ) (d : Dir) (g : ℕ) (v w : View) → HoldsOneMore t r d g v w → Holds t r d g w
some_more t r d g v w more = let e = more t r d g in let b : is_pin_of t r d g t r d g ≡ true = here_is t r (is_same_dir d d && (g == g)) ∙ (λ i. self d i && eq-eqb g g refl i) in
    let one : cond (is_pin_of t r d g t r d g) 1 0 ≡ 1 = ap {B = ℕ} (λ (z : Bool). cond z 1 0) b in omega (arith, e, one)
  where
    self : (d : Dir) → is_same_dir d d ≡ true
    self Read = refl
    self Write = refl
