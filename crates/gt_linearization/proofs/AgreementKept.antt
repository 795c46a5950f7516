-- Each step keeps items and history in agreement.
use Rattle.std.proofs.Common.{inl, inr, ◌≡◌, ℕ, ◌+◌, ◌<◌, Bool, true, false, cond, ◌==◌, ◌&&◌, List, ◌∷◌, sym, refl}
use Rattle.std.proofs.Common.{ap, ◌∙◌, subst, arith, eq-eqb, ne_eqb}
use Rattle.std.proofs.lemmas.Bool.{cases_eq}
use Rattle.gt_types.specs.Config.{IsWithinLimits}
use Rattle.gt_types.specs.declared.DomId.{DomId}
use Rattle.gt_types.specs.declared.config.Config.{Config}
use Rattle.gt_types.specs.declared.limits.TheConstants.{TABLE_ENTRIES}
use Rattle.gt_model.specs.Spelling.{control_with}
use Rattle.gt_model.specs.Words.{control_word, header_word}
use Rattle.gt_model.specs.declared.change.BodyWord.{BodyWord}
use Rattle.gt_model.specs.declared.change.BodyWord.TheVariants.{First, Second}
use Rattle.gt_word_history.specs.History.{StepHistory, Layout, body_word_index, left_by, word_after}
use Rattle.gt_word_history.specs.Rule.{header_place, layout_of, place}
use Rattle.gt_word_history.specs.declared.view.EntryStep.TheVariants.{StoredBody}
use Rattle.gt_word_history.specs.declared.view.HeaderStep.TheVariants as header
use Rattle.gt_word_history.specs.declared.view.SeatStep.{SeatStep}
use Rattle.gt_word_history.specs.declared.view.SeatStep.TheVariants.{Entry, Header}
use Rattle.gt_model.proofs.Observers.{kept-entry, kept-raises, kept-table, other-body, other-table, stepped, unstored}
use Rattle.gt_core.proofs.Words.{GrantRef, None, Option, Pin, Observation, Some, StoreBody, StoreHeader, []}
use Rattle.gt_core.proofs.Words.{append-nil, header_or, or_else, pinned_by, unpinned_by, ◌++◌}
use Rattle.gt_word_history.specs.declared.view.EntryRecord.{EntryRecord}
use Rattle.gt_model.specs.History.{History, Setting, body_at, change_at, entry_at, generation_at, header_stored, live}
use Rattle.gt_model.specs.History.{raises_at, reads_at, same_body_word, stored_at, table_at, word_at, writes_at}
use Rattle.gt_model.specs.declared.trace.Answer.{Answer}
use Rattle.gt_model.specs.declared.trace.Item.{Item}
use Rattle.gt_linearization.proofs.Places.{ChangesNothing, header-apart, headers-apart, places-apart, record-kept, test-apart}
use Rattle.gt_linearization.proofs.Places.{word-else, word-here, word-kept}
use Rattle.gt_linearization.specs.Agreeing.{Agree, dom_at, last_at}

-- the word of an entry whose parts are the same is the same
pub word-same : (s : Setting) (g new : History) (t r : ℕ) → entry_at new t r ≡ entry_at g t r → raises_at new t r ≡ raises_at g t r → live new ≡ live g → word_at s new t r ≡ word_at s g t r
word-same s g new t r e n l =
    let reads : reads_at new t r ≡ reads_at g t r = cc in let writes : writes_at new t r ≡ writes_at g t r = cc in
    let gen : generation_at s new t r ≡ generation_at s g t r = ap (λ (z : ℕ). s.first_generation + z) n in
    λ i. control_word (control_with (e i) (gen i) (reads i) (writes i))

-- the item changes no entry and no pin
pub record KeepsWords (item : Item) : Type 0 where
  pub changes : (r : ℕ) → change_at item.happened r ≡ None
  pub pins : (before : History) (ps : List Pin) → pinned_by item.actor item.happened item.answer before ps ≡ []
  pub unpins : (ps : List Pin) → unpinned_by item.actor item.happened ps ≡ ps

pub live-kept : (item : Item) (g : History) → KeepsWords item → live (item ∷ g) ≡ live g
unfolding live
live-kept item g q = ap (λ (ps : List Pin). unpinned_by item.actor item.happened (live g) ++ ps) (q.pins g (live g)) ∙ (append-nil (unpinned_by item.actor item.happened (live g)) ∙ q.unpins (live g))

pub body_word-few : (body_word : BodyWord) → body_word_index body_word < 3
body_word-few First = omega arith
body_word-few Second = omega arith

pub body_word-some : (body_word : BodyWord) → 0 ≡ body_word_index body_word → ⊥
body_word-some First e = absurd (omega arith)
body_word-some Second e = absurd (omega arith)

module _ (c : Config) (s : Setting) (k : Layout) (g : History) (h : StepHistory) (i : ℕ) (is : k ≡ layout_of c) (limits : IsWithinLimits c) (agree : Agree s k g h) (inside : i < k.domains) where
  abbrev d : DomId
  d = dom_at k i

  -- the words and records of an item that changes no entry and no pin, by a step that changes no control word and no record
  kept-word : (item : Item) (t r : ℕ) → KeepsWords item → word_at s (item ∷ g) (dom_at k t).0 r ≡ word_at s g (dom_at k t).0 r
  kept-word item t r q = word-same s g (item ∷ g) (dom_at k t).0 r (kept-entry item g (dom_at k t).0 r q.changes) (kept-raises item g (dom_at k t).0 r q.changes) (live-kept item g q)

  kept-records : (item : Item) (x : SeatStep) (t r : ℕ) → t < k.domains → r < TABLE_ENTRIES → KeepsWords item → ChangesNothing x
      → (entry_at (item ∷ g) (dom_at k t).0 r ≡ (last_at k t r ((i, x) ∷ h)).entry) × (generation_at s (item ∷ g) (dom_at k t).0 r ≡ (last_at k t r ((i, x) ∷ h)).generation)
  kept-records item x t r l m q none = let e = sym (record-kept k i x h t r none) in (
    kept-entry item g (dom_at k t).0 r q.changes ∙ (agree.entries t r l m ∙ ap (λ (z : EntryRecord). z.entry) e),
    ap (λ (n : ℕ). s.first_generation + n) (kept-raises item g (dom_at k t).0 r q.changes) ∙ (agree.generations t r l m ∙ ap (λ (z : EntryRecord). z.generation) e),
  )

  -- a step that leaves all as it is, and its item
  pub quiet : (item : Item) (x : SeatStep) → KeepsWords item → header_stored item.happened ≡ None → ((r : ℕ) (body_word : BodyWord) → stored_at item.happened r body_word ≡ None) → ((n : ℕ) → left_by x n ≡ n) → ChangesNothing x
      → Agree s k (item ∷ g) ((i, x) ∷ h)
  quiet item x keeps head stores leaves none = record {
    words = λ t r l m. kept-word item t r keeps ∙ (agree.words t r l m ∙ sym (word-kept k i x h (place t r 0) leaves));
    bodies = λ t r body_word l m. unstored item g (dom_at k t).0 r body_word (stores r body_word) ∙ (agree.bodies t r body_word l m ∙ sym (word-kept k i x h (place t r (body_word_index body_word)) leaves));
    headers = λ t l. ap header_word (kept-table s item g (dom_at k t) head) ∙ (agree.headers t l ∙ sym (word-kept k i x h (header_place t) leaves));
    entries = λ t r l m. (kept-records item x t r l m keeps none).0;
    generations = λ t r l m. (kept-records item x t r l m keeps none).1;
  }

  -- a body word is stored

  abbrev storing : GrantRef → BodyWord → ℕ → Observation → Option Answer → Item
  storing q body_word n seen answer = stepped d (StoreBody q body_word n) seen answer

  body-here : (q : GrantRef) (body_word : BodyWord) (n : ℕ) (seen : Observation) (answer : Option Answer) → body_at (storing q body_word n seen answer ∷ g) d.0 q.0 body_word ≡ n
  unfolding body_at
  body-here q body_word n seen answer =
      ap (λ (b : Bool). or_else (cond b (cond ((q.0 == q.0) && same_body_word body_word body_word) (Some n) None) None) (body_at g d.0 q.0 body_word)) (eq-eqb d.0 d.0 refl)
      ∙ (ap (λ (b : Bool). or_else (cond (b && same_body_word body_word body_word) (Some n) None) (body_at g d.0 q.0 body_word)) (eq-eqb q.0 q.0 refl) ∙ same body_word)
    where
      same : (z : BodyWord) → or_else (cond (true && same_body_word z z) (Some n) None) (body_at g d.0 q.0 z) ≡ n
      same First = refl
      same Second = refl

  body-else : (q : GrantRef) (body_word : BodyWord) (n : ℕ) (seen : Observation) (answer : Option Answer) (t r : ℕ) (which : BodyWord) → t < k.domains → (i ≡ t → q.0 ≡ r → body_word_index body_word ≡ body_word_index which → ⊥)
      → body_at (storing q body_word n seen answer ∷ g) (dom_at k t).0 r which ≡ body_at g (dom_at k t).0 r which
  unfolding body_at
  body-else q body_word n seen answer t r which l apart =
      elim (cases_eq i t) [
        | inl e ↦ elim (cases_eq q.0 r) [
          | inl f ↦ ap (λ (b : Bool). or_else (cond (d.0 == (dom_at k t).0) (cond ((q.0 == r) && b) (Some n) None) None) (body_at g (dom_at k t).0 r which)) (other body_word which (apart e f)) ∙ none (d.0 == (dom_at k t).0) (q.0 == r)
          | inr f ↦ ap (λ (b : Bool). or_else (cond (d.0 == (dom_at k t).0) (cond (b && same_body_word body_word which) (Some n) None) None) (body_at g (dom_at k t).0 r which)) (ne_eqb q.0 r f) ∙ plain (d.0 == (dom_at k t).0)
        ]
        | inr e ↦ other-body (storing q body_word n seen answer) g (dom_at k t).0 r which (test-apart c k i t is limits inside l e)
      ]
    where
      other : (a b : BodyWord) → (body_word_index a ≡ body_word_index b → ⊥) → same_body_word a b ≡ false
      other First First n = absurd (n refl)
      other First Second n = refl
      other Second First n = refl
      other Second Second n = absurd (n refl)

      none : (a b : Bool) → or_else (cond a (cond (b && false) (Some n) None) None) (body_at g (dom_at k t).0 r which) ≡ body_at g (dom_at k t).0 r which
      none true true = refl
      none true false = refl
      none false b = refl

      plain : (a : Bool) → or_else (cond a None None) (body_at g (dom_at k t).0 r which) ≡ body_at g (dom_at k t).0 r which
      plain true = refl
      plain false = refl

  same-index : (a b : BodyWord) → body_word_index a ≡ body_word_index b → a ≡ b
  same-index First First e = refl
  same-index First Second e = absurd (omega arith)
  same-index Second First e = absurd (omega arith)
  same-index Second Second e = refl

  pub stores-body : (q : GrantRef) (body_word : BodyWord) (n : ℕ) (seen : Observation) (answer : Option Answer) → q.0 < TABLE_ENTRIES → Agree s k (storing q body_word n seen answer ∷ g) ((i, Entry i q.0 (StoredBody body_word n)) ∷ h)
  stores-body q body_word n seen answer lt = record {
    words = λ t r l m. kept-word item t r keeps ∙ (agree.words t r l m ∙ sym (word-else k i x h (place t r 0)
        (λ e. let p = places-apart i q.0 (body_word_index body_word) t r 0 lt m (body_word-few body_word) (omega arith) e in body_word-some body_word (sym p.2))));
    bodies = λ t r which l m. elim (cases_eq (place i q.0 (body_word_index body_word)) (place t r (body_word_index which))) [
      | inl e ↦ let p = places-apart i q.0 (body_word_index body_word) t r (body_word_index which) lt m (body_word-few body_word) (body_word-few which) e in
          subst (λ (z : ℕ × (ℕ × BodyWord)). body_at (item ∷ g) (dom_at k z.0).0 z.1.0 z.1.1 ≡ word_after k ((i, x) ∷ h) (place z.0 z.1.0 (body_word_index z.1.1))) (λ j. (p.0 j, (p.1 j, same-index body_word which p.2 j)))
          (body-here q body_word n seen answer ∙ sym (word-here k i x h (place i q.0 (body_word_index body_word)) refl))
      | inr ne ↦ body-else q body_word n seen answer t r which l (λ e f y. ne (λ j. place (e j) (f j) (y j))) ∙ (agree.bodies t r which l m ∙ sym (word-else k i x h (place t r (body_word_index which)) ne))
    ];
    headers = λ t l. ap header_word (kept-table s item g (dom_at k t) refl) ∙ (agree.headers t l ∙ sym (word-else k i x h (header_place t) (λ e. header-apart i q.0 (body_word_index body_word) t lt (body_word-few body_word) e)));
    entries = λ t r l m. (kept-records item x t r l m keeps tt).0;
    generations = λ t r l m. (kept-records item x t r l m keeps tt).1;
  }
    where
      item : Item
      item = storing q body_word n seen answer

      x : SeatStep
      x = Entry i q.0 (StoredBody body_word n)

      keeps : KeepsWords item
      keeps = record { changes = λ r. refl; pins = λ before ps. refl; unpins = λ ps. refl }

  -- a header is stored

  table-here : (version frames : ℕ) (seen : Observation) (answer : Option Answer) → table_at s (stepped d (StoreHeader version frames) seen answer ∷ g) d ≡ record { version = version; frames = frames }
  unfolding table_at
  table-here version frames seen answer = ap (λ (b : Bool). header_or (cond b (Some (record { version = version; frames = frames })) None) (table_at s g d)) (eq-eqb d.0 d.0 refl)

  pub stores-header : (version frames : ℕ) (seen : Observation) (answer : Option Answer)
      → Agree s k (stepped d (StoreHeader version frames) seen answer ∷ g) ((i, Header i (header.Stored (header_word (record { version = version; frames = frames })))) ∷ h)
  stores-header version frames seen answer = record {
    words = λ t r l m. kept-word item t r keeps ∙ (agree.words t r l m ∙ sym (word-else k i x h (place t r 0) (λ e. header-apart t r 0 i m (omega arith) (sym e))));
    bodies = λ t r body_word l m. unstored item g (dom_at k t).0 r body_word refl ∙ (agree.bodies t r body_word l m ∙ sym (word-else k i x h (place t r (body_word_index body_word)) (λ e. header-apart t r (body_word_index body_word) i m (body_word-few body_word) (sym e))));
    headers = λ t l. elim (cases_eq i t) [
      | inl e ↦ subst (λ (z : ℕ). header_word (table_at s (item ∷ g) (dom_at k z)) ≡ word_after k ((i, x) ∷ h) (header_place z)) e (ap header_word (table-here version frames seen answer) ∙ sym (word-here k i x h (header_place i) refl))
      | inr n ↦ ap header_word (other-table s item g (dom_at k t) (test-apart c k i t is limits inside l n)) ∙ (agree.headers t l ∙ sym (word-else k i x h (header_place t) (λ e. n (headers-apart i t e))))
    ];
    entries = λ t r l m. (kept-records item x t r l m keeps tt).0;
    generations = λ t r l m. (kept-records item x t r l m keeps tt).1;
  }
    where
      item : Item
      item = stepped d (StoreHeader version frames) seen answer

      x : SeatStep
      x = Header i (header.Stored (header_word (record { version = version; frames = frames })))

      keeps : KeepsWords item
      keeps = record { changes = λ r. refl; pins = λ before ps. refl; unpins = λ ps. refl }
