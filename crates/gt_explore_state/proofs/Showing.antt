-- Tables show what happened, with one item more.
use Rattle.gt_core.proofs.Words.{◌≡◌, ◌≢◌, ◌<◌, ◌≤◌, ◌+◌, ℕ, refl, Bool, true, false, List, [], ◌∷◌, Option, Some, None}
use Rattle.gt_core.proofs.Words.{◌%◌, cond, sym, ap, ◌∙◌, arith, subst, ◌==◌, ◌&&◌, slice_get, eqb-true, eq-eqb, min}
use Rattle.gt_core.proofs.Words.{DomId, Dir, Read, Write, MAX_PINS, LAST_GENERATION, BodyWord, HeldPin, PinHolder}
use Rattle.gt_core.proofs.Words.{Header, GrantRef, Observation, Taken, Step, Unpin, StoreBody, StoreHeader, Exchange}
use Rattle.gt_core.proofs.Words.{EntryChange, History, Setting, live, entry_at, raises_at, generation_at, body_at}
use Rattle.gt_core.proofs.Words.{table_at, is_pin_on, same_dir, without, count_by, raise_of, raise_after}
use Rattle.gt_core.proofs.Words.{changed_entry_of, header_stored, header_or, stored_at, DomainConfig, false≢true, Pin}
use Rattle.gt_core.proofs.Words.{pinned_by, unpinned_by, append-nil, ◌++◌, Config}
use Rattle.gt_model.specs.declared.change.BodyWord.TheVariants as body_words
use Rattle.gt_model.specs.declared.action.Step.TheVariants as call_steps
use Rattle.gt_core.specs.Prelude.{Request}
use Rattle.gt_model.specs.declared.trace.Answer.{Answer}
use Rattle.gt_model.specs.declared.trace.ItemEvent.{ItemEvent}
use Rattle.gt_model.specs.declared.trace.ItemEvent.TheVariants.{Began, Stepped}
use Rattle.gt_model.specs.declared.trace.Item.{Item}
use Rattle.gt_model.proofs.Observers.{kept-entry, kept-raises, kept-table, unstored, KeepsAll, stepped, pins_at}
use Rattle.gt_model.proofs.Observers.{pinned-live, unpinned-live, new_pin, grown-count, exchanged-entry}
use Rattle.gt_model.proofs.Observers.{exchanged-raises, exchanged-live}
use Rattle.gt_model.specs.Entries.{changed_entry}
use Rattle.gt_core.specs.Effects.{slot_after}
use Rattle.gt_explore_state.specs.Rows.{counts_in, kept_entry, kept_generation}
use Rattle.gt_explore_state.specs.Shows.{CountsShow, IsItemOfStep, IsSettingOf, LosesOne, StepFits, TableShows}
use Rattle.gt_explore_state.specs.Shows.{TablesShow, unheld}
use Rattle.gt_explore_state.specs.Tables.{CountsChangeOf, HeaderStored, OneBecomes, OwnChangeOf, TablesAfter}
use Rattle.gt_explore_state.specs.Tables.{place_of_domain}
use Rattle.gt_core.specs.declared.pin_counts.PinCounts.{PinCounts}
use Rattle.gt_core.specs.declared.pin_counts.CountsChange.{CountsChange}
use Rattle.gt_core.specs.declared.pin_counts.CountsChange.TheVariants.{Pinned, Unpinned, Stored}
use Rattle.gt_explore_state.specs.declared.table.SparseTable.{SparseTable}
use Rattle.gt_explore_state.proofs.Becoming.{placed, numbered}
use Rattle.std.specs.Prelude.{AllPairs}

-- counts

-- the counts of each entry, where those of entry r of domain t change so
abbrev Moves : History → History → ℕ → ℕ → CountsChange → Type 0
Moves h new t r change = (u q : ℕ) (c : PinCounts) → CountsShow h u q c → CountsShow new u q (cond ((t == u) && (r == q)) (slot_after change c) c)

counted-up : (h new : History) (u q : ℕ) (dir : Dir) (b : Bool) (c : PinCounts) → CountsShow h u q c → ((which : BodyWord) → body_at new u q which ≡ body_at h u q which)
    → ((k : Dir) → pins_at new u q k ≡ pins_at h u q k + cond (b && same_dir dir k) 1 0) → ((k : Dir) → (b && same_dir dir k) ≡ true → pins_at h u q k < MAX_PINS)
    → CountsShow new u q (cond b (slot_after (Pinned dir) c) c)
counted-up h new u q dir b c a body now few = grind (arith, now Read, now Write, few Read, few Write, body body_words.First, body body_words.Second)

counted-down : (h new : History) (u q : ℕ) (dir : Dir) (b : Bool) (c : PinCounts) → CountsShow h u q c → ((which : BodyWord) → body_at new u q which ≡ body_at h u q which)
    → ((k : Dir) → pins_at h u q k ≡ cond (b && same_dir dir k) 1 0 + pins_at new u q k) → CountsShow new u q (cond b (slot_after (Unpinned dir) c) c)
counted-down h new u q dir b c a body now = grind (arith, now Read, now Write, body body_words.First, body body_words.Second)

counts-kept : (h new : History) (u q : ℕ) (c : PinCounts) → ((which : BodyWord) → body_at new u q which ≡ body_at h u q which) → live new ≡ live h → CountsShow h u q c → CountsShow new u q c
counts-kept h new u q c body same a = record {
  reads = a.reads ∙ ap (λ ps. count_by (is_pin_on u q Read) ps) (sym same);
  writes = a.writes ∙ ap (λ ps. count_by (is_pin_on u q Write) ps) (sym same);
  first = a.first ∙ sym (body body_words.First);
  second = a.second ∙ sym (body body_words.Second);
}

-- where the pin that is taken is of the kind that is full
full : (h : History) (t r u q : ℕ) (dir k : Dir) → pins_at h t r dir < MAX_PINS → (((t == u) && (r == q)) && same_dir dir k) ≡ true → pins_at h u q k < MAX_PINS
full h t r u q Read Read few e = grind (arith, eqb-true)
full h t r u q Write Write few e = grind (arith, eqb-true)
full h t r u q Read Write few e = grind arith
full h t r u q Write Read few e = grind arith

moves-up : (s : Setting) (h : History) (d : DomId) (p : HeldPin) (answer : Option Answer) → pins_at h p.dom.0 p.gref.0 p.dir < MAX_PINS → Moves h (stepped d (call_steps.Pin p) Taken answer ∷ h) p.dom.0 p.gref.0 (Pinned p.dir)
moves-up s h d p answer few = λ u q c a. let i = stepped d (call_steps.Pin p) Taken answer in
    counted-up h (i ∷ h) u q p.dir ((p.dom.0 == u) && (p.gref.0 == q)) c a (λ which. unstored i h u q which refl)
    (λ k. grown-count h i (new_pin h d p answer) u q k (pinned-live h d p answer)) (λ k e. full h p.dom.0 p.gref.0 u q p.dir k few e)

moves-down : (s : Setting) (h : History) (d : DomId) (p : HeldPin) (holder : PinHolder) (seen : Observation) (answer : Option Answer) → LosesOne p (live h) (without d.0 holder (live h))
    → Moves h (stepped d (Unpin p holder) seen answer ∷ h) p.dom.0 p.gref.0 (Unpinned p.dir)
moves-down s h d p holder seen answer loses = λ u q c a. let i = stepped d (Unpin p holder) seen answer in
    counted-down h (i ∷ h) u q p.dir ((p.dom.0 == u) && (p.gref.0 == q)) c a (λ which. unstored i h u q which refl)
    (λ k. loses u q k ∙ ap (λ ps. cond (((p.dom.0 == u) && (p.gref.0 == q)) && same_dir p.dir k) 1 0 + count_by (is_pin_on u q k) ps) (sym (unpinned-live h d p holder seen answer)))

stores-known : (d : DomId) (gref : GrantRef) (body_word : BodyWord) (word : ℕ) (seen : Observation) (answer : Option Answer) (h : History) → live (stepped d (StoreBody gref body_word word) seen answer ∷ h) ≡ live h
unfolding live
stores-known d gref body_word word seen answer h = append-nil (live h)

moves-stored : (d : DomId) (gref : GrantRef) (body_word : BodyWord) (word : ℕ) (seen : Observation) (answer : Option Answer) (h : History) → Moves h (stepped d (StoreBody gref body_word word) seen answer ∷ h) d.0 gref.0 (Stored body_word word)
unfolding body_at
moves-stored d gref body_word word seen answer h = λ u q c a. grind (arith, stores-known d gref body_word word seen answer h)

-- tables

-- an item that changes no owner's entry and no header
record KeepsTables (i : Item) : Type 0 where
  pub changes : KeepsAll i
  pub header : header_stored i.happened ≡ None

module _ (s : Setting) (c-apart : AllPairs (λ d e. d.id.0 ≢ e.id.0) s.domains) (h : History) (old new : List SparseTable) (shows : TablesShow s h old) where
  -- the counts of one entry change
  counts-shown : (i : Item) (place : Option ℕ) (t r : ℕ) (change : CountsChange) → place ≡ place_of_domain s.domains t → KeepsTables i → Moves h (i ∷ h) t r change → OneBecomes place (CountsChangeOf r change) old new → TablesShow s (i ∷ h) new
  counts-shown i place t r change is keeps moves becomes = record { many = becomes.many ∙ shows.many; each = λ k d x at here. by k d x at (becomes.each k x here) } where
    shown : (d : DomainConfig) (y x : SparseTable) → TableShows s h d.id y → x.header ≡ y.header → x.own.items ≡ y.own.items
        → ((q : ℕ) → counts_in x.counts.items q ≡ cond ((t == d.id.0) && (r == q)) (slot_after change (counts_in y.counts.items q)) (counts_in y.counts.items q)) → TableShows s (i ∷ h) d.id x
    shown d y x a header own counts = record {
      header = header ∙ a.header ∙ sym (kept-table s i h d.id keeps.header);
      entries = λ q. ap (λ l. kept_entry l q) own ∙ a.entries q ∙ sym (kept-entry i h d.id.0 q keeps.changes);
      generations = λ q. ap (λ l. kept_generation s.first_generation l q) own ∙ a.generations q ∙ ap (λ (n : ℕ). s.first_generation + n) (sym (kept-raises i h d.id.0 q keeps.changes));
      counts = λ q. subst (CountsShow (i ∷ h) d.id.0 q) (sym (counts q)) (moves d.id.0 q (counts_in y.counts.items q) (a.counts q));
    }

    by : (k : ℕ) (d : DomainConfig) (x : SparseTable) → slice_get s.domains k ≡ Some d → (y : SparseTable) × (slice_get old k ≡ Some y) × (place ≡ Some k → CountsChangeOf r change y x) × (place ≢ Some k → x ≡ y) → TableShows s (i ∷ h) d.id x
    by k d x at (y, was, here, there) = cases (t == d.id.0) refl where
      counts : (b : Bool) → (q : ℕ) → CountsChangeOf r change y x → (r == q) ≡ b
          → cond b (slot_after change (counts_in y.counts.items r)) (counts_in y.counts.items q) ≡ cond b (slot_after change (counts_in y.counts.items q)) (counts_in y.counts.items q)
      counts true q z e = ap (λ (n : ℕ). slot_after change (counts_in y.counts.items n)) (eqb-true r q e)
      counts false q z e = refl

      cases : (b : Bool) → (t == d.id.0) ≡ b → TableShows s (i ∷ h) d.id x
      cases true e = let z = here (is ∙ ap (place_of_domain s.domains) (eqb-true t d.id.0 e) ∙ placed s.domains c-apart k d at) in
          shown d y x (shows.each k d y at was) z.header z.own
          (λ q. z.counts q ∙ counts (r == q) q z refl ∙ ap (λ (b : Bool). cond (b && (r == q)) (slot_after change (counts_in y.counts.items q)) (counts_in y.counts.items q)) (sym e))
      cases false e = let same = there (λ f. false≢true (sym e ∙ eq-eqb t d.id.0 (sym (numbered s.domains t k d (sym is ∙ f) at)))) in
          shown d y x (shows.each k d y at was) (ap (λ (z : SparseTable). z.header) same) (ap (λ (z : SparseTable). z.own.items) same)
          (λ q. ap (λ (z : SparseTable). counts_in z.counts.items q) same ∙ ap (λ (b : Bool). cond (b && (r == q)) (slot_after change (counts_in y.counts.items q)) (counts_in y.counts.items q)) (sym e))

  -- nothing of the tables changes
  kept-shown : (i : Item) → KeepsTables i → live (i ∷ h) ≡ live h → ((u q : ℕ) (which : BodyWord) → body_at (i ∷ h) u q which ≡ body_at h u q which) → new ≡ old → TablesShow s (i ∷ h) new
  kept-shown i keeps same body is = subst (TablesShow s (i ∷ h)) (sym is) (record { many = shows.many; each = λ k d x at here. by d x (shows.each k d x at here) }) where
    by : (d : DomainConfig) (x : SparseTable) → TableShows s h d.id x → TableShows s (i ∷ h) d.id x
    by d x a = record {
      header = a.header ∙ sym (kept-table s i h d.id keeps.header);
      entries = λ q. a.entries q ∙ sym (kept-entry i h d.id.0 q keeps.changes);
      generations = λ q. a.generations q ∙ ap (λ (n : ℕ). s.first_generation + n) (sym (kept-raises i h d.id.0 q keeps.changes));
      counts = λ q. counts-kept h (i ∷ h) d.id.0 q (counts_in x.counts.items q) (λ which. body d.id.0 q which) same (a.counts q);
    }

  -- what the table of the actor becomes, and that of each other domain
  one-shown : (i : Item) (at : ℕ) (actor : DomainConfig) (P : SparseTable → SparseTable → Type 0) → slice_get s.domains at ≡ Some actor → OneBecomes (Some at) P old new
      → ((d : DomainConfig) (y x : SparseTable) → (actor.id.0 == d.id.0) ≡ true → P y x → TableShows s h d.id y → TableShows s (i ∷ h) d.id x)
      → ((d : DomainConfig) (x : SparseTable) → (actor.id.0 == d.id.0) ≡ false → TableShows s h d.id x → TableShows s (i ∷ h) d.id x) → TablesShow s (i ∷ h) new
  one-shown i at actor P is becomes own other = record { many = becomes.many ∙ shows.many; each = λ k d x there here. by k d x there (becomes.each k x here) } where
    by : (k : ℕ) (d : DomainConfig) (x : SparseTable) → slice_get s.domains k ≡ Some d → (y : SparseTable) × (slice_get old k ≡ Some y) × (Some at ≡ Some k → P y x) × (Some at ≢ Some k → x ≡ y) → TableShows s (i ∷ h) d.id x
    by k d x there (y, was, mine, others) = cases (actor.id.0 == d.id.0) refl where
      place : place_of_domain s.domains actor.id.0 ≡ Some at
      place = placed s.domains c-apart at actor is

      cases : (b : Bool) → (actor.id.0 == d.id.0) ≡ b → TableShows s (i ∷ h) d.id x
      cases true e = own d y x e (mine (sym place ∙ ap (place_of_domain s.domains) (eqb-true actor.id.0 d.id.0 e) ∙ placed s.domains c-apart k d there)) (shows.each k d y there was)
      cases false e = other d x e (subst (TableShows s h d.id) (sym (others (λ f. false≢true (sym e ∙ eq-eqb actor.id.0 d.id.0 (sym (numbered s.domains actor.id.0 k d (place ∙ f) there)))))) (shows.each k d y there was))

-- a header that is stored

header-now : (s : Setting) (h : History) (d : DomId) (version frames : ℕ) (seen : Observation) (answer : Option Answer) (t : DomId) (b : Bool) → (d.0 == t.0) ≡ b
    → table_at s (stepped d (StoreHeader version frames) seen answer ∷ h) t ≡ cond b (record { version = version; frames = frames }) (table_at s h t)
unfolding table_at
header-now s h d version frames seen answer t true e = ap (λ (b : Bool). header_or (cond b (Some (record { version = version; frames = frames })) None) (table_at s h t)) e
header-now s h d version frames seen answer t false e = ap (λ (b : Bool). header_or (cond b (Some (record { version = version; frames = frames })) None) (table_at s h t)) e

header-live : (h : History) (d : DomId) (version frames : ℕ) (seen : Observation) (answer : Option Answer) → live (stepped d (StoreHeader version frames) seen answer ∷ h) ≡ live h
unfolding live
header-live h d version frames seen answer = append-nil (live h)

fits-header : (version frames : ℕ) → version < 4 → frames < 256 → ◌≡◌ {A = Header} (record { version = version % 4; frames = frames % 256 }) (record { version = version; frames = frames })
fits-header version frames v f = let a : version % 4 ≡ version = omega arith in let b : frames % 256 ≡ frames = omega arith in cc

header-shows : (s : Setting) (h : History) (d : DomId) (version frames : ℕ) (seen : Observation) (answer : Option Answer) (t : DomId) (y x : SparseTable) → TableShows s h t y → x.header ≡ table_at s (stepped d (StoreHeader version frames) seen answer ∷ h) t
    → x.own.items ≡ y.own.items → x.counts.items ≡ y.counts.items → TableShows s (stepped d (StoreHeader version frames) seen answer ∷ h) t x
header-shows s h d version frames seen answer t y x a header own counts = let i = stepped d (StoreHeader version frames) seen answer in record {
  header = header;
  entries = λ q. ap (λ l. kept_entry l q) own ∙ a.entries q ∙ sym (kept-entry i h t.0 q (λ r. refl));
  generations = λ q. ap (λ l. kept_generation s.first_generation l q) own ∙ a.generations q ∙ ap (λ (n : ℕ). s.first_generation + n) (sym (kept-raises i h t.0 q (λ r. refl)));
  counts = λ q. subst (CountsShow (i ∷ h) t.0 q) (ap (λ l. counts_in l q) (sym counts)) (counts-kept h (i ∷ h) t.0 q (counts_in y.counts.items q) (λ which. unstored i h t.0 q which refl) (header-live h d version frames seen answer) (a.counts q));
}

-- an entry that its owner changes

change-shows : (s : Setting) (h : History) (d : DomId) (gref : GrantRef) (looked : ℕ) (change : EntryChange) (answer : Option Answer) (t : DomId) (y x : SparseTable) (b : Bool) → (d.0 == t.0) ≡ b → TableShows s h t y → x.header ≡ y.header
    → ((q : ℕ) → kept_entry x.own.items q ≡ changed_entry_of (cond b (cond (gref.0 == q) (Some change) None) None) (kept_entry y.own.items q))
    → ((q : ℕ) → kept_generation s.first_generation x.own.items q ≡ kept_generation s.first_generation y.own.items q + raise_after (cond b (cond (gref.0 == q) (Some change) None) None))
    → x.counts.items ≡ y.counts.items → TableShows s (stepped d (Exchange gref looked change) Taken answer ∷ h) t x
change-shows s h d gref looked change answer t y x b is a header entries generations counts = let i = stepped d (Exchange gref looked change) Taken answer in record {
  header = header ∙ a.header ∙ sym (kept-table s i h t refl);
  entries = λ q. entries q ∙ ap (changed_entry_of (cond b (cond (gref.0 == q) (Some change) None) None)) (a.entries q)
      ∙ ap (λ (c : Bool). changed_entry_of (cond c (cond (gref.0 == q) (Some change) None) None) (entry_at h t.0 q)) (sym is) ∙ sym (exchanged-entry h i t.0 q);
  generations = λ q. generations q ∙ ap (λ (n : ℕ). n + raise_after (cond b (cond (gref.0 == q) (Some change) None) None)) (a.generations q)
      ∙ more (raises_at h t.0 q) (raise_after (cond b (cond (gref.0 == q) (Some change) None) None))
      ∙ ap (λ (c : Bool). s.first_generation + (raises_at h t.0 q + raise_after (cond c (cond (gref.0 == q) (Some change) None) None))) (sym is)
      ∙ ap (λ (n : ℕ). s.first_generation + n) (sym (exchanged-raises h i t.0 q));
  counts = λ q. subst (CountsShow (i ∷ h) t.0 q) (ap (λ l. counts_in l q) (sym counts)) (counts-kept h (i ∷ h) t.0 q (counts_in y.counts.items q) (λ which. unstored i h t.0 q which refl) (exchanged-live h d gref looked change answer) (a.counts q));
} where
  more : (n m : ℕ) → s.first_generation + n + m ≡ s.first_generation + (n + m)
  more n m = omega arith

-- the entry with room for a generation more
room-there : (b : Bool) (n m : ℕ) → (b ≡ true → n + m ≤ LAST_GENERATION) → cond b (min (n + m) LAST_GENERATION) n ≡ n + cond b m 0
room-there true n m few = let le = few refl in omega arith
room-there false n m few = omega arith

change-own-shows : (s : Setting) (h : History) (d : DomId) (gref : GrantRef) (looked : ℕ) (change : EntryChange) (answer : Option Answer) (t : DomId) (y x : SparseTable) → (d.0 == t.0) ≡ true → generation_at s h d.0 gref.0 + raise_of change ≤ LAST_GENERATION
    → OwnChangeOf s.first_generation gref.0 change y x → TableShows s h t y → TableShows s (stepped d (Exchange gref looked change) Taken answer ∷ h) t x
change-own-shows s h d gref looked change answer t y x is few c a = change-shows s h d gref looked change answer t y x true is a c.header
    (λ q. c.own.entries q ∙ entry (gref.0 == q) q) (λ q. c.own.generations q ∙ generation (gref.0 == q) q refl) c.counts
  where
    entry : (b : Bool) (q : ℕ) → cond b (changed_entry change (kept_entry y.own.items q)) (kept_entry y.own.items q) ≡ changed_entry_of (cond b (Some change) None) (kept_entry y.own.items q)
    entry true q = refl
    entry false q = refl

    raised : (b : Bool) → raise_after (cond b (Some change) None) ≡ cond b (raise_of change) 0
    raised true = refl
    raised false = refl

    generation : (b : Bool) (q : ℕ) → (gref.0 == q) ≡ b → cond b (min (kept_generation s.first_generation y.own.items q + raise_of change) LAST_GENERATION) (kept_generation s.first_generation y.own.items q)
        ≡ kept_generation s.first_generation y.own.items q + raise_after (cond b (Some change) None)
    generation b q e = room-there b (kept_generation s.first_generation y.own.items q) (raise_of change)
        (λ f. subst (λ (n : ℕ). n + raise_of change ≤ LAST_GENERATION) (ap (λ (n : ℕ). generation_at s h n gref.0) (eqb-true d.0 t.0 is) ∙ ap (generation_at s h t.0) (eqb-true gref.0 q (e ∙ f)) ∙ sym (a.generations q)) few)
        ∙ ap (λ (n : ℕ). kept_generation s.first_generation y.own.items q + n) (sym (raised b))

change-other-shows : (s : Setting) (h : History) (d : DomId) (gref : GrantRef) (looked : ℕ) (change : EntryChange) (answer : Option Answer) (t : DomId) (x : SparseTable) → (d.0 == t.0) ≡ false → TableShows s h t x
    → TableShows s (stepped d (Exchange gref looked change) Taken answer ∷ h) t x
change-other-shows s h d gref looked change answer t x apart a = change-shows s h d gref looked change answer t x x false apart a refl (λ q. refl) (λ q. zero-more (kept_generation s.first_generation x.own.items q)) refl
  where
    zero-more : (n : ℕ) → n ≡ n + 0
    zero-more n = omega arith

-- each step

-- an item that changes nothing of tables
record Quiet (i : Item) : Type 0 where
  pub changes : KeepsAll i
  pub header : header_stored i.happened ≡ None
  pub stores : (r : ℕ) (which : BodyWord) → stored_at i.happened r which ≡ None
  pub pins : (before : History) (ps : List Pin) → pinned_by i.actor i.happened i.answer before ps ≡ []
  pub unpins : (ps : List Pin) → unpinned_by i.actor i.happened ps ≡ ps

quiet-live : (i : Item) (h : History) → Quiet i → live (i ∷ h) ≡ live h
unfolding live
quiet-live i h q = ap (λ (ps : List Pin). unpinned_by i.actor i.happened (live h) ++ ps) (q.pins h (live h)) ∙ append-nil (unpinned_by i.actor i.happened (live h)) ∙ q.unpins (live h)

module _ (s : Setting) (apart : AllPairs (λ d e. d.id.0 ≢ e.id.0) s.domains) (h : History) (old new : List SparseTable) (shows : TablesShow s h old) where
  quiet-shown : (i : Item) → Quiet i → new ≡ old → TablesShow s (i ∷ h) new
  quiet-shown i q is = kept-shown s apart h old new shows i (record { changes = q.changes; header = q.header }) (quiet-live i h q) (λ u r which. unstored i h u r which (q.stores r which)) is

  step-shown : (at : ℕ) (actor : DomainConfig) (answer : Option Answer) → slice_get s.domains at ≡ Some actor → (z : Step) (seen : Observation) → StepFits s h actor.id z seen
      → TablesAfter s.domains s.first_generation at z seen old new → TablesShow s (stepped actor.id z seen answer ∷ h) new
  step-shown at actor answer is (call_steps.Pin p) Taken fits t = counts-shown s apart h old new shows (stepped actor.id (call_steps.Pin p) Taken answer) (place_of_domain s.domains p.dom.0) p.dom.0 p.gref.0 (Pinned p.dir) refl
      (record { changes = λ r. refl; header = refl }) (moves-up s h actor.id p answer fits) t
  step-shown at actor answer is (Unpin p holder) seen fits t = counts-shown s apart h old new shows (stepped actor.id (Unpin p holder) seen answer) (place_of_domain s.domains p.dom.0) p.dom.0 p.gref.0 (Unpinned p.dir) refl
      (record { changes = λ r. refl; header = refl }) (moves-down s h actor.id p holder seen answer fits) t
  step-shown at actor answer is (StoreBody gref body_word word) seen fits t = counts-shown s apart h old new shows (stepped actor.id (StoreBody gref body_word word) seen answer) (Some at) actor.id.0 gref.0 (Stored body_word word)
      (sym (placed s.domains apart at actor is)) (record { changes = λ r. refl; header = refl }) (moves-stored actor.id gref body_word word seen answer h) t
  step-shown at actor answer is (StoreHeader version frames) seen fits t = one-shown s apart h old new shows (stepped actor.id (StoreHeader version frames) seen answer) at actor (HeaderStored version frames) is t
      (λ d y x e z a. header-shows s h actor.id version frames seen answer d.id y x a (z.header ∙ fits-header version frames fits.0 fits.1 ∙ sym (header-now s h actor.id version frames seen answer d.id true e)) z.own z.counts)
      (λ d x e a. header-shows s h actor.id version frames seen answer d.id x x a (a.header ∙ sym (header-now s h actor.id version frames seen answer d.id false e)) refl refl)
  step-shown at actor answer is (Exchange gref looked change) Taken fits t = one-shown s apart h old new shows (stepped actor.id (Exchange gref looked change) Taken answer) at actor (OwnChangeOf s.first_generation gref.0 change) is t
      (λ d y x e z a. change-own-shows s h actor.id gref looked change answer d.id y x e fits z a)
      (λ d x e a. change-other-shows s h actor.id gref looked change answer d.id x e a)
  step-shown at actor answer is z seen fits t = quiet-shown (stepped actor.id z seen answer) (record { changes = λ r. refl; header = refl; stores = λ r which. refl; pins = λ before ps. refl; unpins = λ ps. refl }) t

-- what holds a pin makes no difference to tables

to-unheld : (ds : List DomainConfig) (first at : ℕ) (old new : List SparseTable) (z : Step) (seen : Observation) → TablesAfter ds first at z seen old new → TablesAfter ds first at (unheld z) seen old new
to-unheld ds first at old new (Unpin p holder) seen t = t
to-unheld ds first at old new z seen t = t

from-unheld : (ds : List DomainConfig) (first at : ℕ) (old new : List SparseTable) (z : Step) (seen : Observation) → TablesAfter ds first at (unheld z) seen old new → TablesAfter ds first at z seen old new
from-unheld ds first at old new (Unpin p holder) seen t = t
from-unheld ds first at old new z seen t = t

-- the item by its parts
pub item-is : (i : Item) (d : DomId) (z : Step) (seen : Observation) → i.actor ≡ d → i.happened ≡ Stepped z seen → i ≡ stepped d z seen i.answer
item-is i d z seen a b = ap (λ (x : DomId). record { actor = x; happened = i.happened; answer = i.answer }) a ∙ ap (λ (x : ItemEvent). record { actor = d; happened = x; answer = i.answer }) b

-- the tables after a step show what happened with its item
pub tables-shown : (c : Config) (s : Setting) (h : History) (i : Item) (at : ℕ) (step : Step) (seen : Observation) (old new : List SparseTable) → IsSettingOf c s → TablesShow s h old → IsItemOfStep s h i at step seen
    → TablesAfter c.domains.items c.first_gen at step seen old new → TablesShow s (i ∷ h) new
tables-shown c s h i at step seen old new set shows item t =
    let made = subst (λ (ds : List DomainConfig). TablesAfter ds s.first_generation at step seen old new) set.domains (subst (λ (n : ℕ). TablesAfter c.domains.items n at step seen old new) set.first t) in
    let same = from-unheld s.domains s.first_generation at old new item.made seen
    (subst (λ (z : Step). TablesAfter s.domains s.first_generation at z seen old new) (sym item.same) (to-unheld s.domains s.first_generation at old new step seen made)) in
    subst (λ (x : Item). TablesShow s (x ∷ h) new) (sym (item-is i item.domain.id item.made seen item.actor item.happened))
    (step-shown s set.apart h old new shows at item.domain i.answer item.placed item.made seen (subst (λ (d : DomId). StepFits s h d item.made seen) item.actor item.fits) same)

-- a call that begins changes no table
pub tables-begun : (s : Setting) (h : History) (d : DomId) (request : Request) (answer : Option Answer) (ts : List SparseTable) → AllPairs (λ c e. c.id.0 ≢ e.id.0) s.domains → TablesShow s h ts
    → TablesShow s (record { actor = d; happened = Began request; answer = answer } ∷ h) ts
tables-begun s h d request answer ts apart shows = quiet-shown s apart h ts ts shows (record { actor = d; happened = Began request; answer = answer })
    (record { changes = λ r. refl; header = refl; stores = λ r which. refl; pins = λ before ps. refl; unpins = λ ps. refl }) refl
