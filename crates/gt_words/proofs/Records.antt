-- What each kind of step does to the words of one entry keeps the rule of that entry.
use Rattle.gt_types.specs.declared.limits.TheConstants.{MAX_PINS}
use Rattle.std.proofs.Common.{◌≡◌, ◌≢◌, ◌⊎◌, inl, inr, ⊎_elim, ℕ, zero, suc, ◌+◌, ◌-◌, ◌<◌, Bool, true, false, cond}
use Rattle.std.proofs.Common.{◌==◌, ◌&&◌, List, [], ◌∷◌, set, sym, refl, ap, ◌∙◌, subst, arith}
use Rattle.std.proofs.lemmas.Grind.{common_steps}
use mathlib.Core.Option.{some, some-injective, some-ne-none}
use lib.ListN.{get_elem?}
use Rattle.atomic_table.proofs.Lists.{at_set}
use Rattle.gt_model.specs.Entries.{IsEntry, is_read_only}
use Rattle.gt_entry.specs.Laws.{PartsOf, control-round, entry-word, parts}
use Rattle.gt_model.specs.Spelling.{IsSpelled, control_with, low_bits, named_domain, word_of}
use Rattle.gt_model.specs.Words.{IsInRange, control_of, unit_of}
use Rattle.gt_model.specs.declared.entry.Entry.{Entry}
use Rattle.gt_model.specs.declared.entry.Entry.TheVariants.{Invalid, Page, Sub, Via}
use Rattle.gt_types.specs.declared.Dir.{Dir}
use Rattle.gt_types.specs.declared.Dir.TheVariants.{Read, Write}
use Rattle.gt_words.specs.Laws.{bounded}
use Rattle.gt_word_history.specs.Rule.{IsLawful, IsNextEntry, IsRecord, IsRevocation, MayFollow, ShowsRecord}
use Rattle.gt_word_history.specs.Rule.{total_pins}
use Rattle.gt_word_history.specs.Views.{IsAmong, LivePin, is_same_dir, pin_count, live_pins, weight, without_pin}
use Rattle.gt_model.specs.declared.change.EntryChange.{EntryChange}
use Rattle.gt_word_history.specs.declared.view.EntryStep.{EntryStep}
use Rattle.gt_word_history.specs.declared.view.EntryStep.TheVariants.{Changed, Pinned, StoredBody, Unpinned}
use Rattle.gt_model.specs.declared.change.BodyWord.{BodyWord}
use Rattle.gt_word_history.specs.declared.view.EntryRecord.{EntryRecord}

pub total_pins-set : (d : Dir) (hs : List (List EntryStep)) (i : ℕ) (h h' : List EntryStep) → get_elem? hs i ≡ some h → total_pins d (set hs i h') + pin_count d (live_pins h) ≡ total_pins d hs + pin_count d (live_pins h')
total_pins-set d [] i h h' e = absurd (some-ne-none h (sym e))
total_pins-set d (x ∷ xs) zero h h' e = let p : pin_count d (live_pins x) ≡ pin_count d (live_pins h) = ap (λ (z : List EntryStep). pin_count d (live_pins z)) (some-injective x h e) in omega arith
total_pins-set d (x ∷ xs) (suc i) h h' e = let r = total_pins-set d xs i h h' e in omega arith

same_weight : (d c e : Dir) → is_same_dir c e ≡ true → weight d c ≡ weight d e
same_weight d Read Read h = refl
same_weight d Read Write h = cc
same_weight d Write Read h = cc
same_weight d Write Write h = refl

is_same : (c : Dir) → is_same_dir c c ≡ true
is_same Read = refl
is_same Write = refl

pub pin_count-without_pin : (d c : Dir) (g : ℕ) (p : LivePin) (ps : List LivePin) → IsAmong p ps → p.0 ≡ c → p.1.generation ≡ g → pin_count d (without_pin c g ps) + weight d c ≡ pin_count d ps
pin_count-without_pin d c g p [] h e f = absurd h
pin_count-without_pin d c g p (q ∷ qs) h e f = go (λ r. pin_count-without_pin d c g p qs r e f) (is_same_dir c q.0 && (g == q.1.generation)) refl
  where
    go : (IsAmong p qs → pin_count d (without_pin c g qs) + weight d c ≡ pin_count d qs) → (b : Bool) → (is_same_dir c q.0 && (g == q.1.generation)) ≡ b
        → pin_count d (cond b qs (q ∷ without_pin c g qs)) + weight d c ≡ weight d q.0 + pin_count d qs
    go more true is = let s : is_same_dir c q.0 ≡ true = grind arith in let w = same_weight d c q.0 s in omega arith
    go more false is = ⊎_elim (λ (same : p ≡ q). absurd (let k : is_same_dir c q.0 ≡ true = subst (λ (z : LivePin). is_same_dir c z.0 ≡ true) same (subst (λ (z : Dir). is_same_dir c z ≡ true) (sym e) (is_same c)) in
        let n : g ≡ q.1.generation = sym f ∙ ap (λ (z : LivePin). z.1.generation) same in grind (arith, common_steps)))
        (λ (rest : IsAmong p qs). let r = more rest in omega arith) h

pub IsIn-without_pin : (c : Dir) (g : ℕ) (p : LivePin) (ps : List LivePin) → IsAmong p (without_pin c g ps) → IsAmong p ps
IsIn-without_pin c g p [] h = h
IsIn-without_pin c g p (q ∷ qs) h = go (IsIn-without_pin c g p qs) (is_same_dir c q.0 && (g == q.1.generation)) h
  where
    go : (IsAmong p (without_pin c g qs) → IsAmong p qs) → (b : Bool) → IsAmong p (cond b qs (q ∷ without_pin c g qs)) → (p ≡ q) ⊎ IsAmong p qs
    go more true k = inr k
    go more false k = ⊎_elim (λ (e : p ≡ q). inl e) (λ (r : IsAmong p (without_pin c g qs)). inr (more r)) k

-- the list of records

-- a record that comes after a list is none of it, if it is an entry
pub fresh : (x : EntryRecord) (xs : List EntryRecord) (w y : EntryRecord) → IsLawful x xs → MayFollow w x → IsAmong y (x ∷ xs) → w ≡ y → w.entry ≡ Invalid
fresh x xs w y l f h e = let r = bounded x xs y l h in ⊎_elim (λ (t : IsRevocation w x). t.0)
    (λ (t : IsNextEntry w x). let a = t.0 in let g : w.generation ≡ y.generation = ap (λ (z : EntryRecord). z.generation) e in absurd (omega arith)) f

pub legal_record : (x : EntryRecord) (xs : List EntryRecord) → IsLawful x xs → IsRecord x
legal_record x [] l = l.0
legal_record x (z ∷ zs) l = l.0

pub listed_record : (x : EntryRecord) (xs : List EntryRecord) (y : EntryRecord) → IsLawful x xs → IsAmong y (x ∷ xs) → IsRecord y
listed_record x xs y l (inl e) = subst IsRecord (sym e) (legal_record x xs l)
listed_record x [] y l (inr h) = absurd h
listed_record x (z ∷ zs) y l (inr h) = listed_record z zs y l.2 h

-- the parts of a control word

pub low_small : (e : Entry) → low_bits e < 16
low_small Invalid = omega arith
low_small (Page d true f) = omega arith
low_small (Page d false f) = omega arith
low_small (Sub d true f a n) = omega arith
low_small (Sub d false f a n) = omega arith
low_small (Via d true t r) = omega arith
low_small (Via d false t r) = omega arith

pub domain_small : (e : Entry) → IsEntry e → named_domain e < 65536
domain_small Invalid h = omega arith
domain_small (Page d o f) h = h.0
domain_small (Sub d o f a n) h = h.0
domain_small (Via d o t r) h = h.0

pub spelled_parts : (e : Entry) (g r w : ℕ) → IsEntry e → (r < 4096) × (w < 4096) → PartsOf (word_of e g r w) (low_bits e) (named_domain e) g r w
spelled_parts e g r w ok in_range = parts (low_bits e) (named_domain e) g r w (low_small e) (domain_small e ok) in_range.0 in_range.1

-- what the word of an entry holds
pub spelled_control : (e : Entry) (g r w : ℕ) → IsEntry e → (r < 4096) × (w < 4096) → g < 1048576 → control_of (word_of e g r w) ≡ control_with e g r w
spelled_control e g r w ok in_range small = ap control_of (sym (entry-word e g r w)) ∙ control-round (control_with e g r w) (range e) (named e ok)
  where
    range : (e : Entry) → IsInRange (control_with e g r w)
    range Invalid = record { reads = in_range.0; writes = in_range.1; generation = small }
    range (Page d o f) = record { reads = in_range.0; writes = in_range.1; generation = small }
    range (Sub d o f a n) = record { reads = in_range.0; writes = in_range.1; generation = small }
    range (Via d o t q) = record { reads = in_range.0; writes = in_range.1; generation = small }

    named : (e : Entry) → IsEntry e → (control_with e g r w).dom.0 < 65536
    named Invalid ok = omega arith
    named (Page d o f) ok = ok.0
    named (Sub d o f a n) ok = ok.0
    named (Via d o t q) ok = ok.0

-- one step of the seat i, whose moves on the entry were h

module _ (x : EntryRecord) (xs : List EntryRecord) (a b : ℕ) (hs : List (List EntryStep)) (i : ℕ) (h : List EntryStep) (m : EntryStep) where
  all_pinned : ((p : LivePin) → IsAmong p (live_pins (m ∷ h)) → IsAmong p.1 (x ∷ xs) × (p.1.entry ≢ Invalid)) → ((j : ℕ) (y : List EntryStep) → get_elem? hs j ≡ some y → (p : LivePin) → IsAmong p (live_pins y) → IsAmong p.1 (x ∷ xs) × (p.1.entry ≢ Invalid))
      → (j : ℕ) (y : List EntryStep) → get_elem? (set hs i (m ∷ h)) j ≡ some y → (p : LivePin) → IsAmong p (live_pins y) → IsAmong p.1 (x ∷ xs) × (p.1.entry ≢ Invalid)
  all_pinned f pinned j y e = ⊎_elim (λ (t : (j ≡ i) × ((m ∷ h) ≡ y)). subst (λ (z : List EntryStep). (p : LivePin) → IsAmong p (live_pins z) → IsAmong p.1 (x ∷ xs) × (p.1.entry ≢ Invalid)) t.1 f)
      (λ (t : (j ≢ i) × (get_elem? hs j ≡ some y)). pinned j y t.1) (at_set hs i j (m ∷ h) y e)

  same_held : (d : Dir) → get_elem? hs i ≡ some h → live_pins (m ∷ h) ≡ live_pins h → total_pins d (set hs i (m ∷ h)) ≡ total_pins d hs
  same_held d e p = let r = total_pins-set d hs i h (m ∷ h) e in let q : pin_count d (live_pins (m ∷ h)) ≡ pin_count d (live_pins h) = ap (pin_count d) p in omega arith

  -- a step that changes neither the word nor a pin
  pub sees_shown : (word : ℕ) → ShowsRecord x xs word a b hs → get_elem? hs i ≡ some h → live_pins (m ∷ h) ≡ live_pins h → ShowsRecord x xs word a b (set hs i (m ∷ h))
  sees_shown word k e p = let r = same_held Read e p in let w = same_held Write e p in record {
    spelled = k.spelled ∙ ap (λ (z : ℕ × ℕ). word_of x.entry x.generation z.0 z.1) (λ j. (sym r j, sym w j));
    in_range = (let t = k.in_range.0 in omega arith, let t = k.in_range.1 in omega arith);
    body = k.body;
    lawful = k.lawful;
    unwritten = λ n. w ∙ k.unwritten n;
    pinned = all_pinned (λ q t. k.pinned i h e q (subst (IsAmong q) p t)) k.pinned;
  }

-- the word with one pin more of the kind d
more : (d : Dir) (e : Entry) (g r w r' w' : ℕ) → r' ≡ r + weight Read d → w' ≡ w + weight Write d → word_of e g r w + unit_of d ≡ word_of e g r' w'
more Read e g r w r' w' p q = omega arith
more Write e g r w r' w' p q = omega arith

-- a pin of a read-only record is a read pin
read_pin : (d : Dir) (x : EntryRecord) → (d ≡ Write → is_read_only x.entry ≡ false) → (old new : ℕ) → new ≡ old + weight Write d → is_read_only x.entry ≡ true → old ≡ 0 → new ≡ 0
read_pin Read x writable old new e ro none_yet = omega arith
read_pin Write x writable old new e ro none_yet = let f = writable refl in absurd (cc)

few_more : (d : Dir) (r w r' w' : ℕ) → r' ≡ r + weight Read d → w' ≡ w + weight Write d → (r < 4096) × (w < 4096) → (d ≡ Read → r < MAX_PINS) → (d ≡ Write → w < MAX_PINS) → (r' < 4096) × (w' < 4096)
few_more Read r w r' w' p q f a b = let h = a refl in let g = f.1 in (omega arith, omega arith)
few_more Write r w r' w' p q f a b = let h = b refl in let g = f.0 in (omega arith, omega arith)

module _ (x : EntryRecord) (xs : List EntryRecord) (a b : ℕ) (hs : List (List EntryStep)) (i : ℕ) (h : List EntryStep) where
  pub pins_shown : (word expected : ℕ) (d : Dir) → ShowsRecord x xs word a b hs → get_elem? hs i ≡ some h → x.entry ≢ Invalid → (d ≡ Write → is_read_only x.entry ≡ false) → (d ≡ Read → total_pins Read hs < MAX_PINS) → (d ≡ Write → total_pins Write hs < MAX_PINS)
      → ShowsRecord x xs (word + unit_of d) a b (set hs i (Pinned d expected x ∷ h))
  pins_shown word expected d k e n writable fr fw = let hs' : List (List EntryStep) = set hs i (Pinned d expected x ∷ h) in
      let r : total_pins Read hs' ≡ total_pins Read hs + weight Read d = let t = total_pins-set Read hs i h (Pinned d expected x ∷ h) e in omega arith in
      let w : total_pins Write hs' ≡ total_pins Write hs + weight Write d = let t = total_pins-set Write hs i h (Pinned d expected x ∷ h) e in omega arith in record {
        spelled = ap (λ (z : ℕ). z + unit_of d) k.spelled ∙ more d x.entry x.generation (total_pins Read hs) (total_pins Write hs) (total_pins Read hs') (total_pins Write hs') r w;
        in_range = few_more d (total_pins Read hs) (total_pins Write hs) (total_pins Read hs') (total_pins Write hs') r w k.in_range fr fw;
        body = k.body;
        lawful = k.lawful;
        unwritten = λ z. read_pin d x writable (total_pins Write hs) (total_pins Write hs') w z (k.unwritten z);
        pinned = all_pinned x xs a b hs i h (Pinned d expected x) (λ p t. ⊎_elim (λ (s : p ≡ (d, x)). let one = ap (λ (z : LivePin). z.1) s in (inl one, subst (λ (u : EntryRecord). u.entry ≢ Invalid) (sym one) n)) (λ (s : IsAmong p (live_pins h)). k.pinned i h e p s) t) k.pinned;
      }

  pub unpins_shown : (word : ℕ) (d : Dir) (p : LivePin) → ShowsRecord x xs word a b hs → get_elem? hs i ≡ some h → IsAmong p (live_pins h) → p.0 ≡ d
      → ShowsRecord x xs (word - unit_of d) a b (set hs i (Unpinned d p.1.generation ∷ h))
  unpins_shown word d p k e is_in same = let g : ℕ = p.1.generation in let m : EntryStep = Unpinned d g in let hs' : List (List EntryStep) = set hs i (m ∷ h) in
      let r : total_pins Read hs ≡ total_pins Read hs' + weight Read d = let t = total_pins-set Read hs i h (m ∷ h) e in let c = pin_count-without_pin Read d g p (live_pins h) is_in same refl in omega arith in
      let w : total_pins Write hs ≡ total_pins Write hs' + weight Write d = let t = total_pins-set Write hs i h (m ∷ h) e in let c = pin_count-without_pin Write d g p (live_pins h) is_in same refl in omega arith in
      let f = k.in_range in let f0 = f.0 in let f1 = f.1 in record {
        spelled = let t = more d x.entry x.generation (total_pins Read hs') (total_pins Write hs') (total_pins Read hs) (total_pins Write hs) r w in let s = k.spelled in omega arith;
        in_range = (omega arith, omega arith);
        body = k.body;
        lawful = k.lawful;
        unwritten = λ z. let q = k.unwritten z in omega arith;
        pinned = all_pinned x xs a b hs i h m (λ q t. k.pinned i h e q (IsIn-without_pin d g q (live_pins h) t)) k.pinned;
      }

  -- the owner stores a body word of an invalid entry
  pub stores_shown : (word : ℕ) (k : BodyWord) (v a' b' : ℕ) → ShowsRecord x xs word a b hs → get_elem? hs i ≡ some h → x.entry ≡ Invalid → ShowsRecord x xs word a' b' (set hs i (StoredBody k v ∷ h))
  stores_shown word k v a' b' z e n = let s = sees_shown x xs a b hs i h (StoredBody k v) word z e refl in record {
    spelled = s.spelled;
    in_range = s.in_range;
    body = subst (λ (y : Entry). IsSpelled y a' b') (sym n) tt;
    lawful = s.lawful;
    unwritten = s.unwritten;
    pinned = s.pinned;
  }

  -- the owner exchanges the control word
  pub changes_shown : (word word' expected stored : ℕ) (c : EntryChange) (y : EntryRecord) → ShowsRecord x xs word a b hs → get_elem? hs i ≡ some h → IsRecord y → MayFollow y x → IsSpelled y.entry a b
      → word' ≡ word_of y.entry y.generation (total_pins Read hs) (total_pins Write hs) → (is_read_only y.entry ≡ true → total_pins Write hs ≡ 0)
      → ShowsRecord y (x ∷ xs) word' a b (set hs i (Changed c expected stored y ∷ h))
  changes_shown word word' expected stored c y k e ok may body is unwritten = let m : EntryStep = Changed c expected stored y in let s = sees_shown x xs a b hs i h m word k e refl in
      let r = same_held x xs a b hs i h m Read e refl in let w = same_held x xs a b hs i h m Write e refl in record {
        spelled = is ∙ ap (λ (z : ℕ × ℕ). word_of y.entry y.generation z.0 z.1) (λ j. (sym r j, sym w j));
        in_range = s.in_range;
        body = body;
        lawful = (ok, may, k.lawful);
        unwritten = λ n. w ∙ unwritten n;
        pinned = λ j z at p t. let old = s.pinned j z at p t in (inr old.0, old.1);
      }
