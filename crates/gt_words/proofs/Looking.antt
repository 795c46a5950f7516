-- What a look says of the record that it found, by the words of one entry.
use Rattle.std.proofs.Common.{◌≡◌, ◌≢◌, inl, inr, ℕ, ◌<◌, List, ◌∷◌, sym, refl, ap, ◌∙◌, subst, Option, Some, None}
use Rattle.std.proofs.Common.{IsSome}
use Rattle.gt_entry.specs.Laws.{digits, entry-read}
use Rattle.gt_model.specs.Spelling.{IsSpelled, control_with, entry_of, low_bits, named_domain, word_of}
use Rattle.gt_model.specs.Words.{control_of}
use Rattle.gt_model.specs.declared.control.Control.{Control}
use Rattle.gt_model.specs.declared.entry.Entry.{Entry}
use Rattle.gt_model.specs.declared.entry.Entry.TheVariants.{Invalid, Page, Sub, Via}
use Rattle.gt_types.specs.declared.Dir.TheVariants.{Read, Write}
use Rattle.gt_words.proofs.Records.{domain_small, fresh, legal_record, listed_record, low_small, spelled_control}
use Rattle.gt_words.proofs.Records.{spelled_parts}
use Rattle.gt_word_history.specs.Controls.{IsValid, generation_of, pins_in}
use Rattle.gt_word_history.specs.History.{RecordsFound, word_on}
use Rattle.gt_words.specs.Laws.{alone}
use Rattle.gt_word_history.specs.Rule.{IsLawful}
use Rattle.gt_words.specs.Sight.{Agrees, IsSeenOf, SawRecord}
use Rattle.gt_word_history.specs.Views.{HasBody, Seen, earlier_records, last_record, record_seen, seen, value_or_zero}
use Rattle.gt_word_history.specs.Views.{with_body}
use Rattle.gt_word_history.specs.declared.view.EntryStep.{EntryStep}
use Rattle.gt_word_history.specs.declared.view.EntryStep.TheVariants.{ChangeMissed, Changed, Looked, PinMissed}
use Rattle.gt_word_history.specs.declared.view.EntryStep.TheVariants.{Pinned, ReadBody, StoredBody, Unpinned}
use Rattle.gt_model.specs.declared.change.BodyWord.{BodyWord}
use Rattle.gt_model.specs.declared.change.BodyWord.TheVariants.{First, Second}
use Rattle.gt_word_history.specs.declared.view.EntryRecord.{EntryRecord}
use Rattle.gt_model.specs.declared.control.EntryKind.TheVariants as kinds

-- the word of the last record is a look at it
pub looks_at : (x : EntryRecord) (xs : List EntryRecord) (r w : ℕ) (word : ℕ) → (r < 4096) × (w < 4096) → word ≡ word_of x.entry x.generation r w → SawRecord x xs (Some (record { word = word; first = None; second = None }))
looks_at x xs r w word f e = record { at = x; reads = r; writes = w; listed = inl refl; in_range = f; spelled = e; agrees = λ _. blank x.entry }
  where
    blank : (e : Entry) → Agrees e None None
    blank Invalid = tt
    blank (Page d o f) = tt
    blank (Sub d o f a n) = (tt, tt)
    blank (Via d o t r) = tt

saw_first : (e : Entry) (a b : ℕ) (p q : Option ℕ) → IsSpelled e a b → Agrees e p q → Agrees e (Some a) q
saw_first Invalid a b p q s g = tt
saw_first (Page d o f) a b p q s g = s
saw_first (Sub d o f y n) a b p q s g = (s.0, g.1)
saw_first (Via d o t r) a b p q s g = s

saw_second : (e : Entry) (a b : ℕ) (p q : Option ℕ) → IsSpelled e a b → Agrees e p q → Agrees e p (Some b)
saw_second Invalid a b p q s g = tt
saw_second (Page d o f) a b p q s g = g
saw_second (Sub d o f y n) a b p q s g = (g.0, s.1)
saw_second (Via d o t r) a b p q s g = g

-- a look at a body word
pub saw_known : (x : EntryRecord) (xs : List EntryRecord) (a b : ℕ) (k : BodyWord) (v : ℕ) (s : Option Seen) → IsSpelled x.entry a b → (k ≡ First → v ≡ a) → (k ≡ Second → v ≡ b) → SawRecord x xs s → SawRecord x xs (with_body k v s)
saw_known x xs a b k v None body f g n = tt
saw_known x xs a b First v (Some s) body f g n = record {
  at = n.at;
  reads = n.reads;
  writes = n.writes;
  listed = n.listed;
  in_range = n.in_range;
  spelled = n.spelled;
  agrees = λ e. subst (λ (y : ℕ). Agrees n.at.entry (Some y) s.second) (sym (f refl)) (saw_first n.at.entry a b s.first s.second (subst (λ (y : EntryRecord). IsSpelled y.entry a b) e body) (n.agrees e));
}
saw_known x xs a b Second v (Some s) body f g n = record {
  at = n.at;
  reads = n.reads;
  writes = n.writes;
  listed = n.listed;
  in_range = n.in_range;
  spelled = n.spelled;
  agrees = λ e. subst (λ (y : ℕ). Agrees n.at.entry s.first (Some y)) (sym (g refl)) (saw_second n.at.entry a b s.first s.second (subst (λ (y : EntryRecord). IsSpelled y.entry a b) e body) (n.agrees e));
}

-- a step of a seat that says what it found, where the words show the record x
module _ (x : EntryRecord) (xs : List EntryRecord) (words : ℕ → ℕ) (reads writes : ℕ) (few : (reads < 4096) × (writes < 4096)) (spelled : words 0 ≡ word_of x.entry x.generation reads writes) (body : IsSpelled x.entry (words 1) (words 2)) where
  pub saw_more : (m : EntryStep) (h : List EntryStep) → RecordsFound m (words (word_on m)) → SawRecord x xs (seen h) → SawRecord x xs (seen (m ∷ h))
  saw_more (Looked w) h says saw = looks_at x xs reads writes w few (says ∙ spelled)
  saw_more (PinMissed d e f w) h says saw = looks_at x xs reads writes w few (says.0 ∙ spelled)
  saw_more (ChangeMissed c e f w) h says saw = looks_at x xs reads writes w few (says.0 ∙ spelled)
  saw_more (ReadBody First v) h says saw = saw_known x xs (words 1) (words 2) First v (seen h) body (λ _. says) (λ e. cc) saw
  saw_more (ReadBody Second v) h says saw = saw_known x xs (words 1) (words 2) Second v (seen h) body (λ e. cc) (λ _. says) saw
  saw_more (Pinned d e y) h says saw = saw
  saw_more (Unpinned d g) h says saw = saw
  saw_more (StoredBody p n) h says saw = saw
  saw_more (Changed c e n y) h says saw = saw

-- one more step of the owner's, after which its list is lawful
pub saw_grown : (g : ℕ) (ms : List EntryStep) (m : EntryStep) (s : Option Seen) → IsLawful (last_record g (m ∷ ms)) (earlier_records g (m ∷ ms)) → SawRecord (last_record g ms) (earlier_records g ms) s → SawRecord (last_record g (m ∷ ms)) (earlier_records g (m ∷ ms)) s
saw_grown g ms (Looked w) s lawful saw = saw
saw_grown g ms (PinMissed d e f w) s lawful saw = saw
saw_grown g ms (ChangeMissed c e f w) s lawful saw = saw
saw_grown g ms (ReadBody p v) s lawful saw = saw
saw_grown g ms (Pinned d e y) s lawful saw = saw
saw_grown g ms (Unpinned d n) s lawful saw = saw
saw_grown g ms (StoredBody p n) s lawful saw = saw
saw_grown g ms (Changed c e n y) None lawful saw = tt
saw_grown g ms (Changed c e n y) (Some s) lawful saw = record {
  at = saw.at;
  reads = saw.reads;
  writes = saw.writes;
  listed = inr saw.listed;
  in_range = saw.in_range;
  spelled = saw.spelled;
  agrees = λ q. let inv = fresh (last_record g ms) (earlier_records g ms) y saw.at lawful.2 lawful.1 saw.listed q in subst (λ (z : Entry). Agrees z s.first s.second) (sym (ap (λ (z : EntryRecord). z.entry) (sym q) ∙ inv)) tt;
}

-- what was seen is the last record, where the word is still the one seen

none_some : IsSome {T = ℕ} None → ⊥
none_some h = cc

-- body values that agree with the entry, and were read, spell it
read_body : (e : Entry) (p q : Option ℕ) (g r w : ℕ) → Agrees e p q → IsSome p → ((control_with e g r w).kind ≡ kinds.Sub → IsSome q) → IsSpelled e (value_or_zero p) (value_or_zero q)
read_body Invalid p q g r w a s t = tt
read_body (Page d o f) (Some x) q g r w a s t = a
read_body (Sub d o f y k) (Some x) (Some z) g r w a s t = a
read_body (Via d o u k) (Some x) q g r w a s t = a
read_body (Page d o f) None q g r w a s t = absurd (none_some s)
read_body (Sub d o f y k) None q g r w a s t = absurd (none_some s)
read_body (Sub d o f y k) (Some x) None g r w a s t = absurd (none_some (t refl))
read_body (Via d o u k) None q g r w a s t = absurd (none_some s)

-- what the seat saw of the entry is its last record, where the word is still the one seen
pub seen_is_last : (x : EntryRecord) (xs : List EntryRecord) (s : Seen) (word r w : ℕ) → IsLawful x xs → IsSeenOf x xs s → (r < 4096) × (w < 4096) → word ≡ word_of x.entry x.generation r w → s.word ≡ word → IsValid word → HasBody s
    → (record_seen s ≡ x) × (x.entry ≢ Invalid) × (pins_in Read word ≡ r) × (pins_in Write word ≡ w)
seen_is_last x xs s word r w lawful k in_range is same valid body =
    let rec = legal_record x xs lawful in let old = listed_record x xs k.at lawful k.listed in
    let e : s.word ≡ word_of x.entry x.generation r w = same ∙ is in
    let c : control_of s.word ≡ control_with x.entry x.generation r w = ap control_of e ∙ spelled_control x.entry x.generation r w rec.0 in_range rec.1 in
    let n : x.entry ≢ Invalid = λ h. valid (ap (λ (u : ℕ). (control_of u).kind) (sym same) ∙ (ap (λ (u : Control). u.kind) c ∙ ap (λ (u : Entry). (control_with u x.generation r w).kind) h)) in
    let same_word : word_of k.at.entry k.at.generation k.reads k.writes ≡ word_of x.entry x.generation r w = sym k.spelled ∙ e in
    let d = digits (low_bits k.at.entry) (named_domain k.at.entry) k.at.generation k.reads k.writes (low_bits x.entry) (named_domain x.entry) x.generation r w
    (low_small k.at.entry) (low_small x.entry) k.in_range.0 in_range.0 k.in_range.1 in_range.1 (domain_small k.at.entry old.0) (domain_small x.entry rec.0) same_word in
    let here : k.at ≡ x = alone x xs k.at lawful n k.listed d.generation in let agrees : Agrees x.entry s.first s.second = subst (λ (y : EntryRecord). Agrees y.entry s.first s.second) here (k.agrees (sym here)) in
    let spelled = read_body x.entry s.first s.second x.generation r w agrees body.0 (λ h. body.1 (ap (λ (u : Control). u.kind) c ∙ h)) in
    let read : entry_of (control_of s.word) (value_or_zero s.first) (value_or_zero s.second) ≡ x.entry = ap (λ (u : Control). entry_of u (value_or_zero s.first) (value_or_zero s.second)) c
    ∙ entry-read x.entry x.generation r w (value_or_zero s.first) (value_or_zero s.second) rec.0 spelled in
    let t = spelled_parts x.entry x.generation r w rec.0 in_range in
    let gen : generation_of s.word ≡ x.generation = ap generation_of e ∙ t.generation in
    ((λ i. record { generation = gen i; entry = read i }), n, ap (pins_in Read) is ∙ t.reads, ap (pins_in Write) is ∙ t.writes)
