-- The live pins and the mappings are the same without keys, if the serial of each handle that is named identifies it.
use Rattle.gt_core.proofs.Words.{◌≡◌, ◌+◌, ℕ, refl, Bool, true, List, [], ◌∷◌, ◌++◌, length, Option, Some, cond, sym}
use Rattle.gt_core.proofs.Words.{ap, ◌∙◌, subst, ◌==◌, count_by, option_map, eqb-true, sum_by-cons, fun_ext, DomId, Dir}
use Rattle.gt_core.proofs.Words.{Read, Write, Entry, Handle, PinHolder, HeldPin, Observation, Taken, Unpin, Answer}
use Rattle.gt_core.proofs.Words.{ItemEvent, Stepped, History, Setting, Pin, live, without, is_holder, same_handle}
use Rattle.gt_core.proofs.Words.{holder_after, gather, by_leg, mapping_named, pinned_by, unpinned_by, is_pin_on}
use Rattle.gt_core.proofs.Words.{reads_at, writes_at, mappings_at, mapping_of, entry_at, generation_at, word_at}
use Rattle.gt_core.proofs.Words.{known_at, shown_at, subject_at, bare_handle, bare_happened, keyless_answer, IsGiven}
use Rattle.gt_core.proofs.Words.{IsKnown, IsRun, AreAlike, map, map-append, length-map, All-head, All-tail, All, arith}
use Rattle.gt_model.specs.declared.action.Step.TheVariants as call_steps
use Rattle.gt_model.specs.declared.request.PinHolder.TheVariants as holders
use Rattle.gt_core.proofs.{WithoutKeys.bare-same, WithoutKeys.answer_from, WithoutKeys.bare, WithoutKeys.bared}
use Rattle.gt_core.proofs.{HandlesGiven.HeldGiven, HandlesGiven.PinsGiven}
use Rattle.gt_core.proofs.{HandlesGiven.pins-given, HandlesGiven.known-tells, HandlesGiven.unpin-known}
use Rattle.std.proofs.lemmas.List.Elements.{All-weaker}

abbrev pub bare_holder : PinHolder → PinHolder
bare_holder (holders.Mapping handle) = holders.Mapping (bare_handle handle)
bare_holder (holders.Leg number) = holders.Leg number

abbrev pub bare_pin : Pin → Pin
bare_pin p = record { actor = p.actor; holder = bare_holder p.holder; held = p.held }

abbrev pub bare_pins : List Pin → List Pin
bare_pins ps = map bare_pin ps

-- pins that are released

-- keys are not needed to identify the holder of the domain's pins
abbrev Tells : ℕ → PinHolder → Pin → Type 0
Tells d holder p = p.actor ≡ d → is_holder (bare_holder p.holder) (bare_holder holder) ≡ is_holder p.holder holder

without-bare : (d : ℕ) (holder : PinHolder) (ps : List Pin) → All (Tells d holder) ps → without d (bare_holder holder) (bare_pins ps) ≡ bare_pins (without d holder ps)
unfolding without
without-bare d holder [] t = refl
without-bare d holder (p ∷ ps) t = grind (arith, without-bare d holder ps (All-tail (Tells d holder) p ps t), All-tail, All-head, eqb-true)

leg-tells : (d n : ℕ) (ps : List Pin) → All (Tells d (holders.Leg n)) ps
leg-tells d n ps = grind arith

mapping-tells : (s : Setting) (h : History) (d : ℕ) (a : Handle) (ps : List Pin) → IsRun s h → IsKnown h d a → PinsGiven h ps → All (Tells d (holders.Mapping a)) ps
mapping-tells s h d a ps run k g = grind (arith, All-weaker, known-tells)

unpinned-bare : (s : Setting) (h : History) (d : DomId) (x : ItemEvent) (ps : List Pin) → IsRun s h → ((p : HeldPin) (a : Handle) (seen : Observation) → x ≡ Stepped (Unpin p (holders.Mapping a)) seen → IsKnown h d.0 a) → PinsGiven h ps
    → unpinned_by d (bare_happened x) (bare_pins ps) ≡ bare_pins (unpinned_by d x ps)
unpinned-bare s h d (Stepped (Unpin p (holders.Mapping a)) seen) ps run k g = without-bare d.0 (holders.Mapping a) ps (mapping-tells s h d.0 a ps run (k p a seen refl) g)
unpinned-bare s h d (Stepped (Unpin p (holders.Leg n)) seen) ps run k g = without-bare d.0 (holders.Leg n) ps (leg-tells d.0 n ps)
unpinned-bare s h d x ps run k g = refl

-- pins that are taken

legs-bare : (d : ℕ) (ps : List Pin) → gather by_leg d (bare_pins ps) ≡ gather by_leg d ps
unfolding gather
legs-bare d [] = refl
legs-bare d (p ∷ ps) = grind (arith, legs-bare d ps)

holder-bare : (a : Option Answer) (n : ℕ) → holder_after (option_map answer_from (option_map keyless_answer a)) n ≡ bare_holder (holder_after a n)
holder-bare a n = grind arith

pinned-bare : (d : DomId) (x : ItemEvent) (a : Option Answer) (h : History) (ps : List Pin)
    → pinned_by d (bare_happened x) (option_map answer_from (option_map keyless_answer a)) (bare h) (bare_pins ps) ≡ bare_pins (pinned_by d x a h ps)
pinned-bare d (Stepped (call_steps.Pin p) Taken) a h ps =
    let l = legs-bare d.0 ps in let b = holder-bare a (length (gather by_leg d.0 ps)) in let e = (bared h).entry p.dom.0 p.gref.0 in cc
pinned-bare d (Stepped (Unpin p (holders.Mapping b)) seen) a h ps = refl
pinned-bare d x a h ps = refl

-- the live pins

pub live-bare : (s : Setting) (h : History) → IsRun s h → live (bare h) ≡ bare_pins (live h)
unfolding live bare IsRun
live-bare s [] run = refl
live-bare s (i ∷ h) run = let a = option_map answer_from (option_map keyless_answer i.answer) in
    ap (λ (ps : List Pin). unpinned_by i.actor (bare_happened i.happened) ps ++ pinned_by i.actor (bare_happened i.happened) a (bare h) ps) (live-bare s h run.2)
    ∙ ap (λ (ps : List Pin). ps ++ pinned_by i.actor (bare_happened i.happened) a (bare h) (bare_pins (live h)))
    (unpinned-bare s h i.actor i.happened (live h) run.2 (λ p b seen e. unpin-known s h i p b seen e run.0 run.2) (pins-given h))
    ∙ ap (λ (ps : List Pin). bare_pins (unpinned_by i.actor i.happened (live h)) ++ ps) (pinned-bare i.actor i.happened i.answer h (live h))
    ∙ sym (map-append bare_pin (unpinned_by i.actor i.happened (live h)) (pinned_by i.actor i.happened i.answer h (live h)))

-- the number of pins

count-bare : (t r : ℕ) (dir : Dir) (ps : List Pin) → count_by (is_pin_on t r dir) (bare_pins ps) ≡ count_by (is_pin_on t r dir) ps
count-bare t r dir [] = refl
count-bare t r dir (p ∷ ps) = sum_by-cons (λ (q : Pin). cond (is_pin_on t r dir q) 1 0) (bare_pin p) (bare_pins ps)
    ∙ ap (λ (n : ℕ). cond (is_pin_on t r dir p) 1 0 + n) (count-bare t r dir ps)
    ∙ sym (sum_by-cons (λ (q : Pin). cond (is_pin_on t r dir q) 1 0) p ps)

reads-bare : (s : Setting) (h : History) (t r : ℕ) → IsRun s h → reads_at (bare h) t r ≡ reads_at h t r
reads-bare s h t r run = ap (λ (ps : List Pin). count_by (is_pin_on t r Read) ps) (live-bare s h run) ∙ count-bare t r Read (live h)

writes-bare : (s : Setting) (h : History) (t r : ℕ) → IsRun s h → writes_at (bare h) t r ≡ writes_at h t r
writes-bare s h t r run = ap (λ (ps : List Pin). count_by (is_pin_on t r Write) ps) (live-bare s h run) ∙ count-bare t r Write (live h)

pub word-bare : (s : Setting) (h : History) (t r : ℕ) → IsRun s h → word_at s (bare h) t r ≡ word_at s h t r
word-bare s h t r run =
    let e = (bared h).entry t r in let g = (bared h).raises t r in let n = reads-bare s h t r run in let m = writes-bare s h t r run in cc

-- mappings

abbrev pub bare_mappings : List (Handle × HeldPin) → List (Handle × HeldPin)
bare_mappings ms = map (λ (m : Handle × HeldPin). (bare_handle m.0, m.1)) ms

gather-bare : (d : ℕ) (ps : List Pin) → gather mapping_named d (bare_pins ps) ≡ bare_mappings (gather mapping_named d ps)
unfolding gather
gather-bare d [] = refl
gather-bare d (p ∷ ps) = grind (arith, gather-bare d ps)

pub mappings-bare : (s : Setting) (h : History) (d : ℕ) → IsRun s h → mappings_at (bare h) d ≡ bare_mappings (mappings_at h d)
mappings-bare s h d run = ap (λ (ps : List Pin). gather mapping_named d ps) (live-bare s h run) ∙ gather-bare d (live h)

found-bare : (s : Setting) (h : History) (d : ℕ) (a : Handle) (ps : List Pin) → IsRun s h → IsKnown h d a → PinsGiven h ps → mapping_of (gather mapping_named d (bare_pins ps)) (bare_handle a) ≡ mapping_of (gather mapping_named d ps) a
unfolding gather
found-bare s h d a [] run k g = refl
found-bare s h d a (p ∷ ps) run k g = let P : Pin → Type 0 = λ q. HeldGiven h q.actor q.holder in by (p.actor == d) refl p.holder (All-head P p ps g) (found-bare s h d a ps run k (All-tail P p ps g)) where
  by : (b : Bool) → (p.actor == d) ≡ b → (x : PinHolder) → HeldGiven h p.actor x → mapping_of (gather mapping_named d (bare_pins ps)) (bare_handle a) ≡ mapping_of (gather mapping_named d ps) a
      → mapping_of (cond b (mapping_named (bare_holder x) p.held) [] ++ gather mapping_named d (bare_pins ps)) (bare_handle a) ≡ mapping_of (cond b (mapping_named x p.held) [] ++ gather mapping_named d ps) a
  by true own (holders.Mapping m) given rest = ap (λ (b : Bool). cond b (Some p.held) (mapping_of (gather mapping_named d (bare_pins ps)) (bare_handle a))) (known-tells s h d a m run (subst (λ (n : ℕ). IsGiven h n m) (eqb-true p.actor d own) given) k)
      ∙ ap (cond (same_handle m a) (Some p.held)) rest
  by b own x given rest = rest

-- a known handle finds the same mapping without its key
pub mapping-bare : (s : Setting) (h : History) (d : ℕ) (a : Handle) → IsRun s h → IsKnown h d a → mapping_of (mappings_at (bare h) d) (bare_handle a) ≡ mapping_of (mappings_at h d) a
mapping-bare s h d a run k = ap (λ (ps : List Pin). mapping_of (gather mapping_named d ps) (bare_handle a)) (live-bare s h run) ∙ found-bare s h d a (live h) run k (pins-given h)

-- what a domain knows by itself is the same, except for the keys of its mappings
pub known-bare : (s : Setting) (h : History) (d : DomId) → IsRun s h → known_at s (bare h) d ≡ record (known_at s h d) { mapping = mapping_of (mappings_at (bare h) d.0) }
known-bare s h d run = let e : ◌≡◌ {A = ℕ → Entry} (λ r. entry_at (bare h) d.0 r) (λ r. entry_at h d.0 r) = fun_ext (λ r. (bared h).entry d.0 r) in
    let g : ◌≡◌ {A = ℕ → ℕ} (λ r. generation_at s (bare h) d.0 r) (λ r. generation_at s h d.0 r) = fun_ext (λ r. ap (λ (n : ℕ). s.first_generation + n) ((bared h).raises d.0 r)) in
    let t = (bared h).table s d in let m = (bared h).maps d.0 in
    let n : length (mappings_at (bare h) d.0) ≡ length (mappings_at h d.0) = ap length (mappings-bare s h d.0 run) ∙ length-map (mappings_at h d.0) (λ (m : Handle × HeldPin). (bare_handle m.0, m.1)) in cc

-- what an entry shows is the same
shown-bare : (s : Setting) (h : History) (dom : DomId) (r : ℕ) → IsRun s h → shown_at s (bare h) dom r ≡ shown_at s h dom r
shown-bare s h dom r run = let x = (bared h).table s dom in let e = (bared h).entry dom.0 r in let g = (bared h).raises dom.0 r in
    let n = reads-bare s h dom.0 r run in let m = writes-bare s h dom.0 r run in cc

pub shown-alike : (s : Setting) (g h : History) (dom : DomId) (r : ℕ) → AreAlike s g h → shown_at s g dom r ≡ shown_at s h dom r
shown-alike s g h dom r alike =
    sym (shown-bare s g dom r alike.first) ∙ ap (λ (l : History). shown_at s l dom r) (bare-same g h alike.same) ∙ shown-bare s h dom r alike.second

-- the entry that a known handle maps
subject-bare : (s : Setting) (h : History) (dom : DomId) (a : Handle) → IsRun s h → IsKnown h dom.0 a → subject_at s (bare h) dom (bare_handle a) ≡ subject_at s h dom a
subject-bare s h dom a run k = grind (arith, mapping-bare)

pub subject-alike : (s : Setting) (g h : History) (dom : DomId) (a b : Handle) → AreAlike s g h → bare_handle a ≡ bare_handle b → IsKnown g dom.0 a → IsKnown h dom.0 b → subject_at s g dom a ≡ subject_at s h dom b
subject-alike s g h dom a b alike same j k = grind (arith, subject-bare, bare-same)
