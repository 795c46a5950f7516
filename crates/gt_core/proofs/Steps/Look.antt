-- A look at a header, a control word or a body word: the refusal that it leads to is the first rule that applies, and
-- the phase of the call after it. What it sees is in See.
use Rattle.gt_core.proofs.Words.{ℕ, Bool, List, None, Option, Some, [], ap, arith, cond, false, inl, refl, subst, sym}
use Rattle.gt_core.proofs.Words.{true, ◌+◌, ◌<◌, ◌∙◌, ◌∷◌, ◌≡◌, ◌≢◌, ◌≤◌, eqb-true, ltb-true, true≢false, nat_le}
use Rattle.gt_core.proofs.Words.{nat_lt, not, ◌&&◌, ◌==◌, denial_of, domain_of, DomId, GrantRef, Denial, Rule, N18, N19}
use Rattle.gt_core.proofs.Words.{N9, MAX_TRIES, TABLE_ENTRIES, IsEntry, entry-read, entry_of, first_body, control_of}
use Rattle.gt_core.proofs.Words.{header_of, header_word, EntryChange, BodyWord, Control, Entry, Invalid, Sub, Header}
use Rattle.gt_core.proofs.Words.{on_control_word, after_miss, after_words, leg_after, leg_step, refused_as, opens}
use Rattle.gt_core.proofs.Words.{entry_refusal, rule_of_try, begun, control_with, first, first_look, is_kind, size_of}
use Rattle.gt_core.proofs.Words.{stands, IsTurn, Observation, Word, LookBody, LookControl, LookHeader, Asking, Changing}
use Rattle.gt_core.proofs.Words.{Looking, HeaderQuery, Leg, Going, LegPhase, Body, Look, Pinning, Relook, Second}
use Rattle.gt_core.proofs.Words.{MORE_TRIES, OpenRequest, GetVersion, QuerySize, History, Setting, control_at}
use Rattle.gt_core.proofs.Words.{generation_at, known_at, reads_at, seen_by, word_at, writes_at, IsSpelled, LegNow}
use Rattle.gt_core.proofs.Words.{StepsSoFar, at_entry, first_at, is_demote, is_in_body, is_other, leg_at}
use Rattle.gt_core.proofs.Words.{rule_at_header, rule_at_look, rule_before_pin, AsksTable, LegHasLooked, LegHasRead}
use Rattle.gt_core.proofs.Words.{IsShown, LegStands, PhaseStands, WhileSame, phase_refusal, State, state_of, body_at}
use Rattle.gt_core.proofs.Words.{entry_at, table_at, looked_at, misses}
use Rattle.gt_model.specs.declared.change.BodyWord.TheVariants as body_words
use Rattle.gt_model.specs.declared.change.EntryChange.TheVariants as changes
use Rattle.gt_types.specs.declared.denial.Facts.TheVariants as facts
use Rattle.gt_model.specs.declared.control.EntryKind.TheVariants as kinds
use Rattle.gt_calls.specs.declared.leg.LegNext.TheVariants as leg_outcomes
use Rattle.gt_calls.specs.declared.leg.LegPhase.TheVariants as leg_phases
use Rattle.gt_model.specs.declared.action.HeaderQuery.TheVariants as queries
use Rattle.gt_core.proofs.{Phases.none-of, Phases.of-run, Phases.Judged, Legs.misses-look, Legs.misses-relook, Legs.few}
use Rattle.gt_core.proofs.{Legs.first-alone, Legs.alone, Legs.control-parts, Legs.Words, Legs.as-tried}
use Rattle.gt_core.proofs.{Legs.still-judged, Legs.IsLegOf, Legs.ComesTo, Legs.miss-comes, Steps.See.IsWithin}

-- a phase of a leg that looks
abbrev pub IsLooking : LegPhase → Type 0
IsLooking (Pinning more word body second) = ⊥
IsLooking phase = Unit {0}

-- the rules at a look at the control word, except for a demotion
control-rules : (dom : DomId) (gref : GrantRef) (w : ℕ) (demoted x late late' : Bool) (rule rule' : Option Rule) → demoted ≡ false → rule ≡ rule' → late ≡ late'
    → at_entry dom gref w (first (stands (demoted && x) N19 ∷ rule ∷ stands late N18 ∷ [])) ≡ at_entry dom gref w (first (rule' ∷ stands late' N18 ∷ []))
control-rules dom gref w demoted x late late' rule rule' d e m = cc

own-shown : (e : Entry) (g r w : ℕ) → IsShown (control_with e g r w) e
own-shown Invalid g r w = refl
own-shown e g r w = refl

-- what body words encode

spelled-first : (e : Entry) (first second : ℕ) → e ≢ Invalid → IsSpelled e first second → first_body e ≡ first
spelled-first Invalid first second valid a = absurd (valid refl)
spelled-first (Sub dom ro frame off len) first second valid a = sym a.0
spelled-first e first second valid a = sym a

spelled-plain : (c : Control) (e : Entry) (first second : ℕ) → c ≡ control_with e c.generation c.reads c.writes → is_kind c.kind kinds.Sub ≡ false → IsSpelled e first second → IsSpelled e first 0
spelled-plain c (Sub dom ro frame off len) first second shown plain a = absurd (true≢false (sym (ap (λ (z : Control). is_kind z.kind kinds.Sub) shown) ∙ plain))
spelled-plain c e first second shown plain a = a

spelled-sub : (c : Control) (e : Entry) (first body second : ℕ) → c ≡ control_with e c.generation c.reads c.writes → is_kind c.kind kinds.Sub ≡ true → first_body e ≡ body → IsSpelled e first second → IsSpelled e body second
spelled-sub c Invalid first body second shown sub same a = a
spelled-sub c (Sub dom ro frame off len) first body second shown sub same a = (sym same, a.1)
spelled-sub c e first body second shown sub same a = sym same

-- the words of a try encode the entry that they show
read-entry : (c : Control) (e : Entry) (first second : ℕ) → c ≡ control_with e c.generation c.reads c.writes → IsEntry e → IsSpelled e first second → entry_of c first second ≡ e
read-entry c e first second shown is a = ap (λ (z : Control). entry_of z first second) shown ∙ entry-read e c.generation c.reads c.writes first second is a

-- a leg's words in the history
module _ (s : Setting) (h : History) (l : Leg) (ws : Words s h l) where
  header-comes : (v : Observation) (so_far : StepsSoFar) (rule : Option Denial) (b : Bool) (denial : Denial) → (b ≡ true → l.gref.0 < TABLE_ENTRIES) → cond b None (Some denial) ≡ rule
      → ComesTo s h l ((LookHeader l.dom, v) ∷ so_far) rule (cond b (Going (Look MORE_TRIES)) (leg_outcomes.Refused denial))
  unfolding misses
  header-comes v so_far rule true denial within e = (e, (within refl, refl, refl))
  header-comes v so_far rule false denial within e = e

  look-comes : (more : ℕ) (so_far : StepsSoFar) (rule : Option Denial) (o : Option Rule) → LegStands s h l so_far (Look more) → first_look l (control_of (word_at s h l.dom.0 l.gref.0)) ≡ o → at_entry l.dom l.gref (word_at s h l.dom.0 l.gref.0) o ≡ rule
      → ComesTo s h l ((LookControl l.dom l.gref, Word (word_at s h l.dom.0 l.gref.0)) ∷ so_far) rule (on_control_word l more (word_at s h l.dom.0 l.gref.0) o)
  unfolding looked_at
  look-comes more so_far rule (Some r) a e f = f
  look-comes more so_far rule None a e f = let t = l.dom.0 in let r = l.gref.0 in let w = word_at s h t r in let now : control_of w ≡ control_at s h t r = ws.round a.0 in
      let g : (control_of w).generation ≡ generation_at s h t r = ap (λ (c : Control). c.generation) now ∙ (control-parts (entry_at h t r) (generation_at s h t r) (reads_at h t r) (writes_at h t r)).0 in (
        f,
        record {
          within = a.0;
          turn = ap (λ (n : ℕ). n + more) (misses-look l.dom l.gref w so_far a.2) ∙ a.1;
          looked = refl;
          passed = e;
          reached = omega arith;
          shown = λ same valid. subst (λ (c : Control). IsShown c (entry_at h t r)) (sym now) (own-shown (entry_at h t r) (generation_at s h t r) (reads_at h t r) (writes_at h t r));
        },
      )

  -- at body words

  body-looked : (more word : ℕ) (so_far : StepsSoFar) (body_word : BodyWord) (v : Observation) → LegHasLooked s h l so_far more word → LegHasLooked s h l ((LookBody l.dom l.gref body_word, v) ∷ so_far) more word
  unfolding misses looked_at
  body-looked more word so_far body_word v a = let t = a.turn in record { within = a.within; turn = (omega arith); looked = a.looked; passed = a.passed; reached = a.reached; shown = a.shown }

  words-come : (more word body second : ℕ) (body_word : BodyWord) (v : Observation) (so_far : StepsSoFar) (o : Option Rule) → rule_of_try l word body second ≡ o → LegHasLooked s h l so_far more word
      → WhileSame s h l word (λ (e : Entry). entry_of (control_of word) body second ≡ e) → ComesTo s h l ((LookBody l.dom l.gref body_word, v) ∷ so_far) None (after_words more word body second o)
  words-come more word body second body_word v so_far None e a same = (refl, (body-looked more word so_far body_word v a, record { in_body = refl; judged = e; spelled = same }))
  words-come more word body second body_word v so_far (Some rule) e a same = (refl, (body-looked more word so_far body_word v a, (body, second, record { in_body = refl; judged = e; spelled = same })))

  body-comes : (more word : ℕ) (so_far : StepsSoFar) (b : Bool) → is_kind (control_of word).kind kinds.Sub ≡ b → LegHasLooked s h l so_far more word → let body = body_at h l.dom.0 l.gref.0 body_words.First in
      ComesTo s h l ((LookBody l.dom l.gref body_words.First, Word body) ∷ so_far) None (cond b (Going (Second more word body)) (after_words more word body 0 (rule_of_try l word body 0)))
  body-comes more word so_far true sub a = let body = body_at h l.dom.0 l.gref.0 body_words.First in
      (refl, (body-looked more word so_far body_words.First (Word body) a, λ same valid. spelled-first (entry_at h l.dom.0 l.gref.0) body (body_at h l.dom.0 l.gref.0 body_words.Second) valid ws.spelled, sub))
  body-comes more word so_far false plain a = let body = body_at h l.dom.0 l.gref.0 body_words.First in
      words-come more word body 0 body_words.First (Word body) so_far (rule_of_try l word body 0) refl a
      (λ same valid. read-entry (control_of word) (entry_at h l.dom.0 l.gref.0) body 0 (a.shown same valid) ws.is_entry
      (spelled-plain (control_of word) (entry_at h l.dom.0 l.gref.0) body (body_at h l.dom.0 l.gref.0 body_words.Second) (a.shown same valid) plain ws.spelled))

  relook-comes : (more word w : ℕ) (rule : Rule) (so_far : StepsSoFar) (refusal : Option Denial) (b : Bool) → (w == word) ≡ b → LegHasLooked s h l so_far more word → is_in_body so_far ≡ true
      → at_entry l.dom l.gref w (first (cond b (Some rule) None ∷ stands (nat_le MAX_TRIES (cond b 0 1 + misses so_far)) N18 ∷ [])) ≡ refusal
      → ComesTo s h l ((LookControl l.dom l.gref, Word w) ∷ so_far) refusal (cond b (leg_outcomes.Refused (entry_refusal l.dom l.gref rule word)) (after_miss l more w))
  relook-comes more word w rule so_far refusal true e a inside f = ap (λ (n : ℕ). Some (entry_refusal l.dom l.gref rule n)) (sym (eqb-true w word e)) ∙ f
  relook-comes more word w rule so_far refusal false e a inside f =
      miss-comes s h l more w (misses so_far) ((LookControl l.dom l.gref, Word w) ∷ so_far) refusal a.within a.turn (misses-relook l.dom l.gref w word false so_far inside a.looked e) refl
      (ap (at_entry l.dom l.gref w) (alone (stands (nat_le MAX_TRIES (1 + misses so_far)) N18)) ∙ f)

  -- the leg of an open call
  module _ (d : DomId) (r : OpenRequest) (pair : DomId → DomId × DomId) (is : IsLegOf s h d r l pair) (plain : is_demote r ≡ false) where
    -- the rule at a look of the leg, by whether it is a second one
    looked-rule : (so_far : StepsSoFar) (inside : Bool) → is_in_body so_far ≡ inside → rule_at_look s h (leg_at s h d r) l.dom l.gref so_far
        ≡ cond inside (cond (is_other (word_at s h l.dom.0 l.gref.0) (looked_at so_far)) None (rule_before_pin s h l l.dom l.gref)) (first_look l (control_at s h l.dom.0 l.gref.0))
    looked-rule so_far inside e = ap (λ (o : Option LegNow). rule_at_look s h o l.dom l.gref so_far) is
        ∙ ap (λ (b : Bool). cond b (cond (is_other (word_at s h l.dom.0 l.gref.0) (looked_at so_far)) None (rule_before_pin s h l l.dom l.gref)) (first_look l (control_at s h l.dom.0 l.gref.0))) e

    second-look : (more word body second : ℕ) (rule : Rule) (so_far : StepsSoFar) (b : Bool) → LegHasLooked s h l so_far more word → LegHasRead s h l so_far word body second (Some rule) → (word_at s h l.dom.0 l.gref.0 == word) ≡ b
        → at_entry l.dom l.gref (word_at s h l.dom.0 l.gref.0) (first (cond b (Some rule) None ∷ stands (nat_le MAX_TRIES (cond b 0 1 + misses so_far)) N18 ∷ [])) ≡ first_at s h d r so_far (LookControl l.dom l.gref)
    second-look more word body second rule so_far b looked read e = let w = word_at s h l.dom.0 l.gref.0 in
        let late : nat_le MAX_TRIES (misses ((LookControl l.dom l.gref, Word w) ∷ so_far)) ≡ nat_le MAX_TRIES (cond b 0 1 + misses so_far) =
        ap (nat_le MAX_TRIES) (misses-relook l.dom l.gref w word b so_far read.in_body looked.looked e) in
        let found : rule_at_look s h (leg_at s h d r) l.dom l.gref so_far ≡ cond b (Some rule) None =
        looked-rule so_far true read.in_body ∙ ap (λ (o : Option ℕ). cond (is_other w o) None (rule_before_pin s h l l.dom l.gref)) looked.looked
        ∙ ap (λ (x : Bool). cond (not x) None (rule_before_pin s h l l.dom l.gref)) e ∙ judged b e in
        sym (control-rules l.dom l.gref w (is_demote r) (nat_lt 0 (writes_at h l.dom.0 l.gref.0)) _ (nat_le MAX_TRIES (cond b 0 1 + misses so_far)) _ (cond b (Some rule) None) plain found late)
      where
        judged : (c : Bool) → (word_at s h l.dom.0 l.gref.0 == word) ≡ c → cond (not c) None (rule_before_pin s h l l.dom l.gref) ≡ cond c (Some rule) None
        judged true f = still-judged s h l word body second (as-tried s h l so_far more word body second (Some rule) looked read ws (eqb-true (word_at s h l.dom.0 l.gref.0) word f)) ∙ read.judged
        judged false f = refl

    -- at each look of a leg the refusal that its words lead to is the first rule that applies, and the leg is in its
    -- next phase
    pub looks-come : (so_far : StepsSoFar) (phase : LegPhase) → LegStands s h l so_far phase → IsLooking phase → let v = seen_by s h d (leg_step l phase) in
        ComesTo s h l ((leg_step l phase, v) ∷ so_far) (first_at s h d r so_far (leg_step l phase)) (leg_after l phase v)
    looks-come so_far leg_phases.Header a none = let w = header_word (table_at s h l.dom) in
        header-comes (Word w) so_far _ (nat_lt l.gref.0 (size_of (header_of w))) (denial_of N9 (facts.Header l.dom w))
        (λ inside. let lt : l.gref.0 < size_of (header_of w) = ltb-true l.gref.0 (size_of (header_of w)) inside in
        let same : size_of (header_of w) ≡ size_of (table_at s h l.dom) = ap size_of ws.header in let le : size_of (table_at s h l.dom) ≤ TABLE_ENTRIES = ws.size in omega arith)
        (ap (λ (t : Header). cond (nat_lt l.gref.0 (size_of t)) None (Some (denial_of N9 (facts.Header l.dom w)))) ws.header ∙ ap (rule_at_header s h l.dom) (sym is))
    looks-come so_far (Look more) a none = let w = word_at s h l.dom.0 l.gref.0 in
        let late : nat_le MAX_TRIES (misses ((LookControl l.dom l.gref, Word w) ∷ so_far)) ≡ false = ap (nat_le MAX_TRIES) (misses-look l.dom l.gref w so_far a.2) ∙ few (misses so_far) more a.1 in
        look-comes more so_far _ (first_look l (control_of w)) a refl (ap (λ (c : Control). at_entry l.dom l.gref w (first_look l c)) (ws.round a.0)
        ∙ ap (at_entry l.dom l.gref w) (sym (first-alone (first_look l (control_at s h l.dom.0 l.gref.0))))
        ∙ sym (control-rules l.dom l.gref w (is_demote r) (nat_lt 0 (writes_at h l.dom.0 l.gref.0)) _ false _ (first_look l (control_at s h l.dom.0 l.gref.0)) plain (looked-rule so_far false a.2) late))
    looks-come so_far (Body more word) a none = body-comes more word so_far (is_kind (control_of word).kind kinds.Sub) refl a
    looks-come so_far (Second more word body) a none = let second = body_at h l.dom.0 l.gref.0 body_words.Second in
        words-come more word body second body_words.Second (Word second) so_far (rule_of_try l word body second) refl a.0
        (λ same valid. read-entry (control_of word) (entry_at h l.dom.0 l.gref.0) body second (a.0.shown same valid) ws.is_entry
        (spelled-sub (control_of word) (entry_at h l.dom.0 l.gref.0) (body_at h l.dom.0 l.gref.0 body_words.First) body second (a.0.shown same valid) a.2 (a.1 same valid) ws.spelled))
    looks-come so_far (Relook more word rule) a none = let w = word_at s h l.dom.0 l.gref.0 in
        relook-comes more word w rule so_far _ (w == word) refl a.0 a.1.2.in_body (second-look more word a.1.0 a.1.1 rule so_far (w == word) a.0 a.1.2 refl)
    looks-come so_far (Pinning more word body second) a none = absurd none

-- an owner's look

-- what a look shows of the write pins
pub writes-shown : (s : Setting) (h : History) (t r : ℕ) → control_of (word_at s h t r) ≡ control_at s h t r → (control_of (word_at s h t r)).writes ≡ writes_at h t r
writes-shown s h t r round =
    ap (λ (c : Control). c.writes) round ∙ (control-parts (entry_at h t r) (generation_at s h t r) (reads_at h t r) (writes_at h t r)).2

look-refusal : (d : DomId) (gref : GrantRef) (change : EntryChange) (more w : ℕ) (b late : Bool) → late ≡ false
    → at_entry d gref w (first (stands b N19 ∷ None ∷ stands late N18 ∷ [])) ≡ phase_refusal (cond b (refused_as d gref N19 w) (Changing gref change more w))
look-refusal d gref change more w false true e = absurd (true≢false e)
look-refusal d gref change more w b late e = refl

pub look-judged : (s : Setting) (h : History) (d : DomId) (r : OpenRequest) (so_far : StepsSoFar) (gref : GrantRef) (change : EntryChange) (more : ℕ) → control_of (word_at s h d.0 gref.0) ≡ control_at s h d.0 gref.0
    → IsTurn r gref change → PhaseStands s h d r so_far (Looking gref change more) → Judged s h d r so_far (Looking gref change more) (LookControl d gref)
look-judged s h d r so_far gref changes.Demote more round is place = let w = word_at s h d.0 gref.0 in
    subst (λ (z : OpenRequest). Judged s h d z so_far (Looking gref changes.Demote more) (LookControl d gref)) (sym is)
    (look-refusal d gref changes.Demote more w (nat_lt 0 (writes_at h d.0 gref.0)) _ (ap (nat_le MAX_TRIES) (misses-look d gref w so_far place.1) ∙ few (misses so_far) more place.0)
    ∙ ap (λ (n : ℕ). phase_refusal (cond (nat_lt 0 n) (refused_as d gref N19 w) (Changing gref changes.Demote more w))) (sym (writes-shown s h d.0 gref.0 round)))
look-judged s h d r so_far gref changes.Promote more round is place = let w = word_at s h d.0 gref.0 in
    subst (λ (z : OpenRequest). Judged s h d z so_far (Looking gref changes.Promote more) (LookControl d gref)) (sym is)
    (look-refusal d gref changes.Promote more w false _ (ap (nat_le MAX_TRIES) (misses-look d gref w so_far place.1) ∙ few (misses so_far) more place.0))
look-judged s h d r so_far gref changes.Withdraw more round is place = let w = word_at s h d.0 gref.0 in
    subst (λ (z : OpenRequest). Judged s h d z so_far (Looking gref changes.Withdraw more) (LookControl d gref)) (sym is)
    (look-refusal d gref changes.Withdraw more w false _ (ap (nat_le MAX_TRIES) (misses-look d gref w so_far place.1) ∙ few (misses so_far) more place.0))
look-judged s h d r so_far gref change more round is place = absurd is

pub look-placed : (s : Setting) (h : History) (d : DomId) (r : OpenRequest) (gref : GrantRef) (change : EntryChange) (more w : ℕ) (so_far : StepsSoFar) (b : Bool) → (misses so_far + more ≡ MORE_TRIES) × (is_in_body so_far ≡ false)
    → PhaseStands s h d r ((LookControl d gref, Word w) ∷ so_far) (cond b (refused_as d gref N19 w) (Changing gref change more w))
unfolding looked_at
look-placed s h d r gref change more w so_far true a = inl refl
look-placed s h d r gref change more w so_far false a = (ap (λ (n : ℕ). n + more) (misses-look d gref w so_far a.1) ∙ a.0, refl)

-- a query

pub asks-run : (s : Setting) (h : History) (d : DomId) (r : OpenRequest) (dom : DomId) (question : HeaderQuery) → begun (known_at s h d) d r ≡ None → AsksTable d r dom question → domain_of s.domains dom ≢ None
asks-run s h d r dom queries.Size none a = rw a.2 (of-run _ (opens (known_at s h d) d (QuerySize a.0) (none-of (known_at s h d) d r (QuerySize a.0) a.1 none)).of_run)
asks-run s h d r dom queries.Version none a = rw a.2 (of-run _ (opens (known_at s h d) d (GetVersion a.0) (none-of (known_at s h d) d r (GetVersion a.0) a.1 none)).of_run)

pub asked-judged : (s : Setting) (h : History) (d : DomId) (r : OpenRequest) (so_far : StepsSoFar) (dom : DomId) (question : HeaderQuery) → AsksTable d r dom question → Judged s h d r so_far (Asking dom question) (LookHeader dom)
asked-judged s h d r so_far dom queries.Size a = subst (λ (z : OpenRequest). Judged s h d z so_far (Asking dom queries.Size) (LookHeader dom)) (sym a.1) refl
asked-judged s h d r so_far dom queries.Version a = subst (λ (z : OpenRequest). Judged s h d z so_far (Asking dom queries.Version) (LookHeader dom)) (sym a.1) refl

-- each look is at words that exist

pub leg-within : (s : Setting) (h : History) (xs : List State) (d : DomId) (l : Leg) (so_far : StepsSoFar) (p : LegPhase) → state_of xs l.dom.0 ≢ None → LegStands s h l so_far p → IsWithin xs d (leg_step l p)
leg-within s h xs d l so_far leg_phases.Header some a = some
leg-within s h xs d l so_far (Look more) some a = (some, a.0)
leg-within s h xs d l so_far (Body more word) some a = (some, a.within)
leg-within s h xs d l so_far p some a = (some, a.0.within)
