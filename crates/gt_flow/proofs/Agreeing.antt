-- Two histories that leave the same for some domains: what these know, see and may do is the same after both.
use Rattle.gt_core.proofs.Words.{◌≡◌, inl, inr, ◌+◌, ℕ, refl, Bool, List, [], ◌∷◌}
use Rattle.gt_core.proofs.Words.{Option, Some, None, cond, ap, sym, ◌∙◌, subst, ◌&&◌}
use Rattle.gt_core.proofs.Words.{map, reverse, Any}
use Rattle.gt_core.proofs.Words.{DomId, Dir, Entry, Header, EntryChange, BodyWord, Denial, begun_of}
use Rattle.gt_core.proofs.Words.{CallerKnowledge, OpenRequest, Load, Store, Copy}
use Rattle.gt_core.proofs.Words.{Word, Taken, Step, LookHeader, LookControl, LookBody}
use Rattle.gt_core.proofs.Words.{Exchange, Unpin, Read, Write, Control, HeldPin, Observation, StepsSoFar}
use Rattle.gt_core.proofs.Words.{History, Setting, Underway, Pin, entry_at, raises_at}
use Rattle.gt_core.proofs.Words.{body_at, table_at}
use Rattle.gt_core.proofs.Words.{header_word, live}
use Rattle.gt_core.proofs.Words.{known_at, seen_by, word_at}
use Rattle.gt_core.proofs.Words.{reads_at, writes_at, control_at, mappings_at, mapping_of, legs_at, exchange_sees}
use Rattle.gt_core.proofs.Words.{first_at, first_in_call, leg_at}
use Rattle.gt_core.proofs.Words.{LegNow, leg_now, refusal_in}
use Rattle.gt_core.proofs.Words.{Spot}
use Rattle.gt_core.proofs.Words.{Justified, MayAsk, MayUseMapping, EndIsJustified, CopyIsJustified, Reaches, Forwards}
use Rattle.gt_core.proofs.Words.{IsSafe, IsSafeChange, PinIsSound, NoneStands, IsSpelled}
use Rattle.gt_core.proofs.Words.{Handle}
use Rattle.gt_core.specs.Prelude.{GrantRef, Rule, N9, N18, N19, denial_of, size_of, stands, first, first_look}
use Rattle.gt_core.specs.Prelude.{before_pin, pins_of, MAX_TRIES, StoreBody, Publish, resolved, is_source_granted}
use Rattle.gt_core.specs.Prelude.{is_dest_granted}
use Rattle.gt_model.specs.FirstRule.{at_entry, is_demote, is_in_body, is_other, looked_at, misses, rule_at_exchange}
use Rattle.gt_model.specs.FirstRule.{rule_at_header, rule_at_look, rule_at_pin, rule_at_via}
use Rattle.gt_model.specs.Justified.{MayAccess, ReachesThrough}
use Rattle.gt_model.specs.declared.action.Step.TheVariants as call_steps
use Rattle.gt_model.specs.declared.change.BodyWord.TheVariants as body_words
use Rattle.gt_model.specs.declared.change.EntryChange.TheVariants as changes
use Rattle.gt_model.specs.declared.request.PinHolder.TheVariants as holders
use Rattle.gt_model.specs.declared.trace.Answer.{Answer}
use Rattle.gt_model.specs.declared.trace.ItemEvent.{ItemEvent}
use Rattle.gt_model.specs.declared.trace.ItemEvent.TheVariants.{Began, Stepped}
use Rattle.gt_types.specs.declared.Use.TheVariants as uses
use Rattle.gt_types.specs.declared.denial.Facts.TheVariants as facts
use Rattle.std.specs.Prelude.{nat_le, nat_lt}
use Rattle.gt_core.proofs.Words.{gather, by_leg, mapping_named, is_pin_on, count_by}
use Rattle.gt_core.proofs.Words.{maps_answered_at}
use Rattle.gt_model.proofs.Observers.{known-as}

pub four : {A B C D E : Type 0} (f : A → B → C → D → E) {a i : A} {b j : B} {c k : C} {d l : D}
    → a ≡ i → b ≡ j → c ≡ k → d ≡ l → f a b c d ≡ f i j k l
four {A = A} {B = B} {C = C} {D = D} f {a = a} {i = i} {b = b} {j = j} {c = c} {k = k} {d = d} {l = l} p q r t =
    ap (λ (x : A). f x b c d) p ∙ ap (λ (x : B). f i x c d) q ∙ ap (λ (x : C). f i j x d) r
    ∙ ap (λ (x : D). f i j k x) t

-- the step looks at tables of such domains only, and takes pins only there
abbrev pub LooksAmong : (DomId → Type 0) → Step → Type 0
LooksAmong L (LookHeader dom) = L dom
LooksAmong L (LookControl dom gref) = L dom
LooksAmong L (LookBody dom gref body_word) = L dom
LooksAmong L (call_steps.Pin p) = L p.dom
LooksAmong L step = Unit {0}

abbrev pub HappensAmong : (DomId → Type 0) → ItemEvent → Type 0
HappensAmong L (Began request) = Unit {0}
HappensAmong L (Stepped step seen) = LooksAmong L step

-- what such domains have is the same after both histories, and what holds for a pin of one after the second holds for
-- one after the first
pub record Agree (s : Setting) (L : DomId → Type 0) (p g : History) : Type 1 where
  pub entry : (t : DomId) (r : ℕ) → L t → entry_at p t.0 r ≡ entry_at g t.0 r
  pub raises : (t : DomId) (r : ℕ) → L t → raises_at p t.0 r ≡ raises_at g t.0 r
  pub body : (t : DomId) (r : ℕ) (which : BodyWord) → L t → body_at p t.0 r which ≡ body_at g t.0 r which
  pub table : (t : DomId) → L t → table_at s p t ≡ table_at s g t
  pub reads : (t : DomId) (r : ℕ) → L t → reads_at p t.0 r ≡ reads_at g t.0 r
  pub writes : (t : DomId) (r : ℕ) → L t → writes_at p t.0 r ≡ writes_at g t.0 r
  pub known : (d : DomId) → L d → known_at s p d ≡ known_at s g d
  pub mappings : (d : DomId) → L d → mappings_at p d.0 ≡ mappings_at g d.0
  pub legs : (d : DomId) → L d → legs_at p d.0 ≡ legs_at g d.0
  pub any : (P : Pin → Type 0) (d : DomId) → L d → ((q : Pin) → P q → q.actor ≡ d.0) → Any P (live g) → Any P (live p)

-- each domain
abbrev pub Every : DomId → Type 0
Every d = Unit {0}

pub every : (z : Step) → LooksAmong Every z
every (LookHeader dom) = tt
every (LookControl dom gref) = tt
every (LookBody dom gref body_word) = tt
every (call_steps.Pin p) = tt
every z = tt

-- histories that leave the same entries, words, tables and pins agree for all
pub agree-all : (s : Setting) (p g : History) → ((t r : ℕ) → entry_at p t r ≡ entry_at g t r)
    → ((t r : ℕ) → raises_at p t r ≡ raises_at g t r)
    → ((t r : ℕ) (which : BodyWord) → body_at p t r which ≡ body_at g t r which)
    → ((t : DomId) → table_at s p t ≡ table_at s g t) → ((d : ℕ) → maps_answered_at p d ≡ maps_answered_at g d)
    → live p ≡ live g → Agree s Every p g
agree-all s p g entries raises bodies tables maps pins = record {
  entry = λ t r is. entries t.0 r;
  raises = λ t r is. raises t.0 r;
  body = λ t r which is. bodies t.0 r which;
  table = λ t is. tables t;
  reads = λ t r is. ap (λ (ps : List Pin). count_by (is_pin_on t.0 r Read) ps) pins;
  writes = λ t r is. ap (λ (ps : List Pin). count_by (is_pin_on t.0 r Write) ps) pins;
  known = λ d is. known-as s g p d (entries d.0) (raises d.0) (tables d)
      (ap (λ (ps : List Pin). gather mapping_named d.0 ps) pins) (maps d.0);
  mappings = λ d is. ap (λ (ps : List Pin). gather mapping_named d.0 ps) pins;
  legs = λ d is. ap (λ (ps : List Pin). gather by_leg d.0 ps) pins;
  any = λ P d is owns any. subst (Any P) (sym pins) any;
}

module _ (s : Setting) (L : DomId → Type 0) (p g : History) (m : Agree s L p g) where
  -- ---- what such domains see

  pub control-same : (t : DomId) (r : ℕ) → L t → control_at s p t.0 r ≡ control_at s g t.0 r
  control-same t r among =
      let e = m.entry t r among in let k = m.raises t r among in
      let n = m.reads t r among in let w = m.writes t r among in cc

  pub word-same : (t : DomId) (r : ℕ) → L t → word_at s p t.0 r ≡ word_at s g t.0 r
  word-same t r among =
      let e = m.entry t r among in let k = m.raises t r among in
      let n = m.reads t r among in let w = m.writes t r among in cc

  pub sees-same : (d : DomId) (step : Step) → L d → LooksAmong L step → seen_by s p d step ≡ seen_by s g d step
  sees-same d (LookHeader dom) among at = ap (λ (x : Header). Word (header_word x)) (m.table dom at)
  sees-same d (LookControl dom gref) among at = ap (λ (w : ℕ). Word w) (word-same dom gref.0 at)
  sees-same d (LookBody dom gref body_word) among at = ap (λ (w : ℕ). Word w) (m.body dom gref.0 body_word at)
  sees-same d (call_steps.Pin q) among at = ap (λ (w : ℕ). exchange_sees w q.word) (word-same q.dom q.gref.0 at)
  sees-same d (Exchange gref looked change) among at = ap (λ (w : ℕ). exchange_sees w looked) (word-same d gref.0 among)
  sees-same d step among at = refl

  -- ---- the first rule

  pub leg-same : (d : DomId) (r : OpenRequest) → L d → leg_at s p d r ≡ leg_at s g d r
  leg-same d r among =
      ap (λ (k : CallerKnowledge). leg_now k d r (map (λ (q : ℕ × HeldPin). q.1) (legs_at p d.0))) (m.known d among)
      ∙ ap (λ (l : List (ℕ × HeldPin)). leg_now (known_at s g d) d r (map (λ (q : ℕ × HeldPin). q.1) l))
      (m.legs d among)

  look-same : (leg : Option LegNow) (dom : DomId) (gref : GrantRef) (so_far : StepsSoFar) → L dom
      → rule_at_look s p leg dom gref so_far ≡ rule_at_look s g leg dom gref so_far
  look-same None dom gref so_far at = refl
  look-same (Some n) dom gref so_far at =
      four (λ (w : ℕ) (e : Entry) (k j : Control).
      cond (is_in_body so_far) (cond (is_other w (looked_at so_far)) None (before_pin n.leg e (pins_of n.leg.dir k)))
      (first_look n.leg j)) (word-same dom gref.0 at) (m.entry dom gref.0 at) (control-same dom gref.0 at)
      (control-same dom gref.0 at)

  header-same : (dom : DomId) (leg : Option LegNow) → L dom
      → rule_at_header s p dom leg ≡ rule_at_header s g dom leg
  header-same dom None at = refl
  header-same dom (Some n) at =
      ap (λ (t : Header). cond {A = Option Denial} (nat_lt n.leg.gref.0 (size_of t)) None
      (Some (denial_of N9 (facts.Header dom (header_word t))))) (m.table dom at)

  pin-same : (d : DomId) (r : OpenRequest) (so_far : StepsSoFar) (q : HeldPin) (seen : Observation) → L d → L q.dom
      → rule_at_pin s p d r so_far q seen ≡ rule_at_pin s g d r so_far q seen
  pin-same d r so_far q Taken among at =
      four (λ (k : CallerKnowledge) (l : Option LegNow) (e x : Entry). rule_at_via k l e) (m.known d among)
      (leg-same d r among) (m.entry q.dom q.gref.0 at) (m.entry q.dom q.gref.0 at)
  pin-same d r so_far q seen among at =
      ap (λ (w : ℕ). at_entry q.dom q.gref w
      (stands (nat_le MAX_TRIES (misses ((call_steps.Pin q, seen) ∷ so_far))) N18)) (word-same q.dom q.gref.0 at)

  pub first-same : (d : DomId) (r : OpenRequest) (so_far : StepsSoFar) (step : Step) → L d → LooksAmong L step
      → first_at s p d r so_far step ≡ first_at s g d r so_far step
  first-same d r so_far (LookHeader dom) among at =
      ap (λ (l : Option LegNow). rule_at_header s p dom l) (leg-same d r among) ∙ header-same dom (leg_at s g d r) at
  first-same d r so_far (LookControl dom gref) among at =
      four (λ (w n : ℕ) (rule : Option Rule) (v : Observation). at_entry dom gref w (first (
      stands (is_demote r && nat_lt 0 n) N19
      ∷ rule
      ∷ stands (nat_le MAX_TRIES (misses ((LookControl dom gref, v) ∷ so_far))) N18 ∷ [])))
      (word-same dom gref.0 at) (m.writes dom gref.0 at)
      (ap (λ (l : Option LegNow). rule_at_look s p l dom gref so_far) (leg-same d r among)
      ∙ look-same (leg_at s g d r) dom gref so_far at)
      (sees-same d (LookControl dom gref) among at)
  first-same d r so_far (call_steps.Pin q) among at =
      ap (λ (v : Observation). rule_at_pin s p d r so_far q v) (sees-same d (call_steps.Pin q) among at)
      ∙ pin-same d r so_far q (seen_by s g d (call_steps.Pin q)) among at
  first-same d r so_far (Exchange gref looked change) among at =
      four (λ (w n k : ℕ) (v : Observation). at_entry d gref w
      (rule_at_exchange change (n + k) (misses ((Exchange gref looked change, v) ∷ so_far))))
      (word-same d gref.0 among) (m.reads d gref.0 among) (m.writes d gref.0 among)
      (sees-same d (Exchange gref looked change) among at)
  first-same d r so_far step among at = refl

  pub first-in : (d : DomId) (x : ItemEvent) (c : Option Underway) → L d → HappensAmong L x
      → first_in_call s p d x c ≡ first_in_call s g d x c
  first-in d (Began q) c among at =
      ap (λ (k : CallerKnowledge). refusal_in (begun_of k d q)) (m.known d among)
  first-in d (Stepped z v) None among at = refl
  first-in d (Stepped z v) (Some c) among at = first-same d c.request (reverse c.steps) z among at

  -- ---- what a step of such a domain needs

  any-more : (P Q : Pin → Type 0) (ps : List Pin) → ((q : Pin) → P q → Q q) → Any P ps → Any Q ps
  any-more P Q ps more any = (any.0, any.1, any.2, any.3, more any.1 any.4)

  may-access : (d : DomId) (dir : Dir) (at : Spot) (len : ℕ) → L d → MayAccess g d dir at len
      → MayAccess p d dir at len
  may-access d dir at len among (inl own) = inl own
  may-access d dir at len among (inr any) =
      inr (m.any (Reaches d d dir uses.Map at len) d among (λ q reach. reach.of_actor) any)

  through : (d : DomId) (dir : Dir) (at : Spot) (len : ℕ) (named : DomId) → L d
      → ReachesThrough g d dir at len named → ReachesThrough p d dir at len named
  through d dir at len named among any =
      m.any (λ q. Any (λ via. Forwards d dir named q via × Reaches d named dir uses.Copy at len q) (live p)) d among
      (λ q here. here.4.1.of_actor)
      (any-more (λ q. Any (λ via. Forwards d dir named q via × Reaches d named dir uses.Copy at len q) (live g))
      (λ q. Any (λ via. Forwards d dir named q via × Reaches d named dir uses.Copy at len q) (live p)) (live g)
      (λ q here. m.any (λ via. Forwards d dir named q via × Reaches d named dir uses.Copy at len q) d among
      (λ via both. both.0.of_actor) here) any)

  may-ask : (d : DomId) (r : OpenRequest) → L d → MayAsk s g d r → MayAsk s p d r
  may-ask d (Load handle off len) among x =
      subst (λ (l : List (Handle × HeldPin)). MayUseMapping s d (mapping_of l handle)) (sym (m.mappings d among)) x
  may-ask d (Store handle off len) among x =
      subst (λ (l : List (Handle × HeldPin)). MayUseMapping s d (mapping_of l handle)) (sym (m.mappings d among)) x
  may-ask d r among x = x

  end-same : (d : DomId) (granted : Bool) (dir : Dir) (at : Spot) (len : ℕ) (named : DomId) (owners : DomId × DomId)
      → L d → EndIsJustified s g d granted dir at len named owners
      → EndIsJustified s p d granted dir at len named owners
  end-same d granted dir at len named owners among (inl e) = inl e
  end-same d granted dir at len named owners among (inr (inl e)) =
      inr (inl (e.0, e.1, m.any (Reaches d d dir uses.Copy at len) d among (λ q reach. reach.of_actor) e.2))
  end-same d granted dir at len named owners among (inr (inr e)) =
      inr (inr (e.0, through d dir at len named among e.1, e.2))

  copy-same : (d : DomId) (r : OpenRequest) (from to : Spot) (len : ℕ) → L d → CopyIsJustified s g d r from to len
      → CopyIsJustified s p d r from to len
  copy-same d (Copy c) from to len among x = (
    x.0,
    x.1,
    x.2,
    end-same d (is_source_granted c) Read from len (resolved d c.source.domid)
        (from.frame.owner, resolved d c.dest.domid) among x.3,
    end-same d (is_dest_granted c) Write to len (resolved d c.dest.domid) (from.frame.owner, to.frame.owner) among x.4,
  )
  copy-same d r from to len among x = absurd x

  pub justified-same : (d : DomId) (r : OpenRequest) (step : Step) → L d → Justified s g d r step
      → Justified s p d r step
  justified-same d r (call_steps.Read dom frame off len) among x = (
    x.0,
    may-access d Read (record { frame = record { owner = dom; number = frame }; off = off }) len among x.1,
    may-ask d r among x.2,
  )
  justified-same d r (call_steps.Write dom frame off len) among x = (
    x.0,
    may-access d Write (record { frame = record { owner = dom; number = frame }; off = off }) len among x.1,
    may-ask d r among x.2,
  )
  justified-same d r (call_steps.Copy from to len) among x = copy-same d r from to len among x
  justified-same d r (Unpin q (holders.Mapping handle)) among x = x
  justified-same d r step among x = tt

  change-same : (t : DomId) (r : ℕ) (change : EntryChange) → L t → IsSafeChange g t.0 r change
      → IsSafeChange p t.0 r change
  change-same t r (Publish entry) among x = (
    m.entry t r among ∙ x.0,
    subst (λ (w : ℕ). IsSpelled entry w (body_at p t.0 r body_words.Second)) (sym (m.body t r body_words.First among))
        (subst (λ (w : ℕ). IsSpelled entry (body_at g t.0 r body_words.First) w)
        (sym (m.body t r body_words.Second among)) x.1),
    m.reads t r among ∙ x.2,
    m.writes t r among ∙ x.3,
  )
  change-same t r changes.Withdraw among x = tt
  change-same t r changes.Revoke among x = (m.reads t r among ∙ x.0, m.writes t r among ∙ x.1)
  change-same t r changes.Demote among x = m.writes t r among ∙ x
  change-same t r changes.Promote among x = tt

  pub safe-same : (d : DomId) (z : Step) (v : Observation) (a c : Option Answer) → L d
      → IsSafe s g (record { actor = d; happened = Stepped z v; answer = a })
      → IsSafe s p (record { actor = d; happened = Stepped z v; answer = c })
  safe-same d (Exchange gref looked change) Taken a c among x = change-same d gref.0 change among x
  safe-same d (StoreBody gref body_word word) v a c among x = m.entry d gref.0 among ∙ x
  safe-same d z v a c among x = tt

  none-same : (q : HeldPin) (leg : Option LegNow) → L q.dom → NoneStands s g q.dom q.gref leg
      → NoneStands s p q.dom q.gref leg
  none-same q None at x = absurd x
  none-same q (Some n) at x = (
    ap (λ (k : Control). first_look n.leg k) (control-same q.dom q.gref.0 at) ∙ x.0,
    ap (λ (e : Entry). before_pin n.leg e (pins_of n.leg.dir (control_at s p q.dom.0 q.gref.0)))
        (m.entry q.dom q.gref.0 at)
        ∙ ap (λ (k : Control). before_pin n.leg (entry_at g q.dom.0 q.gref.0) (pins_of n.leg.dir k))
        (control-same q.dom q.gref.0 at)
        ∙ x.1,
  )

  pub sound-same : (d : DomId) (r : OpenRequest) (z : Step) (v : Observation) → L d → LooksAmong L z
      → PinIsSound s g d r z v → PinIsSound s p d r z v
  sound-same d r (call_steps.Pin q) Taken among at x =
      subst (λ (l : Option LegNow). NoneStands s p q.dom q.gref l) (sym (leg-same d r among))
      (none-same q (leg_at s g d r) at x)
  sound-same d r z v among at x = tt
