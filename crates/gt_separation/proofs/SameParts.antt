-- Two runs whose low domains have the same events: these did the same, whatever high domains did.
use Rattle.gt_core.proofs.Words.{◌≡◌, ◌≢◌, inr, ℕ, refl, Bool, true, false, List, [], ◌∷◌, Option, Some, None}
use Rattle.gt_core.proofs.Words.{cond, map, ap, sym, ◌∙◌, subst, option_map, DomId, domain_of, Observation}
use Rattle.gt_core.proofs.Words.{CallerKnowledge, Step, Unpin, path, History, Setting, Underway, values, entry_at}
use Rattle.gt_core.proofs.Words.{open_call, known_at, seen_by, body_at, table_at, word_at, contents_at}
use Rattle.gt_core.proofs.Words.{keyless_items, MayDo, IsRight, StepsRightIn}
use Rattle.gt_core.proofs.Words.{LegalAfter, grown, history_after, AreAlike, IsRun, keyless_item, KeylessItem}
use Rattle.gt_core.proofs.Words.{bare_event, bare_happened, bare_step, SameElement}
use Rattle.gt_core.proofs.AlikeRuns.{alike-grows, bare_action, does, does-alike, does-bare, doing, element_told}
use Rattle.gt_core.proofs.Pins.{word-bare}
use Rattle.gt_core.proofs.WithoutKeys.{bare-same, bared, contents-bare}
use Rattle.gt_model.specs.Legal.{Legal, actor_of}
use Rattle.gt_model.specs.declared.action.Action.TheVariants as actions
use Rattle.gt_model.specs.declared.request.PinHolder.TheVariants as holders
use Rattle.gt_model.specs.declared.trace.Answer.{Answer}
use Rattle.gt_model.specs.declared.trace.Element.{Element}
use Rattle.gt_model.specs.declared.trace.Element.TheVariants.{Busy, Idle, NoDomain}
use Rattle.gt_model.specs.declared.trace.Element.TheVariants as elements
use Rattle.gt_model.specs.declared.trace.Event.{Event}
use Rattle.gt_model.specs.declared.trace.Event.TheVariants.{Begin, Tick}
use Rattle.gt_model.specs.declared.trace.Item.{Item}
use Rattle.gt_model.specs.declared.trace.ItemEvent.{ItemEvent}
use Rattle.gt_model.specs.declared.trace.ItemEvent.TheVariants.{Began, Stepped}
use Rattle.gt_separation.specs.Apart.{CopiesApart, LowDomainsKeep, NamesLow, SharesNothing, StaysApart}
use Rattle.gt_flow.specs.Low.{NamesKnown}
use Rattle.gt_flow.specs.Purged.{SameElements, SameEvents}
use Rattle.gt_separation.specs.Separate.{CopiesStayApart, HappensAtLow, IsAtLow, LooksApart, low_elements, low_events}
use Rattle.gt_separation.proofs.Apart.{now-apart}
use Rattle.gt_separation.proofs.Separate.{AtLow, IsLowPart, high-event, keeps, known-low, looks-before, looks-now, low-event}
use Rattle.gt_flow.proofs.Agreeing.{word-same}
use Rattle.gt_separation.proofs.Separate.{agrees, contents-low, nothing-yet, stays-before}
use Rattle.gt_flow.proofs.Steps.{step_told, stepped_told, tick_told, within-some}

cons_parts : {A : Type 0} (x y : A) (xs ys : List A) → x ∷ xs ≡ y ∷ ys → (x ≡ y) × (xs ≡ ys)
cons_parts x y xs ys e = (cc, cc)

module _ (s : Setting) (high : DomId → Bool) where
  abbrev Lo : DomId → Type 0
  Lo d = high d ≡ false

  -- ---- a run of low domains that looks at their tables only

  -- up to now no entry of a low domain named a high one, and each item looked at tables of low domains only
  unfoldable IsClean : History → Type 0
  IsClean [] = SharesNothing high []
  IsClean (i ∷ before) = SharesNothing high (i ∷ before) × HappensAtLow high i.happened × IsClean before

  clean-before : (h : History) (xs : List Element) → IsClean (history_after h xs) → IsClean h
  unfolding IsClean
  clean-before h [] clean = clean
  clean-before h (elements.Item i ∷ xs) clean = (clean-before (i ∷ h) xs clean).2
  clean-before h (x ∷ xs) clean = clean-before h xs clean

  clean-now : (h : History) → IsClean h → SharesNothing high h
  unfolding IsClean
  clean-now [] clean = clean
  clean-now (i ∷ h) clean = clean.0

  clean-looks : (h : History) (x : Element) → IsClean (grown h x) → AtLow s high x
  unfolding IsClean
  clean-looks h (elements.Item i) clean = clean.1
  clean-looks h x clean = tt

  pub shares-part : (p g : History) → ((t : DomId) (r : ℕ) → Lo t → entry_at p t.0 r ≡ entry_at g t.0 r)
      → SharesNothing high g → SharesNothing high p
  shares-part p g same shares t r low = subst (NamesLow high) (sym (same t r low)) (shares t r low)

  clean-grows : (p : History) (x : Element) → IsClean p → SharesNothing high (grown p x) → AtLow s high x
      → IsClean (grown p x)
  unfolding IsClean
  clean-grows p (elements.Item i) clean shares at = (shares, at, clean)
  clean-grows p x clean shares at = clean

  -- the low part of a run is one
  part-clean : (p g : History) (es : List Event) (xs : List Element) → IsLowPart s high p g → IsClean p
      → LegalAfter s g es xs → StaysApart high (history_after g xs) → LooksApart high (history_after g xs)
      → LegalAfter s p (low_events high es) (low_elements high es xs)
      × IsClean (history_after p (low_elements high es xs))
      × IsLowPart s high (history_after p (low_elements high es xs)) (history_after g xs)
  part-clean p g [] [] m clean legal stays looks = (tt, clean, m)
  part-clean p g [] (x ∷ xs) m clean legal stays looks = absurd legal
  part-clean p g (e ∷ es) [] m clean legal stays looks = absurd legal
  part-clean p g (e ∷ es) (x ∷ xs) m clean legal stays looks =
      by (high (actor_of e)) refl
      (λ q part tidy. part-clean q (grown g x) es xs part tidy legal.1 stays looks)
    where
      now : SharesNothing high g × CopiesApart high g
      now = now-apart s high g (stays-before s high g (x ∷ xs) stays)

      by : (b : Bool) → high (actor_of e) ≡ b
          → ((q : History) → IsLowPart s high q (grown g x) → IsClean q
          → LegalAfter s q (low_events high es) (low_elements high es xs)
          × IsClean (history_after q (low_elements high es xs))
          × IsLowPart s high (history_after q (low_elements high es xs)) (history_after (grown g x) xs))
          → LegalAfter s p (cond b (low_events high es) (e ∷ low_events high es))
          (cond b (low_elements high es xs) (x ∷ low_elements high es xs))
          × IsClean (history_after p (cond b (low_elements high es xs) (x ∷ low_elements high es xs)))
          × IsLowPart s high
          (history_after p (cond b (low_elements high es xs) (x ∷ low_elements high es xs)))
          (history_after (grown g x) xs)
      by true up rest = rest p (high-event s high p g e x m now.0 now.1 up legal.0) clean
      by false low rest =
          let at = looks-now s high g e x low legal.0 (looks-before s high (grown g x) xs looks) in
          let next = low-event s high p g e x m now.0 now.1 low at legal.0 in
          let then = (now-apart s high (grown g x) (stays-before s high (grown g x) xs stays)).0 in
          let after = rest (grown p x) next.1
          (clean-grows p x clean (shares-part (grown p x) (grown g x) next.1.entry then) at) in
          ((next.0, after.0), after.1, after.2)

  -- ---- the step of a low domain is the same in both

  pub bare-at : (z y : Step) → bare_step z ≡ bare_step y → IsAtLow high z → IsAtLow high y
  bare-at z y same at = there y (subst (IsAtLow high) same (here z at))
    where
      here : (z : Step) → IsAtLow high z → IsAtLow high (bare_step z)
      here (Unpin q (holders.Mapping handle)) at = tt
      here (Unpin q (holders.Leg number)) at = tt
      here z at = at

      there : (y : Step) → IsAtLow high (bare_step y) → IsAtLow high y
      there (Unpin q (holders.Mapping handle)) at = tt
      there (Unpin q (holders.Leg number)) at = tt
      there y at = at

  keyless-at : (i : Item) (z : Step) (v : Observation) → (keyless_item i).happened ≡ Stepped (bare_step z) v
      → HappensAtLow high i.happened → IsAtLow high z
  keyless-at i z v same at = by i.happened same at
    where
      by : (x : ItemEvent) → bare_happened x ≡ Stepped (bare_step z) v
          → HappensAtLow high x → IsAtLow high z
      by (Began q) same at = absurd (let e = same in cc)
      by (Stepped y w) same at = let e : bare_step y ≡ bare_step z = cc in bare-at y z e at

  told-at : (x : Element) (t : KeylessItem) (z : Step) (v : Observation) → element_told x ≡ inr t
      → t.happened ≡ Stepped (bare_step z) v → AtLow s high x → IsAtLow high z
  told-at (elements.Item i) t z v told is at =
      let same : keyless_item i ≡ t = cc in
      keyless-at i z v (ap (λ (k : KeylessItem). k.happened) same ∙ is) at
  told-at Busy t z v told is at = absurd (let e = told in cc)
  told-at Idle t z v told is at = absurd (let e = told in cc)
  told-at NoDomain t z v told is at = absurd (let e = told in cc)

  -- what a step does next, by the low part
  pub step-at : (p h : History) (d : DomId) (z : Step) (v : Observation) (a : Option Answer) (c : Option Underway)
      → known_at s h d ≡ known_at s p d
      → StepsRightIn s h (record { actor = d; happened = Stepped z v; answer = a }) z v c
      → (t : KeylessItem) × (w : Observation) × (tick_told s p d c ≡ inr t) × (t.happened ≡ Stepped (bare_step z) w)
  step-at p h d z v a None known right = absurd right
  step-at p h d z v a (Some c) known right =
      let way : option_map bare_action (path (known_at s p d) d c.request (values c))
      ≡ Some (actions.Step (bare_step z)) =
      ap (option_map bare_action)
      (ap (λ (k : CallerKnowledge). path k d c.request (values c)) (sym known) ∙ right.continues) in (
        step_told s p d c.request (values c) (bare_step z),
        seen_by s p d (bare_step z),
        ap (stepped_told s p d c) way,
        refl,
      )

  item-at : (q p h : History) (d : DomId) (x : Element) (z : Step) (v : Observation) (a : Option Answer)
      → AreAlike s q p → IsLowPart s high p h → Lo d → MayDo s q (Tick d) x → AtLow s high x
      → domain_of s.domains d ≢ None → IsRight s h (record { actor = d; happened = Stepped z v; answer = a })
      → IsAtLow high z
  item-at q p h d x z v a alike m low may at named right =
      let next = step-at p h d z v a (open_call h d.0) (sym (known-low s high p h m d low)) right in
      let told : element_told x ≡ inr next.0 =
      does s q (Tick d) x may ∙ sym (does-bare s q (Tick d) alike.first tt)
      ∙ ap (λ (l : History). doing s l (Tick d)) (bare-same q p alike.same)
      ∙ does-bare s p (Tick d) alike.second tt
      ∙ within-some (domain_of s.domains d) (tick_told s p d (open_call p d.0)) named
      ∙ ap (tick_told s p d) (m.calls d low) ∙ next.2 in
      told-at x next.0 z next.1 told next.3 at

  -- the same of the element of an event
  other-at : (q p h : History) (e f : Event) (x y : Element) → AreAlike s q p → IsLowPart s high p h
      → bare_event e ≡ bare_event f → Lo (actor_of f) → MayDo s q e x → AtLow s high x → MayDo s h f y → AtLow s high y
  other-at q p h e f x NoDomain alike m same low may at does-too = tt
  other-at q p h e f x Busy alike m same low may at does-too = tt
  other-at q p h e f x Idle alike m same low may at does-too = tt
  other-at q p h e (Begin d r) x (elements.Item j) alike m same low may at does-too =
      subst (HappensAtLow high) (sym does-too.1.1) tt
  other-at q p h (Begin k r) (Tick d) x (elements.Item j) alike m same low may at does-too = absurd (let f = same in cc)
  other-at q p h (Tick k) (Tick d) x (elements.Item j) alike m same low may at does-too =
      by j.happened (subst (λ (a : DomId). IsRight s h (record j { actor = a })) does-too.1.0 does-too.2)
    where
      tick : MayDo s q (Tick d) x
      tick = let e : k ≡ d = cc in subst (λ (a : DomId). MayDo s q (Tick a) x) e may

      by : (z : ItemEvent) → IsRight s h (record { actor = d; happened = z; answer = j.answer }) → HappensAtLow high z
      by (Began r) right = tt
      by (Stepped z v) right = item-at q p h d x z v j.answer alike m low tick at does-too.0 right

  -- ---- both runs

  copies-before : (h : History) (ys : List Element) → CopiesStayApart high (history_after h ys)
      → CopiesStayApart high h
  unfolding CopiesStayApart
  copies-before h [] copies = copies
  copies-before h (elements.Item i ∷ ys) copies = (copies-before (i ∷ h) ys copies).1
  copies-before h (y ∷ ys) copies = copies-before h ys copies

  copies-now : (h : History) → CopiesStayApart high h → CopiesApart high h
  unfolding CopiesStayApart
  copies-now [] copies = copies
  copies-now (i ∷ h) copies = copies.0

  alike-entry : (q p : History) → AreAlike s q p → (t r : ℕ) → entry_at q t r ≡ entry_at p t r
  alike-entry q p alike t r =
      sym ((bared q).entry t r) ∙ ap (λ (l : History). entry_at l t r) (bare-same q p alike.same) ∙ (bared p).entry t r

  together : (q p h : History) (es : List Event) (xs : List Element) (fs : List Event) (ys : List Element)
      → AreAlike s q p → IsLowPart s high p h → LegalAfter s q es xs → IsClean (history_after q xs)
      → NamesKnown q es xs → LegalAfter s h fs ys → NamesKnown p (low_events high fs) (low_elements high fs ys)
      → CopiesStayApart high (history_after h ys) → SameEvents es (low_events high fs)
      → SameElements xs (low_elements high fs ys)
      × AreAlike s (history_after q xs) (history_after p (low_elements high fs ys))
      × IsLowPart s high (history_after p (low_elements high fs ys)) (history_after h ys)
  together q p h [] [] [] [] alike m legal clean known other names copies same = (tt, alike, m)
  together q p h [] (x ∷ xs) [] ys alike m legal clean known other names copies same = absurd legal
  together q p h (e ∷ es) xs [] ys alike m legal clean known other names copies same = absurd (let e = same in cc)
  together q p h [] [] [] (y ∷ ys) alike m legal clean known other names copies same = absurd other
  together q p h es xs (f ∷ fs) [] alike m legal clean known other names copies same = absurd other
  together q p h es xs (f ∷ fs) (y ∷ ys) alike m legal clean known other names copies same =
      by (high (actor_of f)) refl es xs legal clean known names same
      (λ one two ds ws like part lawful tidy kin call match.
      together one two (grown h y) ds ws fs ys like part lawful tidy kin other.1 call copies match)
    where
      copied : CopiesApart high h
      copied = copies-now h (copies-before h (y ∷ ys) copies)

      shared : IsClean q → SharesNothing high h
      shared now = shares-part h q (λ t r low. sym (m.entry t r low) ∙ sym (alike-entry q p alike t.0 r))
          (clean-now q now)

      -- the same of the rest
      Rest : Type 0
      Rest = (one two : History) (ds : List Event) (ws : List Element) → AreAlike s one two
          → IsLowPart s high two (grown h y) → LegalAfter s one ds ws → IsClean (history_after one ws)
          → NamesKnown one ds ws → NamesKnown two (low_events high fs) (low_elements high fs ys)
          → SameEvents ds (low_events high fs)
          → SameElements ws (low_elements high fs ys)
          × AreAlike s (history_after one ws) (history_after two (low_elements high fs ys))
          × IsLowPart s high (history_after two (low_elements high fs ys)) (history_after (grown h y) ys)

      by : (b : Bool) → high (actor_of f) ≡ b → (es : List Event) (xs : List Element) → LegalAfter s q es xs
          → IsClean (history_after q xs) → NamesKnown q es xs
          → NamesKnown p (cond b (low_events high fs) (f ∷ low_events high fs))
          (cond b (low_elements high fs ys) (y ∷ low_elements high fs ys))
          → SameEvents es (cond b (low_events high fs) (f ∷ low_events high fs)) → Rest
          → SameElements xs (cond b (low_elements high fs ys) (y ∷ low_elements high fs ys))
          × AreAlike s (history_after q xs)
          (history_after p (cond b (low_elements high fs ys) (y ∷ low_elements high fs ys)))
          × IsLowPart s high
          (history_after p (cond b (low_elements high fs ys) (y ∷ low_elements high fs ys)))
          (history_after (grown h y) ys)
      by true up es xs legal clean known names same rest =
          rest q p es xs alike (high-event s high p h f y m (shared (clean-before q xs clean)) copied up other.0) legal
          clean known names same
      by false low (e ∷ es) (x ∷ xs) legal clean known names same rest =
          let events = cons_parts (bare_event e) (bare_event f) (map bare_event es)
          (map bare_event (low_events high fs)) same in
          let before = clean-before (grown q x) xs clean in
          let at = other-at q p h e f x y alike m events.0 low legal.0 (clean-looks q x before) other.0 in
          let next = low-event s high p h f y m (shared (clean-before q (x ∷ xs) clean)) copied low at other.0 in
          let here : SameElement x y = does-alike s q p e f x y alike events.0 known.0 names.0 legal.0 next.0 in
          let after = rest (grown q x) (grown p y) es xs
          (alike-grows s q p e f x y alike known.0 names.0 legal.0 next.0 here) next.1 legal.1 clean known.1 names.1
          events.1 in
          ((here, after.0), after.1, after.2)
      by false low [] xs legal clean known names same rest = absurd (let e = same in cc)
      by false low (e ∷ es) [] legal clean known names same rest = absurd legal

  starts-alike : AreAlike s [] []
  unfolding IsRun keyless_items
  starts-alike = record { first = tt; second = tt; same = refl }

  clean-starts : SharesNothing high [] → IsClean []
  unfolding IsClean
  clean-starts shares = shares

  -- what low domains have after two runs
  all-keep : (g q p h : History) → LowDomainsKeep s high g q → AreAlike s q p → IsLowPart s high p h
      → LowDomainsKeep s high g h
  all-keep g q p h kept alike m = let one = bare-same q p alike.same in record {
    words = λ t r low. kept.words t r low ∙ sym (word-bare s q t.0 r alike.first)
        ∙ ap (λ (l : History). word_at s l t.0 r) one ∙ word-bare s p t.0 r alike.second
        ∙ word-same s Lo p h (agrees s high p h m) t r low;
    bodies = λ t r which low. kept.bodies t r which low ∙ sym ((bared q).body t.0 r which)
        ∙ ap (λ (l : History). body_at l t.0 r which) one ∙ (bared p).body t.0 r which ∙ m.body t r which low;
    tables = λ t low. kept.tables t low ∙ sym ((bared q).table s t)
        ∙ ap (λ (l : History). table_at s l t) one ∙ (bared p).table s t ∙ m.table t low;
    frames = λ t f low. kept.frames t f low ∙ sym (contents-bare q t.0 f)
        ∙ ap (λ (l : History). contents_at l t.0 f) one ∙ contents-bare p t.0 f ∙ contents-low s high p h m t f low;
  }

  pub high-calls-make-no-difference : (es fs : List Event) (xs ys : List Element) → Legal s es xs → Legal s fs ys
      → NamesKnown [] (low_events high es) (low_elements high es xs)
      → NamesKnown [] (low_events high fs) (low_elements high fs ys)
      → SameEvents (low_events high es) (low_events high fs)
      → StaysApart high (history_after [] xs) → LooksApart high (history_after [] xs)
      → CopiesStayApart high (history_after [] ys)
      → SameElements (low_elements high es xs) (low_elements high fs ys)
      × LowDomainsKeep s high (history_after [] xs) (history_after [] ys)
  high-calls-make-no-difference es fs xs ys legal other known names same stays looks copies =
      let starts = clean-starts (now-apart s high [] (stays-before s high [] xs stays)).0 in
      let part = part-clean [] [] es xs (nothing-yet s high) starts legal stays looks in
      let both = together [] [] [] (low_events high es) (low_elements high es xs) fs ys starts-alike
      (nothing-yet s high) part.0 part.1 known other names copies same in (
        both.0,
        all-keep (history_after [] xs) (history_after [] (low_elements high es xs))
            (history_after [] (low_elements high fs ys)) (history_after [] ys)
            (keeps s high (history_after [] (low_elements high es xs)) (history_after [] xs) part.2) both.1 both.2,
      )
