-- Each race of an order is the text of a run that ends at it.
use Rattle.std.proofs.Common.{◌≡◌, ◌≢◌, ◌+◌, ◌<◌, ◌≤◌, ℕ, zero, suc, Bool, true, false, cond, List, [], ◌∷◌, ◌++◌, length}
use Rattle.std.proofs.Common.{Option, Some, None, refl, ap, sym, ◌∙◌, subst, inl, inr, arith, append_assoc, append-nil}
use Rattle.std.proofs.lemmas.Bool.{eq-eqb, eqb-true, ne_eqb, true≢false}
use Rattle.std.proofs.lemmas.Bool.Decides.{nat_tests}
use Rattle.std.proofs.lemmas.List.{length-map}
use Rattle.std.proofs.lemmas.Option.{none-some, same_Some, slice_get_within}
use Rattle.std.specs.List.{flat_map, range_with_len}
use Rattle.std.specs.Prelude.{◌==◌, nat_le, slice_get, slice_set}
use Rattle.gt_core.proofs.AgreementKept.{open_call-other}
use Rattle.gt_explore_moves.proofs.Ways.{may-follow}
use Rattle.gt_explore_moves.specs.Scenes.{IsSceneOf}
use Rattle.gt_explore_moves.specs.Spaces.{Point}
use Rattle.gt_explore_moves.specs.Touches.{is_access_step}
use Rattle.gt_explore_moves.specs.declared.scene.SearchContext.{SearchContext}
use Rattle.gt_explore_replay.proofs.Coming.{less_or}
use Rattle.gt_explore_replay.proofs.Places.{get_set}
use Rattle.gt_explore_replay.proofs.Whole.{history_did}
use Rattle.gt_explore_replay.specs.Abreast.{CanComeNext, history_in}
use Rattle.gt_explore_replay.specs.Courses.{ActionLeads, Course, CourseLeads, OpenLeads, Opened, RestLeads, TurnsLead, calling, first_courses}
use Rattle.gt_explore_replay.specs.Courses.{IsTurnedBy, giving, resting}
use Rattle.gt_explore_replay.specs.Orders.{Happening, IsOrderOf, did, passed, raised}
use Rattle.gt_explore_replay.specs.Walking.{HaveOwnIds}
use Rattle.gt_explore_search.specs.Exploring.{AllTextsFound}
use Rattle.gt_explore_search.specs.Ways.{GoesTo, only_at, text_at}
use Rattle.gt_explore_search.specs.declared.exploring.FoundText.{FoundText}
use Rattle.gt_explore_search.specs.declared.exploring.SearchResult.{SearchResult}
use Rattle.gt_explore_search.specs.declared.spaces.Turn.{Turn}
use Rattle.gt_model.proofs.Observers.{other-known}
use Rattle.gt_model.specs.History.{History, Setting, Underway, open_call, values}
use Rattle.gt_model.specs.Legal.{StepsRightIn}
use Rattle.gt_model.specs.Path.{path}
use Rattle.gt_model.specs.Rules.{CallerKnowledge}
use Rattle.gt_model.specs.declared.action.Action.TheVariants as actions
use Rattle.gt_model.specs.declared.action.Observation.{Observation}
use Rattle.gt_model.specs.declared.action.Step.{Step}
use Rattle.gt_model.specs.declared.action.Step.TheVariants as call_steps
use Rattle.gt_model.specs.declared.trace.Answer.{Answer}
use Rattle.gt_model.specs.declared.trace.Event.TheVariants.{Begin, Tick}
use Rattle.gt_model.specs.declared.trace.Item.{Item}
use Rattle.gt_model.specs.declared.trace.ItemEvent.TheVariants.{Stepped}
use Rattle.gt_script.specs.Contents.{type_names}
use Rattle.gt_script.specs.Lists.{RunAction, RunTask}
use Rattle.gt_script.specs.RunContents.{RunContents}
use Rattle.gt_script.specs.RunScripts.{list_of}
use Rattle.gt_script.specs.declared.tasks.RunAction.TheVariants.{Await, Do, Tell}
use Rattle.gt_script_runs.specs.Playing.{setting_of_script}
use Rattle.gt_types.specs.declared.DomId.{DomId}
use Rattle.gt_types.specs.declared.config.DomainConfig.{DomainConfig}
use Rattle.gt_explore_races.proofs.Beginning.{AllCount, OpenCounts, counts-more, first-count, on}
use Rattle.gt_explore_races.specs.Accesses.{Conflict, HasByte, bytes_read, bytes_written}
use Rattle.gt_explore_races.specs.Races.{IsRaceOf, MakesNext, last_line, step_by, tasks_begun}
use Rattle.gt_explore_races.specs.Spaces.{AreToRace, IsCallingLine, IsToAccess, RacePoint, race_ways, said_by}
use Rattle.gt_explore_races.specs.Texts.{race_of, race_text}
use Rattle.gt_explore_races.specs.declared.racing.Race.{Race}

-- conflicts

swapped : (y z : Step) → Conflict y z → Conflict z y
swapped y z (inl (t, f, b, here, there)) = inl (t, f, b, there, here)
swapped y z (inr (inl (t, f, b, here, there))) = inr (inr (t, f, b, there, here))
swapped y z (inr (inr (t, f, b, here, there))) = inr (inl (t, f, b, there, here))

writes : (y : Step) (t f b : ℕ) → HasByte (bytes_written y) t f b → is_access_step y ≡ true
writes (call_steps.Write dom frame off len) t f b has = refl
writes (call_steps.Copy from to len) t f b has = refl
writes y t f b has = absurd has

reads : (y : Step) (t f b : ℕ) → HasByte (bytes_read y) t f b → is_access_step y ≡ true
reads (call_steps.Read dom frame off len) t f b has = refl
reads (call_steps.Copy from to len) t f b has = refl
reads y t f b has = absurd has

accesses : (y z : Step) → Conflict y z → is_access_step y ≡ true
accesses y z (inl (t, f, b, here, there)) = writes y t f b here
accesses y z (inr (inl (t, f, b, here, there))) = writes y t f b here
accesses y z (inr (inr (t, f, b, here, there))) = reads y t f b here

abbrev pair : ℕ → ℕ → Race
pair m n = record { first = m; second = n }

-- the two lines in either order are one race
pub one-race : (k l : ℕ) → race_of k l ≡ race_of l k
one-race k l = by (nat_le k l) (nat_le l k) refl refl where
  by : (a b : Bool) → nat_le k l ≡ a → nat_le l k ≡ b → cond a (pair k l) (pair l k) ≡ cond b (pair l k) (pair k l)
  by true true e f =
      let below : k ≤ l = grind (arith, nat_tests) in let above : l ≤ k = grind (arith, nat_tests) in let same : k ≡ l = omega arith in
      ap (λ (n : ℕ). pair n l) same ∙ ap (λ (n : ℕ). pair l n) (sym same)
  by true false e f = refl
  by false true e f = refl
  by false false e f = let below : k < l = grind (arith, nat_tests) in let above : l < k = grind (arith, nat_tests) in absurd (omega arith)

-- what is next

next-in : (s : Setting) (h : History) (d : DomId) (y : Step) (seen : Observation) (answer : Option Answer) (u : Option Underway) → open_call h d.0 ≡ u
    → StepsRightIn s h (record { actor = d; happened = Stepped y seen; answer = answer }) y seen u → MakesNext s h d y
next-in s h d y seen answer None e right = absurd right
next-in s h d y seen answer (Some u) e right = record { call = u; opened = e; follows = right.continues }

comes : (s : Setting) (hs : List Happening) (d : DomId) (y : Step) (seen : Observation) (answer : Option Answer) → CanComeNext s hs (step_by d y seen answer) → MakesNext s (history_in hs) d y
comes s hs d y seen answer may = next-in s (history_in hs) d y seen answer (open_call (history_in hs) d.0) refl may.2

-- a step of another domain leaves what a domain makes next
before-it : (s : Setting) (h : History) (i : Item) (d : DomId) (y : Step) → (i.actor.0 == d.0) ≡ false → MakesNext s (i ∷ h) d y → MakesNext s h d y
before-it s h i d y apart next = record {
  call = next.call;
  opened = sym (open_call-other i h d.0 apart) ∙ next.opened;
  follows = subst (λ (k : CallerKnowledge). path k d next.call.request (values next.call) ≡ Some (actions.Step y)) (other-known s i h d apart) next.follows;
}

-- the call of a step is that of the line begun last

called-by : (tasks : List RunTask) (n line : ℕ) (opened : Opened) → OpenCounts tasks n opened → last_line tasks n ≡ Some line → (opened ≡ resting → ⊥) → IsCallingLine opened line
called-by tasks n line resting counts last busy = absurd (busy refl)
called-by tasks n line (calling m call lost) counts last busy = same_Some m line (sym counts ∙ last)
called-by tasks n line giving counts last busy = absurd (none-some line (sym counts ∙ last))

-- who makes a step has a call open

abbrev is-tick : Happening → Bool
is-tick (did (Tick d) e) = true
is-tick (did (Begin d request) e) = false
is-tick (raised d flag) = false
is-tick (passed d flag) = false

module _ (types : List (List ℕ)) (d : DomId) (z : Step) (seen : Observation) (answer : Option Answer) (u j : Course) (choice : ℕ) where
  acts : (line : ℕ) (ts : List RunTask) (action : RunAction) → ActionLeads types u line ts action (step_by d z seen answer) j → ⊥
  acts line ts (Tell flag) (is, after) = true≢false (ap is-tick is)
  acts line ts (Await flag) (is, after) = true≢false (ap is-tick is)
  acts line ts (Do call) (request, e, makes, is, after) = true≢false (ap is-tick is)

  rests : (ts : List RunTask) → RestLeads types u ts choice (step_by d z seen answer) j → ⊥
  rests [] (handle, e, there, is, after) = true≢false (ap is-tick is)
  rests (t ∷ ts) (none, leads) = acts t.line ts t.run_action leads

  pub not-resting : CourseLeads types u choice (step_by d z seen answer) j → u.opened ≡ resting → ⊥
  not-resting leads still = rests u.tasks (subst (λ (o : Opened). OpenLeads types u o choice (step_by d z seen answer) j) still leads)

-- texts

none-said : (place : ℕ) (text : List ℕ) (base n : ℕ) → place < base → flat_map (only_at place text) (range_with_len base n) ≡ []
none-said place text base zero lt = refl
none-said place text base (suc n) lt =
    let off : (place == base) ≡ false = ne_eqb place base (λ same. omega (arith, same)) in
    ap (λ (b : Bool). cond b text [] ++ flat_map (only_at place text) (range_with_len (base + 1) n)) off ∙ none-said place text (base + 1) n (omega arith)

all-said : (place : ℕ) (text : List ℕ) (base n : ℕ) → base ≤ place → place < base + n → flat_map (only_at place text) (range_with_len base n) ≡ text
all-said place text base zero le lt = absurd (omega arith)
all-said place text base (suc n) le lt = by (place == base) refl (all-said place text (base + 1) n) where
  by : (b : Bool) → (place == base) ≡ b → (base + 1 ≤ place → place < (base + 1) + n → flat_map (only_at place text) (range_with_len (base + 1) n) ≡ text)
      → flat_map (only_at place text) (range_with_len base (suc n)) ≡ text
  by true e more = ap (λ (b : Bool). cond b text [] ++ flat_map (only_at place text) (range_with_len (base + 1) n)) e
      ∙ ap (λ (l : List ℕ). text ++ l) (none-said place text (base + 1) n (let same = eqb-true place base e in omega (arith, same))) ∙ append-nil text
  by false e more = let other : place ≢ base = λ same. true≢false (sym (eq-eqb place base same) ∙ e) in
      ap (λ (b : Bool). cond b text [] ++ flat_map (only_at place text) (range_with_len (base + 1) n)) e
      ∙ more (omega (arith, other)) (omega arith)

-- the run to a race

abbrev point : RunContents → List Happening → List Course → Point
point c hs ks = record { script = c; happened = hs; courses = ks }

abbrev running : Point → RacePoint
running p = record { run = p; said = None }

-- a run onward from this point ends at this race
pub record EndsAtIt (scene : SearchContext) (r : Race) (p : Point) : Type 0 where
  pub turns : List Turn
  pub end : RacePoint
  pub place : ℕ
  pub goes : GoesTo (race_ways scene) (running p) turns end
  pub said : end.said ≡ Some (place, race_text r)
  pub within : place < length scene.roster.domains.items

-- before the first access both are next
module _ (c : RunContents) (k l : ℕ) (race : IsRaceOf c k l) where
  abbrev made : Happening
  made = step_by race.one race.first race.seen race.answer

  abbrev made-next : Happening
  made-next = step_by race.other race.second race.seen_next race.answer_next

  pub one-next : MakesNext (setting_of_script c.head) (history_in race.before) race.one race.first
  one-next = comes (setting_of_script c.head) race.before race.one race.first race.seen race.answer (may-follow c race.before made (made-next ∷ race.after) race.text race.order)

  apart : (race.one.0 == race.other.0) ≡ false
  apart = ne_eqb race.one.0 race.other.0 race.apart

  abbrev item : Item
  item = record { actor = race.one; happened = Stepped race.first race.seen; answer = race.answer }

  after-first : history_in (race.before ++ made ∷ []) ≡ item ∷ history_in race.before
  after-first = history_did race.before _ _

  pub other-next : MakesNext (setting_of_script c.head) (history_in race.before) race.other race.second
  other-next =
      let order = subst (λ (hs : List Happening). IsOrderOf c hs race.text) (sym (append_assoc race.before (made ∷ []) (made-next ∷ race.after))) race.order in
      let next = comes (setting_of_script c.head) (race.before ++ made ∷ []) race.other race.second race.seen_next race.answer_next (may-follow c (race.before ++ made ∷ []) made-next race.after race.text order) in
      before-it (setting_of_script c.head) (history_in race.before) item race.other race.second apart (subst (λ (h : History). MakesNext (setting_of_script c.head) h race.other race.second) after-first next)

module _ (scene : SearchContext) (c : RunContents) (is : IsSceneOf c scene) (k l : ℕ) (race : IsRaceOf c k l) where
  abbrev s : Setting
  s = setting_of_script c.head

  abbrev x : Happening
  x = step_by race.one race.first race.seen race.answer

  abbrev y : Happening
  y = step_by race.other race.second race.seen_next race.answer_next

  abbrev whole : List Happening
  whole = race.before ++ x ∷ y ∷ race.after

  first-next : MakesNext s (history_in race.before) race.one race.first
  first-next = one-next c k l race

  second-next : MakesNext s (history_in race.before) race.other race.second
  second-next = other-next c k l race

  module _ (ks : List Course) (counts : AllCount c race.before ks) (p q : ℕ) (i j : Course) (m n : ℕ) (i2 j2 : Course) (there : slice_get ks p ≡ Some i) (also : slice_get ks q ≡ Some j)
      (leads : CourseLeads (type_names c.head) i m x i2) (moves : CourseLeads (type_names c.head) j n y j2) where
    first-dom : race.one ≡ i.dom
    first-dom = (on c race.before ks p i i2 m x is.setting.apart counts there leads).own_move

    second-dom : race.other ≡ j.dom
    second-dom = (on c race.before ks q j j2 n y is.setting.apart counts also moves).own_move

    first-line : last_line (list_of c.tasks i.dom) (tasks_begun i.dom race.before) ≡ Some k
    first-line = subst (λ (d : DomId). last_line (list_of c.tasks d) (tasks_begun d race.before) ≡ Some k) first-dom race.first_line

    second-line : last_line (list_of c.tasks j.dom) (tasks_begun j.dom race.before) ≡ Some l
    second-line = subst (λ (d : DomId). last_line (list_of c.tasks d) (tasks_begun d race.before) ≡ Some l) second-dom race.second_line

    first-access : IsToAccess (point c race.before ks) p k race.first
    first-access = record {
      course = i;
      there = there;
      calls = called-by (list_of c.tasks i.dom) (tasks_begun i.dom race.before) k i.opened (counts.each p i there).opened first-line (not-resting (type_names c.head) race.one race.first race.seen race.answer i i2 m leads);
      next = subst (λ (d : DomId). MakesNext s (history_in race.before) d race.first) first-dom first-next;
      access = accesses race.first race.second race.conflict;
    }

    second-access : IsToAccess (point c race.before ks) q l race.second
    second-access = record {
      course = j;
      there = also;
      calls = called-by (list_of c.tasks j.dom) (tasks_begun j.dom race.before) l j.opened (counts.each q j also).opened second-line (not-resting (type_names c.head) race.other race.second race.seen_next race.answer_next j j2 n moves);
      next = subst (λ (d : DomId). MakesNext s (history_in race.before) d race.second) second-dom second-next;
      access = accesses race.second race.first (swapped race.first race.second race.conflict);
    }

    pub to-race : AreToRace (point c race.before ks) p q k l
    to-race = record { first = race.first; second = race.second; first_next = first-access; second_next = second-access; conflict = race.conflict }

    pub from-race : AreToRace (point c race.before ks) q p l k
    from-race = record { first = race.second; second = race.first; first_next = second-access; second_next = first-access; conflict = swapped race.first race.second race.conflict }

  many : (ks : List Course) → AllCount c race.before ks → length ks ≡ length scene.roster.domains.items
  many ks counts =
      sym (length-map ks (λ (u : Course). u.dom)) ∙ ap (λ (ds : List DomId). length ds) counts.domains ∙ length-map c.head.domains (λ (d : DomainConfig). d.id)
      ∙ ap (λ (ds : List DomainConfig). length ds) (sym is.setting.domains)

  -- by one turn more it ends there
  ends-by : (ks : List Course) (one other a b : ℕ) → AllCount c race.before ks → AreToRace (point c race.before ks) one other a b → one < other → race_of a b ≡ race_of k l → EndsAtIt scene (race_of k l) (point c race.before ks)
  ends-by ks one other a b counts to lt same =
      let text : ℕ × List ℕ = (one, race_text (race_of a b)) in
      let over : RacePoint = record { run = point c race.before ks; said = Some text } in
      let within = slice_get_within ks one to.first_next.course to.first_next.there in let long = many ks counts in
      record {
        turns = record { place = one; choice = suc other } ∷ [];
        end = over;
        place = one;
        goes = (over, (refl, inr (record { other = other; k = a; l = b; choice = refl; later = lt; race = to; said = refl })), (refl, λ e. none-some text (sym e)));
        said = ap (λ (t : List ℕ). Some (one, t)) (ap race_text same);
        within = omega (arith, within, long);
      }

  at-race : (ks : List Course) (t u : Turn) (i i2 j j2 : Course) → AllCount c race.before ks → slice_get ks t.place ≡ Some i → CourseLeads (type_names c.head) i t.choice x i2 → slice_get (slice_set ks t.place i2) u.place ≡ Some j
      → CourseLeads (type_names c.head) j u.choice y j2 → EndsAtIt scene (race_of k l) (point c race.before ks)
  at-race ks t u i i2 j j2 counts there leads also moves = elim (get_set ks t.place u.place i2 j also) [
    | inl (at, same) ↦ absurd (race.apart (
        let moved = on c race.before ks t.place i i2 t.choice x is.setting.apart counts there leads in
        let more = counts-more c race.before ks t.place i i2 t.choice x is.setting.apart counts there leads in
        let second = on c (race.before ++ x ∷ []) (slice_set ks t.place i2) u.place j j2 u.choice y is.setting.apart more also moves in
        ap (λ (d : DomId). d.0) (moved.own_move ∙ sym moved.dom ∙ ap (λ (v : Course). v.dom) same ∙ sym second.own_move)))
    | inr (other, before) ↦ elim (less_or u.place t.place other) [
      | inl lt ↦ ends-by ks u.place t.place l k counts (from-race ks counts t.place u.place i j t.choice u.choice i2 j2 there before leads moves) lt (one-race l k)
      | inr gt ↦ ends-by ks t.place u.place k l counts (to-race ks counts t.place u.place i j t.choice u.choice i2 j2 there before leads moves) gt refl
    ]
  ]

  reaches : (done left : List Happening) (ks : List Course) (turns : List Turn) (ends : List Course) → race.before ≡ done ++ left → TurnsLead (type_names c.head) ks (left ++ x ∷ y ∷ race.after) turns ends → AllCount c done ks → EndsAtIt scene (race_of k l) (point c done ks)
  reaches done [] ks [] ends parts leads counts = absurd leads
  reaches done [] ks (t ∷ []) ends parts (i, i2, there, first, leads) counts = absurd leads
  reaches done [] ks (t ∷ u ∷ ts) ends parts (i, i2, there, first, (j, j2, also, second, rest)) counts =
      let here : race.before ≡ done = parts ∙ append-nil done in
      subst (λ (hs : List Happening). EndsAtIt scene (race_of k l) (point c hs ks)) here
      (at-race ks t u i i2 j j2 (subst (λ (hs : List Happening). AllCount c hs ks) (sym here) counts) there first also second)
  reaches done (z ∷ left) ks [] ends parts leads counts = absurd leads
  reaches done (z ∷ left) ks (t ∷ ts) ends parts (i, i2, there, leads, rest) counts =
      let more = reaches (done ++ z ∷ []) left (slice_set ks t.place i2) ts ends (parts ∙ sym (append_assoc done (z ∷ []) left)) rest
      (counts-more c done ks t.place i i2 t.choice z is.setting.apart counts there leads) in
      let order = subst (λ (hs : List Happening). IsOrderOf c hs race.text) (ap (λ (hs : List Happening). hs ++ x ∷ y ∷ race.after) parts ∙ append_assoc done (z ∷ left) (x ∷ y ∷ race.after)) race.order in
      record {
        turns = t ∷ more.turns;
        end = more.end;
        place = more.place;
        goes = (
          running (point c (done ++ z ∷ []) (slice_set ks t.place i2)),
          (
            refl,
            inl (
              record {
                script = refl;
                k = i;
                j = i2;
                x = z;
                there = there;
                leads = leads;
                next = may-follow c done z (left ++ x ∷ y ∷ race.after) race.text order;
                happened = refl;
                courses = refl;
              },
              refl,
            ),
          ),
          more.goes,
        );
        said = more.said;
        within = more.within;
      }

  -- its text was found
  pub race-found : (found : SearchResult) → ((d : RunContents) (hs : List Happening) (text : List ℕ) → HaveOwnIds d.head.domains → IsOrderOf d hs text → (turns : List Turn) × IsTurnedBy d hs turns text)
      → AllTextsFound (race_ways scene) found → (at : ℕ) × (o : FoundText) × (slice_get found.orders.items at ≡ Some o) × (o.text.items ≡ race_text (race_of k l))
  race-found found turned all =
      let t = turned c whole race.text is.setting.apart race.order in
      let e = reaches [] race.before (first_courses c) t.0 t.1.ends refl t.1.leads (first-count c) in
      let within = e.within in
      let r = all (running (point c [] (first_courses c))) e.turns e.end (record { scene_is = is; happened = refl; courses = refl }, refl) e.goes in
      let says : text_at (race_ways scene) e.end ≡ race_text (race_of k l) =
      ap (λ (said : Option (ℕ × List ℕ)). flat_map (said_by said) (range_with_len 0 (length scene.roster.domains.items))) e.said
      ∙ all-said e.place (race_text (race_of k l)) 0 (length scene.roster.domains.items) (omega arith) (omega (arith, within)) in
      (r.0, r.1, r.2, r.3 ∙ says)
