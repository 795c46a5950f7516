-- Each order of a script is a way of its space.
use Rattle.std.proofs.Common.{◌≡◌, ◌+◌, ℕ, zero, suc, refl, List, [], ◌∷◌, ◌++◌, length, Some, sym, ap, ◌∙◌, subst}
use Rattle.std.proofs.Common.{append_assoc, append-nil, arith}
use Rattle.std.proofs.lemmas.List.{length-map}
use Rattle.std.specs.List.{flat_map, range_with_len}
use Rattle.std.specs.Prelude.{slice_get, slice_set}
use Rattle.gt_types.specs.declared.config.DomainConfig.{DomainConfig}
use Rattle.gt_model.specs.History.{History, Setting}
use Rattle.gt_model.specs.Legal.{LegalAfter, MayDo, grown, history_after}
use Rattle.gt_model.specs.declared.trace.Element.{Element}
use Rattle.gt_model.specs.declared.trace.Event.{Event}
use Rattle.gt_script_runs.specs.Playing.{setting_of_script}
use Rattle.gt_explore_replay.specs.Abreast.{CanComeNext}
use Rattle.gt_explore_replay.specs.Courses.{AllCoursesEnd, Course, IsTurnedBy, TurnsLead, courses_text, first_courses}
use Rattle.gt_explore_replay.specs.Orders.{Happening, did, raised, passed, events_in, trace_in, IsOrderOf}
use Rattle.gt_explore_search.specs.declared.spaces.Turn.{Turn}
use Rattle.gt_explore_replay.proofs.Places.{get_left}
use Rattle.gt_explore_replay.proofs.Turning.{at-length, has-turns}
use Rattle.gt_script.specs.Contents.{type_names}
use Rattle.gt_script.specs.RunContents.{RunContents}
use Rattle.gt_explore_moves.specs.Scenes.{IsSceneOf}
use Rattle.gt_explore_moves.specs.Spaces.{FindsAll, Point, printed_by, scene_ways}
use Rattle.gt_explore_moves.specs.declared.scene.SearchContext.{SearchContext}
use Rattle.gt_explore_search.specs.Exploring.{AllTextsFound}
use Rattle.gt_explore_search.specs.Ways.{GoesTo, text_at}
use Rattle.gt_explore_search.specs.declared.exploring.SearchResult.{SearchResult}
use Rattle.gt_explore_search.specs.declared.exploring.FoundText.{FoundText}

-- what may come next

legal-at : (s : Setting) (g : History) (before : List Happening) (e : Event) (y : Element) (more : List Happening)
    → LegalAfter s g (events_in (before ++ did e y ∷ more)) (trace_in (before ++ did e y ∷ more)) → MayDo s (history_after g (trace_in before)) e y
legal-at s g [] e y more p = p.0
legal-at s g (did f z ∷ hs) e y more p = legal-at s (grown g z) hs e y more p.1
legal-at s g (raised d flag ∷ hs) e y more p = legal-at s g hs e y more p
legal-at s g (passed d flag ∷ hs) e y more p = legal-at s g hs e y more p

-- the next happening of an order may follow those before it
pub may-follow : (c : RunContents) (before : List Happening) (x : Happening) (more : List Happening) (text : List ℕ) → IsOrderOf c (before ++ x ∷ more) text → CanComeNext (setting_of_script c.head) before x
may-follow c before (did e y) more text order = legal-at (setting_of_script c.head) [] before e y more order.legal
may-follow c before (raised d flag) more text order = tt
may-follow c before (passed d flag) more text order =
    let (at, who, lt, is) = order.flags (length before) d flag (at-length before more (passed d flag)) in
    (at, who, lt, sym (get_left before (passed d flag ∷ more) at lt) ∙ is)

-- the way of an order

abbrev point : RunContents → List Happening → List Course → Point
point c hs ks = record { script = c; happened = hs; courses = ks }

goes : (scene : SearchContext) (c : RunContents) (text : List ℕ) (whole : List Happening) (before left : List Happening) (ks : List Course) (turns : List Turn) (ends : List Course)
    → IsOrderOf c whole text → whole ≡ before ++ left → TurnsLead (type_names c.head) ks left turns ends → AllCoursesEnd ends → GoesTo (scene_ways scene) (point c before ks) turns (point c whole ends)
goes scene c text whole before [] ks [] ends order parts leads over = (
  ap (λ (hs : List Happening). point c hs ks) (sym (parts ∙ append-nil before)) ∙ ap (point c whole) leads,
  subst AllCoursesEnd (sym leads) over,
)
goes scene c text whole before (x ∷ more) ks (t ∷ ts) ends order parts (k, j, there, leads, rest) over = (
  point c (before ++ x ∷ []) (slice_set ks t.place j),
  record {
    script = refl;
    k = k;
    j = j;
    x = x;
    there = there;
    leads = leads;
    next = may-follow c before x more text (subst (λ (hs : List Happening). IsOrderOf c hs text) parts order);
    happened = refl;
    courses = refl;
  },
  goes scene c text whole (before ++ x ∷ []) more (slice_set ks t.place j) ts ends order (parts ∙ sym (append_assoc before (x ∷ []) more)) rest over,
)
goes scene c text whole before [] ks (t ∷ ts) ends order parts leads over = absurd leads
goes scene c text whole before (x ∷ more) ks [] ends order parts leads over = absurd leads

-- its text

shifted : (f g : ℕ → List ℕ) (base n : ℕ) → ((i : ℕ) → f (suc i) ≡ g i) → flat_map f (range_with_len (suc base) n) ≡ flat_map g (range_with_len base n)
shifted f g base zero same = refl
shifted f g base (suc n) same = ap (λ (l : List ℕ). l ++ flat_map f (range_with_len (suc base + 1) n)) (same base)
    ∙ ap (λ (l : List ℕ). g base ++ l) (ap (λ (m : ℕ). flat_map f (range_with_len m n)) (let e : suc base + 1 ≡ suc (base + 1) = omega arith in e) ∙ shifted f g (base + 1) n same)

text-of : (ks : List Course) → flat_map (printed_by ks) (range_with_len 0 (length ks)) ≡ courses_text ks
text-of [] = refl
text-of (k ∷ ks) = ap (λ (l : List ℕ). k.text ++ l) (shifted (printed_by (k ∷ ks)) (printed_by ks) 0 (length ks) (λ i. refl) ∙ text-of ks)

set-length : (ks : List Course) (at : ℕ) (j : Course) → length (slice_set ks at j) ≡ length ks
set-length [] at j = refl
set-length (k ∷ ks) zero j = refl
set-length (k ∷ ks) (suc at) j = ap suc (set-length ks at j)

kept-length : (types : List (List ℕ)) (ks : List Course) (hs : List Happening) (ts : List Turn) (ls : List Course) → TurnsLead types ks hs ts ls → length ls ≡ length ks
kept-length types ks [] [] ls leads = ap (λ (l : List Course). length l) (sym leads)
kept-length types ks (x ∷ hs) (t ∷ ts) ls (k, j, there, leads, rest) = kept-length types (slice_set ks t.place j) hs ts ls rest ∙ set-length ks t.place j
kept-length types ks [] (t ∷ ts) ls leads = absurd leads
kept-length types ks (x ∷ hs) [] ls leads = absurd leads

first-length : (c : RunContents) → length (first_courses c) ≡ length c.head.domains
first-length c = length-map c.head.domains _

finds-turned : (scene : SearchContext) (c : RunContents) (found : SearchResult) → IsSceneOf c scene → AllTextsFound (scene_ways scene) found → (hs : List Happening) (turns : List Turn) (text : List ℕ) → IsTurnedBy c hs turns text
    → (at : ℕ) × (o : FoundText) × (slice_get found.orders.items at ≡ Some o) × (o.text.items ≡ text)
finds-turned scene c found is all hs turns text turned =
    let p = point c [] (first_courses c) in let q = point c hs turned.ends in
    let r = all p turns q (record { scene_is = is; happened = refl; courses = refl }) (goes scene c text hs [] hs (first_courses c) turns turned.ends turned.order refl turned.leads turned.over) in
    let many : length turned.ends ≡ length scene.roster.domains.items =
    kept-length (type_names c.head) (first_courses c) hs turns turned.ends turned.leads ∙ first-length c ∙ ap (λ (ds : List DomainConfig). length ds) (sym is.setting.domains) in
    let same : text_at (scene_ways scene) q ≡ text = ap (λ (n : ℕ). flat_map (printed_by turned.ends) (range_with_len 0 n)) (sym many) ∙ text-of turned.ends ∙ sym turned.printed in
    (r.0, r.1, r.2, r.3 ∙ same)

-- the search finds them all
pub finds-all : (scene : SearchContext) (c : RunContents) (found : SearchResult) → IsSceneOf c scene → AllTextsFound (scene_ways scene) found → FindsAll c found
finds-all scene c found is all text (hs, order) =
    let turned = has-turns c hs text is.setting.apart order in finds-turned scene c found is all hs turned.0 text turned.1
