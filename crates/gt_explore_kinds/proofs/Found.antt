-- The search finds a text of each kind.
use Rattle.std.proofs.Common.{◌≡◌, ◌∙◌, ap, refl, sym, subst, ℕ, zero, suc, List, [], ◌∷◌, ◌++◌, ◌+◌, length, map, Some, append_assoc, append-nil, arith}
use Rattle.std.proofs.lemmas.List.{length-map}
use Rattle.std.specs.Global.{Vec}
use Rattle.std.specs.List.{flat_map, range_with_len}
use Rattle.std.specs.Prelude.{slice_get, slice_set}
use Rattle.gt_types.specs.declared.config.DomainConfig.{DomainConfig}
use Rattle.gt_explore_moves.proofs.Ways.{may-follow}
use Rattle.gt_explore_moves.specs.Scenes.{IsSceneOf}
use Rattle.gt_explore_moves.specs.Spaces.{Point, printed_by}
use Rattle.gt_explore_moves.specs.declared.scene.SearchContext.{SearchContext}
use Rattle.gt_explore_replay.specs.Courses.{AllCoursesEnd, Course, IsTurnedBy, TurnsLead, courses_text, first_courses}
use Rattle.gt_explore_replay.specs.Orders.{Happening, IsOrderOf, MayGive}
use Rattle.gt_explore_replay.specs.Walking.{HaveOwnIds}
use Rattle.gt_explore_search.specs.Exploring.{AllTextsFound}
use Rattle.gt_explore_search.specs.Ways.{GoesTo, text_at}
use Rattle.gt_explore_search.specs.declared.exploring.FoundText.{FoundText}
use Rattle.gt_explore_search.specs.declared.exploring.SearchResult.{SearchResult}
use Rattle.gt_explore_search.specs.declared.spaces.Turn.{Turn}
use Rattle.gt_explore_verdict.specs.Formulas.{Op}
use Rattle.gt_explore_verdict.specs.declared.operations.Operation.{Operation}
use Rattle.gt_script.specs.Contents.{type_names}
use Rattle.gt_script.specs.RunContents.{RunContents}
use Rattle.gt_explore_kinds.specs.Kinds.{AreOfOneKind, formulas_asked, order_text}
use Rattle.gt_explore_kinds.specs.Marks.{all_operations, text_marks}
use Rattle.gt_explore_kinds.specs.Spaces.{HaveWholeLines, kind_ways}
use Rattle.gt_explore_kinds.proofs.Cutting.{marks_after, no_text_marks}
use Rattle.gt_explore_kinds.proofs.SameMarks.{same_kind}
use Rattle.gt_explore_kinds.proofs.Whole.{whole_first, whole_turns}

-- the run of an order

abbrev point : RunContents → List Happening → List Course → Point
point c hs ks = record { script = c; happened = hs; courses = ks }

goes : (scene : SearchContext) (ops : List Op) (c : RunContents) (text : List ℕ) (whole : List Happening) (before left : List Happening) (ks : List Course) (turns : List Turn) (ends : List Course)
    → IsOrderOf c whole text → whole ≡ before ++ left → TurnsLead (type_names c.head) ks left turns ends → AllCoursesEnd ends → GoesTo (kind_ways scene ops) (point c before ks) turns (point c whole ends)
goes scene ops c text whole before [] ks [] ends order parts leads over = (
  ap (λ (hs : List Happening). point c hs ks) (sym (parts ∙ append-nil before)) ∙ ap (point c whole) leads,
  subst AllCoursesEnd (sym leads) over,
)
goes scene ops c text whole before (x ∷ more) ks (t ∷ ts) ends order parts (k, j, there, leads, rest) over = (
  point c (before ++ x ∷ []) (slice_set ks t.place j),
  record {
    script = refl;
    k = k;
    j = j;
    x = x;
    there = there;
    leads = leads;
    next = may-follow c before x more text (subst (λ (hs : List Happening). IsOrderOf c hs text) parts order);
    happened = refl;
    courses = refl;
  },
  goes scene ops c text whole (before ++ x ∷ []) more (slice_set ks t.place j) ts ends order (parts ∙ sym (append_assoc before (x ∷ []) more)) rest over,
)
goes scene ops c text whole before [] ks (t ∷ ts) ends order parts leads over = absurd leads
goes scene ops c text whole before (x ∷ more) ks [] ends order parts leads over = absurd leads

-- its marks

shifted : (f g : ℕ → List ℕ) (base n : ℕ) → ((i : ℕ) → f (suc i) ≡ g i) → flat_map f (range_with_len (suc base) n) ≡ flat_map g (range_with_len base n)
shifted f g base zero same = refl
shifted f g base (suc n) same = ap (λ (l : List ℕ). l ++ flat_map f (range_with_len (suc base + 1) n)) (same base)
    ∙ ap (λ (l : List ℕ). g base ++ l) (ap (λ (m : ℕ). flat_map f (range_with_len m n)) (let e : suc base + 1 ≡ suc (base + 1) = omega arith in e) ∙ shifted f g (base + 1) n same)

marks_by_place : (ops : List Op) (ks : List Course) → flat_map (λ at. text_marks ops (printed_by ks at)) (range_with_len 0 (length ks)) ≡ flat_map (λ (k : Course). text_marks ops k.text) ks
marks_by_place ops [] = refl
marks_by_place ops (k ∷ ks) =
    ap (λ (l : List ℕ). text_marks ops k.text ++ l)
    (shifted (λ at. text_marks ops (printed_by (k ∷ ks) at)) (λ at. text_marks ops (printed_by ks at)) 0 (length ks) (λ i. refl) ∙ marks_by_place ops ks)

marks_of_text : (ops : List Op) (ks : List Course) → HaveWholeLines ks → flat_map (λ (k : Course). text_marks ops k.text) ks ≡ text_marks ops (courses_text ks)
marks_of_text ops [] whole = sym (no_text_marks ops)
marks_of_text ops (k ∷ ks) whole =
    ap (λ (l : List ℕ). text_marks ops k.text ++ l) (marks_of_text ops ks whole.1) ∙ sym (marks_after ops k.text (courses_text ks) whole.0)

set_length : (ks : List Course) (at : ℕ) (j : Course) → length (slice_set ks at j) ≡ length ks
set_length [] at j = refl
set_length (k ∷ ks) zero j = refl
set_length (k ∷ ks) (suc at) j = ap suc (set_length ks at j)

kept_length : (types : List (List ℕ)) (ks : List Course) (hs : List Happening) (ts : List Turn) (ls : List Course) → TurnsLead types ks hs ts ls → length ls ≡ length ks
kept_length types ks [] [] ls leads = ap (λ (l : List Course). length l) (sym leads)
kept_length types ks (x ∷ hs) (t ∷ ts) ls (k, j, there, leads, rest) = kept_length types (slice_set ks t.place j) hs ts ls rest ∙ set_length ks t.place j
kept_length types ks [] (t ∷ ts) ls leads = absurd leads
kept_length types ks (x ∷ hs) [] ls leads = absurd leads

first_length : (c : RunContents) → length (first_courses c) ≡ length c.head.domains
first_length c = length-map c.head.domains _

-- an order with the marks of a text was found

abbrev IsMarkedOrder : List Op → SearchResult → List ℕ → Type 0
IsMarkedOrder ops found text = (at : ℕ) × (o : FoundText) × (slice_get found.orders.items at ≡ Some o) × (o.text.items ≡ text_marks ops text)

turned_found : (scene : SearchContext) (ops : List Op) (c : RunContents) (found : SearchResult) → IsSceneOf c scene → AllTextsFound (kind_ways scene ops) found → (hs : List Happening) (turns : List Turn) (text : List ℕ) → IsTurnedBy c hs turns text
    → IsMarkedOrder ops found text
turned_found scene ops c found is all hs turns text turned =
    let p = point c [] (first_courses c) in let q = point c hs turned.ends in
    let r = all p turns q (record { scene_is = is; happened = refl; courses = refl }) (goes scene ops c text hs [] hs (first_courses c) turns turned.ends turned.order refl turned.leads turned.over) in
    let many : length turned.ends ≡ length scene.roster.domains.items =
    kept_length (type_names c.head) (first_courses c) hs turns turned.ends turned.leads ∙ first_length c ∙ ap (λ (ds : List DomainConfig). length ds) (sym is.setting.domains) in
    let whole : HaveWholeLines turned.ends = whole_turns (type_names c.head) (first_courses c) hs turns turned.ends turned.leads (whole_first c) in
    let same : text_at (kind_ways scene ops) q ≡ text_marks ops text =
    ap (λ (n : ℕ). flat_map (λ at. text_marks ops (printed_by turned.ends at)) (range_with_len 0 n)) (sym many) ∙ marks_by_place ops turned.ends ∙ marks_of_text ops turned.ends whole ∙ ap (text_marks ops) (sym turned.printed) in
    (r.0, r.1, r.2, r.3 ∙ same)

-- what is at a place of one list is at that place of the other one
at_place : (ops : List Op) (orders : List FoundText) (texts : List (List ℕ)) (at : ℕ) (o : FoundText) (marks : List ℕ) → map (text_marks ops) texts ≡ map order_text orders → slice_get orders at ≡ Some o → o.text.items ≡ marks
    → (one : List ℕ) × (slice_get texts at ≡ Some one) × (text_marks ops one ≡ marks)
at_place ops [] texts at o marks same there is = absurd (cc there)
at_place ops (p ∷ ps) [] at o marks same there is = absurd (cc same)
at_place ops (p ∷ ps) (t ∷ ts) zero o marks same there is = (t, refl, ap head_or same ∙ ap order_text (some_is p o there) ∙ is)
  where
    head_or : List (List ℕ) → List ℕ
    head_or [] = []
    head_or (l ∷ ls) = l

    some_is : (a b : FoundText) → Some a ≡ Some b → a ≡ b
    some_is a b e = cc e
at_place ops (p ∷ ps) (t ∷ ts) (suc at) o marks same there is = at_place ops ps ts at o marks (ap tail_of same) there is
  where
    tail_of : List (List ℕ) → List (List ℕ)
    tail_of [] = []
    tail_of (l ∷ ls) = ls

-- for each text one of its kind was found
pub kind_found : (scene : SearchContext) (expressions : List (Vec Operation)) (c : RunContents) (found : SearchResult) (texts : List FoundText) → IsSceneOf c scene
    → ((d : RunContents) (hs : List Happening) (text : List ℕ) → HaveOwnIds d.head.domains → IsOrderOf d hs text → (turns : List Turn) × IsTurnedBy d hs turns text)
    → AllTextsFound (kind_ways scene (all_operations expressions)) found → map (text_marks (all_operations expressions)) (map order_text texts) ≡ map order_text found.orders.items
    → (text : List ℕ) → MayGive c text → (at : ℕ) × (one : List ℕ) × (slice_get (map order_text texts) at ≡ Some one) × AreOfOneKind (formulas_asked expressions) text one
kind_found scene expressions c found texts is turned all marked text (hs, order) =
    let ops = all_operations expressions in
    let t = turned c hs text is.setting.apart order in
    let f = turned_found scene ops c found is all hs t.0 text t.1 in
    let r = at_place ops found.orders.items (map order_text texts) f.0 f.1 (text_marks ops text) marked f.2 f.3 in
    (f.0, r.0, r.1, same_kind expressions text r.0 (sym r.2))
