-- The search finds the text of each order, with the precedences that hold in it.
use Rattle.std.proofs.Common.{◌≡◌, ◌∙◌, ◌+◌, ◌<◌, ◌≤◌, ap, refl, sym, subst, arith, ℕ, zero, suc, Bool, true, false, List, [], ◌∷◌, ◌++◌, map, length, take, drop, Option, Some, None, All, append_assoc, append-nil}
use Rattle.std.proofs.lemmas.Bool.{eq-eqb, eqb-true, false≢true, ne_eqb}
use Rattle.std.proofs.lemmas.List.{length-map}
use Rattle.std.proofs.lemmas.List.Elements.{recursion_from_All}
use Rattle.std.proofs.lemmas.Option.{none-some, same_Some, slice_get_within}
use Rattle.std.proofs.Math.Bool.{cond}
use Rattle.std.specs.List.{flat_map, range_with_len}
use Rattle.std.specs.Prelude.{◌==◌, ◌||◌, if◌then◌else◌, slice_get, slice_set}
use Rattle.gt_types.specs.declared.config.DomainConfig.{DomainConfig}
use Rattle.gt_model.specs.declared.handle.Handle.{Handle}
use Rattle.gt_model.specs.declared.trace.Answer.{Answer}
use Rattle.gt_script.specs.Contents.{type_names}
use Rattle.gt_script.specs.Lists.{RunAction, RunTask}
use Rattle.gt_script.specs.RunContents.{RunContents}
use Rattle.gt_script.specs.RunScripts.{list_of}
use Rattle.gt_script.specs.declared.precedence.Precedence.{Precedence}
use Rattle.gt_script.specs.declared.tasks.RunAction.TheVariants.{Do, Tell, Await}
use Rattle.gt_script_lines.specs.declared.calls.ScriptCall.{ScriptCall}
use Rattle.gt_script_runs.specs.Printing.{answer_line}
use Rattle.gt_explore_moves.proofs.Ways.{may-follow}
use Rattle.gt_explore_moves.specs.Scenes.{IsSceneOf}
use Rattle.gt_explore_moves.specs.Spaces.{Point, printed_by}
use Rattle.gt_explore_moves.specs.declared.scene.SearchContext.{SearchContext}
use Rattle.gt_explore_replay.specs.Courses.{ActionLeads, AllCoursesEnd, Course, CourseLeads, IsTurnedBy, OpenLeads, Opened, RestLeads, TurnsLead, back_after}
use Rattle.gt_explore_replay.specs.Courses.{calling, course_after, courses_text, first_courses, giving, resting}
use Rattle.gt_explore_replay.specs.Orders.{Happening, IsOrderOf, given_up}
use Rattle.gt_script_runs.specs.Runs.{answer_in}
use Rattle.gt_explore_replay.specs.Walking.{HaveOwnIds}
use Rattle.gt_explore_search.specs.Exploring.{AllTextsFound}
use Rattle.gt_explore_search.specs.Parts.{Pairwise}
use Rattle.gt_explore_search.specs.Ways.{GoesTo, only_at, text_at}
use Rattle.gt_explore_search.specs.declared.exploring.FoundText.{FoundText}
use Rattle.gt_explore_search.specs.declared.exploring.SearchResult.{SearchResult}
use Rattle.gt_explore_search.specs.declared.spaces.Turn.{Turn}
use Rattle.gt_precedence.proofs.Orders.{all-at}
use Rattle.gt_precedence.specs.Precedence.{IsOrderly}
use Rattle.gt_explore_ordered.specs.Holding.{HoldsAs, IsNotedBy, held_from, held_if, is_completed_if}
use Rattle.gt_explore_ordered.specs.Notes.{Note, bytes_of_notes, has_mark, letter, letters_in, mark_if}
use Rattle.gt_explore_ordered.specs.Ordered.{HasOrder, HoldsExactly, IsOrderedText}
use Rattle.gt_explore_ordered.specs.Places.{OrderIsFound}
use Rattle.gt_explore_ordered.specs.Spaces.{AreCallOrders, IsCallOrder, OrderedPoint, ordered_ways}
use Rattle.gt_explore_ordered.specs.States.{marks_of_orders}
use Rattle.gt_explore_ordered.specs.declared.ordered.OrderedText.{OrderedText}
use Rattle.gt_explore_ordered.specs.declared.places.CallOrder.{CallOrder}
use Rattle.gt_explore_ordered.proofs.Held.{held-more, holds-exactly}
use Rattle.gt_explore_ordered.proofs.NotesRead.{bytes-of-all, is_marked, letters-append, letters-of-all, letters-read, letters_noted, line-letters}
use Rattle.gt_explore_ordered.proofs.NotesRead.{line-unmarked, mark-here, mark-letters, mark-other, mark-read, marked-append, marked-more, or_none}
use Rattle.gt_explore_ordered.proofs.OrderedRuns.{at-place, not-there}
use Rattle.gt_explore_ordered.proofs.PlacedCalls.{placed}

-- marks

module _ (passes : Option CallOrder → Bool) where
  marks-letters : (n : ℕ) (os : List (Option CallOrder)) → letters_noted (marks_of_orders passes n os) ≡ []
  marks-letters n [] = refl
  marks-letters n (o ∷ os) = mark-letters (passes o) n (marks_of_orders passes (n + 1) os) ∙ marks-letters (n + 1) os

  marks-below : (n k : ℕ) (os : List (Option CallOrder)) → k < n → is_marked k (marks_of_orders passes n os) ≡ false
  marks-below n k [] lt = refl
  marks-below n k (o ∷ os) lt = mark-other (passes o) n k (marks_of_orders passes (n + 1) os) (λ e. omega (arith, e, lt)) ∙ marks-below (n + 1) k os (omega (arith, lt))

  marks-at : (n i k : ℕ) (os : List (Option CallOrder)) (o : Option CallOrder) → k ≡ n + i → slice_get os i ≡ Some o → is_marked k (marks_of_orders passes n os) ≡ passes o
  marks-at n i k [] o is there = absurd (none-some o there)
  marks-at n zero k (p ∷ os) o is there =
      let e : k ≡ n = omega (arith, is) in
      ap (λ (m : ℕ). is_marked m (mark_if (passes p) n ++ marks_of_orders passes (n + 1) os)) e
      ∙ mark-here (passes p) n (marks_of_orders passes (n + 1) os) (marks-below (n + 1) n os (omega arith)) ∙ ap passes (same_Some p o there)
  marks-at n (suc i) k (p ∷ os) o is there =
      mark-other (passes p) n k (marks_of_orders passes (n + 1) os) (λ e. omega (arith, e, is)) ∙ marks-at (n + 1) i k os o (omega (arith, is)) there

-- what a move prints

abbrev TextGrows : Course → Course → Type 0
TextGrows k j = (line : List ℕ) × (j.text ≡ k.text ++ line)

still : (k j : Course) → j.text ≡ k.text → TextGrows k j
still k j same = ([], same ∙ sym (append-nil k.text))

after : (types : List (List ℕ)) (line : ℕ) (call : ScriptCall) (lost : Option Handle) (k i j : Course) (o : Option Answer) → i.text ≡ k.text → j ≡ course_after types line call lost i o → TextGrows k j
after types line call lost k i j None same is = still k j (ap (λ (z : Course). z.text) is ∙ same)
after types line call lost k i j (Some answer) same is =
    (answer_line types line i.dom answer, ap (λ (z : Course). z.text) is ∙ ap (λ (l : List ℕ). l ++ answer_line types line i.dom answer) same)

back : (k i j : Course) (o : Option Answer) → i.text ≡ k.text → j ≡ back_after i o → TextGrows k j
back k i j None same is = still k j (ap (λ (z : Course). z.text) is ∙ same)
back k i j (Some answer) same is = still k j (ap (λ (z : Course). z.text) is ∙ same)

action : (types : List (List ℕ)) (k : Course) (line : ℕ) (left : List RunTask) (a : RunAction) (x : Happening) (j : Course) → ActionLeads types k line left a x j → TextGrows k j
action types k line left (Tell flag) x j leads = still k j (ap (λ (z : Course). z.text) leads.1)
action types k line left (Await flag) x j leads = still k j (ap (λ (z : Course). z.text) leads.1)
action types k line left (Do call) x j (request, e, makes, is, left_so) = after types line call (given_up request) k (record k { tasks = left }) j (answer_in e) refl left_so

rest : (types : List (List ℕ)) (k : Course) (tasks : List RunTask) (choice : ℕ) (x : Happening) (j : Course) → RestLeads types k tasks choice x j → TextGrows k j
rest types k [] choice x j (handle, e, there, is, left_so) = back k (record k { held = take choice k.held ++ drop (suc choice) k.held }) j (answer_in e) refl left_so
rest types k (t ∷ ts) choice x j leads = action types k t.line ts t.run_action x j leads.1

by_opened : (types : List (List ℕ)) (k : Course) (o : Opened) (choice : ℕ) (x : Happening) (j : Course) → OpenLeads types k o choice x j → TextGrows k j
by_opened types k resting choice x j leads = rest types k k.tasks choice x j leads
by_opened types k (calling line call lost) choice x j (first, e, is, left_so) = after types line call lost k k j (answer_in e) refl left_so
by_opened types k giving choice x j (first, e, is, left_so) = back k k j (answer_in e) refl left_so

text-grows : (types : List (List ℕ)) (k : Course) (choice : ℕ) (x : Happening) (j : Course) → CourseLeads types k choice x j → TextGrows k j
text-grows types k choice x j leads = by_opened types k k.opened choice x j leads

suc-at : (place at : ℕ) (line : List ℕ) → only_at (suc place) line (suc at) ≡ only_at place line at
suc-at place at line = by (place == at) refl
  where
    by : (b : Bool) → (place == at) ≡ b → only_at (suc place) line (suc at) ≡ only_at place line at
    by true e =
        let is : place ≡ at = eqb-true place at e in
        ap (λ (b : Bool). cond b line []) (eq-eqb (suc place) (suc at) (ap suc is)) ∙ sym (ap (λ (b : Bool). cond b line []) e)
    by false e =
        let away : suc place ≡ suc at → ⊥ = λ is. false≢true (sym e ∙ eq-eqb place at (omega (arith, is))) in
        not-there (suc place) (suc at) line away ∙ sym (ap (λ (b : Bool). cond b line []) e)

printed-set : (ks : List Course) (place : ℕ) (k j : Course) (line : List ℕ) → slice_get ks place ≡ Some k → j.text ≡ k.text ++ line → (at : ℕ) → printed_by (slice_set ks place j) at ≡ printed_by ks at ++ only_at place line at
printed-set [] place k j line there is at = absurd (none-some k there)
printed-set (l ∷ ks) zero k j line there is zero =
    is ∙ ap (λ (z : Course). z.text ++ line) (sym (same_Some l k there)) ∙ ap (λ (m : List ℕ). l.text ++ m) (sym (at-place 0 line))
printed-set (l ∷ ks) zero k j line there is (suc at) = sym (ap (λ (m : List ℕ). printed_by ks at ++ m) (not-there 0 (suc at) line (λ e. omega (arith, e))) ∙ append-nil (printed_by ks at))
printed-set (l ∷ ks) (suc place) k j line there is zero = sym (ap (λ (m : List ℕ). l.text ++ m) (not-there (suc place) 0 line (λ e. omega (arith, e))) ∙ append-nil l.text)
printed-set (l ∷ ks) (suc place) k j line there is (suc at) = printed-set ks place k j line there is at ∙ ap (λ (m : List ℕ). printed_by ks at ++ m) (sym (suc-at place at line))

set-length : (ks : List Course) (at : ℕ) (j : Course) → length (slice_set ks at j) ≡ length ks
set-length [] at j = refl
set-length (k ∷ ks) zero j = refl
set-length (k ∷ ks) (suc at) j = ap suc (set-length ks at j)

-- the way of an order

abbrev point : RunContents → List Happening → List Course → (ℕ → List Note) → OrderedPoint
point c hs ks notes = record { run = record { script = c; happened = hs; courses = ks }; notes = notes }

-- the notes show the text so far, and which precedences hold so far
record NotesShow (orders : List (Option CallOrder)) (domains : ℕ) (hs : List Happening) (ks : List Course) (notes : ℕ → List Note) : Type 0 where
  pub letters : (at : ℕ) → letters_noted (notes at) ≡ printed_by ks at
  pub marks : (i : ℕ) (o : Option CallOrder) → slice_get orders i ≡ Some o → is_marked i (flat_map notes (range_with_len 0 domains)) ≡ held_if hs o
  pub many : length ks ≡ domains

held-next : (hs : List Happening) (x : Happening) (o : Option CallOrder) → held_if (hs ++ x ∷ []) o ≡ (held_if hs o || is_completed_if hs x o)
held-next hs x None = refl
held-next hs x (Some o) = held-more o [] hs x

module _ (scene : SearchContext) (orders : List (Option CallOrder)) (c : RunContents) (whole : List Happening) (text : List ℕ) (order : IsOrderOf c whole text) where
  abbrev domains : ℕ
  domains = length scene.roster.domains.items

  -- one move
  abbrev with_notes : (ℕ → List Note) → ℕ → List Note → ℕ → List Note
  with_notes notes place more at = if place == at then notes at ++ more else notes at

  with-here : (notes : ℕ → List Note) (place : ℕ) (more : List Note) → with_notes notes place more place ≡ notes place ++ more
  with-here notes place more = ap (λ (b : Bool). cond b (notes place ++ more) (notes place)) (eq-eqb place place refl)

  with-others : (notes : ℕ → List Note) (place : ℕ) (more : List Note) (at : ℕ) → (place ≡ at → ⊥) → with_notes notes place more at ≡ notes at
  with-others notes place more at away = ap (λ (b : Bool). cond b (notes at ++ more) (notes at)) (ne_eqb place at away)

  module _ (before : List Happening) (ks : List Course) (notes : ℕ → List Note) (shows : NotesShow orders domains before ks notes) (x : Happening) (t : Turn) (k j : Course) (there : slice_get ks t.place ≡ Some k) (line : List ℕ) (grows : j.text ≡ k.text ++ line) where
    marks : List Note
    marks = marks_of_orders (is_completed_if before x) 0 orders

    abbrev more : List Note
    more = marks_of_orders (is_completed_if before x) 0 orders ++ map letter line

    more-letters : letters_noted more ≡ line
    more-letters =
        letters-append (marks_of_orders (is_completed_if before x) 0 orders) (map letter line)
        ∙ ap (λ (l : List ℕ). l ++ letters_noted (map letter line)) (marks-letters (is_completed_if before x) 0 orders) ∙ line-letters line

    more-marked : (i : ℕ) (o : Option CallOrder) → slice_get orders i ≡ Some o → is_marked i more ≡ is_completed_if before x o
    more-marked i o at =
        marked-append i (marks_of_orders (is_completed_if before x) 0 orders) (map letter line)
        ∙ ap (λ (b : Bool). is_marked i (marks_of_orders (is_completed_if before x) 0 orders) || b) (line-unmarked i line)
        ∙ or_none (is_marked i (marks_of_orders (is_completed_if before x) 0 orders)) ∙ marks-at (is_completed_if before x) 0 i i orders o (omega arith) at

    letters-next : (at : ℕ) → letters_noted (with_notes notes t.place more at) ≡ printed_by (slice_set ks t.place j) at
    letters-next at = by (t.place == at) refl ∙ sym (printed-set ks t.place k j line there grows at)
      where
        by : (b : Bool) → (t.place == at) ≡ b → letters_noted (with_notes notes t.place more at) ≡ printed_by ks at ++ only_at t.place line at
        by true e =
            ap (λ (b : Bool). letters_noted (cond b (notes at ++ more) (notes at))) e ∙ letters-append (notes at) more
            ∙ ap (λ (l : List ℕ). l ++ letters_noted more) (shows.letters at) ∙ ap (λ (l : List ℕ). printed_by ks at ++ l) (more-letters ∙ sym (ap (λ (b : Bool). cond b line []) e))
        by false e =
            ap (λ (b : Bool). letters_noted (cond b (notes at ++ more) (notes at))) e ∙ shows.letters at
            ∙ sym (ap (λ (l : List ℕ). printed_by ks at ++ l) (ap (λ (b : Bool). cond b line []) e) ∙ append-nil (printed_by ks at))

    shows-next : NotesShow orders domains (before ++ x ∷ []) (slice_set ks t.place j) (with_notes notes t.place more)
    shows-next = record {
      letters = letters-next;
      marks = λ i o at.
          let within = slice_get_within ks t.place k there in let many = shows.many in
          marked-more notes (with_notes notes t.place more) t.place more i (with-here notes t.place more) (with-others notes t.place more) 0 domains (omega arith) (omega (arith, within, many))
          ∙ ap (λ (b : Bool). b || is_marked i more) (shows.marks i o at) ∙ ap (λ (b : Bool). held_if before o || b) (more-marked i o at) ∙ sym (held-next before x o);
      many = set-length ks t.place j ∙ shows.many;
    }

  record Goes (p : OrderedPoint) (turns : List Turn) (ends : List Course) : Type 0 where
    pub last : OrderedPoint
    pub goes : GoesTo (ordered_ways scene orders) p turns last
    pub shows : NotesShow orders domains whole ends last.notes

  goes : (before left : List Happening) (ks : List Course) (notes : ℕ → List Note) (turns : List Turn) (ends : List Course) → whole ≡ before ++ left → TurnsLead (type_names c.head) ks left turns ends → AllCoursesEnd ends
      → NotesShow orders domains before ks notes → Goes (point c before ks notes) turns ends
  goes before [] ks notes [] ends parts leads over shows =
      let all : whole ≡ before = parts ∙ append-nil before in record {
        last = point c before ks notes;
        goes = (refl, subst AllCoursesEnd (sym leads) over);
        shows = subst (λ (ls : List Course). NotesShow orders domains whole ls notes) leads (subst (λ (hs : List Happening). NotesShow orders domains hs ks notes) (sym all) shows);
      }
  goes before (x ∷ left) ks notes (t ∷ ts) ends parts (k, j, there, leads, rest) over shows =
      let (line, grows) = text-grows (type_names c.head) k t.choice x j leads in
      let more = marks_of_orders (is_completed_if before x) 0 orders ++ map letter line in
      let new = with_notes notes t.place more in
      let later = goes (before ++ x ∷ []) left (slice_set ks t.place j) new ts ends (parts ∙ sym (append_assoc before (x ∷ []) left)) rest over (shows-next before ks notes shows x t k j there line grows) in record {
        last = later.last;
        goes = (
          point c (before ++ x ∷ []) (slice_set ks t.place j) new,
          record {
            run = record {
              script = refl;
              k = k;
              j = j;
              x = x;
              there = there;
              leads = leads;
              next = may-follow c before x left text (subst (λ (hs : List Happening). IsOrderOf c hs text) parts order);
              happened = refl;
              courses = refl;
            };
            line = line;
            prints = printed-set ks t.place k j line there grows;
            more = more;
            is_more = refl;
            here = with-here notes t.place more;
            others = with-others notes t.place more;
          },
          later.goes,
        );
        shows = later.shows;
      }
  goes before [] ks notes (t ∷ ts) ends parts leads over shows = absurd leads
  goes before (x ∷ left) ks notes [] ends parts leads over shows = absurd leads

-- its text

shifted : (f g : ℕ → List ℕ) (base n : ℕ) → ((i : ℕ) → f (suc i) ≡ g i) → flat_map f (range_with_len (suc base) n) ≡ flat_map g (range_with_len base n)
shifted f g base zero same = refl
shifted f g base (suc n) same = ap (λ (l : List ℕ). l ++ flat_map f (range_with_len (suc base + 1) n)) (same base)
    ∙ ap (λ (l : List ℕ). g base ++ l) (ap (λ (m : ℕ). flat_map f (range_with_len m n)) (let e : suc base + 1 ≡ suc (base + 1) = omega arith in e) ∙ shifted f g (base + 1) n same)

text-of : (ks : List Course) → flat_map (printed_by ks) (range_with_len 0 (length ks)) ≡ courses_text ks
text-of [] = refl
text-of (k ∷ ks) = ap (λ (l : List ℕ). k.text ++ l) (shifted (printed_by (k ∷ ks)) (printed_by ks) 0 (length ks) (λ i. refl) ∙ text-of ks)

first-blank : (c : RunContents) (make : DomainConfig → Course) → ((d : DomainConfig) → (make d).text ≡ []) → (ds : List DomainConfig) (at : ℕ) → printed_by (map make ds) at ≡ []
first-blank c make none [] at = refl
first-blank c make none (d ∷ ds) zero = none d
first-blank c make none (d ∷ ds) (suc at) = first-blank c make none ds at

unmarked : (i : ℕ) (xs : List ℕ) → is_marked i (flat_map (λ at. []) xs) ≡ false
unmarked i [] = refl
unmarked i (x ∷ xs) = unmarked i xs

-- what is found of an order

record FoundOrder (orders : List (Option CallOrder)) (found : SearchResult) (hs : List Happening) (text : List ℕ) : Type 0 where
  pub at : ℕ
  pub o : FoundText
  pub there : slice_get found.orders.items at ≡ Some o
  pub letters : letters_in None o.text.items ≡ text
  pub marks : (i : ℕ) (order : Option CallOrder) → slice_get orders i ≡ Some order → has_mark i None o.text.items ≡ held_if hs order

order-found : (scene : SearchContext) (orders : List (Option CallOrder)) (c : RunContents) (found : SearchResult) → IsSceneOf c scene → AreCallOrders c orders → AllTextsFound (ordered_ways scene orders) found
    → (hs : List Happening) (turns : List Turn) (text : List ℕ) → IsTurnedBy c hs turns text → FoundOrder orders found hs text
order-found scene orders c found is placed all hs turns text turned =
    let n = length scene.roster.domains.items in
    let many : length (first_courses c) ≡ n = length-map c.head.domains _ ∙ ap (λ (ds : List DomainConfig). length ds) (sym is.setting.domains) in
    let start : NotesShow orders n [] (first_courses c) (λ at. []) = record {
      letters = λ at. sym (first-blank c _ (λ d. refl) c.head.domains at);
      marks = λ i o at. unmarked i (range_with_len 0 n) ∙ none o;
      many = many;
    } in
    let r = goes scene orders c hs text turned.order [] hs (first_courses c) (λ at. []) turns turned.ends refl turned.leads turned.over start in
    let f = all (point c [] (first_courses c) (λ at. [])) turns r.last (record { scene_is = is; happened = refl; courses = refl }, placed, λ at. refl) r.goes in
    let notes = flat_map r.last.notes (range_with_len 0 n) in
    let bytes : f.1.text.items ≡ bytes_of_notes notes = f.3 ∙ bytes-of-all r.last.notes (range_with_len 0 n) in record {
      at = f.0;
      o = f.1;
      there = f.2;
      letters = ap (letters_in None) bytes ∙ letters-read notes ∙ letters-of-all r.last.notes (printed_by turned.ends) (range_with_len 0 n) r.shows.letters
          ∙ ap (λ (m : ℕ). flat_map (printed_by turned.ends) (range_with_len 0 m)) (sym r.shows.many) ∙ text-of turned.ends ∙ sym turned.printed;
      marks = λ i o at. ap (has_mark i None) bytes ∙ mark-read i notes ∙ r.shows.marks i o at;
    }
  where
    none : (o : Option CallOrder) → false ≡ held_if [] o
    none None = refl
    none (Some o) = refl

-- the precedences of a text

same-held : (held : List Bool) (orders : List (Option CallOrder)) (f : Option CallOrder → Bool) → length held ≡ length orders → ((k : ℕ) (o : Option CallOrder) → slice_get orders k ≡ Some o → slice_get held k ≡ Some (f o)) → held ≡ map f orders
same-held [] [] f many each = refl
same-held (b ∷ held) [] f many each = absurd (omega (arith, many))
same-held [] (o ∷ orders) f many each = absurd (omega (arith, many))
same-held (b ∷ held) (o ∷ orders) f many each =
    ap (λ (q : Bool). q ∷ held) (same_Some b (f o) (each 0 o refl)) ∙ ap (λ (l : List Bool). f o ∷ l) (same-held held orders f (omega (arith, many)) (λ k p there. each (suc k) p there))

other-one : {X Y : Type 0} (R : X → Y → Type 0) (xs : List X) (ys : List Y) (at : ℕ) (x : X) → Pairwise R xs ys → slice_get xs at ≡ Some x → (y : Y) × (slice_get ys at ≡ Some y) × R x y
other-one R [] ys at x pairs there = absurd (none-some x there)
other-one R (z ∷ xs) [] at x pairs there = absurd pairs
other-one R (z ∷ xs) (y ∷ ys) zero x pairs there = (y, refl, subst (λ w. R w y) (same_Some z x there) pairs.0)
other-one R (z ∷ xs) (y ∷ ys) (suc at) x pairs there = other-one R xs ys at x pairs.1 there

pub are-placed : (c : RunContents) (lists : List (List RunTask)) → lists ≡ map (λ (d : DomainConfig). list_of c.tasks d.id) c.head.domains → (all : List Precedence) (orders : List (Option CallOrder)) → Pairwise (OrderIsFound lists) all orders → AreCallOrders c orders
are-placed c lists are [] [] found = tt
are-placed c lists are (lines ∷ all) (o ∷ orders) found = (by o found.0, are-placed c lists are all orders found.1)
  where
    by : (o : Option CallOrder) → OrderIsFound lists lines o → IsCallOrder c o
    by None found = tt
    by (Some o) found = ((placed c lines.first lists are o.first found.0).0, (placed c lines.second lists are o.second found.1).0)
are-placed c lists are [] (o ∷ orders) found = absurd found
are-placed c lists are (lines ∷ all) [] found = absurd found

module _ (c : RunContents) (orderly : IsOrderly c) (lists : List (List RunTask)) (are : lists ≡ map (λ (d : DomainConfig). list_of c.tasks d.id) c.head.domains) (all : List Precedence) (orders : List (Option CallOrder)) (pairs : Pairwise (OrderIsFound lists) all orders) where
  -- a text that was replayed is one of the script
  pub ordered-text : (t : OrderedText) → HoldsAs c orders t → IsOrderedText c all t
  ordered-text t (hs, order, held) = (hs, order, subst (HoldsExactly c hs all) (sym held) (holds-exactly c orderly lists are hs all orders pairs))

  -- each order has its text among those found
  pub each-ordered : (scene : SearchContext) (found : SearchResult) (texts : List OrderedText) → IsSceneOf c scene
      → ((d : RunContents) (hs : List Happening) (text : List ℕ) → HaveOwnIds d.head.domains → IsOrderOf d hs text → (turns : List Turn) × IsTurnedBy d hs turns text)
      → AllTextsFound (ordered_ways scene orders) found → All (HoldsAs c orders) texts → Pairwise (λ (o : FoundText) (t : OrderedText). IsNotedBy o.text.items t) found.orders.items texts
      → (hs : List Happening) (text : List ℕ) → IsOrderOf c hs text → HasOrder c all texts hs text
  each-ordered scene found texts is turned each hold noted hs text order =
      let t = turned c hs text is.setting.apart order in
      let f = order-found scene orders c found is (are-placed c lists are all orders pairs) each hs t.0 text t.1 in
      let (one, there, notes) = other-one (λ (o : FoundText) (t : OrderedText). IsNotedBy o.text.items t) found.orders.items texts f.at f.o noted f.there in
      let h = all-at (HoldsAs c orders) texts f.at one (recursion_from_All (HoldsAs c orders) texts hold) there in
      let many : length one.held.items ≡ length orders = ap (λ (l : List Bool). length l) h.2 ∙ length-map orders (held_if h.0) in
      let held : one.held.items ≡ map (held_if hs) orders =
      same-held one.held.items orders (held_if hs) many (λ k o at.
      let within = slice_get_within orders k o at in notes.1 k (omega (arith, many, within)) ∙ ap (λ (b : Bool). Some b) (f.marks k o at)) in
      (f.at, one, there, sym notes.0 ∙ f.letters, subst (HoldsExactly c hs all) (sym held) (holds-exactly c orderly lists are hs all orders pairs))
