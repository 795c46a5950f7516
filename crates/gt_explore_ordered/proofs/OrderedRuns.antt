-- The moves and turns of runs of which notes are printed are those of the script.
use Rattle.std.proofs.Common.{◌≡◌, ◌∙◌, ap, refl, sym, subst, ℕ, zero, suc, Bool, true, false, List, [], ◌∷◌, ◌++◌, ◌⊎◌, inl, inr, map, Option, Some, append-nil, arith}
use Rattle.std.proofs.lemmas.Bool.{cases_order, eq-eqb, eqb-true, false≢true, ne_eqb}
use Rattle.std.proofs.lemmas.Grind.{flat_map-append}
use Rattle.std.proofs.lemmas.List.{append_cancel_left}
use Rattle.std.proofs.lemmas.Option.{none-some, same_Some, slice_get-map}
use Rattle.std.proofs.Math.Bool.{cond}
use Rattle.std.specs.Option.{option_map}
use Rattle.std.specs.Prelude.{◌==◌, if◌then◌else◌, slice_get, slice_set}
use Rattle.gt_types.specs.declared.DomId.{DomId}
use Rattle.gt_types.specs.declared.config.DomainConfig.{DomainConfig}
use Rattle.gt_script.specs.Contents.{type_names}
use Rattle.gt_script.specs.RunContents.{RunContents}
use Rattle.gt_script.specs.RunScripts.{list_of}
use Rattle.gt_explore_replay.proofs.Coming.{apart_at, mapped_back}
use Rattle.gt_explore_replay.specs.Courses.{Course, CourseLeads, first_courses}
use Rattle.gt_explore_replay.specs.Orders.{Happening, doer}
use Rattle.gt_explore_replay.specs.Walking.{HaveOwnIds}
use Rattle.gt_explore_moves.specs.Spaces.{Point, RunComesTo, printed_by, scene_ways}
use Rattle.gt_explore_moves.specs.declared.scene.SearchContext.{SearchContext}
use Rattle.gt_explore_moves.specs.declared.scene.SearchState.{SearchState}
use Rattle.gt_explore_search.proofs.Finding.{each_enough}
use Rattle.gt_explore_search.specs.Ways.{HasEachTurn, HasEnoughTurns, LedFits, MayEnd, MovesTo, ShowsFirst, only_at}
use Rattle.gt_explore_search.specs.declared.spaces.Turn.{Turn}
use Rattle.gt_explore_search.specs.declared.spaces.TurnResult.{TurnResult}
use Rattle.gt_explore_search.specs.declared.spaces.TurnResult.TheVariants.{Answered, Nowhere, On}
use Rattle.gt_explore_ordered.specs.Holding.{is_completed_if}
use Rattle.gt_explore_ordered.specs.Notes.{Note, bytes_of_letters, bytes_of_notes, letter, note_bytes}
use Rattle.gt_explore_ordered.specs.Spaces.{AreCallOrders, CallsAreCounted, ComesOrdered, IsNoted, NotesPrinted, OrderedPoint, ordered_ways}
use Rattle.gt_explore_ordered.specs.States.{completes, marks_of_orders}
use Rattle.gt_explore_ordered.specs.declared.places.CallOrder.{CallOrder}
use Rattle.gt_explore_ordered.proofs.Counts.{counted-first, counted-next, counted-still, its-doer}
use Rattle.gt_explore_ordered.proofs.StateMarks.{marks-same}

-- counts along a run

first-counted : (c : RunContents) (make : DomainConfig → Course) (ds : List DomainConfig) → ((d : DomainConfig) → CallsAreCounted c [] (make d)) → (at : ℕ) (k : Course) → slice_get (map make ds) at ≡ Some k → CallsAreCounted c [] k
first-counted c make [] each at k there = absurd (none-some k there)
first-counted c make (d ∷ ds) each zero k there = subst (CallsAreCounted c []) (same_Some (make d) k there) (each d)
first-counted c make (d ∷ ds) each (suc at) k there = first-counted c make ds each at k there

pub all-first : (c : RunContents) (at : ℕ) (k : Course) → slice_get (first_courses c) at ≡ Some k → CallsAreCounted c [] k
all-first c at k there = first-counted c _ c.head.domains (counted-first c) at k there

set-other : (ks : List Course) (place at : ℕ) (j : Course) → (place ≡ at → ⊥) → slice_get (slice_set ks place j) at ≡ slice_get ks at
set-other [] place at j other = refl
set-other (k ∷ ks) zero zero j other = absurd (other refl)
set-other (k ∷ ks) zero (suc at) j other = refl
set-other (k ∷ ks) (suc place) zero j other = refl
set-other (k ∷ ks) (suc place) (suc at) j other = set-other ks place at j (λ e. other (ap suc e))

set-here : (ks : List Course) (place : ℕ) (k j : Course) → slice_get ks place ≡ Some k → slice_get (slice_set ks place j) place ≡ Some j
set-here [] place k j there = absurd (none-some k there)
set-here (l ∷ ks) zero k j there = refl
set-here (l ∷ ks) (suc place) k j there = set-here ks place k j there

-- the domains of two courses have different numbers
apart-courses : (c : RunContents) (ks : List Course) → map (λ (k : Course). k.dom) ks ≡ map (λ (d : DomainConfig). d.id) c.head.domains → HaveOwnIds c.head.domains → (i j : ℕ) (k l : Course) → slice_get ks i ≡ Some k → slice_get ks j ≡ Some l → (i ≡ j → ⊥) → k.dom.0 ≡ l.dom.0 → ⊥
apart-courses c ks domains apart i j k l one two other same =
    let (d, at, id) = found i k one in let (e, there, name) = found j l two in
    let equal : d.id.0 ≡ e.id.0 = ap (λ (n : DomId). n.0) id ∙ same ∙ ap (λ (n : DomId). n.0) (sym name) in
    elim (cases_order i j) [
      | inl here ↦ other here
      | inr differ ↦ elim differ [
        | inl below ↦ apart_at c.head.domains i j d e apart at there below equal
        | inr above ↦ apart_at c.head.domains j i e d apart there at above (sym equal)
      ]
    ]
  where
    found : (i : ℕ) (k : Course) → slice_get ks i ≡ Some k → (d : DomainConfig) × (slice_get c.head.domains i ≡ Some d) × (d.id ≡ k.dom)
    found i k at = mapped_back (λ (e : DomainConfig). e.id) (slice_get c.head.domains i) k.dom
        (sym (slice_get-map (λ (e : DomainConfig). e.id) c.head.domains i) ∙ ap (λ (l : List DomId). slice_get l i) (sym domains) ∙ slice_get-map (λ (z : Course). z.dom) ks i ∙ ap (option_map (λ (z : Course). z.dom)) at)

pub all-next : (c : RunContents) (hs : List Happening) (ks : List Course) → map (λ (k : Course). k.dom) ks ≡ map (λ (d : DomainConfig). d.id) c.head.domains → HaveOwnIds c.head.domains
    → ((at : ℕ) (k : Course) → slice_get ks at ≡ Some k → CallsAreCounted c hs k) → (place choice : ℕ) (k j : Course) (x : Happening) → slice_get ks place ≡ Some k → CourseLeads (type_names c.head) k choice x j
    → (at : ℕ) (l : Course) → slice_get (slice_set ks place j) at ≡ Some l → CallsAreCounted c (hs ++ x ∷ []) l
all-next c hs ks domains apart counted place choice k j x there leads at l is = by (place == at) refl
  where
    by : (b : Bool) → (place == at) ≡ b → CallsAreCounted c (hs ++ x ∷ []) l
    by true e =
        let here : place ≡ at = eqb-true place at e in
        let same : j ≡ l = same_Some j l (sym (set-here ks place k j there) ∙ ap (slice_get (slice_set ks place j)) here ∙ is) in
        subst (CallsAreCounted c (hs ++ x ∷ [])) same (counted-next c hs k (counted place k there) (type_names c.head) choice x j leads)
    by false e =
        let away : place ≡ at → ⊥ = λ here. false≢true (sym e ∙ eq-eqb place at here) in
        let old : slice_get ks at ≡ Some l = sym (set-other ks place at j away) ∙ is in
        let own = its-doer (type_names c.head) k choice x j leads in
        counted-still c hs x l (ne_eqb _ _ (λ same. apart-courses c ks domains apart place at k l there old away (ap (λ (d : DomId). d.0) (sym own) ∙ same))) (counted at l old)

-- the space

pub at-place : (place : ℕ) (line : List ℕ) → only_at place line place ≡ line
at-place place line = ap (λ (b : Bool). cond b line []) (eq-eqb place place refl)

pub not-there : (place at : ℕ) (line : List ℕ) → (place ≡ at → ⊥) → only_at place line at ≡ []
not-there place at line other = ap (λ (b : Bool). cond b line []) (ne_eqb place at other)

module _ (scene : SearchContext) (orders : List (Option CallOrder)) where
  pub starts : (w : SearchState) → ShowsFirst (scene_ways scene) w → ShowsFirst (ordered_ways scene orders) w
  starts w shows p begins = (
    shows p.run begins.0,
    begins.1,
    λ at k there.
        let e = begins.0.happened in
        subst (λ (hs : List Happening). CallsAreCounted p.run.script hs k) (sym e) (all-first p.run.script at k (ap (λ (ks : List Course). slice_get ks at) (sym begins.0.courses) ∙ there)),
  )

  pub enough : (w : SearchState) (turns : List Turn) → HasEachTurn (scene_ways scene) w turns → HasEnoughTurns (ordered_ways scene orders) w turns
  enough w turns each = each_enough (ordered_ways scene orders) w turns (λ p turn q shows next. each p.run turn q.run shows.0 next.run)

  pub may-end : (w : SearchState) → MayEnd (ordered_ways scene orders) w → MayEnd (scene_ways scene) w
  may-end w (p, shows, ends) = (p.run, shows.0, ends)

  -- a move prints its notes

  prints : (place : ℕ) (p q : OrderedPoint) (more : List Note) (made : TurnResult) → q.notes place ≡ p.notes place ++ more → ((at : ℕ) → (place ≡ at → ⊥) → q.notes at ≡ p.notes at)
      → NotesPrinted made (bytes_of_notes more) → LedFits (ordered_ways scene orders) made place p q
  prints place p q more Nowhere here others printed = absurd printed
  prints place p q more On here others printed = λ at. by at (place == at) refl
    where
      by : (at : ℕ) (b : Bool) → (place == at) ≡ b → bytes_of_notes (q.notes at) ≡ bytes_of_notes (p.notes at) ++ []
      by at true e =
          let is : place ≡ at = eqb-true place at e in
          ap bytes_of_notes (subst (λ (n : ℕ). q.notes n ≡ p.notes n ++ more) is here) ∙ flat_map-append note_bytes (p.notes at) more ∙ ap (λ (l : List ℕ). bytes_of_notes (p.notes at) ++ l) printed
      by at false e = ap bytes_of_notes (others at (λ is. false≢true (sym e ∙ eq-eqb place at is))) ∙ sym (append-nil (bytes_of_notes (p.notes at)))
  prints place p q more (Answered line) here others printed = λ at. by at (place == at) refl
    where
      by : (at : ℕ) (b : Bool) → (place == at) ≡ b → bytes_of_notes (q.notes at) ≡ bytes_of_notes (p.notes at) ++ only_at place line.items at
      by at true e =
          let is : place ≡ at = eqb-true place at e in
          ap bytes_of_notes (subst (λ (n : ℕ). q.notes n ≡ p.notes n ++ more) is here) ∙ flat_map-append note_bytes (p.notes at) more
          ∙ ap (λ (l : List ℕ). bytes_of_notes (p.notes at) ++ l) (sym printed ∙ sym (ap (λ (b : Bool). cond b line.items []) e))
      by at false e =
          ap bytes_of_notes (others at (λ is. false≢true (sym e ∙ eq-eqb place at is)))
          ∙ sym (ap (λ (l : List ℕ). bytes_of_notes (p.notes at) ++ l) (ap (λ (b : Bool). cond b line.items []) e) ∙ append-nil (bytes_of_notes (p.notes at)))

  -- what the script's move printed is the line of the run's move
  same-line : (p : OrderedPoint) (turn : Turn) (q : OrderedPoint) (next : ComesOrdered orders p turn q) (line : List ℕ) → printed_by q.run.courses turn.place ≡ printed_by p.run.courses turn.place ++ line → next.line ≡ line
  same-line p turn q next line led =
      append_cancel_left (printed_by p.run.courses turn.place) next.line line
      (ap (λ (l : List ℕ). printed_by p.run.courses turn.place ++ l) (sym (at-place turn.place next.line)) ∙ sym (next.prints turn.place) ∙ led)

  fits : (old : SearchState) (turn : Turn) (p q : OrderedPoint) (next : ComesOrdered orders p turn q) (marks : List Note) → marks ≡ marks_of_orders (is_completed_if p.run.happened next.run.x) 0 orders → (led made : TurnResult)
      → IsNoted (bytes_of_notes marks) led made → LedFits (scene_ways scene) led turn.place p.run q.run → LedFits (ordered_ways scene orders) made turn.place p q
  fits old turn p q next marks are Nowhere made noted led = absurd led
  fits old turn p q next marks are On made noted led =
      let none : next.line ≡ [] = same-line p turn q next [] (led turn.place) in
      let more : next.more ≡ marks = next.is_more ∙ ap (λ (l : List ℕ). marks_of_orders (is_completed_if p.run.happened next.run.x) 0 orders ++ map letter l) none ∙ append-nil (marks_of_orders (is_completed_if p.run.happened next.run.x) 0 orders) ∙ sym are in
      prints turn.place p q next.more made next.here next.others (subst (λ (ns : List Note). NotesPrinted made (bytes_of_notes ns)) (sym more) noted)
  fits old turn p q next marks are (Answered line) made noted led =
      let same : next.line ≡ line.items = same-line p turn q next line.items (led turn.place ∙ ap (λ (l : List ℕ). printed_by p.run.courses turn.place ++ l) (at-place turn.place line.items)) in
      let more : next.more ≡ marks ++ map letter line.items =
      next.is_more ∙ ap (λ (l : List ℕ). marks_of_orders (is_completed_if p.run.happened next.run.x) 0 orders ++ map letter l) same ∙ ap (λ (ns : List Note). ns ++ map letter line.items) (sym are) in
      let bytes : bytes_of_notes next.more ≡ bytes_of_notes marks ++ bytes_of_letters line.items = ap bytes_of_notes more ∙ flat_map-append note_bytes marks (map letter line.items) in
      prints turn.place p q next.more made next.here next.others (subst (NotesPrinted made) (sym bytes) noted)

  pub moves : (old : SearchState) (turn : Turn) (led made : TurnResult) (new : SearchState) → IsNoted (bytes_of_notes (marks_of_orders (completes old turn) 0 orders)) led made
      → MovesTo (scene_ways scene) old turn led new → MovesTo (ordered_ways scene orders) old turn made new
  moves old turn led made new noted inner p q (shows, placed, counted) next =
      let c = p.run.script in let run = next.run in
      let m = inner p.run q.run shows run in
      let are = marks-same c scene p.run.happened p.run.courses old shows.0 shows.1 counted turn run.k run.j run.x run.there run.leads 0 orders placed in
      let later = all-next c p.run.happened p.run.courses shows.1.domains shows.0.setting.apart counted turn.place turn.choice run.k run.j run.x run.there run.leads in (
        fits old turn p q next (marks_of_orders (completes old turn) 0 orders) are led made noted m.0,
        (
          m.1,
          subst (λ (d : RunContents). AreCallOrders d orders) (sym run.script) placed,
          λ at l there.
              subst (λ (d : RunContents). CallsAreCounted d q.run.happened l) (sym run.script)
              (subst (λ (hs : List Happening). CallsAreCounted c hs l) (sym run.happened) (later at l (ap (λ (ks : List Course). slice_get ks at) (sym run.courses) ∙ there))),
        ),
      )
