-- Each move of a course is among the moves of the state, and a state is at its end exactly if all courses are.
use Rattle.std.proofs.Common.{◌≡◌, ◌≢◌, ◌<◌, ◌≤◌, ℕ, zero, suc, refl, true, false, Bool, cond, List, [], ◌∷◌, length}
use Rattle.std.proofs.Common.{drop, Option, Some, None, sym, ap, ◌∙◌, arith, subst, is_some}
use Rattle.std.specs.Prelude.{◌&&◌, ◌==◌, nat_le, not, slice_get}
use Rattle.std.proofs.lemmas.Bool.{and_parts, eq-eqb, eqb-true}
use Rattle.std.proofs.lemmas.List.{length-map}
use Rattle.std.proofs.lemmas.Option.{none-some, slice_get_within}
use Rattle.gt_model.specs.declared.handle.Handle.{Handle}
use Rattle.gt_model.specs.declared.held.HeldPin.{HeldPin}
use Rattle.gt_model.specs.History.{History, Setting, Underway, mappings_at, open_call}
use Rattle.gt_explore_replay.specs.Courses.{Course, CourseEnds, CourseLeads, Opened, OpenLeads, RestLeads, calling}
use Rattle.gt_explore_replay.specs.Courses.{giving, resting}
use Rattle.gt_explore_replay.specs.Orders.{Happening}
use Rattle.gt_script.specs.Lists.{RunTask}
use Rattle.gt_explore_moves.specs.Calls.{ShowsCalls, ShowsOpen, handles_at}
use Rattle.gt_explore_moves.specs.Ends.{choices_at, is_done, is_ended, tasks_at, turns_from}
use Rattle.gt_explore_moves.specs.declared.actor.Actor.{Actor}
use Rattle.gt_explore_moves.specs.declared.actor.LabelledMapping.{LabelledMapping}
use Rattle.gt_explore_moves.specs.declared.actor.ActorCall.{ActorCall}
use Rattle.gt_explore_moves.specs.declared.scene.SearchContext.{SearchContext}
use Rattle.gt_explore_moves.proofs.MovesListed.{IsListed, turn-listed}

nothing-left : (n : ℕ) (xs : List RunTask) → drop n xs ≡ [] → length xs ≤ n
nothing-left n [] e = omega arith
nothing-left zero (x ∷ xs) e = cc
nothing-left (suc n) (x ∷ xs) e = let le = nothing-left n xs e in omega arith

something-left : (n : ℕ) (xs : List RunTask) (t : RunTask) (ts : List RunTask) → drop n xs ≡ t ∷ ts → n < length xs
something-left zero [] t ts e = cc
something-left (suc n) [] t ts e = cc
something-left zero (x ∷ xs) t ts e = omega arith
something-left (suc n) (x ∷ xs) t ts e = let lt = something-left n xs t ts e in omega arith

left-none : (n : ℕ) (xs : List RunTask) → length xs ≤ n → drop n xs ≡ []
left-none zero [] le = refl
left-none (suc n) [] le = refl
left-none zero (x ∷ xs) le = absurd (omega arith)
left-none (suc n) (x ∷ xs) le = left-none n xs (omega arith)

-- the test of an end
ended-by : (m n : ℕ) (o : Option ActorCall) → o ≡ None → m ≤ n → (not (is_some o) && nat_le m n) ≡ true
ended-by m n o none le = grind arith

open-not : (m n : ℕ) (o : Option ActorCall) (x : ActorCall) → o ≡ Some x → (not (is_some o) && nat_le m n) ≡ false
open-not m n o x some = grind arith

more-not : (m n : ℕ) (o : Option ActorCall) → n < m → (not (is_some o) && nat_le m n) ≡ false
more-not m n o lt = grind arith

-- what the test says
ended-says : (m n : ℕ) (o : Option ActorCall) → (not (is_some o) && nat_le m n) ≡ true → (o ≡ None) × (m ≤ n)
ended-says m n o e = grind arith

module _ (s : Setting) (h : History) (scene : SearchContext) (place : ℕ) (k : Course) (a : Actor) (show : ShowsCalls s h (tasks_at scene place) k a) where
  many : length a.mappings.items ≡ length (handles_at h k.dom)
  many = sym (length-map a.mappings.items (λ (m : LabelledMapping). m.held)) ∙ ap (λ (l : List HeldPin). length l) show.pins
      ∙ length-map (mappings_at h k.dom.0) (λ (m : Handle × HeldPin). m.1) ∙ sym (length-map (mappings_at h k.dom.0) (λ (m : Handle × HeldPin). m.0))

  -- what a domain at rest has open, and holds
  at-rest : (opened : Opened) (c : Option Underway) (o : Option ActorCall) → opened ≡ resting → ShowsOpen s h (tasks_at scene place) k a.next opened c o → (o ≡ None) × (k.held ≡ handles_at h k.dom)
  at-rest opened c o rest show = by c o (subst (λ (z : Opened). ShowsOpen s h (tasks_at scene place) k a.next z c o) rest show) where
    by : (c : Option Underway) (o : Option ActorCall) → ShowsOpen s h (tasks_at scene place) k a.next resting c o → (o ≡ None) × (k.held ≡ handles_at h k.dom)
    by None None show = (refl, show)
    by None (Some o) show = absurd show
    by (Some c) None show = absurd show
    by (Some c) (Some o) show = absurd show

  -- a domain that has something open on its course has it open in the state
  has-open : (opened : Opened) (c : Option Underway) (o : Option ActorCall) → opened ≢ resting → ShowsOpen s h (tasks_at scene place) k a.next opened c o → (x : ActorCall) × (o ≡ Some x)
  has-open resting c o not-rest show = absurd (not-rest refl)
  has-open opened c (Some o) not-rest show = (o, refl)
  has-open (calling line call lost) None None not-rest show = absurd show
  has-open (calling line call lost) (Some c) None not-rest show = absurd show
  has-open giving None None not-rest show = absurd show
  has-open giving (Some c) None not-rest show = absurd show

  open-goes : k.opened ≢ resting → is_ended scene place a ≡ false
  open-goes not-rest = let x = has-open k.opened (open_call h k.dom.0) a.«open» not-rest show.opens in
      open-not (length (tasks_at scene place)) a.next a.«open» x.0 x.1

  -- a course at its end is one of a domain that is done
  pub ends-done : CourseEnds k → is_done scene place a ≡ true
  ends-done e = let rest = at-rest k.opened (open_call h k.dom.0) a.«open» e.opened show.opens in
      let none : length a.mappings.items ≡ 0 = many ∙ ap (λ (l : List Handle). length l) (sym rest.1 ∙ e.held) in
      ap (λ (b : Bool). b && (length a.mappings.items == 0)) (ended-by (length (tasks_at scene place)) a.next a.«open» rest.0 (nothing-left a.next (tasks_at scene place) (sym show.left ∙ e.tasks)))
      ∙ eq-eqb (length a.mappings.items) 0 none

  one-choice : is_ended scene place a ≡ false → choices_at scene place a ≡ 1
  one-choice e = ap (λ (b : Bool). cond b (length a.mappings.items) 1) e

  some-held : (choice : ℕ) (handle : Handle) → k.opened ≡ resting → k.tasks ≡ [] → slice_get k.held choice ≡ Some handle → choice < choices_at scene place a
  some-held choice handle rest left there = let r = at-rest k.opened (open_call h k.dom.0) a.«open» rest show.opens in
      let ended : is_ended scene place a ≡ true = ended-by (length (tasks_at scene place)) a.next a.«open» r.0 (nothing-left a.next (tasks_at scene place) (sym show.left ∙ left)) in
      let lt : choice < length k.held = slice_get_within k.held choice handle there in
      let same : length k.held ≡ length a.mappings.items = ap (λ (l : List Handle). length l) r.1 ∙ sym many in
      subst (λ (n : ℕ). choice < n) (sym (ap (λ (b : Bool). cond b (length a.mappings.items) 1) ended)) (omega arith)

  zero-choice : (choice : ℕ) → choice ≡ 0 → is_ended scene place a ≡ false → choice < choices_at scene place a
  zero-choice choice none e = let one = one-choice e in omega arith

  rest-moves : (types : List (List ℕ)) (choice : ℕ) (x : Happening) (j : Course) (tasks : List RunTask) → k.opened ≡ resting → k.tasks ≡ tasks → RestLeads types k tasks choice x j → choice < choices_at scene place a
  rest-moves types choice x j [] rest left leads = some-held choice leads.0 rest left leads.2
  rest-moves types choice x j (t ∷ ts) rest left leads = zero-choice choice leads.0
      (more-not (length (tasks_at scene place)) a.next a.«open» (something-left a.next (tasks_at scene place) t ts (sym show.left ∙ left)))

  -- each move of a course is one of the moves of its domain
  pub course-moves : (types : List (List ℕ)) (choice : ℕ) (x : Happening) (j : Course) → CourseLeads types k choice x j → choice < choices_at scene place a
  course-moves types choice x j leads = by k.opened refl leads where
    by : (opened : Opened) → k.opened ≡ opened → OpenLeads types k opened choice x j → choice < choices_at scene place a
    by resting is leads = rest-moves types choice x j k.tasks is refl leads
    by (calling line call lost) is leads = zero-choice choice leads.0 (open-goes (λ e. let f : calling line call lost ≡ resting = sym is ∙ e in cc))
    by giving is leads = zero-choice choice leads.0 (open-goes (λ e. let f : giving ≡ resting = sym is ∙ e in cc))

  none-open : (opened : Opened) (c : Option Underway) (o : Option ActorCall) → o ≡ None → ShowsOpen s h (tasks_at scene place) k a.next opened c o → opened ≡ resting
  none-open resting c o none show = refl
  none-open opened c (Some o) none show = absurd (none-some o (sym none))
  none-open (calling line call lost) None None none show = absurd show
  none-open (calling line call lost) (Some c) None none show = absurd show
  none-open giving None None none show = absurd show
  none-open giving (Some c) None none show = absurd show

  no-length : (hs : List Handle) → length hs ≡ 0 → hs ≡ []
  no-length [] e = refl
  no-length (x ∷ hs) e = absurd (omega arith)

  -- a domain that is done is at the end of its course
  pub done-ends : is_done scene place a ≡ true → CourseEnds k
  done-ends e = let both = and_parts (is_ended scene place a) (length a.mappings.items == 0) e in
      let ended = ended-says (length (tasks_at scene place)) a.next a.«open» both.0 in
      let rest : k.opened ≡ resting = none-open k.opened (open_call h k.dom.0) a.«open» ended.0 show.opens in
      let held = at-rest k.opened (open_call h k.dom.0) a.«open» rest show.opens in
      record {
        tasks = show.left ∙ left-none a.next (tasks_at scene place) ended.1;
        opened = rest;
        held = held.1 ∙ no-length (handles_at h k.dom) (sym many ∙ eqb-true (length a.mappings.items) 0 both.1);
      }

  -- so it is among the moves of the state
  pub move-listed : (actors : List Actor) (types : List (List ℕ)) (choice : ℕ) (x : Happening) (j : Course) → slice_get actors place ≡ Some a → CourseLeads types k choice x j → IsListed (turns_from scene 0 actors) place choice
  move-listed actors types choice x j there leads = turn-listed (choices_at scene) actors place a choice there (course-moves types choice x j leads)
