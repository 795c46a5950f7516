-- What one state shows is shown by one that is the same.
use Rattle.std.proofs.Common.{◌≡◌, ◌+◌, ◌≤◌, ℕ, zero, suc, refl, List, [], ◌∷◌, length, drop, Option, Bool, Some, sym}
use Rattle.std.proofs.Common.{ap, ◌∙◌, subst}
use Rattle.std.specs.Prelude.{slice_get}
use Rattle.std.proofs.lemmas.Option.{none-some, same_Some}
use Rattle.gt_model.specs.History.{History, Setting, maps_answered_at, open_call}
use Rattle.gt_script_runs.specs.Playing.{setting_of_script}
use Rattle.gt_explore_replay.specs.Abreast.{history_in}
use Rattle.gt_explore_replay.specs.Courses.{Course}
use Rattle.gt_explore_replay.specs.Orders.{Happening}
use Rattle.gt_script.specs.Lists.{RunTask}
use Rattle.gt_script.specs.RunContents.{RunContents}
use Rattle.gt_explore_moves.specs.Calls.{LabelsShow, ShowsCalls, ShowsOpen, handles_at, tasks_open}
use Rattle.gt_explore_moves.specs.Copies.{SameActor, SameActors, SameWorld}
use Rattle.gt_explore_moves.specs.Ends.{tasks_at}
use Rattle.gt_explore_moves.specs.Scenes.{SceneShows}
use Rattle.gt_explore_moves.specs.Spaces.{scene_ways}
use Rattle.gt_explore_moves.specs.declared.actor.Actor.{Actor}
use Rattle.gt_explore_moves.specs.declared.actor.ActorCall.{ActorCall}
use Rattle.gt_explore_moves.specs.declared.scene.SearchContext.{SearchContext}
use Rattle.gt_explore_moves.specs.declared.scene.SearchState.{SearchState}
use Rattle.gt_explore_search.specs.Ways.{IsShownSo}
use Rattle.gt_explore_state.proofs.Copying.{pages-shown-again, tables-shown-again}

same-many : (xs ys : List Actor) → SameActors xs ys → length ys ≡ length xs
same-many [] [] a = refl
same-many (x ∷ xs) (y ∷ ys) a = ap suc (same-many xs ys a.1)
same-many [] (y ∷ ys) a = absurd a
same-many (x ∷ xs) [] a = absurd a

same-at : (xs ys : List Actor) (k : ℕ) (y : Actor) → SameActors xs ys → slice_get ys k ≡ Some y → (x : Actor) × (slice_get xs k ≡ Some x) × SameActor x y
same-at [] [] k y a e = absurd (none-some y e)
same-at (x ∷ xs) (z ∷ ys) zero y a e = (x, refl, subst (SameActor x) (same_Some z y e) a.0)
same-at (x ∷ xs) (z ∷ ys) (suc k) y a e = same-at xs ys k y a.1 e
same-at [] (z ∷ ys) k y a e = absurd a
same-at (x ∷ xs) [] k y a e = absurd a

-- a domain
shows-calls : (s : Setting) (h : History) (tasks : List RunTask) (k : Course) (a b : Actor) → SameActor a b → ShowsCalls s h tasks k a → ShowsCalls s h tasks k b
shows-calls s h tasks k a b same show = record {
  left = show.left ∙ ap (λ (n : ℕ). drop n tasks) (sym same.next);
  begun = subst (λ (n : ℕ). n ≤ length tasks) (sym same.next) show.begun;
  few = subst (λ (n : ℕ). maps_answered_at h k.dom.0 + tasks_open k.opened ≤ n) (sym same.next) show.few;
  rising = show.rising;
  pins = same.pins ∙ show.pins;
  labels = subst (λ (ls : List (Option (List ℕ))). LabelsShow k.named k.dom (handles_at h k.dom) ls) (sym same.labels) show.labels;
  opens = subst (λ (n : ℕ). ShowsOpen s h tasks k n k.opened (open_call h k.dom.0) b.«open») (sym same.next)
      (subst (λ (o : Option ActorCall). ShowsOpen s h tasks k a.next k.opened (open_call h k.dom.0) o) (sym same.open_call) show.opens);
}

shows-again : (c : RunContents) (scene : SearchContext) (hs : List Happening) (ks : List Course) (w v : SearchState) → SameWorld w v → SceneShows c scene hs ks w → SceneShows c scene hs ks v
shows-again c scene hs ks w v same show = record {
  domains = show.domains;
  many = same-many w.actors.items v.actors.items same.actors ∙ show.many;
  each = λ at k b here there. let a = same-at w.actors.items v.actors.items at b same.actors there in
      shows-calls (setting_of_script c.head) (history_in hs) (tasks_at scene at) k a.0 b a.2 (show.each at k a.0 here a.1);
  answered = show.answered;
  tables = tables-shown-again (setting_of_script c.head) (history_in hs) w.ground.tables.items v.ground.tables.items same.tables show.tables;
  pages = pages-shown-again (history_in hs) w.ground.pages.items v.ground.pages.items same.pages show.pages;
  like = show.like;
  asked = show.asked;
  flags = ap (λ (l : List Bool). length l) same.told ∙ show.flags;
  told = λ flag before. ap (λ (l : List Bool). slice_get l flag) same.told ∙ show.told flag before;
  heard = λ flag is. show.heard flag (ap (λ (l : List Bool). slice_get l flag) (sym same.told) ∙ is);
}

pub shown-so : (scene : SearchContext) (w v : SearchState) → SameWorld w v → IsShownSo (scene_ways scene) w v
shown-so scene w v same = λ p shows. (shows.0, shows-again p.script scene p.happened p.courses w v same shows.1)
