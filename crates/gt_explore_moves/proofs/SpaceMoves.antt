-- The moves of a scene's states are those of its space.
use Rattle.std.proofs.Common.{◌≡◌, ◌≢◌, ◌<◌, ℕ, zero, suc, refl, true, false, Bool, cond, List, [], ◌∷◌, ◌++◌, length}
use Rattle.std.proofs.Common.{Some}
use Rattle.std.proofs.Common.{sym, ap, ◌∙◌, subst, arith, append-nil}
use Rattle.std.specs.Prelude.{◌==◌, slice_get, slice_set}
use Rattle.std.proofs.lemmas.Bool.{eq-eqb, eqb-true}
use Rattle.std.proofs.lemmas.Option.{none-some, same_Some, slice_get_within}
use Rattle.gt_script_runs.specs.Playing.{setting_of_script}
use Rattle.gt_explore_replay.specs.Abreast.{history_in}
use Rattle.gt_explore_replay.specs.Courses.{AllCoursesEnd, Course, CourseEnds}
use Rattle.gt_explore_replay.specs.Orders.{Happening}
use Rattle.gt_explore_search.specs.declared.spaces.Turn.{Turn}
use Rattle.gt_explore_replay.proofs.Following.{there_is}
use Rattle.gt_script.specs.Contents.{type_names}
use Rattle.gt_script.specs.RunContents.{RunContents}
use Rattle.gt_explore_moves.specs.Ends.{AreDone, turns_from}
use Rattle.gt_explore_moves.specs.Scenes.{IsSceneOf, MovesAlong, SceneShows}
use Rattle.gt_explore_moves.specs.Spaces.{Point, printed_by, scene_ways}
use Rattle.gt_explore_moves.specs.Starting.{Grows}
use Rattle.gt_explore_moves.specs.declared.scene.SearchContext.{SearchContext}
use Rattle.gt_explore_moves.specs.declared.scene.SearchState.{SearchState}
use Rattle.gt_explore_moves.proofs.CourseMoves.{ends-done, move-listed}
use Rattle.gt_explore_search.specs.Ways.{HasEachTurn, LedFits, MayEnd, MovesTo, only_at}
use Rattle.gt_explore_search.specs.declared.spaces.TurnResult.{TurnResult}
use Rattle.gt_explore_search.specs.declared.spaces.TurnResult.TheVariants.{Answered, Nowhere, On}

-- what is printed

printed-here : (ks : List Course) (place : ℕ) (k j : Course) → slice_get ks place ≡ Some k → (printed_by (slice_set ks place j) place ≡ j.text) × (printed_by ks place ≡ k.text)
printed-here [] place k j there = absurd (none-some k there)
printed-here (l ∷ ks) zero k j there = (refl, ap (λ (z : Course). z.text) (same_Some l k there))
printed-here (l ∷ ks) (suc place) k j there = printed-here ks place k j there

printed-there : (ks : List Course) (place at : ℕ) (j : Course) → place ≢ at → printed_by (slice_set ks place j) at ≡ printed_by ks at
printed-there [] place at j apart = refl
printed-there (l ∷ ks) zero zero j apart = absurd (apart refl)
printed-there (l ∷ ks) zero (suc at) j apart = refl
printed-there (l ∷ ks) (suc place) zero j apart = refl
printed-there (l ∷ ks) (suc place) (suc at) j apart = printed-there ks place at j (λ e. apart (ap suc e))

printed-set : (ks : List Course) (place : ℕ) (k j : Course) (more : List ℕ) → slice_get ks place ≡ Some k → j.text ≡ k.text ++ more → (at : ℕ) → printed_by (slice_set ks place j) at ≡ printed_by ks at ++ only_at place more at
printed-set ks place k j more there grows at = by (place == at) refl where
  by : (b : Bool) → (place == at) ≡ b → printed_by (slice_set ks place j) at ≡ printed_by ks at ++ cond b more []
  by true e = let same : place ≡ at = eqb-true place at e in let here = printed-here ks place k j there in
      subst (λ (n : ℕ). printed_by (slice_set ks place j) n ≡ printed_by ks n ++ more) same (here.0 ∙ grows ∙ ap (λ (l : List ℕ). l ++ more) (sym here.1))
  by false e = printed-there ks place at j (λ same. true-false (sym (eq-eqb place at same) ∙ e)) ∙ sym (append-nil (printed_by ks at)) where
    true-false : true ≡ false → ⊥
    true-false f = absurd (cc)

printed-on : (ks : List Course) (place : ℕ) (k j : Course) → slice_get ks place ≡ Some k → j.text ≡ k.text → (at : ℕ) → printed_by (slice_set ks place j) at ≡ printed_by ks at ++ []
printed-on ks place k j there same at = printed-set ks place k j [] there (same ∙ sym (append-nil k.text)) at ∙ ap (λ (l : List ℕ). printed_by ks at ++ l) (none (place == at)) where
  none : (b : Bool) → cond {A = List ℕ} b [] [] ≡ []
  none true = refl
  none false = refl

fits : (scene : SearchContext) (led : TurnResult) (p : Point) (turn : Turn) (q : Point) (k j : Course) → slice_get p.courses turn.place ≡ Some k → q.courses ≡ slice_set p.courses turn.place j → Grows led k.text j.text → LedFits (scene_ways scene) led turn.place p q
fits scene Nowhere p turn q k j there courses grows = absurd grows
fits scene On p turn q k j there courses grows = λ at. ap (λ (ks : List Course). printed_by ks at) courses ∙ printed-on p.courses turn.place k j there grows at
fits scene (Answered line) p turn q k j there courses grows = λ at. ap (λ (ks : List Course). printed_by ks at) courses ∙ printed-set p.courses turn.place k j line.items there grows at

-- a move
pub moves-to : (scene : SearchContext) (turn : Turn) (old : SearchState) (led : TurnResult) (new : SearchState) → MovesAlong scene turn.place turn.choice old led new → MovesTo (scene_ways scene) old turn led new
moves-to scene turn old led new along p q shows next =
    let made = along p.script p.happened p.courses next.k next.j next.x shows.0 shows.1 next.there next.leads next.next in (
      fits scene led p turn q next.k next.j next.there next.courses made.0,
      (
        subst (λ (c : RunContents). IsSceneOf c scene) (sym next.script) shows.0,
        subst (λ (ks : List Course). SceneShows q.script scene q.happened ks new) (sym next.courses)
            (subst (λ (hs : List Happening). SceneShows q.script scene hs (slice_set p.courses turn.place next.j) new) (sym next.happened)
            (subst (λ (c : RunContents). SceneShows c scene (p.happened ++ next.x ∷ []) (slice_set p.courses turn.place next.j) new) (sym next.script) made.1)),
      ),
    )

-- the turns
pub each-turn : (scene : SearchContext) (w : SearchState) (turns : List Turn) → turns ≡ turns_from scene 0 w.actors.items → HasEachTurn (scene_ways scene) w turns
each-turn scene w turns are p turn q shows next =
    let lt : turn.place < length p.courses = slice_get_within p.courses turn.place next.k next.there in
    let many = shows.1.many in
    let a = there_is w.actors.items turn.place (omega (arith, lt, many)) in
    let r = move-listed (setting_of_script p.script.head) (history_in p.happened) scene turn.place next.k a.0 (shows.1.each turn.place next.k a.0 next.there a.1)
    w.actors.items (type_names p.script.head) turn.choice next.x next.j a.1 next.leads in
    (r.0, ap (λ (l : List Turn). slice_get l r.0) are ∙ r.1)

-- the end

one-ends : (ks : List Course) (at : ℕ) (k : Course) → AllCoursesEnd ks → slice_get ks at ≡ Some k → CourseEnds k
one-ends [] at k all here = absurd (none-some k here)
one-ends (j ∷ ks) zero k all here = subst CourseEnds (same_Some j k here) all.0
one-ends (j ∷ ks) (suc at) k all here = one-ends ks at k all.1 here

pub may-end : (scene : SearchContext) (w : SearchState) → MayEnd (scene_ways scene) w → AreDone scene w.actors.items
may-end scene w (p, shows, over) at a there =
    let lt : at < length w.actors.items = slice_get_within w.actors.items at a there in
    let many = shows.1.many in
    let k = there_is p.courses at (omega (arith, lt, many)) in
    ends-done (setting_of_script p.script.head) (history_in p.happened) scene at k.0 a (shows.1.each at k.0 a k.1 there) (one-ends p.courses at k.0 over k.1)
