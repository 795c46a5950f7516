-- The moves and turns of runs of which marks are printed are those of the script.
use Rattle.std.proofs.Common.{◌≡◌, ◌∙◌, ap, refl, sym, subst, Bool, true, false, ℕ, List, [], ◌∷◌, ◌++◌, append-nil}
use Rattle.std.specs.Prelude.{◌==◌, if◌then◌else◌}
use Rattle.gt_explore_moves.specs.Spaces.{Point, printed_by, scene_ways}
use Rattle.gt_explore_moves.specs.declared.scene.SearchContext.{SearchContext}
use Rattle.gt_explore_moves.specs.declared.scene.SearchState.{SearchState}
use Rattle.gt_explore_search.specs.Ways.{GoesTo, HasEnoughTurns, LedFits, MayEnd, MovesTo, ShowsFirst, only_at}
use Rattle.gt_explore_search.specs.declared.spaces.Turn.{Turn}
use Rattle.gt_explore_search.specs.declared.spaces.TurnResult.{TurnResult}
use Rattle.gt_explore_search.specs.declared.spaces.TurnResult.TheVariants.{Answered, Nowhere, On}
use Rattle.gt_explore_verdict.specs.Formulas.{Op}
use Rattle.gt_explore_kinds.specs.Marks.{text_marks}
use Rattle.gt_explore_kinds.specs.Spaces.{HaveWholeLines, IsMarked, MovePrints, kind_ways}
use Rattle.gt_explore_kinds.proofs.Cutting.{marks_if}
use Rattle.gt_explore_kinds.proofs.Whole.{whole_at, whole_first, whole_next}

none_at : (b : Bool) (bytes : List ℕ) → bytes ≡ [] → (if b then bytes else []) ≡ []
none_at true bytes is = is
none_at false bytes is = refl

module _ (scene : SearchContext) (ops : List Op) where
  -- runs

  goes : (p : Point) (ts : List Turn) (q : Point) → GoesTo (scene_ways scene) p ts q → GoesTo (kind_ways scene ops) p ts q
  goes p [] q on = on
  goes p (t ∷ ts) q (m, next, on) = (m, next, goes m ts q on)

  goes_back : (p : Point) (ts : List Turn) (q : Point) → GoesTo (kind_ways scene ops) p ts q → GoesTo (scene_ways scene) p ts q
  goes_back p [] q on = on
  goes_back p (t ∷ ts) q (m, next, on) = (m, next, goes_back m ts q on)

  pub starts : (w : SearchState) → ShowsFirst (scene_ways scene) w → ShowsFirst (kind_ways scene ops) w
  starts w shows p begins = (shows p begins, subst HaveWholeLines (sym begins.courses) (whole_first p.script))

  pub enough : (w : SearchState) (turns : List Turn) → HasEnoughTurns (scene_ways scene) w turns → HasEnoughTurns (kind_ways scene ops) w turns
  enough w turns has p turn m more q shows next on =
      let (first, n, rest, r, there, onward, ends, same) = has p turn m more q shows.0 next (goes_back m more q on) in
      (first, n, rest, r, there, onward, goes n rest r ends, λ at. ap (text_marks ops) (same at))

  -- moves

  prints : (made : TurnResult) (bytes : List ℕ) (place : ℕ) (p q : Point) → MovePrints made bytes
      → ((at : ℕ) → text_marks ops (printed_by q.courses at) ≡ text_marks ops (printed_by p.courses at) ++ only_at place bytes at) → LedFits (kind_ways scene ops) made place p q
  prints Nowhere bytes place p q is grows = absurd is
  prints On bytes place p q is grows = λ at.
      grows at ∙ ap (λ (l : List ℕ). text_marks ops (printed_by p.courses at) ++ l) (none_at (place == at) bytes is)
  prints (Answered line) bytes place p q is grows = λ at.
      grows at ∙ ap (λ (l : List ℕ). text_marks ops (printed_by p.courses at) ++ only_at place l at) (sym is)

  fits : (led made : TurnResult) (place : ℕ) (p q : Point) → IsMarked ops led made → HaveWholeLines p.courses → LedFits (scene_ways scene) led place p q → LedFits (kind_ways scene ops) made place p q
  fits Nowhere made place p q marked whole led = absurd led
  fits On made place p q marked whole led =
      prints made [] place p q marked (λ at.
      ap (text_marks ops) (led at ∙ append-nil (printed_by p.courses at))
      ∙ sym (ap (λ (l : List ℕ). text_marks ops (printed_by p.courses at) ++ l) (none_at (place == at) [] refl) ∙ append-nil (text_marks ops (printed_by p.courses at))))
  fits (Answered line) made place p q marked whole led =
      prints made (text_marks ops line.items) place p q marked (λ at.
      ap (text_marks ops) (led at) ∙ marks_if ops (place == at) (printed_by p.courses at) line.items (whole_at p.courses at whole))

  pub moves : (old : SearchState) (turn : Turn) (led made : TurnResult) (new : SearchState) → IsMarked ops led made → MovesTo (scene_ways scene) old turn led new → MovesTo (kind_ways scene ops) old turn made new
  moves old turn led made new marked inner p q shows next =
      let m = inner p q shows.0 next in (fits led made turn.place p q marked shows.1 m.0, (m.1, whole_next p turn q next shows.1))

  pub may_end : (w : SearchState) → MayEnd (kind_ways scene ops) w → MayEnd (scene_ways scene) w
  may_end w (p, shows, ends) = (p, shows.0, ends)

  -- the way of an order
  pub on_so : (p : Point) (ts : List Turn) (q : Point) → GoesTo (scene_ways scene) p ts q → GoesTo (kind_ways scene ops) p ts q
  on_so p ts q on = goes p ts q on
