-- The runs of a script, of which only marks are printed.
use Rattle.std.specs.Prelude.{◌≡◌, ◌⊎◌, ◌++◌, ℕ, List, [], ◌∷◌, length}
use mathlib.Core.Path.{ap, ◌∙◌}
use Rattle.gt_explore_moves.specs.Spaces.{BeginsAt, Point, RunComesTo, begins_blank, printed_by, scene_ways}
use Rattle.gt_explore_moves.specs.declared.scene.SearchContext.{SearchContext}
use Rattle.gt_explore_moves.specs.declared.scene.SearchState.{SearchState}
use Rattle.gt_explore_replay.specs.Courses.{AllCoursesEnd, Course}
use Rattle.gt_explore_search.specs.Ways.{Ways}
use Rattle.gt_explore_search.specs.declared.spaces.TurnResult.{TurnResult}
use Rattle.gt_explore_search.specs.declared.spaces.TurnResult.TheVariants.{Answered, Nowhere, On}
use Rattle.gt_explore_verdict.specs.Formulas.{Op}
use Rattle.gt_explore_kinds.specs.Marks.{no_marks, text_marks}

-- a text has whole lines: it is empty, or a line end is its last byte
abbrev pub HasWholeLines : List ℕ → Type 0
HasWholeLines text = (text ≡ []) ⊎ ((before : List ℕ) × (text ≡ before ++ 10 ∷ []))

abbrev pub HaveWholeLines : List Course → Type 0
HaveWholeLines [] = Unit {0}
HaveWholeLines (k ∷ ks) = HasWholeLines k.text × HaveWholeLines ks

no_text_marks : (ops : List Op) → text_marks ops [] ≡ []
no_text_marks ops = ap (λ (marks : List ℕ). marks ++ []) (no_marks 0 ops)

pub blank_marks : (scene : SearchContext) (ops : List Op) (p : Point) → BeginsAt scene p → (at : ℕ)
    → text_marks ops (printed_by p.courses at) ≡ []
blank_marks scene ops p begins at = ap (text_marks ops) (begins_blank scene p begins at) ∙ no_text_marks ops

-- the runs of a context; of an answer they print the numbers of the terms that it meets
abbrev pub kind_ways : SearchContext → List Op → Ways SearchState
kind_ways scene ops = record {
  Point = Point;
  domains = length scene.roster.domains.items;
  begins = BeginsAt scene;
  next = RunComesTo;
  ends = λ p. AllCoursesEnd p.courses;
  printed = λ p at. text_marks ops (printed_by p.courses at);
  shows = λ w p. (scene_ways scene).shows w p × HaveWholeLines p.courses;
  blank = blank_marks scene ops;
}

-- a move prints this
abbrev pub MovePrints : TurnResult → List ℕ → Type 0
MovePrints Nowhere bytes = ⊥
MovePrints On bytes = bytes ≡ []
MovePrints (Answered line) bytes = line.items ≡ bytes

-- the second result is that of the same move with marks in place of the answer
abbrev pub IsMarked : List Op → TurnResult → TurnResult → Type 0
IsMarked ops Nowhere made = made ≡ Nowhere
IsMarked ops On made = MovePrints made []
IsMarked ops (Answered line) made = MovePrints made (text_marks ops line.items)
