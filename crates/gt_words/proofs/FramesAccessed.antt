-- What an access to a frame, and a step on a flag, leave of what its seat knew.
use Rattle.std.proofs.Common.{◌≡◌, ℕ, ◌<◌, Bool, true, false, [], ◌∷◌, refl, sym, ap, subst, arith}
use Rattle.std.specs.Prelude.{MatchBool}
use Rattle.gt_frames.specs.declared.writ.Writ.{Writ}
use Rattle.gt_types.specs.declared.Range.{Range}
use Rattle.gt_shared_table.specs.Accesses.{TakesAccess, TakesCopy, TakesFlagStep}
use Rattle.gt_shared_table.specs.Rule.{FrameAt}
use Rattle.gt_shared_table.specs.Words.{HasFrame, named_at}
use Rattle.gt_shared_table.specs.declared.table.FrameIndex.{FrameIndex}
use Rattle.gt_word_history.specs.History.{Layout, StepHistory}
use Rattle.gt_word_history.specs.Places.{Board, IsSamePlace, SeatAt}
use Rattle.gt_word_history.specs.Views.{own_header, with_step}
use Rattle.gt_word_history.specs.declared.view.FlagStep.{FlagStep}
use Rattle.gt_word_history.specs.declared.view.FlagStep.TheVariants.{Passed}
use Rattle.gt_word_history.specs.declared.view.FrameStep.{FrameStep}
use Rattle.gt_word_history.specs.declared.view.SeatStep.{SeatStep}
use Rattle.gt_word_history.specs.declared.view.SeatStep.TheVariants.{Flag, Frame}
use Rattle.gt_word_history.specs.declared.view.View.{View}
use Rattle.gt_words.specs.Flags.{StepsOnFlag}
use Rattle.gt_words.specs.Frames.{AccessesFrame, CopiesAt}
use Rattle.gt_words.specs.Keeping.{Keeps}
use Rattle.gt_words.proofs.HistorySteps.{each_happened}

keeps_all : (past : StepHistory) (t f : ℕ) (m : FrameStep) (v w : View) → w ≡ with_step past (Frame t f m) v → Keeps v w
keeps_all past t f m v w e = subst (λ (u : View). Keeps v u) (sym e) (record {
  rows = record { lists = λ q. refl; last = λ q. refl; bodies = λ q h. refl };
  header = refl;
  pins = λ t' r. refl;
  seen = λ t' r. omega arith;
})

pub accesses : (k : Layout) (n : FrameAt) (m : FrameStep) (v w : View) → n.0 < k.domains → TakesAccess k n m v w → AccessesFrame k n.0 n.1 m v w
accesses k n m v w l a = let past = a.0 in let here = a.2.stood in let next = a.2.still_stands in record {
  inside = l;
  past = past;
  view = a.1;
  access = a.2;
  took = each_happened k next.0 [] past v.position (Frame n.0 n.1 m) (record { history = (v.position, Frame n.0 n.1 m) ∷ past; now = next.1; stood = ((here.0, here.1), a.2.stood_before) }) refl;
  keeps = keeps_all past n.0 n.1 m v w a.1;
}

keeps_flag : (past : StepHistory) (f : ℕ) (m : FlagStep) (v w : View) → w ≡ with_step past (Flag f m) v → Keeps v w
keeps_flag past f m v w e = subst (λ (u : View). Keeps v u) (sym e) (record {
  rows = record { lists = λ q. refl; last = λ q. refl; bodies = λ q h. refl };
  header = refl;
  pins = λ t' r. refl;
  seen = λ t' r. omega arith;
})

-- a step on a flag
pub steps_on_flag : (k : Layout) (f : ℕ) (m : FlagStep) (v w : View) → TakesFlagStep k f m v w → StepsOnFlag k f m v w
steps_on_flag k f m v w a = let past = a.0 in let here = a.2.stood in let next = a.2.still_stands in record {
  past = past;
  view = a.1;
  access = a.2;
  took = each_happened k next.0 [] past v.position (Flag f m) (record { history = (v.position, Flag f m) ∷ past; now = next.1; stood = ((here.0, here.1), a.2.stood_before) }) refl;
  keeps = keeps_flag past f m v w a.1;
}

pub copies : (k : Layout) (a b : FrameAt) (w : Writ) (range : Range) (to_off : ℕ) (u v : View) → a.0 < k.domains → b.0 < k.domains → TakesCopy k a b w range to_off u v → CopiesAt k a b w range to_off u v
copies k a b w range to_off u v l n c = (l, c.0, c.1, accesses k b _ u v n c.2)

-- the seat stays the same
pub same_place : (s t : SeatAt) (past : StepHistory) (x : SeatStep) → t.table ≡ s.table → t.view ≡ with_step past x s.view → IsSamePlace s t
same_place s t past x table e = (table, ap (λ (v : View). v.position) e, ap (λ (v : View). v.first) e, ap (λ (v : View). v.headers) e, ap (λ (v : View). v.ids) e)

pub still_place : (s t : SeatAt) → t.table ≡ s.table → t.view ≡ s.view → IsSamePlace s t
still_place s t table e = (table, ap (λ (v : View). v.position) e, ap (λ (v : View). v.first) e, ap (λ (v : View). v.headers) e, ap (λ (v : View). v.ids) e)

-- a look at a flag, which passes it or makes no step
pub passed_place : (b : Bool) (k : Layout) (f : ℕ) (s t : SeatAt) → t.table ≡ s.table → MatchBool b (TakesFlagStep k f Passed s.view t.view) (t.view ≡ s.view) → IsSamePlace s t
passed_place true k f s t table m = same_place s t m.0 (Flag f Passed) table m.1
passed_place false k f s t table m = still_place s t table m

pub passed_step : (b : Bool) (k : Layout) (f : ℕ) (v w : View) → MatchBool b (TakesFlagStep k f Passed v w) (w ≡ v) → MatchBool b (StepsOnFlag k f Passed v w) (w ≡ v)
passed_step true k f v w m = steps_on_flag k f Passed v w m
passed_step false k f v w m = m

pub passed_header : (b : Bool) (k : Layout) (f : ℕ) (v w : View) → MatchBool b (TakesFlagStep k f Passed v w) (w ≡ v) → own_header w ≡ own_header v
passed_header true k f v w m = ap own_header m.1
passed_header false k f v w m = ap own_header m

-- the same in the words, the frame and the view that a call names
pub accessed_at : (b b' : Board) (f f' : FrameIndex) (m : FrameStep) (v v' w : View) → b' ≡ b → f' ≡ f → v' ≡ v → HasFrame b f' → TakesAccess b'.layout (named_at f') m v' w → AccessesFrame b.layout f.position f.number m v w
accessed_at b b' f f' m v v' w same frame view has a =
    subst (λ (x : View). AccessesFrame b.layout f.position f.number m x w) view
    (subst (λ (x : FrameIndex). AccessesFrame b.layout x.position x.number m v' w) frame
    (accesses b.layout (named_at f') m v' w has.0 (subst (λ (x : Board). TakesAccess x.layout (named_at f') m v' w) same a)))

pub copied_at : (b b' : Board) (f f' g g' : FrameIndex) (t : Writ) (range : Range) (to_off : ℕ) (u u' v : View) → b' ≡ b → f' ≡ f → g' ≡ g → u' ≡ u → HasFrame b f' → HasFrame b g'
    → TakesCopy b'.layout (named_at f') (named_at g') t range to_off u' v → CopiesAt b.layout (named_at f) (named_at g) t range to_off u v
copied_at b b' f f' g g' t range to_off u u' v same from to view has_from has_to a =
    subst (λ (x : View). CopiesAt b.layout (named_at f) (named_at g) t range to_off x v) view
    (subst (λ (x : FrameIndex). CopiesAt b.layout (named_at x) (named_at g) t range to_off u' v) from
    (subst (λ (x : FrameIndex). CopiesAt b.layout (named_at f') (named_at x) t range to_off u' v) to
    (copies b.layout (named_at f') (named_at g') t range to_off u' v has_from.0 has_to.0
    (subst (λ (x : Board). TakesCopy x.layout (named_at f') (named_at g') t range to_off u' v) same a))))
