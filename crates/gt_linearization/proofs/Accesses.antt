-- What an access of a call is among the steps of the history, and what items and history have written after it.
use Rattle.std.proofs.Common.{◌≡◌, ℕ, ◌+◌, ◌-◌, ◌<◌, Bool, true, false, cond, ◌==◌, ◌&&◌, List, [], ◌∷◌, ◌++◌, length}
use Rattle.std.proofs.Common.{Option, Some, None, sym, refl, ap, ◌∙◌, subst, arith, inl, inr, eq-eqb, ne_eqb, take}
use Rattle.std.proofs.Common.{drop}
use Rattle.std.proofs.lemmas.Bool.{cases_eq}
use Rattle.std.specs.Prelude.{slice_range}
use Rattle.gt_types.specs.Config.{IsWithinLimits}
use Rattle.gt_types.specs.declared.DomId.{DomId}
use Rattle.gt_types.specs.declared.config.Config.{Config}
use Rattle.gt_model.specs.Written.{written}
use Rattle.gt_frames.specs.Frames.{bytes_at, patch_of, patches}
use Rattle.gt_frames.specs.declared.writ.WriteRecord.{WriteRecord}
use Rattle.gt_shared_table.specs.Bytes.{IsTrueStep, frame_made, journal_after, journal_by, journal_made}
use Rattle.gt_words.specs.Frames.{AccessesFrame}
use Rattle.gt_word_history.specs.History.{StepHistory, Layout, Moment}
use Rattle.gt_word_history.specs.Rule.{layout_of, position_in}
use Rattle.gt_word_history.specs.Steps.{StoodWith}
use Rattle.gt_word_history.specs.Views.{with_step}
use Rattle.gt_word_history.specs.declared.view.FrameStep.{FrameStep}
use Rattle.gt_word_history.specs.declared.view.FrameStep.TheVariants as frame_steps
use Rattle.gt_word_history.specs.declared.view.SeatStep.{SeatStep}
use Rattle.gt_word_history.specs.declared.view.SeatStep.TheVariants.{Entry, Flag, Frame, Header}
use Rattle.gt_word_history.specs.declared.view.View.{View}
use Rattle.gt_model.specs.declared.action.Observation.{Observation}
use Rattle.gt_model.specs.declared.action.Observation.TheVariants.{Nothing}
use Rattle.gt_model.specs.declared.action.Step.{Step}
use Rattle.gt_model.specs.declared.action.Step.TheVariants.{LookHeader, LookControl, LookBody, Pin, Unpin, StoreBody}
use Rattle.gt_model.specs.declared.action.Step.TheVariants.{StoreHeader, Exchange}
use Rattle.gt_model.specs.declared.action.Step.TheVariants as call_steps
use Rattle.gt_model.proofs.Observers.{stepped}
use Rattle.gt_core.proofs.Words.{append-nil}
use Rattle.gt_core.specs.GoingOn.{IsAccess, AccessesNoBytes}
use Rattle.gt_model.specs.History.{History, Setting, WriteMade, contents_at, given_in, open_call, patches_at}
use Rattle.gt_model.specs.History.{patches_by, seen_by, written_by}
use Rattle.gt_model.specs.declared.trace.Answer.{Answer}
use Rattle.gt_model.specs.declared.trace.Item.{Item}
use Rattle.gt_live.specs.Walks.{seen_in_step}
use Rattle.gt_linearization.proofs.Places.{as-many, dom-there, test-apart, test-same}
use Rattle.gt_linearization.specs.Agreeing.{IsThe, WritesAgree, dom_at}
use Rattle.gt_linearization.specs.Runs.{MakesAccess}

-- the bytes that an access of a call, which was passed these, writes after this history
abbrev pub IsWriteOf : Layout → StepHistory → List ℕ → Step → SeatStep → Type 0
IsWriteOf k h given (call_steps.Write dom frame off len) (Frame t q (frame_steps.Wrote r)) = r.bytes ≡ given
IsWriteOf k h given (call_steps.Copy from to len) (Frame t q (frame_steps.Copied d p o r)) = r.bytes ≡ bytes_at (frame_made k d p h) o len
IsWriteOf k h given (call_steps.Read dom frame off len) (Frame t q (frame_steps.Read o bytes)) = Unit {0}
IsWriteOf k h given step x = ⊥

-- the domains that an access names are of the run
abbrev pub NamesRun : Layout → Step → Type 0
NamesRun k (call_steps.Read dom frame off len) = position_in k.ids dom < k.domains
NamesRun k (call_steps.Write dom frame off len) = position_in k.ids dom < k.domains
NamesRun k (call_steps.Copy from to len) = (position_in k.ids from.frame.owner < k.domains) × (position_in k.ids to.frame.owner < k.domains)
NamesRun k step = ⊥

-- an access of a call was made so: it is this step of its seat, taken after these steps of all seats
pub record AccessedAs (k : Layout) (i : ℕ) (given : List ℕ) (step : Step) (v w : View) (x : Moment) : Type 0 where
  pub is : IsAccess step
  pub view : w ≡ with_step x.0 x.1 v
  pub the : IsThe k i step x.1
  pub shows : seen_in_step x.1 ≡ Nothing
  pub writes : IsWriteOf k x.0 given step x.1
  pub of_run : NamesRun k step
  pub stood : StoodWith (Unit {0}) k x.0 v
  pub stands : StoodWith (Unit {0}) k ((v.position, x.1) ∷ x.0) w

pub accessed-as : (k : Layout) (i : ℕ) (given : List ℕ) (step : Step) (v w : View) → MakesAccess k given step v w → (x : Moment) × AccessedAs k i given step v w x
accessed-as k i given (call_steps.Write dom frame off len) v w m =
    let a = m.1 in let x : SeatStep = Frame (position_in k.ids dom) frame (frame_steps.Wrote (record { writ = m.0; off = off; bytes = given })) in (
      (a.past, x),
      record {
        is = tt;
        view = a.view;
        the = (refl, refl, refl);
        shows = refl;
        writes = refl;
        of_run = a.inside;
        stood = a.access.stood;
        stands = subst (StoodWith (Unit {0}) k ((v.position, x) ∷ a.past)) (sym a.view) a.access.still_stands;
      },
    )
accessed-as k i given (call_steps.Copy from to len) v w m =
    let c = m.1 in let bytes = c.1 in let a = c.3 in
    let r : WriteRecord = record { writ = m.0; off = to.off; bytes = bytes } in
    let x : SeatStep = Frame (position_in k.ids to.frame.owner) to.frame.number (frame_steps.Copied (position_in k.ids from.frame.owner) from.frame.number from.off r) in (
      (a.past, x),
      record {
        is = tt;
        view = a.view;
        the = (refl, refl, refl, refl, refl, refl, c.2);
        shows = refl;
        writes = subst (λ (n : ℕ). bytes ≡ bytes_at (frame_made k (position_in k.ids from.frame.owner) from.frame.number a.past) from.off n) c.2 a.access.recorded.0;
        of_run = (c.0, a.inside);
        stood = a.access.stood;
        stands = subst (StoodWith (Unit {0}) k ((v.position, x) ∷ a.past)) (sym a.view) a.access.still_stands;
      },
    )
accessed-as k i given step v w m = absurd m

-- a read of a call was made so
pub read-as : (k : Layout) (i : ℕ) (given : List ℕ) (dom : DomId) (frame off len : ℕ) (bytes : List ℕ) (v u w : View) (a : AccessesFrame k (position_in k.ids dom) frame (frame_steps.Read off bytes) v u)
    → w ≡ with_step a.past (Frame (position_in k.ids dom) frame (frame_steps.Read off bytes)) v → length bytes ≡ len
    → AccessedAs k i given (call_steps.Read dom frame off len) v w (a.past, Frame (position_in k.ids dom) frame (frame_steps.Read off bytes))
read-as k i given dom frame off len bytes v u w a view len_is =
    let x : SeatStep = Frame (position_in k.ids dom) frame (frame_steps.Read off bytes) in record {
      is = tt;
      view = view;
      the = (refl, refl, refl, len_is);
      shows = refl;
      writes = tt;
      of_run = a.inside;
      stood = a.access.stood;
      stands = subst (StoodWith (Unit {0}) k ((v.position, x) ∷ a.past)) (sym view) a.access.still_stands;
    }

-- an access sees nothing
pub sees-nothing : (s : Setting) (g : History) (d : DomId) (step : Step) → IsAccess step → seen_by s g d step ≡ Nothing
sees-nothing s g d (call_steps.Read dom frame off len) is = refl
sees-nothing s g d (call_steps.Write dom frame off len) is = refl
sees-nothing s g d (call_steps.Copy from to len) is = refl
sees-nothing s g d step is = absurd is

-- what the writes of an item are after those before it

abbrev made_by : History → Item → Option WriteMade
made_by g item = written_by item.happened (given_in (open_call g item.actor.0)) (λ u f. written (patches_at g u f))

patches-more : (g : History) (item : Item) (t f : ℕ) → patches_at (item ∷ g) t f ≡ patches_at g t f ++ patches_by (made_by g item) t f
unfolding patches_at
patches-more g item t f = refl

patches-none : (g : History) (item : Item) (t f : ℕ) → made_by g item ≡ None → patches_at (item ∷ g) t f ≡ patches_at g t f
patches-none g item t f e = patches-more g item t f ∙ (ap (λ (o : Option WriteMade). patches_at g t f ++ patches_by o t f) e ∙ append-nil (patches_at g t f))

-- a step on words writes no frame
writes-none : (g : History) (d : DomId) (step : Step) (seen : Observation) (answer : Option Answer) → AccessesNoBytes step → made_by g (stepped d step seen answer) ≡ None
writes-none g d (LookHeader dom) seen answer q = refl
writes-none g d (LookControl dom gref) seen answer q = refl
writes-none g d (LookBody dom gref body_word) seen answer q = refl
writes-none g d (Pin p) seen answer q = refl
writes-none g d (Unpin p holder) seen answer q = refl
writes-none g d (StoreBody gref body_word word) seen answer q = refl
writes-none g d (StoreHeader version frames) seen answer q = refl
writes-none g d (Exchange gref looked change) seen answer q = refl
writes-none g d (call_steps.Read dom frame off len) seen answer q = absurd q
writes-none g d (call_steps.Write dom frame off len) seen answer q = absurd q
writes-none g d (call_steps.Copy from to len) seen answer q = absurd q

not-frame : (k : Layout) (i : ℕ) (step : Step) (t q : ℕ) (m : FrameStep) → AccessesNoBytes step → IsThe k i step (Frame t q m) → ⊥
not-frame k i (LookHeader dom) t q m quiet the = the
not-frame k i (LookControl dom gref) t q m quiet the = the
not-frame k i (LookBody dom gref body_word) t q m quiet the = the
not-frame k i (Pin p) t q m quiet the = the
not-frame k i (Unpin p holder) t q m quiet the = the
not-frame k i (StoreBody gref body_word word) t q m quiet the = the
not-frame k i (StoreHeader version frames) t q m quiet the = the
not-frame k i (Exchange gref looked change) t q m quiet the = the
not-frame k i (call_steps.Read dom frame off len) t q m quiet the = absurd quiet
not-frame k i (call_steps.Write dom frame off len) t q m quiet the = absurd quiet
not-frame k i (call_steps.Copy from to len) t q m quiet the = absurd quiet

-- after a step on words
pub writes-by-words : (k : Layout) (g : History) (h : StepHistory) (i : ℕ) (d : DomId) (step : Step) (x : SeatStep) (seen : Observation) (answer : Option Answer) → AccessesNoBytes step → IsThe k i step x → WritesAgree k g h
    → WritesAgree k (stepped d step seen answer ∷ g) ((i, x) ∷ h)
writes-by-words k g h i d step x seen answer quiet the agree t f l =
    patches-none g (stepped d step seen answer) (dom_at k t).0 f (writes-none g d step seen answer quiet) ∙ (agree t f l ∙ sym (ap patches (same x the)))
  where
    same : (y : SeatStep) → IsThe k i step y → journal_after t f y (journal_made t f h) ≡ journal_made t f h
    same (Entry u r m) a = refl
    same (Header u m) a = refl
    same (Frame u q m) a = absurd (not-frame k i step u q m quiet a)
    same (Flag g m) a = refl

-- after an item that is no step
pub writes-by-none : (k : Layout) (g : History) (h : StepHistory) (item : Item) → ((given : List ℕ) (contents : ℕ → ℕ → List ℕ) → written_by item.happened given contents ≡ None) → WritesAgree k g h → WritesAgree k (item ∷ g) h
writes-by-none k g h item none agree t f l = patches-none g item (dom_at k t).0 f (none (given_in (open_call g item.actor.0)) (λ u q. written (patches_at g u q))) ∙ agree t f l

map-more : (rs : List WriteRecord) (r : WriteRecord) → patches (rs ++ r ∷ []) ≡ patches rs ++ patch_of r ∷ []
map-more [] r = refl
map-more (x ∷ xs) r = λ j. patch_of x ∷ map-more xs r j

sliced : (xs : List ℕ) (off len : ℕ) → slice_range xs off (off + len) ≡ take len (drop off xs)
sliced xs off len = ap (λ (n : ℕ). take n (drop off xs)) (let e : off + len - off ≡ len = omega arith in e)

module _ (c : Config) (k : Layout) (is : k ≡ layout_of c) (limits : IsWithinLimits c) where
  -- a domain of the run is the one at its position
  named : (dom : DomId) → position_in k.ids dom < k.domains → dom_at k (position_in k.ids dom) ≡ dom
  named dom l = (dom-there c k dom (position_in k.ids dom) is (let n = as-many c k is in omega arith) refl).0

  -- the numbers of two domains agree as their positions do
  same-test : (dom : DomId) (t : ℕ) → position_in k.ids dom < k.domains → t < k.domains → (dom.0 == (dom_at k t).0) ≡ (position_in k.ids dom == t)
  same-test dom t l m =
      let p = position_in k.ids dom in ap (λ (d : DomId). d.0 == (dom_at k t).0) (sym (named dom l)) ∙ elim (cases_eq p t) [
        | inl e ↦ test-same c k p t e ∙ sym (eq-eqb p t e)
        | inr n ↦ test-apart c k p t is limits l m n ∙ sym (ne_eqb p t n)
      ]

  -- the frame f of a domain holds what the history makes of it
  pub contents-are : (g : History) (h : StepHistory) (dom : DomId) (f : ℕ) → position_in k.ids dom < k.domains → WritesAgree k g h → contents_at g dom.0 f ≡ written (patches (journal_made (position_in k.ids dom) f h))
  contents-are g h dom f l agree = ap (λ (d : DomId). contents_at g d.0 f) (sym (named dom l)) ∙ ap written (agree (position_in k.ids dom) f l)

  -- one more write to a frame, on both sides
  one-write : (g : History) (h : StepHistory) (item : Item) (dom : DomId) (frame off : ℕ) (bytes : List ℕ) (t q : ℕ) (m : FrameStep) (r : WriteRecord) → ((rs : List WriteRecord) → journal_by m rs ≡ rs ++ r ∷ [])
      → made_by g item ≡ Some (record { at = record { frame = record { owner = dom; number = frame }; off = off }; bytes = bytes }) → position_in k.ids dom < k.domains
      → t ≡ position_in k.ids dom → q ≡ frame → r.off ≡ off → r.bytes ≡ bytes → (i : ℕ) → WritesAgree k g h → WritesAgree k (item ∷ g) ((i, Frame t q m) ∷ h)
  one-write g h item dom frame off bytes t q m r adds made l at number o b i agree u f n =
      let test : ((dom.0 == (dom_at k u).0) && (frame == f)) ≡ ((t == u) && (q == f)) = λ j. ((same-test dom u l n ∙ ap (λ (z : ℕ). z == u) (sym at)) j && (sym number j == f)) in
      patches-more g item (dom_at k u).0 f
      ∙ (ap (λ (w : Option WriteMade). patches_at g (dom_at k u).0 f ++ patches_by w (dom_at k u).0 f) made
      ∙ (ap (λ (z : Bool). patches_at g (dom_at k u).0 f ++ cond z (record { off = off; bytes = bytes } ∷ []) []) test ∙ by ((t == u) && (q == f))))
    where
      by : (z : Bool) → patches_at g (dom_at k u).0 f ++ cond z (record { off = off; bytes = bytes } ∷ []) [] ≡ patches (cond z (journal_by m (journal_made u f h)) (journal_made u f h))
      by true = (λ j. agree u f n j ++ (record { off = sym o j; bytes = sym b j }) ∷ []) ∙ (sym (map-more (journal_made u f h) r) ∙ ap patches (sym (adds (journal_made u f h))))
      by false = append-nil (patches_at g (dom_at k u).0 f) ∙ agree u f n

  -- after an access
  pub writes-by-access : (g : History) (h : StepHistory) (i : ℕ) (d : DomId) (given : List ℕ) (step : Step) (x : SeatStep) (seen : Observation) (answer : Option Answer) → given_in (open_call g d.0) ≡ given → NamesRun k step → IsThe k i step x
      → IsWriteOf k h given step x → WritesAgree k g h → WritesAgree k (stepped d step seen answer ∷ g) ((i, x) ∷ h)
  writes-by-access g h i d given (call_steps.Read dom frame off len) (Frame t q (frame_steps.Read o bytes)) seen answer passed run the writes agree =
      λ u f n. patches-none g (stepped d (call_steps.Read dom frame off len) seen answer) (dom_at k u).0 f refl ∙ (agree u f n ∙ ap patches (sym (by (journal_made u f h) ((t == u) && (q == f)))))
    where
      by : (rs : List WriteRecord) (z : Bool) → cond z rs rs ≡ rs
      by rs true = refl
      by rs false = refl
  writes-by-access g h i d given (call_steps.Write dom frame off len) (Frame t q (frame_steps.Wrote r)) seen answer passed run the writes agree =
      one-write g h (stepped d (call_steps.Write dom frame off len) seen answer) dom frame off given t q (frame_steps.Wrote r) r (λ rs. refl)
      (ap (λ (bytes : List ℕ). Some (record { at = record { frame = record { owner = dom; number = frame }; off = off }; bytes = bytes })) passed) run the.0 the.1 the.2 writes i agree
  writes-by-access g h i d given (call_steps.Copy from to len) (Frame t q (frame_steps.Copied p y o r)) seen answer passed run the writes agree =
      let held : contents_at g from.frame.owner.0 from.frame.number ≡ written (patches (journal_made p y h)) =
      contents-are g h from.frame.owner from.frame.number run.0 agree ∙ (λ j. written (patches (journal_made (sym the.3 j) (sym the.4 j) h))) in
      let bytes : r.bytes ≡ take len (drop from.off (contents_at g from.frame.owner.0 from.frame.number)) =
      writes ∙ (sliced (written (patches (journal_made p y h))) o len ∙ (λ j. take len (drop (the.5 j) (sym held j)))) in
      one-write g h (stepped d (call_steps.Copy from to len) seen answer) to.frame.owner to.frame.number to.off (take len (drop from.off (contents_at g from.frame.owner.0 from.frame.number))) t q (frame_steps.Copied p y o r) r (λ rs. refl)
      refl run.1 the.0 the.1 the.2 bytes i agree
  writes-by-access g h i d given step x seen answer passed run the writes agree = absurd writes

  -- the bytes that a read had
  pub read-bytes : (g : History) (h : StepHistory) (dom : DomId) (frame off : ℕ) (bytes : List ℕ) → position_in k.ids dom < k.domains → IsTrueStep k h (Frame (position_in k.ids dom) frame (frame_steps.Read off bytes)) → WritesAgree k g h
      → bytes ≡ slice_range (contents_at g dom.0 frame) off (off + length bytes)
  read-bytes g h dom frame off bytes l says agree = says ∙ ap (λ (ys : List ℕ). slice_range ys off (off + length bytes)) (sym (contents-are g h dom frame l agree))
