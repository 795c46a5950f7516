-- Pages show what happened, with one item more.
use Rattle.gt_core.proofs.Words.{◌≡◌, ℕ, refl, Bool, true, false, List, [], ◌∷◌, ◌++◌, Option, Some, cond, sym, ap}
use Rattle.gt_core.proofs.Words.{◌∙◌, subst, ◌==◌, ◌&&◌, take, drop, append-nil, DomId, Observation, Step, Unpin}
use Rattle.gt_core.proofs.Words.{History, Setting, Patch, overlay, replay, written, patches_by, open_call, given_in}
use Rattle.gt_model.proofs.Observers.{stepped}
use Rattle.gt_model.specs.History.{contents_at, patches_at, WriteMade}
use Rattle.gt_model.specs.Written.{zeros}
use Rattle.gt_core.specs.Prelude.{Request}
use Rattle.gt_model.specs.declared.action.Step.TheVariants as call_steps
use Rattle.gt_model.specs.declared.trace.Answer.{Answer}
use Rattle.gt_model.specs.declared.trace.ItemEvent.TheVariants.{Began}
use Rattle.gt_model.specs.declared.trace.Item.{Item}
use Rattle.gt_explore_state.specs.Pages.{page_contents, WritesPage}
use Rattle.gt_explore_state.specs.Shows.{IsGivenTo, IsItemOfStep, PagesShow, StepFits, unheld}
use Rattle.gt_explore_state.specs.Writing.{IsInFrames, PagesAfter}
use Rattle.gt_explore_state.specs.declared.pages.SparsePage.{SparsePage}
use Rattle.gt_explore_state.proofs.Showing.{item-is}

replay-push : (xs : List ℕ) (ps : List Patch) (p : Patch) → replay xs (ps ++ p ∷ []) ≡ overlay (replay xs ps) p.off p.bytes
replay-push xs [] p = refl
replay-push xs (q ∷ ps) p = replay-push (overlay xs q.off q.bytes) ps p

-- the bytes of a frame after a writing
after-write : (ps : List Patch) (w : WriteMade) (t f : ℕ)
    → written (ps ++ patches_by (Some w) t f) ≡ cond ((w.at.frame.owner.0 == t) && (w.at.frame.number == f)) (overlay (written ps) w.at.off w.bytes) (written ps)
after-write ps w t f = by ((w.at.frame.owner.0 == t) && (w.at.frame.number == f)) where
  by : (b : Bool) → written (ps ++ cond b (record { off = w.at.off; bytes = w.bytes } ∷ []) []) ≡ cond b (overlay (written ps) w.at.off w.bytes) (written ps)
  by true = replay-push zeros ps (record { off = w.at.off; bytes = w.bytes })
  by false = ap written (append-nil ps)

-- pages that were written so
wrote : (h : History) (old new : List SparsePage) (w : WriteMade) (bytes : List ℕ) → PagesShow h old → bytes ≡ w.bytes → WritesPage old new w.at.frame.owner.0 w.at.frame.number w.at.off bytes
    → (t f : ℕ) → page_contents new t f ≡ written (patches_at h t f ++ patches_by (Some w) t f)
wrote h old new w bytes shows same writes t f = writes t f
    ∙ ap (λ (l : List ℕ). cond ((w.at.frame.owner.0 == t) && (w.at.frame.number == f)) (overlay (page_contents old t f) w.at.off l) (page_contents old t f)) same
    ∙ ap (λ (l : List ℕ). cond ((w.at.frame.owner.0 == t) && (w.at.frame.number == f)) (overlay l w.at.off w.bytes) l) (shows t f)
    ∙ sym (after-write (patches_at h t f) w t f)

step-written : (h : History) (d : DomId) (answer : Option Answer) (seen : Observation) (old new : List SparsePage) (given : List ℕ) (z : Step) → PagesShow h old → IsGivenTo h d z given → PagesAfter z given old new → PagesShow (stepped d z seen answer ∷ h) new
unfolding patches_at
step-written h d answer seen old new given (call_steps.Write dom frame off len) shows is writes = λ t f.
    wrote h old new (record { at = record { frame = record { owner = dom; number = frame }; off = off }; bytes = given_in (open_call h d.0) }) given shows is writes t f
step-written h d answer seen old new given (call_steps.Copy from to len) shows is writes = λ t f.
    wrote h old new (record { at = to; bytes = take len (drop from.off (contents_at h from.frame.owner.0 from.frame.number)) })
    (take len (drop from.off (page_contents old from.frame.owner.0 from.frame.number))) shows (ap (λ (l : List ℕ). take len (drop from.off l)) (shows from.frame.owner.0 from.frame.number)) writes t f
step-written h d answer seen old new given z shows is writes = λ t f.
    ap (λ (l : List SparsePage). page_contents l t f) writes ∙ shows t f ∙ sym (ap written (append-nil (patches_at h t f)))

-- what holds a pin makes no difference to pages

to-unheld : (given : List ℕ) (old new : List SparsePage) (z : Step) → PagesAfter z given old new → PagesAfter (unheld z) given old new
to-unheld given old new (Unpin p holder) t = t
to-unheld given old new z t = t

from-unheld : (given : List ℕ) (old new : List SparsePage) (z : Step) → PagesAfter (unheld z) given old new → PagesAfter z given old new
from-unheld given old new (Unpin p holder) t = t
from-unheld given old new z t = t

to-given : (h : History) (d : DomId) (given : List ℕ) (z : Step) → IsGivenTo h d z given → IsGivenTo h d (unheld z) given
to-given h d given (Unpin p holder) t = t
to-given h d given z t = t

from-given : (h : History) (d : DomId) (given : List ℕ) (z : Step) → IsGivenTo h d (unheld z) given → IsGivenTo h d z given
from-given h d given (Unpin p holder) t = t
from-given h d given z t = t

to-frames : (s : Setting) (h : History) (d : DomId) (seen : Observation) (z : Step) → StepFits s h d z seen → IsInFrames (unheld z)
to-frames s h d seen (call_steps.Write dom frame off len) fits = fits
to-frames s h d seen (call_steps.Copy from to len) fits = fits
to-frames s h d seen (Unpin p holder) fits = tt
to-frames s h d seen z fits = tt

from-frames : (z : Step) → IsInFrames (unheld z) → IsInFrames z
from-frames (Unpin p holder) fits = fits
from-frames z fits = fits

-- its ranges are inside frames
pub in-frames : (s : Setting) (h : History) (i : Item) (at : ℕ) (step : Step) (seen : Observation) → IsItemOfStep s h i at step seen → IsInFrames step
in-frames s h i at step seen item = from-frames step (subst IsInFrames item.same (to-frames s h i.actor seen item.made item.fits))

-- the pages after a step show what happened with its item
pub pages-shown : (s : Setting) (h : History) (i : Item) (at : ℕ) (step : Step) (seen : Observation) (given : List ℕ) (old new : List SparsePage) → PagesShow h old → IsItemOfStep s h i at step seen → IsGivenTo h i.actor step given
    → PagesAfter step given old new → PagesShow (i ∷ h) new
pages-shown s h i at step seen given old new shows item is t =
    let after = from-unheld given old new item.made (subst (λ (z : Step). PagesAfter z given old new) (sym item.same) (to-unheld given old new step t)) in
    let bytes = from-given h i.actor given item.made (subst (λ (z : Step). IsGivenTo h i.actor z given) (sym item.same) (to-given h i.actor given step is)) in
    subst (λ (x : Item). PagesShow (x ∷ h) new) (sym (item-is i item.domain.id item.made seen item.actor item.happened))
    (step-written h item.domain.id i.answer seen old new given item.made shows (subst (λ (d : DomId). IsGivenTo h d item.made given) item.actor bytes) after)

-- a call that begins writes no bytes
pub pages-begun : (h : History) (d : DomId) (request : Request) (answer : Option Answer) (pages : List SparsePage) → PagesShow h pages → PagesShow (record { actor = d; happened = Began request; answer = answer } ∷ h) pages
unfolding patches_at
pages-begun h d request answer pages shows = λ t f. shows t f ∙ sym (ap written (append-nil (patches_at h t f)))
