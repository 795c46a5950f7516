-- The pins that a copy takes and gives back, the last one first.
use Rattle.std.proofs.Common.{◌≡◌, ℕ, ◌<◌, ◌==◌, ◌&&◌, Bool, true, false, cond, refl, sym, ap, ◌∙◌, subst, List, []}
use Rattle.std.proofs.Common.{◌∷◌, ◌++◌, inl, inr, arith}
use Rattle.std.proofs.lemmas.Bool.{eq-eqb, eqb-true, eqb-false}
use Rattle.gt_types.specs.declared.limits.TheConstants.{TABLE_ENTRIES}
use Rattle.gt_word_history.specs.Controls.{generation_of}
use Rattle.gt_words.specs.Conditions.{HasDomain, Holds}
use Rattle.gt_words.specs.Answers.{Pins, Unpins}
use Rattle.gt_word_history.specs.Rule.{Layout, position_in}
use Rattle.gt_word_history.specs.Views.{IsAmong, LivePin, is_same_dir, last_seen, live_pins, record_seen, steps_on}
use Rattle.gt_word_history.specs.Views.{without_pin}
use Rattle.gt_word_history.specs.declared.view.EntryRecord.{EntryRecord}
use Rattle.gt_word_history.specs.declared.view.View.{View}
use Rattle.gt_model.specs.declared.held.HeldPin.{HeldPin}
use Rattle.gt_live.specs.Driving.{IsSame}
use Rattle.gt_live.specs.Mappings.{HasPin, entry_record_of}
use Rattle.gt_live.specs.Underway.{AreOfRun, HasTaken, is_of_entry, live_pins_by}
use Rattle.gt_live.proofs.ActionsAllowed.{in-counted}
use Rattle.gt_live.proofs.Counting.{dir-self}

in-append : {A : Type 0} (a : A) (xs ys : List A) → IsAmong a xs → IsAmong a (xs ++ ys)
in-append a [] ys is = absurd is
in-append a (x ∷ xs) ys (inl e) = inl e
in-append a (x ∷ xs) ys (inr more) = inr (in-append a xs ys more)

module _ (k : Layout) where
  of-itself : (p : HeldPin) → is_of_entry k (position_in k.ids p.dom) p.gref.0 p ≡ true
  of-itself p =
      ap (λ (b : Bool). b && (p.gref.0 == p.gref.0)) (eq-eqb (position_in k.ids p.dom) (position_in k.ids p.dom) refl) ∙ eq-eqb p.gref.0 p.gref.0 refl

  in-live : (taken : List HeldPin) (p : HeldPin) → IsAmong p taken → IsAmong (p.dir, entry_record_of p) (live_pins_by k (position_in k.ids p.dom) p.gref.0 taken)
  in-live [] p is = absurd is
  in-live (q ∷ qs) p (inl e) =
      let t = position_in k.ids p.dom in let r = p.gref.0 in
      let here : is_of_entry k t r q ≡ true = ap (λ (x : HeldPin). is_of_entry k t r x) (sym e) ∙ of-itself p in
      subst (λ (b : Bool). IsAmong (p.dir, entry_record_of p) (cond b ((q.dir, entry_record_of q) ∷ live_pins_by k t r qs) (live_pins_by k t r qs))) (sym here) (inl (ap (λ (x : HeldPin). (x.dir, entry_record_of x)) e))
  in-live (q ∷ qs) p (inr more) = by (is_of_entry k (position_in k.ids p.dom) p.gref.0 q) (in-live qs p more)
    where
      by : (b : Bool) → IsAmong (p.dir, entry_record_of p) (live_pins_by k (position_in k.ids p.dom) p.gref.0 qs)
          → IsAmong (p.dir, entry_record_of p) (cond b ((q.dir, entry_record_of q) ∷ live_pins_by k (position_in k.ids p.dom) p.gref.0 qs) (live_pins_by k (position_in k.ids p.dom) p.gref.0 qs))
      by true is = inr is
      by false is = is

  -- a pin that was taken is in the view
  pub is-taken : (taken : List HeldPin) (v w : View) (p : HeldPin) → HasTaken k taken v w → IsAmong p taken → IsAmong (p.dir, entry_record_of p) (live_pins (steps_on (position_in k.ids p.dom) p.gref.0 w))
  is-taken taken v w p x is =
      let t = position_in k.ids p.dom in let r = p.gref.0 in
      subst (λ (ps : List LivePin). IsAmong (p.dir, entry_record_of p) ps) (sym (x.pins t r)) (in-append (p.dir, entry_record_of p) (live_pins_by k t r taken) (live_pins (steps_on t r v)) (in-live taken p is))

  pub of-run : (taken : List HeldPin) (p : HeldPin) → AreOfRun k taken → IsAmong p taken → HasDomain k p.dom × (p.gref.0 < TABLE_ENTRIES)
  of-run [] p all is = absurd is
  of-run (q ∷ qs) p all (inl e) = subst (λ (x : HeldPin). HasDomain k x.dom × (x.gref.0 < TABLE_ENTRIES)) (sym e) all.0
  of-run (q ∷ qs) p all (inr more) = of-run qs p all.1 more

  pub has-pin : (taken : List HeldPin) (v w : View) (p : HeldPin) → HasTaken k taken v w → AreOfRun k taken → IsAmong p taken → HasPin k w p
  has-pin taken v w p x all is = let run = of-run taken p all is in record { run = run.0; inside = run.1; held = is-taken taken v w p x is }

  pub holds-taken : (taken : List HeldPin) (v w : View) (p : HeldPin) → HasTaken k taken v w → IsAmong p taken → Holds (position_in k.ids p.dom) p.gref.0 p.dir (generation_of p.word) w
  holds-taken taken v w p x is = in-counted p.dir (entry_record_of p) (live_pins (steps_on (position_in k.ids p.dom) p.gref.0 w)) (is-taken taken v w p x is)

  -- nothing is taken at the beginning, and the same is there where nothing is held
  pub none-taken : (v w : View) → IsSame v w → HasTaken k [] v w
  none-taken v w s = record { pins = s.pins; records = s.records; seen = s.seen; position = s.position; ids = s.ids }

  pub all-back : (v w : View) → HasTaken k [] v w → IsSame v w
  all-back v w x = record { pins = x.pins; records = x.records; seen = x.seen; position = x.position; ids = x.ids }

  -- a look changes nothing of it
  pub taken-look : (taken : List HeldPin) (v u w : View) → HasTaken k taken v u → IsSame u w → HasTaken k taken v w
  taken-look taken v u w x s = record {
    pins = λ t r. s.pins t r ∙ x.pins t r;
    records = λ r. s.records r ∙ x.records r;
    seen = λ t r. let one = x.seen t r in let two = s.seen t r in omega (arith, one, two);
    position = s.position ∙ x.position;
    ids = s.ids ∙ x.ids;
  }

  module _ (p : HeldPin) (taken : List HeldPin) (v u w : View) where
    abbrev pub at : ℕ
    at = position_in k.ids p.dom

    abbrev pub rest : ℕ → ℕ → List LivePin
    rest t r = live_pins_by k t r taken

    abbrev pub live : LivePin
    live = (p.dir, entry_record_of p)

    pinned-here : Pins k at p.gref.0 p.dir p.word u w → record_seen (last_seen at p.gref.0 u) ≡ entry_record_of p → HasTaken k taken v u
        → live_pins (steps_on at p.gref.0 w) ≡ (live ∷ rest at p.gref.0) ++ live_pins (steps_on at p.gref.0 v)
    pinned-here m spelled x =
        ap live_pins m.steps.adds.here ∙ (ap (λ (y : EntryRecord). (p.dir, y) ∷ live_pins (steps_on at p.gref.0 u)) spelled ∙ ap (λ (ps : List LivePin). live ∷ ps) (x.pins at p.gref.0))

    pinned-pins : Pins k at p.gref.0 p.dir p.word u w → record_seen (last_seen at p.gref.0 u) ≡ entry_record_of p → HasTaken k taken v u → (t r : ℕ)
        → live_pins (steps_on t r w) ≡ live_pins_by k t r (p ∷ taken) ++ live_pins (steps_on t r v)
    pinned-pins m spelled x t r = by (at == t) (p.gref.0 == r) refl refl
      where
        by : (a b : Bool) → (at == t) ≡ a → (p.gref.0 == r) ≡ b → live_pins (steps_on t r w) ≡ cond (a && b) (live ∷ rest t r) (rest t r) ++ live_pins (steps_on t r v)
        by true true e f =
            subst (λ (n : ℕ). live_pins (steps_on t n w) ≡ (live ∷ rest t n) ++ live_pins (steps_on t n v)) (eqb-true p.gref.0 r f)
            (subst (λ (n : ℕ). live_pins (steps_on n p.gref.0 w) ≡ (live ∷ rest n p.gref.0) ++ live_pins (steps_on n p.gref.0 v)) (eqb-true at t e) (pinned-here m spelled x))
        by true false e f = ap live_pins (m.steps.adds.others t r (λ y z. eqb-false p.gref.0 r f z)) ∙ x.pins t r
        by false b e f = ap live_pins (m.steps.adds.others t r (λ y z. eqb-false at t e y)) ∙ x.pins t r

    pub taken-pin : Pins k at p.gref.0 p.dir p.word u w → record_seen (last_seen at p.gref.0 u) ≡ entry_record_of p → HasTaken k taken v u → HasTaken k (p ∷ taken) v w
    taken-pin m spelled x = record {
      pins = pinned-pins m spelled x;
      records = λ r. m.rows.last r ∙ x.records r;
      seen = λ t r. let one = x.seen t r in let two = m.seen t r in omega (arith, one, two);
      position = ap (λ (y : View). y.position) m.steps.adds.view ∙ x.position;
      ids = ap (λ (y : View). y.ids) m.steps.adds.view ∙ x.ids;
    }

    first-gone : (ps : List LivePin) → without_pin p.dir (generation_of p.word) (live ∷ ps) ≡ ps
    first-gone ps = by (is_same_dir p.dir p.dir && (generation_of p.word == generation_of p.word)) (ap (λ (b : Bool). b && (generation_of p.word == generation_of p.word)) (dir-self p.dir) ∙ eq-eqb (generation_of p.word) (generation_of p.word) refl)
      where
        by : (b : Bool) → b ≡ true → cond b ps (live ∷ without_pin p.dir (generation_of p.word) ps) ≡ ps
        by true e = refl
        by false e = cc

    unpinned-here : Unpins k at p.gref.0 p.dir (generation_of p.word) u w → HasTaken k (p ∷ taken) v u → live_pins (steps_on at p.gref.0 w) ≡ rest at p.gref.0 ++ live_pins (steps_on at p.gref.0 v)
    unpinned-here m x =
        let was : live_pins (steps_on at p.gref.0 u) ≡ live ∷ (rest at p.gref.0 ++ live_pins (steps_on at p.gref.0 v)) =
        x.pins at p.gref.0 ∙ ap (λ (b : Bool). cond b (live ∷ rest at p.gref.0) (rest at p.gref.0) ++ live_pins (steps_on at p.gref.0 v)) (of-itself p) in
        ap live_pins m.steps.adds.here ∙ (ap (λ (ps : List LivePin). without_pin p.dir (generation_of p.word) ps) was ∙ first-gone (rest at p.gref.0 ++ live_pins (steps_on at p.gref.0 v)))

    unpinned-pins : Unpins k at p.gref.0 p.dir (generation_of p.word) u w → HasTaken k (p ∷ taken) v u → (t r : ℕ) → live_pins (steps_on t r w) ≡ live_pins_by k t r taken ++ live_pins (steps_on t r v)
    unpinned-pins m x t r = by (at == t) (p.gref.0 == r) refl refl (x.pins t r)
      where
        by : (a b : Bool) → (at == t) ≡ a → (p.gref.0 == r) ≡ b → live_pins (steps_on t r u) ≡ cond (a && b) (live ∷ rest t r) (rest t r) ++ live_pins (steps_on t r v) → live_pins (steps_on t r w) ≡ rest t r ++ live_pins (steps_on t r v)
        by true true e f was =
            subst (λ (n : ℕ). live_pins (steps_on t n w) ≡ rest t n ++ live_pins (steps_on t n v)) (eqb-true p.gref.0 r f)
            (subst (λ (n : ℕ). live_pins (steps_on n p.gref.0 w) ≡ rest n p.gref.0 ++ live_pins (steps_on n p.gref.0 v)) (eqb-true at t e) (unpinned-here m x))
        by true false e f was = ap live_pins (m.steps.adds.others t r (λ y z. eqb-false p.gref.0 r f z)) ∙ was
        by false b e f was = ap live_pins (m.steps.adds.others t r (λ y z. eqb-false at t e y)) ∙ was

    pub taken-unpin : Unpins k at p.gref.0 p.dir (generation_of p.word) u w → HasTaken k (p ∷ taken) v u → HasTaken k taken v w
    taken-unpin m x = record {
      pins = unpinned-pins m x;
      records = λ r. m.rows.last r ∙ x.records r;
      seen = λ t r. let one = x.seen t r in let two = m.seen t r in omega (arith, one, two);
      position = ap (λ (y : View). y.position) m.steps.adds.view ∙ x.position;
      ids = ap (λ (y : View). y.ids) m.steps.adds.view ∙ x.ids;
    }
