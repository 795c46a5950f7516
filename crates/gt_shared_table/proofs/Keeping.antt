-- Taking a frame, giving it back, and a step on words keep what the rule says of frames.
use Rattle.std.proofs.Common.{◌≡◌, ◌≢◌, inl, inr, ⊎_elim, ℕ, ◌+◌, ◌*◌, ◌<◌, Bool, true, cond, ◌==◌, ◌&&◌, List, [], ◌∷◌}
use Rattle.std.proofs.Common.{get_or, set, length, sym, refl, ap, ◌∙◌, subst, arith, length-set, eq-eqb}
use Rattle.std.proofs.Common.{get_or-set_other, get_or-set_same}
use Rattle.std.specs.Prelude.{Some}
use mathlib.Core.Option.{Option as Maybe, some, none, some-injective, some-ne-none}
use mathlib.Core.Logic.{dite}
use native.Mathlib.Decide.{ℕ_discrete}
use lib.ListN.{get_elem?}
use Rattle.atomic_table.specs.Table.{State, stepped, keeps, takes, gives}
use Rattle.atomic_table.proofs.Lists.{at_set, set_else, set_here}
use Rattle.gt_frames.specs.Frames.{FrameState}
use Rattle.gt_frames.specs.declared.writ.WriteRecord.{WriteRecord}
use Rattle.gt_word_history.proofs.Order.{apart_test}
use Rattle.gt_word_history.proofs.Order.{within}
use Rattle.gt_word_history.specs.Flags.{Raises}
use Rattle.gt_word_history.specs.History.{Layout, StepHistory, header_place}
use Rattle.gt_word_history.specs.Views.{IsAmong}
use Rattle.gt_word_history.specs.declared.view.FlagStep.TheVariants.{Passed, Raised}
use Rattle.gt_word_history.specs.declared.view.FrameStep.{FrameStep}
use Rattle.gt_word_history.specs.declared.view.SeatStep.{SeatStep}
use Rattle.gt_word_history.specs.declared.view.SeatStep.TheVariants.{Entry, Flag, Frame, Header}
use Rattle.gt_shared_table.specs.declared.rule.FrameHolder.{FrameHolder}
use Rattle.gt_shared_table.specs.Bytes.{IsOnWords, IsTrueStep, journal_after, journal_by, journal_made}
use Rattle.gt_shared_table.specs.Rule.{AreOnce, Cell, FlagsAreKept, FrameAt, Has, IsNamed, FramesAreKept, Places}
use Rattle.gt_shared_table.specs.Rule.{flag_place, lock_place, made}
use Rattle.gt_shared_table.specs.Recording.{AreLeft}
use Rattle.gt_shared_table.proofs.OneStep.{word_again}

pub has_of : (p : ℕ × FrameState) (ps : List (ℕ × FrameState)) → IsAmong p ps → Has p.0 ps
has_of p [] is = absurd is
has_of p (x ∷ xs) (inl e) = inl (ap (λ (z : ℕ × FrameState). z.0) (sym e))
has_of p (x ∷ xs) (inr is) = inr (has_of p xs is)

-- of what is left when a frame is given back
module _ (q : ℕ) (x : FrameState) where
  pub was_mine : (held hs : List (ℕ × FrameState)) → AreLeft q x held hs → IsAmong (q, x) held
  was_mine held hs (inl e) = subst (IsAmong (q, x)) (sym e) (inl refl)
  was_mine held hs (inr e) = subst (IsAmong (q, x)) (sym e.2) (inr (inl refl))

  left_among : (held hs : List (ℕ × FrameState)) → AreLeft q x held hs → (p : ℕ × FrameState) → IsAmong p hs → IsAmong p held
  left_among held hs (inl e) p is = subst (IsAmong p) (sym e) (inr is)
  left_among held hs (inr e) p is = subst (IsAmong p) (sym e.2) (⊎_elim (λ f. inl f) (λ f. inr (inr f)) (subst (IsAmong p) e.3 is))

  left_has : (held hs : List (ℕ × FrameState)) → AreLeft q x held hs → (a : ℕ) → Has a hs → Has a held
  left_has held hs (inl e) a is = subst (Has a) (sym e) (inr is)
  left_has held hs (inr e) a is = subst (Has a) (sym e.2) (⊎_elim (λ f. inl f) (λ f. inr (inr f)) (subst (Has a) e.3 is))

  left_without : (held hs : List (ℕ × FrameState)) → AreLeft q x held hs → AreOnce held → Has q hs → ⊥
  left_without held hs (inl e) once is = (subst AreOnce e once).0 is
  left_without held hs (inr e) once is = let o = subst AreOnce e.2 once in ⊎_elim (λ (f : e.0.0 ≡ q). o.0 (inl (sym f))) (λ f. o.1.0 f) (subst (Has q) e.3 is)

  left_once : (held hs : List (ℕ × FrameState)) → AreLeft q x held hs → AreOnce held → AreOnce hs
  left_once held hs (inl e) once = (subst AreOnce e once).1
  left_once held hs (inr e) once = let o = subst AreOnce e.2 once in subst AreOnce (sym e.3) ((λ has. o.0 (inr has)), o.1.1)

at_home : (y : Cell) → some (some y) ≡ some none → ⊥
at_home y e = some-ne-none y (some-injective (some y) none e)

on_words : (x : SeatStep) → IsOnWords x → (t f : ℕ) (rs : List WriteRecord) → journal_after t f x rs ≡ rs
on_words (Entry d q m) is t f rs = refl
on_words (Header d m) is t f rs = refl
on_words (Frame d q m) is t f rs = absurd is
on_words (Flag g m) is t f rs = absurd is

no_bytes : (k : Layout) (h : StepHistory) (x : SeatStep) → IsOnWords x → IsTrueStep k h x
no_bytes k h (Entry d q m) is = tt
no_bytes k h (Header d m) is = tt
no_bytes k h (Frame d q m) is = absurd is
no_bytes k h (Flag g m) is = absurd is

no_flag : (x : SeatStep) → IsOnWords x → (f : ℕ) → Raises f x → ⊥
no_flag (Entry d q m) is f r = r
no_flag (Header d m) is f r = r
no_flag (Frame d q m) is f r = is
no_flag (Flag g m) is f r = is

-- no lock is a flag's word
no_flag_there : (b : Places) (q : ℕ) (n : FrameAt) (f : ℕ) → IsNamed b q n → flag_place b f ≢ lock_place b q
no_flag_there b q n f named e = let t : ℕ = header_place b.layout.domains in let l : ℕ = length b.names in let lt : q < l = within b.names q n named in let j : t + 8 * l + f ≡ t + 8 * q = e in omega arith

one_lock : (b : Places) (a q : ℕ) → lock_place b a ≡ lock_place b q → a ≡ q
one_lock b a q e = let t : ℕ = header_place b.layout.domains in let f : t + 8 * a ≡ t + 8 * q = e in omega arith

module _ (s : State Cell FrameHolder) (id : ℕ) (w : FrameHolder) where
  -- what holds of each view after one was set
  each_view : (P : ℕ → FrameHolder → Type 0) → P id w → ((j : ℕ) (u : FrameHolder) → j ≢ id → get_elem? s.views j ≡ some u → P j u) → (j : ℕ) (u : FrameHolder) → get_elem? (set s.views id w) j ≡ some u → P j u
  each_view P here else j u e = ⊎_elim (λ (t : (j ≡ id) × (w ≡ u)). subst (λ (z : ℕ × FrameHolder). P z.0 z.1) (λ i. (sym t.0 i, t.1 i)) here)
      (λ (t : (j ≢ id) × (get_elem? s.views j ≡ some u)). else j u t.0 t.1) (at_set s.views id j w u e)

module _ (b : Places) (h : StepHistory) (s : State Cell FrameHolder) (kept : FramesAreKept b h s) (id : ℕ) (v : FrameHolder) (at : get_elem? s.views id ≡ some v) where
  one_name : (q a : ℕ) (n c : FrameAt) → IsNamed b q n → IsNamed b a c → a ≡ q → n ≡ c
  one_name q a n c named nm e = some-injective n c (sym named ∙ (ap (get_elem? b.names) (sym e) ∙ nm))

  -- a step that leaves all frames, on a word that is no lock
  module _ (x : SeatStep) (unwritten : (t f : ℕ) (rs : List WriteRecord) → journal_after t f x rs ≡ rs) (says : IsTrueStep b.layout h x) (w : FrameHolder) (same : w.held ≡ v.held) (i n : ℕ)
      (no_lock : (q : ℕ) → q < length b.names → lock_place b q ≢ i) (flags : FlagsAreKept b ((id, x) ∷ h) (set s.words i n)) where
    abbrev next : StepHistory
    next = (id, x) ∷ h

    same_made : (c : FrameAt) → made b next c ≡ made b h c
    same_made c = ap (λ (rs : List WriteRecord). record (made b h c) { journal = rs }) (unwritten c.0 c.1 (journal_made c.0 c.1 h))

    pub others_keep : (carried : List (ℕ × Cell)) → FramesAreKept b next (stepped s i n id carried w keeps)
    others_keep carried = record {
      truth = (says, kept.truth);
      apart = kept.apart;
      home = λ q c y named found. kept.home q c y named found ∙ ap Some (sym (same_made c));
      values = λ j u p c found. each_view s id w (λ _ u. IsAmong p u.held → IsNamed b p.0 c → p.1 ≡ made b next c)
          (λ among named. kept.values id v p c at (subst (IsAmong p) same among) named ∙ sym (same_made c))
          (λ j u ne f among named. kept.values j u p c f among named ∙ sym (same_made c)) j u found;
      out = λ j u q found. each_view s id w (λ _ u. Has q u.held → get_elem? s.homes q ≡ some none)
          (λ has. kept.out id v q at (subst (Has q) same has)) (λ j u ne f. kept.out j u q f) j u found;
      one = λ i j u z q fi fj hi hj. each_view s id w (λ i u. Has q u.held → i ≡ j)
          (λ hi. each_view s id w (λ j z. Has q z.held → id ≡ j) (λ hj. refl) (λ j z ne f hj. kept.one id j v z q at f (subst (Has q) same hi) hj) j z fj hj)
          (λ i u ne f hi. each_view s id w (λ j z. Has q z.held → i ≡ j) (λ hj. kept.one i id u v q f at hi (subst (Has q) same hj)) (λ j z ne' f' hj. kept.one i j u z q f f' hi hj) j z fj hj)
          i u fi hi;
      once = λ j u found. each_view s id w (λ _ u. AreOnce u.held) (subst AreOnce (sym same) (kept.once id v at)) (λ j u ne f. kept.once j u f) j u found;
      free = λ q lt is_free. kept.free q lt (sym (get_or-set_other s.words i (lock_place b q) n 0 (no_lock q lt)) ∙ is_free);
      wide = λ q lt. let l = length-set s.words i n in let f = kept.wide q lt in omega arith;
      flags = flags;
    }

  -- a word that is no flag's may change
  flags_stay : (x : SeatStep) (i n : ℕ) → ((f : ℕ) → flag_place b f ≢ i) → FlagsAreKept b ((id, x) ∷ h) (set s.words i n)
  flags_stay x i n else f is = inr (kept.flags f (λ none. is (get_or-set_other s.words i (flag_place b f) n 0 (else f) ∙ none)))

  -- a step on words
  pub words_keep : (x : SeatStep) → IsOnWords x → (w : FrameHolder) → w.held ≡ v.held → (i n : ℕ) → i < header_place b.layout.domains → (carried : List (ℕ × Cell)) → FramesAreKept b ((id, x) ∷ h) (stepped s i n id carried w keeps)
  words_keep x is w same i n before = others_keep x (on_words x is) (no_bytes b.layout h x is) w same i n
      (λ q lt e. let t : ℕ = header_place b.layout.domains in let f : t + 8 * q ≡ i = e in let g : i < t = before in omega arith)
      (flags_stay x i n (λ f e. let t : ℕ = header_place b.layout.domains in let l : ℕ = length b.names in let j : t + 8 * l + f ≡ i = e in let g : i < t = before in omega arith))

  -- a step on a flag
  module _ (f : ℕ) where
    no_lock_there : (q : ℕ) → q < length b.names → lock_place b q ≢ flag_place b f
    no_lock_there q lt e = let t : ℕ = header_place b.layout.domains in let l : ℕ = length b.names in let j : t + 8 * q ≡ t + 8 * l + f = e in let g : q < l = lt in omega arith

    other_flag : (g : ℕ) → (f ≡ g → ⊥) → flag_place b g ≢ flag_place b f
    other_flag g ne e = let t : ℕ = header_place b.layout.domains + 8 * length b.names in let j : t + g ≡ t + f = e in ne (omega arith)

    flags_raised : FlagsAreKept b ((id, Flag f Raised) ∷ h) (set s.words (flag_place b f) 1)
    flags_raised g is = dite (ℕ_discrete f g) (λ (e : f ≡ g). inl e)
        (λ ne. inr (kept.flags g (λ none. is (get_or-set_other s.words (flag_place b f) (flag_place b g) 1 0 (other_flag g ne) ∙ none))))

    pub raise_keeps : (w : FrameHolder) → w.held ≡ v.held → (carried : List (ℕ × Cell)) → FramesAreKept b ((id, Flag f Raised) ∷ h) (stepped s (flag_place b f) 1 id carried w keeps)
    raise_keeps w same = others_keep (Flag f Raised) (λ t q rs. refl) tt w same (flag_place b f) 1 no_lock_there flags_raised

    pub pass_keeps : (n : ℕ) → get_or s.words (flag_place b f) 0 ≡ n → n ≢ 0 → (w : FrameHolder) → w.held ≡ v.held → (carried : List (ℕ × Cell)) → FramesAreKept b ((id, Flag f Passed) ∷ h) (stepped s (flag_place b f) n id carried w keeps)
    pass_keeps n is raised w same = others_keep (Flag f Passed) (λ t q rs. refl) (kept.flags f (λ none. raised (sym is ∙ none))) w same (flag_place b f) n no_lock_there
        (λ g there. inr (kept.flags g (λ none. there (ap (λ (ws : List ℕ). get_or ws (flag_place b g) 0) (ap (set s.words (flag_place b f)) (sym is) ∙ word_again s.words (flag_place b f)) ∙ none))))

  busy_here : (q : ℕ) → q < length b.names → (k : ℕ) → k ≢ 0 → get_or (set s.words (lock_place b q) k) (lock_place b q) 0 ≡ 0 → ⊥
  busy_here q lt k busy is = busy (sym (get_or-set_same s.words (lock_place b q) k 0 (kept.wide q lt)) ∙ is)

  -- a seat waits for a frame
  pub waits_keep : (q : ℕ) (n : FrameAt) → IsNamed b q n → q < length b.names → (k : ℕ) → k ≢ 0
      → FramesAreKept b h (record { words = set s.words (lock_place b q) k; homes = s.homes; views = s.views })
  waits_keep q n named lt k busy = record {
    truth = kept.truth;
    apart = kept.apart;
    home = kept.home;
    values = kept.values;
    out = kept.out;
    one = kept.one;
    once = kept.once;
    free = λ a lta is_free. dite (ℕ_discrete a q)
        (λ (e : a ≡ q). absurd (busy_here q lt k busy (subst (λ (i : ℕ). get_or (set s.words (lock_place b q) k) (lock_place b i) 0 ≡ 0) e is_free)))
        (λ (ne : a ≢ q). kept.free a lta (sym (get_or-set_other s.words (lock_place b q) (lock_place b a) k 0 (λ e. ne (one_lock b a q e))) ∙ is_free));
    wide = λ a lta. let l = length-set s.words (lock_place b q) k in let f = kept.wide a lta in omega arith;
    flags = λ f is. kept.flags f (λ none. is (get_or-set_other s.words (lock_place b q) (flag_place b f) k 0 (no_flag_there b q n f named) ∙ none));
  }

  -- a frame is taken
  module _ (q : ℕ) (n : FrameAt) (named : IsNamed b q n) (y : Cell) (there : get_elem? s.homes q ≡ some (some y)) (lt : q < length b.names) (w : FrameHolder) (more : w.held ≡ (q, made b h n) ∷ v.held) (k : ℕ) (busy : k ≢ 0) where
    abbrev x : FrameState
    x = made b h n

    abbrev hs : List (Maybe Cell)
    hs = set s.homes q none

    nobody : {T : Type 0} (j : ℕ) (u : FrameHolder) → get_elem? s.views j ≡ some u → Has q u.held → T
    nobody j u found has = absurd (at_home y (sym there ∙ kept.out j u q found has))

    stays : (a : ℕ) → get_elem? s.homes a ≡ some none → get_elem? hs a ≡ some none
    stays a e = dite (ℕ_discrete a q) (λ (f : a ≡ q). subst (λ (z : ℕ). get_elem? hs z ≡ some none) (sym f) (set_here s.homes q none (within s.homes q (some y) there)))
        (λ (ne : a ≢ q). set_else s.homes q a none ne ∙ e)

    among_more : (p : ℕ × FrameState) (c : FrameAt) → IsAmong p ((q, x) ∷ v.held) → IsNamed b p.0 c → p.1 ≡ made b h c
    among_more p c (inl e) nm = ap (λ (z : ℕ × FrameState). z.1) e ∙ ap (made b h) (one_name q p.0 n c named nm (ap (λ (z : ℕ × FrameState). z.0) e))
    among_more p c (inr is) nm = kept.values id v p c at is nm

    out_more : (a : ℕ) → Has a ((q, x) ∷ v.held) → get_elem? hs a ≡ some none
    out_more a (inl e) = subst (λ (z : ℕ). get_elem? hs z ≡ some none) e (set_here s.homes q none (within s.homes q (some y) there))
    out_more a (inr has) = stays a (kept.out id v a at has)

    one_more : (a j : ℕ) (u : FrameHolder) → get_elem? s.views j ≡ some u → Has a ((q, x) ∷ v.held) → Has a u.held → id ≡ j
    one_more a j u found (inl e) has = nobody j u found (subst (λ (z : ℕ). Has z u.held) (sym e) has)
    one_more a j u found (inr mine) has = kept.one id j v u a at found mine has

    pub takes_keep : (carried : List (ℕ × Cell)) → FramesAreKept b h (stepped s (lock_place b q) k id carried w (takes q y))
    takes_keep carried = record {
      truth = kept.truth;
      apart = kept.apart;
      home = λ a c z nm found. ⊎_elim (λ (t : (a ≡ q) × (none ≡ some z)). absurd (some-ne-none z (sym t.1)))
          (λ (t : (a ≢ q) × (get_elem? s.homes a ≡ some (some z))). kept.home a c z nm t.1) (at_set s.homes q a none (some z) found);
      values = λ j u p c found. each_view s id w (λ _ u. IsAmong p u.held → IsNamed b p.0 c → p.1 ≡ made b h c)
          (λ is nm. among_more p c (subst (IsAmong p) more is) nm) (λ j u ne f. kept.values j u p c f) j u found;
      out = λ j u a found. each_view s id w (λ _ u. Has a u.held → get_elem? hs a ≡ some none)
          (λ has. out_more a (subst (Has a) more has)) (λ j u ne f has. stays a (kept.out j u a f has)) j u found;
      one = λ i j u z a fi fj hi hj. each_view s id w (λ i u. Has a u.held → i ≡ j)
          (λ hi. each_view s id w (λ j z. Has a z.held → id ≡ j) (λ hj. refl) (λ j z ne f hj. one_more a j z f (subst (Has a) more hi) hj) j z fj hj)
          (λ i u ne f hi. each_view s id w (λ j z. Has a z.held → i ≡ j) (λ hj. sym (one_more a i u f (subst (Has a) more hj) hi)) (λ j z ne' f' hj. kept.one i j u z a f f' hi hj) j z fj hj)
          i u fi hi;
      once = λ j u found. each_view s id w (λ _ u. AreOnce u.held) (subst AreOnce (sym more) ((λ has. nobody id v at has), kept.once id v at)) (λ j u ne f. kept.once j u f) j u found;
      free = λ a lta is_free. dite (ℕ_discrete a q)
          (λ (e : a ≡ q). absurd (busy_here q lt k busy (subst (λ (i : ℕ). get_or (set s.words (lock_place b q) k) (lock_place b i) 0 ≡ 0) e is_free)))
          (λ (ne : a ≢ q). let r = kept.free a lta (sym (get_or-set_other s.words (lock_place b q) (lock_place b a) k 0 (λ e. ne (one_lock b a q e))) ∙ is_free) in (r.0, set_else s.homes q a none ne ∙ r.1));
      wide = λ a lta. let l = length-set s.words (lock_place b q) k in let f = kept.wide a lta in omega arith;
      flags = λ f is. kept.flags f (λ none. is (get_or-set_other s.words (lock_place b q) (flag_place b f) k 0 (no_flag_there b q n f named) ∙ none));
    }

  -- a frame is given back, and an access is one more step
  module _ (q : ℕ) (n : FrameAt) (named : IsNamed b q n) (x : FrameState) (hs : List (ℕ × FrameState)) (has : AreLeft q x v.held hs) (m : FrameStep) (y : FrameState) (is : y ≡ record x { journal = journal_by m x.journal })
      (says : IsTrueStep b.layout h (Frame n.0 n.1 m)) (w : FrameHolder) (left : w.held ≡ hs) where
    abbrev then : StepHistory
    then = (id, Frame n.0 n.1 m) ∷ h

    abbrev back : List (Maybe Cell)
    back = set s.homes q (some (Some y))

    mine : Has q v.held
    mine = has_of (q, x) v.held (was_mine q x v.held hs has)

    x_is : x ≡ made b h n
    x_is = kept.values id v (q, x) n at (was_mine q x v.held hs has) named

    here_made : made b then n ≡ record (made b h n) { journal = journal_by m (journal_made n.0 n.1 h) }
    here_made = ap (λ (c : Bool). record (made b h n) { journal = cond c (journal_by m (journal_made n.0 n.1 h)) (journal_made n.0 n.1 h) })
        (let e : ((n.0 == n.0) && (n.1 == n.1)) ≡ true = λ z. eq-eqb n.0 n.0 refl z && eq-eqb n.1 n.1 refl z in e)

    y_is : y ≡ made b then n
    y_is = is ∙ (ap (λ (z : FrameState). record z { journal = journal_by m z.journal }) x_is ∙ sym here_made)

    else_made : (c : FrameAt) → (n ≡ c → ⊥) → made b then c ≡ made b h c
    else_made c ne = ap (λ (t : Bool). record (made b h c) { journal = cond t (journal_by m (journal_made c.0 c.1 h)) (journal_made c.0 c.1 h) })
        (apart_test n.0 n.1 c.0 c.1 (λ e f. ne (λ i. (e i, f i))))

    other_name : (a : ℕ) (c : FrameAt) → IsNamed b a c → a ≢ q → n ≡ c → ⊥
    other_name a c nm ne e = ne (kept.apart a q n (nm ∙ ap some (sym e)) named)

    was_once : AreOnce v.held
    was_once = kept.once id v at

    had : (a : ℕ) → Has a w.held → Has a v.held
    had a it = left_has q x v.held hs has a (subst (Has a) left it)

    not_mine : (a : ℕ) → Has a w.held → a ≢ q
    not_mine a it e = left_without q x v.held hs has was_once (subst (λ (z : ℕ). Has z hs) e (subst (Has a) left it))

    not_theirs : (j : ℕ) (u : FrameHolder) → j ≢ id → get_elem? s.views j ≡ some u → (a : ℕ) → Has a u.held → a ≢ q
    not_theirs j u ne f a it e = ne (kept.one j id u v q f at (subst (λ (z : ℕ). Has z u.held) e it) mine)

    old : (j : ℕ) (u : FrameHolder) (p : ℕ × FrameState) (c : FrameAt) → get_elem? s.views j ≡ some u → IsAmong p u.held → IsNamed b p.0 c → p.0 ≢ q → p.1 ≡ made b then c
    old j u p c f among nm ne = kept.values j u p c f among nm ∙ sym (else_made c (other_name p.0 c nm ne))

    pub gives_keep : (carried : List (ℕ × Cell)) → FramesAreKept b then (stepped s (lock_place b q) 0 id ((q, Some y) ∷ carried) w gives)
    gives_keep carried = record {
      truth = (says, kept.truth);
      apart = kept.apart;
      home = λ a c z nm found. ⊎_elim (λ (t : (a ≡ q) × (some (Some y) ≡ some z)). sym (some-injective (Some y) z t.1) ∙ ap Some (y_is ∙ ap (made b then) (one_name q a n c named nm t.0)))
          (λ (t : (a ≢ q) × (get_elem? s.homes a ≡ some (some z))). kept.home a c z nm t.1 ∙ ap Some (sym (else_made c (other_name a c nm t.0)))) (at_set s.homes q a (some (Some y)) (some z) found);
      values = λ j u p c found. each_view s id w (λ _ u. IsAmong p u.held → IsNamed b p.0 c → p.1 ≡ made b then c)
          (λ among nm. old id v p c at (left_among q x v.held hs has p (subst (IsAmong p) left among)) nm (not_mine p.0 (has_of p w.held among)))
          (λ j u ne f among nm. old j u p c f among nm (not_theirs j u ne f p.0 (has_of p u.held among))) j u found;
      out = λ j u a found. each_view s id w (λ _ u. Has a u.held → get_elem? back a ≡ some none)
          (λ it. set_else s.homes q a (some (Some y)) (not_mine a it) ∙ kept.out id v a at (had a it))
          (λ j u ne f it. set_else s.homes q a (some (Some y)) (not_theirs j u ne f a it) ∙ kept.out j u a f it) j u found;
      one = λ i j u z a fi fj hi hj. each_view s id w (λ i u. Has a u.held → i ≡ j)
          (λ hi. each_view s id w (λ j z. Has a z.held → id ≡ j) (λ hj. refl) (λ j z ne f hj. kept.one id j v z a at f (had a hi) hj) j z fj hj)
          (λ i u ne f hi. each_view s id w (λ j z. Has a z.held → i ≡ j) (λ hj. kept.one i id u v a f at hi (had a hj)) (λ j z ne' f' hj. kept.one i j u z a f f' hi hj) j z fj hj)
          i u fi hi;
      once = λ j u found. each_view s id w (λ _ u. AreOnce u.held) (subst AreOnce (sym left) (left_once q x v.held hs has was_once)) (λ j u ne f. kept.once j u f) j u found;
      free = λ a lta is_free. dite (ℕ_discrete a q)
          (λ (e : a ≡ q). (Some y, subst (λ (z : ℕ). get_elem? back z ≡ some (some (Some y))) (sym e) (set_here s.homes q (some (Some y)) (within s.homes q none (kept.out id v q at mine)))))
          (λ (ne : a ≢ q). let r = kept.free a lta (sym (get_or-set_other s.words (lock_place b q) (lock_place b a) 0 0 (λ e. ne (one_lock b a q e))) ∙ is_free) in (r.0, set_else s.homes q a (some (Some y)) ne ∙ r.1));
      wide = λ a lta. let l = length-set s.words (lock_place b q) 0 in let f = kept.wide a lta in omega arith;
      flags = λ f is. inr (kept.flags f (λ none. is (get_or-set_other s.words (lock_place b q) (flag_place b f) 0 0 (no_flag_there b q n f named) ∙ none)));
    }

  -- a frame is given back as it was taken, and nothing is told
  module _ (q : ℕ) (n : FrameAt) (named : IsNamed b q n) (x : FrameState) (hs : List (ℕ × FrameState)) (has : AreLeft q x v.held hs) (w : FrameHolder) (left : w.held ≡ hs) where
    abbrev kept_back : List (Maybe Cell)
    kept_back = set s.homes q (some (Some x))

    kept_mine : Has q v.held
    kept_mine = has_of (q, x) v.held (was_mine q x v.held hs has)

    kept_x : x ≡ made b h n
    kept_x = kept.values id v (q, x) n at (was_mine q x v.held hs has) named

    kept_name : (a : ℕ) (c : FrameAt) → IsNamed b a c → a ≢ q → n ≡ c → ⊥
    kept_name a c nm ne e = ne (kept.apart a q n (nm ∙ ap some (sym e)) named)

    kept_once : AreOnce v.held
    kept_once = kept.once id v at

    kept_had : (a : ℕ) → Has a w.held → Has a v.held
    kept_had a it = left_has q x v.held hs has a (subst (Has a) left it)

    kept_else : (a : ℕ) → Has a w.held → a ≢ q
    kept_else a it e = left_without q x v.held hs has kept_once (subst (λ (z : ℕ). Has z hs) e (subst (Has a) left it))

    kept_others : (j : ℕ) (u : FrameHolder) → j ≢ id → get_elem? s.views j ≡ some u → (a : ℕ) → Has a u.held → a ≢ q
    kept_others j u ne f a it e = ne (kept.one j id u v q f at (subst (λ (z : ℕ). Has z u.held) e it) kept_mine)

    kept_old : (j : ℕ) (u : FrameHolder) (p : ℕ × FrameState) (c : FrameAt) → get_elem? s.views j ≡ some u → IsAmong p u.held → IsNamed b p.0 c → p.0 ≢ q → p.1 ≡ made b h c
    kept_old j u p c f among nm ne = kept.values j u p c f among nm

    pub returns_keep : (carried : List (ℕ × Cell)) → FramesAreKept b h (stepped s (lock_place b q) 0 id ((q, Some x) ∷ carried) w gives)
    returns_keep carried = record {
      truth = kept.truth;
      apart = kept.apart;
      home = λ a c z nm found. ⊎_elim (λ (t : (a ≡ q) × (some (Some x) ≡ some z)). sym (some-injective (Some x) z t.1) ∙ ap Some (kept_x ∙ ap (made b h) (one_name q a n c named nm t.0)))
          (λ (t : (a ≢ q) × (get_elem? s.homes a ≡ some (some z))). kept.home a c z nm t.1) (at_set s.homes q a (some (Some x)) (some z) found);
      values = λ j u p c found. each_view s id w (λ _ u. IsAmong p u.held → IsNamed b p.0 c → p.1 ≡ made b h c)
          (λ among nm. kept_old id v p c at (left_among q x v.held hs has p (subst (IsAmong p) left among)) nm (kept_else p.0 (has_of p w.held among)))
          (λ j u ne f among nm. kept_old j u p c f among nm (kept_others j u ne f p.0 (has_of p u.held among))) j u found;
      out = λ j u a found. each_view s id w (λ _ u. Has a u.held → get_elem? kept_back a ≡ some none)
          (λ it. set_else s.homes q a (some (Some x)) (kept_else a it) ∙ kept.out id v a at (kept_had a it))
          (λ j u ne f it. set_else s.homes q a (some (Some x)) (kept_others j u ne f a it) ∙ kept.out j u a f it) j u found;
      one = λ i j u z a fi fj hi hj. each_view s id w (λ i u. Has a u.held → i ≡ j)
          (λ hi. each_view s id w (λ j z. Has a z.held → id ≡ j) (λ hj. refl) (λ j z ne f hj. kept.one id j v z a at f (kept_had a hi) hj) j z fj hj)
          (λ i u ne f hi. each_view s id w (λ j z. Has a z.held → i ≡ j) (λ hj. kept.one i id u v a f at hi (kept_had a hj)) (λ j z ne' f' hj. kept.one i j u z a f f' hi hj) j z fj hj)
          i u fi hi;
      once = λ j u found. each_view s id w (λ _ u. AreOnce u.held) (subst AreOnce (sym left) (left_once q x v.held hs has kept_once)) (λ j u ne f. kept.once j u f) j u found;
      free = λ a lta is_free. dite (ℕ_discrete a q)
          (λ (e : a ≡ q). (Some x, subst (λ (z : ℕ). get_elem? kept_back z ≡ some (some (Some x))) (sym e) (set_here s.homes q (some (Some x)) (within s.homes q none (kept.out id v q at kept_mine)))))
          (λ (ne : a ≢ q). let r = kept.free a lta (sym (get_or-set_other s.words (lock_place b q) (lock_place b a) 0 0 (λ e. ne (one_lock b a q e))) ∙ is_free) in (r.0, set_else s.homes q a (some (Some x)) ne ∙ r.1));
      wide = λ a lta. let l = length-set s.words (lock_place b q) 0 in let f = kept.wide a lta in omega arith;
      flags = λ f is. kept.flags f (λ none. is (get_or-set_other s.words (lock_place b q) (flag_place b f) 0 0 (no_flag_there b q n f named) ∙ none));
    }
