-- Of two pins of an entry one is left where the other is given back.
use Rattle.std.proofs.Common.{◌≡◌, ℕ, ◌+◌, ◌<◌, ◌==◌, ◌&&◌, Bool, true, cond, arith, ap, refl, sym, subst, List, eq-eqb}
use Rattle.gt_types.specs.declared.DomId.{DomId}
use Rattle.gt_types.specs.declared.GrantRef.{GrantRef}
use Rattle.gt_types.specs.declared.Dir.TheVariants.{Read}
use Rattle.gt_words.specs.Conditions.{Board, Holds, HoldsOneMore, KeepsPins, position_at}
use Rattle.gt_words.specs.Answers.{UnpinsPin}
use Rattle.gt_word_history.specs.Controls.{generation_of}
use Rattle.gt_words.specs.Keeping.{held, is_pin_of}
use Rattle.gt_word_history.specs.Views.{LivePin, pins_like}
use Rattle.gt_word_history.specs.declared.view.View.{View}
use Rattle.gt_words.specs.declared.words.Pin.{Pin}

pub one_left : (t r g h : ℕ) (v0 v1 v2 v3 v4 : View) → HoldsOneMore t r Read g v0 v1 → KeepsPins v1 v2 → HoldsOneMore t r Read h v2 v3 → HoldsOneMore t r Read g v4 v3 → Holds t r Read h v4
one_left t r g h v0 v1 v2 v3 v4 first kept second back = let a = first t r Read h in let b : held t r Read h v2 ≡ held t r Read h v1 = ap (λ (ps : List LivePin). pins_like Read h ps) (kept t r) in
    let c = second t r Read h in let d = back t r Read h in
    let same : is_pin_of t r Read h t r Read h ≡ true = λ i. eq-eqb t t refl i && (eq-eqb r r refl i && (true && eq-eqb h h refl i)) in
    let one : cond (is_pin_of t r Read h t r Read h) 1 0 ≡ 1 = ap {B = ℕ} (λ (q : Bool). cond q 1 0) same in omega (arith, a, b, c, d, one)

-- a pin is held while another is taken
pub still_held : (t r g h : ℕ) (v1 v2 v3 : View) → Holds t r Read g v1 → KeepsPins v1 v2 → HoldsOneMore t r Read h v2 v3 → Holds t r Read g v3
still_held t r g h v1 v2 v3 holds kept second = let b : held t r Read g v2 ≡ held t r Read g v1 = ap (λ (ps : List LivePin). pins_like Read g ps) (kept t r) in let c = second t r Read g in omega (arith, holds, b, c)

-- the pin's own entry is the one that it was taken of
pub of_pin : (b : Board) (d : DomId) (q : GrantRef) (p : Pin) (w : View) → p ≡ record { dom = d; gref = q; word = p.word; dir = Read } → Holds (position_at b d) q.0 Read (generation_of p.word) w → Holds (position_at b p.dom) p.gref.0 p.dir (generation_of p.word) w
of_pin b d q p w e = subst (λ (x : Pin). Holds (position_at b x.dom) x.gref.0 x.dir (generation_of p.word) w) (sym e)

pub of_entry : (b : Board) (d : DomId) (q : GrantRef) (p : Pin) (v w : View) → p ≡ record { dom = d; gref = q; word = p.word; dir = Read } → UnpinsPin b p v w → HoldsOneMore (position_at b d) q.0 Read (generation_of p.word) w v
of_entry b d q p v w e z = subst (λ (x : Pin). HoldsOneMore (position_at b x.dom) x.gref.0 x.dir (generation_of p.word) w v) e z.one_less
