-- A leg on the words: what each of its steps makes of it.
use Rattle.std.proofs.Common.{◌≡◌, ◌∙◌, ◌==◌, ◌-◌, ◌<◌, ℕ, Bool, true, false, nat_lt, if◌then◌else◌, refl, sym, ap}
use Rattle.std.proofs.Common.{subst, [], ◌∷◌, Option, Some, None, arith}
use Rattle.std.proofs.lemmas.Bool.{lt-ltb}
use Rattle.gt_types.specs.declared.denial.Denial.{Denial}
use Rattle.gt_types.specs.declared.denial.Facts.TheVariants as facts
use Rattle.gt_types.specs.declared.denial.Rule.{Rule}
use Rattle.gt_types.specs.declared.denial.Rule.TheVariants.{N9, N18}
use Rattle.gt_types.specs.Denial.{denial_of}
use Rattle.gt_model.specs.Words.{control_of, header_of, is_kind, size_of}
use Rattle.gt_model.specs.declared.control.EntryKind.{EntryKind}
use Rattle.gt_model.specs.declared.control.EntryKind.TheVariants.{Invalid, Page, Sub, Via}
use Rattle.gt_word_history.specs.Rule.{Layout}
use Rattle.gt_word_history.specs.Views.{last_of}
use Rattle.gt_words.specs.Answers.{LooksAtControl}
use Rattle.gt_words.specs.Conditions.{Board, IsSeatOf, IsWordOf, SeatOf, position_at}
use Rattle.gt_word_history.specs.declared.view.View.{View}
use Rattle.gt_calls.specs.Legs.{after_header, on_control_word, after_miss, after_relook, after_words, leg_after}
use Rattle.gt_calls.specs.Legs.{leg_step}
use Rattle.gt_model.specs.Path.{entry_refusal, held_of, rule_of_try}
use Rattle.gt_model.specs.Rules.{first_look}
use Rattle.gt_model.specs.declared.action.Observation.{Observation}
use Rattle.gt_model.specs.declared.action.Observation.TheVariants.{Missed, Word}
use Rattle.gt_model.specs.declared.action.Step.TheVariants.{LookControl, Pin}
use Rattle.gt_model.specs.declared.held.HeldPin.{HeldPin}
use Rattle.gt_model.specs.declared.leg.Leg.{Leg}
use Rattle.gt_calls.specs.declared.leg.LegNext.{LegNext}
use Rattle.gt_calls.specs.declared.leg.LegNext.TheVariants as leg_outcomes
use Rattle.gt_calls.specs.declared.leg.LegPhase.{LegPhase}
use Rattle.gt_calls.specs.declared.leg.LegPhase.TheVariants.{Header, Look, Body, Second, Pinning, Relook}
use Rattle.gt_model.specs.declared.bounds.TheConstants.{MORE_TRIES}
use Rattle.gt_live.specs.Legs.{WalksLeg}
use Rattle.gt_live.specs.Walks.{Made, ReadsBody, ReadsSecond}

-- what follows a look at the header
pub header-refuses : (l : Leg) (word : ℕ) (has : Bool) (denial : Denial)
    → has ≡ nat_lt l.gref.0 (size_of (header_of word)) → has ≡ false → denial ≡ denial_of N9 (facts.Header l.dom word)
    → after_header l word ≡ leg_outcomes.Refused denial
header-refuses l word has denial has_is lacks is =
    ap (λ (b : Bool). if b then leg_outcomes.Going (Look MORE_TRIES) else leg_outcomes.Refused (denial_of N9 (facts.Header l.dom word)))
    (sym has_is ∙ lacks)
    ∙ ap (λ (d : Denial). leg_outcomes.Refused d) (sym is)

pub header-passes : (l : Leg) (word : ℕ) (has : Bool) → has ≡ nat_lt l.gref.0 (size_of (header_of word))
    → has ≡ true → after_header l word ≡ leg_outcomes.Going (Look MORE_TRIES)
header-passes l word has has_is holds =
    ap (λ (b : Bool). if b then leg_outcomes.Going (Look MORE_TRIES) else leg_outcomes.Refused (denial_of N9 (facts.Header l.dom word)))
    (sym has_is ∙ holds)

-- what follows a first look at the control word
pub look-refuses : (l : Leg) (more word : ℕ) (judged found : Option Rule) (rule : Rule) (denial : Denial)
    → judged ≡ found → judged ≡ Some rule → denial ≡ entry_refusal l.dom l.gref rule word
    → on_control_word l more word found ≡ leg_outcomes.Refused denial
look-refuses l more word judged found rule denial judged_is some is =
    ap (λ (o : Option Rule). on_control_word l more word o) (sym judged_is ∙ some)
    ∙ ap (λ (d : Denial). leg_outcomes.Refused d) (sym is)

pub look-passes : (l : Leg) (more word : ℕ) (judged found : Option Rule) → judged ≡ found → judged ≡ None
    → on_control_word l more word found ≡ leg_outcomes.Going (Body more word)
look-passes l more word judged found judged_is none =
    ap (λ (o : Option Rule). on_control_word l more word o) (sym judged_is ∙ none)

-- what follows a missed try
pub relook-misses : (l : Leg) (more word : ℕ) (rule : Rule) (found : ℕ) → (found == word) ≡ false
    → after_relook l more word rule found ≡ after_miss l more found
relook-misses l more word rule found other =
    ap (λ (b : Bool). if b then leg_outcomes.Refused (entry_refusal l.dom l.gref rule word) else after_miss l more found) other

pub relook-refuses : (l : Leg) (more word : ℕ) (rule : Rule) (found : ℕ) (denial : Denial) → (found == word) ≡ true
    → denial ≡ entry_refusal l.dom l.gref rule word → after_relook l more word rule found ≡ leg_outcomes.Refused denial
relook-refuses l more word rule found denial same is =
    ap (λ (b : Bool). if b then leg_outcomes.Refused (entry_refusal l.dom l.gref rule word) else after_miss l more found) same
    ∙ ap (λ (d : Denial). leg_outcomes.Refused d) (sym is)

pub last-miss : (l : Leg) (more found : ℕ) (denial : Denial) → more ≡ 0
    → denial ≡ entry_refusal l.dom l.gref N18 found → after_miss l more found ≡ leg_outcomes.Refused denial
last-miss l more found denial none is =
    ap (λ (n : ℕ). after_miss l n found) none ∙ ap (λ (d : Denial). leg_outcomes.Refused d) (sym is)

pub next-try : (l : Leg) (more found : ℕ) → (more ≡ 0 → ⊥) → after_miss l more found ≡ leg_outcomes.Going (Look (more - 1))
next-try l more found some =
    let positive : 0 < more = omega (arith, some) in
    ap (λ (b : Bool). if b then leg_outcomes.Going (Look (more - 1)) else leg_outcomes.Refused (entry_refusal l.dom l.gref N18 found))
    (lt-ltb _ _ positive)

-- the kind of an entry that is no sub-page
pub no-sub : (kind : EntryKind) → (kind ≡ Sub → ⊥) → is_kind kind Sub ≡ false
no-sub Invalid other = refl
no-sub Page other = refl
no-sub Sub other = absurd (other refl)
no-sub Via other = refl

-- a look of a seat at the control word of the leg's entry
pub control-made : (b : Board) (l : Leg) (n : ℕ) (s : SeatOf) (w : View) → IsSeatOf b s
    → LooksAtControl b.layout (position_at b l.dom) l.gref.0 n s.view w
    → (l.dom ≡ s.dom → IsWordOf (last_of l.gref.0 w) n) → Made b.layout (LookControl l.dom l.gref) (Word n) s.view w
control-made b l n s w is look own = (look, λ same. own (same ∙ is.named))

module _ (k : Layout) (l : Leg) (v : View) where
  -- a leg at its header has been walked so far
  pub walk-begins : WalksLeg k l v (leg_outcomes.Going Header) v
  walk-begins = ([], (refl, refl))

  -- after a step that was made the leg has come to what it goes on with
  pub walk-on : (at : LegPhase) (seen : Observation) (u w : View) → WalksLeg k l v (leg_outcomes.Going at) u
      → Made k (leg_step l at) seen u w → WalksLeg k l v (leg_after l at seen) w
  walk-on at seen u w x made = ((at, seen, u) ∷ x.0, (made, refl, x.1))

  -- the same, by what that is
  pub walk-to : (next other : LegNext) (w : View) → next ≡ other → WalksLeg k l v next w → WalksLeg k l v other w
  walk-to next other w is x = subst (λ (n : LegNext). WalksLeg k l v n w) is x

  second-read : (more word first second : ℕ) (u w : View) (is_sub : Bool)
      → WalksLeg k l v (if is_sub then leg_outcomes.Going (Second more word first)
      else after_words more word first 0 (rule_of_try l word first 0)) u
      → ReadsSecond is_sub k l second u w
      → WalksLeg k l v (after_words more word first second (rule_of_try l word first second)) w
  second-read more word first second u w true x read = walk-on (Second more word first) (Word second) u w x read
  second-read more word first second u w false x read =
      subst (λ (z : View). WalksLeg k l v (after_words more word first second (rule_of_try l word first second)) z)
      (sym read.1)
      (subst (λ (s : ℕ). WalksLeg k l v (after_words more word first s (rule_of_try l word first s)) u)
      (sym read.0) x)

  -- what follows the body words
  body-read : (more word first second : ℕ) (u w : View) → WalksLeg k l v (leg_outcomes.Going (Body more word)) u
      → ReadsBody k l word first second u w
      → WalksLeg k l v (after_words more word first second (rule_of_try l word first second)) w
  body-read more word first second u w x read =
      second-read more word first second read.0 w (is_kind (control_of word).kind Sub)
      (walk-on (Body more word) (Word first) u read.0 x read.1) read.2

  -- a first look that no rule stands on
  pub looked : (more word : ℕ) (judged : Option Rule) (u w : View) → WalksLeg k l v (leg_outcomes.Going (Look more)) u
      → Made k (LookControl l.dom l.gref) (Word word) u w
      → judged ≡ first_look l (control_of word) → judged ≡ None → WalksLeg k l v (leg_outcomes.Going (Body more word)) w
  looked more word judged u w x made judged_is none =
      walk-to _ (leg_outcomes.Going (Body more word)) w (look-passes l more word judged _ judged_is none)
      (walk-on (Look more) (Word word) u w x made)

  -- all the words of a try, and whether a rule stands on them
  pub tried : (more word first second : ℕ) (judged judged' next : Option Rule) (u w1 w2 : View)
      → WalksLeg k l v (leg_outcomes.Going (Look more)) u → Made k (LookControl l.dom l.gref) (Word word) u w1
      → judged ≡ first_look l (control_of word) → judged ≡ None → ReadsBody k l word first second w1 w2
      → judged' ≡ rule_of_try l word first second → judged' ≡ next
      → WalksLeg k l v (after_words more word first second next) w2
  tried more word first second judged judged' next u w1 w2 x made judged_is none read rule_is is =
      subst (λ (o : Option Rule). WalksLeg k l v (after_words more word first second o) w2) (sym rule_is ∙ is)
      (body-read more word first second w1 w2 (looked more word judged u w1 x made judged_is none) read)

  -- a second look that found another word
  pub relook-missed : (more word : ℕ) (rule : Rule) (found : ℕ) (u w : View)
      → WalksLeg k l v (leg_outcomes.Going (Relook more word rule)) u → Made k (LookControl l.dom l.gref) (Word found) u w
      → (found == word) ≡ false → WalksLeg k l v (after_miss l more found) w
  relook-missed more word rule found u w x made other =
      walk-to _ (after_miss l more found) w (relook-misses l more word rule found other)
      (walk-on (Relook more word rule) (Word found) u w x made)

  -- a pin that was missed
  pub pin-missed : (more word first second found : ℕ) (held : HeldPin) (u w : View)
      → WalksLeg k l v (leg_outcomes.Going (Pinning more word first second)) u → held ≡ held_of l word first second
      → Made k (Pin held) (Missed found) u w → WalksLeg k l v (after_miss l more found) w
  pin-missed more word first second found held u w x is made =
      walk-on (Pinning more word first second) (Missed found) u w x
      (subst (λ (p : HeldPin). Made k (Pin p) (Missed found) u w) is made)
