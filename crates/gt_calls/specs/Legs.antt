-- What a leg has left to do, by its phase.
use Rattle.std.specs.Prelude.{◌-◌, ◌==◌, nat_lt, if◌then◌else◌, ℕ, Option, Some, None, zero, suc}
use Rattle.gt_calls.specs.Prelude.{Rule, N9, N18, denial_of, control_of, header_of, Step, LookHeader, LookControl}
use Rattle.gt_calls.specs.Prelude.{LookBody, Pin, Observation, Word, Taken, Missed, Leg, LegPhase, Header, Look, Body}
use Rattle.gt_calls.specs.Prelude.{Second, Pinning, Relook, LegNext, Going, Pinned, MORE_TRIES}
use Rattle.gt_model.specs.declared.change.BodyWord.TheVariants as body_words
use Rattle.gt_types.specs.declared.denial.Facts.TheVariants as facts
use Rattle.gt_model.specs.declared.control.EntryKind.TheVariants as kinds
use Rattle.gt_calls.specs.declared.leg.LegNext.TheVariants as leg_outcomes
use Rattle.gt_model.specs.Rules.{first_look, size_of, is_kind}
use Rattle.gt_model.specs.Path.{rule_of_try, Continuation, AfterRefusal, AfterPin, entry_refusal, leg, tries}
use Rattle.gt_model.specs.Path.{reads_body, reads_second, pins, looks_again, held_of}

-- what follows a missed try, with `more` tries left
abbrev pub missed_to_come : Leg → ℕ → AfterRefusal → AfterPin → ℕ → Continuation
missed_to_come l zero refused pinned found = refused (entry_refusal l.dom l.gref N18 found)
missed_to_come l (suc more) refused pinned found = tries l more refused pinned

-- what a leg has left to do
abbrev pub leg_to_come : Leg → LegPhase → AfterRefusal → AfterPin → Continuation
leg_to_come l Header refused pinned = leg l refused pinned
leg_to_come l (Look more) refused pinned = tries l more refused pinned
leg_to_come l (Body more word) refused pinned = reads_body l word refused (missed_to_come l more refused pinned) pinned
leg_to_come l (Second more word body) refused pinned =
    reads_second l word body refused (missed_to_come l more refused pinned) pinned
leg_to_come l (Pinning more word body second) refused pinned =
    pins (held_of l word body second) (missed_to_come l more refused pinned) pinned
leg_to_come l (Relook more word rule) refused pinned =
    looks_again l word rule refused (missed_to_come l more refused pinned)

-- what is left to do after a step of a leg
abbrev pub outcome_to_come : Leg → LegNext → AfterRefusal → AfterPin → Continuation
outcome_to_come l (Going phase) refused pinned = leg_to_come l phase refused pinned
outcome_to_come l (leg_outcomes.Refused denial) refused pinned = refused denial
outcome_to_come l (Pinned p) refused pinned = pinned p

-- after a missed try comes the next one, and N18 after the fourth
abbrev pub after_miss : Leg → ℕ → ℕ → LegNext
after_miss l more found =
    if nat_lt 0 more then Going (Look (more - 1)) else leg_outcomes.Refused (entry_refusal l.dom l.gref N18 found)

-- after the header: the tries, or N9
abbrev pub after_header : Leg → ℕ → LegNext
after_header l word =
    if nat_lt l.gref.0 (size_of (header_of word)) then Going (Look MORE_TRIES)
    else leg_outcomes.Refused (denial_of N9 (facts.Header l.dom word))

-- after a first look: the body words, or the rule that applies
abbrev pub on_control_word : Leg → ℕ → ℕ → Option Rule → LegNext
on_control_word l more word (Some rule) = leg_outcomes.Refused (entry_refusal l.dom l.gref rule word)
on_control_word l more word None = Going (Body more word)

-- after the body words: the pin, or a second look if a rule applies to them
abbrev pub after_words : ℕ → ℕ → ℕ → ℕ → Option Rule → LegNext
after_words more word body second (Some rule) = Going (Relook more word rule)
after_words more word body second None = Going (Pinning more word body second)

-- after the first body word: the second of a sub-page, and otherwise as after the words
abbrev pub after_body : Leg → ℕ → ℕ → ℕ → LegNext
after_body l more word body =
    if is_kind (control_of word).kind kinds.Sub then Going (Second more word body)
    else after_words more word body 0 (rule_of_try l word body 0)

-- after a second look: the rule if the word is the same, and otherwise a missed try
abbrev pub after_relook : Leg → ℕ → ℕ → Rule → ℕ → LegNext
after_relook l more word rule found =
    if found == word then leg_outcomes.Refused (entry_refusal l.dom l.gref rule word) else after_miss l more found

-- the step of a leg in this phase
abbrev pub leg_step : Leg → LegPhase → Step
leg_step l Header = LookHeader l.dom
leg_step l (Look more) = LookControl l.dom l.gref
leg_step l (Body more word) = LookBody l.dom l.gref body_words.First
leg_step l (Second more word body) = LookBody l.dom l.gref body_words.Second
leg_step l (Pinning more word body second) = Pin (held_of l word body second)
leg_step l (Relook more word rule) = LookControl l.dom l.gref

-- what follows in a leg after what its step saw
abbrev pub leg_after : Leg → LegPhase → Observation → LegNext
leg_after l Header (Word w) = after_header l w
leg_after l (Look more) (Word w) = on_control_word l more w (first_look l (control_of w))
leg_after l (Body more word) (Word b) = after_body l more word b
leg_after l (Second more word body) (Word b) = after_words more word body b (rule_of_try l word body b)
leg_after l (Relook more word rule) (Word w) = after_relook l more word rule w
leg_after l (Pinning more word body second) Taken = Pinned (held_of l word body second)
leg_after l (Pinning more word body second) (Missed w) = after_miss l more w
leg_after l phase seen = Going phase
