-- What the parser's walk meets in a word, by what the word is.
use Rattle.std.proofs.Common.{◌≡◌, ◌==◌, ℕ, Bool, true, false, cond, refl, sym, subst, List, [], ◌∷◌, Option, Some}
use Rattle.std.proofs.Common.{None, codes}
use Rattle.std.specs.Prelude.{slice_get, drop, encode_utf8, length}
use Rattle.std.specs.Str.{bytes_eq, chars}
use Rattle.clap.specs.Lexer.{long_of, short_of}
use Rattle.clap.specs.Kinds.{Kinds, or_else}
use Rattle.clap.specs.Faults.{flags_fault, long_fault, settle_fault, word_fault}
use Rattle.clap.specs.Walk.{Held, Rule, Row, Step, Text, Waiting, arg_by_long, arg_by_short, bundle_met, idle}
use Rattle.clap.specs.Walk.{long_word, option, plain_word, positional, reacted, subcommand_met, trailing}
use Rattle.clap.specs.Walk.{word_met}
use Rattle.clap.specs.Simple.{Shape}
use Rattle.clap.specs.declared.error.kind.ErrorKind.TheVariants.{DisplayHelp, UnknownArgument}
use Rattle.gt_command_line.specs.Usage.{Word, mark, long, short, plain, usage_word, usage_word_with, short_flags}
use Rattle.gt_command_line.proofs.Lookups.{help_built}

no_letter : slice_get (chars []) 0 ≡ None
unfolding chars
no_letter = refl

-- what a walk makes of a word holds for what the word is, if it holds case by case
module _ (P : Word → Type 0) (word : Text) where
  abbrev pub MarkGoes : Type 0
  MarkGoes = bytes_eq word (codes "--") ≡ true → P mark

  abbrev pub PlainGoes : Type 0
  PlainGoes = bytes_eq word (codes "--") ≡ false → long_of word ≡ None → short_of word ≡ None → P plain

  abbrev pub LongGoes : Type 0
  LongGoes = (name : Text) (value : Option Text) → bytes_eq word (codes "--") ≡ false → long_of word ≡ Some (name, value) → P (long name value)

  abbrev pub LetterGoes : Type 0
  LetterGoes = (x : ℕ) (flags : Text) (letter : ℕ) → bytes_eq word (codes "--") ≡ false → long_of word ≡ None → short_of word ≡ Some (x ∷ flags)
      → slice_get (chars (x ∷ flags)) 0 ≡ Some letter → P (short letter)

  abbrev pub NoLetterGoes : Type 0
  NoLetterGoes = (flags : Text) → bytes_eq word (codes "--") ≡ false → long_of word ≡ None → short_of word ≡ Some flags → slice_get (chars flags) 0 ≡ None → P plain

  pub word_goes : MarkGoes → PlainGoes → LongGoes → LetterGoes → NoLetterGoes → P (usage_word word)
  word_goes by_mark by_plain by_long by_letter by_no_letter = all (bytes_eq word (codes "--")) refl
    where
      letters : (flags : Text) (o : Option ℕ) → bytes_eq word (codes "--") ≡ false → long_of word ≡ None → short_of word ≡ Some flags → slice_get (chars flags) 0 ≡ o → P (short_flags o)
      letters flags None e l s c = by_no_letter flags e l s c
      letters [] (Some letter) e l s c = absurd (cc (c, no_letter))
      letters (x ∷ flags) (Some letter) e l s c = by_letter x flags letter e l s c

      shorts : (o : Option Text) → bytes_eq word (codes "--") ≡ false → long_of word ≡ None → short_of word ≡ o → P (usage_word_with None o)
      shorts None e l s = by_plain e l s
      shorts (Some flags) e l s = letters flags (slice_get (chars flags) 0) e l s refl

      longs : (o : Option (Text × Option Text)) → bytes_eq word (codes "--") ≡ false → long_of word ≡ o → P (usage_word_with o (short_of word))
      longs None e l = shorts (short_of word) e l refl
      longs (Some (name, value)) e l = by_long name value e l

      all : (b : Bool) → bytes_eq word (codes "--") ≡ b → P (usage_word word)
      all true e = subst (λ (b : Bool). P (cond b mark (usage_word_with (long_of word) (short_of word)))) (sym e) (by_mark e)
      all false e = subst (λ (b : Bool). P (cond b mark (usage_word_with (long_of word) (short_of word)))) (sym e) (longs (long_of word) e refl)

-- a command as the parser completes it, by its name and its rules
abbrev pub leaf : Text → List Rule → Shape
leaf name rules = record {
  name = name;
  aliases = [];
  rules = rules;
  is_plain = true;
  is_leaf = true;
  no_binary_name = false;
  disable_help_flag = false;
  disable_help_subcommand = true;
  disable_version_flag = false;
  propagate_version = false;
  has_version = false;
  has_long_version = false;
  args_override_self = false;
  arg_required_else_help = false;
  subcommand_required = false;
  subcommand_negates_reqs = false;
  is_built = true;
}

-- what is held, where no flag of a bundle is to be passed over
abbrev pub held : List Row → Option (Text × List Text) → Held
held rows pending = record { rows = rows; pending = pending; skip = 0 }

module _ (name : Text) (R : List Rule) (short_is : (letter : ℕ) → arg_by_short R letter ≡ cond (104 == letter) (Some help_built) None)
    (rows : List Row) (pending : Option (Text × List Text)) (waiting : Waiting) (p : ℕ) (word : Text) where
  abbrev pub Fault : Kinds
  Fault = word_fault (leaf name R) [] false waiting word (held rows pending)

  abbrev pub Met : Held × Step
  Met = word_met R [] false waiting p word (held rows pending)

  -- what the walk meets
  abbrev pub Meets : Word → Type 0
  Meets mark = (Fault ≡ []) × (Met ≡ (held rows pending, trailing p))
  Meets (long n value) = (Fault ≡ long_fault R false (arg_by_long R n) value (held rows pending)) × (Met ≡ long_word R waiting word n value (held rows pending))
  Meets (short letter) = (rest : Kinds) × (Fault ≡ cond (104 == letter) (or_else (or_else (settle_fault R false (held rows pending)) (DisplayHelp ∷ [])) rest) (UnknownArgument ∷ []))
  Meets plain = (Fault ≡ []) × (Met ≡ plain_word R waiting word (held rows pending))

  no_subcommand : subcommand_met [] waiting word ≡ None
  no_subcommand = by waiting
    where
      by : (w : Waiting) → subcommand_met [] w word ≡ None
      by idle = refl
      by (option n) = refl
      by positional = refl

  meets_mark : bytes_eq word (codes "--") ≡ true → Meets mark
  meets_mark e = (rw (no_subcommand, e) refl, rw (no_subcommand, e) refl)

  meets_plain : bytes_eq word (codes "--") ≡ false → long_of word ≡ None → short_of word ≡ None → Meets plain
  meets_plain e l s = (rw (no_subcommand, e, l, s) refl, rw (no_subcommand, e, l, s) refl)

  meets_long : (n : Text) (value : Option Text) → bytes_eq word (codes "--") ≡ false → long_of word ≡ Some (n, value) → Meets (long n value)
  meets_long n value e l = (rw (no_subcommand, e, l) refl, rw (no_subcommand, e, l) refl)

  meets_letter : (x : ℕ) (flags : Text) (letter : ℕ) → bytes_eq word (codes "--") ≡ false → long_of word ≡ None → short_of word ≡ Some (x ∷ flags)
      → slice_get (chars (x ∷ flags)) 0 ≡ Some letter → Meets (short letter)
  unfolding flags_fault
  meets_letter x flags letter e l s c = by (104 == letter) refl
    where
      by : (b : Bool) → (104 == letter) ≡ b
          → (rest : Kinds) × (Fault ≡ cond (104 == letter) (or_else (or_else (settle_fault R false (held rows pending)) (DisplayHelp ∷ [])) rest) (UnknownArgument ∷ []))
      by true h = (flags_fault R false (length flags) (drop (length (encode_utf8 letter)) (x ∷ flags)) 0 (reacted R help_built [] (held rows pending)), rw (no_subcommand, e, l, s, c, short_is letter, h) refl)
      by false h = ([], rw (no_subcommand, e, l, s, c, short_is letter, h) refl)

  meets_no_letter : (flags : Text) → bytes_eq word (codes "--") ≡ false → long_of word ≡ None → short_of word ≡ Some flags → slice_get (chars flags) 0 ≡ None → Meets plain
  unfolding flags_fault bundle_met
  meets_no_letter [] e l s c = (rw (no_subcommand, e, l, s) refl, rw (no_subcommand, e, l, s) refl)
  meets_no_letter (x ∷ flags) e l s c = (rw (no_subcommand, e, l, s, c) refl, rw (no_subcommand, e, l, s, c) refl)

  pub meets : Meets (usage_word word)
  meets = word_goes Meets word meets_mark meets_plain meets_long meets_letter meets_no_letter
