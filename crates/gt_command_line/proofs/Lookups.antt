-- What the parser of command lines finds among the rules of a command.
use Rattle.std.proofs.Common.{◌≡◌, ◌∙◌, ◌==◌, ◌+◌, ◌||◌, ℕ, Bool, true, false, true≢false, cond, refl, sym, ap, subst}
use Rattle.std.proofs.Common.{append_assoc, List, [], ◌∷◌, ◌++◌, Option, Some, None, codes, map}
use Rattle.std.specs.Prelude.{min}
use Rattle.std.specs.Str.{bytes_eq}
use Rattle.std.proofs.lemmas.Slice.Eq.{bytes_eq-Decides}
use Rattle.clap.specs.Lexer.{usize_max}
use Rattle.clap.specs.Walk.{Rule, Text, arg_by_id, arg_by_index, arg_by_long, arg_by_short}
use Rattle.clap.specs.Simple.{filled, filled_from, help_rule}
use Rattle.clap.specs.declared.builder.action.ArgAction.TheVariants.{Set}
use Rattle.clap.specs.declared.builder.value_parser.ValueParser.TheVariants as vp
use Rattle.gt_command_line.specs.Usage.{Usage, lists_name}
use Rattle.gt_command_line.specs.Rules.{word_rule, flag_rule, option_rule, rules_of}

-- a rule of one value, as the parser completes it
abbrev pub one_rule : Option ℕ → Option Text → Bool → Text → Rule
one_rule index long needed name = record {
  id = name;
  long = long;
  aliases = [];
  short = None;
  short_aliases = [];
  index = index;
  action = Some Set;
  range = Some (record { start_inclusive = 1; end_inclusive = 1 });
  value_names = 1;
  defaults = [];
  missing = [];
  trailing_var_arg = false;
  parser = Some vp.String;
  ignore_case = false;
  required = needed;
  is_simple = true;
  is_free = true;
}

abbrev pub flag_built : Text → Rule
flag_built name = filled (flag_rule name)

abbrev pub help_built : Rule
help_built = filled help_rule

module _ (u : Usage) where
  abbrev pub option_built : Text → Rule
  option_built name = one_rule None (Some name) (lists_name u.needed name) name

  abbrev pub word_built : ℕ → Text → Rule
  word_built i name = one_rule (Some i) None (lists_name u.needed name) name

  -- the rules of a command as the parser completes them
  abbrev pub built_rules : List Rule
  built_rules = filled_from 1 (rules_of u ++ help_rule ∷ [])

  -- ---- by a long name

  long_past_words : (ws : List Text) (i : ℕ) (rest : List Rule) (name : Text)
      → (j : ℕ) × (arg_by_long (filled_from i (map (word_rule u) ws ++ rest)) name ≡ arg_by_long (filled_from j rest) name)
  long_past_words [] i rest name = (i, refl)
  long_past_words (w ∷ ws) i rest name = long_past_words ws (min (i + 1) usize_max) rest name

  abbrev ByFlags : List Text → ℕ → List Rule → Text → Type 0
  ByFlags fs i rest name =
      arg_by_long (filled_from i (map flag_rule fs ++ rest)) name ≡ cond (lists_name fs name) (Some (flag_built name)) (arg_by_long (filled_from i rest) name)

  one_flag : (f : Text) (fs : List Text) (i : ℕ) (rest : List Rule) (name : Text) (b : Bool) → bytes_eq f name ≡ b → ByFlags fs i rest name → ByFlags (f ∷ fs) i rest name
  one_flag f fs i rest name true e later = rw e (ap (λ (n : Text). Some (flag_built n)) ((bytes_eq-Decides f name).0 e))
  one_flag f fs i rest name false e later = rw e later

  long_of_flags : (fs : List Text) (i : ℕ) (rest : List Rule) (name : Text) → ByFlags fs i rest name
  long_of_flags [] i rest name = refl
  long_of_flags (f ∷ fs) i rest name = one_flag f fs i rest name (bytes_eq f name) refl (long_of_flags fs i rest name)

  abbrev ByOptions : List Text → ℕ → List Rule → Text → Type 0
  ByOptions os i rest name =
      arg_by_long (filled_from i (map (option_rule u) os ++ rest)) name ≡ cond (lists_name os name) (Some (option_built name)) (arg_by_long (filled_from i rest) name)

  one_option : (o : Text) (os : List Text) (i : ℕ) (rest : List Rule) (name : Text) (b : Bool) → bytes_eq o name ≡ b → ByOptions os i rest name → ByOptions (o ∷ os) i rest name
  one_option o os i rest name true e later = rw e (ap (λ (n : Text). Some (option_built n)) ((bytes_eq-Decides o name).0 e))
  one_option o os i rest name false e later = rw e later

  long_of_options : (os : List Text) (i : ℕ) (rest : List Rule) (name : Text) → ByOptions os i rest name
  long_of_options [] i rest name = refl
  long_of_options (o ∷ os) i rest name = one_option o os i rest name (bytes_eq o name) refl (long_of_options os i rest name)

  long_of_help : (i : ℕ) (name : Text) → arg_by_long (filled_from i (help_rule ∷ [])) name ≡ cond (bytes_eq (codes "help") name) (Some help_built) None
  long_of_help i name = by (bytes_eq (codes "help") name) refl
    where
      by : (b : Bool) → bytes_eq (codes "help") name ≡ b → arg_by_long (filled_from i (help_rule ∷ [])) name ≡ cond (bytes_eq (codes "help") name) (Some help_built) None
      by true e = rw e refl
      by false e = rw e refl

  -- every long name: a flag, an option, help or none
  pub long_is : (name : Text) → arg_by_long built_rules name
      ≡ cond (lists_name u.flags name) (Some (flag_built name)) (cond (lists_name u.options name) (Some (option_built name)) (cond (bytes_eq (codes "help") name) (Some help_built) None))
  long_is name =
      let words = long_past_words u.words 1 ((map flag_rule u.flags ++ map (option_rule u) u.options) ++ help_rule ∷ []) name in
      let j = words.0 in
      ap (λ (rs : List Rule). arg_by_long (filled_from 1 rs) name) (append_assoc (map (word_rule u) u.words) (map flag_rule u.flags ++ map (option_rule u) u.options) (help_rule ∷ []))
      ∙ words.1
      ∙ ap (λ (rs : List Rule). arg_by_long (filled_from j rs) name) (append_assoc (map flag_rule u.flags) (map (option_rule u) u.options) (help_rule ∷ []))
      ∙ long_of_flags u.flags j (map (option_rule u) u.options ++ help_rule ∷ []) name
      ∙ ap (λ (r : Option Rule). cond (lists_name u.flags name) (Some (flag_built name)) r) (long_of_options u.options j (help_rule ∷ []) name ∙ ap (λ (r : Option Rule). cond (lists_name u.options name) (Some (option_built name)) r) (long_of_help j name))

  -- ---- by a short name

  short_past_words : (ws : List Text) (i : ℕ) (rest : List Rule) (letter : ℕ)
      → (j : ℕ) × (arg_by_short (filled_from i (map (word_rule u) ws ++ rest)) letter ≡ arg_by_short (filled_from j rest) letter)
  short_past_words [] i rest letter = (i, refl)
  short_past_words (w ∷ ws) i rest letter = short_past_words ws (min (i + 1) usize_max) rest letter

  short_past_flags : (fs : List Text) (i : ℕ) (rest : List Rule) (letter : ℕ) → arg_by_short (filled_from i (map flag_rule fs ++ rest)) letter ≡ arg_by_short (filled_from i rest) letter
  short_past_flags [] i rest letter = refl
  short_past_flags (f ∷ fs) i rest letter = short_past_flags fs i rest letter

  short_past_options : (os : List Text) (i : ℕ) (rest : List Rule) (letter : ℕ) → arg_by_short (filled_from i (map (option_rule u) os ++ rest)) letter ≡ arg_by_short (filled_from i rest) letter
  short_past_options [] i rest letter = refl
  short_past_options (o ∷ os) i rest letter = short_past_options os i rest letter

  short_of_help : (i letter : ℕ) → arg_by_short (filled_from i (help_rule ∷ [])) letter ≡ cond (104 == letter) (Some help_built) None
  short_of_help i letter = by (104 == letter) refl
    where
      by : (b : Bool) → (104 == letter) ≡ b → arg_by_short (filled_from i (help_rule ∷ [])) letter ≡ cond (104 == letter) (Some help_built) None
      by true e = rw e refl
      by false e = rw e refl

  -- `h` is the only letter
  pub short_is : (letter : ℕ) → arg_by_short built_rules letter ≡ cond (104 == letter) (Some help_built) None
  short_is letter =
      let words = short_past_words u.words 1 ((map flag_rule u.flags ++ map (option_rule u) u.options) ++ help_rule ∷ []) letter in
      let j = words.0 in
      ap (λ (rs : List Rule). arg_by_short (filled_from 1 rs) letter) (append_assoc (map (word_rule u) u.words) (map flag_rule u.flags ++ map (option_rule u) u.options) (help_rule ∷ []))
      ∙ words.1
      ∙ ap (λ (rs : List Rule). arg_by_short (filled_from j rs) letter) (append_assoc (map flag_rule u.flags) (map (option_rule u) u.options) (help_rule ∷ []))
      ∙ short_past_flags u.flags j (map (option_rule u) u.options ++ help_rule ∷ []) letter
      ∙ short_past_options u.options j (help_rule ∷ []) letter
      ∙ short_of_help j letter

  -- ---- by a place and by a name

  -- the words that can still come stand at the places from this one on
  abbrev pub Places : ℕ → List Text → Type 0
  Places p [] = arg_by_index built_rules p ≡ None
  Places p (w ∷ ws) = (arg_by_index built_rules p ≡ Some (word_built p w)) × (arg_by_id built_rules w ≡ Some (word_built p w)) × Places (min (p + 1) usize_max) ws

  -- each option is found by its name
  abbrev pub Options : List Text → Type 0
  Options [] = Unit {0}
  Options (o ∷ os) = (arg_by_id built_rules o ≡ Some (option_built o)) × Options os

  one_found : (o : Text) (os : List Text) (name : Text) (b : Bool) → bytes_eq o name ≡ b → (b || lists_name os name) ≡ true → Options (o ∷ os)
      → (lists_name os name ≡ true → Options os → arg_by_id built_rules name ≡ Some (option_built name)) → arg_by_id built_rules name ≡ Some (option_built name)
  one_found o os name true e among found later = subst (λ (n : Text). arg_by_id built_rules n ≡ Some (option_built n)) ((bytes_eq-Decides o name).0 e) found.0
  one_found o os name false e among found later = later among found.1

  pub option_found : (os : List Text) (name : Text) → lists_name os name ≡ true → Options os → arg_by_id built_rules name ≡ Some (option_built name)
  option_found [] name among found = absurd (true≢false (sym among))
  option_found (o ∷ os) name among found = one_found o os name (bytes_eq o name) refl among found (option_found os name)
