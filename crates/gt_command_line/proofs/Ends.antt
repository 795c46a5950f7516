-- What comes after the walk: the defaults of flags, and what is needed.
use Rattle.std.proofs.Common.{◌≡◌, ◌∙◌, ◌+◌, ◌&&◌, ◌||◌, ℕ, Bool, true, false, true≢false, cond, not, refl, sym}
use Rattle.std.proofs.Common.{ap, ap₂, subst, List, [], ◌∷◌, ◌++◌, Option, Some, None, codes, map, append_assoc}
use Rattle.std.specs.Prelude.{fold, min, find, slice_get, option_and_then}
use Rattle.std.specs.List.{list_any}
use Rattle.std.specs.Option.{option_map_or, option_or}
use Rattle.std.specs.Str.{bytes_eq}
use Rattle.std.proofs.lemmas.List.Folds.{find-append, list_any-append}
use Rattle.clap.specs.Lexer.{usize_max}
use Rattle.clap.specs.Kinds.{Kinds, or_else}
use Rattle.clap.specs.Facts.{explicit_source}
use Rattle.clap.specs.Faults.{default_fault, defaults_fault}
use Rattle.clap.specs.Takes.{is_given as is_row_given}
use Rattle.clap.specs.Walk.{Row, Rule, Text, first_of, has_row, more_values, with_default}
use Rattle.clap.specs.Simple.{filled_from, help_rule}
use Rattle.clap.specs.declared.builder.value_parser.Reading.TheVariants as reading
use Rattle.clap.specs.declared.parser.matches.ValueSource.TheVariants.{DefaultValue}
use Rattle.gt_command_line.specs.Usage.{Given, Usage, lists_name, is_given, is_true, value_given, lacks}
use Rattle.gt_command_line.specs.Rules.{word_rule, flag_rule, option_rule}
use Rattle.gt_command_line.proofs.Lookups as lookups
use Rattle.gt_command_line.proofs.Lookups.{built_rules, flag_built}
use Rattle.gt_command_line.proofs.Uses.{rows_of, at_missing}

-- the row of a flag that was not given
abbrev default_row : Text → Row
default_row f = record { id = f; values = codes "false" ∷ []; count = None; source = Some DefaultValue; reading = reading.AsWritten }

abbrev with_flag : List Row → Text → List Row
with_flag rows f = cond (has_row f rows) rows (rows ++ default_row f ∷ [])

with_flag_is : (rows : List Row) (f : Text) → with_default rows (flag_built f) ≡ with_flag rows f
with_flag_is rows f = by (has_row f rows) refl
  where
    by : (b : Bool) → has_row f rows ≡ b → with_default rows (flag_built f) ≡ with_flag rows f
    by true e = rw e refl
    by false e = rw e (at_missing f (more_values DefaultValue (codes "false" ∷ [])) (default_row f ∷ []) rows e)

flag_default_passes : (rows : List Row) (f : Text) → default_fault rows (flag_built f) ≡ []
flag_default_passes rows f = by (has_row f rows) refl
  where
    by : (b : Bool) → has_row f rows ≡ b → default_fault rows (flag_built f) ≡ []
    by true e = rw e refl
    by false e = rw e refl

-- a rule with no default
module _ (r : Rule) (bare : r.defaults ≡ []) (rows : List Row) where
  no_default : with_default rows r ≡ rows
  no_default = by (has_row r.id rows) refl
    where
      by : (b : Bool) → has_row r.id rows ≡ b → with_default rows r ≡ rows
      by true e = rw e refl
      by false e = rw (e, bare) refl

  no_default_passes : default_fault rows r ≡ []
  no_default_passes = by (has_row r.id rows) refl
    where
      by : (b : Bool) → has_row r.id rows ≡ b → default_fault rows r ≡ []
      by true e = rw e refl
      by false e = rw (e, bare) refl

-- the rules from one on, and those from another on, leave the same rows and faults
abbrev SameEnd : List Row → List Rule → List Row → List Rule → Type 0
SameEnd rows rules after rest = (fold with_default rows rules ≡ fold with_default after rest) × (defaults_fault rows rules ≡ defaults_fault after rest)

bare_first : (r : Rule) (rules : List Rule) (rows after : List Row) (rest : List Rule) → r.defaults ≡ [] → SameEnd rows rules after rest → SameEnd rows (r ∷ rules) after rest
unfolding defaults_fault
bare_first r rules rows after rest bare same = (
  ap (λ (rs : List Row). fold with_default rs rules) (no_default r bare rows) ∙ same.0,
  ap₂ (λ (k : Kinds) (rs : List Row). or_else k (defaults_fault rs rules)) (no_default_passes r bare rows) (no_default r bare rows) ∙ same.1,
)

flag_first : (f : Text) (rules : List Rule) (rows after : List Row) (rest : List Rule) → SameEnd (with_flag rows f) rules after rest → SameEnd rows (flag_built f ∷ rules) after rest
unfolding defaults_fault
flag_first f rules rows after rest same = (
  ap (λ (rs : List Row). fold with_default rs rules) (with_flag_is rows f) ∙ same.0,
  ap₂ (λ (k : Kinds) (rs : List Row). or_else k (defaults_fault rs rules)) (flag_default_passes rows f) (with_flag_is rows f) ∙ same.1,
)

module _ (u : Usage) where
  past_words : (ws : List Text) (i : ℕ) (rest : List Rule) (rows : List Row) → (j : ℕ) × SameEnd rows (filled_from i (map (word_rule u) ws ++ rest)) rows (filled_from j rest)
  past_words [] i rest rows = (i, (refl, refl))
  past_words (w ∷ ws) i rest rows =
      let later = past_words ws (min (i + 1) usize_max) rest rows in
      (later.0, bare_first (lookups.word_built u i w) _ rows rows (filled_from later.0 rest) refl later.1)

  past_flags : (fs : List Text) (i : ℕ) (rest : List Rule) (rows : List Row) → SameEnd rows (filled_from i (map flag_rule fs ++ rest)) (fold with_flag rows fs) (filled_from i rest)
  past_flags [] i rest rows = (refl, refl)
  past_flags (f ∷ fs) i rest rows = flag_first f _ rows (fold with_flag rows (f ∷ fs)) (filled_from i rest) (past_flags fs i rest (with_flag rows f))

  past_options : (os : List Text) (i : ℕ) (rest : List Rule) (rows : List Row) → SameEnd rows (filled_from i (map (option_rule u) os ++ rest)) rows (filled_from i rest)
  past_options [] i rest rows = (refl, refl)
  past_options (o ∷ os) i rest rows = bare_first (lookups.option_built u o) _ rows rows (filled_from i rest) refl (past_options os i rest rows)

  past_help : (i : ℕ) (rows : List Row) → SameEnd rows (filled_from i (help_rule ∷ [])) rows []
  past_help i rows = bare_first lookups.help_built [] rows rows [] refl (refl, refl)

  same_then : (rows after last : List Row) (rules rest end : List Rule) → SameEnd rows rules after rest → SameEnd after rest last end → SameEnd rows rules last end
  same_then rows after last rules rest end a b = (a.0 ∙ b.0, a.1 ∙ b.1)

  abbrev flags_and_options : List Rule
  flags_and_options = map flag_rule u.flags ++ map (option_rule u) u.options

  whole : (rows : List Row) → SameEnd rows (built_rules u) (fold with_flag rows u.flags) []
  whole rows =
      let words = past_words u.words 1 (flags_and_options ++ help_rule ∷ []) rows in
      let after = fold with_flag rows u.flags in
      let tail : SameEnd rows (filled_from words.0 (map flag_rule u.flags ++ (map (option_rule u) u.options ++ help_rule ∷ []))) after [] =
      same_then rows after after _ (filled_from words.0 (map (option_rule u) u.options ++ help_rule ∷ [])) []
      (past_flags u.flags words.0 (map (option_rule u) u.options ++ help_rule ∷ []) rows)
      (same_then after after after _ (filled_from words.0 (help_rule ∷ [])) [] (past_options u.options words.0 (help_rule ∷ []) after) (past_help words.0 after)) in
      let joined : SameEnd rows (filled_from words.0 (flags_and_options ++ help_rule ∷ [])) after [] =
      subst (λ (rs : List Rule). SameEnd rows (filled_from words.0 rs) after []) (sym (append_assoc (map flag_rule u.flags) (map (option_rule u) u.options) (help_rule ∷ []))) tail in
      subst (λ (rs : List Rule). SameEnd rows (filled_from 1 rs) after []) (sym (append_assoc (map (word_rule u) u.words) flags_and_options (help_rule ∷ [])))
      (same_then rows rows after _ (filled_from words.0 (flags_and_options ++ help_rule ∷ [])) [] words.1 joined)

  pub defaults_pass : (given : Given) → defaults_fault (rows_of given) (built_rules u) ≡ []
  unfolding defaults_fault
  defaults_pass given = (whole (rows_of given)).1

  pub end_rows : (given : Given) → fold with_default (rows_of given) (built_rules u) ≡ fold with_flag (rows_of given) u.flags
  end_rows given = (whole (rows_of given)).0

-- ---- what the rows at the end say of a name

module _ {X : Type 0} (F : Option Row → X) (id : Text) where
  abbrev of : List Row → X
  of rows = F (find (λ r. bytes_eq r.id id) rows)

  after_default : (f : Text) (found : Option Row) (b : Bool) → bytes_eq f id ≡ b → (bytes_eq f id ≡ true → F (Some (default_row f)) ≡ F None)
      → F (option_or found (find (λ r. bytes_eq r.id id) (default_row f ∷ []))) ≡ F found
  after_default f (Some r) b e none = refl
  after_default f None true e none = rw e (none e)
  after_default f None false e none = rw e refl

  one_flag_on : (rows : List Row) (f : Text) → (bytes_eq f id ≡ true → F (Some (default_row f)) ≡ F None) → of (with_flag rows f) ≡ of rows
  one_flag_on rows f none = by (has_row f rows) refl
    where
      by : (b : Bool) → has_row f rows ≡ b → of (with_flag rows f) ≡ of rows
      by true e = rw e refl
      by false e = rw e (ap F (find-append (λ r. bytes_eq r.id id) rows (default_row f ∷ [])) ∙ after_default f (find (λ r. bytes_eq r.id id) rows) (bytes_eq f id) refl none)

  flags_on : (fs : List Text) (rows : List Row) → ((f : Text) → F (Some (default_row f)) ≡ F None) → of (fold with_flag rows fs) ≡ of rows
  flags_on [] rows none = refl
  flags_on (f ∷ fs) rows none = flags_on fs (with_flag rows f) none ∙ one_flag_on rows f (λ e. none f)

  other_flags_on : (fs : List Text) (rows : List Row) → lists_name fs id ≡ false → of (fold with_flag rows fs) ≡ of rows
  other_flags_on [] rows none = refl
  other_flags_on (f ∷ fs) rows none = by (bytes_eq f id) refl none (other_flags_on fs (with_flag rows f))
    where
      by : (b : Bool) → bytes_eq f id ≡ b → (b || lists_name fs id) ≡ false → (lists_name fs id ≡ false → of (fold with_flag (with_flag rows f) fs) ≡ of (with_flag rows f))
          → of (fold with_flag (with_flag rows f) fs) ≡ of rows
      by true e none later = absurd (true≢false none)
      by false e none later = later none ∙ one_flag_on rows f (λ yes. absurd (true≢false (sym yes ∙ e)))

row_is_given : (given : Given) (id : Text) → is_row_given id (rows_of given) ≡ is_given given id
row_is_given [] id = refl
row_is_given (g ∷ given) id = by (bytes_eq g.0 id) refl (row_is_given given id)
  where
    by : (b : Bool) → bytes_eq g.0 id ≡ b → is_row_given id (rows_of given) ≡ is_given given id → is_row_given id (rows_of (g ∷ given)) ≡ is_given (g ∷ given) id
    by true e later = rw e refl
    by false e later = rw e later

row_value : (given : Given) (id : Text) → first_of id (rows_of given) ≡ value_given given id
row_value [] id = refl
row_value (g ∷ given) id = by (bytes_eq g.0 id) refl (row_value given id)
  where
    by : (b : Bool) → bytes_eq g.0 id ≡ b → first_of id (rows_of given) ≡ value_given given id → first_of id (rows_of (g ∷ given)) ≡ value_given (g ∷ given) id
    by true e later = rw e refl
    by false e later = rw e later

-- ---- what is needed

or_assoc : (a b c : Bool) → (a || (b || c)) ≡ ((a || b) || c)
or_assoc true b c = refl
or_assoc false b c = refl

any_same : {X : Type 0} (p q : X → Bool) (xs : List X) → ((x : X) → p x ≡ q x) → list_any p xs ≡ list_any q xs
any_same p q [] same = refl
any_same p q (x ∷ xs) same = ap₂ (λ (a b : Bool). a || b) (same x) (any_same p q xs same)

module _ (u : Usage) (rows : List Row) where
  abbrev is_lacking : Rule → Bool
  is_lacking r = r.required && not (is_row_given r.id rows)

  abbrev name_lacking : Text → Bool
  name_lacking name = lists_name u.needed name && not (is_row_given name rows)

  lacking_words : (ws : List Text) (i : ℕ) (rest : List Rule)
      → (j : ℕ) × (list_any is_lacking (filled_from i (map (word_rule u) ws ++ rest)) ≡ (list_any name_lacking ws || list_any is_lacking (filled_from j rest)))
  lacking_words [] i rest = (i, refl)
  lacking_words (w ∷ ws) i rest =
      let later = lacking_words ws (min (i + 1) usize_max) rest in
      (later.0, ap (λ (b : Bool). name_lacking w || b) later.1 ∙ or_assoc (name_lacking w) (list_any name_lacking ws) (list_any is_lacking (filled_from later.0 rest)))

  lacking_flags : (fs : List Text) (i : ℕ) (rest : List Rule) → list_any is_lacking (filled_from i (map flag_rule fs ++ rest)) ≡ list_any is_lacking (filled_from i rest)
  lacking_flags [] i rest = refl
  lacking_flags (f ∷ fs) i rest = lacking_flags fs i rest

  lacking_options : (os : List Text) (i : ℕ) (rest : List Rule)
      → list_any is_lacking (filled_from i (map (option_rule u) os ++ rest)) ≡ (list_any name_lacking os || list_any is_lacking (filled_from i rest))
  lacking_options [] i rest = refl
  lacking_options (o ∷ os) i rest =
      ap (λ (b : Bool). name_lacking o || b) (lacking_options os i rest) ∙ or_assoc (name_lacking o) (list_any name_lacking os) (list_any is_lacking (filled_from i rest))

  or_none : (b : Bool) → (b || false) ≡ b
  or_none true = refl
  or_none false = refl

  lacking_rules : list_any is_lacking (built_rules u) ≡ list_any name_lacking (u.words ++ u.options)
  lacking_rules =
      let words = lacking_words u.words 1 (flags_and_options u ++ help_rule ∷ []) in
      let j = words.0 in
      ap (λ (rs : List Rule). list_any is_lacking (filled_from 1 rs)) (append_assoc (map (word_rule u) u.words) (flags_and_options u) (help_rule ∷ []))
      ∙ words.1
      ∙ ap (λ (b : Bool). list_any name_lacking u.words || b)
      (ap (λ (rs : List Rule). list_any is_lacking (filled_from j rs)) (append_assoc (map flag_rule u.flags) (map (option_rule u) u.options) (help_rule ∷ []))
      ∙ lacking_flags u.flags j (map (option_rule u) u.options ++ help_rule ∷ [])
      ∙ lacking_options u.options j (help_rule ∷ [])
      ∙ or_none (list_any name_lacking u.options))
      ∙ sym (list_any-append name_lacking u.words u.options)

module _ (u : Usage) (given : Given) where
  abbrev pub end : List Row
  end = fold with_default (rows_of given) (built_rules u)

  row_given_at_end : (id : Text) → is_row_given id end ≡ is_given given id
  row_given_at_end id =
      ap (λ (rs : List Row). is_row_given id rs) (end_rows u given)
      ∙ flags_on (λ o. option_map_or (λ r. explicit_source r.source) o false) id u.flags (rows_of given) (λ f. refl)
      ∙ row_is_given given id

  pub lacking_at_end : list_any (is_lacking u end) (built_rules u) ≡ lacks u given
  lacking_at_end =
      lacking_rules u end
      ∙ any_same (name_lacking u end) (λ name. lists_name u.needed name && not (is_given given name)) (u.words ++ u.options) (λ name. ap (λ (b : Bool). lists_name u.needed name && not b) (row_given_at_end name))

  -- a value that is no flag's
  pub value_at_end : (id : Text) → lists_name u.flags id ≡ false → first_of id end ≡ value_given given id
  value_at_end id none =
      ap (λ (rs : List Row). first_of id rs) (end_rows u given)
      ∙ other_flags_on (λ o. option_and_then (λ r. slice_get r.values 0) o) id u.flags (rows_of given) none
      ∙ row_value given id

  -- a flag
  pub flag_at_end : (id : Text) → is_true (first_of id end) ≡ is_true (value_given given id)
  flag_at_end id =
      ap (λ (rs : List Row). is_true (first_of id rs)) (end_rows u given)
      ∙ flags_on (λ o. is_true (option_and_then (λ r. slice_get r.values 0) o)) id u.flags (rows_of given) (λ f. refl)
      ∙ ap is_true (row_value given id)
