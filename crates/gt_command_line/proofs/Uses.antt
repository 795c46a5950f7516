-- One use of a flag, of an option or of a word.
use Rattle.std.proofs.Common.{◌≡◌, ◌∙◌, ◌||◌, ℕ, Bool, true, false, true≢false, refl, sym, ap, List}
use Rattle.std.proofs.Common.{[], ◌∷◌, ◌++◌, Option, Some, None, codes, map, append-nil}
use Rattle.std.proofs.lemmas.List.{map-append}
use Rattle.std.specs.Str.{bytes_eq}
use Rattle.clap.specs.Faults.{settle_fault, use_fault}
use Rattle.clap.specs.Walk.{Row, Rule, Text, arg_by_id, at_row, has_row, more_values, settled_rows}
use Rattle.clap.specs.Walk.{used, with_values, without}
use Rattle.clap.specs.declared.builder.value_parser.Reading.TheVariants as reading
use Rattle.clap.specs.declared.error.kind.ErrorKind.TheVariants.{ArgumentConflict, InvalidValue}
use Rattle.clap.specs.declared.parser.matches.ValueSource.TheVariants.{CommandLine}
use Rattle.gt_command_line.specs.Usage.{Given, is_given}
use Rattle.gt_command_line.proofs.Lookups.{one_rule, flag_built}
use Rattle.gt_command_line.proofs.Words.{held}

-- the row of what was given
abbrev pub row : Text × Text → Row
row g = record { id = g.0; values = g.1 ∷ []; count = None; source = Some CommandLine; reading = reading.AsWritten }

abbrev pub rows_of : Given → List Row
rows_of given = map row given

pub has_given : (given : Given) (name : Text) → has_row name (rows_of given) ≡ is_given given name
has_given [] name = refl
has_given (g ∷ given) name = ap (λ (b : Bool). bytes_eq g.0 name || b) (has_given given name)

pub at_missing : (id : Text) (change : Row → List Row) (missing rows : List Row) → has_row id rows ≡ false → at_row id change missing rows ≡ rows ++ missing
at_missing id change missing [] none = refl
at_missing id change missing (r ∷ rows) none = by (bytes_eq r.id id) refl none (at_missing id change missing rows)
  where
    by : (b : Bool) → bytes_eq r.id id ≡ b → (b || has_row id rows) ≡ false → (has_row id rows ≡ false → at_row id change missing rows ≡ rows ++ missing)
        → at_row id change missing (r ∷ rows) ≡ r ∷ (rows ++ missing)
    by true e none later = absurd (true≢false none)
    by false e none later = rw e (ap (λ (rs : List Row). r ∷ rs) (later none))

without_missing : (id : Text) (rows : List Row) → has_row id rows ≡ false → without id rows ≡ rows
without_missing id rows none = at_missing id (λ _. []) [] rows none ∙ append-nil rows

values_added : (id value : Text) (rows : List Row) → has_row id rows ≡ false
    → with_values id reading.AsWritten CommandLine (value ∷ []) (without id rows) ≡ rows ++ row (id, value) ∷ []
values_added id value rows none =
    ap (λ (rs : List Row). with_values id reading.AsWritten CommandLine (value ∷ []) rs) (without_missing id rows none)
    ∙ at_missing id (more_values CommandLine (value ∷ [])) (row (id, value) ∷ []) rows none

pub flag_used : (name : Text) (rows : List Row) → has_row name rows ≡ false → used (flag_built name) [] rows ≡ rows ++ row (name, codes "true") ∷ []
flag_used name rows none = values_added name (codes "true") rows none

pub one_used : (index : Option ℕ) (long : Option Text) (needed : Bool) (name value : Text) (rows : List Row) → has_row name rows ≡ false
    → used (one_rule index long needed name) (value ∷ []) rows ≡ rows ++ row (name, value) ∷ []
one_used index long needed name value rows none = values_added name value rows none

pub flag_passes : (name : Text) (rows : List Row) → has_row name rows ≡ false → use_fault false (flag_built name) [] rows ≡ []
flag_passes name rows none = rw none refl

pub flag_repeats : (name : Text) (rows : List Row) → has_row name rows ≡ true → use_fault false (flag_built name) [] rows ≡ ArgumentConflict ∷ []
flag_repeats name rows some = rw some refl

pub one_passes : (index : Option ℕ) (long : Option Text) (needed : Bool) (name value : Text) (rows : List Row) → has_row name rows ≡ false
    → use_fault false (one_rule index long needed name) (value ∷ []) rows ≡ []
one_passes index long needed name value rows none = rw none refl

pub one_repeats : (index : Option ℕ) (long : Option Text) (needed : Bool) (name value : Text) (rows : List Row) → has_row name rows ≡ true
    → use_fault false (one_rule index long needed name) (value ∷ []) rows ≡ ArgumentConflict ∷ []
one_repeats index long needed name value rows some = rw some refl

pub given_more : (given : Given) (name value : Text) → rows_of given ++ row (name, value) ∷ [] ≡ rows_of (given ++ (name, value) ∷ [])
given_more given name value = sym (map-append row given ((name, value) ∷ []))

-- ---- what is pending

module _ (R : List Rule) where
  -- the rule of this name takes one value
  abbrev pub Valued : Text → Type 0
  Valued name = (index : Option ℕ) × (long : Option Text) × (needed : Bool) × (arg_by_id R name ≡ Some (one_rule index long needed name))

  -- what is pending can be used, and leaves these rows
  abbrev pub Settles : List Row → Option (Text × List Text) → List Row → Type 0
  Settles rows pending after = (settle_fault R false (held rows pending) ≡ []) × (settled_rows R pending rows ≡ after)

  pub nothing_settles : (rows : List Row) → Settles rows None rows
  nothing_settles rows = (refl, refl)

  pub one_settles : (given : Given) (name value : Text) → Valued name → is_given given name ≡ false
      → Settles (rows_of given) (Some (name, value ∷ [])) (rows_of (given ++ (name, value) ∷ []))
  one_settles given name value (index, long, needed, found) none =
      let fresh : has_row name (rows_of given) ≡ false = has_given given name ∙ none in (
        rw found (one_passes index long needed name value (rows_of given) fresh),
        rw found (one_used index long needed name value (rows_of given) fresh ∙ given_more given name value),
      )

  pub one_conflicts : (given : Given) (name value : Text) → Valued name → is_given given name ≡ true
      → settle_fault R false (held (rows_of given) (Some (name, value ∷ []))) ≡ ArgumentConflict ∷ []
  one_conflicts given name value (index, long, needed, found) some = rw found (one_repeats index long needed name value (rows_of given) (has_given given name ∙ some))

  pub none_is_wrong : (rows : List Row) (name : Text) → Valued name → settle_fault R false (held rows (Some (name, []))) ≡ InvalidValue ∷ []
  none_is_wrong rows name (index, long, needed, found) = rw found refl
