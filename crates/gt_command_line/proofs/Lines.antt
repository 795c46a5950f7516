-- What the parser makes of the words behind a command's name is what they give.
use Rattle.std.proofs.Common.{◌≡◌, ◌∙◌, ℕ, Bool, true, false, cond, refl, sym, ap, ap₂, subst, List, [], ◌∷◌}
use Rattle.std.proofs.Common.{Option, Some, None}
use Rattle.std.specs.Prelude.{fold}
use Rattle.clap.specs.Kinds.{Kinds, or_else}
use Rattle.clap.specs.Faults.{check_fault, defaults_fault, level_fault}
use Rattle.clap.specs.Walk.{Row, Rule, Text, Waiting, finished, nothing_held, rows_after}
use Rattle.clap.specs.Walk.{with_default}
use Rattle.clap.specs.declared.error.kind.ErrorKind.TheVariants.{MissingRequiredArgument}
use Rattle.gt_command_line.specs.Usage.{Given, Usage, line_ended, lists_name, lacks, line}
use Rattle.gt_command_line.proofs.Lookups as lookups
use Rattle.gt_command_line.proofs.Ends.{defaults_pass, lacking_at_end}
use Rattle.gt_command_line.proofs.Uses.{Settles, rows_of}
use Rattle.gt_command_line.proofs.Walks as walks
use Rattle.gt_command_line.proofs.Words.{leaf, held}
use Rattle.gt_command_line.proofs.Wrongs.{Wrong, lacking}

module _ (u : Usage) (name : Text) where
  abbrev R : List Rule
  R = lookups.built_rules u

  -- the kinds that come after the words, by the rows that they leave
  abbrev after : List Row → Kinds
  after rows = or_else (defaults_fault rows R) (check_fault (leaf name R) (fold with_default rows R) false)

  abbrev lack : Bool → Kinds
  lack b = cond b (MissingRequiredArgument ∷ []) []

  after_is : (given : Given) → after (rows_of given) ≡ lack (lacks u given)
  after_is given = ap₂ (λ (k : Kinds) (b : Bool). or_else k (lack b)) (defaults_pass u given) (lacking_at_end u given)

  ends : (given : Given) (rows : List Row) (pending : Option (Text × List Text)) (waiting : Waiting) (p : ℕ) (trailing : Bool) → Settles R rows pending (rows_of given)
      → walks.Tells u name (line_ended u given) (walks.ended_with u name (walks.At u name rows pending waiting p trailing)) (finished R (held rows pending))
  ends given rows pending waiting p trailing settles = by (lacks u given) refl
    where
      kinds : walks.ended_with u name (walks.At u name rows pending waiting p trailing) ≡ lack (lacks u given)
      kinds = ap₂ (λ (k : Kinds) (rs : List Row). or_else k (after rs)) settles.0 settles.1 ∙ after_is given

      by : (b : Bool) → lacks u given ≡ b → walks.Tells u name (line_ended u given) (walks.ended_with u name (walks.At u name rows pending waiting p trailing)) (finished R (held rows pending))
      by true e = rw e (subst Wrong (sym (kinds ∙ ap lack e)) lacking)
      by false e = rw e (kinds ∙ ap lack e, ap (λ (rs : List Row). fold with_default rs R) settles.1)

  pub command_tells : lookups.Places u 1 u.words → lookups.Options u u.options → (words : List Text)
      → walks.Tells u name (line u words) (level_fault (leaf name R) [] nothing_held words false []) (rows_after R [] words)
  command_tells places options words =
      walks.tells u name ends
      (λ p w ws at. (Some p, None, lists_name u.needed w, at.1))
      (λ n among. (None, Some n, lists_name u.needed n, lookups.option_found u u.options n among options))
      words [] (walks.idle_at [] None) 1 u.words (refl, refl) places
