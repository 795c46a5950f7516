-- What the parser makes of a whole command line.
use Rattle.std.proofs.Common.{◌≡◌, ◌∙◌, ◌==◌, ◌&&◌, ℕ, Bool, true, false, cond, refl, sym, ap, ap₂, subst, List}
use Rattle.std.proofs.Common.{[], ◌∷◌, drop, map, Option, Some, None, option_map, codes, is_some}
use Rattle.std.specs.Prelude.{slice_get, fold, find}
use Rattle.std.specs.Str.{bytes_eq, chars}
use Rattle.clap.specs.Lexer.{long_of, short_of}
use Rattle.clap.specs.Kinds.{Kinds, or_else}
use Rattle.clap.specs.Faults.{fault_of, is_simple_and_free, walk_fault, turn_fault, flags_fault, defaults_fault}
use Rattle.clap.specs.Faults.{settle_fault, check_fault, entered_fault, level_fault}
use Rattle.clap.specs.Walk.{Names, Row, Text, Walk, answers_to, bundle_met, finished, first_of, idle, nothing_held}
use Rattle.clap.specs.Walk.{rows_after, settled, subcommand_met, walk_from, walked}
use Rattle.clap.specs.Simple.{Shape, built, entered, names_of, subcommand_of}
use Rattle.clap.specs.declared.error.kind.ErrorKind.TheVariants.{DisplayHelp, DisplayVersion}
use Rattle.clap.proofs.WalkLemmas.{walk_stopped}
use Rattle.clap.proofs.FaultLemmas.{stopped_fault}
use Rattle.gt_command_line.specs.Usage.{Given, Line, Word, asks_help, gives, line, long, mark, plain, short}
use Rattle.gt_command_line.specs.Usage.{value_given, usage_word, wrong}
use Rattle.gt_command_line.specs.Commands.{Request, request_in_words, request_by, asked_of, asked_of_none}
use Rattle.gt_command_line.specs.Commands.{command_name}
use Rattle.gt_command_line.specs.Commands.{every_mode, for_help, for_version, gthost_app, mode_of, nothing, read, usage_of}
use Rattle.gt_command_line.specs.declared.invocation.Mode.{Mode}
use Rattle.gt_command_line.specs.declared.invocation.Mode.TheVariants.{Play, Run, Explore, Policy, Rules, Check, Why, Flow}
use Rattle.gt_command_line.specs.declared.invocation.Mode.TheVariants.{Entries}
use Rattle.gt_command_line.proofs.Ends.{end, flag_at_end, value_at_end}
use Rattle.gt_command_line.proofs.Lines.{command_tells}
use Rattle.gt_command_line.proofs.Lookups as lookups
use Rattle.gt_command_line.proofs.Walks as walks
use Rattle.gt_command_line.proofs.Words.{leaf, word_goes}
use Rattle.gt_command_line.proofs.Wrongs.{Wrong, unknown, stray, missing, valued, wrong_first}

-- the parser says what it makes of the words
pub gthost_is_simple : is_simple_and_free gthost_app ≡ true
gthost_is_simple = refl

-- ---- behind a command

abbrev command_fault : Mode → List Text → Kinds
command_fault mode words = level_fault (leaf (command_name mode) (lookups.built_rules (usage_of mode))) [] nothing_held words false []

abbrev rows_in : Mode → List Text → List Row
rows_in mode words = rows_after (lookups.built_rules (usage_of mode)) [] words

command_words : (mode : Mode) (words : List Text) → walks.Tells (usage_of mode) (command_name mode) (line (usage_of mode) words) (command_fault mode words) (rows_in mode words)
command_words Play words = command_tells (usage_of Play) (command_name Play) (refl, refl, refl) (refl, tt) words
command_words Run words = command_tells (usage_of Run) (command_name Run) (refl, refl, refl) (refl, tt) words
command_words Explore words = command_tells (usage_of Explore) (command_name Explore) (refl, refl, refl) (refl, (refl, (refl, (refl, (refl, (refl, (refl, (refl, (refl, (refl, (refl, tt))))))))))) words
command_words Policy words = command_tells (usage_of Policy) (command_name Policy) (refl, refl, refl) (refl, tt) words
command_words Rules words = command_tells (usage_of Rules) (command_name Rules) (refl, refl, refl) tt words
command_words Check words = command_tells (usage_of Check) (command_name Check)
    (refl, refl, (refl, refl, (refl, refl, (refl, refl, (refl, refl, (refl, refl, (refl, refl, (refl, refl, refl)))))))) (refl, (refl, tt)) words
command_words Why words = command_tells (usage_of Why) (command_name Why) (refl, refl, (refl, refl, (refl, refl, (refl, refl, refl)))) tt words
command_words Flow words = command_tells (usage_of Flow) (command_name Flow) (refl, refl, (refl, refl, (refl, refl, refl))) (refl, (refl, tt)) words
command_words Entries words = command_tells (usage_of Entries) (command_name Entries) (refl, refl, refl) (refl, (refl, (refl, tt))) words

-- what a command asks for by the rows at the end is what it asks for by what was given
read_rows : (mode : Mode) (given : Given) (rows : List Row) → rows ≡ end (usage_of mode) given → read mode (λ id. first_of id rows) ≡ read mode (value_given given)
read_rows mode given rows is = ap (λ (rs : List Row). read mode (λ id. first_of id rs)) is ∙ by mode
  where
    by : (m : Mode) → read m (λ id. first_of id (end (usage_of m) given)) ≡ read m (value_given given)
    by Play = rw (value_at_end (usage_of Play) given (codes "format") refl, flag_at_end (usage_of Play) given (codes "audit"), flag_at_end (usage_of Play) given (codes "verbose"), value_at_end (usage_of Play) given (codes "file") refl) refl
    by Run = rw (value_at_end (usage_of Run) given (codes "format") refl, flag_at_end (usage_of Run) given (codes "audit"), flag_at_end (usage_of Run) given (codes "verbose"), value_at_end (usage_of Run) given (codes "file") refl) refl
    by Explore = rw (
      value_at_end (usage_of Explore) given (codes "find") refl,
      value_at_end (usage_of Explore) given (codes "never") refl,
      value_at_end (usage_of Explore) given (codes "always") refl,
      value_at_end (usage_of Explore) given (codes "claims") refl,
      value_at_end (usage_of Explore) given (codes "witness") refl,
      value_at_end (usage_of Explore) given (codes "trace") refl,
      flag_at_end (usage_of Explore) given (codes "summary"),
      value_at_end (usage_of Explore) given (codes "diff") refl,
      value_at_end (usage_of Explore) given (codes "never-state") refl,
      flag_at_end (usage_of Explore) given (codes "races"),
      value_at_end (usage_of Explore) given (codes "format") refl,
      value_at_end (usage_of Explore) given (codes "has") refl,
      value_at_end (usage_of Explore) given (codes "states") refl,
      value_at_end (usage_of Explore) given (codes "file") refl,
    ) refl
    by Policy = rw (
      value_at_end (usage_of Policy) given (codes "format") refl,
      flag_at_end (usage_of Policy) given (codes "verbose"),
      value_at_end (usage_of Policy) given (codes "file") refl,
    ) refl
    by Rules = rw (value_at_end (usage_of Rules) given (codes "file") refl) refl
    by Check = rw (
      value_at_end (usage_of Check) given (codes "format") refl,
      flag_at_end (usage_of Check) given (codes "script"),
      value_at_end (usage_of Check) given (codes "never") refl,
      value_at_end (usage_of Check) given (codes "file") refl,
      value_at_end (usage_of Check) given (codes "file2") refl,
      value_at_end (usage_of Check) given (codes "file3") refl,
      value_at_end (usage_of Check) given (codes "file4") refl,
      value_at_end (usage_of Check) given (codes "file5") refl,
      value_at_end (usage_of Check) given (codes "file6") refl,
      value_at_end (usage_of Check) given (codes "file7") refl,
      value_at_end (usage_of Check) given (codes "file8") refl,
    ) refl
    by Why = rw (
      value_at_end (usage_of Why) given (codes "source") refl,
      value_at_end (usage_of Why) given (codes "target") refl,
      value_at_end (usage_of Why) given (codes "permission") refl,
      flag_at_end (usage_of Why) given (codes "each"),
      value_at_end (usage_of Why) given (codes "file") refl,
    ) refl
    by Flow = rw (
      value_at_end (usage_of Flow) given (codes "format") refl,
      flag_at_end (usage_of Flow) given (codes "script"),
      value_at_end (usage_of Flow) given (codes "source") refl,
      value_at_end (usage_of Flow) given (codes "target") refl,
      value_at_end (usage_of Flow) given (codes "trust") refl,
      value_at_end (usage_of Flow) given (codes "file") refl,
    ) refl
    by Entries = rw (
      value_at_end (usage_of Entries) given (codes "version") refl,
      value_at_end (usage_of Entries) given (codes "script") refl,
      value_at_end (usage_of Entries) given (codes "format") refl,
      flag_at_end (usage_of Entries) given (codes "hex"),
      flag_at_end (usage_of Entries) given (codes "all"),
      value_at_end (usage_of Entries) given (codes "file") refl,
    ) refl

-- ---- the first word

abbrev top_built : Shape
top_built = (built gthost_app).top

abbrev start : Walk
start = walk_from nothing_held

-- the kinds for a flag that is that of help, or else that of the version, or else wrong
abbrev FlagKinds : Kinds → Bool → Bool → Type 0
FlagKinds kinds help version = (help ≡ true → kinds ≡ DisplayHelp ∷ []) × (help ≡ false → version ≡ true → kinds ≡ DisplayVersion ∷ [])
    × (help ≡ false → version ≡ false → Wrong kinds)

-- what a word that names no command makes of the walk: it is refused, but for the mark
abbrev Strays : Kinds → Walk → Word → Type 0
Strays kinds next mark = (kinds ≡ []) × (next ≡ record start { is_trailing = true })
Strays kinds next (long name None) = FlagKinds kinds (bytes_eq (codes "help") name) (bytes_eq (codes "version") name)
Strays kinds next (long name (Some value)) = Wrong kinds
Strays kinds next (short letter) = FlagKinds kinds (104 == letter) (86 == letter)
Strays kinds next plain = Wrong kinds

module _ (names : Names) (word : Text) (none : subcommand_met names idle word ≡ None) where
  abbrev Strayed : Word → Type 0
  Strayed = Strays (turn_fault top_built names start word) (walked top_built.rules names start word)

  stray_mark : bytes_eq word (codes "--") ≡ true → Strayed mark
  unfolding walked
  stray_mark e = (rw (none, e) refl, rw (none, e) refl)

  stray_plain : bytes_eq word (codes "--") ≡ false → long_of word ≡ None → short_of word ≡ None → Strayed plain
  unfolding walked
  stray_plain e l s = rw (none, e, l, s) stray

  stray_long : (name : Text) (value : Option Text) → bytes_eq word (codes "--") ≡ false → long_of word ≡ Some (name, value) → Strayed (long name value)
  unfolding walked
  stray_long name None e l = (λ h. rw (none, e, l, h) refl, λ h v. rw (none, e, l, h, v) refl, λ h v. rw (none, e, l, h, v) unknown)
  stray_long name (Some value) e l = by (bytes_eq (codes "help") name) (bytes_eq (codes "version") name) refl refl
    where
      by : (a b : Bool) → bytes_eq (codes "help") name ≡ a → bytes_eq (codes "version") name ≡ b → Wrong (turn_fault top_built names start word)
      by true b h v = rw (none, e, l, h) valued
      by false true h v = rw (none, e, l, h, v) valued
      by false false h v = rw (none, e, l, h, v) unknown

  stray_letter : (x : ℕ) (flags : Text) (letter : ℕ) → bytes_eq word (codes "--") ≡ false → long_of word ≡ None
      → short_of word ≡ Some (x ∷ flags) → slice_get (chars (x ∷ flags)) 0 ≡ Some letter → Strayed (short letter)
  unfolding walked flags_fault bundle_met
  stray_letter x flags letter e l s c = (λ h. rw (none, e, l, s, c, h) refl, λ h v. rw (none, e, l, s, c, h, v) refl, λ h v. rw (none, e, l, s, c, h, v) unknown)

  stray_no_letter : (flags : Text) → bytes_eq word (codes "--") ≡ false → long_of word ≡ None → short_of word ≡ Some flags → slice_get (chars flags) 0 ≡ None → Strayed plain
  unfolding walked flags_fault bundle_met
  stray_no_letter [] e l s c = rw (none, e, l, s) stray
  stray_no_letter (x ∷ flags) e l s c = rw (none, e, l, s, c) stray

  strays : Strayed (usage_word word)
  strays = word_goes Strayed word stray_mark stray_plain stray_long stray_letter stray_no_letter

and_no : (b : Bool) → (b && false) ≡ false
and_no true = refl
and_no false = refl

-- the walk stops at the name of a command
module _ (names : Names) (word name : Text) (some : subcommand_met names idle word ≡ Some name) where
  enters : (turn_fault top_built names start word ≡ []) × (walked top_built.rules names start word ≡ record start { stopped = Some (name, []) })
  unfolding walked
  enters = (rw (some, and_no (bytes_eq name (codes "help"))) refl, rw some refl)

-- the commands by their names
found_by_name : (word : Text) (modes : List Mode)
    → option_map (λ s. s.0) (find (answers_to word) (map (λ mode. (command_name mode, [])) modes)) ≡ option_map command_name (find (λ mode. bytes_eq (command_name mode) word) modes)
found_by_name word [] = refl
found_by_name word (mode ∷ modes) = by (bytes_eq (command_name mode) word) refl (found_by_name word modes)
  where
    by : (b : Bool) → bytes_eq (command_name mode) word ≡ b
        → option_map (λ s. s.0) (find (answers_to word) (map (λ mode. (command_name mode, [])) modes)) ≡ option_map command_name (find (λ mode. bytes_eq (command_name mode) word) modes)
        → option_map (λ s. s.0) (find (answers_to word) (map (λ mode. (command_name mode, [])) (mode ∷ modes))) ≡ option_map command_name (find (λ mode. bytes_eq (command_name mode) word) (mode ∷ modes))
    by true e later = rw e refl
    by false e later = rw e later

abbrev names : Names
names = map (λ mode. (command_name mode, [])) every_mode

names_are : names_of (built gthost_app) ≡ names
names_are = refl

named : (word : Text) → subcommand_met names idle word ≡ option_map command_name (mode_of word)
named word = found_by_name word every_mode

-- ---- the line

-- the kinds that come once the walk over the line has ended
abbrev top_ended : Walk → Kinds
top_ended end =
    or_else (entered_fault (built gthost_app) end.stopped)
    (or_else (settle_fault top_built.rules top_built.args_override_self end.held)
    (or_else (defaults_fault (settled top_built.rules end.held).rows top_built.rules)
    (check_fault top_built (finished top_built.rules end.held) (is_some (entered (built gthost_app) end.stopped)))))

abbrev top_walk : Walk → List Text → Kinds
top_walk w words = or_else (walk_fault top_built names w words) (top_ended (fold (walked top_built.rules names) w words))

after_top_mark : (words : List Text) → Wrong (top_walk (record start { is_trailing = true }) words)
unfolding walked walk_fault defaults_fault
after_top_mark [] = missing
after_top_mark (word ∷ rest) = stray

abbrev at_command : Mode → List Text → Walk
at_command mode rest = record start { stopped = Some (command_name mode, rest) }

or_nothing : (kinds : Kinds) → or_else kinds [] ≡ kinds
or_nothing [] = refl
or_nothing (k ∷ ks) = refl

below_command : (mode : Mode) (rest : List Text) → top_ended (at_command mode rest) ≡ command_fault mode rest
unfolding defaults_fault
below_command Play rest = or_nothing (command_fault Play rest)
below_command Run rest = or_nothing (command_fault Run rest)
below_command Explore rest = or_nothing (command_fault Explore rest)
below_command Policy rest = or_nothing (command_fault Policy rest)
below_command Rules rest = or_nothing (command_fault Rules rest)
below_command Check rest = or_nothing (command_fault Check rest)
below_command Why rest = or_nothing (command_fault Why rest)
below_command Flow rest = or_nothing (command_fault Flow rest)
below_command Entries rest = or_nothing (command_fault Entries rest)

abbrev sub_at : Walk → Option (Text × List Row)
sub_at end = entered (built gthost_app) end.stopped

sub_of : (mode : Mode) (rest : List Text) → sub_at (at_command mode rest) ≡ Some (command_name mode, rows_in mode rest)
sub_of Play rest = refl
sub_of Run rest = refl
sub_of Explore rest = refl
sub_of Policy rest = refl
sub_of Rules rest = refl
sub_of Check rest = refl
sub_of Why rest = refl
sub_of Flow rest = refl
sub_of Entries rest = refl

-- what a line comes to: the command of a line that passes, its rows and what they ask for; or why it is refused
pub data Comes : Request → Kinds → Option (Text × List Row) → Type 0 where
  passes : (mode : Mode) (rows : List Row) → Comes (read mode (λ id. first_of id rows)) [] (Some (command_name mode, rows))
  helps : (sub : Option (Text × List Row)) → Comes for_help (DisplayHelp ∷ []) sub
  tells_version : (sub : Option (Text × List Row)) → Comes for_version (DisplayVersion ∷ []) sub
  refuses : (kinds : Kinds) (sub : Option (Text × List Row)) → Wrong kinds → Comes nothing kinds sub

comes_as : {request same : Request} {kinds equal : Kinds} {sub like : Option (Text × List Row)} → request ≡ same → kinds ≡ equal → sub ≡ like → Comes same equal like → Comes request kinds sub
comes_as {request} {same} {kinds} {equal} {sub} {like} a b c comes =
    subst (λ (r : Request). Comes r kinds sub) (sym a) (subst (λ (k : Kinds). Comes same k sub) (sym b) (subst (λ (o : Option (Text × List Row)). Comes same equal o) (sym c) comes))

with_command : (mode : Mode) (rest : List Text) (of : Line) → walks.Tells (usage_of mode) (command_name mode) of (command_fault mode rest) (rows_in mode rest)
    → Comes (asked_of mode of) (command_fault mode rest) (Some (command_name mode, rows_in mode rest))
with_command mode rest (gives given) tells = comes_as (sym (read_rows mode given (rows_in mode rest) tells.1)) tells.0 refl (passes mode (rows_in mode rest))
with_command mode rest asks_help tells = comes_as refl tells refl (helps (Some (command_name mode, rows_in mode rest)))
with_command mode rest wrong tells = refuses (command_fault mode rest) (Some (command_name mode, rows_in mode rest)) tells

module _ (word : Text) (rest : List Text) where
  abbrev line_kinds : Kinds
  line_kinds = or_else (or_else (turn_fault top_built names start word) (walk_fault top_built names (walked top_built.rules names start word) rest))
      (top_ended (fold (walked top_built.rules names) (walked top_built.rules names start word) rest))

  abbrev line_end : Walk
  line_end = fold (walked top_built.rules names) (walked top_built.rules names start word) rest

  of_command : (mode : Mode) → subcommand_met names idle word ≡ Some (command_name mode) → Comes (asked_of mode (line (usage_of mode) rest)) line_kinds (sub_at line_end)
  of_command mode some =
      let is = enters names word (command_name mode) some in
      let ends : line_end ≡ at_command mode rest =
      ap (λ (w : Walk). fold (walked top_built.rules names) w rest) is.1 ∙ sym (walk_stopped top_built.rules names start (command_name mode) [] rest) in
      let goes : or_else (turn_fault top_built names start word) (walk_fault top_built names (walked top_built.rules names start word) rest) ≡ [] =
      ap₂ (λ (k : Kinds) (w : Walk). or_else k (walk_fault top_built names w rest)) is.0 is.1 ∙ stopped_fault top_built names start (command_name mode, []) rest in
      comes_as refl (ap₂ (λ (k : Kinds) (w : Walk). or_else k (top_ended w)) goes ends ∙ below_command mode rest) (ap sub_at ends ∙ sub_of mode rest)
      (with_command mode rest (line (usage_of mode) rest) (command_words mode rest))

  abbrev then : Kinds → Kinds
  then kinds = or_else (or_else kinds (walk_fault top_built names (walked top_built.rules names start word) rest)) (top_ended line_end)

  refused : (kinds : Kinds) → Wrong kinds → Comes nothing (then kinds) (sub_at line_end)
  refused kinds bad = refuses (then kinds) (sub_at line_end) (wrong_first (top_ended line_end) (wrong_first (walk_fault top_built names (walked top_built.rules names start word) rest) bad))

  of_flag : (a b : Bool) → FlagKinds (turn_fault top_built names start word) a b → Comes (cond a for_help (cond b for_version nothing)) line_kinds (sub_at line_end)
  of_flag true b kinds = comes_as refl (ap then (kinds.0 refl)) refl (helps (sub_at line_end))
  of_flag false true kinds = comes_as refl (ap then (kinds.1 refl refl)) refl (tells_version (sub_at line_end))
  of_flag false false kinds = refused (turn_fault top_built names start word) (kinds.2 refl refl)

  of_none : (w : Word) → Strays (turn_fault top_built names start word) (walked top_built.rules names start word) w → Comes (asked_of_none w) line_kinds (sub_at line_end)
  of_none mark strays =
      refuses line_kinds (sub_at line_end)
      (subst Wrong (sym (ap₂ (λ (k : Kinds) (v : Walk). or_else (or_else k (walk_fault top_built names v rest)) (top_ended (fold (walked top_built.rules names) v rest))) strays.0 strays.1)) (after_top_mark rest))
  of_none (long name None) strays = of_flag (bytes_eq (codes "help") name) (bytes_eq (codes "version") name) strays
  of_none (long name (Some value)) strays = refused (turn_fault top_built names start word) strays
  of_none (short letter) strays = of_flag (104 == letter) (86 == letter) strays
  of_none plain strays = refused (turn_fault top_built names start word) strays

  of_word : (mode : Option Mode) → mode_of word ≡ mode → Comes (request_by mode word rest) line_kinds (sub_at line_end)
  of_word (Some mode) is = of_command mode (named word ∙ ap (option_map command_name) is)
  of_word None is = of_none (usage_word word) (strays names word (named word ∙ ap (option_map command_name) is))

  line_comes : (program : Text) → Comes (request_in_words (word ∷ rest)) (fault_of gthost_app (program ∷ word ∷ rest)) (subcommand_of gthost_app (program ∷ word ∷ rest))
  unfolding walk_fault
  line_comes program = of_word (mode_of word) refl

no_words : (words : List Text) → drop 1 words ≡ [] → Wrong (fault_of gthost_app words)
unfolding walk_fault defaults_fault
no_words [] none = missing
no_words (name ∷ []) none = missing
no_words (name ∷ word ∷ rest) none = absurd (cc none)

-- what the parser makes of the words is what they ask for
pub words_come : (words : List Text) → Comes (request_in_words (drop 1 words)) (fault_of gthost_app words) (subcommand_of gthost_app words)
words_come [] = refuses (fault_of gthost_app []) (subcommand_of gthost_app []) (no_words [] refl)
words_come (name ∷ []) = refuses (fault_of gthost_app (name ∷ [])) (subcommand_of gthost_app (name ∷ [])) (no_words (name ∷ []) refl)
words_come (name ∷ word ∷ rest) = line_comes word rest name
