-- What the parser's walk over the words of a command comes to.
use Rattle.std.proofs.Common.{◌≡◌, ◌∙◌, ◌==◌, ◌+◌, ◌&&◌, ◌||◌, ℕ, Bool, true, false, cond, refl, sym, ap, ap₂, subst}
use Rattle.std.proofs.Common.{List, [], ◌∷◌, ◌++◌, Option, Some, None, codes}
use Rattle.std.specs.Prelude.{fold, min}
use Rattle.std.specs.Str.{bytes_eq}
use Rattle.std.proofs.lemmas.Slice.Eq.{bytes_eq-Decides}
use Rattle.clap.specs.Lexer.{usize_max}
use Rattle.clap.specs.Kinds.{Kinds, or_else}
use Rattle.clap.specs.Faults.{check_fault, defaults_fault, long_fault, settle_fault, step_fault}
use Rattle.clap.specs.Faults.{turn_fault, use_fault, walk_fault, word_fault}
use Rattle.clap.specs.Walk.{Held, Row, Rule, Step, Text, Waiting, Walk, after_flag, after_step}
use Rattle.clap.specs.Walk.{arg_by_long, finished, idle, is_pending, long_met, next, option}
use Rattle.clap.specs.Walk.{plain_word, settled, settled_rows, used, value, walked, word_met}
use Rattle.clap.specs.Simple.{Shape}
use Rattle.clap.specs.declared.error.kind.ErrorKind.TheVariants.{DisplayHelp}
use Rattle.gt_command_line.specs.Usage.{Given, Line, Usage, Word, by_kind, by_long, by_value, by_word, line_ended, gives}
use Rattle.gt_command_line.specs.Usage.{asks_help, wrong, lists_name, is_given, line_after_mark, usage_line_of, long}
use Rattle.gt_command_line.specs.Usage.{mark}
use Rattle.gt_command_line.specs.Usage.{once, plain, short, usage_word}
use Rattle.gt_command_line.proofs.Lookups as lookups
use Rattle.gt_command_line.proofs.Lookups.{one_rule, flag_built, help_built}
use Rattle.gt_command_line.proofs.Uses.{Settles, Valued, rows_of, has_given, flag_used, one_used, flag_passes}
use Rattle.gt_command_line.proofs.Uses.{flag_repeats, one_passes, one_repeats, given_more, nothing_settles, one_settles}
use Rattle.gt_command_line.proofs.Uses.{one_conflicts, none_is_wrong}
use Rattle.gt_command_line.proofs.Words.{leaf, held, Meets, meets}
use Rattle.gt_command_line.proofs.Wrongs.{Wrong, unknown, valued, valueless, repeated, wrong_first}

and_false : (b : Bool) → (b && false) ≡ false
and_false true = refl
and_false false = refl

module _ (u : Usage) (name : Text) where
  abbrev R : List Rule
  R = lookups.built_rules u

  abbrev s : Shape
  s = leaf name R

  abbrev pub At : List Row → Option (Text × List Text) → Waiting → ℕ → Bool → Walk
  At rows pending waiting p trailing = record { held = held rows pending; waiting = waiting; position = p; is_trailing = trailing; stopped = None }

  -- the kinds that come once the walk has ended
  abbrev pub ended_with : Walk → Kinds
  ended_with end =
      or_else (settle_fault R false end.held)
      (or_else (defaults_fault (settled R end.held).rows R)
      (check_fault s (finished R end.held) false))

  abbrev pub end_of : Walk → List Text → Walk
  end_of w words = fold (walked R []) w words

  -- the kinds with which the words are refused from here on
  abbrev pub total : Walk → List Text → Kinds
  total w words = or_else (walk_fault s [] w words) (ended_with (end_of w words))

  abbrev pub rows_at : Walk → List Text → List Row
  rows_at w words = finished R (end_of w words).held

  -- the rows of what was given have the defaults of the flags that were not
  abbrev pub with_defaults : Given → List Row
  with_defaults given = finished R (held (rows_of given) None)

  -- the kinds of a line, and its rows
  abbrev pub Tells : Line → Kinds → List Row → Type 0
  Tells (gives given) kinds rows = (kinds ≡ []) × (rows ≡ with_defaults given)
  Tells asks_help kinds rows = kinds ≡ DisplayHelp ∷ []
  Tells wrong kinds rows = Wrong kinds

  abbrev pub From : Line → Walk → List Text → Type 0
  From line w words = Tells line (total w words) (rows_at w words)

  -- ---- one word on

  forward : (line : Line) (w onward : Walk) (word : Text) (rest : List Text) → turn_fault s [] w word ≡ [] → walked R [] w word ≡ onward → From line onward rest → From line w (word ∷ rest)
  unfolding walk_fault
  forward line w onward word rest passes is later =
      subst (λ (k : Kinds). Tells line (or_else (or_else k (walk_fault s [] (walked R [] w word) rest)) (ended_with (end_of (walked R [] w word) rest))) (rows_at (walked R [] w word) rest)) (sym passes)
      (subst (λ (v : Walk). Tells line (or_else (walk_fault s [] v rest) (ended_with (end_of v rest))) (rows_at v rest)) (sym is) later)

  refused : (w : Walk) (word : Text) (rest : List Text) → Wrong (turn_fault s [] w word) → Wrong (total w (word ∷ rest))
  unfolding walk_fault
  refused w word rest bad = wrong_first (ended_with (end_of (walked R [] w word) rest)) (wrong_first (walk_fault s [] (walked R [] w word) rest) bad)

  helped : (w : Walk) (word : Text) (rest : List Text) → turn_fault s [] w word ≡ DisplayHelp ∷ [] → total w (word ∷ rest) ≡ DisplayHelp ∷ []
  unfolding walk_fault
  helped w word rest is =
      ap (λ (k : Kinds). or_else (or_else k (walk_fault s [] (walked R [] w word) rest)) (ended_with (end_of (walked R [] w word) rest))) is

  -- ---- what a word does

  abbrev Settling : List Row → Option (Text × List Text) → Kinds
  Settling rows pending = settle_fault R false (held rows pending)

  -- the rule of a long name
  flag_found : (n : Text) → lists_name u.flags n ≡ true → arg_by_long R n ≡ Some (flag_built n)
  flag_found n e = lookups.long_is u n ∙ rw e refl

  option_found : (n : Text) → lists_name u.flags n ≡ false → lists_name u.options n ≡ true → arg_by_long R n ≡ Some (lookups.option_built u n)
  option_found n e f = lookups.long_is u n ∙ rw (e, f) refl

  help_found : (n : Text) → lists_name u.flags n ≡ false → lists_name u.options n ≡ false → bytes_eq (codes "help") n ≡ true → arg_by_long R n ≡ Some help_built
  help_found n e f h = lookups.long_is u n ∙ rw (e, f, h) refl

  none_found : (n : Text) → lists_name u.flags n ≡ false → lists_name u.options n ≡ false → bytes_eq (codes "help") n ≡ false → arg_by_long R n ≡ None
  none_found n e f h = lookups.long_is u n ∙ rw (e, f, h) refl

  -- the fault of a long name is that of its rule
  by_rule : (r : Option Rule) (n : Text) (v : Option Text) (rows : List Row) (pending : Option (Text × List Text)) → arg_by_long R n ≡ r
      → long_fault R false (arg_by_long R n) v (held rows pending) ≡ long_fault R false r v (held rows pending)
  by_rule r n v rows pending found = ap (λ (x : Option Rule). long_fault R false x v (held rows pending)) found

  -- a word that is the next of the command's words
  module _ (rows : List Row) (pending : Option (Text × List Text)) (waiting : Waiting) (p : ℕ) (is_trailing : Bool) where
    stray_step : lookups.Places u p [] → Wrong (step_fault s p (held rows pending) value)
    stray_step none = rw none unknown

    place_step : (w : Text) (ws : List Text) → lookups.Places u p (w ∷ ws) → step_fault s p (held rows pending) value ≡ Settling rows pending
    place_step w ws places = rw (places.0, and_false (is_pending (lookups.word_built u p w) pending)) refl

    place_walk : (w : Text) (ws : List Text) (word : Text) (after : List Row) → lookups.Places u p (w ∷ ws) → settled_rows R pending rows ≡ after
        → after_step R word (At rows pending waiting p is_trailing) (held rows pending) value ≡ At after (Some (w, word ∷ [])) idle (min (p + 1) usize_max) (is_trailing || false)
    place_walk w ws word after places is =
        rw (places.0, and_false (is_pending (lookups.word_built u p w) pending)) (ap (λ (rs : List Row). At rs (Some (w, word ∷ [])) idle (min (p + 1) usize_max) (is_trailing || false)) is)

    -- a settling that is wrong is wrong at a plain word
    doomed_step : (left : List Text) → lookups.Places u p left → Wrong (Settling rows pending) → Wrong (step_fault s p (held rows pending) value)
    doomed_step [] places bad = stray_step places
    doomed_step (w ∷ ws) places bad = subst Wrong (sym (place_step w ws places)) bad

  -- ---- what is pending and can't be used is refused in the end

  doomed_end : (rows : List Row) (pending : Option (Text × List Text)) (waiting : Waiting) (p : ℕ) (trailing : Bool) → Wrong (Settling rows pending) → Wrong (total (At rows pending waiting p trailing) [])
  unfolding walk_fault
  doomed_end rows pending waiting p trailing bad = wrong_first _ bad

  doomed_after_mark : (words : List Text) (rows : List Row) (pending : Option (Text × List Text)) (waiting : Waiting) (p : ℕ) (left : List Text) → lookups.Places u p left
      → Wrong (Settling rows pending) → Wrong (total (At rows pending waiting p true) words)
  doomed_after_mark [] rows pending waiting p left places bad = doomed_end rows pending waiting p true bad
  doomed_after_mark (word ∷ rest) rows pending waiting p left places bad = refused (At rows pending waiting p true) word rest (doomed_step rows pending waiting p true left places bad)

  module _ (rows : List Row) (pending : Option (Text × List Text)) (waiting : Waiting) (p : ℕ) (word : Text) where
    abbrev Meeting : Word → Type 0
    Meeting = Meets name R (lookups.short_is u) rows pending waiting p word

    abbrev W : Walk
    W = At rows pending waiting p false

    is_refused : (fault : Kinds) → word_fault s [] false waiting word (held rows pending) ≡ fault → Wrong fault → Wrong (turn_fault s [] W word)
    is_refused fault is bad = wrong_first _ (subst Wrong (sym is) bad)

    doomed_long : (n : Text) (v : Option Text) (a b c : Bool) → lists_name u.flags n ≡ a → lists_name u.options n ≡ b → bytes_eq (codes "help") n ≡ c → Meeting (long n v) → Wrong (Settling rows pending)
        → Wrong (turn_fault s [] W word)
    doomed_long n None true b c e f h met bad = is_refused _ (met.0 ∙ by_rule _ n None rows pending (flag_found n e)) (wrong_first _ bad)
    doomed_long n (Some v) true b c e f h met bad = is_refused _ (met.0 ∙ by_rule _ n (Some v) rows pending (flag_found n e)) valued
    doomed_long n None false true c e f h met bad = is_refused _ (met.0 ∙ by_rule _ n None rows pending (option_found n e f)) bad
    doomed_long n (Some v) false true c e f h met bad = is_refused _ (met.0 ∙ by_rule _ n (Some v) rows pending (option_found n e f)) (wrong_first _ bad)
    doomed_long n None false false true e f h met bad = is_refused _ (met.0 ∙ by_rule _ n None rows pending (help_found n e f h)) (wrong_first _ bad)
    doomed_long n (Some v) false false true e f h met bad = is_refused _ (met.0 ∙ by_rule _ n (Some v) rows pending (help_found n e f h)) valued
    doomed_long n v false false false e f h met bad = is_refused _ (met.0 ∙ by_rule _ n v rows pending (none_found n e f h)) unknown

    doomed_short : (letter : ℕ) (b : Bool) → (104 == letter) ≡ b → Meeting (short letter) → Wrong (Settling rows pending) → Wrong (turn_fault s [] W word)
    doomed_short letter true h (rest, is) bad = is_refused _ (is ∙ rw h refl) (wrong_first rest (wrong_first (DisplayHelp ∷ []) bad))
    doomed_short letter false h (rest, is) bad = is_refused _ (is ∙ rw h refl) unknown

    -- the mark
    marked : Meeting mark → (line : Line) (rest : List Text) → From line (At rows pending waiting p true) rest → From line W (word ∷ rest)
    unfolding walked
    marked met line rest later =
        forward line W (At rows pending waiting p true) word rest
        (ap₂ (λ (k : Kinds) (q : Held × Step). or_else k (step_fault s p q.0 q.1)) met.0 met.1)
        (ap (λ (q : Held × Step). after_step R word W q.0 q.1) met.1) later

  doomed : (words : List Text) (rows : List Row) (pending : Option (Text × List Text)) (p : ℕ) (left : List Text) → lookups.Places u p left
      → Wrong (Settling rows pending) → Wrong (total (At rows pending idle p false) words)
  doomed [] rows pending p left places bad = doomed_end rows pending idle p false bad
  doomed (word ∷ rest) rows pending p left places bad = by (usage_word word) (meets name R (lookups.short_is u) rows pending idle p word)
    where
      by : (k : Word) → Meets name R (lookups.short_is u) rows pending idle p word k → Wrong (total (At rows pending idle p false) (word ∷ rest))
      by mark met = marked rows pending idle p word met wrong rest (doomed_after_mark rest rows pending idle p left places bad)
      by (long n v) met = refused _ word rest (doomed_long rows pending idle p word n v (lists_name u.flags n) (lists_name u.options n) (bytes_eq (codes "help") n) refl refl refl met bad)
      by (short letter) met = refused _ word rest (doomed_short rows pending idle p word letter (104 == letter) refl met bad)
      by plain met = refused _ word rest
          (subst Wrong (sym (ap₂ (λ (k : Kinds) (q : Held × Step). or_else k (step_fault s p q.0 q.1)) met.0 met.1)) (doomed_step rows pending idle p false left places bad))

  -- ---- what the words come to

  -- where the walk stands: with what is pending, or at an option that waits for its value
  pub data Point : Type 0 where
    idle_at : List Row → Option (Text × List Text) → Point
    open_at : Text → Point

  abbrev pub open_of : Point → Option Text
  open_of (idle_at rows pending) = None
  open_of (open_at n) = Some n

  abbrev pub Fits : Given → Point → Type 0
  Fits given (idle_at rows pending) = Settles R rows pending (rows_of given)
  Fits given (open_at n) = Valued R n

  abbrev pub walk_at : Given → Point → ℕ → Walk
  walk_at given (idle_at rows pending) p = At rows pending idle p false
  walk_at given (open_at n) p = At (rows_of given) (Some (n, [])) (option n) p false

  module _ (ends : (given : Given) (rows : List Row) (pending : Option (Text × List Text)) (waiting : Waiting) (p : ℕ) (trailing : Bool) → Settles R rows pending (rows_of given)
      → Tells (line_ended u given) (ended_with (At rows pending waiting p trailing)) (finished R (held rows pending)))
      (valued_words : (p : ℕ) (w : Text) (ws : List Text) → lookups.Places u p (w ∷ ws) → Valued R w)
      (valued_options : (n : Text) → lists_name u.options n ≡ true → Valued R n) where
    finishes : (given : Given) (rows : List Row) (pending : Option (Text × List Text)) (waiting : Waiting) (p : ℕ) (trailing : Bool) → Settles R rows pending (rows_of given)
        → From (line_ended u given) (At rows pending waiting p trailing) []
    unfolding walk_fault
    finishes given rows pending waiting p trailing settles = ends given rows pending waiting p trailing settles

    -- each name is given once
    module _ (n v : Text) (given : Given) (left : List Text) (onward : Given → List Text → Line) (w : Walk) (words : List Text) where
      once_by : (b : Bool) → is_given given n ≡ b → (is_given given n ≡ true → Wrong (total w words)) → (is_given given n ≡ false → From (onward (given ++ (n, v) ∷ []) left) w words)
          → From (once n v given left onward) w words
      once_by true e bad good = subst (λ (b : Bool). From (cond b wrong (onward (given ++ (n, v) ∷ []) left)) w words) (sym e) (bad e)
      once_by false e bad good = subst (λ (b : Bool). From (cond b wrong (onward (given ++ (n, v) ∷ []) left)) w words) (sym e) (good e)

    -- a plain word, after the mark or before it
    module _ (word : Text) (rest : List Text) (given : Given) (rows : List Row) (pending : Option (Text × List Text)) (p : ℕ) (trailing : Bool) (onward : Given → List Text → Line) where
      abbrev Here : Walk
      Here = At rows pending idle p trailing

      by_word_tells : (left : List Text) → lookups.Places u p left → Settles R rows pending (rows_of given)
          → turn_fault s [] Here word ≡ step_fault s p (held rows pending) value → walked R [] Here word ≡ after_step R word Here (held rows pending) value
          → ((rs : List Row) (pend : Option (Text × List Text)) (q : ℕ) (left : List Text) → lookups.Places u q left → Wrong (Settling rs pend) → Wrong (total (At rs pend idle q (trailing || false)) rest))
          → ((more : Given) (rs : List Row) (pend : Option (Text × List Text)) (q : ℕ) (left : List Text) → lookups.Places u q left → Settles R rs pend (rows_of more)
          → From (onward more left) (At rs pend idle q (trailing || false)) rest)
          → From (by_word left word given onward) Here (word ∷ rest)
      by_word_tells [] places settles turn walks bad good = refused Here word rest (subst Wrong (sym turn) (stray_step rows pending idle p trailing places))
      by_word_tells (w ∷ ws) places settles turn walks bad good =
          let passes : turn_fault s [] Here word ≡ [] = turn ∙ place_step rows pending idle p trailing w ws places ∙ settles.0 in
          let goes = walks ∙ place_walk rows pending idle p trailing w ws word (rows_of given) places settles.1 in
          let one : Valued R w = valued_words p w ws places in
          once_by w word given ws onward Here (word ∷ rest) (is_given given w) refl
          (λ some. forward wrong Here _ word rest passes goes
          (bad (rows_of given) (Some (w, word ∷ [])) (min (p + 1) usize_max) ws places.2 (subst Wrong (sym (one_conflicts R given w word one some)) repeated)))
          (λ none. forward (onward (given ++ (w, word) ∷ []) ws) Here _ word rest passes goes
          (good (given ++ (w, word) ∷ []) (rows_of given) (Some (w, word ∷ [])) (min (p + 1) usize_max) ws places.2 (one_settles R given w word one none)))

    tells_after_mark : (words : List Text) (given : Given) (rows : List Row) (pending : Option (Text × List Text)) (p : ℕ) (left : List Text) → lookups.Places u p left → Settles R rows pending (rows_of given)
        → From (line_after_mark u words given left) (At rows pending idle p true) words
    unfolding walked
    tells_after_mark [] given rows pending p left places settles = finishes given rows pending idle p true settles
    tells_after_mark (word ∷ rest) given rows pending p left places settles =
        by_word_tells word rest given rows pending p true (line_after_mark u rest) left places settles refl refl
        (λ rs pend q l pl bad. doomed_after_mark rest rs pend idle q l pl bad)
        (λ more rs pend q l pl fits. tells_after_mark rest more rs pend q l pl fits)

    -- a word where no option waits for its value
    module _ (word : Text) (rest : List Text) (given : Given) (rows : List Row) (pending : Option (Text × List Text)) (p : ℕ) (left : List Text)
        (places : lookups.Places u p left) (settles : Settles R rows pending (rows_of given))
        (later : (more : Given) (point : Point) (q : ℕ) (l : List Text) → Fits more point → lookups.Places u q l → From (usage_line_of u rest (open_of point) more l) (walk_at more point q) rest) where
      abbrev Idle : Walk
      Idle = At rows pending idle p false

      abbrev Met : Word → Type 0
      Met = Meets name R (lookups.short_is u) rows pending idle p word

      -- a word that is used at once
      reacts : (F : List Row → Kinds) → or_else (Settling rows pending) (F (settled_rows R pending rows)) ≡ F (rows_of given)
      reacts F = ap₂ (λ (k : Kinds) (rs : List Row). or_else k (F rs)) settles.0 settles.1

      -- the fault and the walk of a long name with this rule
      module _ (n : Text) (v : Option Text) (met : Met (long n v)) where
        abbrev step_by : Option Rule → Held × Step
        step_by r = after_flag R idle word (long_met R r v (held rows pending)).0 (long_met R r v (held rows pending)).1

        long_turn : (r : Option Rule) → arg_by_long R n ≡ r
            → turn_fault s [] Idle word ≡ or_else (long_fault R false r v (held rows pending)) (step_fault s p (step_by r).0 (step_by r).1)
        long_turn r found =
            ap₂ (λ (k : Kinds) (q : Held × Step). or_else k (step_fault s p q.0 q.1)) met.0 met.1
            ∙ ap (λ (x : Option Rule). or_else (long_fault R false x v (held rows pending)) (step_fault s p (step_by x).0 (step_by x).1)) found

        long_walk : (r : Option Rule) → arg_by_long R n ≡ r → walked R [] Idle word ≡ after_step R word Idle (step_by r).0 (step_by r).1
        unfolding walked
        long_walk r found =
            ap (λ (q : Held × Step). after_step R word Idle q.0 q.1) met.1
            ∙ ap (λ (x : Option Rule). after_step R word Idle (step_by x).0 (step_by x).1) found

      -- a flag
      flag_tells : (n : Text) → Met (long n None) → lists_name u.flags n ≡ true → From (once n (codes "true") given left (usage_line_of u rest None)) Idle (word ∷ rest)
      flag_tells n met e =
          let found = flag_found n e in
          let turn : turn_fault s [] Idle word ≡ or_else (use_fault false (flag_built n) [] (rows_of given)) [] =
          long_turn n None met (Some (flag_built n)) found ∙ ap (λ (k : Kinds). or_else k []) (reacts (λ rs. use_fault false (flag_built n) [] rs)) in
          let goes : walked R [] Idle word ≡ At (used (flag_built n) [] (rows_of given)) None idle p false =
          long_walk n None met (Some (flag_built n)) found ∙ ap (λ (rs : List Row). At (used (flag_built n) [] rs) None idle p false) settles.1 in
          once_by n (codes "true") given left (usage_line_of u rest None) Idle (word ∷ rest) (is_given given n) refl
          (λ some. refused Idle word rest (subst Wrong (sym (turn ∙ ap (λ (k : Kinds). or_else k []) (flag_repeats n (rows_of given) (has_given given n ∙ some)))) repeated))
          (λ none.
          let fresh = has_given given n ∙ none in
          let after = flag_used n (rows_of given) fresh ∙ given_more given n (codes "true") in
          forward (usage_line_of u rest None (given ++ (n, codes "true") ∷ []) left) Idle _ word rest
          (turn ∙ ap (λ (k : Kinds). or_else k []) (flag_passes n (rows_of given) fresh))
          (goes ∙ ap (λ (rs : List Row). At rs None idle p false) after)
          (later (given ++ (n, codes "true") ∷ []) (idle_at (rows_of (given ++ (n, codes "true") ∷ [])) None) p left (nothing_settles R _) places))

      -- an option with its value attached
      attached_tells : (n v : Text) → Met (long n (Some v)) → lists_name u.flags n ≡ false → lists_name u.options n ≡ true → From (once n v given left (usage_line_of u rest None)) Idle (word ∷ rest)
      attached_tells n v met e f =
          let found = option_found n e f in
          let rule = lookups.option_built u n in
          let turn : turn_fault s [] Idle word ≡ or_else (use_fault false rule (v ∷ []) (rows_of given)) [] =
          long_turn n (Some v) met (Some rule) found ∙ ap (λ (k : Kinds). or_else k []) (reacts (λ rs. use_fault false rule (v ∷ []) rs)) in
          let goes : walked R [] Idle word ≡ At (used rule (v ∷ []) (rows_of given)) None idle p false =
          long_walk n (Some v) met (Some rule) found ∙ ap (λ (rs : List Row). At (used rule (v ∷ []) rs) None idle p false) settles.1 in
          once_by n v given left (usage_line_of u rest None) Idle (word ∷ rest) (is_given given n) refl
          (λ some. refused Idle word rest (subst Wrong (sym (turn ∙ ap (λ (k : Kinds). or_else k []) (one_repeats None (Some n) (lists_name u.needed n) n v (rows_of given) (has_given given n ∙ some)))) repeated))
          (λ none.
          let fresh = has_given given n ∙ none in
          let after = one_used None (Some n) (lists_name u.needed n) n v (rows_of given) fresh ∙ given_more given n v in
          forward (usage_line_of u rest None (given ++ (n, v) ∷ []) left) Idle _ word rest
          (turn ∙ ap (λ (k : Kinds). or_else k []) (one_passes None (Some n) (lists_name u.needed n) n v (rows_of given) fresh))
          (goes ∙ ap (λ (rs : List Row). At rs None idle p false) after)
          (later (given ++ (n, v) ∷ []) (idle_at (rows_of (given ++ (n, v) ∷ [])) None) p left (nothing_settles R _) places))

      -- an option whose value comes next
      option_tells : (n : Text) → Met (long n None) → lists_name u.flags n ≡ false → lists_name u.options n ≡ true → From (usage_line_of u rest (Some n) given left) Idle (word ∷ rest)
      option_tells n met e f =
          let rule = lookups.option_built u n in
          forward (usage_line_of u rest (Some n) given left) Idle _ word rest
          (long_turn n None met (Some rule) (option_found n e f) ∙ ap (λ (k : Kinds). or_else k []) settles.0)
          (long_walk n None met (Some rule) (option_found n e f) ∙ ap (λ (rs : List Row). At rs (Some (n, [])) (option n) p false) settles.1)
          (later given (open_at n) p left (valued_options n f) places)

      tells_long : (n : Text) (v : Option Text) (a b c : Bool) → lists_name u.flags n ≡ a → lists_name u.options n ≡ b → bytes_eq (codes "help") n ≡ c → Met (long n v)
          → From (by_long u n v given left (usage_line_of u rest)) Idle (word ∷ rest)
      tells_long n None true b c e f h met = rw e (flag_tells n met e)
      tells_long n (Some v) true b c e f h met = rw e (refused Idle word rest (subst Wrong (sym (long_turn n (Some v) met (Some (flag_built n)) (flag_found n e))) valued))
      tells_long n None false true c e f h met = rw (e, f) (option_tells n met e f)
      tells_long n (Some v) false true c e f h met = rw (e, f) (attached_tells n v met e f)
      tells_long n None false false true e f h met = rw (e, f, h)
          (helped Idle word rest (long_turn n None met (Some help_built) (help_found n e f h) ∙ ap (λ (k : Kinds). or_else (or_else k (DisplayHelp ∷ [])) []) settles.0))
      tells_long n (Some v) false false true e f h met = rw (e, f) (refused Idle word rest (subst Wrong (sym (long_turn n (Some v) met (Some help_built) (help_found n e f h))) valued))
      tells_long n None false false false e f h met = rw (e, f, h) (refused Idle word rest (subst Wrong (sym (long_turn n None met None (none_found n e f h))) unknown))
      tells_long n (Some v) false false false e f h met = rw (e, f) (refused Idle word rest (subst Wrong (sym (long_turn n (Some v) met None (none_found n e f h))) unknown))

      tells_short : (letter : ℕ) (b : Bool) → (104 == letter) ≡ b → Met (short letter) → From (cond (104 == letter) asks_help wrong) Idle (word ∷ rest)
      tells_short letter true h met =
          let fault : word_fault s [] false idle word (held rows pending) ≡ DisplayHelp ∷ [] =
          met.1 ∙ rw h (ap (λ (k : Kinds). or_else (or_else k (DisplayHelp ∷ [])) met.0) settles.0) in
          let here : Held × Step = word_met R [] false idle p word (held rows pending) in
          rw h (helped Idle word rest (ap (λ (k : Kinds). or_else k (step_fault s p here.0 here.1)) fault))
      tells_short letter false h met = rw h (refused Idle word rest (is_refused rows pending idle p word _ (met.1 ∙ rw h refl) unknown))

      tells_idle : (k : Word) → Met k → From (by_kind u k word given left (line_after_mark u rest) (usage_line_of u rest)) Idle (word ∷ rest)
      unfolding walked
      tells_idle mark met = marked rows pending idle p word met (line_after_mark u rest given left) rest (tells_after_mark rest given rows pending p left places settles)
      tells_idle (long n v) met = tells_long n v (lists_name u.flags n) (lists_name u.options n) (bytes_eq (codes "help") n) refl refl refl met
      tells_idle (short letter) met = tells_short letter (104 == letter) refl met
      tells_idle plain met =
          by_word_tells word rest given rows pending p false (usage_line_of u rest None) left places settles
          (ap₂ (λ (k : Kinds) (q : Held × Step). or_else k (step_fault s p q.0 q.1)) met.0 met.1)
          (ap (λ (q : Held × Step). after_step R word Idle q.0 q.1) met.1)
          (λ rs pend q l pl bad. doomed rest rs pend q l pl bad)
          (λ more rs pend q l pl fits. later more (idle_at rs pend) q l fits pl)

    -- a word where an option waits for its value
    module _ (word : Text) (rest : List Text) (given : Given) (n : Text) (one : Valued R n) (p : ℕ) (left : List Text) (places : lookups.Places u p left)
        (later : (more : Given) (point : Point) (q : ℕ) (l : List Text) → Fits more point → lookups.Places u q l → From (usage_line_of u rest (open_of point) more l) (walk_at more point q) rest) where
      abbrev Open : Walk
      Open = At (rows_of given) (Some (n, [])) (option n) p false

      no_value : Wrong (Settling (rows_of given) (Some (n, [])))
      no_value = subst Wrong (sym (none_is_wrong R (rows_of given) n one)) valueless

      same : bytes_eq n n ≡ true
      same = (bytes_eq-Decides n n).1 refl

      value_walk : plain_word R (option n) word (held (rows_of given) (Some (n, []))) ≡ (held (rows_of given) (Some (n, word ∷ [])), next idle)
      value_walk = rw (one.3, same) refl

      tells_open : (k : Word) → Meets name R (lookups.short_is u) (rows_of given) (Some (n, [])) (option n) p word k → From (by_value k n word given left (usage_line_of u rest None)) Open (word ∷ rest)
      unfolding walked
      tells_open mark met = marked (rows_of given) (Some (n, [])) (option n) p word met wrong rest (doomed_after_mark rest (rows_of given) (Some (n, [])) (option n) p left places no_value)
      tells_open (long m v) met =
          refused Open word rest (doomed_long (rows_of given) (Some (n, [])) (option n) p word m v (lists_name u.flags m) (lists_name u.options m) (bytes_eq (codes "help") m) refl refl refl met no_value)
      tells_open (short letter) met = refused Open word rest (doomed_short (rows_of given) (Some (n, [])) (option n) p word letter (104 == letter) refl met no_value)
      tells_open plain met =
          let passes : turn_fault s [] Open word ≡ [] = ap₂ (λ (k : Kinds) (q : Held × Step). or_else k (step_fault s p q.0 q.1)) met.0 (met.1 ∙ value_walk) in
          let goes : walked R [] Open word ≡ At (rows_of given) (Some (n, word ∷ [])) idle p false = ap (λ (q : Held × Step). after_step R word Open q.0 q.1) (met.1 ∙ value_walk) in
          once_by n word given left (usage_line_of u rest None) Open (word ∷ rest) (is_given given n) refl
          (λ some. forward wrong Open _ word rest passes goes (doomed rest (rows_of given) (Some (n, word ∷ [])) p left places (subst Wrong (sym (one_conflicts R given n word one some)) repeated)))
          (λ none. forward (usage_line_of u rest None (given ++ (n, word) ∷ []) left) Open _ word rest passes goes
          (later (given ++ (n, word) ∷ []) (idle_at (rows_of given) (Some (n, word ∷ []))) p left (one_settles R given n word one none) places))

    -- the words of a command
    pub tells : (words : List Text) (given : Given) (point : Point) (p : ℕ) (left : List Text) → Fits given point → lookups.Places u p left
        → From (usage_line_of u words (open_of point) given left) (walk_at given point p) words
    unfolding walk_fault
    tells [] given (idle_at rows pending) p left settles places = finishes given rows pending idle p false settles
    tells [] given (open_at n) p left one places = doomed_end (rows_of given) (Some (n, [])) (option n) p false (subst Wrong (sym (none_is_wrong R (rows_of given) n one)) valueless)
    tells (word ∷ rest) given (idle_at rows pending) p left settles places =
        tells_idle word rest given rows pending p left places settles (λ more point q l fits pl. tells rest more point q l fits pl) (usage_word word) (meets name R (lookups.short_is u) rows pending idle p word)
    tells (word ∷ rest) given (open_at n) p left one places =
        tells_open word rest given n one p left places (λ more point q l fits pl. tells rest more point q l fits pl) (usage_word word)
        (meets name R (lookups.short_is u) (rows_of given) (Some (n, [])) (option n) p word)
