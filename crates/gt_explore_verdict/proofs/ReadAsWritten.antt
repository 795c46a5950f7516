-- An expression is read as it is written.
use Rattle.std.proofs.Common.{◌≡◌, ◌∙◌, ◌+◌, ap, refl, subst, sym, append_assoc, Bool, true, false, not, ◌||◌, ℕ, List, []}
use Rattle.std.proofs.Common.{◌∷◌, ◌++◌, Result, Ok, Err, filter}
use Rattle.std.specs.Prelude.{if◌then◌else◌}
use Rattle.std.proofs.lemmas.List.{append-nil}
use Rattle.std.specs.List.{slice_split}
use Rattle.gt_explore_verdict.specs.Expressions.{Asked, condition_of_words, is_excluded, may_be, reason}
use Rattle.gt_explore_verdict.specs.Joining.{ExcludesNone, IsReadWithoutExcluded, joined_terms}
use Rattle.gt_explore_verdict.specs.Formulas.{Op, all_values, combined, last_value, op_and, op_not, op_or, op_term}
use Rattle.gt_explore_verdict.specs.Formulas.{values_after}
use Rattle.gt_explore_verdict.specs.Grammar.{IsReadAsWritten, Phrase, Piece, Rank, and_phrase, bracket_phrase}
use Rattle.gt_explore_verdict.specs.Grammar.{conjunction, disjunction, mark_piece, not_phrase}
use Rattle.gt_explore_verdict.specs.Grammar.{one_conjunction, one_operand, operand, or_phrase, phrase_holds}
use Rattle.gt_explore_verdict.specs.Grammar.{phrase_pieces, pieces_in, term_phrase, words_piece}
use Rattle.gt_explore_verdict.specs.Reading.{LevelAsked, ReaderAsked, condition_read, end_read, is_sign, nothing_read}
use Rattle.gt_explore_verdict.specs.Reading.{joined_outside, op_if, operations_in, with_condition}
use Rattle.gt_explore_verdict.specs.Satisfying.{is_met_in, lines_in}
use Rattle.gt_explore_verdict.specs.declared.fault.ConditionFault.{ConditionFault}
use Rattle.gt_explore_verdict.specs.declared.fault.ConditionFault.TheVariants as condition_faults
use Rattle.gt_explore_verdict.proofs.Pieces.{ended, parts_as_pieces}
use Rattle.gt_explore_verdict.proofs.Values.{value_of_formula}

-- the values after these operations
abbrev values_of : List (List ℕ) → List Op → List Bool
values_of lines ops = all_values lines [] ops

values_append : (lines : List (List ℕ)) (bs : List Bool) (ops more : List Op)
    → all_values lines bs (ops ++ more) ≡ all_values lines (all_values lines bs ops) more
values_append lines bs [] more = refl
values_append lines bs (op ∷ ops) more = values_append lines (values_after lines bs op) ops more

-- a value, or its contrary after an odd number of `!`
abbrev flipped : Bool → Bool → Bool
flipped true v = not v
flipped false v = v

-- the values after an operand, by whether it belongs to a conjunction and whether it is denied
abbrev operand_value : Bool → Bool → Bool → List Bool → List Bool
operand_value true denied v bs = combined true (flipped denied v ∷ bs)
operand_value false denied v bs = flipped denied v ∷ bs

operand_values : (lines : List (List ℕ)) (ops : List Op) (v : Bool) (bs : List Bool) (all denied : Bool)
    → values_of lines ops ≡ v ∷ bs
    → values_of lines ((ops ++ op_if denied op_not) ++ op_if all op_and) ≡ operand_value all denied v bs
operand_values lines ops v bs all denied is =
    values_append lines [] (ops ++ op_if denied op_not) (op_if all op_and)
    ∙ (ap (λ (xs : List Bool). all_values lines xs (op_if all op_and))
    (values_append lines [] ops (op_if denied op_not)
    ∙ ap (λ (xs : List Bool). all_values lines xs (op_if denied op_not)) is)
    ∙ last all denied)
  where
    last : (all denied : Bool) → all_values lines (all_values lines (v ∷ bs) (op_if denied op_not)) (op_if all op_and)
        ≡ operand_value all denied v bs
    last true true = refl
    last true false = refl
    last false true = refl
    last false false = refl

denied_value : (all denied v : Bool) (bs : List Bool)
    → operand_value all (not denied) v bs ≡ operand_value all denied (not v) bs
denied_value true true true bs = refl
denied_value true true false bs = refl
denied_value true false v bs = refl
denied_value false true true bs = refl
denied_value false true false bs = refl
denied_value false false v bs = refl

-- what was read, by its parts
abbrev reader : List Op → Bool → Bool → Bool → Bool → List Asked → List LevelAsked → ℕ → ReaderAsked
reader ops any all wants denied joined outer terms = record {
  ops = ops;
  now = record { has_any = any; has_all = all; wants = wants; negated = denied; joined = joined };
  outer = outer;
  terms = terms;
}

-- after an operand of a level with these joined terms
record AfterOperand (p : Phrase operand) (ops : List Op) (any all denied : Bool) (before : List Asked)
    (outer : List LevelAsked) (rest : List Piece) (final : List Op) : Type 0 where
  done : List Op
  joined : List Asked
  terms : ℕ
  joins : joined ≡ before ++ joined_terms denied p
  free : ExcludesNone denied (joined_outside outer ++ before) p
  goes_on : ended (Ok (reader done any true false false joined outer terms)) rest ≡ Ok final
  values : (lines : List (List ℕ))
      → values_of lines done ≡ operand_value all denied (phrase_holds lines p) (values_of lines ops)

-- after a conjunction
record AfterConjunction (p : Phrase conjunction) (ops : List Op) (any : Bool) (before : List Asked)
    (outer : List LevelAsked) (rest : List Piece) (final : List Op) : Type 0 where
  done : List Op
  joined : List Asked
  terms : ℕ
  joins : joined ≡ before ++ joined_terms false p
  free : ExcludesNone false (joined_outside outer ++ before) p
  goes_on : ended (Ok (reader done any true false false joined outer terms)) rest ≡ Ok final
  values : (lines : List (List ℕ)) → values_of lines done ≡ phrase_holds lines p ∷ values_of lines ops

-- after a disjunction, of which a last `|` may be open
record AfterDisjunction (p : Phrase disjunction) (ops : List Op) (outer : List LevelAsked) (rest : List Piece)
    (final : List Op) : Type 0 where
  done : List Op
  any : Bool
  joined : List Asked
  terms : ℕ
  joins : (if any then [] else joined) ≡ joined_terms false p
  free : ExcludesNone false (joined_outside outer) p
  goes_on : ended (Ok (reader done any true false false joined outer terms)) rest ≡ Ok final
  values : (lines : List (List ℕ))
      → values_of lines (done ++ op_if any op_or) ≡ phrase_holds lines p ∷ values_of lines ops

-- operations, or a fault
abbrev Ended : Type 0
Ended = Result (List Op) (ℕ × ConditionFault)

wrong_in : (x y : Ended) (fault : ℕ × ConditionFault) (final : List Op) → x ≡ Err fault → y ≡ Ok final → x ≡ y → ⊥
wrong_in x y fault final p q is = cc

wrong : (fault : ℕ × ConditionFault) (final : List Op) → (let x : Ended = Err fault in x ≡ Ok final) → ⊥
wrong fault final is = wrong_in (Err fault) (Ok final) fault final refl refl is

-- a condition is joined, if no `!` is before it
term_joins : (denied : Bool) (before : List Asked) (word : List ℕ) (more : List (List ℕ))
    → (if denied then before else before ++ condition_of_words word more ∷ [])
    ≡ before ++ joined_terms denied (term_phrase word more)
term_joins true before word more = sym (append-nil before)
term_joins false before word more = refl

term_free : (denied : Bool) (outside : List Asked) (word : List ℕ) (more : List (List ℕ))
    → (if denied then false else is_excluded outside (condition_of_words word more)) ≡ false
    → ExcludesNone denied outside (term_phrase word more)
term_free true outside word more is = tt
term_free false outside word more is = is

-- a term is read
term_case : (word : List ℕ) (more : List (List ℕ)) (ops : List Op) (any all wants denied : Bool) (joined : List Asked)
    (outer : List LevelAsked) (terms : ℕ) (rest : List Piece) (final : List Op)
    → ended (Ok (reader ops any all wants denied joined outer terms)) (words_piece word more ∷ rest) ≡ Ok final
    → AfterOperand (term_phrase word more) ops any all denied joined outer rest final
term_case word more ops any all false denied joined outer terms rest final h =
    absurd (wrong (terms + 1, condition_faults.Unjoined) final h)
term_case word more ops any all true denied joined outer terms rest final h =
    by (may_be (condition_of_words word more).place (condition_of_words word more).words) h
  where
    excluded : (b : Bool)
        → (if denied then false else is_excluded (joined_outside outer ++ joined) (condition_of_words word more)) ≡ b
        → ended (if b then Err (terms + 1, condition_faults.Excluded)
        else Ok (with_condition (reader ops any all true denied joined outer terms) (condition_of_words word more)))
        rest ≡ Ok final
        → AfterOperand (term_phrase word more) ops any all denied joined outer rest final
    excluded true is k = absurd (wrong (terms + 1, condition_faults.Excluded) final k)
    excluded false is k = record {
      done = ((ops ++ op_term (condition_of_words word more) ∷ []) ++ op_if denied op_not) ++ op_if all op_and;
      joined = if denied then joined else joined ++ (condition_of_words word more) ∷ [];
      terms = terms + 1;
      joins = term_joins denied joined word more;
      free = term_free denied (joined_outside outer ++ joined) word more is;
      goes_on = k;
      values = λ lines.
          operand_values lines (ops ++ op_term (condition_of_words word more) ∷ [])
          (is_met_in (condition_of_words word more) lines) (values_of lines ops) all denied
          (values_append lines [] ops (op_term (condition_of_words word more) ∷ []));
    }

    by : (b : Bool)
        → ended (condition_read (reader ops any all true denied joined outer terms)
        (if b then Ok (condition_of_words word more)
        else Err (reason (condition_of_words word more).place (condition_of_words word more).words))) rest ≡ Ok final
        → AfterOperand (term_phrase word more) ops any all denied joined outer rest final
    by false k =
        absurd (wrong (terms + 1, reason (condition_of_words word more).place (condition_of_words word more).words)
        final k)
    by true k =
        excluded (if denied then false else is_excluded (joined_outside outer ++ joined) (condition_of_words word more))
        refl k

-- a phrase of each rank is read
abbrev Reads : (rank : Rank) → Phrase rank → Type 0
Reads operand p =
    (ops : List Op) (any all wants denied : Bool) (joined : List Asked) (outer : List LevelAsked) (terms : ℕ)
    (rest : List Piece) (final : List Op)
    → ended (Ok (reader ops any all wants denied joined outer terms)) (phrase_pieces p ++ rest) ≡ Ok final
    → AfterOperand p ops any all denied joined outer rest final
Reads conjunction p =
    (ops : List Op) (any wants : Bool) (joined : List Asked) (outer : List LevelAsked) (terms : ℕ) (rest : List Piece)
    (final : List Op)
    → ended (Ok (reader ops any false wants false joined outer terms)) (phrase_pieces p ++ rest) ≡ Ok final
    → AfterConjunction p ops any joined outer rest final
Reads disjunction p =
    (ops : List Op) (wants : Bool) (outer : List LevelAsked) (terms : ℕ) (rest : List Piece) (final : List Op)
    → ended (Ok (reader ops false false wants false [] outer terms)) (phrase_pieces p ++ rest) ≡ Ok final
    → AfterDisjunction p ops outer rest final

not_case : (p : Phrase operand) → Reads operand p → (ops : List Op) (any all wants denied : Bool) (joined : List Asked)
    (outer : List LevelAsked) (terms : ℕ) (rest : List Piece) (final : List Op)
    → ended (Ok (reader ops any all wants denied joined outer terms)) (phrase_pieces (not_phrase p) ++ rest) ≡ Ok final
    → AfterOperand (not_phrase p) ops any all denied joined outer rest final
not_case p inner ops any all false denied joined outer terms rest final h =
    absurd (wrong (terms + 1, condition_faults.Unjoined) final h)
not_case p inner ops any all true denied joined outer terms rest final h =
    let q = inner ops any all true (not denied) joined outer terms rest final h in record {
      done = q.done;
      joined = q.joined;
      terms = q.terms;
      joins = q.joins;
      free = q.free;
      goes_on = q.goes_on;
      values = λ lines. q.values lines ∙ denied_value all denied (phrase_holds lines p) (values_of lines ops);
    }

-- what must hold in a bracket is joined, if it is one conjunction and no `!` is before it
bracket_joins : (p : Phrase disjunction) (any denied : Bool) (before inner : List Asked)
    → (if any then [] else inner) ≡ joined_terms false p
    → (if denied || any then before else before ++ inner) ≡ before ++ joined_terms denied (bracket_phrase p)
bracket_joins p any true before inner is = sym (append-nil before)
bracket_joins p true false before inner is =
    sym (append-nil before) ∙ ap (λ (ts : List Asked). before ++ ts) is
bracket_joins p false false before inner is = ap (λ (ts : List Asked). before ++ ts) is

bracket_free : (p : Phrase disjunction) (denied : Bool) (outside before : List Asked)
    → ExcludesNone false (if denied then [] else outside ++ before) p
    → ExcludesNone denied (outside ++ before) (bracket_phrase p)
bracket_free p true outside before is = is
bracket_free p false outside before is = is

bracket_case : (p : Phrase disjunction) → Reads disjunction p → (ops : List Op) (any all wants denied : Bool)
    (joined : List Asked) (outer : List LevelAsked) (terms : ℕ) (rest : List Piece) (final : List Op)
    → ended (Ok (reader ops any all wants denied joined outer terms)) (phrase_pieces (bracket_phrase p) ++ rest)
    ≡ Ok final
    → AfterOperand (bracket_phrase p) ops any all denied joined outer rest final
bracket_case p inner ops any all false denied joined outer terms rest final h =
    absurd (wrong (terms + 1, condition_faults.Unjoined) final h)
bracket_case p inner ops any all true denied joined outer terms rest final h =
    let level : LevelAsked = record { has_any = any; has_all = all; wants = true; negated = denied; joined = joined } in
    let q = inner ops true (level ∷ outer) terms (mark_piece 41 ∷ rest) final
    (subst (λ (ps : List Piece). ended (Ok (reader ops false false true false [] (level ∷ outer) terms)) ps ≡ Ok final)
    (append_assoc (phrase_pieces p) (mark_piece 41 ∷ []) rest) h) in record {
      done = ((q.done ++ op_if q.any op_or) ++ op_if denied op_not) ++ op_if all op_and;
      joined = if denied || q.any then joined else joined ++ q.joined;
      terms = q.terms;
      joins = bracket_joins p q.any denied joined q.joined q.joins;
      free = bracket_free p denied (joined_outside outer) joined q.free;
      goes_on = q.goes_on;
      values = λ lines.
          operand_values lines (q.done ++ op_if q.any op_or) (phrase_holds lines p) (values_of lines ops) all denied
          (q.values lines);
    }

operand_case : (p : Phrase operand) → Reads operand p → Reads conjunction (one_operand p)
operand_case p inner = λ ops any wants joined outer terms rest final h.
    let q = inner ops any false wants false joined outer terms rest final h in record {
      done = q.done;
      joined = q.joined;
      terms = q.terms;
      joins = q.joins;
      free = q.free;
      goes_on = q.goes_on;
      values = q.values;
    }

and_case : (p : Phrase conjunction) (q : Phrase operand) → Reads conjunction p → Reads operand q
    → Reads conjunction (and_phrase p q)
and_case p q first second = λ ops any wants joined outer terms rest final h.
    let c = first ops any wants joined outer terms (mark_piece 38 ∷ (phrase_pieces q ++ rest)) final
    (subst (λ (ps : List Piece). ended (Ok (reader ops any false wants false joined outer terms)) ps ≡ Ok final)
    (append_assoc (phrase_pieces p) (mark_piece 38 ∷ phrase_pieces q) rest) h) in
    let o = second c.done any true true false c.joined outer c.terms rest final c.goes_on in record {
      done = o.done;
      joined = o.joined;
      terms = o.terms;
      joins = o.joins
          ∙ (ap (λ (ts : List Asked). ts ++ joined_terms false q) c.joins
          ∙ append_assoc joined (joined_terms false p) (joined_terms false q));
      free = (
        c.free,
        subst (λ (ts : List Asked). ExcludesNone false ts q)
            (ap (λ (ts : List Asked). joined_outside outer ++ ts) c.joins
            ∙ sym (append_assoc (joined_outside outer) joined (joined_terms false p)))
            o.free,
      );
      goes_on = o.goes_on;
      values = λ lines.
          o.values lines ∙ ap (λ (bs : List Bool). combined true (phrase_holds lines q ∷ bs)) (c.values lines);
    }

conjunction_case : (p : Phrase conjunction) → Reads conjunction p → Reads disjunction (one_conjunction p)
conjunction_case p inner = λ ops wants outer terms rest final h.
    let q = inner ops false wants [] outer terms rest final h in record {
      done = q.done;
      any = false;
      joined = q.joined;
      terms = q.terms;
      joins = q.joins;
      free = subst (λ (ts : List Asked). ExcludesNone false ts p) (append-nil (joined_outside outer)) q.free;
      goes_on = q.goes_on;
      values = λ lines. ap (λ (os : List Op). values_of lines os) (append-nil q.done) ∙ q.values lines;
    }

or_case : (p : Phrase disjunction) (q : Phrase conjunction) → Reads disjunction p → Reads conjunction q
    → Reads disjunction (or_phrase p q)
or_case p q first second = λ ops wants outer terms rest final h.
    let d = first ops wants outer terms (mark_piece 124 ∷ (phrase_pieces q ++ rest)) final
    (subst (λ (ps : List Piece). ended (Ok (reader ops false false wants false [] outer terms)) ps ≡ Ok final)
    (append_assoc (phrase_pieces p) (mark_piece 124 ∷ phrase_pieces q) rest) h) in
    let c = second (d.done ++ op_if d.any op_or) true true [] outer d.terms rest final d.goes_on in record {
      done = c.done;
      any = true;
      joined = c.joined;
      terms = c.terms;
      joins = refl;
      free = (
        d.free,
        subst (λ (ts : List Asked). ExcludesNone false ts q) (append-nil (joined_outside outer)) c.free,
      );
      goes_on = c.goes_on;
      values = λ lines.
          values_append lines [] c.done (op_or ∷ [])
          ∙ ap (λ (bs : List Bool). combined false bs)
          (c.values lines ∙ ap (λ (bs : List Bool). phrase_holds lines q ∷ bs) (d.values lines));
    }

reads : {rank : Rank} (p : Phrase rank) → Reads rank p
reads (term_phrase word words) = term_case word words
reads (not_phrase p) = not_case p (reads p)
reads (bracket_phrase p) = bracket_case p (reads p)
reads (one_operand p) = operand_case p (reads p)
reads (and_phrase p q) = and_case p q (reads p) (reads q)
reads (one_conjunction p) = conjunction_case p (reads p)
reads (or_phrase p q) = or_case p q (reads p) (reads q)

-- the whole of an expression is read
all_read : (phrase : Phrase disjunction) (expression : List ℕ) (ops : List Op)
    → pieces_in expression ≡ phrase_pieces phrase → operations_in expression ≡ Ok ops
    → AfterDisjunction phrase [] [] [] ops
all_read phrase expression ops written read =
    reads phrase [] true [] 0 [] ops
    (ap (λ (ps : List Piece). ended (Ok nothing_read) ps) (append-nil (phrase_pieces phrase) ∙ sym written)
    ∙ (sym (ap end_read (parts_as_pieces nothing_read (slice_split is_sign expression) (filter is_sign expression)))
    ∙ read))

-- an expression that is read has no term that an earlier one excludes
pub read_without_excluded : (phrase : Phrase disjunction) (expression : List ℕ)
    → IsReadWithoutExcluded phrase expression
read_without_excluded phrase expression written ops read = (all_read phrase expression ops written read).free

-- an expression that is written as a phrase, and that is read, is satisfied by the texts of which the phrase holds
pub read_as_written : (phrase : Phrase disjunction) (expression : List ℕ) → IsReadAsWritten phrase expression
read_as_written phrase expression written ops read text =
    let lines = lines_in text in
    let q = all_read phrase expression ops written read in
    let same : q.done ++ op_if q.any op_or ≡ ops = same_ok _ ops q.goes_on in
    sym (value_of_formula lines ops)
    ∙ (ap (λ (os : List Op). last_value (values_of lines os)) (sym same) ∙ ap last_value (q.values lines))
  where
    same_in : (x y : Ended) (os ops : List Op) → x ≡ Ok os → y ≡ Ok ops → x ≡ y → os ≡ ops
    same_in x y os ops p q is = cc

    same_ok : (os ops : List Op) → (let x : Ended = Ok os in x ≡ Ok ops) → os ≡ ops
    same_ok os ops is = same_in (Ok os) (Ok ops) os ops refl refl is
