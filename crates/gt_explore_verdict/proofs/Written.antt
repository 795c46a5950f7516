-- An expression that is read is written as some phrase.
use Rattle.std.proofs.Common.{◌≡◌, ◌∙◌, ◌==◌, ap, ap₂, refl, subst, sym, append_assoc, ◌+◌, not, Bool, true, false, ℕ}
use Rattle.std.proofs.Common.{zero, suc, List, [], ◌∷◌, ◌++◌, Result, Ok, Err, filter}
use Rattle.std.specs.Prelude.{if◌then◌else◌}
use Rattle.std.proofs.lemmas.Bool.{eqb-true}
use Rattle.std.proofs.lemmas.List.{append-nil}
use Rattle.std.specs.List.{slice_split}
use Rattle.gt_explore_verdict.specs.Expressions.{Asked, condition_of_words, is_excluded, may_be, reason, words_in}
use Rattle.gt_explore_verdict.specs.Formulas.{Op, op_or}
use Rattle.gt_explore_verdict.specs.Grammar.{IsWrittenAsPhrase, Phrase, Piece, and_phrase, bracket_phrase}
use Rattle.gt_explore_verdict.specs.Grammar.{conjunction, disjunction, mark_piece, not_phrase}
use Rattle.gt_explore_verdict.specs.Grammar.{one_conjunction, one_operand, operand, or_phrase, phrase_pieces}
use Rattle.gt_explore_verdict.specs.Grammar.{piece_of_mark, pieces_between}
use Rattle.gt_explore_verdict.specs.Grammar.{pieces_in, pieces_of_words, term_phrase, words_piece}
use Rattle.gt_explore_verdict.specs.Reading.{LevelAsked, ReadSoFar, ReaderAsked, condition_read, end_read, first_mark}
use Rattle.gt_explore_verdict.specs.Reading.{is_sign, joined_outside, later_marks, mark_read, with_bracket}
use Rattle.gt_explore_verdict.specs.Reading.{nothing_read, op_if, term_read, with_condition, with_operand}
use Rattle.gt_explore_verdict.specs.declared.fault.ConditionFault.{ConditionFault}
use Rattle.gt_explore_verdict.specs.declared.fault.ConditionFault.TheVariants as condition_faults
use Rattle.gt_explore_verdict.proofs.Pieces.{ended, parts_as_pieces, piece_read}

-- this many `!`
abbrev nots : ℕ → List Piece
nots zero = []
nots (suc k) = mark_piece 33 ∷ nots k

one_more : (k : ℕ) → nots k ++ mark_piece 33 ∷ [] ≡ nots (suc k)
one_more zero = refl
one_more (suc k) = ap (λ (ps : List Piece). mark_piece 33 ∷ ps) (one_more k)

-- an operand after this many `!`
abbrev after_nots : ℕ → Phrase operand → Phrase operand
after_nots zero p = p
after_nots (suc k) p = not_phrase (after_nots k p)

nots_pieces : (k : ℕ) (p : Phrase operand) → phrase_pieces (after_nots k p) ≡ nots k ++ phrase_pieces p
nots_pieces zero p = refl
nots_pieces (suc k) p = ap (λ (ps : List Piece). mark_piece 33 ∷ ps) (nots_pieces k p)

-- what was read of a disjunction, with the `|` after it, if it was read
abbrev AnyIs : Bool → List Piece → Type 0
AnyIs false ps = ps ≡ []
AnyIs true ps = (d : Phrase disjunction) × (ps ≡ phrase_pieces d ++ mark_piece 124 ∷ [])

-- the same of a conjunction, with the `&` after it
abbrev AllIs : Bool → List Piece → Type 0
AllIs false ps = ps ≡ []
AllIs true ps = (c : Phrase conjunction) × (ps ≡ phrase_pieces c ++ mark_piece 38 ∷ [])

-- one more conjunction makes it a disjunction
with_any : (any : Bool) (ps : List Piece) → AnyIs any ps → (c : Phrase conjunction)
    → (d : Phrase disjunction) × (phrase_pieces d ≡ ps ++ phrase_pieces c)
with_any false ps is c = (one_conjunction c, ap (λ (l : List Piece). l ++ phrase_pieces c) (sym is))
with_any true ps is c = (
  or_phrase is.0 c,
  sym (append_assoc (phrase_pieces is.0) (mark_piece 124 ∷ []) (phrase_pieces c))
      ∙ ap (λ (l : List Piece). l ++ phrase_pieces c) (sym is.1),
)

-- one more operand makes it a conjunction
with_all : (all : Bool) (ps : List Piece) → AllIs all ps → (o : Phrase operand)
    → (c : Phrase conjunction) × (phrase_pieces c ≡ ps ++ phrase_pieces o)
with_all false ps is o = (one_operand o, ap (λ (l : List Piece). l ++ phrase_pieces o) (sym is))
with_all true ps is o = (
  and_phrase is.0 o,
  sym (append_assoc (phrase_pieces is.0) (mark_piece 38 ∷ []) (phrase_pieces o))
      ∙ ap (λ (l : List Piece). l ++ phrase_pieces o) (sym is.1),
)

-- the pieces of a level before an operand
record IsOpen (any all : Bool) (ps : List Piece) : Type 0 where
  choice : List Piece
  before : List Piece
  denials : ℕ
  choice_is : AnyIs any choice
  before_is : AllIs all before
  are : ps ≡ choice ++ (before ++ nots denials)

-- and after one
record IsFull (any : Bool) (ps : List Piece) : Type 0 where
  choice : List Piece
  last : Phrase conjunction
  choice_is : AnyIs any choice
  are : ps ≡ choice ++ phrase_pieces last

abbrev LevelIs : Bool → Bool → Bool → List Piece → Type 0
LevelIs any all true ps = IsOpen any all ps
LevelIs any all false ps = (all ≡ true) × IsFull any ps

-- an operand is read
with_operand_read : (any all : Bool) (ps : List Piece) → IsOpen any all ps → (o : Phrase operand)
    → IsFull any (ps ++ phrase_pieces o)
with_operand_read any all ps w o =
    let q = with_all all w.before w.before_is (after_nots w.denials o) in record {
      choice = w.choice;
      last = q.0;
      choice_is = w.choice_is;
      are = ap (λ (l : List Piece). l ++ phrase_pieces o) w.are
          ∙ (append_assoc w.choice (w.before ++ nots w.denials) (phrase_pieces o)
          ∙ ap (λ (l : List Piece). w.choice ++ l)
          (append_assoc w.before (nots w.denials) (phrase_pieces o)
          ∙ (ap (λ (l : List Piece). w.before ++ l) (sym (nots_pieces w.denials o)) ∙ sym q.1)));
    }

-- a level after an operand is a disjunction
as_disjunction : (any : Bool) (ps : List Piece) → IsFull any ps → (d : Phrase disjunction) × (ps ≡ phrase_pieces d)
as_disjunction any ps f = let q = with_any any f.choice f.choice_is f.last in (q.0, f.are ∙ sym q.1)

-- the pieces of the levels outside of the last open bracket
abbrev OuterIs : List LevelAsked → List Piece → Type 0
OuterIs [] ps = ps ≡ []
OuterIs (level ∷ outer) ps =
    (before : List Piece) × (inner : List Piece) × OuterIs outer before × IsOpen level.has_any level.has_all inner
    × (ps ≡ before ++ (inner ++ mark_piece 40 ∷ []))

-- these pieces were read
record HasRead (r : ReaderAsked) (ps : List Piece) : Type 0 where
  outside : List Piece
  inside : List Piece
  outer : OuterIs r.outer outside
  now : LevelIs r.now.has_any r.now.has_all r.now.wants inside
  are : ps ≡ outside ++ inside

same_in : (x y : ReadSoFar) (r s : ReaderAsked) → x ≡ Ok r → y ≡ Ok s → x ≡ y → r ≡ s
same_in x y r s p q is = cc

same_reader : (r s : ReaderAsked) → (let x : ReadSoFar = Ok r in x ≡ Ok s) → r ≡ s
same_reader r s is = same_in (Ok r) (Ok s) r s refl refl is

wrong_in : (x y : ReadSoFar) (fault : ℕ × ConditionFault) (s : ReaderAsked) → x ≡ Err fault → y ≡ Ok s → x ≡ y → ⊥
wrong_in x y fault s p q is = cc

wrong : (fault : ℕ × ConditionFault) (s : ReaderAsked) → (let x : ReadSoFar = Err fault in x ≡ Ok s) → ⊥
wrong fault s is = wrong_in (Err fault) (Ok s) fault s refl refl is

-- what is read is the reader of these pieces
so : (r s : ReaderAsked) (ps : List Piece) → (let x : ReadSoFar = Ok r in x ≡ Ok s) → HasRead r ps → HasRead s ps
so r s ps is has = subst (λ (x : ReaderAsked). HasRead x ps) (same_reader r s is) has

abbrev reader : List Op → Bool → Bool → Bool → Bool → List Asked → List LevelAsked → ℕ → ReaderAsked
reader ops any all wants denied joined outer terms = record {
  ops = ops;
  now = record { has_any = any; has_all = all; wants = wants; negated = denied; joined = joined };
  outer = outer;
  terms = terms;
}

-- the piece goes to the inside
inside_more : (ps outside inside more : List Piece) → ps ≡ outside ++ inside → ps ++ more ≡ outside ++ (inside ++ more)
inside_more ps outside inside more is = ap (λ (l : List Piece). l ++ more) is ∙ append_assoc outside inside more

step_words : (word : List ℕ) (more : List (List ℕ)) (ops : List Op) (any all wants denied : Bool) (joined : List Asked)
    (outer : List LevelAsked) (terms : ℕ) (ps : List Piece) (s : ReaderAsked)
    → HasRead (reader ops any all wants denied joined outer terms) ps
    → term_read (reader ops any all wants denied joined outer terms) (word ∷ more) ≡ Ok s
    → HasRead s (ps ++ words_piece word more ∷ [])
step_words word more ops any all false denied joined outer terms ps s has h =
    absurd (wrong (terms + 1, condition_faults.Unjoined) s h)
step_words word more ops any all true denied joined outer terms ps s has h =
    by (may_be (condition_of_words word more).place (condition_of_words word more).words) h
  where
    excluded : (b : Bool)
        → (let x : ReadSoFar = if b then Err (terms + 1, condition_faults.Excluded)
        else Ok (with_condition (reader ops any all true denied joined outer terms)
        (condition_of_words word more)) in x ≡ Ok s)
        → HasRead s (ps ++ words_piece word more ∷ [])
    excluded true k = absurd (wrong (terms + 1, condition_faults.Excluded) s k)
    excluded false k =
        so (with_condition (reader ops any all true denied joined outer terms) (condition_of_words word more)) s
        (ps ++ words_piece word more ∷ []) k (record {
          outside = has.outside;
          inside = has.inside ++ words_piece word more ∷ [];
          outer = has.outer;
          now = (refl, with_operand_read any all has.inside has.now (term_phrase word more));
          are = inside_more ps has.outside has.inside (words_piece word more ∷ []) has.are;
        })

    by : (b : Bool)
        → condition_read (reader ops any all true denied joined outer terms)
        (if b then Ok (condition_of_words word more)
        else Err (reason (condition_of_words word more).place (condition_of_words word more).words)) ≡ Ok s
        → HasRead s (ps ++ words_piece word more ∷ [])
    by false k =
        absurd (wrong (terms + 1, reason (condition_of_words word more).place (condition_of_words word more).words) s k)
    by true k =
        excluded (if denied then false else is_excluded (joined_outside outer ++ joined) (condition_of_words word more)) k

-- the steps for the marks

step_not : (ops : List Op) (any all wants denied : Bool) (joined : List Asked) (outer : List LevelAsked) (terms : ℕ)
    (ps : List Piece) (s : ReaderAsked) → HasRead (reader ops any all wants denied joined outer terms) ps
    → mark_read (reader ops any all wants denied joined outer terms) 33 ≡ Ok s → HasRead s (ps ++ mark_piece 33 ∷ [])
step_not ops any all false denied joined outer terms ps s has h =
    absurd (wrong (terms + 1, condition_faults.Unjoined) s h)
step_not ops any all true denied joined outer terms ps s has h =
    let w : IsOpen any all has.inside = has.now in
    so (reader ops any all true (not denied) joined outer terms) s (ps ++ mark_piece 33 ∷ []) h (record {
      outside = has.outside;
      inside = has.inside ++ mark_piece 33 ∷ [];
      outer = has.outer;
      now = record {
        choice = w.choice;
        before = w.before;
        denials = suc w.denials;
        choice_is = w.choice_is;
        before_is = w.before_is;
        are = inside_more has.inside w.choice (w.before ++ nots w.denials) (mark_piece 33 ∷ []) w.are
            ∙ ap (λ (l : List Piece). w.choice ++ l)
            (append_assoc w.before (nots w.denials) (mark_piece 33 ∷ [])
            ∙ ap (λ (l : List Piece). w.before ++ l) (one_more w.denials));
      };
      are = inside_more ps has.outside has.inside (mark_piece 33 ∷ []) has.are;
    })

step_open : (ops : List Op) (any all wants denied : Bool) (joined : List Asked) (outer : List LevelAsked) (terms : ℕ)
    (ps : List Piece) (s : ReaderAsked) → HasRead (reader ops any all wants denied joined outer terms) ps
    → mark_read (reader ops any all wants denied joined outer terms) 40 ≡ Ok s → HasRead s (ps ++ mark_piece 40 ∷ [])
step_open ops any all false denied joined outer terms ps s has h =
    absurd (wrong (terms + 1, condition_faults.Unjoined) s h)
step_open ops any all true denied joined outer terms ps s has h =
    let level : LevelAsked = record { has_any = any; has_all = all; wants = true; negated = denied; joined = joined } in
    so (reader ops false false true false [] (level ∷ outer) terms) s (ps ++ mark_piece 40 ∷ []) h (record {
      outside = has.outside ++ (has.inside ++ mark_piece 40 ∷ []);
      inside = [];
      outer = (has.outside, has.inside, has.outer, has.now, refl);
      now = record { choice = []; before = []; denials = 0; choice_is = refl; before_is = refl; are = refl };
      are = inside_more ps has.outside has.inside (mark_piece 40 ∷ []) has.are
          ∙ sym (append-nil (has.outside ++ (has.inside ++ mark_piece 40 ∷ [])));
    })

step_and : (ops : List Op) (any all wants denied : Bool) (joined : List Asked) (outer : List LevelAsked) (terms : ℕ)
    (ps : List Piece) (s : ReaderAsked) → HasRead (reader ops any all wants denied joined outer terms) ps
    → mark_read (reader ops any all wants denied joined outer terms) 38 ≡ Ok s → HasRead s (ps ++ mark_piece 38 ∷ [])
step_and ops any all true denied joined outer terms ps s has h =
    absurd (wrong (terms + 1, condition_faults.Empty) s h)
step_and ops any all false denied joined outer terms ps s has h =
    let f : IsFull any has.inside = has.now.1 in
    so (reader ops any all true denied joined outer terms) s (ps ++ mark_piece 38 ∷ []) h (record {
      outside = has.outside;
      inside = has.inside ++ mark_piece 38 ∷ [];
      outer = has.outer;
      now = record {
        choice = f.choice;
        before = phrase_pieces f.last ++ mark_piece 38 ∷ [];
        denials = 0;
        choice_is = f.choice_is;
        before_is =
            subst (λ (b : Bool). AllIs b (phrase_pieces f.last ++ mark_piece 38 ∷ [])) (sym has.now.0) (f.last, refl);
        are = inside_more has.inside f.choice (phrase_pieces f.last) (mark_piece 38 ∷ []) f.are
            ∙ ap (λ (l : List Piece). f.choice ++ l) (sym (append-nil (phrase_pieces f.last ++ mark_piece 38 ∷ [])));
      };
      are = inside_more ps has.outside has.inside (mark_piece 38 ∷ []) has.are;
    })

step_or : (ops : List Op) (any all wants denied : Bool) (joined : List Asked) (outer : List LevelAsked) (terms : ℕ)
    (ps : List Piece) (s : ReaderAsked) → HasRead (reader ops any all wants denied joined outer terms) ps
    → mark_read (reader ops any all wants denied joined outer terms) 124 ≡ Ok s → HasRead s (ps ++ mark_piece 124 ∷ [])
step_or ops any all true denied joined outer terms ps s has h =
    absurd (wrong (terms + 1, condition_faults.Empty) s h)
step_or ops any all false denied joined outer terms ps s has h =
    let d = as_disjunction any has.inside has.now.1 in
    so (reader (ops ++ op_if any op_or) true false true false [] outer terms) s (ps ++ mark_piece 124 ∷ []) h (record {
      outside = has.outside;
      inside = has.inside ++ mark_piece 124 ∷ [];
      outer = has.outer;
      now = record {
        choice = has.inside ++ mark_piece 124 ∷ [];
        before = [];
        denials = 0;
        choice_is = (d.0, ap (λ (l : List Piece). l ++ mark_piece 124 ∷ []) d.1);
        before_is = refl;
        are = sym (append-nil (has.inside ++ mark_piece 124 ∷ []));
      };
      are = inside_more ps has.outside has.inside (mark_piece 124 ∷ []) has.are;
    })

regroup : (before inner ps : List Piece) → ((before ++ (inner ++ mark_piece 40 ∷ [])) ++ ps) ++ mark_piece 41 ∷ []
    ≡ before ++ (inner ++ (mark_piece 40 ∷ (ps ++ mark_piece 41 ∷ [])))
regroup before inner ps = simp append_assoc

step_close : (ops : List Op) (any all wants denied : Bool) (joined : List Asked) (outer : List LevelAsked) (terms : ℕ)
    (ps : List Piece) (s : ReaderAsked) → HasRead (reader ops any all wants denied joined outer terms) ps
    → mark_read (reader ops any all wants denied joined outer terms) 41 ≡ Ok s → HasRead s (ps ++ mark_piece 41 ∷ [])
step_close ops any all true denied joined outer terms ps s has h =
    absurd (wrong (terms + 1, condition_faults.Empty) s h)
step_close ops any all false denied joined [] terms ps s has h =
    absurd (wrong (terms, condition_faults.Unopened) s h)
step_close ops any all false denied joined (level ∷ outer) terms ps s has h =
    let d = as_disjunction any has.inside has.now.1 in
    let o = has.outer in
    let inner : LevelAsked = record {
      has_any = any;
      has_all = all;
      wants = false;
      negated = denied;
      joined = joined;
    } in
    so (with_operand (record {
      ops = ops ++ op_if any op_or;
      now = with_bracket level inner;
      outer = outer;
      terms = terms;
    })) s (ps ++ mark_piece 41 ∷ []) h (record {
      outside = o.0;
      inside = o.1 ++ phrase_pieces (bracket_phrase d.0);
      outer = o.2;
      now = (refl, with_operand_read level.has_any level.has_all o.1 o.3 (bracket_phrase d.0));
      are = ap (λ (l : List Piece). l ++ mark_piece 41 ∷ [])
          (has.are ∙ ap₂ (λ (x y : List Piece). x ++ y) o.4 d.1) ∙ regroup o.0 o.1 (phrase_pieces d.0);
    })

-- a fact of each mark holds of a byte that is one
by_sign : (P : ℕ → Type 0) → P 33 → P 38 → P 40 → P 41 → P 124 → (m : ℕ) → is_sign m ≡ true → P m
by_sign P n a o c e m is = at_33 (m == 33) refl
  where
    clash : false ≡ true → ⊥
    clash f = cc

    at_124 : (m == 33) ≡ false → (m == 38) ≡ false → (m == 40) ≡ false → (m == 41) ≡ false → (b : Bool)
        → (m == 124) ≡ b → P m
    at_124 p q r s true t = subst P (sym (eqb-true m 124 t)) e
    at_124 p q r s false t = absurd (clash (sym (rw p (rw q (rw r (rw s (rw t refl))))) ∙ is))

    at_41 : (m == 33) ≡ false → (m == 38) ≡ false → (m == 40) ≡ false → (b : Bool) → (m == 41) ≡ b → P m
    at_41 p q r true t = subst P (sym (eqb-true m 41 t)) c
    at_41 p q r false t = at_124 p q r t (m == 124) refl

    at_40 : (m == 33) ≡ false → (m == 38) ≡ false → (b : Bool) → (m == 40) ≡ b → P m
    at_40 p q true t = subst P (sym (eqb-true m 40 t)) o
    at_40 p q false t = at_41 p q t (m == 41) refl

    at_38 : (m == 33) ≡ false → (b : Bool) → (m == 38) ≡ b → P m
    at_38 p true t = subst P (sym (eqb-true m 38 t)) a
    at_38 p false t = at_40 p t (m == 40) refl

    at_33 : (b : Bool) → (m == 33) ≡ b → P m
    at_33 true t = subst P (sym (eqb-true m 33 t)) n
    at_33 false t = at_38 t (m == 38) refl

-- a piece is words or a mark
abbrev IsPiece : Piece → Type 0
IsPiece (words_piece word more) = Unit {0}
IsPiece (mark_piece mark) = is_sign mark ≡ true

step : (r : ReaderAsked) (p : Piece) (ps : List Piece) (s : ReaderAsked) → IsPiece p → HasRead r ps
    → piece_read r p ≡ Ok s → HasRead s (ps ++ p ∷ [])
step r (words_piece word more) ps s one has h =
    step_words word more r.ops r.now.has_any r.now.has_all r.now.wants r.now.negated r.now.joined r.outer r.terms ps s
    has h
step r (mark_piece mark) ps s one has h =
    by_sign (λ (m : ℕ). mark_read r m ≡ Ok s → HasRead s (ps ++ mark_piece m ∷ []))
    (step_not r.ops r.now.has_any r.now.has_all r.now.wants r.now.negated r.now.joined r.outer r.terms ps s has)
    (step_and r.ops r.now.has_any r.now.has_all r.now.wants r.now.negated r.now.joined r.outer r.terms ps s has)
    (step_open r.ops r.now.has_any r.now.has_all r.now.wants r.now.negated r.now.joined r.outer r.terms ps s has)
    (step_close r.ops r.now.has_any r.now.has_all r.now.wants r.now.negated r.now.joined r.outer r.terms ps s has)
    (step_or r.ops r.now.has_any r.now.has_all r.now.wants r.now.negated r.now.joined r.outer r.terms ps s has)
    mark one h

abbrev ArePieces : List Piece → Type 0
ArePieces [] = Unit {0}
ArePieces (p ∷ ps) = IsPiece p × ArePieces ps

-- operations, or a fault
abbrev Ended : Type 0
Ended = Result (List Op) (ℕ × ConditionFault)

wrong_end_in : (x y : Ended) (fault : ℕ × ConditionFault) (ops : List Op) → x ≡ Err fault → y ≡ Ok ops → x ≡ y → ⊥
wrong_end_in x y fault ops p q is = cc

wrong_end : (fault : ℕ × ConditionFault) (ops : List Op) → (let x : Ended = Err fault in x ≡ Ok ops) → ⊥
wrong_end fault ops is = wrong_end_in (Err fault) (Ok ops) fault ops refl refl is

-- all pieces are read
at_end : (ops : List Op) (any all wants denied : Bool) (joined : List Asked) (outer : List LevelAsked) (terms : ℕ)
    (ps : List Piece) (final : List Op) → HasRead (reader ops any all wants denied joined outer terms) ps
    → end_read (Ok (reader ops any all wants denied joined outer terms)) ≡ Ok final
    → (d : Phrase disjunction) × (ps ≡ phrase_pieces d)
at_end ops any all true denied joined outer terms ps final has h =
    absurd (wrong_end (terms + 1, condition_faults.Empty) final h)
at_end ops any all false denied joined (level ∷ outer) terms ps final has h =
    absurd (wrong_end (terms, condition_faults.Unclosed) final h)
at_end ops any all false denied joined [] terms ps final has h =
    let d = as_disjunction any has.inside has.now.1 in
    (d.0, has.are ∙ (ap (λ (l : List Piece). l ++ has.inside) has.outer ∙ d.1))

written_from : (r : ReaderAsked) (before ps : List Piece) (final : List Op) → ArePieces ps → HasRead r before
    → ended (Ok r) ps ≡ Ok final → (d : Phrase disjunction) × (before ++ ps ≡ phrase_pieces d)
written_from r before [] final are has h =
    let d = at_end r.ops r.now.has_any r.now.has_all r.now.wants r.now.negated r.now.joined r.outer r.terms before final
    has h in
    (d.0, append-nil before ∙ d.1)
written_from r before (p ∷ ps) final are has h =
    by (λ s k e. written_from s (before ++ p ∷ []) ps final are.1 (step r p before s are.0 has k) e) (piece_read r p)
    refl h
  where
    by : ((s : ReaderAsked) → piece_read r p ≡ Ok s → ended (Ok s) ps ≡ Ok final
        → (d : Phrase disjunction) × ((before ++ p ∷ []) ++ ps ≡ phrase_pieces d))
        → (x : ReadSoFar) → piece_read r p ≡ x → ended x ps ≡ Ok final
        → (d : Phrase disjunction) × (before ++ p ∷ ps ≡ phrase_pieces d)
    by rest (Err fault) is e = absurd (wrong_end fault final e)
    by rest (Ok s) is e = let q = rest s is e in (q.0, sym (append_assoc before (p ∷ []) ps) ∙ q.1)

-- the marks of a text are marks
abbrev AreSigns : List ℕ → Type 0
AreSigns [] = Unit {0}
AreSigns (m ∷ ms) = (is_sign m ≡ true) × AreSigns ms

signs_filter : (text : List ℕ) → AreSigns (filter is_sign text)
signs_filter [] = tt
signs_filter (b ∷ text) = by (signs_filter text) (is_sign b) refl
  where
    by : AreSigns (filter is_sign text) → (c : Bool) → is_sign b ≡ c
        → AreSigns (if c then b ∷ filter is_sign text else filter is_sign text)
    by rest true is = (is, rest)
    by rest false is = rest

pieces_between_are : (segments : List (List ℕ)) (marks : List ℕ) → AreSigns marks
    → ArePieces (pieces_between segments marks)
pieces_between_are [] marks signs = tt
pieces_between_are (segment ∷ segments) marks signs =
    of_words (piece_of_mark (first_mark marks) ++ pieces_between segments (later_marks marks)) (words_in segment)
    (of_marks (λ ms are. pieces_between_are segments ms are) marks signs)
  where
    of_words : (rest : List Piece) (words : List (List ℕ)) → ArePieces rest → ArePieces (pieces_of_words words ++ rest)
    of_words rest [] are = are
    of_words rest (word ∷ words) are = (tt, are)

    of_marks : ((ms : List ℕ) → AreSigns ms → ArePieces (pieces_between segments ms)) → (ms : List ℕ) → AreSigns ms
        → ArePieces (piece_of_mark (first_mark ms) ++ pieces_between segments (later_marks ms))
    of_marks rest [] are = rest [] tt
    of_marks rest (m ∷ ms) are = (are.0, rest ms are.1)

-- an expression that is read is written as a phrase
pub written : (expression : List ℕ) → IsWrittenAsPhrase expression
written expression ops read =
    written_from nothing_read [] (pieces_in expression) ops
    (pieces_between_are (slice_split is_sign expression) (filter is_sign expression) (signs_filter expression))
    (record {
      outside = [];
      inside = [];
      outer = refl;
      now = record { choice = []; before = []; denials = 0; choice_is = refl; before_is = refl; are = refl };
      are = refl;
    })
    (sym (ap end_read (parts_as_pieces nothing_read (slice_split is_sign expression) (filter is_sign expression)))
    ∙ read)
