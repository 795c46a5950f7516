-- Statements with their lines: what is read is what is spelled.
use Rattle.std.proofs.Common.{◌≡◌, ◌≤◌, ℕ, List, [], ◌∷◌, ◌++◌, length, Result, Ok, Err, None, Some, refl, sym, ap}
use Rattle.std.proofs.Common.{◌∙◌, subst, append_assoc}
use Rattle.std.proofs.lemmas.List.{append-nil}
use Rattle.gt_policy.specs.declared.fault.ReadError.{ReadError}
use Rattle.gt_policy.specs.declared.fault.ReadError.TheVariants as read_errors
use Rattle.gt_policy.specs.declared.fault.TokenFault.{TokenFault}
use Rattle.gt_policy_text.specs.declared.lexer.Token.{Token}
use Rattle.gt_policy_text.specs.declared.lexer.Token.TheVariants.{Name, TypeWord, AttributeWord, TypeattributeWord}
use Rattle.gt_policy_text.specs.declared.lexer.Token.TheVariants.{AllowWord, Semicolon, End}
use Rattle.gt_policy.specs.declared.lined.LinedStatement.{LinedStatement}
use Rattle.gt_policy.specs.declared.statements.Statement.{Statement}
use Rattle.gt_policy.specs.Grammar.{Lexemes, GivesNext, statement}
use Rattle.gt_policy_text.specs.Lexing.{lexemes_of}
use Rattle.gt_policy.specs.Lined.{SpellsLined, lined_end, lined_more, statements_in, HeedsLined, LinedIs}
use Rattle.gt_policy.specs.Names.{Names, no_names}
use Rattle.gt_policy.specs.Spelling.{SpellsStatement, type_of, attribute_of, attributes_of, allow_of, SpellsText}
use Rattle.gt_policy.specs.Spelling.{text_end, statement_of}
use Rattle.gt_policy.specs.Whole.{GivesStatements, ended, more, wrong, faulty}
use Rattle.gt_policy.proofs.TextLemmas.{statement_read, end_read}
use Rattle.gt_policy.proofs.LawLemmas.{follows_written}

-- a statement begins with a token that is not the end of the text
first_token : (s : Statement) (ls rest : Lexemes) → SpellsStatement s ls rest → (t : Token) × (n : ℕ) × (after : Lexemes) × (ls ≡ (t, n) ∷ after) × (t ≡ End → ⊥)
first_token s ls rest (type_of w ms n k behind _ x h) = (TypeWord, n, (Name w, k) ∷ behind, refl, λ e. cc)
first_token s ls rest (attribute_of w n k j _) = (AttributeWord, n, (Name w, k) ∷ (Semicolon, j) ∷ rest, refl, λ e. cc)
first_token s ls rest (attributes_of m ms n behind _ h) = (TypeattributeWord, n, (Name m.name, m.line) ∷ behind, refl, λ e. cc)
first_token s ls rest (allow_of a n k j source target classes perms _ h1 h2 h3 h4) = (AllowWord, n, source, refl, λ e. cc)

-- the line of the tokens' first one, if they do not end
abbrev pub IsLineOf : ℕ → Lexemes → Type 0
IsLineOf line ls = (t : Token) (n : ℕ) (after : Lexemes) → ls ≡ (t, n) ∷ after → (t ≡ End → ⊥) → line ≡ n

-- one more statement in front
spelled_more : (x : LinedStatement) (ys : List LinedStatement) (ls rest : Lexemes) → IsLineOf x.line ls → SpellsStatement x.statement ls rest → SpellsLined ys rest → SpellsLined (x ∷ ys) ls
spelled_more x ys ls rest on h others =
    let f = first_token x.statement ls rest h in
    let front : ls ≡ (f.0, x.line) ∷ f.2 = f.3 ∙ ap (λ (n : ℕ). (f.0, n) ∷ f.2) (sym (on f.0 f.1 f.2 f.3 f.4)) in
    subst (λ (l : Lexemes). SpellsLined (x ∷ ys) l) (sym front)
    (lined_more x ys f.0 f.2 rest (subst (λ (l : Lexemes). SpellsStatement x.statement l rest) front h) others)

-- what is still to come makes the whole
abbrev pub Continues : List LinedStatement → Lexemes → Lexemes → Type 0
Continues xs ls all = (ys : List LinedStatement) → SpellsLined ys ls → SpellsLined (xs ++ ys) all

pub continues_more : (xs pushed : List LinedStatement) (x : LinedStatement) (seen next : Names) (ls rest all : Lexemes) → IsLineOf x.line ls
    → statement seen ls ≡ Ok (Some (x.statement, next), rest) → pushed ≡ xs ++ x ∷ [] → Continues xs ls all → Continues pushed rest all
continues_more xs pushed x seen next ls rest all on taken is so_far = λ ys others.
    let whole = so_far (x ∷ ys) (spelled_more x ys ls rest on (statement_read seen ls x.statement next rest taken).0 others) in
    let same : xs ++ x ∷ ys ≡ pushed ++ ys = sym (ap (λ (zs : List LinedStatement). zs ++ ys) is ∙ append_assoc xs (x ∷ []) ys) in
    subst (λ (zs : List LinedStatement). SpellsLined zs all) same whole

over : (ss : List Statement) (ls : Lexemes) → SpellsText ss ls → ss ≡ [] → SpellsLined [] ls
over ss ls (text_end n behind) e = lined_end n behind
over ss ls (statement_of s after _ rest h t) e = absurd (cc)

pub continues_end : (xs : List LinedStatement) (seen : Names) (ls rest all : Lexemes) → statement seen ls ≡ Ok (None, rest) → Continues xs ls all → SpellsLined xs all
continues_end xs seen ls rest all e so_far =
    subst (λ (zs : List LinedStatement). SpellsLined zs all) (append-nil xs) (so_far [] (over [] ls (end_read seen ls rest e) refl))

-- the statements that follow, and their lines
abbrev pub Goes : Names → List Statement → Lexemes → Names → Lexemes → Type 0
Goes seen ss ls start all = (said : Result (Names × List Statement) TokenFault) → GivesStatements seen ss ls said → GivesStatements start [] all said

statements_push : (xs : List LinedStatement) (x : LinedStatement) → statements_in (xs ++ x ∷ []) ≡ statements_in xs ++ x.statement ∷ []
statements_push [] x = refl
statements_push (y ∷ xs) x = ap (λ (ss : List Statement). y.statement ∷ ss) (statements_push xs x)

pub goes_more : (xs pushed : List LinedStatement) (x : LinedStatement) (start seen next : Names) (ls rest all : Lexemes) → statement seen ls ≡ Ok (Some (x.statement, next), rest)
    → pushed ≡ xs ++ x ∷ [] → Goes seen (statements_in xs) ls start all → Goes next (statements_in pushed) rest start all
goes_more xs pushed x start seen next ls rest all taken is so_far = λ said h.
    so_far said (more seen next (statements_in xs) x.statement ls rest said taken
    (subst (λ (ss : List Statement). GivesStatements next ss rest said) (ap statements_in is ∙ statements_push xs x) h))

pub heeds_lined_err : (e : ReadError) (start seen next after : Names) (ss : List Statement) (all ls rest : Lexemes) → Goes seen ss ls start all → GivesNext (Err e) seen next rest (statement seen ls) → HeedsLined (Err e) after start all
heeds_lined_err read_errors.Memory start seen next after ss all ls rest so_far h = tt
heeds_lined_err (read_errors.Fault f) start seen next after ss all ls rest so_far h = so_far (Err f) (wrong seen ss ls f h)

pub lined_ok : (xs : List LinedStatement) (start seen next : Names) (all ls rest : Lexemes) → Goes seen (statements_in xs) ls start all → Continues xs ls all
    → GivesNext (Ok None) seen next rest (statement seen ls) → GivesStatements start [] all (Ok (next, statements_in xs)) × SpellsLined xs all
lined_ok xs start seen next all ls rest so_far lines h = (
  subst (λ (n : Names). GivesStatements start [] all (Ok (n, statements_in xs))) (sym h.1) (so_far (Ok (seen, statements_in xs)) (ended seen (statements_in xs) ls [] h.0)),
  continues_end xs seen ls [] all h.0 lines,
)

started : (text : List ℕ) (names : Names) (ls : Lexemes) (said : Result (Names × List Statement) TokenFault) → names ≡ no_names → ls ≡ lexemes_of text → GivesStatements names [] ls said → GivesStatements no_names [] (lexemes_of text) said
started text names ls said en el h =
    subst (λ (l : Lexemes). GivesStatements no_names [] l said) el (subst (λ (n : Names). GivesStatements n [] ls said) en h)

pub lined_is : (r : Result (List LinedStatement) ReadError) (text : List ℕ) (names seen : Names) (ls : Lexemes) → length text ≤ 1048576 → names ≡ no_names → ls ≡ lexemes_of text → HeedsLined r seen names ls → LinedIs r text
lined_is (Ok xs) text names seen ls few en el h = record {
  written = (follows_written text seen (statements_in xs) few (started text names ls (Ok (seen, statements_in xs)) en el h.0)).0;
  lines = subst (λ (l : Lexemes). SpellsLined xs l) el h.1;
}
lined_is (Err read_errors.Memory) text names seen ls few en el h = tt
lined_is (Err (read_errors.Fault f)) text names seen ls few en el h = faulty text f few (started text names ls (Err f) en el h)
