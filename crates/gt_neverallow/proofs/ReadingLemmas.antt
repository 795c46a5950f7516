-- Steps of the parser of neverallow statements.
use Rattle.std.proofs.Common.{◌≡◌, ℕ, Bool, List, [], ◌∷◌, ◌++◌, None, Some, Result, Ok, Err, refl, subst}
use Rattle.gt_policy.specs.Grammar.{Lexemes, LexerState, at, set_of}
use Rattle.gt_policy_text.specs.Lexing.{behind}
use Rattle.gt_policy_text.specs.declared.lexer.Token.{Token}
use Rattle.gt_policy_text.specs.declared.lexer.Token.TheVariants.{End, Star, Tilde}
use Rattle.gt_policy.specs.declared.fault.TokenFault.{TokenFault}
use Rattle.gt_neverallow.specs.Reading.{GivesNeverallows, Reads, ReadsNext, ReadsTo, as_choice, ended, fault_kind, more, next_statement}
use Rattle.gt_neverallow.specs.Reading.{types_of, wrong}
use Rattle.gt_neverallow.specs.declared.statement.TypeChoice.TheVariants.{Of}
use Rattle.gt_neverallow.specs.declared.fault.ParseError.{ParseError}
use Rattle.gt_neverallow.specs.declared.fault.ParseError.TheVariants as parse_errors
use Rattle.gt_neverallow.specs.declared.statement.NeverStatement.{NeverStatement}

-- at the exit of a `?`: the error is that of the call, and its fault is a fault of the whole
pub reads_err : {X Y : Type 0} (e : ParseError) (r r' : Lexemes) (part : LexerState X) (whole : LexerState Y) → Reads (Err e) r part → ((f : TokenFault) → part ≡ Err f → whole ≡ Err f) → Reads (Err e) r' whole
reads_err parse_errors.Memory r r' part whole h step = tt
reads_err (parse_errors.Fault line kind) r r' part whole h step = step (at line (fault_kind kind)) h

-- whatever follows these statements follows none
abbrev pub Goes : List NeverStatement → Lexemes → Lexemes → Type 0
Goes read ls all = (said : Result (List NeverStatement) TokenFault) → GivesNeverallows read ls said → GivesNeverallows [] all said

pub to_err : (e : ParseError) (read : List NeverStatement) (all ls rest : Lexemes) → Goes read ls all → ReadsNext (Err e) rest (next_statement ls) → ReadsTo (Err e) all
to_err parse_errors.Memory read all ls rest goes h = tt
to_err (parse_errors.Fault line kind) read all ls rest goes h = goes (Err (at line (fault_kind kind))) (wrong read ls (at line (fault_kind kind)) h)

pub goes_more : (read pushed : List NeverStatement) (x : NeverStatement) (all ls rest : Lexemes) → Goes read ls all → next_statement ls ≡ Ok (Some x, rest) → pushed ≡ read ++ x ∷ [] → Goes pushed rest all
goes_more read pushed x all ls rest goes taken push = λ said h.
    goes said (more read x ls rest said taken (subst (λ (ns : List NeverStatement). GivesNeverallows ns rest said) push h))

pub to_end : (read : List NeverStatement) (all ls : Lexemes) → Goes read ls all → next_statement ls ≡ Ok (None, []) → GivesNeverallows [] all (Ok read)
to_end read all ls goes over = goes (Ok read) (ended read ls [] over)

-- ---- sets and types

-- after the end of a text nothing follows, and a set can't begin there
pub set_behind : (target : Bool) (r : Token × ℕ) (ls : Lexemes) → set_of target (r ∷ behind r.0 ls) ≡ set_of target (r ∷ ls)
unfolding set_of
set_behind target (End, n) ls = refl
set_behind target (token, n) ls = refl

-- what is neither `*` nor `~` begins a set
pub types_from : (target : Bool) (r : Token × ℕ) (ls : Lexemes) → (r.0 ≡ Tilde → ⊥) → (r.0 ≡ Star → ⊥) → types_of target (r ∷ behind r.0 ls) ≡ as_choice Of (set_of target (r ∷ ls))
unfolding types_of set_of
types_from target (Tilde, n) ls tilde star = absurd (tilde refl)
types_from target (Star, n) ls tilde star = absurd (star refl)
types_from target (End, n) ls tilde star = refl
types_from target (token, n) ls tilde star = refl
