-- The first name that a policy does not declare.
use Rattle.std.proofs.Common.{◌≡◌, ℕ, ◌<◌, ◌≤◌, List, [], ◌∷◌, ◌++◌, length, Option, None, Some, Result, Ok, Err, sym, ap, subst, ◌∙◌}
use Rattle.std.proofs.Common.{◌+◌, IfErr, IfOk, drop, get_or}
use Rattle.std.proofs.lemmas.List.{at_drop_more}
use Rattle.std.proofs.lemmas.List.Folds.{find-append}
use Rattle.std.specs.Option.{option_or}
use Rattle.std.specs.Prelude.{not}
use Rattle.std.specs.List.{flat_map}
use Rattle.gt_policy.specs.Grammar.{at}
use Rattle.gt_policy.specs.Shown.{fault_shown}
use Rattle.gt_policy.specs.declared.fault.TokenFault.{TokenFault}
use Rattle.gt_policy.specs.declared.fault.TokenFaultKind.TheVariants.{Limit}
use Rattle.gt_policy.specs.declared.lined.LinedStatement.{LinedStatement}
use Rattle.gt_policy.specs.declared.parse.PolicyFault.{PolicyFault}
use Rattle.gt_policy.specs.declared.statements.Mention.{Mention}
use Rattle.gt_policy_text.specs.Lexing.{lexemes_of}
use Rattle.gt_neverallow.specs.Naming.{ReadsAsNever, is_declared_in, named_with, mentions_of, too_long, undeclared, read, faulty}
use Rattle.gt_neverallow.specs.Reading.{GivesNeverallows, ReadsTo, parse_fault_in, fault_kind}
use Rattle.gt_neverallow.specs.declared.fault.ParseError.{ParseError}
use Rattle.gt_neverallow.specs.declared.fault.ParseError.TheVariants as parse_errors
use Rattle.gt_neverallow.specs.declared.statement.NeverStatement.{NeverStatement}

-- the first name of two lists is that of the first list, or else of the second
pub found_first : (xs : List LinedStatement) (one rest : List Mention) (m : Mention) → Some m ≡ undeclared xs one → undeclared xs (one ++ rest) ≡ Some m
found_first xs one rest m is = find-append (λ n. not (is_declared_in xs n.name)) one rest ∙ ap (λ (o : Option Mention). option_or o (undeclared xs rest)) (sym is)

pub found_later : (xs : List LinedStatement) (one rest : List Mention) → None ≡ undeclared xs one → undeclared xs (one ++ rest) ≡ undeclared xs rest
found_later xs one rest is = find-append (λ n. not (is_declared_in xs n.name)) one rest ∙ ap (λ (o : Option Mention). option_or o (undeclared xs rest)) (sym is)

-- one statement more
pub first_at : (xs : List LinedStatement) (ns : List NeverStatement) (i : ℕ) (n : NeverStatement) → i < length ns → n ≡ get_or ns i n
    → undeclared xs (flat_map mentions_of (drop i ns)) ≡ undeclared xs (mentions_of n ++ flat_map mentions_of (drop (i + 1) ns))
first_at xs ns i n within is =
    at_drop_more (λ (l : List NeverStatement). undeclared xs (flat_map mentions_of l)) ns i n within
    ∙ ap (λ (x : NeverStatement). undeclared xs (flat_map mentions_of (x ∷ drop (i + 1) ns))) (sym is)

-- what was read of a text
pub says_read : (xs : List LinedStatement) (text bytes : List ℕ) (ns : List NeverStatement) (said : Result (List NeverStatement) TokenFault) → bytes ≡ text → length text ≤ 1048576 → GivesNeverallows [] (lexemes_of bytes) (Ok ns)
    → named_with ns (undeclared xs (flat_map mentions_of ns)) ≡ said → ReadsAsNever xs text said
says_read xs text bytes ns said same few follows is =
    let follows_text : GivesNeverallows [] (lexemes_of text) (Ok ns) = subst (λ (l : List ℕ). GivesNeverallows [] (lexemes_of l) (Ok ns)) same follows in
    subst (λ (r : Result (List NeverStatement) TokenFault). ReadsAsNever xs text r) is (read text ns few follows_text)

-- a fault of the text
of_error : (xs : List LinedStatement) (text : List ℕ) (e : ParseError) (f : TokenFault) → length text ≤ 1048576 → ReadsTo (Err e) (lexemes_of text) → parse_fault_in e ≡ Some f → ReadsAsNever xs text (Err f)
of_error xs text parse_errors.Memory f few reads is = absurd (cc is)
of_error xs text (parse_errors.Fault line kind) f few reads is =
    let same : at line (fault_kind kind) ≡ f = cc is in
    subst (λ (g : TokenFault). ReadsAsNever xs text (Err g)) same (faulty text (at line (fault_kind kind)) few reads)

pub says_faulty : (xs : List LinedStatement) (text bytes : List ℕ) (e : ParseError) (f : TokenFault) → bytes ≡ text → length text ≤ 1048576 → ReadsTo (Err e) (lexemes_of bytes) → parse_fault_in e ≡ Some f → ReadsAsNever xs text (Err f)
says_faulty xs text bytes e f same few reads is = of_error xs text e f few (subst (λ (l : List ℕ). ReadsTo (Err e) (lexemes_of l)) same reads) is

pub says_long : (xs : List LinedStatement) (text : List ℕ) (f : TokenFault) → 1048576 < length text → Some (at 1 Limit) ≡ Some f → ReadsAsNever xs text (Err f)
says_long xs text f long is =
    let same : at 1 Limit ≡ f = cc is in
    subst (λ (g : TokenFault). ReadsAsNever xs text (Err g)) same (too_long text long)

-- what was made of the statements says what the text does
module _ (xs : List LinedStatement) (text : List ℕ) (named : Result (List NeverStatement) TokenFault) (says : (said : Result (List NeverStatement) TokenFault) → named ≡ said → ReadsAsNever xs text said) where
  pub named_ok : (r : Result (List NeverStatement) PolicyFault) → IfOk r (λ ns. named ≡ Ok ns) → IfOk r (λ ns. ReadsAsNever xs text (Ok ns))
  named_ok (Ok ns) is = says (Ok ns) is
  named_ok (Err e) is = tt

  pub named_err : (r : Result (List NeverStatement) PolicyFault) → IfErr r (λ e. (f : TokenFault) → fault_shown e ≡ Some f → named ≡ Err f) → IfErr r (λ e. (f : TokenFault) → fault_shown e ≡ Some f → ReadsAsNever xs text (Err f))
  named_err (Ok ns) is = tt
  named_err (Err e) is = λ f shown. says (Err f) (is f shown)
