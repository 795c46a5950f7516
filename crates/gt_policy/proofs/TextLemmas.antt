-- Statements and whole texts: what is read is what is spelled.
use Rattle.std.proofs.Common.{◌≡◌, ◌<◌, ◌≤◌, ℕ, zero, suc, Bool, true, false, List, [], ◌∷◌, ◌++◌, length, Option, Some}
use Rattle.std.proofs.Common.{None, Result, Ok, Err, refl, sym, ap, ◌∙◌, subst, arith, append_assoc}
use Rattle.std.specs.Prelude.{if◌then◌else◌}
use Rattle.std.proofs.lemmas.Option.{same_Some}
use Rattle.gt_policy_text.specs.declared.lexer.Token.TheVariants.{Name, TypeWord, AttributeWord, TypeattributeWord}
use Rattle.gt_policy_text.specs.declared.lexer.Token.TheVariants.{AllowWord, Colon, Semicolon, End}
use Rattle.gt_policy.specs.declared.fault.TokenFault.{TokenFault}
use Rattle.gt_policy.specs.declared.fault.TokenFaultKind.TheVariants.{Outside}
use Rattle.gt_policy.specs.declared.statements.Mention.{Mention}
use Rattle.gt_policy.specs.declared.statements.SetElement.{SetElement}
use Rattle.gt_policy.specs.declared.statements.Permissions.{Permissions}
use Rattle.gt_policy.specs.declared.statements.Allowance.{Allowance}
use Rattle.gt_policy.specs.declared.statements.Statement.{Statement}
use Rattle.gt_policy.specs.declared.statements.Statement.TheVariants.{DeclareType, DeclareAttribute, GiveAttributes}
use Rattle.gt_policy.specs.declared.statements.Statement.TheVariants.{Allow}
use Rattle.gt_policy.specs.Names.{Names, with_declared_type, with_attribute, with_allow}
use Rattle.gt_policy.specs.Grammar.{Lexemes, LexerState, ◌>>=◌, at, excluded, type_name, attribute_name, attributes}
use Rattle.gt_policy.specs.Grammar.{set_of, colon, semicolon, classes_of, is_grant_alone, perms_of, allow_statement}
use Rattle.gt_policy.specs.Grammar.{typeattribute_statement, type_statement, attribute_statement, beside, next_one}
use Rattle.gt_policy.specs.Grammar.{statement}
use Rattle.gt_policy.specs.Spelling.{SpellsSet, SpellsPerms, SpellsStatement, type_of, attribute_of, attributes_of}
use Rattle.gt_policy.specs.Spelling.{allow_of, SpellsText, text_end, statement_of}
use Rattle.gt_policy.specs.Whole.{GivesStatements, ended, more, wrong}
use Rattle.gt_policy.proofs.SpellingLemmas.{ok_of, ok_part, names_read, names_spelled, names_shorter, set_read}
use Rattle.gt_policy.proofs.SpellingLemmas.{set_spelled, set_shorter, classes_read, classes_spelled, list_shorter}
use Rattle.gt_policy.proofs.SpellingLemmas.{perms_read, perms_spelled, perms_shorter}
use Rattle.std.proofs.lemmas.List.{append-nil}

pub bind_ok : {A B : Type 0} (m : Result A TokenFault) (f : A → Result B TokenFault) (y : B) → (m >>= f) ≡ ok_of y → (x : A) × (m ≡ ok_of x) × (f x ≡ ok_of y)
bind_ok (Ok x) f y e = (x, refl, e)
bind_ok (Err g) f y e = absurd (cc)

-- names and marks
type_name_read : (t : Bool) (ls : Lexemes) (r : Mention × Lexemes) → type_name t ls ≡ Ok r → (ls ≡ (Name r.0.name, r.0.line) ∷ r.1) × (excluded t r.0.name ≡ false)
unfolding type_name
type_name_read t [] r e = absurd (cc)
type_name_read t ((Name w, n) ∷ ls) r e = go (excluded t w) refl e
  where
    go : (v : Bool) → excluded t w ≡ v → (if v then Err (at n (Outside w)) else ok_of (record { name = w; line = n }, ls)) ≡ Ok r → ((Name w, n) ∷ ls ≡ (Name r.0.name, r.0.line) ∷ r.1) × (excluded t r.0.name ≡ false)
    go true x h = absurd (cc)
    go false x h =
        let m : Mention × Lexemes = (record { name = w; line = n }, ls) in
        subst (λ (q : Mention × Lexemes). ((Name w, n) ∷ ls ≡ (Name q.0.name, q.0.line) ∷ q.1) × (excluded t q.0.name ≡ false)) (ok_part m r h) (refl, x)
type_name_read t ((token, n) ∷ ls) r e = absurd (cc)

attribute_name_read : (ls : Lexemes) (r : Mention × Lexemes) → attribute_name false ls ≡ Ok r → ls ≡ (Name r.0.name, r.0.line) ∷ r.1
unfolding attribute_name
attribute_name_read [] r e = absurd (cc)
attribute_name_read ((Name w, n) ∷ ls) r e =
    let m : Mention × Lexemes = (record { name = w; line = n }, ls) in
    subst (λ (q : Mention × Lexemes). (Name w, n) ∷ ls ≡ (Name q.0.name, q.0.line) ∷ q.1) (ok_part m r e) refl
attribute_name_read ((token, n) ∷ ls) r e = absurd (cc)

colon_read : (ls rest : Lexemes) → colon ls ≡ Ok rest → (k : ℕ) × (ls ≡ (Colon, k) ∷ rest)
unfolding colon
colon_read [] rest e = absurd (cc)
colon_read ((Colon, n) ∷ ls) rest e = (n, ap (λ l. (Colon, n) ∷ l) (ok_part ls rest e))
colon_read ((token, n) ∷ ls) rest e = absurd (cc)

semicolon_read : (ls rest : Lexemes) → semicolon false ls ≡ Ok rest → (k : ℕ) × (ls ≡ (Semicolon, k) ∷ rest)
unfolding semicolon
semicolon_read [] rest e = absurd (cc)
semicolon_read ((Semicolon, n) ∷ ls) rest e = (n, ap (λ l. (Semicolon, n) ∷ l) (ok_part ls rest e))
semicolon_read ((token, n) ∷ ls) rest e = absurd (cc)

-- what a statement adds to the names
abbrev pub added : Names → Statement → Result Names TokenFault
added seen (DeclareType w ms) = with_declared_type seen w 0
added seen (DeclareAttribute w) = with_attribute seen w 0
added seen (GiveAttributes m ms) = Ok seen
added seen (Allow a) = with_allow seen 0

at_line : (v u : Bool) (f g h i : TokenFault) (x y : Names) → (if v then Err f else (if u then ok_of x else Err g)) ≡ Ok y → (if v then Err h else (if u then ok_of x else Err i)) ≡ ok_of y
at_line true u f g h i x y e = absurd (cc)
at_line false true f g h i x y e = e
at_line false false f g h i x y e = absurd (cc)

type_at_line : (seen next : Names) (w : List ℕ) (n k : ℕ) → with_declared_type seen w n ≡ Ok next → with_declared_type seen w k ≡ Ok next
unfolding with_declared_type
type_at_line seen next w n k e = at_line _ _ _ _ _ _ _ _ e

attribute_at_line : (seen next : Names) (w : List ℕ) (n k : ℕ) → with_attribute seen w n ≡ Ok next → with_attribute seen w k ≡ Ok next
unfolding with_attribute
attribute_at_line seen next w n k e = at_line _ _ _ _ _ _ _ _ e

allow_at_line : (seen next : Names) (n k : ℕ) → with_allow seen n ≡ Ok next → with_allow seen k ≡ Ok next
unfolding with_allow
allow_at_line seen next n k e = at_line false _ (at n (Outside [])) _ (at n (Outside [])) _ _ _ e

-- "type" ..
abbrev type_end : List ℕ → Names → List Mention × Lexemes → LexerState (Statement × Names)
type_end w seen ms = Ok ((DeclareType w ms.0, seen), ms.1)

abbrev type_more : Mention × Lexemes → Names → LexerState (Statement × Names)
type_more name seen = attributes true false name.1 >>= λ ms. type_end name.0.name seen ms

type_read : (n : ℕ) (seen : Names) (ls : Lexemes) (s : Statement) (next : Names) (rest : Lexemes) → type_statement seen ls ≡ Ok ((s, next), rest) → SpellsStatement s ((TypeWord, n) ∷ ls) rest × (added seen s ≡ Ok next)
unfolding type_statement
type_read n seen ls s next rest e =
    let b1 = bind_ok (type_name true ls) (λ name. with_declared_type seen name.0.name name.0.line >>= λ after. type_more name after) ((s, next), rest) e in
    let m = b1.0.0 in
    let b2 = bind_ok (with_declared_type seen m.name m.line) (λ after. type_more b1.0 after) ((s, next), rest) b1.2 in
    let b3 = bind_ok (attributes true false b1.0.1) (λ ms. type_end m.name b2.0 ms) ((s, next), rest) b2.2 in
    let front = type_name_read true ls b1.0 b1.1 in
    let spelled : SpellsStatement (DeclareType m.name b3.0.0) ((TypeWord, n) ∷ ls) b3.0.1 =
    subst (λ (l : Lexemes). SpellsStatement (DeclareType m.name b3.0.0) ((TypeWord, n) ∷ l) b3.0.1) (sym front.0)
    (type_of m.name b3.0.0 n m.line b1.0.1 b3.0.1 front.1 (names_read true false b1.0.1 b3.0.0 b3.0.1 b3.1)) in
    subst (λ (q : (Statement × Names) × Lexemes). SpellsStatement q.0.0 ((TypeWord, n) ∷ ls) q.1 × (added seen q.0.0 ≡ Ok q.0.1)) (ok_part ((DeclareType m.name b3.0.0, b2.0), b3.0.1) ((s, next), rest) b3.2)
    (spelled, type_at_line seen b2.0 m.name m.line 0 b2.1)

-- "attribute" ..
abbrev attribute_end : List ℕ → Names → Lexemes → LexerState (Statement × Names)
attribute_end w seen ls = Ok ((DeclareAttribute w, seen), ls)

abbrev attribute_more : Mention × Lexemes → Names → LexerState (Statement × Names)
attribute_more name seen = semicolon false name.1 >>= λ ls. attribute_end name.0.name seen ls

attribute_read : (n : ℕ) (seen : Names) (ls : Lexemes) (s : Statement) (next : Names) (rest : Lexemes) → attribute_statement seen ls ≡ Ok ((s, next), rest) → SpellsStatement s ((AttributeWord, n) ∷ ls) rest × (added seen s ≡ Ok next)
unfolding attribute_statement
attribute_read n seen ls s next rest e =
    let b1 = bind_ok (attribute_name false ls) (λ name. with_attribute seen name.0.name name.0.line >>= λ after. attribute_more name after) ((s, next), rest) e in
    let m = b1.0.0 in
    let b2 = bind_ok (with_attribute seen m.name m.line) (λ after. attribute_more b1.0 after) ((s, next), rest) b1.2 in
    let b3 = bind_ok (semicolon false b1.0.1) (λ l. attribute_end m.name b2.0 l) ((s, next), rest) b2.2 in
    let mark = semicolon_read b1.0.1 b3.0 b3.1 in
    let front = attribute_name_read ls b1.0 b1.1 ∙ ap (λ l. (Name m.name, m.line) ∷ l) mark.1 in
    let spelled : SpellsStatement (DeclareAttribute m.name) ((AttributeWord, n) ∷ ls) b3.0 =
    subst (λ (l : Lexemes). SpellsStatement (DeclareAttribute m.name) ((AttributeWord, n) ∷ l) b3.0) (sym front) (attribute_of m.name n m.line mark.0 b3.0) in
    subst (λ (q : (Statement × Names) × Lexemes). SpellsStatement q.0.0 ((AttributeWord, n) ∷ ls) q.1 × (added seen q.0.0 ≡ Ok q.0.1)) (ok_part ((DeclareAttribute m.name, b2.0), b3.0) ((s, next), rest) b3.2)
    (spelled, attribute_at_line seen b2.0 m.name m.line 0 b2.1)

-- "typeattribute" ..
abbrev attributes_end : Mention → List Mention × Lexemes → LexerState Statement
attributes_end m ms = Ok (GiveAttributes m ms.0, ms.1)

attributes_read : (n : ℕ) (seen : Names) (ls : Lexemes) (s : Statement) (rest : Lexemes) → typeattribute_statement ls ≡ Ok (s, rest) → SpellsStatement s ((TypeattributeWord, n) ∷ ls) rest × (added seen s ≡ Ok seen)
unfolding typeattribute_statement
attributes_read n seen ls s rest e =
    let b1 = bind_ok (type_name false ls) (λ name. attributes false true name.1 >>= λ ms. attributes_end name.0 ms) (s, rest) e in
    let m = b1.0.0 in
    let b2 = bind_ok (attributes false true b1.0.1) (λ ms. attributes_end m ms) (s, rest) b1.2 in
    let front = type_name_read false ls b1.0 b1.1 in
    let spelled : SpellsStatement (GiveAttributes m b2.0.0) ((TypeattributeWord, n) ∷ ls) b2.0.1 =
    subst (λ (l : Lexemes). SpellsStatement (GiveAttributes m b2.0.0) ((TypeattributeWord, n) ∷ l) b2.0.1) (sym front.0) (attributes_of m b2.0.0 n b1.0.1 b2.0.1 (names_read false true b1.0.1 b2.0.0 b2.0.1 b2.1)) in
    subst (λ (q : Statement × Lexemes). SpellsStatement q.0 ((TypeattributeWord, n) ∷ ls) q.1 × (added seen q.0 ≡ Ok seen)) (ok_part (GiveAttributes m b2.0.0, b2.0.1) (s, rest) b2.2) (spelled, refl)

-- "allow" ..
abbrev allowance : List SetElement → List SetElement → List (List ℕ) → Permissions → Allowance
allowance source target classes perms = record { source = source; target = target; classes = classes; perms = perms }

abbrev allow_end : List SetElement → List SetElement → List (List ℕ) → Permissions → Lexemes → LexerState Statement
allow_end source target classes perms ls = Ok (Allow (allowance source target classes perms), ls)

abbrev allow_perms : List SetElement → List SetElement → List (List ℕ) → Permissions × Lexemes → LexerState Statement
allow_perms source target classes perms = semicolon false perms.1 >>= λ ls. allow_end source target classes perms.0 ls

abbrev allow_classes : List SetElement → List SetElement → List (List ℕ) × Lexemes → LexerState Statement
allow_classes source target classes = perms_of (is_grant_alone classes.0) classes.1 >>= λ perms. allow_perms source target classes.0 perms

abbrev allow_colon : List SetElement → List SetElement → Lexemes → LexerState Statement
allow_colon source target ls = classes_of ls >>= λ classes. allow_classes source target classes

abbrev allow_target : List SetElement → List SetElement × Lexemes → LexerState Statement
allow_target source target = colon target.1 >>= λ ls. allow_colon source target.0 ls

allow_read : (n : ℕ) (ls : Lexemes) (s : Statement) (rest : Lexemes) → allow_statement ls ≡ Ok (s, rest) → (a : Allowance) × (s ≡ Allow a) × SpellsStatement (Allow a) ((AllowWord, n) ∷ ls) rest
unfolding allow_statement
allow_read n ls s rest e =
    let b1 = bind_ok (set_of false ls) (λ source. set_of true source.1 >>= λ target. allow_target source.0 target) (s, rest) e in
    let b2 = bind_ok (set_of true b1.0.1) (λ target. allow_target b1.0.0 target) (s, rest) b1.2 in
    let b3 = bind_ok (colon b2.0.1) (λ l. allow_colon b1.0.0 b2.0.0 l) (s, rest) b2.2 in
    let b4 = bind_ok (classes_of b3.0) (λ classes. allow_classes b1.0.0 b2.0.0 classes) (s, rest) b3.2 in
    let b5 = bind_ok (perms_of (is_grant_alone b4.0.0) b4.0.1) (λ perms. allow_perms b1.0.0 b2.0.0 b4.0.0 perms) (s, rest) b4.2 in
    let b6 = bind_ok (semicolon false b5.0.1) (λ l. allow_end b1.0.0 b2.0.0 b4.0.0 b5.0.0 l) (s, rest) b5.2 in
    let a : Allowance = allowance b1.0.0 b2.0.0 b4.0.0 b5.0.0 in
    let mark = colon_read b2.0.1 b3.0 b3.1 in
    let last = semicolon_read b5.0.1 b6.0 b6.1 in
    let same = ok_part (Allow a, b6.0) (s, rest) b6.2 in
    let target : SpellsSet true b2.0.0 b1.0.1 ((Colon, mark.0) ∷ b3.0) = subst (λ (l : Lexemes). SpellsSet true b2.0.0 b1.0.1 l) mark.1 (set_read true b1.0.1 b2.0.0 b2.0.1 b2.1) in
    let perms : SpellsPerms (is_grant_alone b4.0.0) b5.0.0 b4.0.1 ((Semicolon, last.0) ∷ b6.0) =
    subst (λ (l : Lexemes). SpellsPerms (is_grant_alone b4.0.0) b5.0.0 b4.0.1 l) last.1 (perms_read (is_grant_alone b4.0.0) b4.0.1 b5.0.0 b5.0.1 b5.1) in
    let spelled : SpellsStatement (Allow a) ((AllowWord, n) ∷ ls) b6.0 = allow_of a n mark.0 last.0 ls b1.0.1 b3.0 b4.0.1 b6.0 (set_read false ls b1.0.0 b1.0.1 b1.1) target (classes_read b3.0 b4.0.0 b4.0.1 b4.1) perms in
    (a, sym (ap (λ q. q.0) same), subst (λ (l : Lexemes). SpellsStatement (Allow a) ((AllowWord, n) ∷ ls) l) (ap (λ q. q.1) same) spelled)

next_one_ok : (r : LexerState (Statement × Names)) (s : Statement) (next : Names) (rest : Lexemes) → next_one r ≡ Ok (Some (s, next), rest) → r ≡ Ok ((s, next), rest)
next_one_ok (Ok q) s next rest e =
    let found : Option (Statement × Names) = Some q.0 in
    let same = ok_part (found, q.1) (Some (s, next), rest) e in
    ap (λ x. Ok (x, q.1)) (same_Some q.0 (s, next) (ap (λ x. x.0) same)) ∙ ap (λ l. Ok ((s, next), l)) (ap (λ x. x.1) same)
next_one_ok (Err f) s next rest e = absurd (cc)

next_one_some : (r : LexerState (Statement × Names)) (rest : Lexemes) → next_one r ≡ Ok (None, rest) → ⊥
next_one_some (Ok q) rest e =
    let found : Option (Statement × Names) = Some q.0 in
    let same = ap (λ x. x.0) (ok_part (found, q.1) (None, rest) e) in cc
next_one_some (Err f) rest e = cc

beside_ok : (seen : Names) (r : LexerState Statement) (s : Statement) (next : Names) (rest : Lexemes) → beside seen r ≡ Ok ((s, next), rest) → (r ≡ Ok (s, rest)) × (seen ≡ next)
beside_ok seen (Ok q) s next rest e =
    let same = ok_part ((q.0, seen), q.1) ((s, next), rest) e in
    (ap (λ x. Ok (x, q.1)) (ap (λ x. x.0.0) same) ∙ ap (λ l. Ok (s, l)) (ap (λ x. x.1) same), ap (λ x. x.0.1) same)
beside_ok seen (Err f) s next rest e = absurd (cc)

count_ok : {B : Type 0} (r : Result Names TokenFault) (f : Names → Result B TokenFault) (y : B) → (elim r [ Ok counted ↦ f counted | Err g ↦ Err g ]) ≡ ok_of y → (x : Names) × (r ≡ ok_of x) × (f x ≡ ok_of y)
count_ok (Ok x) f y e = (x, refl, e)
count_ok (Err g) f y e = absurd (cc)

pub statement_read : (seen : Names) (ls : Lexemes) (s : Statement) (next : Names) (rest : Lexemes) → statement seen ls ≡ Ok (Some (s, next), rest) → SpellsStatement s ls rest × (added seen s ≡ Ok next)
unfolding statement
statement_read seen [] s next rest e = absurd (cc)
statement_read seen ((End, n) ∷ ls) s next rest e =
    let none : Option (Statement × Names) = None in
    let same = ap (λ x. x.0) (ok_part (none, []) (Some (s, next), rest) e) in absurd (cc)
statement_read seen ((TypeWord, n) ∷ ls) s next rest e = type_read n seen ls s next rest (next_one_ok (type_statement seen ls) s next rest e)
statement_read seen ((AttributeWord, n) ∷ ls) s next rest e = attribute_read n seen ls s next rest (next_one_ok (attribute_statement seen ls) s next rest e)
statement_read seen ((TypeattributeWord, n) ∷ ls) s next rest e =
    let b = beside_ok seen (typeattribute_statement ls) s next rest (next_one_ok (beside seen (typeattribute_statement ls)) s next rest e) in
    subst (λ (q : Names). SpellsStatement s ((TypeattributeWord, n) ∷ ls) rest × (added seen s ≡ Ok q)) b.1 (attributes_read n seen ls s rest b.0)
statement_read seen ((AllowWord, n) ∷ ls) s next rest e =
    let b1 = count_ok (with_allow seen n) (λ counted. next_one (beside counted (allow_statement ls))) (Some (s, next), rest) e in
    let b = beside_ok b1.0 (allow_statement ls) s next rest (next_one_ok (beside b1.0 (allow_statement ls)) s next rest b1.2) in
    let found = allow_read n ls s rest b.0 in
    let counts : added seen (Allow found.0) ≡ Ok next = allow_at_line seen next n 0 (b1.1 ∙ ap (λ (q : Names). ok_of q) b.1) in
    subst (λ (t : Statement). SpellsStatement t ((AllowWord, n) ∷ ls) rest × (added seen t ≡ Ok next)) (sym found.1) (found.2, counts)
statement_read seen ((Name w, n) ∷ ls) s next rest e = absurd (cc)
statement_read seen ((token, n) ∷ ls) s next rest e = absurd (cc)

pub end_read : (seen : Names) (ls rest : Lexemes) → statement seen ls ≡ Ok (None, rest) → SpellsText [] ls
unfolding statement
end_read seen [] rest e = absurd (cc)
end_read seen ((End, n) ∷ ls) rest e = text_end n ls
end_read seen ((TypeWord, n) ∷ ls) rest e = absurd (next_one_some (type_statement seen ls) rest e)
end_read seen ((AttributeWord, n) ∷ ls) rest e = absurd (next_one_some (attribute_statement seen ls) rest e)
end_read seen ((TypeattributeWord, n) ∷ ls) rest e = absurd (next_one_some (beside seen (typeattribute_statement ls)) rest e)
end_read seen ((AllowWord, n) ∷ ls) rest e =
    let b1 = count_ok (with_allow seen n) (λ counted. next_one (beside counted (allow_statement ls))) (None, rest) e in
    absurd (next_one_some (beside b1.0 (allow_statement ls)) rest b1.2)
end_read seen ((Name w, n) ∷ ls) rest e = absurd (cc)
end_read seen ((token, n) ∷ ls) rest e = absurd (cc)

-- the other way round
pub statement_spelled : (seen next : Names) (s : Statement) (ls rest : Lexemes) → SpellsStatement s ls rest → added seen s ≡ Ok next → statement seen ls ≡ Ok (Some (s, next), rest)
unfolding statement type_statement attribute_statement typeattribute_statement allow_statement type_name attribute_name semicolon colon
statement_spelled seen next s ls rest (type_of w ms n k behind _ x h) fits =
    let m : Mention = record { name = w; line = k } in
    let name : type_name true ((Name w, k) ∷ behind) ≡ Ok (m, behind) = rw x refl in
    ap (λ r. next_one r)
    (ap (λ r. r >>= λ name. with_declared_type seen name.0.name name.0.line >>= λ after. type_more name after) name ∙ ap (λ r. r >>= λ after. type_more (m, behind) after) (type_at_line seen next w 0 k fits)
    ∙ ap (λ r. r >>= λ found. type_end w next found) (names_spelled true false ms behind rest h))
statement_spelled seen next s ls rest (attribute_of w n k j _) fits =
    let m : Mention = record { name = w; line = k } in
    ap (λ r. next_one r) (ap (λ r. r >>= λ after. attribute_more (m, (Semicolon, j) ∷ rest) after) (attribute_at_line seen next w 0 k fits))
statement_spelled seen next s ls rest (attributes_of m ms n behind _ h) fits =
    ap (λ r. next_one (beside seen r)) (ap (λ r. r >>= λ found. attributes_end m found) (names_spelled false true ms behind rest h)) ∙ ap (λ (q : Names). ok_of (Some (s, q), rest)) (ok_part seen next fits)
statement_spelled seen next s ls rest (allow_of a n k j source target classes perms _ h1 h2 h3 h4) fits =
    ap (λ (r : Result Names TokenFault). let read : LexerState (Option (Statement × Names)) = elim r [ Ok counted ↦ next_one (beside counted (allow_statement source)) | Err g ↦ Err g ] in read) (allow_at_line seen next 0 n fits)
    ∙ ap (λ r. next_one (beside next r))
    (ap (λ r. r >>= λ source. set_of true source.1 >>= λ target. allow_target source.0 target) (set_spelled false a.source source target h1)
    ∙ ap (λ r. r >>= λ target. allow_target a.source target) (set_spelled true a.target target ((Colon, k) ∷ classes) h2)
    ∙ ap (λ r. r >>= λ classes. allow_classes a.source a.target classes) (classes_spelled a.classes classes perms h3)
    ∙ ap (λ r. r >>= λ perms. allow_perms a.source a.target a.classes perms) (perms_spelled (is_grant_alone a.classes) a.perms perms ((Semicolon, j) ∷ rest) h4))

pub statement_shorter : (s : Statement) (ls rest : Lexemes) → SpellsStatement s ls rest → length rest < length ls
statement_shorter s ls rest (type_of w ms n k behind _ x h) = let less = names_shorter true false ms behind rest h in omega arith
statement_shorter s ls rest (attribute_of w n k j _) = omega arith
statement_shorter s ls rest (attributes_of m ms n behind _ h) = let less = names_shorter false true ms behind rest h in omega arith
statement_shorter s ls rest (allow_of a n k j source target classes perms _ h1 h2 h3 h4) =
    let l1 = set_shorter false a.source source target h1 in
    let l2 = set_shorter true a.target target ((Colon, k) ∷ classes) h2 in
    let l3 = list_shorter a.classes classes perms h3 in
    let l4 = perms_shorter (is_grant_alone a.classes) a.perms perms ((Semicolon, j) ∷ rest) h4 in omega arith

-- whole texts
abbrev pub all_added : Names → List Statement → Result Names TokenFault
all_added seen [] = Ok seen
all_added seen (s ∷ ss) = added seen s >>= λ next. all_added next ss

pub text_read : (seen : Names) (ss : List Statement) (ls : Lexemes) (said : Result (Names × List Statement) TokenFault) → GivesStatements seen ss ls said → (names : Names) (all : List Statement) → said ≡ Ok (names, all)
    → (others : List Statement) × (all ≡ ss ++ others) × SpellsText others ls × (all_added seen others ≡ Ok names)
text_read seen ss ls said (ended _ _ _ rest e) names all is =
    let same = ok_part (seen, ss) (names, all) is in
    ([], sym (ap (λ q. q.1) same) ∙ sym (append-nil ss), end_read seen ls rest e, ap (λ (q : Names × List Statement). ok_of q.0) same)
text_read seen ss ls said (more _ next _ s _ rest _ e h) names all is =
    let found = statement_read seen ls s next rest e in
    let r = text_read next (ss ++ s ∷ []) rest said h names all is in
    (s ∷ r.0, r.1 ∙ append_assoc ss (s ∷ []) r.0, statement_of s r.0 ls rest found.0 r.2, ap (λ (q : Result Names TokenFault). q >>= λ after. all_added after r.0) found.1 ∙ r.3)
text_read seen ss ls said (wrong _ _ _ f e) names all is = absurd (cc)

pub text_spelled : (others : List Statement) (ls : Lexemes) → SpellsText others ls → (seen names : Names) (ss : List Statement) → all_added seen others ≡ Ok names → GivesStatements seen ss ls (Ok (names, ss ++ others))
unfolding statement
text_spelled others ls (text_end n behind) seen names ss fits =
    subst (λ (q : Names). GivesStatements seen ss ((End, n) ∷ behind) (Ok (q, ss ++ []))) (ok_part seen names fits)
    (subst (λ (xs : List Statement). GivesStatements seen ss ((End, n) ∷ behind) (Ok (seen, xs))) (sym (append-nil ss)) (ended seen ss ((End, n) ∷ behind) [] refl))
text_spelled others ls (statement_of s after _ rest h t) seen names ss fits =
    let b = bind_ok (added seen s) (λ next. all_added next after) names fits in
    more seen b.0 ss s ls rest (Ok (names, ss ++ s ∷ after)) (statement_spelled seen b.0 s ls rest h b.1)
    (subst (λ (xs : List Statement). GivesStatements b.0 (ss ++ s ∷ []) rest (Ok (names, xs))) (append_assoc ss (s ∷ []) after) (text_spelled after rest t b.0 names (ss ++ s ∷ []) b.2))

-- tokens say something
pub follows_some : (n : ℕ) (seen : Names) (ss : List Statement) (ls : Lexemes) → length ls ≤ n → (said : Result (Names × List Statement) TokenFault) × GivesStatements seen ss ls said
follows_some zero seen ss ls few = go (statement seen ls) refl
  where
    go : (r : LexerState (Option (Statement × Names))) → statement seen ls ≡ r → (said : Result (Names × List Statement) TokenFault) × GivesStatements seen ss ls said
    go (Err f) e = (Err f, wrong seen ss ls f e)
    go (Ok (None, rest)) e = (Ok (seen, ss), ended seen ss ls rest e)
    go (Ok (Some (s, next), rest)) e = let less = statement_shorter s ls rest (statement_read seen ls s next rest e).0 in absurd (omega arith)
follows_some (suc n) seen ss ls few = go (statement seen ls) refl (follows_some n)
  where
    go : (r : LexerState (Option (Statement × Names))) → statement seen ls ≡ r → ((next : Names) (xs : List Statement) (rest : Lexemes) → length rest ≤ n → (said : Result (Names × List Statement) TokenFault) × GivesStatements next xs rest said)
        → (said : Result (Names × List Statement) TokenFault) × GivesStatements seen ss ls said
    go (Err f) e ih = (Err f, wrong seen ss ls f e)
    go (Ok (None, rest)) e ih = (Ok (seen, ss), ended seen ss ls rest e)
    go (Ok (Some (s, next), rest)) e ih =
        let less = statement_shorter s ls rest (statement_read seen ls s next rest e).0 in
        let r = ih next (ss ++ s ∷ []) rest (omega arith) in
        (r.0, more seen next ss s ls rest r.0 e r.1)
