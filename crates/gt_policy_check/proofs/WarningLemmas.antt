-- What the types of a policy give is what its statements say.
use Rattle.std.proofs.Common.{◌≡◌, ℕ, ◌+◌, ◌<◌, List, [], ◌∷◌, ◌++◌, true, None, Some, Result, Ok, Err, IfOk, Vec, Global, map, ap, sym, ◌∙◌}
use Rattle.std.proofs.Common.{append_assoc, drop, get_or, length, take}
use Rattle.std.specs.Prelude.{All, filter, is_some, slice_get}
use Rattle.std.proofs.lemmas.List.{append-nil, drop_more, take_more}
use Rattle.std.proofs.lemmas.List.Concat.{flat_map-append}
use Rattle.std.proofs.lemmas.Option.{slice_get-get_or}
use Rattle.std.specs.List.{flat_map}
use Rattle.gt_policy.specs.Allowing.{Meaning}
use Rattle.gt_policy.specs.Lined.{IsLined}
use Rattle.gt_policy.specs.Shown.{fault_shown}
use Rattle.gt_policy.specs.Whole.{ReadsAs}
use Rattle.gt_policy.specs.declared.fault.TokenFault.{TokenFault}
use Rattle.gt_policy.specs.declared.lined.LinedStatement.{LinedStatement}
use Rattle.gt_policy.specs.declared.parse.PolicyFaultKind.{PolicyFaultKind}
use Rattle.gt_policy.specs.declared.statements.Statement.TheVariants.{DeclareAttribute}
use Rattle.gt_policy_statements.specs.declared.members.Member.{Member}
use Rattle.gt_findings.specs.declared.findings.Finding.{Finding}
use Rattle.gt_policy_check.specs.Check.{allows_nothing, lines_repeated, repeat_line, repeated_with}
use Rattle.gt_findings.specs.Findings.{error_lines, nothing_lines, repeat_lines}
use Rattle.gt_policy_check.specs.Check.{useless_line, HasFaultColumn, Judges, sound}
use Rattle.gt_findings.specs.Findings.{AddsUseless, HasColumn}
use Rattle.gt_policy_statements.specs.Members.{members_of}
use Rattle.gt_policy_check.proofs.CheckLemmas.{judged_faulty, repeated_same, useless_lines}

pub nothing_of : (xs : List LinedStatement) (ms : List Member) (found : List ℕ) → ms ≡ members_of xs None → found ≡ flat_map (λ x. useless_line ms x) xs
    → found ≡ map (λ x. x.line) (filter (λ x. allows_nothing xs x.statement) xs)
nothing_of xs ms found s e = e ∙ ap (λ (m : List Member). flat_map (λ x. useless_line m x) xs) s ∙ useless_lines xs xs

pub repeated_of : (xs : List LinedStatement) (ms : List Member) (found : List ℕ) → ms ≡ members_of xs None → found ≡ repeated_with ms [] xs → found ≡ lines_repeated xs [] xs
repeated_of xs ms found s e = e ∙ ap (λ (m : List Member). repeated_with m [] xs) s ∙ repeated_same xs [] xs

-- the same of findings that were made
pub nothing_so : {E : Type 0} (xs : List LinedStatement) (ms : List Member) (r : Result (Vec Finding Global) E) → ms ≡ members_of xs None
    → IfOk r (λ v. nothing_lines v.items ≡ flat_map (λ x. useless_line ms x) xs)
    → IfOk r (λ v. nothing_lines v.items ≡ map (λ x. x.line) (filter (λ x. allows_nothing xs x.statement) xs))
nothing_so xs ms (Err fault) s is = tt
nothing_so xs ms (Ok v) s is = nothing_of xs ms (nothing_lines v.items) s is

pub repeated_so : {E : Type 0} (xs : List LinedStatement) (ms : List Member) (r : Result (Vec Finding Global) E) → ms ≡ members_of xs None
    → IfOk r (λ v. repeat_lines v.items ≡ repeated_with ms [] xs) → IfOk r (λ v. repeat_lines v.items ≡ lines_repeated xs [] xs)
repeated_so xs ms (Err fault) s is = tt
repeated_so xs ms (Ok v) s is = repeated_of xs ms (repeat_lines v.items) s is

-- the findings of a policy are those of its text
pub judged_sound : {E : Type 0} (text : List ℕ) (m : Meaning) (xs ys : List LinedStatement) (r : Result (Vec Finding Global) E) → ys ≡ xs → ReadsAs text (Ok m) → IsLined text xs
    → IfOk r (λ v. error_lines v.items ≡ []) → IfOk r (λ v. nothing_lines v.items ≡ map (λ x. x.line) (filter (λ x. allows_nothing ys x.statement) ys))
    → IfOk r (λ v. repeat_lines v.items ≡ lines_repeated ys [] ys) → IfOk r (λ v. All (HasColumn text) v.items) → IfOk r (λ v. Judges text v.items)
judged_sound text m xs ys (Err fault) same says lined none nothing repeated columns = tt
judged_sound text m xs ys (Ok v) same says lined none nothing repeated columns = sound m xs v.items says lined none (rw same at nothing) (rw same at repeated) columns

-- the finding of a text that is not a policy
pub judged_fault : {E : Type 0} (line : ℕ) (kind : PolicyFaultKind) (text : List ℕ) (r : Result (Vec Finding Global) E)
    → ((f : TokenFault) → fault_shown (record { line = line; kind = kind }) ≡ Some f → ReadsAs text (Err f))
    → IfOk r (λ _. is_some (fault_shown (record { line = line; kind = kind })) ≡ true) → IfOk r (λ v. error_lines v.items ≡ line ∷ [])
    → IfOk r (λ v. (f : TokenFault) → fault_shown (record { line = line; kind = kind }) ≡ Some f → HasFaultColumn text f v.items)
    → IfOk r (λ v. All (HasColumn text) v.items) → IfOk r (λ v. Judges text v.items)
judged_fault line kind text (Err fault) says shown lines column columns = tt
judged_fault line kind text (Ok v) says shown lines column columns = judged_faulty line kind text v.items says shown lines column columns

-- the columns are those of the same text
pub columns_of : {E : Type 0} (text bytes : List ℕ) (r : Result (Vec Finding Global) E) → bytes ≡ text → IfOk r (λ v. All (HasColumn bytes) v.items) → IfOk r (λ v. All (HasColumn text) v.items)
columns_of text bytes r is columns = rw is at columns

-- one statement more is judged
pub one_more_judged : (ms : List Member) (xs : List LinedStatement) (i : ℕ) (old new : List Finding) → i < length xs
    → ((x : LinedStatement) → slice_get xs i ≡ Some x → AddsUseless old new (useless_line ms x) (repeat_line ms (take i xs) x))
    → error_lines old ≡ [] → nothing_lines old ≡ flat_map (λ x. useless_line ms x) (take i xs)
    → repeat_lines old ++ repeated_with ms (take i xs) (drop i xs) ≡ repeated_with ms [] xs
    → (error_lines new ≡ []) × (nothing_lines new ≡ flat_map (λ x. useless_line ms x) (take (i + 1) xs))
    × (repeat_lines new ++ repeated_with ms (take (i + 1) xs) (drop (i + 1) xs) ≡ repeated_with ms [] xs)
one_more_judged ms xs i old new below adds fine nothing repeated = (told.0 ∙ fine, nothing_more, repeated_more)
  where
    d : LinedStatement
    d = record { line = 0; statement = DeclareAttribute [] }

    x : LinedStatement
    x = get_or xs i d

    told : AddsUseless old new (useless_line ms x) (repeat_line ms (take i xs) x)
    told = adds x (slice_get-get_or xs i d below)

    nothing_more : nothing_lines new ≡ flat_map (λ y. useless_line ms y) (take (i + 1) xs)
    nothing_more =
        told.1 ∙ ap (λ (l : List ℕ). l ++ useless_line ms x) nothing
        ∙ ap (λ (l : List ℕ). flat_map (λ y. useless_line ms y) (take i xs) ++ l) (sym (append-nil (useless_line ms x)))
        ∙ sym (flat_map-append (λ y. useless_line ms y) (take i xs) (x ∷ []))
        ∙ ap (λ (l : List LinedStatement). flat_map (λ y. useless_line ms y) l) (sym (take_more xs i d below))

    repeated_more : repeat_lines new ++ repeated_with ms (take (i + 1) xs) (drop (i + 1) xs) ≡ repeated_with ms [] xs
    repeated_more =
        ap (λ (l : List ℕ). l ++ repeated_with ms (take (i + 1) xs) (drop (i + 1) xs)) told.2
        ∙ ap (λ (b : List LinedStatement). (repeat_lines old ++ repeat_line ms (take i xs) x) ++ repeated_with ms b (drop (i + 1) xs)) (take_more xs i d below)
        ∙ append_assoc (repeat_lines old) (repeat_line ms (take i xs) x) (repeated_with ms (take i xs ++ x ∷ []) (drop (i + 1) xs))
        ∙ ap (λ (l : List LinedStatement). repeat_lines old ++ repeated_with ms (take i xs) l) (sym (drop_more xs i d below))
        ∙ repeated
