-- What the definitions of whole texts come to.
use Rattle.std.proofs.Common.{◌≡◌, ◌<◌, ◌≤◌, ◌⊎◌, inl, inr, ℕ, Bool, true, false, List, [], ◌∷◌, ◌++◌, length, Result}
use Rattle.std.proofs.Common.{Ok, Err, refl, sym, ap, ◌∙◌, subst, arith, nat_lt}
use Rattle.std.proofs.lemmas.Bool.Decides.{nat_tests}
use Rattle.gt_policy.specs.declared.fault.TokenFault.{TokenFault}
use Rattle.gt_policy.specs.declared.fault.TokenFaultKind.TheVariants.{Limit}
use Rattle.gt_policy.specs.declared.statements.Statement.{Statement}
use Rattle.gt_policy_text.specs.Lexing.{lexemes_of}
use Rattle.gt_policy.specs.Names.{Names, no_names}
use Rattle.gt_policy.specs.Grammar.{Lexemes, statement, at, ◌>>=◌}
use Rattle.gt_policy.specs.Spelling.{declared_names}
use Rattle.gt_policy.specs.Allowing.{Meaning}
use Rattle.gt_policy.specs.Resolving.{resolved_draft, nothing_given}
use Rattle.gt_policy.specs.Whole.{GivesStatements, ended, more, wrong, ReadsAs, too_long, clean, faulty, meaning_of}
use Rattle.gt_policy.specs.Undeclared.{IsFirstUndeclared, uses_of}
use Rattle.gt_policy.specs.Accepting.{IsWritten, IsBroken, SpellsFront, front_end, front_more, meant_by}
use Rattle.gt_policy.proofs.TextLemmas.{added, all_added, bind_ok, statement_read, statement_spelled, text_read}
use Rattle.gt_policy.proofs.TextLemmas.{text_spelled, follows_some}
use Rattle.gt_policy.proofs.CleanLemmas.{clean_added, added_clean}
use Rattle.gt_policy.proofs.UndeclaredLemmas.{meant_undeclared, undeclared_meant}

abbrev says : List ℕ → Type 0
says text = (said : Result Meaning TokenFault) × ReadsAs text said

said_by : (text : List ℕ) → length text ≤ 1048576 → (said : Result (Names × List Statement) TokenFault) → GivesStatements no_names [] (lexemes_of text) said → says text
said_by text short (Ok (names, ss)) h = (meaning_of names (resolved_draft names nothing_given ss), clean text names ss short h)
said_by text short (Err f) h = (Err f, faulty text f short h)

pub says_some : (text : List ℕ) → says text
says_some text = go (nat_lt 1048576 (length text)) refl
  where
    go : (v : Bool) → nat_lt 1048576 (length text) ≡ v → says text
    go true e = (Err (at 1 Limit), too_long text (grind (arith, nat_tests)))
    go false e =
        let short : length text ≤ 1048576 = grind (arith, nat_tests) in
        let r = follows_some (length (lexemes_of text)) no_names [] (lexemes_of text) (omega arith) in
        said_by text short r.0 r.1

-- a text that is written so follows so
written_follows : (text : List ℕ) (ss : List Statement) → IsWritten text ss → GivesStatements no_names [] (lexemes_of text) (Ok (declared_names ss, ss))
written_follows text ss w = text_spelled ss (lexemes_of text) w.spelled no_names (declared_names ss) [] (clean_added ss w.clean)

pub written_says : (text : List ℕ) (ss : List Statement) → IsWritten text ss → ReadsAs text (meant_by ss)
written_says text ss w = clean text (declared_names ss) ss w.short (written_follows text ss w)

-- and the other way round
pub follows_written : (text : List ℕ) (names : Names) (ss : List Statement) → length text ≤ 1048576 → GivesStatements no_names [] (lexemes_of text) (Ok (names, ss)) → IsWritten text ss × (declared_names ss ≡ names)
follows_written text names ss short h =
    let r = text_read no_names [] (lexemes_of text) (Ok (names, ss)) h names ss refl in
    let c = added_clean r.0 names r.3 in
    let same : r.0 ≡ ss = sym r.1 in
    subst (λ (xs : List Statement). IsWritten text xs × (declared_names xs ≡ names)) same (record { short = short; spelled = r.2; clean = c.0 }, c.1)

pub says_written : (text : List ℕ) (said : Result Meaning TokenFault) → ReadsAs text said → (m : Meaning) → said ≡ Ok m → (ss : List Statement) × IsWritten text ss × (meant_by ss ≡ Ok m)
says_written text said (too_long _ long) m e = absurd (cc)
says_written text said (clean _ names ss short h) m e =
    let w = follows_written text names ss short h in
    (ss, w.0, ap (λ q. meaning_of q (resolved_draft q nothing_given ss)) w.1 ∙ e)
says_written text said (faulty _ f short h) m e = absurd (cc)

-- the statements in front of a fault
follows_broken : (seen : Names) (ss : List Statement) (ls : Lexemes) (said : Result (Names × List Statement) TokenFault) → GivesStatements seen ss ls said → (f : TokenFault) → said ≡ Err f
    → (names : Names) × (front : List Statement) × (rest : Lexemes) × SpellsFront front ls rest × (all_added seen front ≡ Ok names) × (statement names rest ≡ Err f)
follows_broken seen ss ls said (ended _ _ _ rest e) f is = absurd (cc)
follows_broken seen ss ls said (more _ next _ s _ rest _ e h) f is =
    let found = statement_read seen ls s next rest e in
    let r = follows_broken next (ss ++ s ∷ []) rest said h f is in
    (r.0, s ∷ r.1, r.2, front_more s r.1 ls rest r.2 found.0 r.3, ap (λ (q : Result Names TokenFault). q >>= λ after. all_added after r.1) found.1 ∙ r.4, r.5)
follows_broken seen ss ls said (wrong _ _ _ g e) f is = (seen, [], ls, front_end ls, refl, e ∙ cc)

broken_follows : (front : List Statement) (ls rest : Lexemes) → SpellsFront front ls rest → (seen names : Names) (ss : List Statement) (f : TokenFault) → all_added seen front ≡ Ok names → statement names rest ≡ Err f → GivesStatements seen ss ls (Err f)
broken_follows front ls rest (front_end _) seen names ss f fits e =
    let same : seen ≡ names = cc in
    wrong seen ss rest f (ap (λ q. statement q rest) same ∙ e)
broken_follows front ls rest (front_more s others _ behind _ h t) seen names ss f fits e =
    let b = bind_ok (added seen s) (λ next. all_added next others) names fits in
    more seen b.0 ss s ls behind (Err f) (statement_spelled seen b.0 s ls behind h b.1) (broken_follows others behind rest t b.0 names (ss ++ s ∷ []) f b.2 e)

pub broken_says : (text : List ℕ) (f : TokenFault) → IsBroken text f → ReadsAs text (Err f)
broken_says text f b = faulty text f b.short (broken_follows b.before (lexemes_of text) b.rest b.spelled no_names (declared_names b.before) [] f (clean_added b.before b.clean) b.fault)

says_faulty : (text : List ℕ) (said : Result Meaning TokenFault) → ReadsAs text said → (f : TokenFault) → said ≡ Err f
    → ((1048576 < length text) × (at 1 Limit ≡ f)) ⊎ (IsBroken text f ⊎ ((ss : List Statement) × IsWritten text ss × (meant_by ss ≡ Err f)))
says_faulty text said (too_long _ long) f e = inl (long, cc)
says_faulty text said (clean _ names ss short h) f e =
    let w = follows_written text names ss short h in
    inr (inr (ss, w.0, ap (λ q. meaning_of q (resolved_draft q nothing_given ss)) w.1 ∙ e))
says_faulty text said (faulty _ g short h) f e =
    let same : g ≡ f = cc in
    let fault : TokenFault → Result (Names × List Statement) TokenFault = λ q. Err q in
    let r = follows_broken no_names [] (lexemes_of text) (Err g) h f (ap fault same) in
    let c = added_clean r.1 r.0 r.4 in
    inr (inl (record { before = r.1; rest = r.2; short = short; spelled = r.3; clean = c.0; fault = ap (λ q. statement q r.2) c.1 ∙ r.5 }))

first_fault : (text : List ℕ) (f : TokenFault) → ((1048576 < length text) × (at 1 Limit ≡ f)) ⊎ (IsBroken text f ⊎ ((ss : List Statement) × IsWritten text ss × (meant_by ss ≡ Err f)))
    → ((1048576 < length text) × (at 1 Limit ≡ f)) ⊎ (IsBroken text f ⊎ ((ss : List Statement) × IsWritten text ss × IsFirstUndeclared ss (uses_of ss) f))
first_fault text f (inl long) = inl long
first_fault text f (inr (inl broken)) = inr (inl broken)
first_fault text f (inr (inr w)) = inr (inr (w.0, w.1, meant_undeclared w.0 f w.1.clean w.2))

pub says_first_fault : (text : List ℕ) (f : TokenFault) → ReadsAs text (Err f) → ((1048576 < length text) × (at 1 Limit ≡ f)) ⊎ (IsBroken text f ⊎ ((ss : List Statement) × IsWritten text ss × IsFirstUndeclared ss (uses_of ss) f))
says_first_fault text f h = first_fault text f (says_faulty text (Err f) h f refl)

pub undeclared_says : (text : List ℕ) (ss : List Statement) (f : TokenFault) → IsWritten text ss → IsFirstUndeclared ss (uses_of ss) f → ReadsAs text (Err f)
undeclared_says text ss f w first = subst (λ (r : Result Meaning TokenFault). ReadsAs text r) (undeclared_meant ss f w.clean first) (written_says text ss w)
