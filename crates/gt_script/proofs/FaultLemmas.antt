-- Where the first fault of a script stands, and what a script without fault is.
use Rattle.std.proofs.Common.{◌≡◌, ◌⊎◌, IsSome, IsTrue, All, inl, inr, ℕ, suc, ◌+◌, ◌-◌, ◌<◌, ◌≤◌, ◌&&◌, Bool, true}
use Rattle.std.proofs.Common.{false, List, [], ◌∷◌, ◌++◌, length, take, drop, Option, None, Some, Result, Ok, Err, refl}
use Rattle.std.proofs.Common.{sym, ap, ◌∙◌, subst, arith, cond, length-take, length-drop, get_or, add-one, Bor, IfOk}
use Rattle.std.proofs.Common.{IfErr}
use Rattle.std.specs.List.{slice_get, filter_map}
use Rattle.std.specs.Option.{is_none}
use Rattle.std.specs.Str.{IsUtf8}
use Rattle.std.specs.Str.Lines.{lines as lines_in}
use Rattle.std.proofs.lemmas.Bool.Decides.{nat_tests}
use Rattle.std.proofs.Math.Seq.{take-suc}
use Rattle.std.proofs.lemmas.List.{take_all, take-map, drop-map}
use Rattle.std.proofs.lemmas.Option.{slice_get_within, get_or_from_slice_get}
use Rattle.gt_types.specs.declared.rights.Triple.{Triple}
use Rattle.gt_policy.specs.Allowing.{Allowed}
use Rattle.gt_policy.specs.Shown.{fault_shown}
use Rattle.gt_policy.specs.Whole as policies
use Rattle.gt_policy.specs.declared.fault.TokenFault as policy
use Rattle.gt_policy.specs.declared.parse.PolicyFaultKind as kinds
use Rattle.gt_policy.specs.declared.parse.PolicyFaultKind.TheVariants as policy_fault_kinds
use Rattle.gt_script_lines.specs.Words.{words}
use Rattle.gt_script.specs.Faults.{error_in_block}
use Rattle.gt_script.specs.Blocks.{opening, closing, block_text, BlockMeans, IsFaultyBlock, IsPolicyOf}
use Rattle.gt_script.specs.Contents.{contents_of, Contents, empty, with_policy, type_names_with}
use Rattle.gt_script.specs.Script.{is_empty, has_no_rights, with_words, with_lines, completed, completed_if_ok}
use Rattle.gt_script.specs.Script.{whole_script}
use Rattle.gt_script.specs.Script.{in_result, in_script, in_policy, ClosedReads, BlockReads, LinesRead, TextReads, ReadsFor}
use Rattle.gt_script.specs.Script.{Wrong}
use Rattle.gt_script.specs.Laws.{lines_said, domain_in, step_on, task_on, is_for, GiveParts, IsTripleScript}
use Rattle.gt_script.specs.Laws.{IsPolicyScript}
use Rattle.gt_script.specs.Laws.{IsScriptFor, HasBlock, lines_before, IsOpen, IsFaultOfLine, IsFaultOfEnd}
use Rattle.gt_script.specs.Laws.{IsFirstScriptFault}
use Rattle.gt_script.specs.Laws.{IsFaultBehind, IsFaultOfLines, IsUnread, IsFaultOfScript, IsFaultOfBlock, StandsFor}
use Rattle.gt_script.specs.Outcomes.{AnswersScript, GivesScript}
use Rattle.gt_script.specs.declared.command.ScriptCommand.{ScriptCommand}
use Rattle.gt_script.specs.declared.script.Script.{Script}
use Rattle.gt_script.specs.declared.faults.ScriptError.{ScriptError}
use Rattle.gt_script.specs.declared.faults.ScriptError.TheVariants as script_errors
use Rattle.gt_script.specs.declared.faults.ScriptFaultKind.{ScriptFaultKind}
use Rattle.gt_script.specs.declared.faults.ScriptFaultKind.TheVariants.{Syntax, Config}
use Rattle.gt_script.specs.declared.faults.ScriptFault.{ScriptFault}
use Rattle.gt_text.specs.Laws.{take_whole}
use Rattle.gt_script.proofs.FlagLemmas.{FlagsKept-refl}
use Rattle.gt_script.proofs.BlockLemmas.{OpensAt, opens_at, none_opens, ClosesAt, closes_at, none_closes}
use Rattle.gt_script.proofs.ScriptLemmas.{texts}
use Rattle.gt_script.proofs.LawLemmas.{with_lines-Extends, faultless-none}
use Rattle.gt_script.proofs.TypeLemmas.{Grown-refl}
use Rattle.gt_script.proofs.WearLemmas.{first_gen-small}

-- the first line with a fault

with_lines-first : (n : ℕ) (l : List ℕ) (ls : List (List ℕ)) (c d : Contents) → with_words c n (words l) ≡ Ok d → with_lines c n (l ∷ ls) ≡ with_lines d (n + 1) ls
with_lines-first n l ls c d p = ap (λ (r : Result Contents ScriptFaultKind). let whole : Result Contents ScriptFault = elim r [ Ok e ↦ with_lines e (n + 1) ls | Err kind ↦ Err (record { line = n; kind = kind }) ] in whole) p

fault-later : (n : ℕ) (l : List ℕ) (ls : List (List ℕ)) (c d : Contents) (f : ScriptFault) → with_words c n (words l) ≡ Ok d → IsFaultOfLine (n + 1) ls d f → IsFaultOfLine n (l ∷ ls) c f
fault-later n l ls c d f p x = record {
  place = suc x.place;
  line = x.line;
  before = x.before;
  number = x.number ∙ omega arith;
  there = x.there;
  earlier = with_lines-first n l (take x.place ls) c d p ∙ x.earlier;
  here = x.here;
}

fault-line : (n : ℕ) (l : List ℕ) (ls : List (List ℕ)) (c : Contents) (f : ScriptFault) (r : Result Contents ScriptFaultKind) → with_words c n (words l) ≡ r
    → ((d : Contents) → with_lines d (n + 1) ls ≡ Err f → IsFaultOfLine (n + 1) ls d f)
    → (let whole : Result Contents ScriptFault = elim r [ Ok d ↦ with_lines d (n + 1) ls | Err kind ↦ Err (record { line = n; kind = kind }) ] in whole ≡ Err f) → IsFaultOfLine n (l ∷ ls) c f
fault-line n l ls c f (Ok d) p rest h = fault-later n l ls c d f p (rest d h)
fault-line n l ls c f (Err kind) p rest h =
    let same : record { line = n; kind = kind } ≡ f = cc in
    subst (λ (g : ScriptFault). IsFaultOfLine n (l ∷ ls) c g) same (record { place = 0; line = l; before = c; number = omega arith; there = refl; earlier = refl; here = p })

fault-at : (n : ℕ) (ls : List (List ℕ)) (c : Contents) (f : ScriptFault) → with_lines c n ls ≡ Err f → IsFaultOfLine n ls c f
fault-at n [] c f h = absurd cc
fault-at n (l ∷ ls) c f h = fault-line n l ls c f (with_words c n (words l)) refl (λ d. fault-at (n + 1) ls d f) h

-- the end of a script

empty-true : {X : Type 0} (xs : List X) → is_empty xs ≡ true → xs ≡ []
empty-true [] h = refl
empty-true (x ∷ xs) h = absurd (grind (arith, nat_tests))

empty-false : {X : Type 0} (xs : List X) → is_empty xs ≡ false → 1 ≤ length xs
empty-false [] h = absurd cc
empty-false (x ∷ xs) h = omega arith

lacks-both : (o : Option Allowed) (t : Bool) → (is_none o && t) ≡ true → (o ≡ None) × (t ≡ true)
lacks-both None true h = (refl, refl)
lacks-both None false h = absurd cc
lacks-both (Some p) t h = absurd cc

no_rights : (c : Contents) → has_no_rights c ≡ true → (c.policy ≡ None) × (c.triples ≡ [])
unfolding has_no_rights
no_rights c h = let both = lacks-both c.policy (is_empty c.triples) h in (both.0, empty-true c.triples both.1)

has-triple : (o : Option Allowed) (t : Bool) → o ≡ None → (is_none o && t) ≡ false → t ≡ false
has-triple None t is h = h
has-triple (Some p) t is h = absurd cc

some_triple-of : (c : Contents) → c.policy ≡ None → has_no_rights c ≡ false → 1 ≤ length c.triples
unfolding has_no_rights
some_triple-of c free h = empty-false c.triples (has-triple c.policy (is_empty c.triples) free h)

some-rights : (o : Option Allowed) (t : List Triple) → (is_none o && is_empty t) ≡ false → (1 ≤ length t) ⊎ IsSome o
some-rights None t h = inl (empty-false t h)
some-rights (Some p) t h = inr refl

some_rights : (c : Contents) → has_no_rights c ≡ false → (1 ≤ length c.triples) ⊎ IsSome c.policy
unfolding has_no_rights
some_rights c h = some-rights c.policy c.triples h

-- what the end of a script says, by whether it has rights and domains
abbrev at_end : ℕ → Contents → Bool → Bool → Result Contents ScriptFault
at_end count c rights domains = cond rights (Err (record { line = count + 1; kind = Syntax })) (cond domains (Err (record { line = count + 1; kind = Config })) (Ok c))

end-fault : (count n : ℕ) (ls : List (List ℕ)) (start c : Contents) (f : ScriptFault) (r d : Bool) → with_lines start n ls ≡ Ok c → has_no_rights c ≡ r → is_empty c.domains ≡ d → at_end count c r d ≡ Err f
    → IsFaultOfEnd count n ls start f
end-fault count n ls start c f true d h p q e =
    let same : record { line = count + 1; kind = Syntax } ≡ f = cc in
    let kind : Syntax ≡ f.kind = ap (λ (g : ScriptFault). g.kind) same in
    let lacks = no_rights c p in
    record { all = c; earlier = h; number = sym (ap (λ (g : ScriptFault). g.line) same); lacks = inl (lacks.0, lacks.1, sym kind) }
end-fault count n ls start c f false true h p q e =
    let same : record { line = count + 1; kind = Config } ≡ f = cc in
    let kind : Config ≡ f.kind = ap (λ (g : ScriptFault). g.kind) same in
    record { all = c; earlier = h; number = sym (ap (λ (g : ScriptFault). g.line) same); lacks = inr (some_rights c p, empty-true c.domains q, sym kind) }
end-fault count n ls start c f false false h p q e = absurd cc

-- a script that the lines make whole
record Whole (n : ℕ) (ls : List (List ℕ)) (start c : Contents) : Type 0 where
  made : with_lines start n ls ≡ Ok c
  rights : has_no_rights c ≡ false
  domains : is_empty c.domains ≡ false

end-whole : (count n : ℕ) (ls : List (List ℕ)) (start c s : Contents) (r d : Bool) → with_lines start n ls ≡ Ok c → has_no_rights c ≡ r → is_empty c.domains ≡ d → at_end count c r d ≡ Ok s → Whole n ls start s
end-whole count n ls start c s true d h p q e = absurd cc
end-whole count n ls start c s false true h p q e = absurd cc
end-whole count n ls start c s false false h p q e =
    let same : c ≡ s = cc in
    subst (λ (k : Contents). Whole n ls start k) same (record { made = h; rights = p; domains = q })

whole-by : (count n : ℕ) (ls : List (List ℕ)) (start s : Contents) (r : Result Contents ScriptFault) → with_lines start n ls ≡ r → completed_if_ok count r ≡ Ok s → Whole n ls start s
unfolding completed
whole-by count n ls start s (Ok c) h e = end-whole count n ls start c s (has_no_rights c) (is_empty c.domains) h refl refl e
whole-by count n ls start s (Err f) h e = absurd cc

fault-by : (count n : ℕ) (ls : List (List ℕ)) (start : Contents) (f : ScriptFault) (r : Result Contents ScriptFault) → with_lines start n ls ≡ r → completed_if_ok count r ≡ Err f → IsFirstScriptFault count start n ls f
unfolding completed
fault-by count n ls start f (Ok c) h e = inr (end-fault count n ls start c f (has_no_rights c) (is_empty c.domains) h refl refl e)
fault-by count n ls start f (Err g) h e = let same : g ≡ f = cc in inl (fault-at n ls start f (h ∙ ap Err same))

in_result-Ok : (r : Result Contents ScriptFault) (s : Contents) → Ok s ≡ in_result r → r ≡ Ok s
in_result-Ok (Ok c) s e = let same : c ≡ s = cc in ap Ok same
in_result-Ok (Err f) s e = absurd cc

in_result-script : (r : Result Contents ScriptFault) (f : ScriptFault) → Err (in_script f) ≡ in_result r → r ≡ Err f
in_result-script (Ok c) f e = absurd cc
in_result-script (Err g) f e = let same : g ≡ f = cc in ap Err same

in_result-policy : (r : Result Contents ScriptFault) (g : policy.TokenFault) → Err (in_policy g) ≡ in_result r → ⊥
in_result-policy (Ok c) g e = cc
in_result-policy (Err f) g e = cc

-- a script without fault

triple_script : (command : ScriptCommand) (ls : List (List ℕ)) (s : Contents) → Whole 1 ls (empty command) s → IsTripleScript command ls s
triple_script command ls s w =
    let x = with_lines-Extends 1 ls (empty command) s w.made in
    record {
      parts = record {
        readable = x.readable;
        triples = x.triples s.types (Grown-refl s.types);
        wear = x.wear;
        domains = subst (λ (o : Option Allowed). s.domains ≡ filter_map (λ l. domain_in (type_names_with o s.types) l.1) (lines_said 1 ls)) (sym x.policy) (x.domains s.types (Grown-refl s.types));
        steps = subst (λ (k : ScriptCommand). s.steps ≡ filter_map (λ l. step_on k l.0 l.1) (lines_said 1 ls)) (sym x.command) x.steps;
        flags = x.flags;
        tasks = subst (λ (k : ScriptCommand). s.tasks ≡ filter_map (λ l. task_on k s.flags l.0 l.1) (lines_said 1 ls)) (sym x.command) (x.tasks s.flags (FlagsKept-refl s.flags));
        suited = subst (λ (k : ScriptCommand). All (λ l. IsTrue (is_for k l.1)) (lines_said 1 ls)) (sym x.command) x.suited;
        faultless = x.faultless faultless-none;
        generation = first_gen-small 1 ls s.wear x.wear;
        configured = x.configured (λ k y past. absurd (omega arith));
        ordered = x.ordered (λ k y past. absurd (omega arith));
        numbered = x.numbered (λ k y past. absurd (omega arith));
        some_domain = empty-false s.domains w.domains;
      };
      for_command = x.command;
      policy = x.policy;
      distinct = x.types.distinct (λ i j y below past. absurd (omega arith));
      few_types = x.types.few (omega arith);
      some_triple = some_triple-of s x.policy w.rights;
    }

rest_says : (command : ScriptCommand) (n : ℕ) (ls : List (List ℕ)) (p : Allowed) (s : Contents) → Whole n ls (with_policy command p) s → GiveParts n ls s
rest_says command n ls p s w =
    let x = with_lines-Extends n ls (with_policy command p) s w.made in
    record {
      readable = x.readable;
      triples = x.triples s.types (Grown-refl s.types);
      wear = x.wear;
      domains = subst (λ (o : Option Allowed). s.domains ≡ filter_map (λ l. domain_in (type_names_with o s.types) l.1) (lines_said n ls)) (sym x.policy) (x.domains s.types (Grown-refl s.types));
      steps = subst (λ (k : ScriptCommand). s.steps ≡ filter_map (λ l. step_on k l.0 l.1) (lines_said n ls)) (sym x.command) x.steps;
      flags = x.flags;
      tasks = subst (λ (k : ScriptCommand). s.tasks ≡ filter_map (λ l. task_on k s.flags l.0 l.1) (lines_said n ls)) (sym x.command) (x.tasks s.flags (FlagsKept-refl s.flags));
      suited = subst (λ (k : ScriptCommand). All (λ l. IsTrue (is_for k l.1)) (lines_said n ls)) (sym x.command) x.suited;
      faultless = x.faultless faultless-none;
      generation = first_gen-small n ls s.wear x.wear;
      configured = x.configured (λ k y past. absurd (omega arith));
      ordered = x.ordered (λ k y past. absurd (omega arith));
      numbered = x.numbered (λ k y past. absurd (omega arith));
      some_domain = empty-false s.domains w.domains;
    }

-- the block of lines that open one and close it

record Block (ls : List (List ℕ)) (first end : ℕ) : Type 0 where
  has : HasBlock ls (take end (drop first ls)) (drop (end + 1) (drop first ls))
  before : lines_before has ≡ first
  many : length (take end (drop first ls)) ≡ end

block-with : (ls : List (List ℕ)) (place end : ℕ) → OpensAt ls place → ClosesAt (drop (place + 1) ls) end → Block ls (place + 1) end
block-with ls place end o c =
    let inner : drop (place + 1) ls ≡ take end (drop (place + 1) ls) ++ c.closer ∷ drop (end + 1) (drop (place + 1) ls) =
    c.parts ∙ (let same : suc end ≡ end + 1 = omega arith in ap (λ (k : ℕ). take end (drop (place + 1) ls) ++ c.closer ∷ drop k (drop (place + 1) ls)) same) in
    let outer : ls ≡ take place ls ++ o.opener ∷ drop (place + 1) ls =
    o.parts ∙ (let same : suc place ≡ place + 1 = omega arith in ap (λ (k : ℕ). take place ls ++ o.opener ∷ drop k ls) same) in
    record {
      has = record {
        front = take place ls;
        opener = o.opener;
        closer = c.closer;
        parts = outer ∙ ap (λ (l : List (List ℕ)). take place ls ++ o.opener ∷ l) inner;
        nothing = o.nothing;
        opens = o.opens;
        inside = c.inside;
        closes = c.closes;
      };
      before = ap (λ (k : ℕ). k + 1) o.many;
      many = c.many;
    }

block-at : (ls : List (List ℕ)) (place end : ℕ) → opening ls ≡ Some place → closing (drop (place + 1) ls) ≡ Some end → Block ls (place + 1) end
block-at ls place end o c = block-with ls place end (opens_at ls place o) (closes_at (drop (place + 1) ls) end c)

-- the number of the line behind a block
number-behind : (ls : List (List ℕ)) (first end : ℕ) → (b : Block ls first end) → first + end + 1 + 1 ≡ lines_before b.has + length (take end (drop first ls)) + 2
number-behind ls first end b =
    let same : first + end + 1 + 1 ≡ first + end + 2 = omega arith in
    same ∙ sym (ap (λ (k : ℕ). k + length (take end (drop first ls)) + 2) b.before ∙ ap (λ (k : ℕ). first + k + 2) b.many)

policy_script : (command : ScriptCommand) (ls : List (List ℕ)) (first end : ℕ) (p : Allowed) (s : Contents) → Block ls first end → BlockMeans (take end (drop first ls)) p
    → Whole (first + end + 1 + 1) (drop (end + 1) (drop first ls)) (with_policy command p) s → IsPolicyScript command ls s
policy_script command ls first end p s b means w =
    let x = with_lines-Extends (first + end + 1 + 1) (drop (end + 1) (drop first ls)) (with_policy command p) s w.made in
    record {
      block = take end (drop first ls);
      rest = drop (end + 1) (drop first ls);
      has = b.has;
      rights = p;
      means = means;
      for_command = x.command;
      policy = x.policy;
      parts = subst (λ (k : ℕ). GiveParts k (drop (end + 1) (drop first ls)) s) (number-behind ls first end b) (rest_says command (first + end + 1 + 1) (drop (end + 1) (drop first ls)) p s w);
      no_triples = x.no_triples p refl;
    }

-- what the lines say, if it is no fault

closed-Ok : (command : ScriptCommand) (ls : List (List ℕ)) (first end : ℕ) (s : Contents) → Block ls first end → ClosedReads command (length ls) first (drop first ls) end (Ok s) → IsScriptFor command ls s
closed-Ok command ls first end s b (inl (p, means, e)) =
    inr (policy_script command ls first end p s b means
    (whole-by (length ls) (first + end + 1 + 1) (drop (end + 1) (drop first ls)) (with_policy command p) s (with_lines (with_policy command p) (first + end + 1 + 1) (drop (end + 1) (drop first ls))) refl (in_result-Ok _ s e)))
closed-Ok command ls first end s b (inr (g, faulty, e)) = absurd cc

block-Ok : (command : ScriptCommand) (ls : List (List ℕ)) (place : ℕ) (o : Option ℕ) (s : Contents) → opening ls ≡ Some place → closing (drop (place + 1) ls) ≡ o → BlockReads command (length ls) (place + 1) (drop (place + 1) ls) o (Ok s) → IsScriptFor command ls s
block-Ok command ls place None s opens closes e = absurd cc
block-Ok command ls place (Some end) s opens closes e = closed-Ok command ls (place + 1) end s (block-at ls place end opens closes) e

lines-Ok : (command : ScriptCommand) (ls : List (List ℕ)) (o : Option ℕ) (s : Contents) → opening ls ≡ o → LinesRead command ls o (Ok s) → IsScriptFor command ls s
lines-Ok command ls None s opens e = inl (triple_script command ls s (whole-by (length ls) 1 ls (empty command) s (with_lines (empty command) 1 ls) refl (in_result-Ok _ s e)))
lines-Ok command ls (Some place) s opens e = block-Ok command ls place (closing (drop (place + 1) ls)) s opens refl e

-- what the lines say, if it is a fault

open-with : (ls : List (List ℕ)) (place : ℕ) → OpensAt ls place → closing (drop (place + 1) ls) ≡ None → IsOpen ls
open-with ls place o none = record {
  front = take place ls;
  opener = o.opener;
  block = drop (place + 1) ls;
  parts = o.parts ∙ (let same : suc place ≡ place + 1 = omega arith in ap (λ (k : ℕ). take place ls ++ o.opener ∷ drop k ls) same);
  nothing = o.nothing;
  opens = o.opens;
  inside = none_closes (drop (place + 1) ls) none;
}

closed-script : (command : ScriptCommand) (ls : List (List ℕ)) (first end : ℕ) (f : ScriptFault) → Block ls first end → ClosedReads command (length ls) first (drop first ls) end (Err (in_script f)) → IsFaultBehind command ls f
closed-script command ls first end f b (inl (p, means, e)) =
    let r = fault-by (length ls) (first + end + 1 + 1) (drop (end + 1) (drop first ls)) (with_policy command p) f (with_lines (with_policy command p) (first + end + 1 + 1) (drop (end + 1) (drop first ls))) refl (in_result-script _ f e) in
    record {
      block = take end (drop first ls);
      rest = drop (end + 1) (drop first ls);
      has = b.has;
      rights = p;
      means = means;
      first = subst (λ (k : ℕ). IsFirstScriptFault (length ls) (with_policy command p) k (drop (end + 1) (drop first ls)) f) (number-behind ls first end b) r;
    }
closed-script command ls first end f b (inr (g, faulty, e)) = absurd cc

block-script : (command : ScriptCommand) (ls : List (List ℕ)) (place : ℕ) (o : Option ℕ) (f : ScriptFault) → opening ls ≡ Some place → closing (drop (place + 1) ls) ≡ o → BlockReads command (length ls) (place + 1) (drop (place + 1) ls) o (Err (in_script f)) → IsFaultOfLines command ls f
block-script command ls place None f opens closes e = inr (inl (open-with ls place (opens_at ls place opens) closes, cc))
block-script command ls place (Some end) f opens closes e = inr (inr (closed-script command ls (place + 1) end f (block-at ls place end opens closes) e))

lines-script : (command : ScriptCommand) (ls : List (List ℕ)) (o : Option ℕ) (f : ScriptFault) → opening ls ≡ o → LinesRead command ls o (Err (in_script f)) → IsFaultOfLines command ls f
lines-script command ls None f opens e = inl (none_opens ls opens, fault-by (length ls) 1 ls (empty command) f (with_lines (empty command) 1 ls) refl (in_result-script _ f e))
lines-script command ls (Some place) f opens e = block-script command ls place (closing (drop (place + 1) ls)) f opens refl e

closed-policy : (command : ScriptCommand) (bytes : List ℕ) (first end : ℕ) (g : policy.TokenFault) → length bytes ≤ 1048576 → IsUtf8 bytes → Block (lines_in bytes) first end → ClosedReads command (length (lines_in bytes)) first (drop first (lines_in bytes)) end (Err (in_policy g)) → IsFaultOfBlock bytes g
closed-policy command bytes first end g short text b (inl (p, means, e)) = absurd (in_result-policy _ g e)
closed-policy command bytes first end g short text b (inr (h, faulty, e)) =
    let same : h ≡ g = cc in
    record {
      short = short;
      text = text;
      block = take end (drop first (lines_in bytes));
      rest = drop (end + 1) (drop first (lines_in bytes));
      has = b.has;
      faulty = subst (λ (k : ℕ). IsFaultyBlock k (take end (drop first (lines_in bytes))) g) (sym b.before) (subst (λ (x : policy.TokenFault). IsFaultyBlock first (take end (drop first (lines_in bytes))) x) same faulty);
    }

block-policy : (command : ScriptCommand) (bytes : List ℕ) (place : ℕ) (o : Option ℕ) (g : policy.TokenFault) → length bytes ≤ 1048576 → IsUtf8 bytes → opening (lines_in bytes) ≡ Some place → closing (drop (place + 1) (lines_in bytes)) ≡ o
    → BlockReads command (length (lines_in bytes)) (place + 1) (drop (place + 1) (lines_in bytes)) o (Err (in_policy g)) → IsFaultOfBlock bytes g
block-policy command bytes place None g short text opens closes e = absurd cc
block-policy command bytes place (Some end) g short text opens closes e = closed-policy command bytes (place + 1) end g short text (block-at (lines_in bytes) place end opens closes) e

lines-policy : (command : ScriptCommand) (bytes : List ℕ) (o : Option ℕ) (g : policy.TokenFault) → length bytes ≤ 1048576 → IsUtf8 bytes → opening (lines_in bytes) ≡ o → LinesRead command (lines_in bytes) o (Err (in_policy g)) → IsFaultOfBlock bytes g
lines-policy command bytes None g short text opens e = absurd (in_result-policy _ g e)
lines-policy command bytes (Some place) g short text opens e = block-policy command bytes place (closing (drop (place + 1) (lines_in bytes))) g short text opens refl e

-- what bytes say

tells-Ok : (command : ScriptCommand) (bytes : List ℕ) (s : Contents) → ReadsFor command bytes (Ok s) → IsScriptFor command (lines_in bytes) s
tells-Ok command bytes s (inl (long, e)) = absurd cc
tells-Ok command bytes s (inr (inl (short, bad, e))) = absurd cc
tells-Ok command bytes s (inr (inr (short, text, says))) = lines-Ok command (lines_in bytes) (opening (lines_in bytes)) s refl says

tells-script : (command : ScriptCommand) (bytes : List ℕ) (f : ScriptFault) → ReadsFor command bytes (Err (in_script f)) → IsFaultOfScript command bytes f
tells-script command bytes f (inl (long, e)) = inl (inl (long, cc))
tells-script command bytes f (inr (inl (short, bad, e))) = inl (inr (short, bad, cc))
tells-script command bytes f (inr (inr (short, text, says))) = inr (short, text, lines-script command (lines_in bytes) (opening (lines_in bytes)) f refl says)

tells-policy : (command : ScriptCommand) (bytes : List ℕ) (g : policy.TokenFault) → ReadsFor command bytes (Err (in_policy g)) → IsFaultOfBlock bytes g
tells-policy command bytes g (inl (long, e)) = absurd cc
tells-policy command bytes g (inr (inl (short, bad, e))) = absurd cc
tells-policy command bytes g (inr (inr (short, text, says))) = lines-policy command bytes (opening (lines_in bytes)) g short text refl says

pub answers-script : (command : ScriptCommand) (bytes : List ℕ) (r : Result Script ScriptError) → AnswersScript r (ReadsFor command bytes) → IfOk r (λ s. IsScriptFor command (lines_in bytes) (contents_of s))
answers-script command bytes (Ok s) h = tells-Ok command bytes (contents_of s) h
answers-script command bytes (Err e) h = tt

pub answers-fault : (command : ScriptCommand) (bytes : List ℕ) (r : Result Script ScriptError) → AnswersScript r (ReadsFor command bytes) → IfErr r (λ e. StandsFor command bytes e)
answers-fault command bytes (Ok s) h = tt
answers-fault command bytes (Err script_errors.Memory) h = tt
answers-fault command bytes (Err (script_errors.Fault f)) h = tells-script command bytes f h
answers-fault command bytes (Err (script_errors.Policy e)) (g, shown, h) = (g, shown, tells-policy command bytes g h)

-- a text past the limit is as long as what is read of it

longer : (n : ℕ) (xs : List ℕ) → n < length (take (n + 1) xs) → n < length xs
longer n xs h = let many : length (take (n + 1) xs) ≤ length xs = rw length-take (omega arith) in omega (arith, many, h)

tells-all : (command : ScriptCommand) (all : List ℕ) (lines_said : Result Contents Wrong) → ReadsFor command (take 1048577 all) lines_said → ReadsFor command all lines_said
tells-all command all lines_said (inl (long, e)) = inl (longer 1048576 all long, e)
tells-all command all lines_said (inr (inl (short, bad, e))) = subst (λ (l : List ℕ). ReadsFor command l lines_said) (take_whole 1048576 all short) (inr (inl (short, bad, e)))
tells-all command all lines_said (inr (inr (short, text, says))) = subst (λ (l : List ℕ). ReadsFor command l lines_said) (take_whole 1048576 all short) (inr (inr (short, text, says)))

pub answers-all : (command : ScriptCommand) (bytes all : List ℕ) (r : Result Script ScriptError) → bytes ≡ take 1048577 all → AnswersScript r (ReadsFor command bytes) → AnswersScript r (ReadsFor command all)
answers-all command bytes all (Ok s) e h = tells-all command all (Ok (contents_of s)) (subst (λ (l : List ℕ). ReadsFor command l (Ok (contents_of s))) e h)
answers-all command bytes all (Err script_errors.Memory) e h = tt
answers-all command bytes all (Err (script_errors.Fault f)) e h = tells-all command all (Err (in_script f)) (subst (λ (l : List ℕ). ReadsFor command l (Err (in_script f))) e h)
answers-all command bytes all (Err (script_errors.Policy fault)) e (g, shown, h) = (g, shown, tells-all command all (Err (in_policy g)) (subst (λ (l : List ℕ). ReadsFor command l (Err (in_policy g))) e h))

-- from the answers of the parts to those of the whole

pub answers-lines : (r : Result Script ScriptError) (all : Result Contents ScriptFault) → GivesScript r all → AnswersScript r (λ w. w ≡ in_result all)
answers-lines (Ok s) all h = ap in_result (sym h)
answers-lines (Err script_errors.Memory) all h = tt
answers-lines (Err (script_errors.Fault f)) all h = ap in_result (sym h)
answers-lines (Err (script_errors.Policy e)) all h = absurd h

pub answers-weaker : (r : Result Script ScriptError) (P Q : Result Contents Wrong → Type 0) → ((w : Result Contents Wrong) → P w → Q w) → AnswersScript r P → AnswersScript r Q
answers-weaker (Ok s) P Q f h = f (Ok (contents_of s)) h
answers-weaker (Err script_errors.Memory) P Q f h = tt
answers-weaker (Err (script_errors.Fault g)) P Q f h = f (Err (in_script g)) h
answers-weaker (Err (script_errors.Policy e)) P Q f (g, shown, h) = (g, shown, f (Err (in_policy g)) h)

-- a text that is none
pub answers-unread : (command : ScriptCommand) (bytes : List ℕ) (f : ScriptFault) → IsUnread bytes f → ReadsFor command bytes (Err (in_script f))
answers-unread command bytes f (inl (long, e)) = inl (long, ap (λ (g : ScriptFault). Err (in_script g)) e)
answers-unread command bytes f (inr (short, bad, e)) = inr (inl (short, bad, ap (λ (g : ScriptFault). Err (in_script g)) e))

-- a text
pub answers-text : (command : ScriptCommand) (bytes text : List ℕ) (r : Result Script ScriptError) → text ≡ bytes → length bytes ≤ 1048576 → IsUtf8 bytes → AnswersScript r (TextReads command text) → AnswersScript r (ReadsFor command bytes)
answers-text command bytes text r same short utf8 h =
    subst (λ (l : List ℕ). AnswersScript r (ReadsFor command l)) same (answers-weaker r (TextReads command text) (ReadsFor command text) (λ w says. inr (inr (subst (λ (l : List ℕ). length l ≤ 1048576) (sym same) short, subst IsUtf8 (sym same) utf8, says))) h)

-- the parts of a text with a policy block

texts-take : (n : ℕ) (ls : List (Bor (List ℕ))) → texts (take n ls) ≡ take n (texts ls)
texts-take n ls = sym (take-map (λ (l : Bor (List ℕ)). l.now) n ls)

texts-drop : (n : ℕ) (ls : List (Bor (List ℕ))) → texts (drop n ls) ≡ drop n (texts ls)
texts-drop n ls = sym (drop-map (λ (l : Bor (List ℕ)). l.now) n ls)

take_rest : (n : ℕ) (ls : List (Bor (List ℕ))) → take (length ls - n) (drop n ls) ≡ drop n ls
take_rest n ls = let few : length (drop n ls) ≤ length ls - n = rw length-drop (omega arith) in take_all (length ls - n) (drop n ls) few

texts-length : (ls : List (Bor (List ℕ))) → length (texts ls) ≡ length ls
texts-length [] = refl
texts-length (l ∷ ls) = ap suc (texts-length ls)

-- no line closes the block
pub block_open : (command : ScriptCommand) (count first : ℕ) (lines : List (List ℕ)) (o : Option ℕ) → o ≡ closing lines → o ≡ None → BlockReads command count first lines (closing lines) (Err (in_script (record { line = count + 1; kind = Syntax })))
block_open command count first lines o closes none =
    subst (λ (q : Option ℕ). BlockReads command count first lines q (Err (in_script (record { line = count + 1; kind = Syntax })))) (sym none ∙ closes) refl

-- a line closes it, and the lines behind it say the rest
pub block_rest : (command : ScriptCommand) (count first end : ℕ) (lines : List (Bor (List ℕ))) (p : Allowed) (c : Contents) (r : Result Script ScriptError) → Some end ≡ closing (texts lines) → BlockMeans (texts (take end lines)) p → c ≡ with_policy command p
    → GivesScript r (whole_script count c (first + end + 1 + 1) (texts (take (length lines - (end + 1)) (drop (end + 1) lines)))) → AnswersScript r (BlockReads command count first (texts lines) (closing (texts lines)))
block_rest command count first end lines p c r closes means starts h =
    let lines_said : GivesScript r (whole_script count (with_policy command p) (first + end + 1 + 1) (drop (end + 1) (texts lines))) =
    subst (λ (l : List (List ℕ)). GivesScript r (whole_script count (with_policy command p) (first + end + 1 + 1) l)) (ap texts (take_rest (end + 1) lines) ∙ texts-drop (end + 1) lines)
    (subst (λ (k : Contents). GivesScript r (whole_script count k (first + end + 1 + 1) (texts (take (length lines - (end + 1)) (drop (end + 1) lines))))) starts h) in
    let meant : BlockMeans (take end (texts lines)) p = subst (λ (l : List (List ℕ)). BlockMeans l p) (texts-take end lines) means in
    subst (λ (q : Option ℕ). AnswersScript r (BlockReads command count first (texts lines) q)) closes
    (answers-weaker r (λ w. w ≡ in_result (whole_script count (with_policy command p) (first + end + 1 + 1) (drop (end + 1) (texts lines)))) (ClosedReads command count first (texts lines) end) (λ w e. inl (p, meant, e)) (answers-lines r _ lines_said))

block-fault : (command : ScriptCommand) (count first end : ℕ) (lines : List (List ℕ)) (error : ScriptError) → IsPolicyOf first (take end lines) (Err error) → AnswersScript (Err error) (ClosedReads command count first lines end)
block-fault command count first end lines script_errors.Memory h = tt
block-fault command count first end lines (script_errors.Fault f) h = absurd h
block-fault command count first end lines (script_errors.Policy e) (g, shown, faulty) = (g, shown, inr (g, faulty, refl))

pub block_faulty : (command : ScriptCommand) (count first end : ℕ) (lines : List (Bor (List ℕ))) (error : ScriptError) → Some end ≡ closing (texts lines) → IsPolicyOf first (texts (take end lines)) (Err error)
    → AnswersScript (Err error) (BlockReads command count first (texts lines) (closing (texts lines)))
block_faulty command count first end lines error closes h =
    subst (λ (q : Option ℕ). AnswersScript (Err error) (BlockReads command count first (texts lines) q)) closes
    (block-fault command count first end (texts lines) error (subst (λ (l : List (List ℕ)). IsPolicyOf first l (Err error)) (texts-take end lines) h))

-- lines with a block
pub lines_block : (command : ScriptCommand) (lines : List (Bor (List ℕ))) (place : ℕ) (r : Result Script ScriptError) → Some place ≡ opening (texts lines)
    → (let behind : List (Bor (List ℕ)) = take (length lines - (place + 1)) (drop (place + 1) lines) in AnswersScript r (BlockReads command (length lines) (place + 1) (texts behind) (closing (texts behind)))) → AnswersScript r (LinesRead command (texts lines) (opening (texts lines)))
lines_block command lines place r opens h =
    subst (λ (q : Option ℕ). AnswersScript r (LinesRead command (texts lines) q)) opens
    (subst (λ (k : ℕ). AnswersScript r (BlockReads command k (place + 1) (drop (place + 1) (texts lines)) (closing (drop (place + 1) (texts lines))))) (sym (texts-length lines))
    (subst (λ (l : List (List ℕ)). AnswersScript r (BlockReads command (length lines) (place + 1) l (closing l))) (ap texts (take_rest (place + 1) lines) ∙ texts-drop (place + 1) lines) h))

-- lines without one
pub lines_none : (command : ScriptCommand) (lines : List (Bor (List ℕ))) (c : Contents) (o : Option ℕ) (r : Result Script ScriptError) → o ≡ opening (texts lines) → o ≡ None → c ≡ (empty command)
    → GivesScript r (whole_script (length lines) c (0 + 1) (texts lines)) → AnswersScript r (LinesRead command (texts lines) (opening (texts lines)))
lines_none command lines c o r opens none starts h =
    let lines_said : GivesScript r (whole_script (length (texts lines)) (empty command) 1 (texts lines)) =
    subst (λ (k : ℕ). GivesScript r (whole_script k (empty command) 1 (texts lines))) (sym (texts-length lines)) (subst (λ (k : Contents). GivesScript r (whole_script (length lines) k 1 (texts lines))) starts h) in
    subst (λ (q : Option ℕ). AnswersScript r (LinesRead command (texts lines) q)) (sym none ∙ opens) (answers-lines r (whole_script (length (texts lines)) (empty command) 1 (texts lines)) lines_said)

-- the policy of a block's text

shown-fault : (before line : ℕ) (kind : kinds.PolicyFaultKind) (lines : List (List ℕ)) → ((f : policy.TokenFault) → fault_shown (record { line = line; kind = kind }) ≡ Some f → policies.ReadsAs (block_text lines) (Err f))
    → IsPolicyOf before lines (Err (error_in_block (before + line) kind))
shown-fault before line policy_fault_kinds.Memory lines says = tt
shown-fault before line policy_fault_kinds.Syntax lines says = (_, refl, (_, says _ refl, refl))
shown-fault before line (policy_fault_kinds.Unknown name) lines says = (_, refl, (_, says _ refl, refl))
shown-fault before line (policy_fault_kinds.Twice name) lines says = (_, refl, (_, says _ refl, refl))
shown-fault before line (policy_fault_kinds.Permission name) lines says = (_, refl, (_, says _ refl, refl))
shown-fault before line (policy_fault_kinds.Outside word) lines says = (_, refl, (_, says _ refl, refl))
shown-fault before line policy_fault_kinds.Limit lines says = (_, refl, (_, says _ refl, refl))

pub policy_faulty : (before line : ℕ) (kind : kinds.PolicyFaultKind) (lines : List (List ℕ)) (text : List ℕ) (error : ScriptError) → text ≡ block_text lines
    → ((f : policy.TokenFault) → fault_shown (record { line = line; kind = kind }) ≡ Some f → policies.ReadsAs text (Err f)) → error ≡ error_in_block (before + line) kind → IsPolicyOf before lines (Err error)
policy_faulty before line kind lines text error same says is =
    subst (λ (e : ScriptError). IsPolicyOf before lines (Err e)) (sym is) (shown-fault before line kind lines (λ f shown. subst (λ (t : List ℕ). policies.ReadsAs t (Err f)) same (says f shown)))

-- the names of a policy's types, one more
pub name_more : (types names after : List (List ℕ)) (i : ℕ) (name : List ℕ) → names ≡ take i types → Some name ≡ slice_get types i → after ≡ names ++ name ∷ [] → after ≡ take (i + 1) types
name_more types names after i name so_far there pushed =
    let within : i < length types = slice_get_within types i name (sym there) in
    let is : get_or types i name ≡ name = get_or_from_slice_get types i name name (sym there) in
    pushed ∙ ap (λ (l : List (List ℕ)). l ++ name ∷ []) so_far ∙ ap (λ (x : List ℕ). take i types ++ x ∷ []) (sym is) ∙ sym (rw add-one (take-suc types i name within))
