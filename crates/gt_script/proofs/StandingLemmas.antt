-- A fault that stands is the one that the bytes tell.
use Rattle.std.proofs.Common.{◌≡◌, ◌≢◌, ◌⊎◌, IsSome, inl, inr, ℕ, zero, suc, ◌+◌, ◌≤◌, ◌&&◌, Bool, true, false, cond}
use Rattle.std.proofs.Common.{List, [], ◌∷◌, ◌++◌, length, take, drop, Option, None, Some, Result, Ok, Err, refl, sym}
use Rattle.std.proofs.Common.{ap, ◌∙◌, subst, arith, All, codes}
use Rattle.std.specs.List.{slice_get}
use Rattle.std.specs.Option.{is_none, option_map}
use Rattle.std.specs.Str.{bytes_eq}
use Rattle.std.specs.Str.Lines.{lines as lines_in}
use Rattle.std.proofs.lemmas.Bool.Decides.{nat_tests}
use Rattle.std.proofs.lemmas.List.Elements.{All-head, All-tail}
use Rattle.std.proofs.lemmas.Option.{same_Some}
use Rattle.std.proofs.lemmas.Slice.Eq.{bytes_eq-Decides}
use Rattle.std.proofs.Math.Seq.{drop-append-add, take-append_seam}
use Rattle.gt_types.specs.declared.rights.Triple.{Triple}
use Rattle.gt_policy.specs.Allowing.{Allowed}
use Rattle.gt_policy.specs.declared.fault.TokenFault as policy
use Rattle.gt_script_lines.specs.Words.{words}
use Rattle.gt_script.specs.Blocks.{is_just, opening, closing, BlockMeans, IsFaultyBlock}
use Rattle.gt_script.specs.declared.command.ScriptCommand.{ScriptCommand}
use Rattle.gt_script.specs.Contents.{Contents, empty, with_policy}
use Rattle.gt_script.specs.Script.{is_empty, has_no_rights, with_words, with_lines, completed, completed_if_ok}
use Rattle.gt_script.specs.Script.{whole_script}
use Rattle.gt_script.specs.Script.{in_result, in_script, in_policy, BlockReads, LinesRead, ReadsFor, Wrong}
use Rattle.gt_script.specs.Laws.{HasBlock, lines_before, IsFirstScriptFault, IsFaultOfLines, IsFaultOfScript}
use Rattle.gt_script.specs.Laws.{IsFaultOfBlock}
use Rattle.gt_script.specs.declared.faults.ScriptFaultKind.{ScriptFaultKind}
use Rattle.gt_script.specs.declared.faults.ScriptFaultKind.TheVariants.{Syntax, Config}
use Rattle.gt_script.specs.declared.faults.ScriptFault.{ScriptFault}
use Rattle.gt_script.proofs.BlockLemmas.{opening-blank, opening-words, closing-here, closing-later}

-- the first line with a fault

made : (n : ℕ) (kind : ScriptFaultKind) (f : ScriptFault) → f.line ≡ n → f.kind ≡ kind → record { line = n; kind = kind } ≡ f
made n kind f p q = λ i. record { line = sym p i; kind = sym q i }

line-fault : (n : ℕ) (ls : List (List ℕ)) (c : Contents) (f : ScriptFault) (place : ℕ) (line : List ℕ) (before : Contents) → f.line ≡ n + place → slice_get ls place ≡ Some line → with_lines c n (take place ls) ≡ Ok before
    → with_words before f.line (words line) ≡ Err f.kind → with_lines c n ls ≡ Err f
line-fault n [] c f place line before number there earlier here = absurd cc
line-fault n (l ∷ ls) c f zero line before number there earlier here =
    let same : l ≡ line = same_Some l line there in let start : c ≡ before = cc in let at : f.line ≡ n = number ∙ omega arith in
    let e : with_words c n (words l) ≡ Err f.kind = (λ i. with_words (start i) (sym at i) (words (same i))) ∙ here in
    ap (λ (r : Result Contents ScriptFaultKind). let whole : Result Contents ScriptFault = elim r [ Ok d ↦ with_lines d (n + 1) ls | Err kind ↦ Err (record { line = n; kind = kind }) ] in whole) e ∙ ap Err (made n f.kind f at refl)
line-fault n (l ∷ ls) c f (suc place) line before number there earlier here =
    by (with_words c n (words l)) (λ d e. line-fault (n + 1) ls d f place line before (number ∙ omega arith) there e here) earlier
  where
    by : (r : Result Contents ScriptFaultKind) → ((d : Contents) → with_lines d (n + 1) (take place ls) ≡ Ok before → with_lines d (n + 1) ls ≡ Err f)
        → (let whole : Result Contents ScriptFault = elim r [ Ok d ↦ with_lines d (n + 1) (take place ls) | Err kind ↦ Err (record { line = n; kind = kind }) ] in whole ≡ Ok before)
        → (let whole : Result Contents ScriptFault = elim r [ Ok d ↦ with_lines d (n + 1) ls | Err kind ↦ Err (record { line = n; kind = kind }) ] in whole ≡ Err f)
    by (Ok d) rest e = rest d e
    by (Err kind) rest e = absurd cc

-- the end of a script

abbrev at_end : ℕ → Contents → Bool → Bool → Result Contents ScriptFault
at_end count c rights domains = cond rights (Err (record { line = count + 1; kind = Syntax })) (cond domains (Err (record { line = count + 1; kind = Config })) (Ok c))

some-rights : (o : Option Allowed) (t : List Triple) → (1 ≤ length t) ⊎ IsSome o → (is_none o && is_empty t) ≡ false
some-rights (Some p) t h = refl
some-rights None [] (inl h) = absurd (omega arith)
some-rights None [] (inr h) = absurd cc
some-rights None (x ∷ xs) h = grind (arith, nat_tests)

end-fault : (count : ℕ) (c : Contents) (f : ScriptFault) → f.line ≡ count + 1
    → ((c.policy ≡ None) × (c.triples ≡ []) × (f.kind ≡ Syntax)) ⊎ (((1 ≤ length c.triples) ⊎ IsSome c.policy) × (c.domains ≡ []) × (f.kind ≡ Config)) → completed count c ≡ Err f
unfolding completed has_no_rights
end-fault count c f number (inl (free, none, kind)) =
    let rights : (is_none c.policy && is_empty c.triples) ≡ true = λ i. is_none (free i) && is_empty (none i) in
    ap (λ (b : Bool). at_end count c b (is_empty c.domains)) rights ∙ ap Err (made (count + 1) Syntax f number kind)
end-fault count c f number (inr (some, none, kind)) =
    let domains : is_empty c.domains ≡ true = λ i. is_empty (none i) in
    ap (λ (b : Bool). at_end count c b (is_empty c.domains)) (some-rights c.policy c.triples some) ∙ ap (at_end count c false) domains ∙ ap Err (made (count + 1) Config f number kind)

first-fault : (count : ℕ) (c : Contents) (n : ℕ) (ls : List (List ℕ)) (f : ScriptFault) → IsFirstScriptFault count c n ls f → whole_script count c n ls ≡ Err f
first-fault count c n ls f (inl x) = ap (completed_if_ok count) (line-fault n ls c f x.place x.line x.before x.number x.there x.earlier x.here)
first-fault count c n ls f (inr x) = ap (completed_if_ok count) x.earlier ∙ end-fault count x.all f x.number x.lacks

-- where a block opens and closes

just-true : (word : List ℕ) (ws : List (List ℕ)) → ws ≡ word ∷ [] → is_just word ws ≡ true
just-true word ws e = ap (is_just word) e ∙ (bytes_eq-Decides word word).1 refl

just-false : (word : List ℕ) (ws : List (List ℕ)) → ws ≢ word ∷ [] → is_just word ws ≡ false
just-false word [] n = refl
just-false word (w ∷ []) n = by (bytes_eq w word) refl
  where
    by : (b : Bool) → bytes_eq w word ≡ b → b ≡ false
    by true e = absurd (n (ap (λ (x : List ℕ). x ∷ []) ((bytes_eq-Decides w word).0 e)))
    by false e = refl
just-false word (w ∷ v ∷ ws) n = refl

some_words : (ws : List (List ℕ)) → ws ≢ [] → length ws ≢ 0
some_words [] n e = n refl
some_words (w ∷ ws) n e = omega arith

opening-at : (front : List (List ℕ)) (opener : List ℕ) (tail : List (List ℕ)) → All (λ l. words l ≡ []) front → words opener ≡ codes "policy" ∷ [] → opening (front ++ opener ∷ tail) ≡ Some (length front)
opening-at [] opener tail nothing opens = opening-words opener tail true (λ e. let one : length (words opener) ≡ 1 = ap length opens in omega arith) (just-true (codes "policy") (words opener) opens)
opening-at (l ∷ ls) opener tail nothing opens = opening-blank l (ls ++ opener ∷ tail) (ap length (All-head (λ x. words x ≡ []) l ls nothing))
    ∙ ap (λ (o : Option ℕ). option_map (λ n. suc n) o) (opening-at ls opener tail (All-tail (λ x. words x ≡ []) l ls nothing) opens)

none-opens : (front others : List (List ℕ)) → All (λ l. words l ≡ []) front → ((l : List ℕ) (ls : List (List ℕ)) → others ≡ l ∷ ls → (words l ≢ []) × (words l ≢ codes "policy" ∷ [])) → opening (front ++ others) ≡ None
none-opens [] [] nothing another = refl
none-opens [] (l ∷ ls) nothing another = let a = another l ls refl in opening-words l ls false (some_words (words l) a.0) (just-false (codes "policy") (words l) a.1)
none-opens (l ∷ ls) others nothing another = opening-blank l (ls ++ others) (ap length (All-head (λ x. words x ≡ []) l ls nothing))
    ∙ ap (λ (o : Option ℕ). option_map (λ n. suc n) o) (none-opens ls others (All-tail (λ x. words x ≡ []) l ls nothing) another)

closing-at : (block : List (List ℕ)) (closer : List ℕ) (rest : List (List ℕ)) → All (λ l. words l ≢ codes "end" ∷ []) block → words closer ≡ codes "end" ∷ [] → closing (block ++ closer ∷ rest) ≡ Some (length block)
closing-at [] closer rest inside closes = closing-here closer rest (just-true (codes "end") (words closer) closes)
closing-at (l ∷ ls) closer rest inside closes = closing-later l (ls ++ closer ∷ rest) (just-false (codes "end") (words l) (All-head (λ x. words x ≢ codes "end" ∷ []) l ls inside))
    ∙ ap (λ (o : Option ℕ). option_map (λ n. suc n) o) (closing-at ls closer rest (All-tail (λ x. words x ≢ codes "end" ∷ []) l ls inside) closes)

none-closes : (block : List (List ℕ)) → All (λ l. words l ≢ codes "end" ∷ []) block → closing block ≡ None
none-closes [] inside = refl
none-closes (l ∷ ls) inside = closing-later l ls (just-false (codes "end") (words l) (All-head (λ x. words x ≢ codes "end" ∷ []) l ls inside))
    ∙ ap (λ (o : Option ℕ). option_map (λ n. suc n) o) (none-closes ls (All-tail (λ x. words x ≢ codes "end" ∷ []) l ls inside))

-- what lines with an opening say
opened-say : (command : ScriptCommand) (lines front : List (List ℕ)) (opener : List ℕ) (tail : List (List ℕ)) (said : Result Contents Wrong) → lines ≡ front ++ opener ∷ tail → All (λ l. words l ≡ []) front → words opener ≡ codes "policy" ∷ []
    → BlockReads command (length lines) (length front + 1) tail (closing tail) said → LinesRead command lines (opening lines) said
opened-say command lines front opener tail said parts nothing opens says =
    subst (λ (o : Option ℕ). LinesRead command lines o said) (sym (ap opening parts ∙ opening-at front opener tail nothing opens))
    (subst (λ (l : List (List ℕ)). BlockReads command (length lines) (length front + 1) l (closing l) said) (sym (ap (drop (length front + 1)) parts ∙ drop-append-add front (opener ∷ tail) 1)) says)

-- what lines with a block say
block-say : (command : ScriptCommand) (lines block rest : List (List ℕ)) (b : HasBlock lines block rest) (said : Result Contents Wrong)
    → (((p : Allowed) × BlockMeans block p × (said ≡ in_result (whole_script (length lines) (with_policy command p) (length b.front + 1 + length block + 1 + 1) rest)))
    ⊎ ((g : policy.TokenFault) × IsFaultyBlock (length b.front + 1) block g × (said ≡ Err (in_policy g)))) → LinesRead command lines (opening lines) said
block-say command lines block rest b said says =
    let tail : List (List ℕ) = block ++ b.closer ∷ rest in
    opened-say command lines b.front b.opener tail said b.parts b.nothing b.opens
    (subst (λ (o : Option ℕ). BlockReads command (length lines) (length b.front + 1) tail o said) (sym (closing-at block b.closer rest b.inside b.closes))
    (subst (λ (u : List (List ℕ) × List (List ℕ)). ((p : Allowed) × BlockMeans u.0 p × (said ≡ in_result (whole_script (length lines) (with_policy command p) (length b.front + 1 + length block + 1 + 1) u.1)))
    ⊎ ((g : policy.TokenFault) × IsFaultyBlock (length b.front + 1) u.0 g × (said ≡ Err (in_policy g))))
    (λ i. (sym (take-append_seam block (b.closer ∷ rest)) i, sym (drop-append-add block (b.closer ∷ rest) 1) i)) says))

fault-of-lines : (command : ScriptCommand) (lines : List (List ℕ)) (f : ScriptFault) → IsFaultOfLines command lines f → LinesRead command lines (opening lines) (Err (in_script f))
fault-of-lines command lines f (inl (none, first)) =
    subst (λ (o : Option ℕ). LinesRead command lines o (Err (in_script f))) (sym (ap opening none.parts ∙ none-opens none.front none.others none.nothing none.another)) (sym (ap in_result (first-fault (length lines) (empty command) 1 lines f first)))
fault-of-lines command lines f (inr (inl (x, is))) =
    opened-say command lines x.front x.opener x.block (Err (in_script f)) x.parts x.nothing x.opens
    (subst (λ (o : Option ℕ). BlockReads command (length lines) (length x.front + 1) x.block o (Err (in_script f))) (sym (none-closes x.block x.inside)) (ap (λ (g : ScriptFault). Err (in_script g)) is))
fault-of-lines command lines f (inr (inr x)) =
    let here : lines_before x.has + length x.block + 2 ≡ length x.has.front + 1 + length x.block + 1 + 1 = omega arith in
    let first = subst (λ (n : ℕ). IsFirstScriptFault (length lines) (with_policy command x.rights) n x.rest f) here x.first in
    block-say command lines x.block x.rest x.has (Err (in_script f)) (inl (x.rights, x.means, sym (ap in_result (first-fault (length lines) (with_policy command x.rights) (length x.has.front + 1 + length x.block + 1 + 1) x.rest f first))))

-- a fault that stands is told
pub fault-told : (command : ScriptCommand) (bytes : List ℕ) (f : ScriptFault) → IsFaultOfScript command bytes f → ReadsFor command bytes (Err (in_script f))
fault-told command bytes f (inl (inl (long, is))) = inl (long, ap (λ (g : ScriptFault). Err (in_script g)) is)
fault-told command bytes f (inl (inr (short, bad, is))) = inr (inl (short, bad, ap (λ (g : ScriptFault). Err (in_script g)) is))
fault-told command bytes f (inr (short, text, x)) = inr (inr (short, text, fault-of-lines command (lines_in bytes) f x))

-- a fault of a block that stands is told
pub block-fault-told : (command : ScriptCommand) (bytes : List ℕ) (g : policy.TokenFault) → IsFaultOfBlock bytes g → ReadsFor command bytes (Err (in_policy g))
block-fault-told command bytes g x = inr (inr (x.short, x.text, block-say command (lines_in bytes) x.block x.rest x.has (Err (in_policy g)) (inr (g, x.faulty, refl))))
