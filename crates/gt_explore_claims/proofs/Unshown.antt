-- Claims that are decided by one text of each kind.
use Rattle.std.proofs.Common.{◌≡◌, ◌∙◌, ◌++◌, ◌+◌, ◌<◌, ℕ, zero, suc, Bool, true, false, List, [], ◌∷◌, All, Option, Some, None, ap, get_or, length, map, refl, subst, sym, slice_get, take}
use Rattle.std.proofs.lemmas.List.{get_or-map, length-map, map-append, take_more}
use Rattle.std.proofs.Math.Bool.{cond}
use Rattle.std.proofs.lemmas.Bool.{false≢true}
use Rattle.std.proofs.lemmas.Iterator.Adapters.{position_from-zero}
use Rattle.std.proofs.lemmas.List.Elements.{All-head}
use Rattle.std.proofs.lemmas.List.Folds.{list_any_at}
use Rattle.std.proofs.lemmas.Option.{get_or_from_slice_get, none-some, same_Some, slice_get-get_or, slice_get_within}
use Rattle.std.specs.Global.{Vec}
use Rattle.std.specs.List.{list_any, position, position_from}
use Rattle.std.specs.Option.{option_map}
use Rattle.std.specs.Prelude.{is_some}
use Rattle.gt_script.specs.RunContents.{RunContents}
use Rattle.gt_explore_answers.specs.Exploring.{AreConditions, AreTextsOf, satisfied}
use Rattle.gt_explore_answers.specs.Outputs.{Found}
use Rattle.gt_explore_answers.specs.declared.asking.ExploreFormat.{ExploreFormat}
use Rattle.gt_explore_kinds.specs.Kinds.{AreOfOneKind, formulas_asked}
use Rattle.gt_explore_replay.specs.Orders.{MayGive}
use Rattle.gt_explore_verdict.proofs.Judged.{judged_means}
use Rattle.gt_explore_verdict.specs.Formulas.{Formula, Op, formula_asked, formula_of, operation_asked, satisfies}
use Rattle.gt_explore_verdict.specs.Judging.{VerdictMeans, judged, shows, verdict_at}
use Rattle.gt_explore_verdict.specs.declared.judging.Claim.{Claim}
use Rattle.gt_explore_verdict.specs.declared.judging.Claim.TheVariants.{Find, Never, Always}
use Rattle.gt_explore_verdict.specs.declared.judging.Judgement.{Judgement}
use Rattle.gt_explore_verdict.specs.declared.judging.Verdict.{Verdict}
use Rattle.gt_explore_verdict.specs.declared.judging.Verdict.TheVariants.{Holds, Fails, Undecided}
use Rattle.gt_explore_verdict.specs.declared.operations.Operation.{Operation}
use Rattle.gt_explore_claims.specs.Deciding.{Numbered, claim_judged, numbered_claim, operations_of, operations_read}
use Rattle.gt_explore_claims.specs.Unlisted.{AnswerMeans, HasEachKindOf, IsDecidedUnshown, ShowNone, formula_of_claim, is_shown, unshown_judgement, unshown_output}
use Rattle.gt_explore_claims.specs.declared.deciding.NumberedClaim.{NumberedClaim}

-- expressions

pub conditions_formula : (c : RunContents) (claim : Numbered) (ops : List Op) → AreConditions c claim.numbered ops → formula_of ops ≡ formula_of_claim claim
conditions_formula c claim ops are = ap (λ r. formula_of (operations_read r)) (sym are.read)

pub formulas_more : (c : RunContents) (claims : List NumberedClaim) (old : List (Vec Operation)) (x : Vec Operation) (new : List (Vec Operation)) (at : ℕ) (claim : NumberedClaim) → at < length claims → new ≡ old ++ x ∷ []
    → AreConditions c (get_or claims at claim).numbered.items (map operation_asked x.items)
    → formulas_asked old ≡ map formula_of_claim (map numbered_claim (take at claims)) → formulas_asked new ≡ map formula_of_claim (map numbered_claim (take (at + 1) claims))
formulas_more c claims old x new at claim lt is are before =
    ap formulas_asked is ∙ map-append (λ (e : Vec Operation). formula_asked e.items) old (x ∷ [])
    ∙ ap (λ (l : List Formula). l ++ formula_asked x.items ∷ []) before
    ∙ ap (λ (f : Formula). map formula_of_claim (map numbered_claim (take at claims)) ++ f ∷ []) (conditions_formula c (numbered_claim (get_or claims at claim)) (map operation_asked x.items) are)
    ∙ sym (ap (λ (l : List NumberedClaim). map formula_of_claim (map numbered_claim l)) (take_more claims at claim lt)
    ∙ ap (map formula_of_claim) (map-append numbered_claim (take at claims) (get_or claims at claim ∷ []))
    ∙ map-append formula_of_claim (map numbered_claim (take at claims)) (numbered_claim (get_or claims at claim) ∷ []))

-- verdicts

-- a text that may be given is one of these
abbrev MayAmong : (List ℕ → Type 0) → List (List ℕ) → List ℕ → Type 0
MayAmong May texts text = May text × ((at : ℕ) × (slice_get texts at ≡ Some text))

-- for each text that may be given one of these satisfies the formula if it does
abbrev Covers : (List ℕ → Type 0) → List (List ℕ) → Formula → Type 0
Covers May texts e = (text : List ℕ) → May text → (one : List ℕ) × MayAmong May texts one × (satisfies e text ≡ satisfies e one)

all_meant : (May : List ℕ → Type 0) (texts : List (List ℕ)) (e : Formula) (claim : Claim) (v : Verdict) → Covers May texts e → VerdictMeans (MayAmong May texts) claim e v → VerdictMeans May claim e v
all_meant May texts e Find Holds covers (text, may, sat) = (text, may.0, sat)
all_meant May texts e Find Fails covers each = λ text may. let (one, among, same) = covers text may in same ∙ each one among
all_meant May texts e Find Undecided covers meant = tt
all_meant May texts e Never Holds covers each = λ text may. let (one, among, same) = covers text may in same ∙ each one among
all_meant May texts e Never Fails covers (text, may, sat) = (text, may.0, sat)
all_meant May texts e Never Undecided covers meant = tt
all_meant May texts e Always Holds covers each = λ text may. let (one, among, same) = covers text may in same ∙ each one among
all_meant May texts e Always Fails covers (text, may, sat) = (text, may.0, sat)
all_meant May texts e Always Undecided covers meant = tt

some_meant : (May : List ℕ → Type 0) (texts : List (List ℕ)) (e : Formula) (claim : Claim) (is_shown : Bool) → VerdictMeans (MayAmong May texts) claim e (verdict_at claim is_shown false) → VerdictMeans May claim e (verdict_at claim is_shown false)
some_meant May texts e Find true (text, may, sat) = (text, may.0, sat)
some_meant May texts e Never true (text, may, sat) = (text, may.0, sat)
some_meant May texts e Always true (text, may, sat) = (text, may.0, sat)
some_meant May texts e Find false meant = tt
some_meant May texts e Never false meant = tt
some_meant May texts e Always false meant = tt

by_whole : (May : List ℕ → Type 0) (texts : List (List ℕ)) (e : Formula) (claim : Claim) (is_shown whole : Bool) → (whole ≡ true → Covers May texts e) → VerdictMeans (MayAmong May texts) claim e (verdict_at claim is_shown whole) → VerdictMeans May claim e (verdict_at claim is_shown whole)
by_whole May texts e claim is_shown true covers meant = all_meant May texts e claim (verdict_at claim is_shown true) (covers refl) meant
by_whole May texts e claim is_shown false covers meant = some_meant May texts e claim is_shown meant

kind_meant : (May : List ℕ → Type 0) (texts : List (List ℕ)) (whole : Bool) (e : Formula) (claim : Claim) → All May texts → (whole ≡ true → Covers May texts e) → VerdictMeans May claim e (judged claim (map (satisfies e) texts) whole).verdict
kind_meant May texts whole e claim possible covers =
    by_whole May texts e claim (is_some (position (shows claim) (map (satisfies e) texts))) whole covers
    (judged_means (MayAmong May texts) claim e texts whole (λ k d lt. (possible k d lt, (k, slice_get-get_or texts k d lt))) (λ over text may. may.1))

at_map : {X Y : Type 0} (P : Y → Type 0) (g : X → Y) (xs : List X) → All P (map g xs) → (k : ℕ) (d : X) → k < length xs → P (g (get_or xs k d))
at_map P g xs all k d lt = subst P (get_or-map g xs k d (g d) lt) (all k (g d) (subst (λ (n : ℕ). k < n) (sym (length-map xs g)) lt))

-- positions

none_index_of : (o : Option ℕ) → is_some (option_map (λ at. at + 1) o) ≡ false → o ≡ None
none_index_of None is = refl
none_index_of (Some at) is = absurd (false≢true (sym is))

none_index : (f : Found) (claim : Numbered) → is_shown f claim ≡ false → position (shows claim.stated.claim) (satisfied (operations_of claim) f) ≡ None
none_index f claim none = none_index_of (position (shows claim.stated.claim) (satisfied (operations_of claim) f)) none

judged_so : (f : Found) (claim : Numbered) → position (shows claim.stated.claim) (satisfied (operations_of claim) f) ≡ None → claim_judged f claim ≡ unshown_judgement claim.stated.claim f.whole
judged_so f claim none = ap (judgement_by claim.stated.claim f.whole) none
  where
    judgement_by : Claim → Bool → Option ℕ → Judgement
    judgement_by kind whole o = record { verdict = verdict_at kind (is_some o) whole; shown_by = o }

each_false : {X : Type 0} (p : X → Bool) (xs : List X) → list_any p xs ≡ false → (k : ℕ) (d : X) → k < length xs → p (get_or xs k d) ≡ false
each_false p xs none k d lt = by (p (get_or xs k d)) refl
  where
    by : (b : Bool) → p (get_or xs k d) ≡ b → p (get_or xs k d) ≡ false
    by false is = is
    by true is = absurd (false≢true (sym none ∙ list_any_at p xs k d lt is))

none_step : (b : Bool) (i : ℕ) (rest : Option ℕ) → cond b (Some i) rest ≡ None → (b ≡ false) × (rest ≡ None)
none_step true i rest is = absurd (none-some i (sym is))
none_step false i rest is = (refl, is)

none_passes : (p : Bool → Bool) (s : List ℕ → Bool) (ts : List (List ℕ)) (i at : ℕ) (t : List ℕ) → position_from p i (map s ts) ≡ None → slice_get ts at ≡ Some t → p (s t) ≡ false
none_passes p s [] i at t is there = absurd (none-some t there)
none_passes p s (u ∷ ts) i zero t is there = ap (λ (v : List ℕ). p (s v)) (sym (same_Some u t there)) ∙ (none_step (p (s u)) i (position_from p (i + 1) (map s ts)) is).0
none_passes p s (u ∷ ts) i (suc at) t is there = none_passes p s ts (i + 1) at t (none_step (p (s u)) i (position_from p (i + 1) (map s ts)) is).1 there

none_from : (p : Bool → Bool) (s : List ℕ → Bool) (ts : List (List ℕ)) (i : ℕ) → ((at : ℕ) (t : List ℕ) → slice_get ts at ≡ Some t → p (s t) ≡ false) → position_from p i (map s ts) ≡ None
none_from p s [] i each = refl
none_from p s (t ∷ ts) i each =
    ap (λ (b : Bool). cond b (Some i) (position_from p (i + 1) (map s ts))) (each 0 t refl) ∙ none_from p s ts (i + 1) (λ at u there. each (suc at) u there)

none_found : (p : Bool → Bool) (s : List ℕ → Bool) (ts : List (List ℕ)) → ((at : ℕ) (t : List ℕ) → slice_get ts at ≡ Some t → p (s t) ≡ false) → position p (map s ts) ≡ None
none_found p s ts each = position_from-zero p (map s ts) ∙ none_from p s ts 0 each

module _ (c : RunContents) (f : Found) (claims : List Numbered) (kinds : HasEachKindOf c (map formula_of_claim claims) f) where
  covered : (claim : Numbered) → ((text one : List ℕ) → AreOfOneKind (map formula_of_claim claims) text one → satisfies (formula_of_claim claim) text ≡ satisfies (formula_of_claim claim) one) → f.whole ≡ true → Covers (MayGive c) f.texts (formula_of_claim claim)
  covered claim kind whole text may =
      let (at, one, there, alike) = kinds.whole whole text may in
      (one, (given one at there, (at, there)), kind text one alike)
    where
      given : (one : List ℕ) (at : ℕ) → slice_get f.texts at ≡ Some one → MayGive c one
      given one at there = subst (MayGive c) (get_or_from_slice_get f.texts at one one there) (kinds.possible at one (slice_get_within f.texts at one there))

  -- each verdict means what it says
  pub kinds_mean : All (AnswerMeans c f) claims
  kinds_mean = λ k d there.
      let claim = get_or claims k d in
      kind_meant (MayGive c) f.texts f.whole (formula_of_claim claim) claim.stated.claim kinds.possible
      (covered claim (λ text one alike. at_map (λ (e : Formula). satisfies e text ≡ satisfies e one) formula_of_claim claims alike k d there))

  -- no text shows the verdict, and none of all texts does

  pub none_shown : list_any (is_shown f) claims ≡ false → All (λ claim. claim_judged f claim ≡ unshown_judgement claim.stated.claim f.whole) claims
  none_shown none = λ k d lt. judged_so f (get_or claims k d) (none_index f (get_or claims k d) (each_false (is_shown f) claims none k d lt))

  pub none_of_all : list_any (is_shown f) claims ≡ false → f.whole ≡ true → (all : Found) → AreTextsOf c all → all.whole ≡ true → All (λ claim. claim_judged all claim ≡ claim_judged f claim) claims
  none_of_all none over all are too = λ k d lt.
      let claim = get_or claims k d in
      let e = formula_of_claim claim in
      let mine = none_index f claim (each_false (is_shown f) claims none k d lt) in
      let theirs = none_found (shows claim.stated.claim) (satisfies e) all.texts (λ at t there.
      let (place, one, is, alike) = kinds.whole over t (subst (MayGive c) (get_or_from_slice_get all.texts at t t there) (are.possible at t (slice_get_within all.texts at t there))) in
      ap (shows claim.stated.claim) (at_map (λ (g : Formula). satisfies g t ≡ satisfies g one) formula_of_claim claims alike k d lt)
      ∙ none_passes (shows claim.stated.claim) (satisfies e) f.texts 0 place one (sym (position_from-zero (shows claim.stated.claim) (map (satisfies e) f.texts)) ∙ mine) is) in
      judged_so all claim theirs ∙ ap (unshown_judgement claim.stated.claim) (too ∙ sym over) ∙ sym (judged_so f claim mine)

-- one claim

pub decided_so : (c : RunContents) (format : ExploreFormat) (limit : ℕ) (claim : NumberedClaim) (f : Found) (ops : List Op) (text : List ℕ) (verdict : Verdict) → AreConditions c claim.numbered.items ops
    → ShowNone c (numbered_claim claim ∷ []) f → verdict ≡ verdict_at claim.stated.claim false f.whole → text ≡ unshown_output format limit claim.stated.claim verdict f
    → IsDecidedUnshown c format limit claim.stated.claim claim.numbered.items text verdict
decided_so c format limit claim f ops text verdict are shown is output =
    let kind = claim.stated.claim in let n = numbered_claim claim in
    let none : claim_judged f n ≡ unshown_judgement kind f.whole = All-head (λ m. claim_judged f m ≡ unshown_judgement m.stated.claim f.whole) n [] shown.none in
    record {
      found = f;
      conditions = ops;
      read = are;
      possible = shown.possible;
      none = ap (λ (o : List Op). judged kind (satisfied o f) f.whole) (sym (ap operations_read are.read)) ∙ none;
      is = is;
      means = subst (λ (e : Formula). VerdictMeans (MayGive c) kind e verdict) (sym (conditions_formula c n ops are))
          (subst (λ (v : Verdict). VerdictMeans (MayGive c) kind (formula_of_claim n) v) (ap (λ (j : Judgement). j.verdict) none ∙ sym is) (All-head (AnswerMeans c f) n [] shown.means));
      same = λ over all texts too.
          ap (λ (o : List Op). judged kind (satisfied o all) all.whole) (sym (ap operations_read are.read))
          ∙ All-head (λ m. claim_judged all m ≡ claim_judged f m) n [] (shown.same over all texts too) ∙ none ∙ ap (unshown_judgement kind) over;
      output = output;
    }
