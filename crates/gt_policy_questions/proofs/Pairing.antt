-- The answers for pairs, one after another.
use Rattle.std.proofs.Common.{◌≡◌, ℕ, ◌<◌, ◌≤◌, ◌||◌, Bool, true, false, List, [], ◌∷◌, ◌++◌, length, drop, take, ◌-◌, get_or, Option, Some, None}
use Rattle.std.proofs.Common.{ap, subst, sym, ◌∙◌, arith}
use Rattle.std.proofs.Math.Seq.{take-length}
use Rattle.std.proofs.lemmas.List.{append-nil, append_assoc}
use Rattle.gt_types.specs.declared.TypeId.{TypeId}
use Rattle.gt_flow.specs.Flow.{FlowPolicy}
use Rattle.gt_flow.specs.Paths.{HasPath}
use Rattle.gt_policy.specs.declared.lined.LinedStatement.{LinedStatement}
use Rattle.gt_policy_statements.specs.declared.members.Member.{Member}
use Rattle.gt_policy_questions.specs.Format.{TextGrows, GrowsBy}
use Rattle.gt_policy_questions.specs.FlowPairs.{AnswersPair, AnswersAll, AnswersEach, answered, pair_answer_text, leaves_out}
use Rattle.gt_policy_questions.specs.FlowPairs.{left_out}
use Rattle.gt_policy_questions.specs.FlowPairs.{more_sources, more_targets, no_source, no_target}
use Rattle.gt_policy_questions.specs.Steps.{path_line_text, path_text}
use Rattle.gt_policy_questions.specs.declared.flows.format.FlowFormat.{FlowFormat}
use Rattle.gt_policy_questions.specs.declared.flows.format.FlowText.{FlowText}
use Rattle.gt_policy_questions.specs.declared.flows.pairs.PairForm.{PairForm}
use Rattle.gt_policy_questions.proofs.Growing.{grows-as, grows-more}

-- the types after the first one, as a slice pattern has them
abbrev pub after-first : List TypeId → List TypeId
after-first ts = take (length ts - 1) (drop 1 ts)

rest-is : (t : TypeId) (ts : List TypeId) → after-first (t ∷ ts) ≡ ts
rest-is t ts = ap (λ n. take n ts) (omega arith) ∙ take-length ts

-- a path that goes on
pub path-more : (format : FlowFormat) (may : FlowPolicy) (trusted : TypeId → Bool) (xs : List LinedStatement)
    (members : List Member) (from : TypeId) (path : List TypeId) (d : TypeId) (old mid new : FlowText)
    → 1 ≤ length path → TextGrows old mid (path_line_text format may trusted xs members from (get_or path 0 d))
    → TextGrows mid new (path_text format may trusted xs members (get_or path 0 d) (after-first path))
    → TextGrows old new (path_text format may trusted xs members from path)
path-more format may trusted xs members from [] d old mid new some first rest = absurd (omega (arith, some))
path-more format may trusted xs members from (y ∷ path) d old mid new some first rest =
    grows-more old mid new _ _ first
    (grows-as mid new _ _ (ap (λ (l : List TypeId). path_text format may trusted xs members y l) (rest-is y path)) rest)

-- whether one of two has a path
pub first-has : (a b : Bool) → a ≡ true → a ≡ (a || b)
first-has a b h = h ∙ ap (λ c. c || b) (sym h)

pub other-has : (a b : Bool) → a ≡ false → b ≡ (a || b)
other-has a b h = ap (λ c. c || b) (sym h)

module _ (format : FlowFormat) (may : FlowPolicy) (trusted : TypeId → Bool) (xs : List LinedStatement)
    (members : List Member) (form : PairForm) where
  abbrev pub PairText : TypeId → TypeId → Bool → List ℕ → Type 0
  PairText source target has text = AnswersPair format may trusted xs members form source target text has

  abbrev pub EachText : TypeId → List TypeId → Bool → List ℕ → Type 0
  EachText source targets has text = AnswersEach format may trusted xs members form source targets text has

  abbrev pub AllText : List TypeId → List TypeId → Bool → List ℕ → Type 0
  AllText targets sources has text = AnswersAll format may trusted xs members form targets sources text has

  pub left : (source target : TypeId) (old : FlowText) → leaves_out form source target ≡ true
      → GrowsBy (PairText source target false) old old
  left source target old h =
      record { whole = λ w. w; bytes = λ w. ([], left_out h, sym (append-nil old.bytes.items)) }

  pub with-path : (source target : TypeId) (o : Option (List TypeId)) (p q : List TypeId) (old new : FlowText)
      → leaves_out form source target ≡ false → HasPath may trusted source target o → o ≡ Some p → q ≡ p
      → TextGrows old new (pair_answer_text format may trusted xs members form source target (Some q))
      → GrowsBy (PairText source target true) old new
  with-path source target o p q old new kept has is same grows = record {
    whole = grows.whole;
    bytes = λ w. (
      pair_answer_text format may trusted xs members form source target (Some p),
      answered kept (Some p) (subst (λ v. HasPath may trusted source target v) is has),
      grows.bytes w
          ∙ ap (λ v. old.bytes.items ++ pair_answer_text format may trusted xs members form source target (Some v)) same,
    );
  }

  pub without-path : (source target : TypeId) (o : Option (List TypeId)) (old new : FlowText)
      → leaves_out form source target ≡ false → HasPath may trusted source target o → o ≡ None
      → TextGrows old new (pair_answer_text format may trusted xs members form source target None)
      → GrowsBy (PairText source target false) old new
  without-path source target o old new kept has is grows = record {
    whole = grows.whole;
    bytes = λ w. (
      pair_answer_text format may trusted xs members form source target None,
      answered kept None (subst (λ v. HasPath may trusted source target v) is has),
      grows.bytes w,
    );
  }

  pub no-targets : (source : TypeId) (targets : List TypeId) (old : FlowText) → length targets < 1
      → GrowsBy (EachText source targets false) old old
  no-targets source [] old few =
      record { whole = λ w. w; bytes = λ w. ([], no_target, sym (append-nil old.bytes.items)) }
  no-targets source (t ∷ targets) old few = absurd (omega (arith, few))

  pub one-target : (source : TypeId) (targets : List TypeId) (d : TypeId) (old mid new : FlowText) (a b has : Bool)
      → 1 ≤ length targets → GrowsBy (PairText source (get_or targets 0 d) a) old mid
      → GrowsBy (EachText source (after-first targets) b) mid new → has ≡ (a || b)
      → GrowsBy (EachText source targets has) old new
  one-target source [] d old mid new a b has some first rest e = absurd (omega (arith, some))
  one-target source (t ∷ targets) d old mid new a b has some first rest e = record {
    whole = λ w. first.whole (rest.whole w);
    bytes = λ w.
        let one = first.bytes (rest.whole w) in
        let more = rest.bytes w in (
          one.0 ++ more.0,
          subst (λ v. AnswersEach format may trusted xs members form source (t ∷ targets) (one.0 ++ more.0) v) (sym e)
              (more_targets t targets one.0 more.0 a b one.1
              (subst (λ v. AnswersEach format may trusted xs members form source v more.0 b) (rest-is t targets) more.1)),
          more.2 ∙ ap (λ v. v ++ more.0) one.2 ∙ append_assoc old.bytes.items one.0 more.0,
        );
  }

  pub no-sources : (sources targets : List TypeId) (old : FlowText) → length sources < 1
      → GrowsBy (AllText targets sources false) old old
  no-sources [] targets old few =
      record { whole = λ w. w; bytes = λ w. ([], no_source, sym (append-nil old.bytes.items)) }
  no-sources (s ∷ sources) targets old few = absurd (omega (arith, few))

  pub one-source : (sources targets : List TypeId) (d : TypeId) (old mid new : FlowText) (a b has : Bool)
      → 1 ≤ length sources → GrowsBy (EachText (get_or sources 0 d) targets a) old mid
      → GrowsBy (AllText targets (after-first sources) b) mid new → has ≡ (a || b)
      → GrowsBy (AllText targets sources has) old new
  one-source [] targets d old mid new a b has some first rest e = absurd (omega (arith, some))
  one-source (s ∷ sources) targets d old mid new a b has some first rest e = record {
    whole = λ w. first.whole (rest.whole w);
    bytes = λ w.
        let one = first.bytes (rest.whole w) in
        let more = rest.bytes w in (
          one.0 ++ more.0,
          subst (λ v. AnswersAll format may trusted xs members form targets (s ∷ sources) (one.0 ++ more.0) v) (sym e)
              (more_sources s sources one.0 more.0 a b one.1
              (subst (λ v. AnswersAll format may trusted xs members form targets v more.0 b) (rest-is s sources) more.1)),
          more.2 ∙ ap (λ v. v ++ more.0) one.2 ∙ append_assoc old.bytes.items one.0 more.0,
        );
  }
