-- Breaches of neverflow statements, one after another.
use Rattle.std.proofs.Common.{◌≡◌, ℕ, ◌+◌, ◌<◌, ◌&&◌, ◌||◌, Bool, true, false, List, [], ◌∷◌, ◌++◌, length, map, filter}
use Rattle.std.proofs.Common.{take, get_or, Option, Some, None, refl, ap, ap₂, subst, sym, ◌∙◌, append_assoc, arith, cond}
use Rattle.std.proofs.lemmas.Bool.{true≢false}
use Rattle.std.proofs.lemmas.List.{append-nil, map-append}
use Rattle.std.proofs.lemmas.List.Concat.{flat_map-append}
use Rattle.std.proofs.lemmas.List.FromFn.{filter_of_map_range_with_len_more, map-range_with_len_more}
use Rattle.std.specs.List.{flat_map, list_any}
use Rattle.gt_types.specs.declared.TypeId.{TypeId}
use Rattle.gt_types.specs.declared.perms.Perms.{Perms}
use Rattle.gt_flow.specs.Flow.{FlowPolicy}
use Rattle.gt_flow.specs.Accesses.{AreAmong}
use Rattle.gt_flow.specs.Paths.{HasPath}
use Rattle.gt_policy.specs.Allowing.{Allowed, Meaning}
use Rattle.gt_policy.specs.Kept.{KeptPolicy, PolicyShows, may_of}
use Rattle.gt_policy.specs.declared.lined.LinedStatement.{LinedStatement}
use Rattle.gt_policy_statements.specs.Members.{members_of}
use Rattle.gt_policy_statements.specs.declared.members.Member.{Member}
use Rattle.gt_neverflow.specs.Flowing.{AddsFlows, AreFlowBreaches, FlowsFound, ForbiddenFlow, flow_by, flow_from}
use Rattle.gt_neverflow.specs.Flowing.{flow_if, flow_to, flows_by, flows_of, flows_to, forbidden_flows, kept_apart}
use Rattle.gt_neverflow.specs.Flowing.{names_on, no_flow, nobody, reached, types_numbered}
use Rattle.gt_neverflow.specs.declared.flowing.FlowBreach.{FlowBreach}
use Rattle.gt_neverallow.specs.declared.statement.NeverStatement.{NeverStatement}
use Rattle.gt_neverallow.proofs.BreakingLemmas.{one_more}

-- the forbidden flows from the types below a number
abbrev pub flows_below : List Member → List NeverStatement → ℕ → ℕ → List ForbiddenFlow
flows_below members ns count k = flat_map (flows_of members ns (types_numbered count)) (types_numbered k)

module _ (may : FlowPolicy) (members : List Member) where
  found-both : (fs gs : List ForbiddenFlow) (bs cs : List FlowBreach) → FlowsFound may members fs bs
      → FlowsFound may members gs cs → FlowsFound may members (fs ++ gs) (bs ++ cs)
  found-both fs gs bs cs no_flow more = more
  found-both fs gs bs cs (reached f b path rest others has line names after) more =
      reached f b path (rest ++ gs) (others ++ cs) has line names (found-both rest gs others cs after more)
  found-both fs gs bs cs (kept_apart f rest others has after) more =
      kept_apart f (rest ++ gs) (others ++ cs) has (found-both rest gs others cs after more)

  pub adds-none : (old : List FlowBreach) → AddsFlows may members [] old old
  adds-none old = ([], no_flow, sym (append-nil old))

  pub adds-both : (fs gs all : List ForbiddenFlow) (old mid new : List FlowBreach) → all ≡ fs ++ gs
      → AddsFlows may members fs old mid → AddsFlows may members gs mid new → AddsFlows may members all old new
  adds-both fs gs all old mid new is first second = (
    first.0 ++ second.0,
    subst (λ l. FlowsFound may members l (first.0 ++ second.0)) (sym is)
        (found-both fs gs first.0 second.0 first.1 second.1),
    second.2 ∙ ap (λ l. l ++ second.0) first.2 ∙ append_assoc old first.0 second.0,
  )

  module _ (n : NeverStatement) (s t : TypeId) where
    pub not-forbidden : (b : Bool) (old : List FlowBreach) → b ≡ false → AddsFlows may members (flow_if b n s t) old old
    not-forbidden b old lacks = subst (λ c. AddsFlows may members (flow_if c n s t) old old) (sym lacks) (adds-none old)

    pub no-path : (b : Bool) (o : Option (List TypeId)) (old : List FlowBreach) → b ≡ true
        → HasPath may nobody s t o → o ≡ None → AddsFlows may members (flow_if b n s t) old old
    no-path b o old forbids has is = subst (λ c. AddsFlows may members (flow_if c n s t) old old) (sym forbids) (
      [],
      kept_apart (record { statement = n; source = s; target = t }) [] []
          (subst (λ p. HasPath may nobody s t p) is has) no_flow,
      sym (append-nil old),
    )

    pub has-path : (b : Bool) (o : Option (List TypeId)) (p q : List TypeId) (breach : FlowBreach)
        (old new : List FlowBreach) → b ≡ true → HasPath may nobody s t o → o ≡ Some p → q ≡ p
        → breach.forbidden ≡ n.line → breach.path.items ≡ names_on members s q → new ≡ old ++ breach ∷ []
        → AddsFlows may members (flow_if b n s t) old new
    has-path b o p q breach old new forbids has is same line names added =
        subst (λ c. AddsFlows may members (flow_if c n s t) old new) (sym forbids) (
          breach ∷ [],
          reached (record { statement = n; source = s; target = t }) breach p [] []
              (subst (λ v. HasPath may nobody s t v) is has) line (names ∙ ap (λ v. names_on members s v) same) no_flow,
          added,
        )

  -- ---- the flows, one after another

  -- one target more
  one-flow : (b : Bool) (n : NeverStatement) (s t : TypeId) → map (flow_by n s) (cond b (t ∷ []) []) ≡ flow_if b n s t
  one-flow true n s t = refl
  one-flow false n s t = refl

  one-target : (s : TypeId) (n : NeverStatement) (k : ℕ) → flows_to members (types_numbered (k + 1)) s n
      ≡ flows_to members (types_numbered k) s n ++ flow_if (flow_to members s n (record { 0 = k })) n s (record { 0 = k })
  one-target s n k =
      ap (λ (ts : List TypeId). map (flow_by n s) ts)
      (filter_of_map_range_with_len_more (flow_to members s n) (λ id. record { 0 = id }) 0 k k (omega arith))
      ∙ map-append (flow_by n s) (filter (flow_to members s n) (types_numbered k))
      (cond (flow_to members s n (record { 0 = k })) (record { 0 = k } ∷ []) [])
      ∙ ap (λ (fs : List ForbiddenFlow). flows_to members (types_numbered k) s n ++ fs)
      (one-flow (flow_to members s n (record { 0 = k })) n s (record { 0 = k }))

  pub no-target : (s : TypeId) (n : NeverStatement) (old : List FlowBreach)
      → AddsFlows may members (flows_to members (types_numbered 0) s n) old old
  no-target s n old = adds-none old

  pub more-targets : (s : TypeId) (n : NeverStatement) (k : ℕ) (old mid new : List FlowBreach)
      → AddsFlows may members (flows_to members (types_numbered k) s n) old mid
      → AddsFlows may members (flow_if (flow_to members s n (record { 0 = k })) n s (record { 0 = k })) mid new
      → AddsFlows may members (flows_to members (types_numbered (k + 1)) s n) old new
  more-targets s n k old mid new =
      adds-both (flows_to members (types_numbered k) s n)
      (flow_if (flow_to members s n (record { 0 = k })) n s (record { 0 = k }))
      (flows_to members (types_numbered (k + 1)) s n) old mid new (one-target s n k)

  -- a statement, if it is about the source
  pub is-about : (targets : List TypeId) (s : TypeId) (n : NeverStatement) (old new : List FlowBreach)
      → flow_from members s n ≡ true → AddsFlows may members (flows_to members targets s n) old new
      → AddsFlows may members (flows_by members targets s n) old new
  is-about targets s n old new forbids adds =
      subst (λ (b : Bool). AddsFlows may members (map (flow_by n s) (filter (λ t. b && flow_to members s n t) targets))
      old new) (sym forbids) adds

  none-kept : (targets : List TypeId) → filter (λ (t : TypeId). false) targets ≡ []
  none-kept [] = refl
  none-kept (t ∷ ts) = none-kept ts

  no-flows : (targets : List TypeId) (s : TypeId) (n : NeverStatement) → flow_from members s n ≡ false
      → flows_by members targets s n ≡ []
  no-flows targets s n lacks =
      ap (λ (b : Bool). map (flow_by n s) (filter (λ t. b && flow_to members s n t) targets)) lacks
      ∙ ap (λ (ts : List TypeId). map (flow_by n s) ts) (none-kept targets)

  pub is-of-others : (targets : List TypeId) (s : TypeId) (n : NeverStatement) (old : List FlowBreach)
      → flow_from members s n ≡ false → AddsFlows may members (flows_by members targets s n) old old
  is-of-others targets s n old lacks =
      subst (λ (fs : List ForbiddenFlow). AddsFlows may members fs old old) (sym (no-flows targets s n lacks))
      (adds-none old)

  -- one statement more
  pub more-statements : (targets : List TypeId) (s : TypeId) (ns : List NeverStatement) (i : ℕ) (n : NeverStatement)
      (old mid new : List FlowBreach) → i < length ns → n ≡ get_or ns i n
      → AddsFlows may members (flows_of members (take i ns) targets s) old mid
      → AddsFlows may members (flows_by members targets s n) mid new
      → AddsFlows may members (flows_of members (take (i + 1) ns) targets s) old new
  more-statements targets s ns i n old mid new within is =
      adds-both (flows_of members (take i ns) targets s) (flows_by members targets s n)
      (flows_of members (take (i + 1) ns) targets s) old mid new
      (one_more (flows_by members targets s) ns i n within is)

  -- no statement is about the source
  either : (a b : Bool) → (a || b) ≡ false → (a ≡ false) × (b ≡ false)
  either false b lacks = (refl, lacks)
  either true b lacks = absurd (true≢false lacks)

  none-about : (targets : List TypeId) (s : TypeId) (ns : List NeverStatement)
      → list_any (flow_from members s) ns ≡ false → flows_of members ns targets s ≡ []
  none-about targets s [] lacks = refl
  none-about targets s (n ∷ ns) lacks =
      let both = either (flow_from members s n) (list_any (flow_from members s) ns) lacks in
      ap₂ (λ (one rest : List ForbiddenFlow). one ++ rest) (no-flows targets s n both.0)
      (none-about targets s ns both.1)

  pub adds-no-flows : (targets : List TypeId) (s : TypeId) (ns : List NeverStatement) (old : List FlowBreach)
      → list_any (flow_from members s) ns ≡ false → AddsFlows may members (flows_of members ns targets s) old old
  adds-no-flows targets s ns old lacks =
      subst (λ (fs : List ForbiddenFlow). AddsFlows may members fs old old) (sym (none-about targets s ns lacks))
      (adds-none old)

  -- one source more
  pub no-source-yet : (ns : List NeverStatement) (count : ℕ) (old : List FlowBreach)
      → AddsFlows may members (flows_below members ns count 0) old old
  no-source-yet ns count old = adds-none old

  one-source-more : (ns : List NeverStatement) (count k : ℕ) → flows_below members ns count (k + 1)
      ≡ flows_below members ns count k ++ flows_of members ns (types_numbered count) (record { 0 = k })
  one-source-more ns count k =
      ap (λ (ts : List TypeId). flat_map (flows_of members ns (types_numbered count)) ts)
      (map-range_with_len_more {X = TypeId} (λ id. record { 0 = id }) 0 k k (omega arith))
      ∙ flat_map-append (flows_of members ns (types_numbered count)) (types_numbered k) (record { 0 = k } ∷ [])
      ∙ ap (λ (fs : List ForbiddenFlow). flows_below members ns count k ++ fs)
      (append-nil (flows_of members ns (types_numbered count) (record { 0 = k })))

  pub more-sources : (ns : List NeverStatement) (count k : ℕ) (old mid new : List FlowBreach)
      → AddsFlows may members (flows_below members ns count k) old mid
      → AddsFlows may members (flows_of members ns (types_numbered count) (record { 0 = k })) mid new
      → AddsFlows may members (flows_below members ns count (k + 1)) old new
  more-sources ns count k old mid new =
      adds-both (flows_below members ns count k) (flows_of members ns (types_numbered count) (record { 0 = k }))
      (flows_below members ns count (k + 1)) old mid new (one-source-more ns count k)

module _ (looks : ℕ → ℕ → Perms → Bool) (policy : KeptPolicy) (same : looks ≡ may_of policy) (count : ℕ)
    (all : count ≡ length policy.types) where
  -- the table allows nothing past the types
  pub among : ((s t : ℕ) (perm : Perms) → may_of policy s t perm ≡ true
      → (s < length policy.types) × (t < length policy.types))
      → AreAmong count (λ s t perm. looks s.0 t.0 perm)
  among within s t perm h =
      subst (λ n. (s.0 < n) × (t.0 < n)) (sym all) (within s.0 t.0 perm (ap (λ f. f s.0 t.0 perm) (sym same) ∙ h))

  -- the breaches by the table are those by the meaning
  pub breaches-of : (m : Meaning) (xs : List LinedStatement) (ms : List Member) (ns : List NeverStatement)
      (found : List FlowBreach) → PolicyShows policy m → ms ≡ members_of xs None
      → AddsFlows (λ s t perm. looks s.0 t.0 perm) ms (forbidden_flows ms ns (types_numbered count)) [] found
      → AreFlowBreaches m xs ns found
  breaches-of m xs ms ns found shows are (more, adds, is) =
      subst (λ l. AreFlowBreaches m xs ns l) (sym is)
      (subst (λ (f : ℕ → ℕ → Perms → Bool). FlowsFound (λ s t perm. f s.0 t.0 perm) (members_of xs None)
      (forbidden_flows (members_of xs None) ns (types_numbered (length m.types))) more)
      (same ∙ ap (λ (a : Allowed). a.may) shows)
      (subst (λ c. FlowsFound (λ s t perm. looks s.0 t.0 perm) (members_of xs None)
      (forbidden_flows (members_of xs None) ns (types_numbered c)) more) (all ∙ ap (λ (a : Allowed). length a.types) shows)
      (subst (λ v. FlowsFound (λ s t perm. looks s.0 t.0 perm) v (forbidden_flows v ns (types_numbered count)) more) are adds)))
