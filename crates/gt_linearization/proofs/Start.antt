-- Before the first step of all: no items, and no history.
use Rattle.std.proofs.Common.{◌≡◌, ◌≢◌, ℕ, zero, suc, ◌+◌, ◌*◌, ◌/◌, ◌%◌, ◌<◌, Bool, true, false, cond, ◌==◌, List}
use Rattle.std.proofs.Common.{[], ◌∷◌, length, map, get_or, Option, Some, None, sym, refl, ap, ◌∙◌, subst, arith}
use Rattle.std.proofs.Common.{eq-eqb, ne_eqb}
use Rattle.std.proofs.lemmas.List.Elements.{All-nil}
use Rattle.gt_model.specs.History.{Pin, Setting, generation_at, header_from, mappings_at, word_at, setting_of}
use Rattle.gt_types.specs.Config.{IsWithinLimits}
use Rattle.gt_types.specs.Names.{domain_of}
use Rattle.gt_types.specs.declared.DomId.{DomId}
use Rattle.gt_types.specs.declared.config.Config.{Config}
use Rattle.gt_types.specs.declared.config.DomainConfig.{DomainConfig}
use Rattle.gt_types.specs.declared.limits.TheConstants.{TABLE_ENTRIES}
use Rattle.gt_model.specs.Words.{header_of, header_word}
use Rattle.gt_model.specs.declared.change.BodyWord.{BodyWord}
use Rattle.gt_model.specs.declared.change.BodyWord.TheVariants.{First, Second}
use Rattle.gt_handles.specs.Handles.{HandleMap}
use Rattle.gt_words.specs.Conditions.{Board}
use Rattle.gt_word_history.specs.History.{Layout, body_word_index, initial}
use Rattle.gt_words.specs.Laws.{id_at-map}
use Rattle.gt_word_history.specs.Rule.{first_header, header_place, layout_of, place}
use Rattle.gt_word_history.specs.Views.{header_steps, own_header, stored_header}
use Rattle.gt_model.specs.declared.held.HeldPin.{HeldPin}
use Rattle.gt_core.proofs.GoingOn.{runs-start}
use Rattle.gt_core.proofs.Mappings.{no-handles}
use Rattle.gt_core.proofs.Steps.See.{table-fits}
use Rattle.gt_core.specs.GoingOn.{CanBeReached}
unfoldable use Rattle.gt_model.specs.History.{body_at, entry_at, gather, live, maps_answered_at, open_call}
unfoldable use Rattle.gt_model.specs.History.{patches_at, raises_at, table_at}
use Rattle.gt_core.specs.Standing.{MappingsAgree}
use Rattle.gt_live.specs.Domains.{AllowRelation}
use Rattle.gt_live.specs.Starting.{IsNewDomain}
use Rattle.gt_live.specs.declared.domain.Domain.{Domain}
use Rattle.gt_linearization.proofs.DomainsAtRest.{rest-known}
use Rattle.gt_linearization.proofs.Stages.{Ordered, SeatNow, Stage, order_now}
use Rattle.gt_linearization.proofs.Stages.Stage.{Resting}
use Rattle.gt_linearization.proofs.Stepping.{AreBounded, IsBounded, state-there}
use Rattle.gt_linearization.specs.Agreeing.{Agree, WritesAgree, dom_at}

-- the first words

initial-entry : (k : Layout) (t r : ℕ) → r < TABLE_ENTRIES → initial k (place t r 0) ≡ 17592186044416 * k.first
initial-entry k t r l =
    let p : place t r 0 % 65544 ≡ 8 * r + 8 = omega arith in
    let a : (place t r 0 % 65544 == 0) ≡ false = ne_eqb (place t r 0 % 65544) 0 (λ e. omega arith) in
    let b : (place t r 0 % 65544 % 8 == 0) ≡ true = eq-eqb (place t r 0 % 65544 % 8) 0 (omega arith) in
    ap (λ (z : Bool). cond z (get_or k.headers (place t r 0 / 65544) 0) (cond (place t r 0 % 65544 % 8 == 0) (17592186044416 * k.first) 0)) a ∙ ap (λ (z : Bool). cond z (17592186044416 * k.first) 0) b

initial-body : (k : Layout) (t r j : ℕ) → r < TABLE_ENTRIES → 0 < j → j < 3 → initial k (place t r j) ≡ 0
initial-body k t r j l some few =
    let p : place t r j % 65544 ≡ 8 * r + (8 + j) = omega arith in
    let a : (place t r j % 65544 == 0) ≡ false = ne_eqb (place t r j % 65544) 0 (λ e. omega arith) in
    let b : (place t r j % 65544 % 8 == 0) ≡ false = ne_eqb (place t r j % 65544 % 8) 0 (λ e. omega arith) in
    ap (λ (z : Bool). cond z (get_or k.headers (place t r j / 65544) 0) (cond (place t r j % 65544 % 8 == 0) (17592186044416 * k.first) 0)) a ∙ ap (λ (z : Bool). cond z (17592186044416 * k.first) 0) b

initial-header : (k : Layout) (t : ℕ) → initial k (header_place t) ≡ get_or k.headers t 0
initial-header k t =
    let a : (header_place t % 65544 == 0) ≡ true = eq-eqb (header_place t % 65544) 0 (omega arith) in let q : header_place t / 65544 ≡ t = omega arith in
    ap (λ (z : Bool). cond z (get_or k.headers (header_place t / 65544) 0) (cond (header_place t % 65544 % 8 == 0) (17592186044416 * k.first) 0)) a ∙ ap (λ (z : ℕ). get_or k.headers z 0) q

-- the domain at a position

domain-at : (ds : List DomainConfig) (t : ℕ) (e : DomainConfig) → t < length ds → ((j : ℕ) → j < t → (get_or ds j e).id.0 ≢ (get_or ds t e).id.0) → domain_of ds (get_or ds t e).id ≡ Some (get_or ds t e)
domain-at [] t e l apart = absurd (omega arith)
domain-at (x ∷ ds) zero e l apart = ap (λ (z : Bool). cond z (Some x) (domain_of ds x.id)) (eq-eqb x.id.0 x.id.0 refl)
domain-at (x ∷ ds) (suc t) e l apart =
    ap (λ (z : Bool). cond z (Some x) (domain_of ds (get_or ds t e).id)) (ne_eqb x.id.0 (get_or ds t e).id.0 (apart 0 (omega arith)))
    ∙ domain-at ds t e (omega arith) (λ j b. apart (suc j) (omega arith))

header-at : (ds : List DomainConfig) (t : ℕ) (e : DomainConfig) → t < length ds → get_or (map (λ (d : DomainConfig). header_word (first_header d)) ds) t 0 ≡ header_word (first_header (get_or ds t e))
header-at [] t e l = absurd (omega arith)
header-at (x ∷ ds) zero e l = refl
header-at (x ∷ ds) (suc t) e l = header-at ds t e (omega arith)

module _ (b : Board) (c : Config) (may : AllowRelation) (limits : IsWithinLimits c) (is : b.layout ≡ layout_of c) where
  abbrev k : Layout
  k = b.layout

  abbrev s : Setting
  s = setting_of c may

  -- the header of each domain is the one of the configuration
  first-header : (t : ℕ) → t < k.domains → header_word (header_from (domain_of c.domains.items (dom_at k t))) ≡ get_or k.headers t 0
  first-header t l = by c.domains.items refl where
    l' : t < length c.domains.items
    l' = subst (λ (z : Layout). t < z.domains) is l

    by : (ds : List DomainConfig) → ds ≡ c.domains.items → header_word (header_from (domain_of c.domains.items (dom_at k t))) ≡ get_or k.headers t 0
    by [] e = let z : length c.domains.items ≡ 0 = ap length (sym e) in absurd (omega arith)
    by (x ∷ ds) e =
        let at : dom_at k t ≡ (get_or c.domains.items t x).id = ap (λ (z : Layout). dom_at z t) is ∙ id_at-map c.domains.items t x l' in
        let found = domain-at c.domains.items t x l' (λ j below. limits.distinct j t x below l') in
        ap (λ (z : DomId). header_word (header_from (domain_of c.domains.items z))) at
        ∙ (ap (λ (o : Option DomainConfig). header_word (header_from o)) found ∙ (sym (header-at c.domains.items t x l') ∙ ap (λ (z : Layout). get_or z.headers t 0) (sym is)))

  pub agree-first : Agree s k [] []
  unfolding entry_at raises_at live body_at table_at
  agree-first = record {
    words = λ t r l m. (let z : word_at s [] (dom_at k t).0 r ≡ 17592186044416 * c.first_gen = omega arith in z) ∙ (ap (λ (y : Layout). 17592186044416 * y.first) (sym is) ∙ sym (initial-entry k t r m));
    bodies = λ t r body_word l m. sym (body t r body_word m);
    headers = λ t l. first-header t l ∙ sym (initial-header k t);
    entries = λ t r l m. refl;
    generations = λ t r l m. (let z : generation_at s [] (dom_at k t).0 r ≡ c.first_gen = omega arith in z) ∙ ap (λ (y : Layout). y.first) (sym is);
  }
    where
      body : (t r : ℕ) (body_word : BodyWord) → r < TABLE_ENTRIES → initial k (place t r (body_word_index body_word)) ≡ 0
      body t r First m = initial-body k t r 1 m (omega arith) (omega arith)
      body t r Second m = initial-body k t r 2 m (omega arith) (omega arith)

  no-maps : (d : ℕ) (kept : HandleMap HeldPin) → kept ≡ record { slots = []; given = 0; room = 0 } → MappingsAgree kept (mappings_at [] d) (maps_answered_at [] d)
  unfolding live gather maps_answered_at
  no-maps d kept e = subst (λ (z : HandleMap HeldPin). MappingsAgree z [] 0) (sym e) no-handles

  none-open : (d : ℕ) → open_call [] d ≡ None
  unfolding open_call
  none-open d = refl

  none-written : WritesAgree k [] []
  unfolding patches_at
  none-written t f l = refl

  none-bounded : AreBounded k []
  unfolding live
  none-bounded = All-nil (λ (q : Pin). IsBounded k q.held)

  pub ordered-first : (firsts : ℕ → Domain) (stages : ℕ → Stage) → ((i : ℕ) → i < k.domains → IsNewDomain b c may i (firsts i)) → ((i : ℕ) → i < k.domains → domain_of c.domains.items (dom_at k i) ≢ None) → ((i : ℕ) → i < k.domains → stages i ≡ Resting [])
      → Ordered b c may [] firsts stages
  ordered-first firsts stages new named rest = record {
    g = [];
    order = [];
    items = refl;
    reached = reached;
    agree = agree-first;
    legal = tt;
    steps = refl;
    writes = none-written;
    flags = tt;
    looks = tt;
    bounded = none-bounded;
    own = λ i l. ap (order_now c may (dom_at k i)) (sym (rest i l));
    each = λ i l. subst (SeatNow c may [] (dom_at k i) (firsts i)) (sym (rest i l)) (first-seat i l);
  }
    where
      reached : CanBeReached s []
      reached = runs-start c may limits

      first-seat : (i : ℕ) → i < k.domains → SeatNow c may [] (dom_at k i) (firsts i) (Resting [])
      first-seat i l =
          let n = new i l in let maps = no-maps (dom_at k i).0 (firsts i).mappings n.mappings in
          let t = state-there s [] reached.0.domains (dom_at k i) reached.1.domains (named i l) in
          let none = n.seat.steps in
          let head : header_word (table_at s [] (dom_at k i)) ≡ own_header (firsts i).seat.view =
          agree-first.headers i l ∙ (initial-header k i ∙ own (firsts i) n.seat.position n.seat.headers none) in record {
            maps = maps;
            known = rest-known b c may k [] [] i (firsts i) agree-first l n.domain n.seat.position n.seat.first none t.0 t.3 t.2
                (sym (table-fits _ (reached.1.domains.tables (dom_at k i))).1 ∙ ap header_of head) maps;
            call = none-open (dom_at k i).0;
          }
        where
          own : (D : Domain) → D.seat.view.position ≡ i → D.seat.view.headers ≡ k.headers → D.seat.view.steps ≡ [] → get_or k.headers i 0 ≡ own_header D.seat.view
          own D p q e = λ j. stored_header (get_or (sym q j) (sym p j) 0) (header_steps (sym p j) (sym e j))
