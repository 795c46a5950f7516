-- A domain that closes its table makes withdrawals and looks, and one that is reset releases its mappings before.
use Rattle.std.proofs.Common.{◌≡◌, ◌⊎◌, inl, inr, ℕ, zero, suc, ◌+◌, ◌<◌, ◌≤◌, List, [], ◌∷◌, length, Some, None}
use Rattle.std.proofs.Common.{Result, Ok, Err, sym, refl, ap, ◌∙◌, subst, arith}
use Rattle.std.specs.Prelude.{slice_get}
use Rattle.gt_types.specs.declared.DomId.{DomId}
use Rattle.gt_types.specs.declared.GrantRef.{GrantRef}
use Rattle.gt_types.specs.declared.config.Config.{Config}
use Rattle.gt_types.specs.declared.denial.Denial.{Denial}
use Rattle.gt_types.specs.declared.limits.TheConstants.{LAST_VERSION, TABLE_ENTRIES}
use Rattle.gt_model.specs.Words.{header_of, header_word, size_of}
use Rattle.gt_model.specs.declared.header.Header.{Header}
use Rattle.gt_words.specs.Conditions.{Board}
use Rattle.gt_word_history.specs.History.{StepHistory, Layout}
use Rattle.gt_word_history.specs.Rule.{header_place}
use Rattle.gt_word_history.specs.Steps.{StoodWith}
use Rattle.gt_word_history.specs.Views.{last_of, own_header, own_table}
use Rattle.gt_word_history.specs.declared.view.EntryRecord.{EntryRecord}
use Rattle.gt_word_history.specs.declared.view.View.{View}
use Rattle.gt_calls.specs.Known.{entry_in, own_generation, row_entry, row_generation}
use Rattle.gt_model.specs.declared.action.Observation.TheVariants.{Word}
use Rattle.gt_model.specs.declared.action.Step.TheVariants.{LookControl}
use Rattle.gt_calls.specs.declared.known.OwnerEntry.{OwnerEntry}
use Rattle.gt_model.specs.declared.request.Request.TheVariants as requests
use Rattle.gt_core.proofs.Steps.See.{table-fits}
use Rattle.gt_live.proofs.DomainKept.{looked}
use Rattle.gt_live.proofs.Making.{look-same, still_seat}
use Rattle.gt_live.proofs.RowsKept.{row-there}
use Rattle.gt_live.specs.Closing.{AreRefused, AsksWithdrawal, Closes, ClosesRow, ClosesRows, ShutsRow}
use Rattle.gt_live.specs.Closing.{most_withdrawals}
use Rattle.gt_live.specs.Domains.{AllowRelation, BelongsTo, IsDomainOf, IsUnsettled, verdict_of}
use Rattle.gt_live.specs.Walks.{Made}
use Rattle.gt_live.specs.declared.domain.Domain.{Domain}
use Rattle.gt_live.specs.declared.monitor.Monitor.{Monitor}
use Rattle.gt_linearization.proofs.Called.{no-pin, plain-made}
use Rattle.gt_linearization.proofs.RunActions.{at-rest, run_actions-on, rest-on}
use Rattle.gt_linearization.proofs.Leaving.{releases-each, with_rest}
use Rattle.gt_linearization.proofs.Making.{header-is}
use Rattle.gt_linearization.proofs.Places.{as-many}
use Rattle.gt_linearization.specs.Closing.{AreClosing, ClosingIsWithdrawing, ResettingIsReleasing, StatusIsLooking}
use Rattle.gt_linearization.specs.Runs.{AreDeeds, CallMade, DomainAct, IsAtRest, LookMade, domain_after}
use Rattle.gt_linearization.specs.Runs.DomainAct.{Call, Look}
use Rattle.gt_linearization.specs.Runs.CallOutcome.{Judged}

-- the deeds with which a domain closes its table

module _ {P : Type 0} (may : P → AllowRelation) (m : Monitor P) (start : Domain) where
  -- the deeds so far, and the domain after them
  record Came (e : Domain) : Type 0 where
    run_actions : List DomainAct
    made : AreDeeds m.words m.config (may m.rights) start run_actions
    closing : AreClosing run_actions
    now : domain_after start run_actions ≡ e
    mine : BelongsTo may m e
    dom : e.seat.dom ≡ start.seat.dom

  begins : BelongsTo may m start → Came start
  begins mine = record { run_actions = []; made = tt; closing = tt; now = refl; mine = mine; dom = refl }

  asks : (d e : Domain) (gref : GrantRef) (result : Result (Unit {0}) Denial) → Came d → AsksWithdrawal may m d gref result e → Came e
  asks d e gref result was (stays, calls) =
      let one = plain-made may m d e (requests.Withdraw gref) (verdict_of result) (record { before = was.mine; afterwards = stays.0; seat = stays.1 }) (λ a. a) (tt, tt) (no-pin result) calls.answers.0 calls.answers.1 in
      let call : CallMade = record { request = requests.Withdraw gref; outcome = Judged (verdict_of result); steps = one.0; old = d; new = e } in record {
        run_actions = Call call ∷ was.run_actions;
        made = (one.1, at-rest d (domain_after start was.run_actions) was.now, was.made);
        closing = ((gref, refl), was.closing);
        now = refl;
        mine = stays.0;
        dom = stays.1.dom ∙ was.dom;
      }

  refused : (n : ℕ) (d e : Domain) (gref : GrantRef) → Came d → AreRefused may m d gref n e → Came e
  refused zero d e gref was same = subst Came (sym same) was
  refused (suc n) d e gref was (c, denial, before, last) = asks c e gref (Err denial) (refused n d c gref was before) last

  shut : (d e : Domain) (gref : GrantRef) → Came d → ShutsRow may m d gref e → Came e
  shut d e gref was (inl none) = subst Came (sym none.1) was
  shut d e gref was (inr (inl w)) = asks w.before e gref (Ok tt) (refused w.refusals d w.before gref was w.refused) w.granted
  shut d e gref was (inr (inr all)) = refused most_withdrawals d e gref was all

  looks : (d e : Domain) (gref : GrantRef) (word : ℕ) → gref.0 < TABLE_ENTRIES → Came d → IsUnsettled d e → Made m.words.layout (LookControl d.seat.dom gref) (Word word) d.seat.view e.seat.view → Came e
  looks d e gref word inside was kept found =
      let look : LookMade = record { gref = gref; word = word; old = d; new = e } in record {
        run_actions = Look look ∷ was.run_actions;
        made = (record { entry = inside; found = found; kept = kept }, at-rest d (domain_after start was.run_actions) was.now, was.made);
        closing = was.closing;
        now = refl;
        mine = looked m.words m.config (may m.rights) d e was.mine (still_seat m.words d.seat e.seat was.mine.seat kept.seat) kept.seat.dom (λ j. (kept.own j).items) (λ j. (kept.mappings j).slots)
            (look-same m.words.layout (LookControl d.seat.dom gref) (Word word) d.seat.view e.seat.view found tt);
        dom = kept.seat.dom ∙ was.dom;
      }

  row : (d e : Domain) (gref : GrantRef) (word : ℕ) → gref.0 < TABLE_ENTRIES → Came d → ClosesRow may m d gref word e → Came e
  row d e gref word inside was x =
      let before = shut d x.between gref was x.shut in
      looks x.between e gref word inside before x.kept (subst (λ (q : DomId). Made m.words.layout (LookControl q gref) (Word word) x.between.seat.view e.seat.view) (was.dom ∙ sym before.dom) x.look)

  rows : (r : ℕ) (words : List ℕ) → r + length words ≡ TABLE_ENTRIES → (d e : Domain) → Came d → ClosesRows may m d r words e → Came e
  rows r [] all d e was same = subst Came (sym same) was
  rows r (word ∷ words) all d e was (c, here, rest) = rows (suc r) words (omega (arith, all)) c e (row d c (record { 0 = r }) word (omega (arith, all)) was here) rest

  closes : (e : Domain) (left : ℕ) → BelongsTo may m start → Closes may m start left e → Came e
  closes e left mine x = let all = x.all in rows 0 x.words (omega (arith, all)) start e (begins mine) x.rows

-- the rows of a domain are known by what its seat did

same-items : (xs ys : List OwnerEntry) → length xs ≡ length ys → ((r : ℕ) → r < length xs → slice_get xs r ≡ slice_get ys r) → xs ≡ ys
same-items [] [] e f = refl
same-items [] (y ∷ ys) e f = absurd (omega (arith, e))
same-items (x ∷ xs) [] e f = absurd (omega (arith, e))
same-items (x ∷ xs) (y ∷ ys) e f =
    let rest = same-items xs ys (omega (arith, e)) (λ r lt. f (suc r) (omega (arith, lt))) in
    let here : Some x ≡ Some y = f 0 (omega arith) in same x y rest here
  where
    same : (a c : OwnerEntry) → xs ≡ ys → Some a ≡ Some c → ◌≡◌ {A = List OwnerEntry} (a ∷ xs) (c ∷ ys)
    same a c rest here = cc

same-row : (first : ℕ) (xs ys : List OwnerEntry) (r : ℕ) → r < length xs → r < length ys → own_generation first xs r ≡ own_generation first ys r → entry_in xs r ≡ entry_in ys r → slice_get xs r ≡ slice_get ys r
same-row first xs ys r inside within generation entry =
    let x = row-there xs r inside in let y = row-there ys r within in
    let g : x.0.generation ≡ y.0.generation = sym (ap (row_generation first) x.1) ∙ (generation ∙ ap (row_generation first) y.1) in
    let n : x.0.entry ≡ y.0.entry = sym (ap row_entry x.1) ∙ (entry ∙ ap row_entry y.1) in
    let same : x.0 ≡ y.0 = λ j. record { entry = n j; generation = g j } in
    x.1 ∙ (ap (λ (o : OwnerEntry). Some o) same ∙ sym y.1)

same-own : (b : Board) (c : Config) (may : AllowRelation) (d e : Domain) → IsDomainOf b c may d → IsDomainOf b c may e → e.seat.view ≡ d.seat.view → e.own.items ≡ d.own.items
same-own b c may d e x y view =
    same-items e.own.items d.own.items (y.all_rows ∙ sym x.all_rows) (λ r lt.
    let rows = y.all_rows in let all = x.all_rows in
    let inside : r < TABLE_ENTRIES = omega (arith, lt, rows) in
    let last = sym (y.rows r inside) ∙ (ap (λ (v : View). last_of r v) view ∙ x.rows r inside) in
    same-row c.first_gen e.own.items d.own.items r lt (omega (arith, inside, all)) (ap (λ (z : EntryRecord). z.generation) last) (ap (λ (z : EntryRecord). z.entry) last))

-- the table that a domain knows has no more entries than there is room for

known-version : (h : Header) → (h.version ≡ 1) ⊎ (h.version ≡ 2) → h.version ≤ LAST_VERSION
known-version h (inl e) = omega (arith, e)
known-version h (inr e) = omega (arith, e)

own-fits : (k : Layout) (h : StepHistory) (v : View) → StoodWith (Unit {0}) k h v → v.position < k.domains → size_of (own_table v) ≤ TABLE_ENTRIES
own-fits k h v stood inside =
    let n = stood.1.headers v.position inside in let kept = n.1.1 in
    let same : own_header v ≡ header_word n.1.0 = sym (header-is k h v stood inside) ∙ (sym (stood.1.led_here.words (header_place v.position) (omega (arith, inside))) ∙ n.1.2) in
    let fits = table-fits n.1.0 (record { version = known-version n.1.0 kept.version; frames = kept.few }) in
    subst (λ (x : Header). size_of x ≤ TABLE_ENTRIES) (sym (ap header_of same ∙ fits.1)) fits.0

-- the laws

module _ {P : Type 0} (may : P → AllowRelation) (m : Monitor P) where
  pub closing-made : ClosingIsWithdrawing may m
  closing-made d e left mine x =
      let y = closes may m d e left mine x in
      (y.run_actions, record { made = y.made; now = at-rest e (domain_after d y.run_actions) y.now }, y.closing)

  pub resetting-made : ResettingIsReleasing may m
  resetting-made d e left mine x =
      let b = m.words in let c = m.config in let rights = may m.rights in let f = x.between in
      let was = releases-each b c rights d mine x.handles f.mappings f.seat.view x.released in
      let own : f.own.items ≡ d.own.items = same-own b c rights (with_rest d f.seat.view f.mappings) f was.of-run x.mine refl in
      let rest : IsAtRest (with_rest d f.seat.view f.mappings) f = record { seat = λ j. record { table = x.seat.table j; dom = x.seat.dom j; view = f.seat.view }; own = own; mappings = refl } in
      let now : IsAtRest (domain_after d was.run_actions) f = subst (λ (z : Domain). IsAtRest z f) (sym was.now) rest in
      let y = closes may m f e left x.mine x.closes in (
        y.run_actions,
        was.run_actions,
        record { made = run_actions-on d f was.run_actions now b c rights y.run_actions was.made y.made; now = rest-on d f was.run_actions now y.run_actions e (at-rest e (domain_after f y.run_actions) y.now) },
        y.closing,
        was.releases,
      )

  pub status-made : StatusIsLooking may m
  status-made d e gref None mine (past, same) = ([], record { made = tt; now = at-rest e d (sym same) }, refl)
  status-made d e gref (Some control) mine (low, kept, (word, found, is)) =
      let stood = found.0.steps.step.stood in let all = as-many m.config m.words.layout m.same_run in let at = mine.seat.inside in
      let few = own-fits m.words.layout found.0.steps.past d.seat.view stood (omega (arith, all, at)) in
      let x : LookMade = record { gref = gref; word = word; old = d; new = e } in (
        Look x ∷ [],
        record { made = (record { entry = omega (arith, low, few); found = found; kept = kept }, at-rest d d refl, tt); now = at-rest e e refl },
        (x, refl, refl, is),
      )
