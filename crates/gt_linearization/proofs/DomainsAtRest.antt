-- What a domain at rest knows is what the items have made for it, and its calls can begin.
use Rattle.std.proofs.Common.{get_or}
use Rattle.std.proofs.lemmas.Bool.{cases_lt}
use Rattle.std.proofs.lemmas.Option.{slice_get_past}
use Rattle.std.specs.Prelude.{position}
use Rattle.gt_calls.specs.declared.known.OwnerEntry.{OwnerEntry}
use Rattle.gt_core.proofs.Words.{◌≡◌, ◌≢◌, ◌+◌, ◌<◌, ◌≤◌, inl, inr, ℕ, refl, false, List, ◌∷◌, length, Option, Some}
use Rattle.gt_core.proofs.Words.{None, is_some, sym, ap, ◌∙◌, subst, same_Some, none-some, arith, fun_ext, DomId}
use Rattle.gt_core.proofs.Words.{domain_of, Entry, Request, begun_of, CallResult, CallerKnowledge, knowledge_of}
use Rattle.gt_core.proofs.Words.{known_at, Setting, open_call, CallAgrees, StateStands, State, state_of, IsRight}
use Rattle.gt_core.proofs.Words.{MappingsAgree, mappings_at, maps_answered_at, entry_at, generation_at, table_at}
use Rattle.gt_core.proofs.Words.{entry_in, own_generation, row_entry, row_generation, answer_of, TABLE_ENTRIES}
use Rattle.gt_core.proofs.Words.{slice_get, header_stored, stored_at, BodyWord, Underway}
use Rattle.gt_core.proofs.Beginning.{begin-answers}
use Rattle.gt_core.proofs.AgreementKept.{known-same}
use Rattle.gt_core.proofs.Playing.{legal-grows}
use Rattle.gt_core.proofs.Rows.{found, has_id, not-found}
use Rattle.gt_model.proofs.Observers.{kept-entry, kept-raises, kept-table, unstored}
use Rattle.gt_core.proofs.Steps.Write.{frames-begun}
use Rattle.gt_core.specs.GoingOn.{CanBeReached, beginning}
use Rattle.gt_model.specs.History.{History, setting_of}
use Rattle.gt_core.specs.declared.core_state.Begun.TheVariants as beginnings
use Rattle.gt_model.specs.declared.trace.Element.TheVariants as elements
use Rattle.gt_model.specs.declared.trace.Event.TheVariants.{Begin}
use Rattle.gt_model.specs.declared.trace.Item.{Item}
use Rattle.gt_core.specs.declared.underway.OpenCall.{OpenCall}
use Rattle.gt_model.specs.Words.{header_word}
use Rattle.gt_types.specs.declared.config.Config.{Config}
use Rattle.gt_words.specs.Conditions.{Board}
use Rattle.gt_word_history.specs.History.{StepHistory, Layout, part_of}
use Rattle.gt_word_history.specs.Views.{entry_steps, last_of, last_record, own_table}
use Rattle.gt_word_history.specs.declared.view.EntryRecord.{EntryRecord}
use Rattle.gt_live.specs.Domains.{AllowRelation, IsDomainOf, knowledge}
use Rattle.gt_live.specs.declared.domain.Domain.{Domain}
use Rattle.gt_linearization.proofs.AgreementKept.{KeepsWords, live-kept, word-same}
use Rattle.gt_linearization.proofs.Stepping.{state-there}
use Rattle.gt_linearization.specs.Agreeing.{Agree, dom_at, last_at}

-- what a domain at rest knows

module _ (b : Board) (c : Config) (may : AllowRelation) (k : Layout) (g : History) (h : StepHistory) (i : ℕ) (D : Domain) (agree : Agree (setting_of c may) k g h) (inside : i < k.domains) (of-run : IsDomainOf b c may D)
    (at : D.seat.view.position ≡ i) (first : D.seat.view.first ≡ k.first) (steps : D.seat.view.steps ≡ part_of i h) (x : State) (core : StateStands (setting_of c may) g x) (id : x.id ≡ dom_at k i) where
  abbrev s : Setting
  s = setting_of c may

  abbrev d : DomId
  d = dom_at k i

  last-same : (r : ℕ) → last_at k i r h ≡ last_of r D.seat.view
  last-same r = λ j. last_record (sym first j) (entry_steps (sym at j) r (sym steps j))

  past-rows : (own : List OwnerEntry) (r : ℕ) → length own ≡ TABLE_ENTRIES → TABLE_ENTRIES ≤ r → slice_get own r ≡ None
  past-rows own r e l = slice_get_past own r (omega arith)

  known-entry : (r : ℕ) → entry_at g d.0 r ≡ entry_in D.own.items r
  known-entry r = elim (cases_lt r TABLE_ENTRIES) [
    | inl l ↦ agree.entries i r inside l ∙ (ap (λ (z : EntryRecord). z.entry) (last-same r) ∙ ap (λ (z : EntryRecord). z.entry) (of-run.rows r l))
    | inr l ↦ ap (λ (z : DomId). entry_at g z.0 r) (sym id) ∙ (ap (λ (f : ℕ → Entry). f r) (sym core.entries) ∙ (ap row_entry (past-rows x.own r core.rows l) ∙ ap row_entry (sym (past-rows D.own.items r of-run.all_rows l))))
  ]

  known-generation : (r : ℕ) → generation_at s g d.0 r ≡ own_generation c.first_gen D.own.items r
  known-generation r = elim (cases_lt r TABLE_ENTRIES) [
    | inl l ↦ agree.generations i r inside l ∙ (ap (λ (z : EntryRecord). z.generation) (last-same r) ∙ ap (λ (z : EntryRecord). z.generation) (of-run.rows r l))
    | inr l ↦ ap (λ (z : DomId). generation_at s g z.0 r) (sym id) ∙ (ap (λ (f : ℕ → ℕ). f r) (sym core.generations)
        ∙ (ap (row_generation c.first_gen) (past-rows x.own r core.rows l) ∙ ap (row_generation c.first_gen) (sym (past-rows D.own.items r of-run.all_rows l))))
  ]

  pub rest-known : table_at s g d ≡ own_table D.seat.view → MappingsAgree D.mappings (mappings_at g d.0) (maps_answered_at g d.0) → known_at s g d ≡ knowledge c may D
  rest-known head a =
      let e : ◌≡◌ {A = ℕ → Entry} (λ r. entry_at g d.0 r) (entry_in D.own.items) = fun_ext known-entry in
      let n : ◌≡◌ {A = ℕ → ℕ} (λ r. generation_at s g d.0 r) (own_generation c.first_gen D.own.items) = fun_ext known-generation in
      let m = sym a.named in let u = sym a.count in let w = sym a.given in
      λ j. record { domains = c.domains.items; may = may; entry = e j; generation = n j; header = head j; mapping = m j; in_use = u j; maps_answered = w j }

-- a call that a rule answers at its beginning

placed : (xs : List State) (d : ℕ) (x : State) → state_of xs d ≡ Some x → (at : ℕ) × (position (has_id d) xs ≡ Some at) × (x ≡ get_or xs at x)
placed xs d x is = by (position (has_id d) xs) refl where
  by : (o : Option ℕ) → position (has_id d) xs ≡ o → (at : ℕ) × (position (has_id d) xs ≡ Some at) × (x ≡ get_or xs at x)
  by None e = absurd (none-some x (sym (not-found xs d e) ∙ is))
  by (Some at) e = (at, e, same_Some x (get_or xs at x) (sym is ∙ found xs d at x e))

idle : (s : Setting) (g : History) (d : DomId) (o : Option OpenCall) (c : Option Underway) → CallAgrees s g d o c → c ≡ None → is_some o ≡ false
idle s g d None c a e = refl
idle s g d (Some o) None a e = absurd a
idle s g d (Some o) (Some c) a e = absurd (none-some c (sym e))

pub can-be-answered : (s : Setting) (g : History) (d : DomId) (request : Request) (v : CallResult) → CanBeReached s g → domain_of s.domains d ≢ None → open_call g d.0 ≡ None → begun_of (known_at s g d) d request ≡ Some v
    → IsRight s g (beginning d request (Some (answer_of v))) × CanBeReached s (beginning d request (Some (answer_of v)) ∷ g)
can-be-answered s g d request v (core, st) named closed is =
    let t = state-there s g core.domains d st.domains named in let x = t.0 in let a = t.3 in
    let p = placed core.domains d.0 x t.1 in
    let rest : is_some x.underway ≡ false = subst (λ (z : DomId). open_call g z.0 ≡ None → is_some x.underway ≡ false) t.2 (λ e. idle s g x.id x.underway (open_call g x.id.0) a.call e) closed in
    let k = knowledge_of s.domains s.first_generation s.may x.own x.header x.mappings in
    let was : k ≡ known_at s g d = known-same s g x a ∙ ap (known_at s g) t.2 in
    let op : begun_of k d request ≡ Some v = ap (λ (z : CallerKnowledge). begun_of z d request) was ∙ is in
    let b = begin-answers s g core.domains d p.0 x request v (answer_of v) refl p.1 p.2 rest op st.domains in (
      b.1,
      (
        core,
        record {
          legal = legal-grows s g (Begin d request) (elements.Item (beginning d request (Some (answer_of v)))) (named, (refl, refl), b.1) st.legal;
          domains = b.2;
          frames = frames-begun s g core.frames d request (beginnings.Done (answer_of v)) st.frames;
        },
      ),
    )

-- an item that is no step, and changes nothing, keeps items and history in agreement
pub keeps-agreement : (s : Setting) (k : Layout) (g : History) (h : StepHistory) (item : Item) → KeepsWords item → header_stored item.happened ≡ None → ((r : ℕ) (body_word : BodyWord) → stored_at item.happened r body_word ≡ None) → Agree s k g h → Agree s k (item ∷ g) h
keeps-agreement s k g h item keeps head stores a = record {
  words = λ t r l m. word-same s g (item ∷ g) (dom_at k t).0 r (kept-entry item g (dom_at k t).0 r keeps.changes) (kept-raises item g (dom_at k t).0 r keeps.changes) (live-kept item g keeps) ∙ a.words t r l m;
  bodies = λ t r body_word l m. unstored item g (dom_at k t).0 r body_word (stores r body_word) ∙ a.bodies t r body_word l m;
  headers = λ t l. ap header_word (kept-table s item g (dom_at k t) head) ∙ a.headers t l;
  entries = λ t r l m. kept-entry item g (dom_at k t).0 r keeps.changes ∙ a.entries t r l m;
  generations = λ t r l m. ap (λ (n : ℕ). s.first_generation + n) (kept-raises item g (dom_at k t).0 r keeps.changes) ∙ a.generations t r l m;
}
