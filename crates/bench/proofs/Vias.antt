-- A transitive entry that is kept pinned.
use Rattle.std.proofs.Common.{◌≡◌, ◌≢◌, ℕ, ◌<◌, true, List, length, refl, sym, ap, ◌∙◌, subst, inl}
use Rattle.gt_model.specs.Permits.{forwards}
use Rattle.gt_model.specs.declared.entry.Entry.{Entry}
use Rattle.gt_types.specs.declared.Dir.TheVariants.{Read}
use Rattle.gt_types.specs.declared.DomId.{DomId}
use Rattle.gt_words.specs.Conditions.{Board, HasDomain, IsSameSeat, IsSeatOf, SeatOf}
use Rattle.gt_words.specs.Answers.{Pins}
use Rattle.gt_word_history.specs.Controls.{LeadsTo}
use Rattle.gt_words.specs.Laws.{domain_at}
use Rattle.gt_word_history.specs.Rule.{Layout, id_at, position_in}
use Rattle.gt_word_history.specs.Views.{IsAmong, last_seen, live_pins, record_seen}
use Rattle.gt_word_history.specs.declared.view.EntryStep.{EntryStep}
use Rattle.gt_word_history.specs.declared.view.View.{View}
use Rattle.bench.specs.Mapping.{KeepsVia}

-- domains with other numbers are found elsewhere
pub found_apart : (k : Layout) (d e : DomId) → HasDomain k d → HasDomain k e → e.0 ≢ d.0 → position_in k.ids d ≢ position_in k.ids e
found_apart k d e d_inside e_inside apart same = apart (ap (λ (x : DomId). x.0) (sym (domain_at k e e_inside) ∙ (ap (λ (i : ℕ). id_at k.ids i) (sym same) ∙ domain_at k d d_inside)))

-- the same seat is of the same words
pub still_seat : (b : Board) (s s' : SeatOf) → IsSeatOf b s → IsSameSeat s s' → IsSeatOf b s'
still_seat b s s' is same = record {
  table = same.table ∙ is.table;
  inside = subst (λ (p : ℕ). p < length b.layout.ids) (sym same.position) is.inside;
  named = ap (λ (p : ℕ). id_at b.layout.ids p) same.position ∙ (is.named ∙ sym same.dom);
  ids = same.ids ∙ is.ids;
}

-- the pin just taken is that of a transitive entry
pub via_kept : (k : Layout) (t r o q word : ℕ) (m d : DomId) (v w : View) (e : Entry) → Pins k o q Read word v w → w.position ≡ v.position → id_at k.ids v.position ≡ d → (record_seen (last_seen o q v)).entry ≡ e → forwards e d Read ≡ true → LeadsTo e (id_at k.ids t) r → id_at k.ids o ≡ m → t ≢ o → KeepsVia k t r m w
via_kept k t r o q word m d v w e taken same mine seen forwarded leads named apart = let x = record_seen (last_seen o q v) in record {
  owner = o;
  reference = q;
  via = (Read, x);
  held = subst (λ (ms : List EntryStep). IsAmong (Read, x) (live_pins ms)) (sym taken.steps.adds.here) (inl refl);
  same_kind = refl;
  forwarded = ap (λ (z : Entry). forwards z (id_at k.ids w.position) Read) seen ∙ (ap (λ (u : DomId). forwards e u Read) (ap (λ (i : ℕ). id_at k.ids i) same ∙ mine) ∙ forwarded);
  leads = subst (λ (z : Entry). LeadsTo z (id_at k.ids t) r) (sym seen) leads;
  named = named;
  apart = apart;
}
