-- A step at the position of a domain, in the words, the position and the view that its call names.
use Rattle.std.proofs.Common.{◌≡◌, ℕ, ◌<◌, ap, ◌∙◌, sym, subst, length, arith}
use Rattle.std.proofs.lemmas.List.{length-map}
use Rattle.gt_types.specs.declared.DomId.{DomId}
use Rattle.gt_types.specs.declared.config.DomainConfig.{DomainConfig}
use Rattle.gt_types.specs.declared.limits.TheConstants.{TABLE_ENTRIES}
use Rattle.gt_model.specs.Words.{header_word}
use Rattle.gt_model.specs.declared.change.BodyWord.{BodyWord}
use Rattle.gt_model.specs.declared.header.Header.{Header}
use Rattle.gt_word_history.specs.Moves.{Takes, TakesStored}
use Rattle.gt_word_history.specs.Places.{Board}
use Rattle.gt_word_history.specs.Rule.{Layout, header_place, place}
use Rattle.gt_word_history.specs.Steps.{body_word_index, looking, looking_at_header, reading, storing}
use Rattle.gt_word_history.specs.Steps.{storing_header}
use Rattle.gt_word_history.specs.Views.{last_of}
use Rattle.gt_word_history.specs.declared.view.HeaderStep.TheVariants as header
use Rattle.gt_word_history.specs.declared.view.View.{View}
use Rattle.gt_words.specs.Answers.{LooksAtBody, LooksAtControl, LooksAtHeader, StoresBody, StoresHeader}
use Rattle.gt_words.specs.Conditions.{HasDomain, IsLayoutWithinLimits, IsSeatOf, IsWordOf, SeatOf, position_at}
use Rattle.gt_words.proofs.Headers.{adds_to_header, looks_at_header, stores_header}
use Rattle.gt_words.proofs.StepFacts.{looks, looks_at_own, reads_body, stores_body}

-- a run has as many names as domains
long : (k : Layout) → IsLayoutWithinLimits k → length k.ids ≡ k.domains
long k run =
    ap (λ (j : Layout). length j.ids) run.2
    ∙ (length-map run.0.domains.items (λ (x : DomainConfig). x.id) ∙ sym (ap (λ (j : Layout). j.domains) run.2))

-- the words have the domain's position
pub has_position : (b b' : Board) (d : DomId) (t : ℕ) → b' ≡ b → IsLayoutWithinLimits b'.layout → t ≡ position_at b d
    → HasDomain b.layout d → t < b'.layout.domains
has_position b b' d t same run at has =
    let e = long b'.layout run in
    let here : t < length b'.layout.ids =
    subst (λ (q : ℕ × Board). q.0 < length q.1.layout.ids) (λ i. (sym at i, sym same i)) has in
    omega arith

-- the words have the seat's own position
pub has_own_position : (b b' : Board) (s : SeatOf) (v' : View) (t : ℕ) → b' ≡ b → IsLayoutWithinLimits b'.layout
    → v' ≡ s.view → v'.position ≡ t → IsSeatOf b s → t < b'.layout.domains
has_own_position b b' s v' t same run view own is =
    let e = long b'.layout run in
    let here : v'.position < length b'.layout.ids =
    subst (λ (q : View × Board). q.0.position < length q.1.layout.ids) (λ i. (sym view i, sym same i)) is.inside in
    omega arith

pub body_stored : (b b' : Board) (t r : ℕ) (h : BodyWord) (value : ℕ) (v v' w : View) → b' ≡ b → v' ≡ v → v'.position ≡ t
    → TakesStored (storing b'.layout t r h value) (place t r (body_word_index h)) v' w → StoresBody b.layout r h value v w
body_stored b b' t r h value v v' w same view own e =
    subst (λ (q : Board × View). StoresBody q.0.layout r h value q.1 w) (λ i. (same i, view i))
    (stores_body b'.layout t r h value e.0 v' w own e.1.0 e.1.1 e.1.2)

pub header_stored : (b b' : Board) (t value : ℕ) (h : Header) (v v' w : View) → b' ≡ b → v' ≡ v → v'.position ≡ t
    → value ≡ header_word h → TakesStored (storing_header b'.layout t value) (header_place t) v' w
    → StoresHeader b.layout h v w
header_stored b b' t value h v v' w same view own is e =
    let adds = adds_to_header e.1.0 t (header.Stored value) v' w e.1.1 in
    subst (λ (q : Board × View). StoresHeader q.0.layout h q.1 w) (λ i. (same i, view i))
    (stores_header b'.layout t value h e.0 v' w own is (record { past = e.1.0; adds = adds; step = e.1.2 }))

module _ (b b' : Board) (d : DomId) (t n : ℕ) (v v' w : View) (same : b' ≡ b) (at : t ≡ position_at b d) (view : v' ≡ v) (tn : t < b'.layout.domains) where
  pub header_looked : Takes (looking_at_header b'.layout t) (header_place t) n v' w → LooksAtHeader b.layout (position_at b d) n v w
  header_looked e =
      subst (λ (q : Board × ℕ × View). LooksAtHeader q.0.layout q.1 n q.2 w) (λ i. (same i, at i, view i))
      (looks_at_header b'.layout t n v' w tn e.0 e.1 e.2)

  pub control_looked : (r : ℕ) → r < TABLE_ENTRIES → Takes (looking b'.layout t r) (place t r 0) n v' w
      → LooksAtControl b.layout (position_at b d) r n v w
  control_looked r rn e =
      subst (λ (q : Board × ℕ × View). LooksAtControl q.0.layout q.1 r n q.2 w) (λ i. (same i, at i, view i))
      (looks b'.layout t r n v' w tn rn e.0 e.1 e.2)

  -- a look at an entry of the seat's own domain
  pub own_looked : (r : ℕ) → r < TABLE_ENTRIES → Takes (looking b'.layout t r) (place t r 0) n v' w → v'.position ≡ t
      → IsWordOf (last_of r w) n
  own_looked r rn e =
      looks_at_own b'.layout t r n v' w tn rn (looks b'.layout t r n v' w tn rn e.0 e.1 e.2)

  pub body_looked : (r : ℕ) (h : BodyWord) → Takes (reading b'.layout t r h) (place t r (body_word_index h)) n v' w
      → LooksAtBody b.layout (position_at b d) r h n v w
  body_looked r h e =
      subst (λ (q : Board × ℕ × View). LooksAtBody q.0.layout q.1 r h n q.2 w) (λ i. (same i, at i, view i))
      (reads_body b'.layout t r h n v' w e.0 e.1 e.2)
