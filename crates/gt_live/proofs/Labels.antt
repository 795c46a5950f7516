-- The label of a domain stands at its place in the configuration.
use Rattle.std.proofs.Common.{◌≡◌, ◌≢◌, ◌∙◌, ◌<◌, ℕ, zero, suc, Bool, if◌then◌else◌, List, [], ◌∷◌, length, map}
use Rattle.std.proofs.Common.{get_or, Some, sym, ap, subst, arith}
use Rattle.std.proofs.lemmas.Bool.{eq-eqb, ne_eqb}
use Rattle.gt_types.specs.Names.{domain_of}
use Rattle.gt_roster.specs.Frameless.{IsRunnable}
use Rattle.gt_types.specs.declared.DomId.{DomId}
use Rattle.gt_types.specs.declared.config.Config.{Config}
use Rattle.gt_types.specs.declared.config.DomainConfig.{DomainConfig}
use Rattle.gt_words.specs.Conditions.{Board, IsSeatOf, SeatOf}
use Rattle.gt_words.specs.Laws.{id_at-map, length-ids}
use Rattle.gt_word_history.specs.Rule.{Layout, id_at, layout_of}
use Rattle.gt_model.specs.Rules.{label_in, label_of}

-- a domain is found at its place, if its number is at no earlier one
found-there : (ds : List DomainConfig) (at : ℕ) (e : DomainConfig) (dom : DomId)
    → ((i : ℕ) → i < at → (get_or ds i e).id.0 ≢ dom.0) → at < length ds → (get_or ds at e).id.0 ≡ dom.0
    → domain_of ds dom ≡ Some (get_or ds at e)
found-there [] at e dom apart inside is = absurd (omega arith)
found-there (d ∷ ds) zero e dom apart inside is =
    ap (λ (b : Bool). if b then Some d else domain_of ds dom) (eq-eqb d.id.0 dom.0 is)
found-there (d ∷ ds) (suc at) e dom apart inside is =
    ap (λ (b : Bool). if b then Some d else domain_of ds dom) (ne_eqb d.id.0 dom.0 (apart 0 (omega arith)))
    ∙ found-there ds at e dom (λ i below. apart (suc i) (omega arith)) (omega arith) is

-- a seat's place is one of the configuration's
within : (b : Board) (c : Config) (s : SeatOf) → b.layout ≡ layout_of c → IsSeatOf b s
    → s.view.position < length c.domains.items
within b c s run seat =
    let inside : s.view.position < length (map (λ d. d.id) c.domains.items) =
    subst (λ (k : Layout). s.view.position < length k.ids) run seat.inside in
    subst (λ (n : ℕ). s.view.position < n) (length-ids c.domains.items) inside

-- the label that stands there is its domain's
pub label-there : (b : Board) (c : Config) (s : SeatOf) (e : DomainConfig) → IsRunnable c
    → b.layout ≡ layout_of c → IsSeatOf b s
    → (get_or c.domains.items s.view.position e).label ≡ label_of c.domains.items s.dom
label-there b c s e limits run seat =
    let ds = c.domains.items in let at = s.view.position in let inside = within b c s run seat in
    let named : id_at (map (λ d. d.id) ds) at ≡ s.dom =
    subst (λ (k : Layout). id_at k.ids at ≡ s.dom) run seat.named in
    let is : (get_or ds at e).id.0 ≡ s.dom.0 = ap (λ (d : DomId). d.0) (sym (id_at-map ds at e inside) ∙ named) in
    sym (ap label_in (found-there ds at e s.dom (λ i below same. limits.distinct i at e below inside (same ∙ sym is)) inside is))
