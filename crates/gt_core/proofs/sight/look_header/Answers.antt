use Rattle.gt_core.proofs.Words.{◌∙◌, ap, sym, refl, List, State, header_seen, header_word}
use Rattle.gt_core.proofs.Placed.{seen-there, seen-nowhere}
use Rattle.gt_core.proofs.sight.look_header.Goals as goal

pub returns-in-Some : goal.returns-in-Some
returns-in-Some c =
    c.pack.ensures.word ∙ ap (λ (z : State). header_word z.header) c.domain.view_is
    ∙ sym (seen-there (λ (l : List State). header_seen l c.args.dom.0) (λ (z : State). header_word z.header) c.args.dom.0 (λ y ys. refl) c.args.domains.now c.in-Some.at c.index-domains-at.result (sym c.find.ensures ∙ c.in-Some.is) c.index-domains-at.is)

pub returns-in-None : goal.returns-in-None
returns-in-None c = sym (seen-nowhere (λ (l : List State). header_seen l c.args.dom.0) (λ (z : State). header_word z.header) c.args.dom.0 (λ y ys. refl) c.args.domains.now (sym c.find.ensures ∙ c.in-None.is))
