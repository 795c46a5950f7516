use Rattle.std.specs.Prelude.{◌≡◌, Err, IfOk, None, OnErr}
use Rattle.gt_types.specs.Denial.{denial_of}
use Rattle.gt_types.specs.declared.denial.Facts.TheVariants as facts
use Rattle.gt_types.specs.declared.denial.Rule.TheVariants.{N6}
use Rattle.gt_handles.specs.Handles.{value_of}
use Rattle.gt_live.specs.Domains.{KeepsPinned, known_on}
use Rattle.gt_live.specs.Releasing.{DropsTo}
use Rattle.gt_attached.proofs.Beside.{beside, idle, still}
use Rattle.gt_attached.proofs.NoMapping.{refused-by-n6}
use Rattle.gt_attached.proofs.attached.AttachedDomain.unmap.Goals as goal

pub unmap_with_word-requires : goal.unmap_with_word-requires
unmap_with_word-requires g c = record { mine = idle g.P.Allows.may c.deref.ensures c.self.view_is c.requires.idle c.self.invariant }

pub invariant_of-self : goal.invariant_of-self
invariant_of-self g c = still g.P.Allows.may c.deref.ensures c.self.view_is c.requires.idle c.unmap_with_word.ensures.mine

pub returns-clause-removed : goal.returns-clause-removed
returns-clause-removed g c =
    beside (λ m d. IfOk c.unmap_with_word.result (λ left. DropsTo m.words.layout c.args.handle left d.mappings d.seat.view c.unmap_with_word.new.self.mappings c.unmap_with_word.new.self.seat.view))
    c.deref.ensures c.self.view_is c.unmap_with_word.ensures.removed

pub returns-clause-refused : goal.returns-clause-refused
returns-clause-refused g c =
    beside (λ m d. OnErr c.unmap_with_word.result (KeepsPinned d c.unmap_with_word.new.self)) c.deref.ensures c.self.view_is c.unmap_with_word.ensures.refused

pub returns-clause-absent : goal.returns-clause-absent
returns-clause-absent g c =
    let may = g.P.Allows.may in let n = c.deref.result.now in let d = c.self.inside.attachment.domain in
    beside (λ m x. value_of x.mappings c.args.handle ≡ None → c.unmap_with_word.result ≡ Err (denial_of N6 facts.None))
    c.deref.ensures c.self.view_is
    (λ none. refused-by-n6 n.words.layout (known_on may n d) d.seat.dom c.args.handle c.unmap_with_word.result d.seat.view c.unmap_with_word.new.self.seat.view none c.unmap_with_word.ensures.answered)
