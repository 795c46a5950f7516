use Rattle.std.proofs.Common.{◌≡◌, ◌∙◌, ◌≤◌, ◌++◌, [], ap, arith, length, replicate, length-append, List}
use Rattle.std.proofs.lemmas.List.{length-replicate}
use Rattle.gt_audit.specs.declared.record.Record.{Record}
use Rattle.gt_audit.specs.Pieces.{Filling, joined, room_of}
use Rattle.gt_audit.proofs.Joining.{extends-either, if-ok, place-fits, room-ahead}
use Rattle.gt_audit.proofs.pieces.Pieces.reserve.Goals as goal

pub overflow_sub-ahead : goal.overflow_sub-ahead
overflow_sub-ahead c = omega (arith, place-fits c.self.inside.at c.self.inside.pieces.items c.self.invariant)

pub invariant_of-self : goal.invariant_of-self
invariant_of-self c =
    let e = c.add_pieces.ensures in
    (extends-either c.add_pieces.result c.self.inside.pieces.items c.add_pieces.new.pieces.items c.saturating_sub.result e.added e.refused).filled
    c.self.inside.at c.self.invariant

pub returns-clause-records : goal.returns-clause-records
returns-clause-records c =
    let e = c.add_pieces.ensures in
    (extends-either c.add_pieces.result c.self.inside.pieces.items c.add_pieces.new.pieces.items c.saturating_sub.result e.added e.refused).records
    ∙ ap (λ (f : Filling). f.records) c.self.view_is

pub returns-clause-grows : goal.returns-clause-grows
returns-clause-grows c =
    let e = c.add_pieces.ensures in
    let ps = c.self.inside.pieces.items in let qs = c.add_pieces.new.pieces.items in
    let more = extends-either c.add_pieces.result ps qs c.saturating_sub.result e.added e.refused in
    let same : length (joined qs) ≡ length (joined ps) = ap (λ (rs : List Record). length rs) more.records in
    let room = ap (λ (f : Filling). f.room) c.self.view_is in
    omega (arith, same, more.grows, room)

pub returns-clause-room : goal.returns-clause-room
returns-clause-room c =
    let ps = c.self.inside.pieces.items in
    let qs = c.add_pieces.new.pieces.items in
    let at = c.self.inside.at in
    let n = c.saturating_sub.result in
    let more : qs ≡ ps ++ replicate n [] → c.args.records ≤ room_of qs =
    λ added.
    let e = c.add_pieces.ensures in
    let many = extends-either c.add_pieces.result ps qs n e.added e.refused in
    let count = ap (λ (xs : List (List Record)). length xs) added in
    room-ahead at c.args.records qs (many.filled at c.self.invariant)
    (omega (arith, count, length-append ps (replicate n []), length-replicate {A = List Record} n [], place-fits at ps c.self.invariant)) in
    if-ok c.add_pieces.result _ _ more c.add_pieces.ensures.added
