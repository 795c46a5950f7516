use Rattle.std.proofs.Common.{◌≡◌, ◌≢◌, ◌≤◌, ◌∙◌, List, ap, arith, get_or, length, sym}
use Rattle.std.proofs.lemmas.Option.{get_or_from_slice_get}
use Rattle.gt_script.specs.Lists.{RunTask}
use Rattle.gt_script.specs.RunScripts.{list_of}
use Rattle.gt_script.specs.Contents.{KeptContents}
use Rattle.gt_types.specs.declared.config.DomainConfig.{DomainConfig}
use Rattle.gt_explore_races.specs.Races.{last_line}
use Rattle.gt_explore_races.proofs.Remade.{last-of}
use Rattle.gt_explore_races.proofs.replaying.line_of.Goals as goal

pub returns : goal.returns
returns c = λ d there.
    let script = c.args.script.now in let list = c.in_ok-list.list in let e = c.in-Some.domain.now in
    let this : e ≡ d = c.in-Some.ensures.lookup.1 ∙ ap (λ (l : List DomainConfig). get_or l c.args.place e) (c.domains.ensures ∙ ap (λ (k : KeptContents). k.domains) c.head.ensures)
    ∙ get_or_from_slice_get script.head.domains c.args.place d e there in
    let some : c.args.begun ≢ 0 = λ none. omega (arith, none, c.if-begun-eq0.false) in
    let within : c.args.begun ≤ length list.items = omega (arith, c.if-begun-len.false, c.len.ensures, list.ok.0) in
    ap (λ (l : List RunTask). last_line l c.args.begun) (sym (c.in_ok-list.ensures ∙ ap (λ (z : DomainConfig). list_of script.tasks z.id) this))
    ∙ last-of (λ t. t.now) list.items c.args.begun c.index.result.now some within c.index.ensures
