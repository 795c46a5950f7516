use Rattle.std.proofs.Common.{◌≡◌, ◌++◌, ◌∙◌, ℕ, List, ap, codes, subst, OnOk}
use Rattle.std.proofs.lemmas.List.{append_assoc}
use Rattle.gt_json.specs.Strings.{quoted}
use Rattle.gt_findings.specs.Report.{object_text, position_text, severity_text}
use Rattle.gt_findings.proofs.report.push_object.Goals as goal

pub returns : goal.returns
unfolding object_text
returns c = let out = c.args.out.now.items in let file = c.args.file.now in let x = c.args.finding.now in
    let first : c.push_quoted.new.out.items ≡ out ++ codes "{\"file\":" ++ quoted file =
    c.in_ok-push_quoted.ensures ∙ ap (λ (l : List ℕ). c.push_text.new.out.items ++ quoted l) c.as_bytes.ensures.value ∙ ap (λ (l : List ℕ). l ++ quoted file) c.in_ok-push_text.ensures.ok in
    let more : c.push_position.new.out.items ≡ out ++ codes "{\"file\":" ++ quoted file ++ codes ",\"line\":" ++ position_text (codes ",\"column\":") x =
    c.in_ok-push_position.ensures ∙ ap (λ (l : List ℕ). l ++ position_text (codes ",\"column\":") x) (c.in_ok-push_text-2.ensures.ok ∙ ap (λ (l : List ℕ). l ++ codes ",\"line\":") first) in
    subst (λ (l : List ℕ). OnOk c.push_members.result (c.push_members.new.out.items ≡ l))
    (ap (λ (l : List ℕ). l ++ codes ",\"severity\":\"" ++ severity_text x.kind ++ codes "\",\"message\":" ++ quoted x.message.items ++ codes "}\n") more ∙ simp append_assoc)
    c.push_members.ensures
