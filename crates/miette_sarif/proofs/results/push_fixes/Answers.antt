use Rattle.std.proofs.Common.{List, ap, codes, map, refl, ◌∙◌}
use Rattle.std.proofs.lemmas.Result.{on_ok_weaker}
use Rattle.miette_json.specs.rules.Json.{Json}
use Rattle.miette_json.specs.rules.Writing.{closed, opened, with_value}
use Rattle.miette_sarif.proofs.Growing.{none_put, some_put}
use Rattle.miette_sarif.proofs.Pieces.{fixes_listed}
use Rattle.miette_sarif.specs.declared.finding.Proposal.{Proposal}
use Rattle.miette_sarif.specs.rules.Artifacts.{Artifacts}
use Rattle.miette_sarif.specs.rules.Objects.{array_of, listed, pair}
use Rattle.miette_sarif.specs.rules.Results.{sarif_fix_value, sarif_fix_values}
use Rattle.miette_sarif.specs.steps.Members.{with_texts}
use Rattle.miette_sarif.specs.views.Artifacts.{artifacts_view}
use Rattle.miette_sarif.specs.views.Findings.{applicable_fix_of, texts_of}
use Rattle.miette_sarif.proofs.results.push_fixes.Goals as goal

abbrev values : Artifacts → List Proposal → List Json
values a ps = sarif_fix_values a (map applicable_fix_of ps)

pub returns-then-is_empty : goal.returns-then-is_empty
returns-then-is_empty c =
    let a = artifacts_view c.args.artifacts.now in
    none_put c.args.fixes.now (λ ps. listed (codes "fixes") (values a ps)) _ c.is_empty.result refl c.is_empty.ensures
    c.if-is_empty.true

pub returns : goal.returns
returns c =
    let a = artifacts_view c.args.artifacts.now in
    let fixes = c.args.fixes.now in
    let key = c.key.new.self in
    let all = map (sarif_fix_value a) (map applicable_fix_of fixes) in
    on_ok_weaker c.push_texts.result (λ put. some_put fixes (λ ps. pair (codes "fixes") (array_of (values a ps)))
    (λ ps. listed (codes "fixes") (values a ps)) c.args.json.now _ c.is_empty.result (λ p ps. refl) c.is_empty.ensures
    c.if-is_empty.false (put
    ∙ ap (λ ts. closed 93 (with_texts (texts_of ts) (opened 91 key))) c.as_slice.ensures.keys
    ∙ ap (closed 93) (fixes_listed (texts_of c.insert_fixes.new.texts.keys) (texts_of c.new-texts.result.keys) all
    (opened 91 key) (ap texts_of c.new-texts.ensures.empty) c.in_ok-insert_fixes.ensures)
    ∙ ap (with_value (array_of (values a fixes))) c.in_ok-key.ensures)) c.push_texts.ensures
