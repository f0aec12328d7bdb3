use Rattle.std.proofs.Common.{List, codes, map, refl, ℕ}
use Rattle.std.proofs.lemmas.Result.{on_ok_weaker}
use Rattle.miette_json.proofs.WrittenSteps.{five_steps}
use Rattle.miette_json.specs.rules.Json.{Json}
use Rattle.miette_json.specs.rules.Writing.{closed, opened, with_key, with_value}
use Rattle.miette_lsp.specs.rules.Diagnostics.{data_pairs, lsp_fix_values}
use Rattle.miette_sarif.proofs.Growing.{none_put, some_put}
use Rattle.miette_sarif.specs.declared.finding.Proposal.{Proposal}
use Rattle.miette_sarif.specs.rules.Objects.{array_of, object_of, pair}
use Rattle.miette_sarif.specs.views.Artifacts.{artifacts_view}
use Rattle.miette_sarif.specs.views.Findings.{applicable_fix_of}
use Rattle.miette_lsp.proofs.diagnostic.push_data.Goals as goal

abbrev values : List ℕ → List Proposal → List Json
values untitled ps = lsp_fix_values untitled (map applicable_fix_of ps)

pub returns-then-is_empty : goal.returns-then-is_empty
returns-then-is_empty c =
    let untitled = (artifacts_view c.args.artifacts.now).untitled in
    none_put c.args.fixes.now (λ ps. data_pairs (values untitled ps)) c.args.json.now c.is_empty.result refl
    c.is_empty.ensures c.if-is_empty.true

pub returns : goal.returns
returns c =
    let untitled = (artifacts_view c.args.artifacts.now).untitled in
    let fixes = c.args.fixes.now in
    on_ok_weaker c.end_object.result (λ put. some_put fixes
    (λ ps. pair (codes "data") (object_of (pair (codes "fixes") (array_of (values untitled ps)))))
    (λ ps. data_pairs (values untitled ps)) c.args.json.now _ c.is_empty.result (λ p ps. refl) c.is_empty.ensures
    c.if-is_empty.false (five_steps (with_key (codes "data")) (opened 123) (with_key (codes "fixes"))
    (with_value (array_of (values untitled fixes))) (closed 125) c.args.json.now _ _ _ _ _ c.in_ok-key.ensures
    c.in_ok-begin_object.ensures c.in_ok-key-2.ensures c.in_ok-push_fixes.ensures put)) c.end_object.ensures
