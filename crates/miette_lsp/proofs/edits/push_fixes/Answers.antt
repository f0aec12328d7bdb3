use Rattle.std.proofs.Common.{ap, map, ◌∙◌}
use Rattle.std.proofs.lemmas.Result.{on_ok_weaker}
use Rattle.miette_json.specs.rules.Writing.{closed, opened}
use Rattle.miette_lsp.specs.rules.Diagnostics.{lsp_fix_value}
use Rattle.miette_sarif.proofs.Pieces.{fixes_listed}
use Rattle.miette_sarif.specs.steps.Members.{with_texts}
use Rattle.miette_sarif.specs.views.Artifacts.{artifacts_view}
use Rattle.miette_sarif.specs.views.Findings.{applicable_fix_of, texts_of}
use Rattle.miette_lsp.proofs.edits.push_fixes.Goals as goal

pub returns : goal.returns
returns c =
    let untitled = (artifacts_view c.args.artifacts.now).untitled in
    let all = map (lsp_fix_value untitled) (map applicable_fix_of c.args.fixes.now) in
    let start = opened 91 c.args.json.now in
    on_ok_weaker c.push_texts.result (λ put. put
    ∙ ap (λ ts. closed 93 (with_texts (texts_of ts) start)) c.as_slice.ensures.keys
    ∙ ap (closed 93) (fixes_listed (texts_of c.insert_fixes.new.texts.keys) (texts_of c.new-texts.result.keys) all start
    (ap texts_of c.new-texts.ensures.empty) c.in_ok-insert_fixes.ensures)) c.push_texts.ensures
