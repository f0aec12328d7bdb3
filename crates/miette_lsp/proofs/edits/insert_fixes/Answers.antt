use Rattle.std.proofs.Common.{List, ap, drop, map, string_bytes, ℕ, ◌+◌}
use Rattle.miette_json.specs.rules.Json.{json_text}
use Rattle.miette_lsp.specs.rules.Diagnostics.{lsp_fix_value}
use Rattle.miette_sarif.proofs.Gathers.{next_in}
use Rattle.miette_sarif.proofs.Keys.{all_inserted}
use Rattle.miette_sarif.specs.rules.Findings.{ApplicableFix}
use Rattle.miette_sarif.specs.views.Artifacts.{artifacts_view}
use Rattle.miette_sarif.specs.views.Findings.{applicable_fix_of, texts_of}
use Rattle.miette_lsp.proofs.edits.insert_fixes.Goals as goal

abbrev texts : List ℕ → List ApplicableFix → List (List ℕ)
texts untitled ps = map json_text (map (lsp_fix_value untitled) ps)

pub loop-fix-preserved : goal.loop-fix-preserved
loop-fix-preserved c =
    let l = c.loop-fix in
    let untitled = (artifacts_view c.args.artifacts.now).untitled in
    all_inserted (texts_of l.texts.keys) (texts_of c.insert_text.new.texts.keys) (string_bytes c.in_ok-text.text) _
    (texts untitled (map applicable_fix_of (drop l.fix-index c.args.fixes.now)))
    (texts untitled (map applicable_fix_of (drop (l.fix-index + 1) c.args.fixes.now))) _
    c.in_ok-insert_text.ensures.texts c.in_ok-text.ensures
    (ap (texts untitled) (next_in applicable_fix_of c.args.fixes.now l.fix-index c.fix-item.result
    c.loop-fix-test.true c.fix-item.is)) l.invariant
