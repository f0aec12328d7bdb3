use Rattle.std.proofs.Common.{drop, map, ◌≡◌}
use Rattle.std.specs.Str.{bytes_eq}
use Rattle.indexmap.specs.IndexSet.{insert_all}
use Rattle.miette_json.specs.rules.Json.{json_text}
use Rattle.miette_lsp.specs.rules.Diagnostics.{lsp_fix_value}
use Rattle.miette_sarif.specs.views.Artifacts.{artifacts_view}
use Rattle.miette_sarif.specs.views.Findings.{applicable_fix_of, texts_of}
use Rattle.miette_lsp.proofs.edits.insert_fixes.Given as goal

abbrev pub invariant-loop-fix : goal.invariant-loop-fix
invariant-loop-fix l = insert_all bytes_eq (texts_of l.texts.keys)
    (map json_text (map (lsp_fix_value (artifacts_view l.artifacts).untitled)
    (map applicable_fix_of (drop l.fix-index l.fixes))))
    ≡ insert_all bytes_eq (texts_of l.fn.texts.keys)
    (map json_text (map (lsp_fix_value (artifacts_view l.artifacts).untitled) (map applicable_fix_of l.fixes)))
