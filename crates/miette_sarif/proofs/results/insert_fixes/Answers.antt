use Rattle.std.proofs.Common.{ℕ, ◌+◌, List, ap, drop, map, string_bytes}
use Rattle.miette_json.specs.rules.Json.{json_text}
use Rattle.miette_sarif.specs.rules.Artifacts.{Artifacts}
use Rattle.miette_sarif.specs.rules.Findings.{ApplicableFix}
use Rattle.miette_sarif.specs.rules.Results.{sarif_fix_value}
use Rattle.miette_sarif.specs.views.Artifacts.{artifacts_view}
use Rattle.miette_sarif.specs.views.Findings.{applicable_fix_of, texts_of}
use Rattle.miette_sarif.proofs.Gathers.{next_in}
use Rattle.miette_sarif.proofs.Keys.{all_inserted}
use Rattle.miette_sarif.proofs.results.insert_fixes.Goals as goal

abbrev texts : Artifacts → List ApplicableFix → List (List ℕ)
texts a ps = map json_text (map (sarif_fix_value a) ps)

pub loop-fix-preserved : goal.loop-fix-preserved
loop-fix-preserved c =
    let l = c.loop-fix in
    let a = artifacts_view c.args.artifacts.now in
    all_inserted (texts_of l.texts.keys) (texts_of c.insert_text.new.texts.keys) (string_bytes c.in_ok-text.text) _
    (texts a (map applicable_fix_of (drop l.fix-index c.args.fixes.now)))
    (texts a (map applicable_fix_of (drop (l.fix-index + 1) c.args.fixes.now))) _
    c.in_ok-insert_text.ensures.texts c.in_ok-text.ensures
    (ap (texts a) (next_in applicable_fix_of c.args.fixes.now l.fix-index c.fix-item.result c.loop-fix-test.true
    c.fix-item.is)) l.invariant
