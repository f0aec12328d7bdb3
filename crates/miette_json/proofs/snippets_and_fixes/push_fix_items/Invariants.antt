use Rattle.std.proofs.Common.{◌≡◌, drop}
use Rattle.miette_json.specs.rules.JsonReport.{fixes_json}
use Rattle.miette_json.specs.rules.Writing.{opened, with_items}
use Rattle.miette_json.proofs.snippets_and_fixes.push_fix_items.Given as goal

abbrev pub invariant-loop-fix : goal.invariant-loop-fix
invariant-loop-fix l =
    with_items (fixes_json (drop l.fix-index l.fixes)) l.json ≡ with_items (fixes_json l.fixes) (opened 91 l.fn.json)
