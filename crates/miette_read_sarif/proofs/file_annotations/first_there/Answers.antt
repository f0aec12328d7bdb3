use Rattle.std.proofs.Common.{◌≡◌, ℕ, List, Some, ap, false, rules, string_bytes, sym, true, ◌∙◌}
use Rattle.miette_read_sarif.specs.rules.Wholes.{is_there}
use Rattle.miette_read_sarif.proofs.Finding.{found_here, not_yet}
use Rattle.miette_read_sarif.proofs.file_annotations.first_there.Goals as goal

pub returns-then-is_there : goal.returns-then-is_there
returns-then-is_there g c =
    let l = c.loop-name in
    let x = c.name-item.result in
    let there = is_there (g.F.Files.found c.args.files.now) in
    let hit : there (string_bytes x) ≡ true = search rules in
    ap (λ (name : List ℕ). Some name) c.as_str-then-is_there.ensures.value
    ∙ sym (found_here string_bytes there c.args.names.now l.name-index x c.loop-name-test.true c.name-item.is hit
    l.invariant)

pub loop-name-preserved : goal.loop-name-preserved
loop-name-preserved g c =
    let l = c.loop-name in
    let x = c.name-item.result in
    let there = is_there (g.F.Files.found c.args.files.now) in
    let miss : there (string_bytes x) ≡ false = search rules in
    not_yet string_bytes c.args.names.now l.name-index x c.loop-name-test.true c.name-item.is there miss l.invariant
