use Rattle.std.proofs.Common.{◌≡◌, ◌++◌, string_bytes, rules}
use Rattle.miette_read.proofs.Steps.{flat_more}
use Rattle.miette_show_rows.specs.rules.FixesFiles.{skipped_package_row}
use Rattle.miette_show_rows.proofs.skipped_fixes.push_packages.Goals as goal

pub loop-name-preserved : goal.loop-name-preserved
loop-name-preserved c =
    let l = c.loop-name in
    let made : string_bytes c.push_str.new.self ≡ string_bytes l.text ++ skipped_package_row
    (string_bytes c.name-item.result) =
    search rules
    in
    flat_more string_bytes c.args.packages.now l.name-index c.name-item.result c.loop-name-test.true c.name-item.is
    skipped_package_row (string_bytes c.args.text.now) (string_bytes l.text) (string_bytes c.push_str.new.self) made
    l.invariant
