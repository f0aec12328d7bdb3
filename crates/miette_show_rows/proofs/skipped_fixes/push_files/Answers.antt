use Rattle.std.proofs.Common.{◌≡◌, ◌++◌, string_bytes, rules}
use Rattle.miette_read.proofs.Steps.{flat_more}
use Rattle.miette_show_rows.specs.rules.FixesFiles.{outdated_file_row}
use Rattle.miette_show_rows.proofs.skipped_fixes.push_files.Goals as goal

pub loop-name-preserved : goal.loop-name-preserved
loop-name-preserved c =
    let l = c.loop-name in
    let made : string_bytes c.push_str.new.self ≡ string_bytes l.text ++ outdated_file_row
    (string_bytes c.name-item.result) =
    search rules
    in
    flat_more string_bytes c.args.names.now l.name-index c.name-item.result c.loop-name-test.true c.name-item.is
    outdated_file_row (string_bytes c.args.text.now) (string_bytes l.text) (string_bytes c.push_str.new.self) made
    l.invariant
