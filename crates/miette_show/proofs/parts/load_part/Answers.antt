use Rattle.std.proofs.Common.{◌≡◌, false, rules}
use Rattle.miette_show.specs.rules.ShownRow.{begins_message}
use Rattle.miette_show.proofs.Logging.{none_begun}
use Rattle.miette_show.proofs.parts.load_part.Goals as goal

pub returns-then-not-begins_message-clause-known : goal.returns-then-not-begins_message-clause-known
returns-then-not-begins_message-clause-known g c =
    let not : begins_message c.args.row.from c.args.row.bytes.now ≡ false = search rules in
    none_begun c.args.row.from (g.F.FileLoader.knows c.args.files.now) c.args.row.bytes.now not
