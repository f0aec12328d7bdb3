use Rattle.std.proofs.Common.{chars}
use Rattle.miette_style.proofs.PrintedText.{printed_where_ok}
use Rattle.std.proofs.lemmas.Str.{encodes-chars}
use Rattle.miette_style.proofs.canvas.StringCanvas.push_str.Goals as goal

pub returns : goal.returns
returns c = printed_where_ok c.push_str.result c.args.self.now c.push_str.new.self (chars c.args.text.now)
    c.args.text.now (encodes-chars c.args.text.now c.utf8.text) c.push_str.ensures.bytes
