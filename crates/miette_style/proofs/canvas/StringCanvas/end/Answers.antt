use Rattle.miette_style.proofs.PrintedText.{printed_where_ok}
use Rattle.miette_style.specs.rules.Codes.{colour_stop}
use Rattle.miette_style.proofs.StyleBytes.{stop-bytes}
use Rattle.miette_style.proofs.canvas.StringCanvas.end.Goals as goal

pub returns : goal.returns
returns c = printed_where_ok c.push_str.result c.args.self.now c.push_str.new.self colour_stop colour_stop stop-bytes
    c.push_str.ensures.bytes
