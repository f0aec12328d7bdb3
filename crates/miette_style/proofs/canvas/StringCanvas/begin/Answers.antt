use Rattle.miette_style.proofs.PrintedText.{printed_on_ok}
use Rattle.miette_style.specs.rules.Codes.{colour_start}
use Rattle.miette_style.proofs.StyleBytes.{start-bytes}
use Rattle.miette_style.proofs.canvas.StringCanvas.begin.Goals as goal

pub returns : goal.returns
returns c = printed_on_ok c.push_style.result c.args.self.now c.push_style.new.out (colour_start c.args.style)
    (colour_start c.args.style) (start-bytes c.args.style) c.push_style.ensures
