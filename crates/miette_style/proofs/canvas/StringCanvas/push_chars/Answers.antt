use Rattle.std.proofs.Common.{encode_utf8_all, refl}
use Rattle.miette_style.proofs.PrintedText.{printed_on_ok}
use Rattle.miette_style.proofs.canvas.StringCanvas.push_chars.Goals as goal

pub returns : goal.returns
returns c = printed_on_ok c.push_codes.result c.args.self.now c.push_codes.new.text c.args.codes.now
    (encode_utf8_all c.args.codes.now) refl c.push_codes.ensures
