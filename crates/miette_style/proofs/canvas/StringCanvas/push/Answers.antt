use Rattle.std.proofs.Common.{[], ◌∷◌, append-nil, encode_utf8}
use Rattle.miette_style.proofs.PrintedText.{printed_where_ok}
use Rattle.miette_style.proofs.canvas.StringCanvas.push.Goals as goal

pub returns : goal.returns
returns c = printed_where_ok c.push.result c.args.self.now c.push.new.self (c.args.c ∷ []) (encode_utf8 c.args.c)
    (append-nil (encode_utf8 c.args.c)) c.push.ensures.bytes
