use Rattle.std.proofs.Common.{◌++◌, ◌∙◌, ap}
use Rattle.std.proofs.lemmas.Result.{on_ok_weaker}
use Rattle.std.proofs.lemmas.Str.{chars-IsAscii}
use Rattle.miette_runs.proofs.runs.codes.AsciiCodes.push_to.Goals as goal

pub returns : goal.returns
returns g c =
    let o = g.S.Canvas.written c.args.out.now in
    on_ok_weaker c.push_str.result (λ h. h ∙ ap (λ us. o ++ us) (chars-IsAscii c.args.self.text.now c.args.self.ascii))
    c.push_str.ensures
