use Rattle.std.proofs.Common.{◌≡◌, ◌∙◌, ◌++◌, ◌∷◌, [], ap}
use Rattle.miette_runs.specs.rules.Sequences.{spell}
use Rattle.miette_runs.specs.views.Interleaving.{interleaving}
use Rattle.std.proofs.Common.{append_assoc}
use Rattle.std.proofs.lemmas.Result.{on_ok_weaker}
use Rattle.miette_text.proofs.wrapping.lines.push_break.Goals as goal

pub returns : goal.returns
returns g c =
    let old = g.S.Canvas.written c.args.out.now in
    let further = spell (interleaving 0 c.args.further.codes.now c.args.further.tags.now) in
    let feed : g.S.Canvas.written c.push.new.self ≡ old ++ (10 ∷ []) = c.in_ok-push.ensures in
    on_ok_weaker c.push_runs_slice.result (λ (h : g.S.Canvas.written c.push_runs_slice.new.out
    ≡ g.S.Canvas.written c.push.new.self ++ further). h
    ∙ ap (λ us. us ++ further) feed ∙ append_assoc old (10 ∷ []) further) c.push_runs_slice.ensures
