use Rattle.std.proofs.Common.{inr, map, refl, rules, string_bytes}
use Rattle.std.proofs.lemmas.Result.{on_err_weaker, on_ok_weaker}
use Rattle.std.specs.Io.KnownBytes.{Appends}
use Rattle.miette_devices.specs.views.Device.{TakesBeginning}
use Rattle.miette_draw.specs.views.DrawReports.{draw_request}
use Rattle.miette_devices.proofs.FaultStatuses.{never-usage}
use Rattle.miette_draw.proofs.DrawSteps.{call_pictured, draw_called}
use Rattle.miette_draw.proofs.draw.run_draw.Goals as goal

pub returns-in_default-clause-usage : goal.returns-in_default-clause-usage
returns-in_default-clause-usage g c = (λ fault. let h = c.in_default.ensures.none in search rules, λ words. refl)

pub returns-clause-ok : goal.returns-clause-ok
returns-clause-ok g c =
    on_ok_weaker c.write_drawing.result (call_pictured (map string_bytes c.args.words.now)
    (draw_request c.in-Some.words) (g.R.Read.remaining c.args.reader.now.inner)
    (Appends (g.W.Write.contents c.args.writer.now.inner) (g.W.Write.contents c.write_drawing.new.writer.inner))
    c.in-Some.ensures.some) c.write_drawing.ensures.ok

pub returns-clause-beginning : goal.returns-clause-beginning
returns-clause-beginning g c =
    λ fault. call_pictured (map string_bytes c.args.words.now) (draw_request c.in-Some.words)
    (g.R.Read.remaining c.args.reader.now.inner)
    (TakesBeginning (g.W.Write.contents c.args.writer.now.inner) (g.W.Write.contents c.write_drawing.new.writer.inner))
    c.in-Some.ensures.some (c.write_drawing.ensures.beginning fault)

pub returns-clause-usage : goal.returns-clause-usage
returns-clause-usage g c =
    draw_called _ (map string_bytes c.args.words.now) (draw_request c.in-Some.words) c.in-Some.ensures.some
    (never-usage c.write_drawing.result c.write_drawing.ensures.others)

pub returns-clause-others : goal.returns-clause-others
returns-clause-others g c = on_err_weaker c.write_drawing.result inr c.write_drawing.ensures.others

pub returns-clause-unread : goal.returns-clause-unread
returns-clause-unread g c = λ fault. absurd (never-usage c.write_drawing.result c.write_drawing.ensures.others fault)
