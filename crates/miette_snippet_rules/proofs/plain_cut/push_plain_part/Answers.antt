use Rattle.std.proofs.lemmas.Result.{on_ok_weaker}
use Rattle.miette_style.specs.rules.Themes.{theme_of}
use Rattle.miette_snippet_rules.specs.rules.CutLines.{dots}
use Rattle.miette_snippet_rules.proofs.CutPlain.{printable_ascii, stretch_dotted, stretch_plain}
use Rattle.miette_snippet_rules.proofs.plain_cut.push_plain_part.Goals as goal

pub push_ascii-requires : goal.push_ascii-requires
push_ascii-requires g c = printable_ascii c.args.own.now c.requires

pub returns-then-not-part : goal.returns-then-not-part
returns-then-not-part g c =
    on_ok_weaker c.push_dots.result (λ h.
    λ bytes same. stretch_dotted (dots (theme_of c.args.theme.now)) c.args.part.now bytes c.args.page.now
    c.push_dots.new.page c.if-not-part.true h) c.push_dots.ensures

pub returns : goal.returns
returns g c =
    on_ok_weaker c.push_ascii.result (λ h.
    λ bytes same. stretch_plain (dots (theme_of c.args.theme.now)) c.args.part.now c.args.own.now bytes
    c.args.page.now c.begin.new.self c.push_ascii.new.page c.if-not-part.false same
    c.in_ok-begin.ensures h) c.push_ascii.ensures
