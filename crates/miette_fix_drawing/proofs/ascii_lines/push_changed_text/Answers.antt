use Rattle.std.proofs.Common.{◌∙◌, ap, option_map, sym}
use Rattle.std.proofs.lemmas.Result.{on_ok_weaker}
use Rattle.miette_style.specs.rules.Themes.{theme_of}
use Rattle.miette_snippet_rules.specs.rules.CutLines.{dots}
use Rattle.miette_fix_drawing.proofs.ChangedTexts.{printable_put}
use Rattle.miette_fix_drawing.proofs.ascii_lines.push_changed_text.Goals as goal

pub push_pieces-requires : goal.push_pieces-requires
push_pieces-requires g c = sym c.all_printable.ensures ∙ c.if-all_printable.true

pub returns-in-None : goal.returns-in-None
returns-in-None g c =
    let text = c.args.text.now in
    on_ok_weaker c.push_pieces.result (λ h. printable_put (dots (theme_of c.args.theme.now))
    text.tab text.start c.args.pieces.now text.bytes.now
    (option_map (λ made. made.items) c.args.cut.now) c.args.page.now c.push_pieces.new.page
    (ap (option_map (λ made. made.items)) c.in-None.is) (sym c.all_printable.ensures ∙ c.if-all_printable.true)
    h) c.push_pieces.ensures
