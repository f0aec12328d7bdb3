use Rattle.std.proofs.Common.{◌≡◌, ◌||◌, ap, false, map, true, ◌∙◌}
use Rattle.miette_tree.specs.views.Attachments.{section_of}
use Rattle.miette_graphical_rules.specs.rules.Sources.{some_further}
use Rattle.miette_graphical.proofs.SourceRows.{some_mapped}
use Rattle.miette_graphical.proofs.sources.layout_with.Goals as goal

pub returns-then-some_further : goal.returns-then-some_further
returns-then-some_further g c =
    let layout = c.args.layout.now in
    let value = section_of g.S.SourceCode.source in
    let some : true ≡ some_further (map value c.args.sections.now) =
    c.if-some_further.ensures ∙ some_mapped value c.args.sections.now in
    ap (λ b. record layout { one_line_start = b || layout.one_line_start }) some

pub returns : goal.returns
returns g c =
    let layout = c.args.layout.now in
    let value = section_of g.S.SourceCode.source in
    let none : false ≡ some_further (map value c.args.sections.now) =
    c.if-some_further.ensures ∙ some_mapped value c.args.sections.now in
    ap (λ b. record layout { one_line_start = b || layout.one_line_start }) none
