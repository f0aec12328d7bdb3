use Rattle.std.proofs.lemmas.Result.{IfOk-weaker}
use Rattle.miette_snippet_rules.specs.rules.Highlighting.{leaves_plain, AreCallsOn}
use Rattle.miette_snippet_rules.specs.views.SnippetSettings.{settings_of}
use Rattle.miette_layout.proofs.AskedEnds.{given_asked}
use Rattle.miette_layout.proofs.snippets.all_snippets.Goals as goal

pub returns-clause-gives : goal.returns-clause-gives
returns-clause-gives g c = IfOk-weaker c.snippets_around.result _ _ (λ made h.
    given_asked (record {
      settings = settings_of c.args.settings.now;
      blank = leaves_plain g.H.Highlighter.is_blank c.args.highlighter.now;
      happen = AreCallsOn g.H.Highlighter.may_follow c.args.highlighter.now c.snippets_around.new.highlighter;
    }) (g.S.SourceCode.source c.args.source.now) c.args.labels.now c.end_lines-context_lines.result c.args.page made
    c.end_lines-context_lines.ensures h) c.snippets_around.ensures.gives
