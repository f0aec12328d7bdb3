use Rattle.std.proofs.Common.{◌≡◌, [], ◌∷◌, ◌++◌, map, string_bytes, ap, sym, ◌∙◌, rules}
use Rattle.std.proofs.lemmas.List.{map-append}
use Rattle.miette_tree.specs.rules.Tree.{cause_of}
use Rattle.miette_tree.specs.views.Report.{tree_of}
use Rattle.miette_tree.proofs.Ends.{no_diagnostic, last_text}
use Rattle.miette_tree.proofs.tree.Report.root_cause.Goals as goal

pub returns-in-Some : goal.returns-in-Some
returns-in-Some g c =
    let at = tree_of g.D.Diagnostic.meaning g.S.SourceCode.source c.loop-next.at.now in
    let last = no_diagnostic g.D.Diagnostic.meaning g.S.SourceCode.source c.cause.result (cause_of at)
    c.cause.ensures.value c.in_default.not-Diagnostic in
    let split : c.cause_texts.result.now ≡ c.in-Some.field-0-1.now ++ c.in-Some.last.now ∷ [] = search rules in
    let texts : map string_bytes c.cause_texts.result.now ≡ map string_bytes c.in-Some.field-0-1.now
    ++ string_bytes c.in-Some.last.now ∷ [] =
    ap (map string_bytes) split ∙ map-append string_bytes c.in-Some.field-0-1.now (c.in-Some.last.now ∷ []) in
    sym c.loop-next.invariant ∙ (last_text at (map string_bytes c.cause_texts.result.now)
    (map string_bytes c.in-Some.field-0-1.now) (string_bytes c.in-Some.last.now) last.0
    (c.cause_texts.ensures ∙ last.1) texts ∙ search rules)
