use Rattle.std.proofs.Common.{◌≡◌, [], ◌∷◌, ◌++◌, option_map, unwrap_or, map, reverse, string_bytes, sym, ap, ◌∙◌}
use Rattle.std.proofs.lemmas.List.{map-append}
use Rattle.miette_tree.specs.rules.Tree.{wrapped_tree}
use Rattle.miette_tree.specs.views.Report.{tree_of}
use Rattle.miette_description.specs.rules.Description.{wrapped_in}
use Rattle.miette_description.proofs.FrontTexts.{at_once_by, map-reverse}
use Rattle.miette_description.proofs.report.report_under.Goals as goal

pub returns-clause-ok : goal.returns-clause-ok
returns-clause-ok g c =
    let value = tree_of g.D.Diagnostic.meaning g.S.SourceCode.source in
    let front = c.pop.new.self.items in
    let given = c.in-Some.contexts.items in
    let last = string_bytes c.in-Some-pop.last in
    let popped : given ≡ front ++ c.in-Some-pop.last ∷ [] = c.in-Some-pop.ensures.items in
    let all : map string_bytes given ≡ map string_bytes front ++ last ∷ [] = ap (map string_bytes) popped
    ∙ map-append string_bytes front (c.in-Some-pop.last ∷ []) in
    let made : value c.in-Ok.made ≡ wrapped_tree last (value c.args.report) = c.in-Ok.ensures.tree
    ∙ ap (λ l. wrapped_tree l (value c.args.report)) c.as_str.ensures.value in
    let turned : map string_bytes c.reverse.new.self.items ≡ reverse (map string_bytes front) =
    ap (map string_bytes) c.reverse.ensures.items ∙ map-reverse string_bytes front in
    c.with_cause_texts.ensures.tree
    ∙ at_once_by (map string_bytes front) (map string_bytes given) _ _ _ last (value c.args.report) (value c.in-Ok.made)
    all made turned c.cause_texts.ensures c.in_ok-push_texts.ensures.ok
    ∙ ap (λ o. wrapped_in (unwrap_or (option_map (λ v. map string_bytes v.items) o) []) (value c.args.report))
    (sym c.in-Some.is)
