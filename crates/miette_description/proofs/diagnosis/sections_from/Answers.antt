use Rattle.std.proofs.Common.{rules, ◌≡◌, [], ◌∷◌, ◌++◌, Option, option_map, map, sym, ap, ◌∙◌}
use Rattle.serde_json.specs.Data.{Items}
use Rattle.miette_tree.specs.views.Attachments.{section_of}
use Rattle.miette_description.specs.steps.ParsedValues.{list_data}
use Rattle.miette_description.specs.rules.Members.{and_then, all_items, snippets_of}
use Rattle.miette_description.proofs.Lists.{none_read, one_read_as, one_fails, all_read}
use Rattle.miette_description.proofs.diagnosis.sections_from.Goals as goal

pub loop-item-init : goal.loop-item-init
loop-item-init g c =
    let section = section_of g.S.SourceCode.source in
    none_read snippets_of c.in_ok-list.list.now (map section c.new-sections.result.items)
    (ap (map section) c.new-sections.ensures.items)

pub returns-in_err-section-clause-description : goal.returns-in_err-section-clause-description
returns-in_err-section-clause-description g c e =
    ap (λ (o : Option Items). and_then o (all_items snippets_of)) (sym c.list_in.ensures
    ∙ ap (option_map (λ list. list_data list.now)) c.in_ok-list.ensures.ok)
    ∙ one_fails snippets_of c.in_ok-list.list.now _ c.loop-item.item-index c.item-item.result c.loop-item-test.true
    c.item-item.is (c.in_err-section.ensures.description (search rules)) c.loop-item.invariant

pub returns-clause-ok : goal.returns-clause-ok
returns-clause-ok g c =
    let section = section_of g.S.SourceCode.source in
    ap (λ (o : Option Items). and_then o (all_items snippets_of)) (sym c.list_in.ensures
    ∙ ap (option_map (λ list. list_data list.now)) c.in_ok-list.ensures.ok)
    ∙ all_read snippets_of c.in_ok-list.list.now (map section c.loop-item.sections.items) c.loop-item.item-index
    c.loop-item-test.false c.loop-item.invariant

pub loop-item-preserved : goal.loop-item-preserved
loop-item-preserved g c =
    let pushed : c.push.new.self.items ≡ c.loop-item.sections.items ++ c.in_ok-section.section ∷ [] = search rules in
    one_read_as snippets_of (section_of g.S.SourceCode.source) c.in_ok-list.list.now c.loop-item.sections.items
    c.push.new.self.items c.loop-item.item-index c.item-item.result c.in_ok-section.section pushed
    c.loop-item-test.true c.item-item.is c.in_ok-section.ensures.ok c.loop-item.invariant
