use Rattle.std.proofs.Common.{◌++◌, ℕ, Global, List, String, ap, map, string_bytes, ◌∙◌}
use Rattle.std.specs.List.{flat_map}
use Rattle.std.specs.Option.{option_copied}
use Rattle.std.proofs.lemmas.List.{take_all}
use Rattle.miette_read.proofs.Steps.{flat_more}
use Rattle.miette_read_sarif.specs.rules.Wholes.{file_name_annotation}
use Rattle.miette_read_sarif.proofs.file_annotations.push_file_names.Goals as goal

pub loop-name-preserved : goal.loop-name-preserved
loop-name-preserved c =
    let l = c.loop-name in
    flat_more string_bytes c.args.names.now l.name-index c.name-item.result c.loop-name-test.true c.name-item.is
    (file_name_annotation (option_copied c.args.main)) c.args.list.now.items l.list.items
    c.push_file_name.new.list.items
    (c.in_ok-push_file_name.ensures
    ∙ ap (λ (name : List ℕ). l.list.items ++ file_name_annotation (option_copied c.args.main) name)
    c.as_str.ensures.value)
    l.invariant

pub returns : goal.returns
returns c =
    c.loop-name.invariant
    ∙ ap (λ (names : List (String Global)). c.args.list.now.items
    ++ flat_map (file_name_annotation (option_copied c.args.main)) (map string_bytes names))
    (take_all c.loop-name.name-index c.args.names.now c.loop-name-test.false)
