use Rattle.miette_tree.specs.views.Report.{tree_of}
use Rattle.miette.proofs.Inputs.{named_input}
use Rattle.miette.proofs.input.read_text.Goals as goal

pub returns-in-Ok : goal.returns-in-Ok
returns-in-Ok g c =
    named_input c.utf8_text_of.result (tree_of _ _) _ _ c.in-Ok.bytes.items c.input_name-name.ensures
    c.utf8_text_of.ensures.err
