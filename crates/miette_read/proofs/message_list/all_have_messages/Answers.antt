use Rattle.std.proofs.Common.{◌∙◌, rules, tests}
use Rattle.std.proofs.lemmas.Iterator.{YieldsList-from_slice}
use Rattle.std.proofs.lemmas.Iterator.Search.{all_from_yields_List}
use Rattle.serde_json.specs.View.{view}
use Rattle.miette_read.specs.rules.MessageLists.{has_message}
use Rattle.miette_read.proofs.Steps.{all_of}
use Rattle.miette_read.proofs.message_list.all_have_messages.Goals as goal

pub returns : goal.returns
returns c =
    let items = c.args.messages.now in
    all_from_yields_List (λ v. has_message (view v)) _ _ _ c.all.ensures.ran (YieldsList-from_slice items cc)
    (λ x b q k. search (rules, tests))
    ∙ all_of view has_message items
