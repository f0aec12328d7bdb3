use Rattle.std.specs.Prelude.{option_and_then}
use Rattle.miette_read_sarif.specs.rules.Proposals.{suggestion_drafts, drafts_help}
use Rattle.miette_read_sarif.specs.rules.Results.{result_context, result_parts}
use Rattle.miette_read_sarif.specs.rules.Wholes.{all_annotations, file_named, result_file_annotations, own_whole_file}
use Rattle.miette_read_laws.proofs.LogOffers.{tree_says}
use Rattle.miette_read_laws.proofs.LogTexts.{log_stand}
use Rattle.miette_read_laws.proofs.laws.log_texts_stand.Goals as goal

pub returns-clause-message : goal.returns-clause-message
returns-clause-message c = λ g r.
    (let k = result_context g r in
    let telling = result_file_annotations k r in
    tree_says k.files (result_parts k (drafts_help k.files (suggestion_drafts k r)) r) (all_annotations k.files telling)
    (suggestion_drafts k r) (option_and_then (file_named k.files) (own_whole_file k.files telling)))

pub returns-clause-texts : goal.returns-clause-texts
returns-clause-texts c = λ g r. log_stand (result_context g r) r
