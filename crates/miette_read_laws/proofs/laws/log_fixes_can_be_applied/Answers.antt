use Rattle.std.specs.Prelude.{option_and_then}
use Rattle.miette_read_sarif.specs.rules.Proposals.{suggestion_drafts, drafts_help}
use Rattle.miette_read_sarif.specs.rules.Results.{result_context, result_parts}
use Rattle.miette_read_sarif.specs.rules.Wholes.{all_annotations, file_named, result_file_annotations, own_whole_file}
use Rattle.miette_read_laws.proofs.LogFixes.{all_named, tree_applies}
use Rattle.miette_read_laws.proofs.LogOffers.{whole_plain}
use Rattle.miette_read_laws.proofs.laws.log_fixes_can_be_applied.Goals as goal

pub returns : goal.returns
returns c = λ g r.
    (let k = result_context g r in
    let telling = result_file_annotations k r in
    tree_applies k.files (result_parts k (drafts_help k.files (suggestion_drafts k r)) r)
    (all_annotations k.files telling) (suggestion_drafts k r)
    (option_and_then (file_named k.files) (own_whole_file k.files telling)) (whole_plain k.files telling)
    (all_named k.files (own_whole_file k.files telling)))
