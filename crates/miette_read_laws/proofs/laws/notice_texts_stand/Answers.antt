use Rattle.std.specs.Prelude.{[], option_and_then}
use Rattle.miette_read_sarif.specs.rules.Notices.{notification_parts}
use Rattle.miette_read_sarif.specs.rules.Wholes.{all_annotations, file_named, notification_file_annotations}
use Rattle.miette_read_sarif.specs.rules.Wholes.{own_whole_file}
use Rattle.miette_read_laws.proofs.LogOffers.{tree_says}
use Rattle.miette_read_laws.proofs.LogTexts.{notices_stand}
use Rattle.miette_read_laws.proofs.laws.notice_texts_stand.Goals as goal

pub returns-clause-message : goal.returns-clause-message
returns-clause-message c = λ g n.
    (let telling = notification_file_annotations g n in
    tree_says g.files (notification_parts n) (all_annotations g.files telling) []
    (option_and_then (file_named g.files) (own_whole_file g.files telling)))

pub returns-clause-texts : goal.returns-clause-texts
returns-clause-texts c = notices_stand
