-- The drafts of the code, as the helper definitions represent them.
use Rattle.miette_sarif.specs.declared.edits.Draft.{Draft}
use Rattle.miette_sarif.specs.steps.Drafts.{DraftValue}

abbrev pub draft_of : Draft → DraftValue
draft_of it = record { deleted = it.deleted; text = it.text.items; reached = it.reached }
