-- Two reports in one log.
use Rattle.std.specs.Prelude.{ℕ, List, codes}
use Rattle.miette_protocol.specs.views.Diagnostic.{message_alone}
use Rattle.miette_tree.specs.rules.Diagnosis.{plain_diagnosis}
use Rattle.miette_tree.specs.rules.Tree.{Tree, single_report}

abbrev pub full_disk : Tree
full_disk = single_report (plain_diagnosis (message_alone (codes "the disk is full")))

abbrev pub no_host : Tree
no_host = single_report (plain_diagnosis (message_alone (codes "no such host")))

-- The contents of the log.
abbrev pub both_rows : List ℕ
both_rows = codes "error: the disk is full\nerror: no such host\n"
