use Rattle.std.proofs.Common.{◌≡◌, [], take, map, string_bytes}
use Rattle.std.specs.List.{fold}
use Rattle.miette_read_sarif.specs.rules.Proposals.{with_help}
use Rattle.miette_read_sarif.proofs.proposals.drafts_help.Given as goal

abbrev pub invariant-loop-draft : goal.invariant-loop-draft
invariant-loop-draft g l =
    map string_bytes l.rows.items ≡ fold (with_help (g.F.Files.found l.files)) [] (take l.draft-index l.drafts)
