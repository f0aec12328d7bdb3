use Rattle.std.proofs.Common.{◌≡◌, take, true}
use Rattle.std.specs.List.{list_all}
use Rattle.memchr.specs.Find.{is_byte3}
use Rattle.miette_read.specs.views.Values.{texts}
use Rattle.miette_read_sarif.specs.views.Begins.{begins_by}
use Rattle.miette_read_sarif.proofs.newline_sequences.all_begin.Given as goal

-- those that are passed begin so
abbrev pub invariant-loop-sequence : goal.invariant-loop-sequence
invariant-loop-sequence l =
    list_all (begins_by (is_byte3 l.one l.two l.three)) (texts (take l.sequence-index l.newlines)) ≡ true
