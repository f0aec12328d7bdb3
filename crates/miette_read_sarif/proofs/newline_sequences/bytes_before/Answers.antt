use Rattle.memchr.specs.Find.{is_byte3}
use Rattle.miette_read_sarif.proofs.BeginSteps.{none_at_all, none_before}
use Rattle.miette_read_sarif.proofs.newline_sequences.bytes_before.Goals as goal

pub returns-in-Some-clause-none : goal.returns-in-Some-clause-none
returns-in-Some-clause-none c =
    none_before (is_byte3 c.args.one c.args.two c.args.three) c.args.bytes.now c.in-Some.place c.in-Some.ensures

pub returns-in-None-clause-none : goal.returns-in-None-clause-none
returns-in-None-clause-none c =
    none_at_all (is_byte3 c.args.one c.args.two c.args.three) c.args.bytes.now c.in-None.ensures
