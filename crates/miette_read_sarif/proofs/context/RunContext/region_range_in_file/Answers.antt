use Rattle.std.proofs.Common.{◌∙◌, List, ℕ, ap, subst, sym}
use Rattle.std.specs.Prelude.{option_and_then}
use Rattle.serde_json.specs.View.{view}
use Rattle.miette_protocol.specs.rules.Reading.{Source}
use Rattle.miette_read.specs.views.Values.{texts}
use Rattle.miette_read_sarif.specs.rules.Regions.{region_range}
use Rattle.miette_read_sarif.specs.views.Tables.{AreStarts}
use Rattle.miette_read_sarif.proofs.context.RunContext.region_range_in_file.Goals as goal

pub invariant_of-lines : goal.invariant_of-lines
invariant_of-lines g c =
    let newlines = texts c.args.self.now.lists.now.ends.newlines.items in
    record {
      tabled = λ starts is. subst (λ (bytes : List ℕ). AreStarts newlines bytes 0 starts.now) (sym c.bytes.ensures)
          (c.starts_at.ensures starts is c.in-Some.file (sym c.in-Some.ensures));
    }

pub returns-in-Some : goal.returns-in-Some
returns-in-Some g c =
    let encoding = c.args.self.now.encoding in
    let newlines = texts c.args.self.now.lists.now.ends.newlines.items in
    let region = view c.args.region.now in
    c.region_range.ensures
    ∙ ap (λ (bytes : List ℕ). region_range encoding newlines bytes region) c.bytes.ensures
    ∙ ap (option_and_then (λ (source : Source). region_range encoding newlines source.bytes region)) c.in-Some.ensures
