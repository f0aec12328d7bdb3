use Rattle.std.proofs.Common.{map, sym, ◌∙◌}
use Rattle.std.specs.Option.{option_map}
use Rattle.std.proofs.lemmas.Result.{IfOk-weaker}
use Rattle.miette_tree.specs.views.Attachments.{section_of}
use Rattle.miette_tree.specs.views.Owned.{ref_source}
use Rattle.miette_brief.specs.rules.Locations.{found_further, span_in_source}
use Rattle.miette_brief.specs.steps.Conversions.{chosen_in}
use Rattle.miette_brief.proofs.Choosing.{found_first, found_later}
use Rattle.miette_brief.proofs.primary.read_chosen.Goals as goal

pub returns-then-is_label : goal.returns-then-is_label
returns-then-is_label g c =
    found_first (span_in_source (option_map (ref_source g.S.SourceCode.source) c.args.source) c.args.own)
    (found_further (chosen_in c.args.choice) (map (section_of g.S.SourceCode.source) c.args.further.now))
    c.in_ok-found.found c.in_ok-found.ensures (sym c.is_label.ensures ∙ c.if-is_label.true)

pub returns : goal.returns
returns g c =
    IfOk-weaker c.read_chosen_further.result _ _ (λ further is.
    found_later (span_in_source (option_map (ref_source g.S.SourceCode.source) c.args.source) c.args.own)
    (found_further (chosen_in c.args.choice) (map (section_of g.S.SourceCode.source) c.args.further.now))
    c.in_ok-found.found further c.in_ok-found.ensures (sym c.is_label.ensures ∙ c.if-is_label.false) is)
    c.read_chosen_further.ensures
