use Rattle.std.proofs.Common.{rules, ◌≡◌, false, sym, ◌∙◌}
use Rattle.json.specs.Value.{value_view}
use Rattle.miette_description.proofs.ParsedValueLaws.{integral_read, integral_no_float, value_seen}
use Rattle.miette_description.proofs.report.refuse_float.Goals as goal

pub returns-then-is_whole-clause-ok : goal.returns-then-is_whole-clause-ok
returns-then-is_whole-clause-ok c =
    let parsed = value_view c.args.value.now in (
      c.requires ∙ integral_read parsed (sym c.if-is_whole.ensures),
      integral_no_float parsed (sym c.if-is_whole.ensures),
    )

pub returns-clause-ok : goal.returns-clause-ok
returns-clause-ok c =
    let none : c.in_ok-text_has_float.field-0 ≡ false = search rules in
    let made = value_seen _ (value_view c.args.value.now) c.in_ok-text_has_float.field-0 c.requires
    c.in_ok-text_has_float.ensures.some c.in_ok-text_has_float.ensures.ok in
    (made.0, made.1 ∙ none)
