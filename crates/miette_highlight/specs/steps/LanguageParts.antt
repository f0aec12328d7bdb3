-- The entries of the tables in the code.
use Rattle.std.specs.Prelude.{Bool, true, Option, Some, None, if◌then◌else◌, ℕ}
use Rattle.miette_highlight.specs.declared.languages.DelimitedPart.{DelimitedPart}
use Rattle.miette_highlight.specs.rules.Languages.{RuleText, between, character}
use Rattle.miette_style.specs.declared.style.Color.TheVariants.{Green}
use Rattle.miette_style.specs.declared.style.Style.{Style}
use Rattle.miette_style.specs.rules.Styles.{coloured_style, plain}

abbrev pub escape_of : Bool → Option ℕ
escape_of escapes = if escapes then Some 92 else None

abbrev pub part_style : Bool → Style
part_style is_comment = if is_comment then record plain { dimmed = true } else coloured_style Green

abbrev pub part_text : DelimitedPart → Style → RuleText
part_text part style =
    if part.is_character then character part.opens.now part.closes.now (escape_of part.escapes) style
    else between part.opens.now part.closes.now (escape_of part.escapes) part.goes_on style

abbrev pub part_rule : DelimitedPart → RuleText
part_rule part = part_text part (part_style part.is_comment)
