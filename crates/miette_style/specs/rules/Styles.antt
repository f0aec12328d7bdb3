-- Styles.
use Rattle.std.specs.Prelude.{false, Some, None}
use Rattle.miette_style.specs.declared.style.Color.{Color}
use Rattle.miette_style.specs.declared.style.Style.{Style}

-- the style with nothing set
abbrev pub plain : Style
plain = record { fg = None; bold = false; dimmed = false; italic = false; underline = false }

-- a style with a colour and nothing else
abbrev pub coloured_style : Color → Style
coloured_style c = record plain { fg = Some c }
