-- Inputs of snippets without escapes.
use Rattle.std.specs.Prelude.{◌≡◌, ℕ, true, false, List, map, chars, IfSome}
use Rattle.std.specs.List.{AllByRecursion}
use Rattle.miette_style.specs.rules.Escapes.{is_escape}
use Rattle.miette_style.specs.rules.Escapes.{no_escape}
use Rattle.miette_protocol.specs.views.Meaning.{Label}
use Rattle.miette_protocol.specs.rules.Reading.{Source}
use Rattle.miette_style.specs.rules.Rows.{Row}
use Rattle.miette_style.specs.rules.Themes.{Characters}

-- a character that isn't an escape, and a text without one
abbrev pub IsCleanCode : ℕ → Type 0
IsCleanCode code = is_escape code ≡ false

abbrev pub IsClean : List ℕ → Type 0
IsClean text = no_escape text ≡ true

-- the same for a text's bytes
abbrev pub IsCleanText : List ℕ → Type 0
IsCleanText bytes = IsClean (chars bytes)

-- the characters of frames, gutters and underlines contain no escape
pub record AreCleanDrawings (t : Characters) : Type 0 where
  pub hbar : IsCleanCode t.hbar
  pub vbar : IsCleanCode t.vbar
  pub vbar_break : IsCleanCode t.vbar_break
  pub uarrow : IsCleanCode t.uarrow
  pub rarrow : IsCleanCode t.rarrow
  pub ltop : IsCleanCode t.ltop
  pub lbot : IsCleanCode t.lbot
  pub lcross : IsCleanCode t.lcross
  pub rcross : IsCleanCode t.rcross
  pub underbar : IsCleanCode t.underbar
  pub underline : IsCleanCode t.underline

-- neither do the source's name and its bytes
pub record IsCleanSource (s : Source) : Type 0 where
  pub name : IfSome s.name IsCleanText
  pub bytes : IsClean s.bytes

-- nor a label's text
abbrev pub IsCleanLabel : Label → Type 0
IsCleanLabel l = IfSome l.text IsCleanText

-- no run of a row contains an escape
abbrev pub IsCleanRow : Row → Type 0
IsCleanRow row = AllByRecursion (λ run. IsClean (map (λ p. p.code) run.glyphs)) row
