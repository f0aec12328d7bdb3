-- What a printer of rows has printed.
use Rattle.std.specs.Prelude.{ℕ, Bool, true, false, if◌then◌else◌, List, [], ◌∷◌, ◌++◌}
use Rattle.miette_style.specs.declared.style.Style.{Style}
use Rattle.miette_style.specs.rules.Styles.{plain}
use Rattle.miette_style.specs.rules.Codes.{colour_start, colour_stop, style_codes}
use Rattle.miette_style.specs.views.Tokens.{RowToken, begins, character, row_end}

-- all characters so far, the style of the last run, and whether that run has a character yet
pub record Printout : Type 0 where
  pub text : List ℕ
  pub style : Style
  pub begun : Bool

-- the codes before and after the characters of a run; none if its style is plain
abbrev pub start_of : Style → List ℕ
start_of style = elim (style_codes style) [ [] ↦ [] | code ∷ codes ↦ colour_start style ]

abbrev pub stop_of : Style → List ℕ
stop_of style = elim (style_codes style) [ [] ↦ [] | code ∷ codes ↦ colour_stop ]

-- characters, followed by a plain run
abbrev pub printout_of : List ℕ → Printout
printout_of text = record { text = text; style = plain; begun = false }

-- the characters after the run is ended
abbrev pub ended_text : Printout → List ℕ
ended_text p = if p.begun then p.text ++ stop_of p.style else p.text

-- the characters after the run is started
abbrev pub started_text : Printout → List ℕ
started_text p = if p.begun then p.text else p.text ++ start_of p.style

-- appends a token
abbrev pub put : Printout → RowToken → Printout
put p (begins style) = record { text = ended_text p; style = style; begun = false }
put p (character code) = record { text = started_text p ++ code ∷ []; style = p.style; begun = true }
put p row_end = printout_of (ended_text p ++ 10 ∷ [])

infixr 5 ◌⊕◌
-- appends tokens
abbrev pub ◌⊕◌ : Printout → List RowToken → Printout
p ⊕ [] = p
p ⊕ (token ∷ tokens) = put p token ⊕ tokens
