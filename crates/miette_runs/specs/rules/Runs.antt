-- What styled texts and links print.
use Rattle.std.specs.Prelude.{◌≡◌, ℕ, true, List, [], ◌∷◌, ◌++◌}
use Rattle.miette_style.specs.rules.Styles.{plain}
use Rattle.miette_style.specs.rules.Codes.{style_codes, colour_start, colour_stop, escape}
use Rattle.miette_style.specs.rules.Escapes.{no_escape}
use Rattle.miette_style.specs.declared.style.Style.{Style}

-- A text in a style, or the start or end of a link.
pub data Fragment : Type 0 where
  Styled : Style → List ℕ → Fragment
  LinkTo : List ℕ → Fragment
  LinkEnd : Fragment

abbrev pub printed_run : Style → List ℕ → List ℕ
printed_run s [] = []
printed_run s (c ∷ cs) = elim (style_codes s) [ [] ↦ c ∷ cs | x ∷ xs ↦ colour_start s ++ (c ∷ cs) ++ colour_stop ]

abbrev pub link_start : List ℕ → List ℕ
link_start url = escape ∷ 93 ∷ 56 ∷ 59 ∷ 59 ∷ url ++ escape ∷ 92 ∷ []

abbrev pub printed_text : Fragment → List ℕ
printed_text (Styled s text) = printed_run s text
printed_text (LinkTo url) = link_start url
printed_text LinkEnd = link_start []

abbrev pub print : List Fragment → List ℕ
print [] = []
print (s ∷ ss) = printed_text s ++ print ss

-- the same without style
abbrev pub made_plain : Fragment → Fragment
made_plain (Styled s text) = Styled plain text
made_plain (LinkTo url) = LinkTo url
made_plain LinkEnd = LinkEnd

-- texts and URLs without escapes
abbrev pub HasNoEscape : Fragment → Type 0
HasNoEscape (Styled s text) = no_escape text ≡ true
HasNoEscape (LinkTo url) = no_escape url ≡ true
HasNoEscape LinkEnd = Unit {0}

abbrev pub HaveNoEscape : List Fragment → Type 0
HaveNoEscape [] = Unit {0}
HaveNoEscape (s ∷ ss) = HasNoEscape s × HaveNoEscape ss
