-- Rules of the same texts cut a line into the same tokens.
use Rattle.std.proofs.Common.{◌≡◌, ℕ, ◌+◌, Bool, true, false, List, [], ◌∷◌, length, drop, map, zero, suc}
use Rattle.std.proofs.Common.{refl, ap, ap₂, subst, ◌∙◌, Option, Some, None, if◌then◌else◌}
use Rattle.std.specs.Prelude.{nat_eq, not, ◌&&◌, String, string_bytes, unwrap_or, slice_get}
use Rattle.std.specs.List.{starts_with}
use Rattle.std.specs.Str.{bytes_eq}
use Rattle.std.specs.declared.alloc.Global.{Global}
use Rattle.miette_style.specs.declared.style.Style.{Style}
use Rattle.miette_highlight.specs.rules.FollowingCalls.{FollowTokens}
use Rattle.miette_highlight.specs.rules.HighlighterCalls.{Call, asked, restarted}
use Rattle.miette_highlight.specs.rules.Languages.{pattern_text, rule_text, rule_texts}
use Rattle.miette_highlight.specs.rules.Patterns.{begins_within, character_end, close_end, closed_at, escapes_next}
use Rattle.miette_highlight.specs.rules.Patterns.{MatchEnd, char_tail_end, inside, is_listed_word, is_char_tail}
use Rattle.miette_highlight.specs.rules.Patterns.{match_of, open_over}
use Rattle.miette_highlight.specs.rules.Patterns.{prefixed_word, raw_inside, raw_text, word_end}
use Rattle.miette_highlight.specs.rules.Pieces.{StyledPiece}
use Rattle.miette_highlight.specs.rules.Tokens.{AreTokens, IsToken, first_match, found_or, plain_token, continued_match}
use Rattle.miette_highlight.specs.rules.Tokens.{continued_rule, continued_token, token_at, token_of}
use Rattle.miette_highlight.specs.declared.rule.Delimiters.{Delimiters}
use Rattle.miette_highlight.specs.declared.rule.Pattern.{Pattern}
use Rattle.miette_highlight.specs.declared.rule.Pattern.TheVariants.{Words, From, Between, Character, Prefixed, Raw}
use Rattle.miette_highlight.specs.declared.rule.Rule.{Rule}
use Rattle.miette_highlight.specs.declared.tokens.OpenPart.{OpenPart}

-- ---- what patterns find

among : (ws us : List (String Global)) (word : List ℕ)
    → map (λ (w : String Global). string_bytes w) ws ≡ map (λ (w : String Global). string_bytes w) us
    → is_listed_word ws word ≡ is_listed_word us word
among [] [] word e = refl
among [] (u ∷ us) word e = absurd (cc)
among (w ∷ ws) [] word e = absurd (cc)
among (w ∷ ws) (u ∷ us) word e =
    let first : string_bytes w ≡ string_bytes u = cc in
    let others : map (λ (w : String Global). string_bytes w) ws ≡ map (λ (w : String Global). string_bytes w) us
    = cc in
    ap₂ (λ bytes more. if bytes_eq bytes word then true else more) first (among ws us word others)

closes : (d f : Delimiters) → string_bytes d.closes ≡ string_bytes f.closes → d.escape ≡ f.escape → (escaped : Bool)
    (at : ℕ) (text : List ℕ) → close_end d escaped at text ≡ close_end f escaped at text
closes d f same escape escaped at [] = refl
closes d f same escape escaped at (b ∷ bs) =
    ap (λ bytes. if not escaped && starts_with nat_eq (b ∷ bs) bytes then Some (at + length bytes)
    else close_end d (not escaped && escapes_next d.escape b) (at + 1) bs) same
    ∙ ap (λ end. if not escaped && starts_with nat_eq (b ∷ bs) (string_bytes f.closes)
    then Some (at + length (string_bytes f.closes)) else end)
    (closes d f same escape (not escaped && escapes_next d.escape b) (at + 1) bs
    ∙ ap (λ it. close_end f (not escaped && escapes_next it b) (at + 1) bs) escape)

insides : (d f : Delimiters) → string_bytes d.closes ≡ string_bytes f.closes → d.escape ≡ f.escape
    → d.over_lines ≡ f.over_lines → (at : ℕ) (text : List ℕ) → inside d at text ≡ inside f at text
insides d f same escape over at text =
    ap₂ (λ end lines. closed_at end (at + length text) (open_over lines)) (closes d f same escape false at text) over

held-alike : (d f : Delimiters) → string_bytes d.closes ≡ string_bytes f.closes → (escaped : Bool) (at : ℕ)
    (text : List ℕ) → char_tail_end d escaped at text ≡ char_tail_end f escaped at text
held-alike d f same escaped at [] = refl
held-alike d f same escaped at (b ∷ bs) =
    ap (λ bytes. if starts_with nat_eq (b ∷ bs) bytes then Some (at + length bytes, None)
    else if is_char_tail escaped b then char_tail_end d escaped (at + 1) bs else None) same
    ∙ ap (λ found. if starts_with nat_eq (b ∷ bs) (string_bytes f.closes)
    then Some (at + length (string_bytes f.closes), None)
    else if is_char_tail escaped b then found else None) (held-alike d f same escaped (at + 1) bs)

characters : (d f : Delimiters) → string_bytes d.closes ≡ string_bytes f.closes → d.escape ≡ f.escape → (at : ℕ)
    (text : List ℕ) → character_end d at text ≡ character_end f at text
characters d f same escape at [] = refl
characters d f same escape at (b ∷ bs) =
    let Ends : List ℕ → Option ℕ → Option MatchEnd → Option MatchEnd → Option MatchEnd = λ closes it escaped plain.
    if starts_with nat_eq (b ∷ bs) closes then None else if escapes_next it b then escaped else plain in
    let escaped = char_tail_end d true (at + 2) (drop 1 bs) in
    let plain = char_tail_end d false (at + 1) bs in
    ap₂ (λ closes it. Ends closes it escaped plain) same escape
    ∙ ap₂ (Ends (string_bytes f.closes) f.escape) (held-alike d f same true (at + 2) (drop 1 bs))
    (held-alike d f same false (at + 1) bs)

matches : (p q : Pattern) (style other : Style) (text : List ℕ) → pattern_text p style ≡ pattern_text q other
    → match_of p text ≡ match_of q text
matches (Words words) (Words others) style other text e =
    let same : map (λ (w : String Global). string_bytes w) words.items
    ≡ map (λ (w : String Global). string_bytes w) others.items = cc in
    ap (λ it. if it then Some (word_end 0 text, None) else None) (among words.items others.items _ same)
matches (Words words) (From first last) style other text e = absurd (cc)
matches (Words words) (Between f) style other text e = absurd (cc)
matches (From first last) (Words others) style other text e = absurd (cc)
matches (From first last) (From from to) style other text e =
    let low : first ≡ from = cc in
    let high : last ≡ to = cc in
    ap₂ (λ a b. if begins_within a b text then Some (word_end 0 text, None) else None) low high
matches (From first last) (Between f) style other text e = absurd (cc)
matches (Between d) (Words others) style other text e = absurd (cc)
matches (Between d) (From from to) style other text e = absurd (cc)
matches (Between d) (Between f) style other text e =
    let opens : string_bytes d.opens ≡ string_bytes f.opens = cc in
    let same : string_bytes d.closes ≡ string_bytes f.closes = cc in
    let escape : d.escape ≡ f.escape = cc in
    let over : d.over_lines ≡ f.over_lines = cc in
    ap (λ bytes. if starts_with nat_eq text bytes
    then Some (inside d (length bytes) (drop (length bytes) text)) else None) opens
    ∙ ap (λ it. if starts_with nat_eq text (string_bytes f.opens) then Some it else None)
    (insides d f same escape over (length (string_bytes f.opens)) (drop (length (string_bytes f.opens)) text))
matches (Character d) (Character f) style other text e =
    let opens : string_bytes d.opens ≡ string_bytes f.opens = cc in
    let same : string_bytes d.closes ≡ string_bytes f.closes = cc in
    let escape : d.escape ≡ f.escape = cc in
    ap (λ bytes. if starts_with nat_eq text bytes
    then character_end d (length bytes) (drop (length bytes) text) else None) opens
    ∙ ap (λ it. if starts_with nat_eq text (string_bytes f.opens) then it else None)
    (characters d f same escape (length (string_bytes f.opens)) (drop (length (string_bytes f.opens)) text))
matches (Prefixed byte) (Prefixed b) style other text e =
    let same : byte ≡ b = cc in ap (λ it. prefixed_word it text) same
matches (Words words) (Character f) style other text e = absurd (cc)
matches (Words words) (Prefixed b) style other text e = absurd (cc)
matches (From first last) (Character f) style other text e = absurd (cc)
matches (From first last) (Prefixed b) style other text e = absurd (cc)
matches (Between d) (Character f) style other text e = absurd (cc)
matches (Between d) (Prefixed b) style other text e = absurd (cc)
matches (Character d) (Words others) style other text e = absurd (cc)
matches (Character d) (From from to) style other text e = absurd (cc)
matches (Character d) (Between f) style other text e = absurd (cc)
matches (Character d) (Prefixed b) style other text e = absurd (cc)
matches (Prefixed byte) (Words others) style other text e = absurd (cc)
matches (Prefixed byte) (From from to) style other text e = absurd (cc)
matches (Prefixed byte) (Between f) style other text e = absurd (cc)
matches (Prefixed byte) (Character f) style other text e = absurd (cc)
matches (Raw prefix) (Raw other_prefix) style other text e =
    let same : string_bytes prefix ≡ string_bytes other_prefix = cc in
    ap (λ bytes. if starts_with nat_eq text bytes
    then raw_text (length bytes) (drop (length bytes) text) else None) same
matches (Words words) (Raw other_prefix) style other text e = absurd (cc)
matches (From first last) (Raw other_prefix) style other text e = absurd (cc)
matches (Between d) (Raw other_prefix) style other text e = absurd (cc)
matches (Character d) (Raw other_prefix) style other text e = absurd (cc)
matches (Prefixed byte) (Raw other_prefix) style other text e = absurd (cc)
matches (Raw prefix) (Words others) style other text e = absurd (cc)
matches (Raw prefix) (From from to) style other text e = absurd (cc)
matches (Raw prefix) (Between f) style other text e = absurd (cc)
matches (Raw prefix) (Character f) style other text e = absurd (cc)
matches (Raw prefix) (Prefixed b) style other text e = absurd (cc)

goes-on : (part : OpenPart) (p q : Pattern) (style other : Style) (text : List ℕ)
    → pattern_text p style ≡ pattern_text q other → continued_match part style p text
    ≡ continued_match part other q text
goes-on part (Words words) (Words others) style other text e = refl
goes-on part (Words words) (From first last) style other text e = absurd (cc)
goes-on part (Words words) (Between f) style other text e = absurd (cc)
goes-on part (From first last) (Words others) style other text e = absurd (cc)
goes-on part (From first last) (From from to) style other text e = refl
goes-on part (From first last) (Between f) style other text e = absurd (cc)
goes-on part (Between d) (Words others) style other text e = absurd (cc)
goes-on part (Between d) (From from to) style other text e = absurd (cc)
goes-on part (Between d) (Between f) style other text e =
    let same : string_bytes d.closes ≡ string_bytes f.closes = cc in
    let escape : d.escape ≡ f.escape = cc in
    let over : d.over_lines ≡ f.over_lines = cc in
    let styled : style ≡ other = cc in
    ap₂ (λ it found. Some (token_of part.rule it found)) styled (insides d f same escape over 0 text)
goes-on part (Character d) (Character f) style other text e = refl
goes-on part (Prefixed byte) (Prefixed b) style other text e = refl
goes-on part (Words words) (Character f) style other text e = absurd (cc)
goes-on part (Words words) (Prefixed b) style other text e = absurd (cc)
goes-on part (From first last) (Character f) style other text e = absurd (cc)
goes-on part (From first last) (Prefixed b) style other text e = absurd (cc)
goes-on part (Between d) (Character f) style other text e = absurd (cc)
goes-on part (Between d) (Prefixed b) style other text e = absurd (cc)
goes-on part (Character d) (Words others) style other text e = absurd (cc)
goes-on part (Character d) (From from to) style other text e = absurd (cc)
goes-on part (Character d) (Between f) style other text e = absurd (cc)
goes-on part (Character d) (Prefixed b) style other text e = absurd (cc)
goes-on part (Prefixed byte) (Words others) style other text e = absurd (cc)
goes-on part (Prefixed byte) (From from to) style other text e = absurd (cc)
goes-on part (Prefixed byte) (Between f) style other text e = absurd (cc)
goes-on part (Prefixed byte) (Character f) style other text e = absurd (cc)
goes-on part (Raw prefix) (Raw other_prefix) style other text e =
    let styled : style ≡ other = cc in
    ap (λ it. Some (token_of part.rule it (raw_inside part.hashes 0 text))) styled
goes-on part (Words words) (Raw other_prefix) style other text e = absurd (cc)
goes-on part (From first last) (Raw other_prefix) style other text e = absurd (cc)
goes-on part (Between d) (Raw other_prefix) style other text e = absurd (cc)
goes-on part (Character d) (Raw other_prefix) style other text e = absurd (cc)
goes-on part (Prefixed byte) (Raw other_prefix) style other text e = absurd (cc)
goes-on part (Raw prefix) (Words others) style other text e = absurd (cc)
goes-on part (Raw prefix) (From from to) style other text e = absurd (cc)
goes-on part (Raw prefix) (Between f) style other text e = absurd (cc)
goes-on part (Raw prefix) (Character f) style other text e = absurd (cc)
goes-on part (Raw prefix) (Prefixed b) style other text e = absurd (cc)

styled-alike : (p q : Pattern) (style other : Style) → pattern_text p style ≡ pattern_text q other → style ≡ other
styled-alike (Words words) (Words others) style other e = cc
styled-alike (Words words) (From first last) style other e = absurd (cc)
styled-alike (Words words) (Between f) style other e = absurd (cc)
styled-alike (From first last) (Words others) style other e = absurd (cc)
styled-alike (From first last) (From from to) style other e = cc
styled-alike (From first last) (Between f) style other e = absurd (cc)
styled-alike (Between d) (Words others) style other e = absurd (cc)
styled-alike (Between d) (From from to) style other e = absurd (cc)
styled-alike (Between d) (Between f) style other e = cc
styled-alike (Character d) (Character f) style other e = cc
styled-alike (Prefixed byte) (Prefixed b) style other e = cc
styled-alike (Words words) (Character f) style other e = absurd (cc)
styled-alike (Words words) (Prefixed b) style other e = absurd (cc)
styled-alike (From first last) (Character f) style other e = absurd (cc)
styled-alike (From first last) (Prefixed b) style other e = absurd (cc)
styled-alike (Between d) (Character f) style other e = absurd (cc)
styled-alike (Between d) (Prefixed b) style other e = absurd (cc)
styled-alike (Character d) (Words others) style other e = absurd (cc)
styled-alike (Character d) (From from to) style other e = absurd (cc)
styled-alike (Character d) (Between f) style other e = absurd (cc)
styled-alike (Character d) (Prefixed b) style other e = absurd (cc)
styled-alike (Prefixed byte) (Words others) style other e = absurd (cc)
styled-alike (Prefixed byte) (From from to) style other e = absurd (cc)
styled-alike (Prefixed byte) (Between f) style other e = absurd (cc)
styled-alike (Prefixed byte) (Character f) style other e = absurd (cc)
styled-alike (Raw prefix) (Raw other_prefix) style other e = cc
styled-alike (Words words) (Raw other_prefix) style other e = absurd (cc)
styled-alike (From first last) (Raw other_prefix) style other e = absurd (cc)
styled-alike (Between d) (Raw other_prefix) style other e = absurd (cc)
styled-alike (Character d) (Raw other_prefix) style other e = absurd (cc)
styled-alike (Prefixed byte) (Raw other_prefix) style other e = absurd (cc)
styled-alike (Raw prefix) (Words others) style other e = absurd (cc)
styled-alike (Raw prefix) (From from to) style other e = absurd (cc)
styled-alike (Raw prefix) (Between f) style other e = absurd (cc)
styled-alike (Raw prefix) (Character f) style other e = absurd (cc)
styled-alike (Raw prefix) (Prefixed b) style other e = absurd (cc)

-- ---- what rules find

firsts : (at : ℕ) (rs us : List Rule) (text : List ℕ) → rule_texts rs ≡ rule_texts us
    → first_match at rs text ≡ first_match at us text
firsts at [] [] text e = refl
firsts at [] (u ∷ us) text e = absurd (cc)
firsts at (r ∷ rs) [] text e = absurd (cc)
firsts at (r ∷ rs) (u ∷ us) text e =
    let first : rule_text r ≡ rule_text u = cc in
    let others : rule_texts rs ≡ rule_texts us = cc in
    ap₂ (λ style more. found_or at style (match_of r.pattern text) more)
    (styled-alike r.pattern u.pattern r.style u.style first) (firsts (at + 1) rs us text others)
    ∙ ap (λ found. found_or at u.style found (first_match (at + 1) us text))
    (matches r.pattern u.pattern r.style u.style text first)

runs : (at : ℕ) (part : OpenPart) (rs us : List Rule) (text : List ℕ) → rule_texts rs ≡ rule_texts us
    → continued_rule part (slice_get rs at) text ≡ continued_rule part (slice_get us at) text
runs at part [] [] text e = refl
runs at part [] (u ∷ us) text e = absurd (cc)
runs at part (r ∷ rs) [] text e = absurd (cc)
runs zero part (r ∷ rs) (u ∷ us) text e =
    let first : rule_text r ≡ rule_text u = cc in goes-on part r.pattern u.pattern r.style u.style text first
runs (suc at) part (r ∷ rs) (u ∷ us) text e =
    let others : rule_texts rs ≡ rule_texts us = cc in runs at part rs us text others

running : (rs us : List Rule) (left_open : Option OpenPart) (text : List ℕ) → rule_texts rs ≡ rule_texts us
    → continued_token rs left_open text ≡ continued_token us left_open text
running rs us None text e = refl
running rs us (Some part) text e = runs part.rule part rs us text e

at-start : (rs us : List Rule) (left_open : Option OpenPart) (text : List ℕ) → rule_texts rs ≡ rule_texts us
    → token_at rs left_open text ≡ token_at us left_open text
unfolding token_at
at-start rs us left_open text e =
    ap₂ (λ first others. unwrap_or first (unwrap_or others (plain_token text))) (running rs us left_open text e)
    (firsts 0 rs us text e)

-- ---- tokens and calls

tokens-by : (rs us : List Rule) (left_open : Option OpenPart) (text : List ℕ) (ps : List StyledPiece)
    (after : Option OpenPart)
    → rule_texts rs ≡ rule_texts us → AreTokens rs left_open text ps after → AreTokens us left_open text ps after
tokens-by rs us left_open text [] after e h = h
tokens-by rs us left_open text (p ∷ ps) after e h =
    let same = at-start rs us left_open text e in (
      subst (λ token. IsToken token text p) same h.0,
      tokens-by rs us (token_at us left_open text).left_open (drop p.0 text) ps after e
          (subst (λ token. AreTokens rs token.left_open (drop p.0 text) ps after) same h.1),
    )

pub follow-by : (rs us : List Rule) (left_open : Option OpenPart) (calls : List Call) → rule_texts rs ≡ rule_texts us
    → FollowTokens rs left_open calls → FollowTokens us left_open calls
follow-by rs us left_open [] e h = tt
follow-by rs us left_open (restarted read ∷ calls) e h = follow-by rs us None calls e h
follow-by rs us left_open (asked line listed ∷ calls) e h = (
  h.0,
  h.1,
  tokens-by rs us left_open line h.0 h.1 e h.2,
  h.3,
  follow-by rs us h.1 calls e h.4,
)
