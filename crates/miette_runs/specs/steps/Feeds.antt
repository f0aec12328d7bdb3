-- Line feeds at the front and end of characters with tags.
use Rattle.std.specs.Prelude.{ℕ, suc, ◌-◌, min, Bool, true, ◌&&◌, if◌then◌else◌, List, [], ◌∷◌}
use Rattle.miette_runs.specs.rules.Cutting.{only_feeds}
use Rattle.miette_runs.specs.rules.Sequences.{is_line_feed}
use Rattle.miette_runs.specs.rules.Colours.{is_colour}
use Rattle.miette_runs.specs.views.Interleaving.{beyond, tag_text, upto, interleaving}
use Rattle.miette_runs.specs.declared.runs.sign.Tag.{Tag}

abbrev pub are_colours : List Tag → Bool
are_colours [] = true
are_colours (m ∷ ms) = is_colour (tag_text m) && are_colours ms

-- how many line feeds from an index on have only colours before and between them
abbrev pub feeds_len : ℕ → List ℕ → List Tag → ℕ
feeds_len at [] tags = 0
feeds_len at (c ∷ cs) tags = if is_line_feed c && are_colours (upto at tags)
    then suc (feeds_len (suc at) cs (beyond at tags)) else 0

-- how many characters from an index on precede the line feeds and colours at the end
abbrev pub kept_len : ℕ → List ℕ → List Tag → ℕ
kept_len at [] tags = 0
kept_len at (c ∷ cs) tags = if is_line_feed c && only_feeds (interleaving (suc at) cs (beyond at tags)) then 0
    else suc (kept_len (suc at) cs (beyond at tags))

-- a tag with `n` fewer characters before it, and one with at most `n`
abbrev pub lowered_tag : ℕ → Tag → Tag
lowered_tag n m = record { at = m.at - n; sign = m.sign }

abbrev pub capped_tag : ℕ → Tag → Tag
capped_tag n m = record { at = min m.at n; sign = m.sign }
