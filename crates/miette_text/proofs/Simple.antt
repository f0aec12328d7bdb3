-- What is read and wrapped.
use Rattle.std.proofs.Common.{◌≡◌, ℕ, Bool, true, false, List, sym, ap, ap₂, ◌∙◌, if◌then◌else◌}
use Rattle.miette_runs.specs.rules.Sequences.{Token, tokens, spell}
use Rattle.miette_text.specs.rules.Wrapping.{WrapPlan, filled_text, map_indents, text_lines, whole_lines}
use Rattle.miette_text.specs.rules.Wrapping.{wrapped_text}
use Rattle.miette_text.specs.rules.Wrapping.{wrapped_tokens}

-- a plan under other indents
abbrev pub plan_under : WrapPlan (List ℕ) → List Token → List Token → WrapPlan (List Token)
plan_under p first further = record {
  room = p.room;
  first = first;
  further = further;
  break_words = p.break_words;
  wrap_lines = p.wrap_lines;
  separator = p.separator;
  split_hyphens = p.split_hyphens;
}

-- What is wrapped under indents that are read is what is wrapped under their texts.
pub wrapped-read : (p : WrapPlan (List ℕ)) (first further ts : List Token) (text : List ℕ) → first ≡ tokens p.first
    → further ≡ tokens p.further → ts ≡ tokens text →
    spell (wrapped_tokens (plan_under p first further) ts) ≡ wrapped_text p text
wrapped-read p first further ts text e f g =
    ap₂ (λ us vs. spell (wrapped_tokens (plan_under p us vs) ts)) e f
    ∙ ap (λ us. spell (wrapped_tokens (map_indents tokens p) us)) g

pub wrapped-filled : (p : WrapPlan (List Token)) (ts : List Token) → p.wrap_lines ≡ true → filled_text p ts
    ≡ wrapped_tokens p ts
wrapped-filled p ts h = ap (λ (v : Bool). if v then filled_text p ts
    else whole_lines p.first p.further (text_lines ts)) (sym h)

pub wrapped-whole : (p : WrapPlan (List Token)) (ts : List Token) → p.wrap_lines ≡ false → whole_lines p.first p.further
    (text_lines ts) ≡ wrapped_tokens p ts
wrapped-whole p ts h = ap (λ (v : Bool). if v then filled_text p ts
    else whole_lines p.first p.further (text_lines ts)) (sym h)
