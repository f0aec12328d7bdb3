use Rattle.std.proofs.Common.{◌≡◌, ◌∙◌, [], ◌∷◌, ap, flat_map, refl, sym}
use Rattle.miette_text.specs.rules.Wrapping.{cut_words, parts, words}
use Rattle.miette_text.specs.views.Breaks.{left_in, words_in}
use Rattle.miette_text.proofs.BreakWords.{words-in}
use Rattle.miette_text.proofs.wrapping.unicode_words.UnicodeWordsWordParts.start.Goals as goal

pub returns-clause-left : goal.returns-clause-left
returns-clause-left c = λ cuts cells h. elim cells as (λ cs. left_in (record {
  before = 0;
  letters = 0;
  spaces = 0;
  state = c.start.result;
}) cuts cs ≡ cut_words cuts cs) [
  | [] ↦ refl
  | x ∷ xs ↦
      ap (λ s. flat_map (parts cuts) (words_in s (x ∷ xs))) c.start.ensures
      ∙ ap (flat_map (parts cuts)) (sym (ap (λ s. words s (x ∷ xs)) h ∙ words-in (x ∷ xs)))
]
