use Rattle.std.proofs.Common.{◌∙◌, ap, flat_map, sym}
use Rattle.miette_text.specs.rules.Wrapping.{parts, words}
use Rattle.miette_text.proofs.Parting.{words-alone}
use Rattle.miette_text.proofs.SpaceWords.{words-spaced}
use Rattle.miette_text.proofs.wrapping.word_parts.SpaceWordsWordParts.start.Goals as goal

pub returns-clause-left : goal.returns-clause-left
returns-clause-left c = λ cuts cells h.
    words-alone cuts cells
    ∙ ap (flat_map (parts cuts)) (sym (ap (λ s. words s cells) h ∙ words-spaced cells))
