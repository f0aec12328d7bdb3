use Rattle.std.proofs.Common.{sym, ap₂, ◌∙◌}
use Rattle.miette_graphical_rules.specs.rules.Text.{report_text}
use Rattle.miette_graphical_rules.proofs.TextLaws.{TextLaws}
use Rattle.miette_graphical_rules.proofs.ErasedReport.{erases-plain}
use Rattle.miette_snippet_laws.proofs.PlainStyles.{none_are_plain}
use Rattle.miette_style.specs.rules.Themes.{no_styles}
use Rattle.miette_graphical_rules.proofs.laws.colours_law.Goals as goal

pub returns : goal.returns
returns c =
    let laws : TextLaws = record {
      wrapped-tame = c.wrapping_law.ensures.tame;
      erase-wrapped = c.wrapping_law.ensures.erase;
      append-tame = c.joining_law.ensures.tame;
      erase-append = c.joining_law.ensures.erase;
      leading-tame = c.cutting_law.ensures.leading_tame;
      leading-erase = c.cutting_law.ensures.leading;
      trailing-tame = c.cutting_law.ensures.trailing_tame;
      trailing-erase = c.cutting_law.ensures.trailing;
      print-tame = c.printing_law.ensures.tame;
      print-erase = c.printing_law.ensures.erase;
      erase-columns = c.columns_law.ensures;
    } in record {
      erase = λ drawing s t a law h k. (erases-plain laws drawing law s no_styles t a h k none_are_plain).same;
      tame = λ drawing s t a law h k. (erases-plain laws drawing law s no_styles t a h k none_are_plain).tame;
      alike = λ drawing s u t a b law h j k e d.
          (erases-plain laws drawing law s no_styles t a h k none_are_plain).same
          ∙ ap₂ (λ v o. report_text drawing v t o) e d
          ∙ sym (erases-plain laws drawing law u no_styles t b j k none_are_plain).same;
      plain = λ drawing s styles t a law h k are_plain. (erases-plain laws drawing law s styles t a h k are_plain).same;
    }
