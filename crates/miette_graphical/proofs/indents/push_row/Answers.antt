use Rattle.std.proofs.Common.{rules, ◌≡◌, ◌++◌, ◌∷◌, [], ◌∙◌, ap, sym, refl, true, ◌-◌, append_assoc}
use Rattle.std.specs.Prelude.{chars}
use Rattle.miette_text.specs.views.Plans.{cuts_hyphens}
use Rattle.miette_runs.specs.rules.Sequences.{spell}
use Rattle.miette_graphical.specs.views.Painting.{settings_of}
use Rattle.miette_graphical_rules.specs.rules.Indents.{wrapped_after}
use Rattle.miette_graphical.proofs.indents.push_row.Goals as goal

pub returns-clause-fits : goal.returns-clause-fits
returns-clause-fits g c = λ h further.
    let s = settings_of c.args.painter.now in
    let did : c.in_ok-push_if_fits.field-0 ≡ true = search rules in
    c.in_ok-push.ensures
    ∙ ap (λ o. o ++ 10 ∷ []) (c.in_ok-push_if_fits.ensures.fits did (record {
      room = s.width - 2;
      first = spell c.args.first.now;
      further = further;
      break_words = s.wrapping.break_words;
      wrap_lines = s.wrapping.wrap_lines;
      separator = s.wrapping.word_separator;
      split_hyphens = cuts_hyphens s.wrapping.word_splitter;
    }) refl (sym c.saturating_sub-width.ensures) refl)
    ∙ append_assoc c.args.painter.now.out (wrapped_after s (spell c.args.first.now) further (chars c.args.text.now))
    (10 ∷ [])
