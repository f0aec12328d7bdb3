use Rattle.miette_graphical_rules.specs.rules.PrintedDiagnostics.{diagnostics_of}
use Rattle.miette_graphical_rules.proofs.FixDiffs.{fixes_told}
use Rattle.miette_graphical_rules.proofs.laws.fixes_law.Goals as goal

pub returns : goal.returns
returns c = λ s t. fixes_told (record {
  source = c.a_diff_has_the_source.ensures.source;
  applied_text = c.a_diff_has_the_applied_text.ensures.applied;
  trimmed = c.changes_are_trimmed.ensures.trimmed;
  frames = c.frames_stand_in_a_diff.ensures.frames;
  shown = c.frames_show_the_context.ensures;
  old = c.frames_stand_in_a_diff.ensures.before;
  new = c.frames_stand_in_a_diff.ensures.after;
}) s (diagnostics_of s t)
