-- The default layout.
use Rattle.std.specs.Prelude.{true, false, None}
use Rattle.miette_snippet_rules.specs.declared.options.LayoutOptions.{LayoutOptions}

abbrev pub default_layout : LayoutOptions
default_layout = record {
  tab_width = 4;
  context_lines = 1;
  primary_start = true;
  one_line_start = false;
  end_labels = false;
  label_lines = None;
  line_columns = None;
}
