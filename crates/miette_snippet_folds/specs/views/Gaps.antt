-- Gaps: consecutive lines that are left out inside folded labels.
use Rattle.std.specs.Prelude.{ℕ, ◌+◌, min, max, Bool, ◌&&◌, if◌then◌else◌, nat_lt, nat_le, List, [], ◌∷◌}
use Rattle.std.specs.Prelude.{Option, Some, None}
use Rattle.std.specs.Option.{option_map_or}
use Rattle.std.specs.List.{list_any}
use Rattle.miette_lines.specs.rules.Lines.{Line}
use Rattle.miette_snippet_folds.specs.declared.folds.Fold.{Fold}
use Rattle.miette_snippet_folds.specs.declared.folds.LineStart.{LineStart}
use Rattle.miette_snippet_folds.specs.views.Folding.{is_around_fold}

-- the start of the next line, and its index
abbrev pub next_line : ℕ → Line → LineStart
next_line place line = record { offset = line.end; place = place + 1 }

-- the earlier and the later of two line starts
abbrev pub nearer : LineStart → LineStart → LineStart
nearer a b = record { offset = min a.offset b.offset; place = min a.place b.place }

abbrev pub further : LineStart → LineStart → LineStart
further a b = record { offset = max a.offset b.offset; place = max a.place b.place }

-- the earlier of two line starts, if there are two
abbrev pub nearest : Option LineStart → LineStart → LineStart
nearest None stop = stop
nearest (Some end) stop = nearer end stop

-- Where a gap must stop because of a label: where its context begins, or where its own lines are shown again.
abbrev pub nearer_stop : Line → Option LineStart → Fold → Option LineStart
nearer_stop line end fold =
    if nat_le line.end fold.label.from then Some (nearest end fold.begun)
    else if nat_lt line.start fold.label.until then Some (nearest end fold.resumed)
    else end

abbrev pub nearest_stop : Line → Option LineStart → List Fold → Option LineStart
nearest_stop line end [] = end
nearest_stop line end (fold ∷ folds) = nearest_stop line (nearer_stop line end fold) folds

-- whether a label's context has a byte of the line and reaches up to a line start
abbrev pub goes_on : Line → LineStart → Fold → Bool
goes_on line end fold = is_around_fold line fold && nat_le end.offset fold.label.until

-- the end of a gap after its first line; the next line if no context reaches further
abbrev pub gap_end : Line → LineStart → List Fold → LineStart
gap_end line next folds = option_map_or
    (λ end. if list_any (goes_on line end) folds then further next end else next) (nearest_stop line None folds) next

-- the start of the next line to visit: the next line, or the one after the gap
abbrev pub next_line_start : List Fold → ℕ → Line → Bool → LineStart
next_line_start folds place line jumps =
    if jumps then gap_end line (next_line place line) folds else next_line place line
