use Rattle.miette_graphical_rules.proofs.PlainFixes.{FixLaws, drawn_fixes_clean, drawn_fixes_plain}
use Rattle.miette_graphical_rules.proofs.PlainSnippets.{drawn_snippets}
use Rattle.miette_graphical_rules.proofs.laws.drawn_rows_law.Goals as goal

pub returns : goal.returns
returns c =
    let laws : FixLaws = record {
      same = c.fix_rows_turn_plain.ensures.same;
      plain = c.fix_rows_turn_plain.ensures.plain;
      clean = c.fix_rows_hold_no_escape.ensures;
    } in record {
      snippets = drawn_snippets (record {
        same = c.rows_turn_plain.ensures.same;
        plain = c.rows_turn_plain.ensures.plain;
        clean = c.rows_hold_no_escape.ensures;
      });
      plain = drawn_fixes_plain laws;
      clean = drawn_fixes_clean laws;
    }
