use Rattle.std.proofs.lemmas.Result.{on_ok_weaker}
use Rattle.miette.proofs.terminal.Variables.read_all.Goals as goal

pub returns-clause-variables : goal.returns-clause-variables
returns-clause-variables g c = on_ok_weaker c.fill-14.result (λ last. record {
  force_color = c.in_ok-fill.ensures;
  no_color = c.in_ok-fill-2.ensures;
  clicolor = c.in_ok-fill-3.ensures;
  colorterm = c.in_ok-fill-4.ensures;
  term = c.in_ok-fill-5.ensures;
  term_program = c.in_ok-fill-6.ensures;
  vte_version = c.in_ok-fill-7.ensures;
  konsole_version = c.in_ok-fill-8.ensures;
  wt_session = c.in_ok-fill-9.ensures;
  lc_all = c.in_ok-fill-10.ensures;
  lc_ctype = c.in_ok-fill-11.ensures;
  lang = c.in_ok-fill-12.ensures;
  columns = c.in_ok-fill-13.ensures;
  no_graphics = last;
}) c.fill-14.ensures
