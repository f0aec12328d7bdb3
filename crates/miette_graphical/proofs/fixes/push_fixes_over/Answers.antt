use Rattle.std.proofs.Common.{◌≡◌, ◌∙◌, false, None, refl, sym, ap, arith, rules}
use Rattle.std.specs.List.{list_any}
use Rattle.std.specs.Option.{option_copied, option_map}
use Rattle.std.proofs.lemmas.Result.{on_ok_weaker}
use Rattle.miette_protocol.specs.rules.Reading.{Source, Contents}
use Rattle.miette_tree.specs.views.Owned.{ref_source}
use Rattle.miette_tree.proofs.WholeReads.{read_whole}
use Rattle.miette_graphical_rules.specs.rules.Sources.{has_edits}
use Rattle.miette_graphical.specs.views.Painting.{settings_of, opt_ref_source}
use Rattle.miette_graphical.proofs.ShownFixes.{over_read, over_unneeded}
use Rattle.miette_graphical.proofs.fixes.push_fixes_over.Goals as goal

pub returns-then-not-some_edits-clause-ok : goal.returns-then-not-some_edits-clause-ok
returns-then-not-some_edits-clause-ok g c =
    let is = ref_source g.S.SourceCode.source in
    let old = c.args.painter.now in
    let new = c.push_fix_list-then-not-some_edits.new.painter in
    let none : list_any has_edits c.args.fixes.now ≡ false =
    sym c.some_edits.ensures ∙ c.if-not-some_edits.true in
    on_ok_weaker c.push_fix_list-then-not-some_edits.result (λ h. over_unneeded (settings_of old)
    (opt_ref_source g.S.SourceCode.source c.args.source) (is c.in-Some.source) c.args.fixes.now old.out new.out
    (ap (option_map is) c.in-Some.is) none (h None false refl)) c.push_fix_list-then-not-some_edits.ensures.text

pub returns-in-Ok-clause-ok : goal.returns-in-Ok-clause-ok
returns-in-Ok-clause-ok g c =
    let is = ref_source g.S.SourceCode.source in
    let old = c.args.painter.now in
    let new = c.push_fix_list-in-Ok.new.painter in
    let shown = opt_ref_source g.S.SourceCode.source c.args.source in
    let source : Source = is c.in-Some.source in
    let whole = read_whole source c.new-begin.result _ c.data.result.now (search rules) c.in-Ok.ensures.1 c.data.ensures
    (omega (arith, c.data.type_inv.1)) in
    let name : option_copied c.name.result ≡ source.name =
    c.name.ensures ∙ ap (λ (it : Contents). it.name) c.in-Ok.ensures.1 in
    on_ok_weaker c.push_fix_list-in-Ok.result (λ h. over_read (settings_of old) shown c.args.fixes.now old.out new.out
    (h shown false (source, ap (option_map is) c.in-Some.is, refl, sym whole, sym name)))
    c.push_fix_list-in-Ok.ensures.text

pub push_fix_list-requires-in-Ok : goal.push_fix_list-requires-in-Ok
push_fix_list-requires-in-Ok g c =
    let source : Source = ref_source g.S.SourceCode.source c.in-Some.source in
    sym (read_whole source c.new-begin.result _ c.data.result.now (search rules) c.in-Ok.ensures.1 c.data.ensures
    (omega (arith, c.data.type_inv.1)))
