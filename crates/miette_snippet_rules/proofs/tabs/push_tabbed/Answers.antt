use Rattle.std.proofs.Common.{ℕ, ◌+◌, ◌≡◌, rules, arith}
use Rattle.std.proofs.lemmas.Str.{IsAscii-take, IsAscii-drop}
use Rattle.std.proofs.lemmas.List.{take_rest}
use Rattle.std.proofs.lemmas.Result.{on_ok_weaker}
use Rattle.miette_snippet_rules.proofs.TabbedText.{stretch_put, rest_put, shorter}
use Rattle.miette_snippet_rules.proofs.tabs.push_tabbed.Goals as goal

pub loop-size-preserved : goal.loop-size-preserved
loop-size-preserved g c =
    let size : ℕ = c.in-Some.size in
    let until : c.in_ok-until.until ≡ c.loop-size.column + size = search rules in
    let next : c.in_ok-next.next ≡ c.in_ok-until.until + c.tab_columns-spaces.result = search rules
    in
    let less = shorter (size + 1) c.loop-size.rest.now in
    record {
      within = omega (arith, less, c.loop-size.invariant.within);
      ascii = IsAscii-take _ _ (IsAscii-drop c.loop-size.rest.now (size + 1) c.loop-size.invariant.ascii);
      told = stretch_put c.args.tab size c.loop-size.column c.in_ok-until.until c.tab_columns-spaces.result
          c.in_ok-next.next c.loop-size.rest.now _ c.loop-size.page c.push_ascii.new.page
          c.push_copies.new.self _
          c.in-Some.ensures.0.high c.in-Some.ensures.0.before c.in-Some.ensures.1 c.in_ok-push_ascii.ensures until
          c.tab_columns-spaces.ensures c.in_ok-push_copies.ensures next (take_rest c.loop-size.rest.now (size + 1))
          c.loop-size.invariant.told;
    }

pub returns : goal.returns
returns g c =
    on_ok_weaker c.push_ascii-2.result (λ h.
    rest_put c.args.tab c.loop-size.column c.loop-size.rest.now c.loop-size.page c.push_ascii-2.new.page _
    c.in_default.ensures h c.loop-size.invariant.told) c.push_ascii-2.ensures
