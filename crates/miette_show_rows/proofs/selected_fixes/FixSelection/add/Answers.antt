use Rattle.std.proofs.Common.{◌≡◌, ◌==◌, ◌∷◌, [], ℕ, List, true, false, length, refl, rules, subst, tests}
use Rattle.std.specs.Prelude.{is_some}
use Rattle.std.specs.HashMap.{get_by_text}
use Rattle.std.proofs.lemmas.Result.{on_ok_weaker}
use Rattle.miette_show_rows.specs.rules.Packages.{is_fix_selected}
use Rattle.miette_show_rows.specs.views.FixSelection.{AddsNames, HasNames}
use Rattle.miette_show_rows.proofs.Rows.{both_ok, counts_asked, counts_has, counts_not, nothing_left, package_left}
use Rattle.miette_show_rows.proofs.Rows.{row_counts}
use Rattle.miette_show_rows.proofs.selected_fixes.FixSelection.add.Goals.{then-broken-via-then-broken}
use Rattle.miette_show_rows.proofs.selected_fixes.FixSelection.add.Goals.{then-broken-via-else-broken+then-not-has}
use Rattle.miette_show_rows.proofs.selected_fixes.FixSelection.add.Goals as goal

pub returns-then-broken : goal.returns-then-broken
returns-then-broken c =
    let it = c.args.packages.now in
    let row = c.args.row in
    let counted : (names : List (List ℕ)) → HasNames it names → is_fix_selected c.args.broken names row ≡ true =
    λ names held. elim c.then-broken.branch [
      | then-broken-via-then-broken w ↦ counts_asked names c.args.broken row w.if-broken.true
      | then-broken-via-else-broken+then-not-has w ↦
          (let is : w.has.result ≡ is_some (get_by_text it.table.fixes row.package_id) = search rules in
          let without : w.has.result ≡ false = search rules in
          counts_has it names c.args.broken w.has.result row held is without)
    ]
    in
    both_ok c.count.result c.count.ensures.fixes c.count.ensures.files
    (λ fixes files names held. row_counts c.args.broken names c.args.self.now c.count.new.self row (counted names held)
    fixes files c.count.ensures.packages)

pub returns-then-is_empty : goal.returns-then-is_empty
returns-then-is_empty c = λ names held.
    let it = c.args.packages.now in
    let row = c.args.row in
    let is : c.has.result ≡ is_some (get_by_text it.table.fixes row.package_id) = search rules in
    let among : c.has.result ≡ true = search rules in
    let asked : c.args.broken ≡ false = search rules in
    let none : (length row.fixes == 0) ≡ true = search (rules, tests) in
    nothing_left c.args.broken names c.args.self.now c.args.self.now row
    (counts_not it names c.args.broken c.has.result row held is among asked) none refl

pub returns : goal.returns
returns c =
    let it = c.args.packages.now in
    let row = c.args.row in
    let is : c.has.result ≡ is_some (get_by_text it.table.fixes row.package_id) = search rules in
    let among : c.has.result ≡ true = search rules in
    let asked : c.args.broken ≡ false = search rules in
    let some : (length row.fixes == 0) ≡ false = search (rules, tests) in
    let name : c.as_str-2.result.now ≡ row.package_id = search rules in
    on_ok_weaker c.add.result
    (λ (added : AddsNames c.args.self.now.packages c.add.new.self (c.as_str-2.result.now ∷ [])). λ names held.
    package_left c.args.broken names c.args.self.now
    (record { fixes = c.args.self.now.fixes; packages = c.add.new.self; files = c.args.self.now.files }) row
    (counts_not it names c.args.broken c.has.result row held is among asked) some
    (subst (λ (n : List ℕ). AddsNames c.args.self.now.packages c.add.new.self (n ∷ [])) name added)
    refl refl) c.add.ensures
