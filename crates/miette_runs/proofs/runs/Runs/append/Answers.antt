use Rattle.std.proofs.Common.{◌≡◌, ◌∙◌, ◌+◌, ◌-◌, ◌++◌, [], ap, arith, drop, length, length-drop, map, min, sym, take}
use Rattle.std.proofs.lemmas.List.{take_rest, drop_all}
use Rattle.std.proofs.lemmas.Result.{on_ok_weaker}
use Rattle.miette_runs.specs.rules.Sequences.{Character}
use Rattle.miette_runs.specs.views.Interleaving.{tag_token, interleaving}
use Rattle.miette_runs.proofs.Growing.{appended-next, spell-appended}
use Rattle.miette_runs.proofs.Weaving.{woven-none, woven-step}
use Rattle.miette_runs.proofs.runs.Runs.append.Goals as goal

pub loop-tag-preserved : goal.loop-tag-preserved
loop-tag-preserved c =
    let cs = c.parts-parts.result.codes.now in
    let ms = c.parts-parts.result.tags.now in
    let s = c.loop-tag.start in
    let i = c.loop-tag.tag-index in
    let k = c.min-gap.result in
    let m = c.tag-item.result in
    let q : take (length cs - s) (drop s cs) ≡ drop s cs = take_rest cs s in
    let e : k ≡ min (m.at - s) (length (drop s cs)) = omega
    (arith, c.min-gap.ensures, c.saturating_sub.ensures, ap length q) in
    record {
      woven =
          appended-next c.loop-tag.self c.push_chars.new.self c.push_sign.new.self (map Character (take k (drop s cs)))
          (interleaving (s + k) (drop (s + k) cs) (drop (i + 1) ms)) (tag_token m)
          (c.in_ok-push_chars.ensures.tokens ∙ ap (λ xs. c.loop-tag.self ++ map Character (take k xs)) q)
          c.in_ok-push_sign.ensures.tokens
          ∙ ap (λ ts. c.loop-tag.self ++ ts) (sym (woven-step s i k cs ms m c.loop-tag-test.true c.tag-item.is e))
          ∙ c.loop-tag.invariant.woven;
      within = omega (arith, length-drop s cs, c.loop-tag.invariant.within);
    }

pub returns-clause-tokens : goal.returns-clause-tokens
returns-clause-tokens c =
    let xs = drop c.loop-tag.start c.parts-parts.result.codes.now in
    let none : drop c.loop-tag.tag-index c.parts-parts.result.tags.now ≡ [] =
    drop_all c.loop-tag.tag-index c.parts-parts.result.tags.now (omega arith) in
    on_ok_weaker c.push_chars-2.result (λ h. h
    ∙ ap (λ ts. c.loop-tag.self ++ ts)
    (ap (map Character) (take_rest c.parts-parts.result.codes.now c.loop-tag.start)
    ∙ sym (woven-none c.loop-tag.start xs)
    ∙ ap (λ vs. interleaving c.loop-tag.start xs vs) (sym none))
    ∙ c.loop-tag.invariant.woven
    ∙ ap (λ ts. c.args.self.now ++ ts) c.parts-parts.ensures) c.push_chars-2.ensures.tokens

pub returns-clause-text : goal.returns-clause-text
returns-clause-text c =
    on_ok_weaker c.push_chars-2.result (λ h. spell-appended c.args.self.now _ c.args.more.now h)
    (returns-clause-tokens c)
