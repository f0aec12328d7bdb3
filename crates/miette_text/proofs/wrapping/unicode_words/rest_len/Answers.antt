use Rattle.std.proofs.Common.{◌≡◌, ℕ, List, ◌∙◌, ◌+◌, ◌∷◌, ◌&&◌, ◌<◌, ◌≤◌, Bool, false, length, length-drop, not}
use Rattle.std.proofs.Common.{ap, ap₂, arith, drop, subst, sym}
use Rattle.std.proofs.lemmas.List.{drop_all, drop_more}
use Rattle.std.specs.Option.{is_some}
use Rattle.miette_line_breaks.specs.declared.state.BreakState.{BreakState}
use Rattle.miette_line_breaks.specs.views.Places.{after_code, found_before}
use Rattle.miette_text.specs.views.Breaks.{piece_len, state_at}
use Rattle.miette_text.proofs.BreakParts.{piece-goes, state-goes}
use Rattle.miette_text.proofs.Passing.{piece-passes, state-passes}
use Rattle.miette_text.proofs.wrapping.unicode_words.rest_len.Goals as goal
use Rattle.miette_text.proofs.wrapping.unicode_words.rest_len.Goals.{else-not-is_joined-via-then-not-is_joined+else-is_some}
use Rattle.miette_text.proofs.wrapping.unicode_words.rest_len.Goals.{else-not-is_joined-via-else-not-is_joined}

piece-all : (s : BreakState) (j : Bool) (all : ℕ) (cs : List ℕ) (i : ℕ) → length cs ≤ i
    → all ≡ i + piece_len s j (drop i cs) → i ≡ all
piece-all s j all cs i l told =
    let end : piece_len s j (drop i cs) ≡ 0 = ap (piece_len s j) (drop_all i cs l) in
    omega (arith, told, end)

pub overflow_add-i : goal.overflow_add-i
overflow_add-i g c = omega (
  arith,
  c.passed_len.ensures.within,
  ap length c.from.ensures,
  length-drop (c.rest.i + 1) (g.C.Codes.codes c.args.codes),
  c.count-n.ensures,
  c.rest-test.true,
)

pub rest-preserved : goal.rest-preserved
rest-preserved g c =
    let cs = g.C.Codes.codes c.args.codes in
    let i = c.rest.i in
    let x = c.at-code.result in
    let s = c.rest.state in
    let t = c.step-found.result.1 in
    let j = c.is_hyphen-is_joined.result in
    let n = c.passed_len.result in
    let r = c.from.ensures in
    let inside : i < length cs = omega (arith, c.count-n.ensures, c.rest-test.true) in
    let d : drop i cs ≡ x ∷ drop (i + 1) cs = drop_more cs i 0 inside
    ∙ ap (λ y. y ∷ drop (i + 1) cs) (sym c.at-code.ensures) in
    let e : (not c.rest.is_joined && is_some (found_before s x)) ≡ false = elim c.else-not-is_joined.branch [
      | else-not-is_joined-via-then-not-is_joined+else-is_some w ↦
          ap₂ (λ (j f : Bool). not j && f) w.if-not-is_joined.true
          (ap is_some (sym c.step-found.ensures.found) ∙ sym w.is_some.ensures ∙ w.if-is_some.false)
      | else-not-is_joined-via-else-not-is_joined w ↦
          ap (λ (j : Bool). not j && is_some (found_before s x)) w.if-not-is_joined.false
    ] in
    record {
      len = piece-passes t j (piece_len c.args.start c.args.joined cs) (i + 1) n cs
          (c.rest.invariant.len ∙ piece-goes s t c.rest.is_joined j i x cs d e c.step-found.ensures.behind
          c.is_hyphen-is_joined.ensures)
          (subst (λ xs. piece_len t j xs ≡ n + piece_len t j (drop n xs)) r c.passed_len.ensures.len);
      state = state-passes c.args.start t (i + 1) n cs (state-goes c.args.start t i x cs d
          (c.step-found.ensures.behind ∙ ap (λ s. after_code s x) c.rest.invariant.state))
          (subst (λ xs. state_at t n xs ≡ t) r c.passed_len.ensures.state);
      within = omega (arith, c.passed_len.ensures.within, ap length r, length-drop (i + 1) cs, inside);
    }

pub returns-clause-len : goal.returns-clause-len
returns-clause-len g c =
    let cs = g.C.Codes.codes c.args.codes in
    piece-all c.rest.state c.rest.is_joined (piece_len c.args.start c.args.joined cs) cs c.rest.i
    (omega (arith, c.count-n.ensures, c.rest-test.false)) c.rest.invariant.len
