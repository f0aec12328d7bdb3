use Rattle.std.proofs.Common.{◌≡◌, ◌∙◌, ◌+◌, ◌&&◌, ◌<◌, Bool, false, true, length, not, ap, ap₂, arith, sym}
use Rattle.std.proofs.Common.{ℕ, List, [], ◌∷◌, ◌==◌, drop, get_or, length-drop, refl, subst, take}
use Rattle.std.proofs.lemmas.Bool.Decides.{nat_tests}
use Rattle.std.proofs.lemmas.List.{drop_all, drop_more, get_or_default}
use Rattle.std.proofs.Math.Bool.{and-false}
use Rattle.std.specs.Option.{is_some}
use Rattle.miette_line_breaks.specs.declared.state.BreakState.{BreakState}
use Rattle.miette_line_breaks.specs.views.Places.{found_before}
use Rattle.miette_line_breaks.specs.views.AsciiState.{state_in}
use Rattle.miette_text.specs.rules.Wrapping.{is_hyphen}
use Rattle.miette_text.specs.steps.Ends.{code_after}
use Rattle.miette_text.specs.views.Breaks.{all_printed, piece_len, state_at}
use Rattle.miette_text.proofs.BreakParts.{Walked, walked-first, walked-next, walked-over, walked-rest}
use Rattle.miette_text.proofs.FirstRow.{after-last}
use Rattle.miette_text.proofs.PrintedRuns.{printable-printed, printed-next}
use Rattle.miette_text.proofs.wrapping.unicode_words.word_len.Goals as goal
use Rattle.miette_text.proofs.wrapping.unicode_words.word_len.Goals.{in-Within, in-Hyphen}
use Rattle.miette_text.proofs.wrapping.unicode_words.word_len.Goals.{in-Broken+else-not-is_hyphen}

piece-none : (s : BreakState) (j : Bool) (cs : List ℕ) → length cs ≡ 0 → 0 ≡ piece_len s j cs
piece-none s j [] e = refl
piece-none s j (c ∷ cs) e = absurd (omega arith)

pub returns-then-n-eq0 : goal.returns-then-n-eq0
returns-then-n-eq0 g c =
    record {
      len = piece-none c.args.start true (g.C.Codes.codes c.args.codes)
          (omega (arith, c.count-n.ensures, c.if-n-eq0.true));
      state = refl;
      printed = λ h. refl;
      within = omega arith;
    }

pub rest-init : goal.rest-init
rest-init g c =
    let cs = g.C.Codes.codes c.args.codes in
    let x = c.at-first.result in
    let place = state_in c.in-Some.place in
    let some : 0 < length cs = omega (arith, c.count-n.ensures, c.if-n-eq0.false) in
    let is : x ≡ get_or cs 0 x = c.at-first.ensures ∙ get_or_default cs 0 0 x some in
    let front : cs ≡ x ∷ drop 1 cs = drop_more cs 0 0 some ∙ ap (λ y. y ∷ drop 1 cs) (sym c.at-first.ensures) in
    record {
      walked = subst (λ xs. Walked c.args.start place 1 xs) (sym front)
          (walked-first c.args.start place x (drop 1 cs) (sym c.in-Some.ensures.1));
      printed = λ h.
          let dash : (x == 45) ≡ false = grind (arith, nat_tests) in
          printed-next 0 x cs is some refl (printable-printed x c.in-Some.ensures.0 dash);
      some = omega arith;
      within = omega (arith, some);
    }

pub returns-then-not-is_hyphen-clause-len : goal.returns-then-not-is_hyphen-clause-len
returns-then-not-is_hyphen-clause-len g c =
    let cs = g.C.Codes.codes c.args.codes in
    let i = c.rest.i in
    let v = c.rest.invariant in
    let inside : i < length cs = omega (arith, c.count-n.ensures, c.rest-test.true) in
    let x = c.at.result in
    let is : x ≡ get_or cs i x = c.at.ensures ∙ get_or_default cs i 0 x inside in
    let e : is_hyphen (code_after 0 i cs) ≡ false =
    sym (ap is_hyphen (c.at-in-Broken.ensures ∙ after-last 0 i 0 cs v.some v.within))
    ∙ sym c.is_hyphen.ensures ∙ c.if-not-is_hyphen.true in
    walked-over c.args.start (state_in c.rest.place) i x cs v.walked is inside (ap₂ (λ (j f : Bool). not j && f) e
    c.in-Broken.ensures.1)

pub returns-in-Other : goal.returns-in-Other
returns-in-Other g c =
    let cs = g.C.Codes.codes c.args.codes in
    let i = c.rest.i in
    let v = c.rest.invariant in
    let inside : i < length cs = omega (arith, c.count-n.ensures, c.rest-test.true) in
    let n = c.rest_len-len-in-Other.result.0 in
    let j = c.is_hyphen-joined.result in
    let walked = walked-rest c.args.start (state_in c.rest.place) c.rest_len-len-in-Other.result.1 i n j cs v.walked
    (c.is_hyphen-joined.ensures
    ∙ ap is_hyphen (c.at-in-Other.ensures ∙ after-last 0 i 0 cs v.some v.within))
    (c.rest_len-len-in-Other.ensures.len
    ∙ ap₂ (λ s xs. piece_len s j xs) c.state-in-Other.ensures c.from.ensures)
    (c.rest_len-len-in-Other.ensures.state
    ∙ ap₂ (λ s xs. state_at s n xs) c.state-in-Other.ensures c.from.ensures) in
    record {
      len = walked.0;
      state = walked.1;
      printed = λ printed. absurd (cc);
      within = omega (
        arith,
        c.rest_len-len-in-Other.ensures.within,
        ap length c.from.ensures,
        length-drop i cs,
        inside,
      );
    }

impossible : {A : Type 0} → false ≡ true → A
impossible h = absurd (cc)

pub rest-preserved : goal.rest-preserved
rest-preserved g c =
    let cs = g.C.Codes.codes c.args.codes in
    let i = c.rest.i in
    let x = c.at.result in
    let s = state_in c.rest.place in
    let v = c.rest.invariant in
    let inside : i < length cs = omega (arith, c.count-n.ensures, c.rest-test.true) in
    let is : x ≡ get_or cs i x = c.at.ensures ∙ get_or_default cs i 0 x inside in
    let joined = is_hyphen (code_after 0 i cs) in
    let walked : Walked c.args.start (state_in c.match-step.place) (i + 1) cs = elim c.match-step.branch [
      | in-Within w ↦
          walked-next c.args.start s (state_in c.match-step.place) i x cs v.walked is inside
          (ap (λ o. not joined && is_some o) w.in-Within.ensures.2 ∙ and-false (not joined))
          (ap state_in w.place-is ∙ sym w.in-Within.ensures.3)
      | in-Hyphen w ↦
          walked-next c.args.start s (state_in c.match-step.place) i x cs v.walked is inside
          (ap (λ o. not joined && is_some o) w.in-Hyphen.ensures.1 ∙ and-false (not joined))
          (ap state_in w.place-is ∙ sym w.in-Hyphen.ensures.2)
      | in-Broken+else-not-is_hyphen w ↦
          let e : joined ≡ true =
          sym (ap is_hyphen (w.at-in-Broken.ensures ∙ after-last 0 i 0 cs v.some v.within))
          ∙ sym w.is_hyphen.ensures ∙ w.if-not-is_hyphen.false in
          walked-next c.args.start s (state_in c.match-step.place) i x cs v.walked is inside
          (ap (λ (j : Bool). not j && is_some (found_before s x)) e)
          (ap state_in w.place-is ∙ sym w.in-Broken.ensures.2)
    ] in
    let printed : c.match-step.is_printed ≡ true → all_printed (take (i + 1) cs) ≡ true =
    elim c.match-step.branch [
      | in-Within w ↦ λ h. printed-next i x cs is inside (v.printed (sym w.is_printed-is ∙ h))
          (printable-printed x w.in-Within.ensures.0 w.in-Within.ensures.1)
      | in-Hyphen w ↦ λ h. impossible (sym w.is_printed-is ∙ h)
      | in-Broken+else-not-is_hyphen w ↦ λ h. impossible (sym w.is_printed-is ∙ h)
    ] in
    record {
      walked = walked;
      printed = printed;
      some = omega arith;
      within = omega (arith, inside);
    }

pub returns-clause-len : goal.returns-clause-len
returns-clause-len g c =
    let cs = g.C.Codes.codes c.args.codes in
    let i = c.rest.i in
    let none : piece_len (state_in c.rest.place) (is_hyphen (code_after 0 i cs)) (drop i cs) ≡ 0 =
    ap (piece_len (state_in c.rest.place) (is_hyphen (code_after 0 i cs)))
    (drop_all i cs (omega (arith, c.count-n.ensures, c.rest-test.false))) in
    omega (arith, c.rest.invariant.walked.len, none)
