-- All proposals as one fix: it can be applied, and gives the fixed text.
use Rattle.std.proofs.Common.{◌≡◌, ℕ, ◌≤◌, false, eqb, ltb, ◌&&◌, List, [], ◌∷◌, ◌++◌, length, None, refl, ap, ◌∙◌}
use Rattle.std.proofs.Common.{arith}
use Rattle.std.specs.List.{flat_map, list_any}
use Rattle.std.proofs.lemmas.Bool.{le-ltb, ne_eqb, or_from}
use Rattle.miette_fixes.specs.rules.Applying.{applied, edits_error, text_from}
use Rattle.miette_fixes.specs.rules.Edits.{FixModel, Replacement, end_of, ends_after, is_after, overlap, some_overlap}
use Rattle.miette_lint.specs.rules.Fixes.{fixed_text, proposals_of}
use Rattle.miette_lint.specs.rules.Combined.{combined_proposal}
use Rattle.miette_lint.proofs.Apart.{AreApart, edits_in, in_order, next_at}
use Rattle.miette_lint.proofs.Proposed.{proposals_apart, proposals_made}

none_after : (n low : ℕ) (fixes : List FixModel) → AreApart n low fixes
    → list_any (ends_after n) (edits_in fixes) ≡ false
none_after n low [] apart = refl
none_after n low (fix ∷ fixes) apart =
    let e : Replacement = apart.0 in
    let one : fix.edits ≡ e ∷ [] = apart.1.one in
    let within : end_of e ≤ n = apart.1.within in
    ap (λ es. list_any (ends_after n) (es ++ edits_in fixes)) one
    ∙ or_from (ends_after n e) (list_any (ends_after n) (edits_in fixes)) (le-ltb n (end_of e) within)
    (none_after n (next_at e) fixes apart.2)

free_of_one : (e x : Replacement) → next_at e ≤ x.span.offset → overlap e x ≡ false
free_of_one e x le =
    let first : is_after e x ≡ false =
    or_from (ltb x.span.offset e.span.offset) (eqb x.span.offset e.span.offset && ltb x.span.len e.span.len)
    (le-ltb x.span.offset e.span.offset (omega (arith, le)))
    (ap (λ b. b && ltb x.span.len e.span.len) (ne_eqb x.span.offset e.span.offset (λ same. omega (arith, le, same)))) in
    rw first (le-ltb x.span.offset (end_of e) (omega (arith, le)))

free_of_all : (n low : ℕ) (e : Replacement) (fixes : List FixModel) → next_at e ≤ low → AreApart n low fixes
    → list_any (overlap e) (edits_in fixes) ≡ false
free_of_all n low e [] le apart = refl
free_of_all n low e (fix ∷ fixes) le apart =
    let x : Replacement = apart.0 in
    let one : fix.edits ≡ x ∷ [] = apart.1.one in
    let from : low ≤ x.span.offset = apart.1.from in
    ap (λ es. list_any (overlap e) (es ++ edits_in fixes)) one
    ∙ or_from (overlap e x) (list_any (overlap e) (edits_in fixes)) (free_of_one e x (omega (arith, from, le)))
    (free_of_all n (next_at x) e fixes (omega (arith, from, le)) apart.2)

none_overlap : (n low : ℕ) (fixes : List FixModel) → AreApart n low fixes → some_overlap (edits_in fixes) ≡ false
none_overlap n low [] apart = refl
none_overlap n low (fix ∷ fixes) apart =
    let e : Replacement = apart.0 in
    let one : fix.edits ≡ e ∷ [] = apart.1.one in
    ap (λ es. some_overlap (es ++ edits_in fixes)) one
    ∙ or_from (list_any (overlap e) (edits_in fixes)) (some_overlap (edits_in fixes))
    (free_of_all n (next_at e) e fixes (omega arith) apart.2) (none_overlap n (next_at e) fixes apart.2)

not_refused : (n low : ℕ) (fixes : List FixModel) → AreApart n low fixes → edits_error n (edits_in fixes) ≡ None
not_refused n low fixes apart =
    let inside = none_after n low fixes apart in
    let free = none_overlap n low fixes apart in
    rw (inside, free) refl

joined_edits : (fixes : List FixModel) → flat_map (λ (fix : FixModel). fix.edits) fixes ≡ edits_in fixes
joined_edits [] = refl
joined_edits (fix ∷ fixes) = ap (λ es. fix.edits ++ es) (joined_edits fixes)

pub joint_accepted : (source : List ℕ) (width : ℕ) → edits_error (length source) (combined_proposal source width).edits
    ≡ None
joint_accepted source width = ap (edits_error (length source)) (joined_edits (proposals_of source))
    ∙ not_refused (length source) 0 (proposals_of source) (proposals_apart source)

pub joint_applied : (source : List ℕ) (width : ℕ) → applied source (combined_proposal source width).edits
    ≡ fixed_text source
joint_applied source width = ap (applied source) (joined_edits (proposals_of source))
    ∙ ap (text_from source 0) (in_order (length source) 0 (proposals_of source) (proposals_apart source))
    ∙ proposals_made source
