-- The settings in which further sources are drawn.
use Rattle.std.proofs.Common.{◌≡◌, ℕ, ◌+◌, ◌-◌, ◌*◌, ◌%◌, ◌<◌, ◌≤◌, List, [], ◌∷◌, ◌++◌, length, take, drop, refl, sym, ap}
use Rattle.std.proofs.Common.{◌∙◌, ⊎_elim, arith, slice_index_or, length-append, length-drop}
use Rattle.std.proofs.Math.Nat.{add-mod, mod-eq_of_lt}
use Rattle.std.proofs.lemmas.Bool.{cases_lt}
use Rattle.std.proofs.lemmas.List.{get_or-append-add, get_or-drop, get_or-take, get_or_append_left, length-take}
use Rattle.std.proofs.lemmas.Nat.{mod-mul-add, mod_below}
use Rattle.miette_style.specs.declared.style.Style.{Style}
use Rattle.miette_style.specs.rules.Styles.{plain}
use Rattle.miette_labels.specs.rules.Labels.{style_at}
use Rattle.miette_tree.specs.rules.Diagnosis.{Section}
use Rattle.miette_graphical_rules.specs.rules.GraphicalSettings.{GraphicalSettings}
use Rattle.miette_graphical_rules.specs.rules.Sources.{rotated}
use Rattle.miette_graphical_laws.specs.laws.SourceSettings.{AreSettingsAfter, AreSettingsWith}

-- a list that is turned by m elements, at a place
turned_at : (xs : List Style) (m j : ℕ) → m < length xs → j < length xs
    → slice_index_or (drop m xs ++ take m xs) j plain ≡ slice_index_or xs ((m + j) % length xs) plain
turned_at xs m j lt there =
    let left : length (drop m xs) ≡ length xs - m = length-drop m xs in
    ⊎_elim {C = slice_index_or (drop m xs ++ take m xs) j plain ≡ slice_index_or xs ((m + j) % length xs) plain}
    (λ near. let inside : m + j < length xs = omega (arith, near, left) in
    get_or_append_left (drop m xs) (take m xs) plain j near ∙ get_or-drop m xs j plain
    ∙ ap (λ k. slice_index_or xs k plain) (sym (mod-eq_of_lt inside)))
    (λ far. let k : ℕ = j - length (drop m xs) in
    let is : j ≡ length (drop m xs) + k = omega (arith, far) in
    let small : k < m = omega (arith, far, left, there, lt) in
    let less : k < length xs = omega (arith, small, lt) in
    let sum : m + j ≡ 1 * length xs + k = omega (arith, is, left, lt) in
    ap (λ i. slice_index_or (drop m xs ++ take m xs) i plain) is
    ∙ get_or-append-add (drop m xs) (take m xs) k plain ∙ get_or-take m xs k plain small
    ∙ ap (λ i. slice_index_or xs i plain) (sym (ap (λ i. i % length xs) sum ∙ mod-mul-add 1 (length xs) k less)))
    (cases_lt j (length (drop m xs)))

-- the style at a place of a list with elements
some_at : (xs : List Style) (i : ℕ) → 0 < length xs → style_at xs i ≡ slice_index_or xs (i % length xs) plain
some_at [] i some = absurd (omega (arith, some))
some_at (style ∷ styles) i some = refl

rotated_length : (xs : List Style) (m : ℕ) → m < length xs → length (drop m xs ++ take m xs) ≡ length xs
rotated_length xs m lt =
    length-append (drop m xs) (take m xs) ∙ omega (arith, length-drop m xs, length-take m xs, lt)

rotated_at : (styles : List Style) (n i : ℕ) → style_at (rotated n styles) i ≡ style_at styles (n + i)
rotated_at [] n i = refl
rotated_at (style ∷ styles) n i =
    let xs : List Style = style ∷ styles in
    let some : 0 < length xs = omega arith in
    let m : ℕ = n % length xs in
    let low : m < length xs = mod_below n (length xs) some in
    let same : length (drop m xs ++ take m xs) ≡ length xs = rotated_length xs m low in
    some_at (drop m xs ++ take m xs) i (omega (arith, same, some))
    ∙ ap (λ k. slice_index_or (drop m xs ++ take m xs) (i % k) plain) same
    ∙ turned_at xs m (i % length xs) low (mod_below i (length xs) some)
    ∙ ap (λ k. slice_index_or xs k plain) (sym (add-mod n i (length xs)))

pub settings_after : (n : ℕ) (s : GraphicalSettings) → AreSettingsAfter n s
settings_after n s =
    record { others = refl; highlights = λ i. rotated_at s.theme.styles.highlights n i; asked = refl }

pub settings_with : (sections : List Section) (s : GraphicalSettings) → AreSettingsWith sections s
settings_with sections s = record { others = refl; start = refl; asked = refl }
