-- What begins a style, code by code.
use Rattle.std.proofs.Common.{◌≡◌, ℕ, Bool, true, false, ◌||◌, List, [], ◌∷◌, ◌++◌, codes, refl, sym, ap, ◌∙◌}
use Rattle.std.proofs.Common.{append_assoc, append-nil, Option, Some, None, is_some}
use Rattle.miette_style.specs.rules.Codes.{after_separators, colour_start, flag, foreground, foreground_codes}
use Rattle.miette_style.specs.rules.Codes.{further_codes, separated_codes, style_codes}
use Rattle.miette_style.specs.declared.style.Color.{Color}
use Rattle.miette_style.specs.declared.style.Style.{Style}

after-more : (code : List ℕ) (xs : List (List ℕ)) → after_separators (code ∷ xs) ≡ after_separators (code ∷ [])
    ++ after_separators xs
after-more code xs = ap (λ ys. 59 ∷ ys ++ after_separators xs) (sym (append-nil code))

further-more : (some on : Bool) (code : List ℕ) (xs : List (List ℕ)) → further_codes some (flag on code ++ xs)
    ≡ further_codes some (flag on code) ++ further_codes (some || on) xs
further-more true true code xs = after-more code xs
further-more true false code xs = refl
further-more false true code xs = ap (λ ys. ys ++ after_separators xs) (sym (append-nil code))
further-more false false code xs = refl

first-more : (color : Option Color) (xs : List (List ℕ)) → separated_codes (foreground_codes color ++ xs)
    ≡ further_codes false (foreground_codes color) ++ further_codes (is_some color) xs
first-more None xs = refl
first-more (Some c) xs = ap (λ ys. ys ++ after_separators xs) (sym (append-nil (foreground c)))

style-separated : (s : Style) (v1 v2 v3 v4 : Bool) → v1 ≡ is_some s.fg → v2 ≡ (v1 || s.bold) → v3 ≡ (v2 || s.dimmed)
    → v4 ≡ (v3 || s.italic) →
    separated_codes (style_codes s) ≡ further_codes false (foreground_codes s.fg)
    ++ (further_codes v1 (flag s.bold (codes "1")) ++ (further_codes v2 (flag s.dimmed (codes "2"))
    ++ (further_codes v3 (flag s.italic (codes "3")) ++ further_codes v4 (flag s.underline (codes "4")))))
style-separated s v1 v2 v3 v4 e1 e2 e3 e4 =
    let f = foreground_codes s.fg in
    let b = flag s.bold (codes "1") in
    let d = flag s.dimmed (codes "2") in
    let i = flag s.italic (codes "3") in
    let u = flag s.underline (codes "4") in
    let grouped : style_codes s ≡ f ++ (b ++ (d ++ (i ++ u))) = append_assoc (f ++ b ++ d) i u
    ∙ append_assoc (f ++ b) d (i ++ u) ∙ append_assoc f b (d ++ (i ++ u)) in
    ap separated_codes grouped
    ∙ first-more s.fg (b ++ (d ++ (i ++ u)))
    ∙ ap (λ xs. further_codes false f ++ xs)
    (ap (λ v. further_codes v (b ++ (d ++ (i ++ u)))) (sym e1)
    ∙ further-more v1 s.bold (codes "1") (d ++ (i ++ u))
    ∙ ap (λ xs. further_codes v1 b ++ xs)
    (ap (λ v. further_codes v (d ++ (i ++ u))) (sym e2)
    ∙ further-more v2 s.dimmed (codes "2") (i ++ u)
    ∙ ap (λ xs. further_codes v2 d ++ xs)
    (ap (λ v. further_codes v (i ++ u)) (sym e3)
    ∙ further-more v3 s.italic (codes "3") u
    ∙ ap (λ v. further_codes v3 i ++ further_codes v u) (sym e4))))

style-around : (o f b d i u : List ℕ) → ((((((o ++ 27 ∷ 91 ∷ []) ++ f) ++ b) ++ d) ++ i) ++ u) ++ 109 ∷ [] ≡ o ++ 27
    ∷ 91 ∷ ((f ++ (b ++ (d ++ (i ++ u)))) ++ 109 ∷ [])
style-around o f b d i u = simp append_assoc

pub style-pushed : (s : Style) (v1 v2 v3 v4 : Bool) (o o0 o1 o2 o3 o4 o5 o6 : List ℕ) → v1 ≡ is_some s.fg → v2
    ≡ (v1 || s.bold) → v3 ≡ (v2 || s.dimmed) → v4 ≡ (v3 || s.italic) →
    o0 ≡ o ++ 27 ∷ 91 ∷ [] → o1 ≡ o0 ++ further_codes false (foreground_codes s.fg) → o2 ≡ o1
    ++ further_codes v1 (flag s.bold (codes "1")) → o3 ≡ o2 ++ further_codes v2 (flag s.dimmed (codes "2")) →
    o4 ≡ o3 ++ further_codes v3 (flag s.italic (codes "3")) → o5 ≡ o4 ++ further_codes v4 (flag s.underline (codes "4"))
    → o6 ≡ o5 ++ 109 ∷ [] → o6 ≡ o ++ colour_start s
style-pushed s v1 v2 v3 v4 o o0 o1 o2 o3 o4 o5 o6 e1 e2 e3 e4 g0 g1 g2 g3 g4 g5 g6 =
    let f = further_codes false (foreground_codes s.fg) in
    let b = further_codes v1 (flag s.bold (codes "1")) in
    let d = further_codes v2 (flag s.dimmed (codes "2")) in
    let i = further_codes v3 (flag s.italic (codes "3")) in
    let u = further_codes v4 (flag s.underline (codes "4")) in
    g6
    ∙ ap (λ x. x ++ 109 ∷ []) (g5 ∙ ap (λ x. x ++ u) (g4 ∙ ap (λ x. x ++ i)
    (g3 ∙ ap (λ x. x ++ d) (g2 ∙ ap (λ x. x ++ b) (g1 ∙ ap (λ x. x ++ f) g0)))))
    ∙ style-around o f b d i u
    ∙ ap (λ x. o ++ 27 ∷ 91 ∷ (x ++ 109 ∷ [])) (sym (style-separated s v1 v2 v3 v4 e1 e2 e3 e4))
