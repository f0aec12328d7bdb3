-- An indent without its last spaces: its tags stay.
use Rattle.std.proofs.Common.{◌≡◌, ℕ, suc, Bool, true, false, ◌&&◌, List, [], ◌∷◌, ◌++◌, map, take, refl, ap, ◌∙◌}
use Rattle.std.proofs.Common.{if◌then◌else◌}
use Rattle.std.proofs.lemmas.Bool.{and_parts}
use Rattle.miette_runs.specs.rules.Sequences.{Token, Character}
use Rattle.miette_runs.specs.steps.Cells.{bare_cells}
use Rattle.miette_runs.specs.views.Interleaving.{beyond, interleaving, tag_token, upto}
use Rattle.miette_runs.specs.declared.runs.sign.Tag.{Tag}
use Rattle.miette_runs.proofs.Weaving.{upto-beyond}
use Rattle.miette_text.specs.rules.Wrapping.{is_space, only_spaces, trimmed_row}
use Rattle.miette_text.specs.steps.Ends.{all_spaces, bare_len}

only-tags : (tags : List Tag) (ts : List Token) → only_spaces (map tag_token tags ++ ts) ≡ only_spaces ts
only-tags [] ts = refl
only-tags (m ∷ tags) ts = only-tags tags ts

trimmed-tags : (tags : List Tag) (ts : List Token) → trimmed_row (map tag_token tags ++ ts) ≡ map tag_token tags
    ++ trimmed_row ts
trimmed-tags [] ts = refl
trimmed-tags (m ∷ tags) ts = ap (λ us. tag_token m ∷ us) (trimmed-tags tags ts)

only-woven : (at : ℕ) (cs : List ℕ) (tags : List Tag) → only_spaces (interleaving at cs tags)
    ≡ all_spaces (bare_cells cs)
only-woven at [] [] = refl
only-woven at [] (m ∷ tags) = only-woven at [] tags
only-woven at (c ∷ cs) tags =
    only-tags (upto at tags) (Character c ∷ interleaving (suc at) cs (beyond at tags))
    ∙ ap (λ v. is_space c && v) (only-woven (suc at) cs (beyond at tags))

-- of spaces the tags are left
trimmed-spaces : (at : ℕ) (cs : List ℕ) (tags : List Tag) → all_spaces (bare_cells cs) ≡ true
    → trimmed_row (interleaving at cs tags) ≡ map tag_token tags
trimmed-spaces at [] [] h = refl
trimmed-spaces at [] (m ∷ tags) h = ap (λ us. tag_token m ∷ us) (trimmed-spaces at [] tags h)
trimmed-spaces at (c ∷ cs) tags h =
    let p = and_parts (is_space c) (all_spaces (bare_cells cs)) h in
    let ts = interleaving (suc at) cs (beyond at tags) in
    let all : (is_space c && only_spaces ts) ≡ true = ap (λ v. is_space c && v)
    (only-woven (suc at) cs (beyond at tags)) ∙ h in
    trimmed-tags (upto at tags) (Character c ∷ ts)
    ∙ ap (λ (v : Bool). map tag_token (upto at tags) ++ (if v then trimmed_row ts else Character c ∷ trimmed_row ts))
    all
    ∙ ap (λ us. map tag_token (upto at tags) ++ us) (trimmed-spaces (suc at) cs (beyond at tags) p.1)
    ∙ upto-beyond at tags

pub trimmed-woven : (at : ℕ) (cs : List ℕ) (tags : List Tag) → trimmed_row (interleaving at cs tags)
    ≡ interleaving at (take (bare_len (bare_cells cs)) cs) tags
trimmed-woven at [] tags = trimmed-spaces at [] tags refl
trimmed-woven at (c ∷ cs) tags =
    elim (is_space c && all_spaces (bare_cells cs)) as (λ v. (is_space c && all_spaces (bare_cells cs)) ≡ v
    → trimmed_row (interleaving at (c ∷ cs) tags) ≡ interleaving at
    (take (if v then 0 else suc (bare_len (bare_cells cs))) (c ∷ cs)) tags) [
      | true ↦ λ e. trimmed-spaces at (c ∷ cs) tags e
      | false ↦ λ e.
          let ts = interleaving (suc at) cs (beyond at tags) in
          let some : (is_space c && only_spaces ts) ≡ false =
          ap (λ v. is_space c && v) (only-woven (suc at) cs (beyond at tags)) ∙ e in
          trimmed-tags (upto at tags) (Character c ∷ ts)
          ∙ ap (λ (v : Bool). map tag_token (upto at tags) ++
          (if v then trimmed_row ts else Character c ∷ trimmed_row ts)) some
          ∙ ap (λ us. map tag_token (upto at tags) ++ Character c ∷ us) (trimmed-woven (suc at) cs (beyond at tags))
    ] refl
