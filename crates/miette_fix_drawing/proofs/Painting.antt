-- A line's characters in pieces.
use Rattle.std.proofs.Common.{ℕ, ◌+◌, ◌≡◌, Bool, true, false, cond, List, [], ◌∷◌, ◌++◌, map, refl, sym, ap, ◌∙◌}
use Rattle.std.proofs.Common.{append_assoc, arith}
use Rattle.std.specs.Bool.{beq}
use Rattle.std.specs.Prelude.{not}
use Rattle.std.proofs.lemmas.List.{map-append}
use Rattle.miette_style.specs.declared.style.Style.{Style}
use Rattle.miette_style.specs.rules.Styles.{plain}
use Rattle.miette_lines.proofs.Cases.{by_cases}
use Rattle.miette_snippet_rules.specs.rules.Highlighting.{highlight_of}
use Rattle.miette_fix_rows.specs.rules.DiffTexts.{DiffPiece, prepend_piece}
use Rattle.miette_fix_drawing.specs.declared.edit_pieces.DiffPiece.{DiffPiece as MadeDiffPiece}
use Rattle.miette_fix_drawing.specs.steps.Pieces.{prepend_pieces, told}

abbrev pub agree : Bool → Bool → Bool
agree a b = cond a b (not b)

abbrev pub made_of : Bool → ℕ → MadeDiffPiece
made_of changed bytes = record { changed = changed; bytes = bytes }

abbrev made : Bool → ℕ → DiffPiece
made changed bytes = record { changed = changed; bytes = bytes }

agree_equal : (a b : Bool) → beq b a ≡ true → agree a b ≡ true
agree_equal true true h = refl
agree_equal true false h = absurd (cc)
agree_equal false true h = absurd (cc)
agree_equal false false h = refl

agree_unequal : (a b : Bool) → beq b a ≡ false → agree a b ≡ false
agree_unequal true true h = absurd (cc)
agree_unequal true false h = refl
agree_unequal false true h = refl
agree_unequal false false h = absurd (cc)

other_through : (a b c : Bool) → agree a b ≡ false → agree b c ≡ true → agree a c ≡ false
other_through true true c h e = absurd (cc)
other_through true false true h e = absurd (cc)
other_through true false false h e = refl
other_through false true true h e = refl
other_through false true false h e = absurd (cc)
other_through false false c h e = absurd (cc)

same_through : (a b c : Bool) → agree a b ≡ true → agree a c ≡ agree b c
same_through true true c h = refl
same_through true false c h = absurd (cc)
same_through false true c h = absurd (cc)
same_through false false c h = refl

longer : (b : Bool) (x y z : ℕ) (rest : List DiffPiece) → made b (x + (y + z)) ∷ rest ≡ made b (x + y + z) ∷ rest
longer b x y z rest = let e : x + (y + z) ≡ x + y + z = omega arith in ap (λ k. made b k ∷ rest) e

-- characters before others that are as these
pub onto_same : (a b : Bool) (x y : ℕ) (rest : List DiffPiece) → agree a b ≡ true
    → prepend_piece a x (prepend_piece b y rest) ≡ prepend_piece a (x + y) rest
onto_same true true x y [] h = refl
onto_same false false x y [] h = refl
onto_same true false x y rest h = absurd (cc)
onto_same false true x y rest h = absurd (cc)
onto_same true true x y (n ∷ rest) h =
    by_cases {C = prepend_piece true x (prepend_piece true y (n ∷ rest)) ≡ prepend_piece true (x + y) (n ∷ rest)}
    n.changed
    (λ t. rw t (longer true x y n.bytes rest))
    (λ f. rw f refl)
onto_same false false x y (n ∷ rest) h =
    by_cases {C = prepend_piece false x (prepend_piece false y (n ∷ rest)) ≡ prepend_piece false (x + y) (n ∷ rest)}
    n.changed
    (λ t. rw t refl)
    (λ f. rw f (longer false x y n.bytes rest))

-- and before others that aren't
pub onto_other : (a b : Bool) (x y : ℕ) (rest : List DiffPiece) → agree a b ≡ false
    → prepend_piece a x (prepend_piece b y rest) ≡ made a x ∷ prepend_piece b y rest
onto_other a b x y [] h = rw h refl
onto_other a b x y (n ∷ rest) h =
    by_cases {C = prepend_piece a x (prepend_piece b y (n ∷ rest)) ≡ made a x ∷ prepend_piece b y (n ∷ rest)}
    (agree b n.changed)
    (λ t. let own : agree a n.changed ≡ false = other_through a b n.changed h t in rw (t, own) refl)
    (λ f. rw (f, h) refl)

pub put_same : (items new : List (ℕ × Style)) (style : Style) (reached next both : MadeDiffPiece)
    (rest : List DiffPiece)
    → beq next.changed reached.changed ≡ true → both ≡ record reached { bytes = reached.bytes + next.bytes } → new ≡
    items
    → map highlight_of new ++ told style (prepend_pieces both rest)
    ≡ map highlight_of items ++ told style (prepend_pieces reached (prepend_pieces next rest))
put_same items new style reached next both rest same b n =
    ap (λ xs. map highlight_of xs ++ told style (prepend_pieces both rest)) n
    ∙ ap (λ (p : MadeDiffPiece). map highlight_of items ++ told style (prepend_pieces p rest)) b
    ∙ ap (λ r. map highlight_of items ++ told style r) (sym (onto_same reached.changed next.changed reached.bytes
    next.bytes rest (agree_equal reached.changed next.changed same)))

pub put_other : (items new : List (ℕ × Style)) (piece : ℕ × Style) (style : Style) (reached next : MadeDiffPiece)
    (rest : List DiffPiece) → beq next.changed reached.changed ≡ false
    → highlight_of piece ≡ record { bytes = reached.bytes; style = cond reached.changed style plain }
    → new ≡ items ++ piece ∷ []
    → map highlight_of new ++ told style (prepend_pieces next rest)
    ≡ map highlight_of items ++ told style (prepend_pieces reached (prepend_pieces next rest))
put_other items new piece style reached next rest other h n =
    ap (λ xs. map highlight_of xs ++ told style (prepend_pieces next rest)) n
    ∙ ap (λ xs. xs ++ told style (prepend_pieces next rest)) (map-append highlight_of items (piece ∷ []))
    ∙ append_assoc (map highlight_of items) (highlight_of piece ∷ []) (told style (prepend_pieces next rest))
    ∙ ap (λ p. map highlight_of items ++ p ∷ told style (prepend_pieces next rest)) h
    ∙ ap (λ r. map highlight_of items ++ told style r) (sym (onto_other reached.changed next.changed reached.bytes
    next.bytes rest (agree_unequal reached.changed next.changed other)))
