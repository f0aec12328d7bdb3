-- What is read of a reader, row by row.
use Rattle.std.proofs.Common.{◌≡◌, ℕ, List, [], ◌∷◌, ◌++◌, true, false, Option, Some, None, sym, ap, ap₂, subst}
use Rattle.std.proofs.Common.{◌∙◌, append_assoc, append-nil, inl}
use Rattle.std.specs.Prelude.{◌==◌, ◌||◌}
use Rattle.std.specs.Io.KnownBytes.{Consumes, IsAtEnd, prepend_known}
use Rattle.std.proofs.KnownBytes.{Consumes-trans}
use Rattle.std.proofs.lemmas.List.Folds.{list_any-append}
use Rattle.miette_show_rows.specs.rules.Rows.{has_end}
use Rattle.miette_show_rows.specs.views.Reading.{IsNextRow, IsTaken, left_of}
use Rattle.miette_show_rows.specs.views.RowState.{RowState}

both_free : (a b : List ℕ) → has_end a ≡ false → has_end b ≡ false → has_end (a ++ b) ≡ false
both_free a b p q = list_any-append (λ (c : ℕ). c == 10) a b ∙ ap₂ (λ x y. x || y) p q

taken_off : (a : Option (List ℕ)) (p q bs : List ℕ) → p ≡ bs ++ q → Consumes (prepend_known p a) (prepend_known q a) bs
taken_off None p q bs e = tt
taken_off (Some xs) p q bs e = ap (λ l. l ++ xs) e ∙ append_assoc bs q xs

pub refilled : (a b : Option (List ℕ)) (p q bs : List ℕ) → p ≡ [] → q ≡ bs → Consumes a b bs
    → Consumes (prepend_known p a) (prepend_known q b) []
refilled None b p q bs none is c = tt
refilled (Some xs) None p q bs none is c = absurd c
refilled (Some xs) (Some ys) p q bs none is c = ap (λ l. l ++ xs) none ∙ c ∙ ap (λ l. l ++ ys) (sym is)

pub ended : (a : Option (List ℕ)) (p : List ℕ) → p ≡ [] → IsAtEnd a → IsAtEnd (prepend_known p a)
ended None p none e = tt
ended (Some xs) p none e = ap₂ (λ l m. l ++ m) none e

module _ {R : Type 0} (remaining : R → Option (List ℕ)) where
  took : (old new : RowState R) (bs : List ℕ) → new.inner ≡ old.inner → old.pending ≡ bs ++ new.pending
      → Consumes (left_of remaining old) (left_of remaining new) bs
  took old new bs same is =
      subst (λ (i : R). Consumes (left_of remaining old) (prepend_known new.pending (remaining i)) bs) (sym same)
      (taken_off (remaining old.inner) old.pending new.pending bs is)

  pub whole_read : (first old new : RowState R) (before after : List ℕ)
      → Consumes (left_of remaining first) (left_of remaining old) before → has_end before ≡ false
      → IsTaken old.pending new.pending before after true → new.inner ≡ old.inner
      → IsNextRow (left_of remaining first) (left_of remaining new) after
  whole_read first old new before after c none (text, free, is, row) same =
      let end = text ++ 10 ∷ [] in
      let got = took old new end same (is ∙ sym (append_assoc text (10 ∷ []) new.pending)) in (
        subst (Consumes (left_of remaining first) (left_of remaining new)) (sym row)
            (Consumes-trans (left_of remaining first) (left_of remaining old) (left_of remaining new) before end c got),
        inl (before ++ text, both_free before text none free, row ∙ sym (append_assoc before text (10 ∷ []))),
      )

  pub part_read : (first old new : RowState R) (before after : List ℕ)
      → Consumes (left_of remaining first) (left_of remaining old) before
      → IsTaken old.pending new.pending before after false → new.inner ≡ old.inner
      → Consumes (left_of remaining first) (left_of remaining new) after
  part_read first old new before after c (free, none, row) same =
      let all : old.pending ≡ old.pending ++ new.pending =
      sym (append-nil old.pending) ∙ ap (λ l. old.pending ++ l) (sym none)
      in
      subst (Consumes (left_of remaining first) (left_of remaining new)) (sym row)
      (Consumes-trans (left_of remaining first) (left_of remaining old) (left_of remaining new) before old.pending c
      (took old new old.pending same all))

  pub part_free : (old new : RowState R) (before after : List ℕ) → has_end before ≡ false
      → IsTaken old.pending new.pending before after false → has_end after ≡ false
  part_free old new before after none (free, left, row) = ap has_end row ∙ both_free before old.pending none free

  pub read_on : (first old new : RowState R) (row : List ℕ)
      → Consumes (left_of remaining first) (left_of remaining old) row
      → Consumes (left_of remaining old) (left_of remaining new) []
      → Consumes (left_of remaining first) (left_of remaining new) row
  read_on first old new row c more =
      subst (Consumes (left_of remaining first) (left_of remaining new)) (append-nil row)
      (Consumes-trans (left_of remaining first) (left_of remaining old) (left_of remaining new) row [] c more)
