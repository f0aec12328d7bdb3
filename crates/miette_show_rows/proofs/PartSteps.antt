-- The parts of bytes, one after another.
use Rattle.std.proofs.Common.{◌≡◌, ℕ, ◌<◌, ◌+◌, List, [], ◌∷◌, ◌++◌, Bool, true, false, length, Option, Some}
use Rattle.std.proofs.Common.{None, IfSome, refl, sym, ap, ap₂, subst, ◌∙◌, arith, append_assoc, append-nil, inl, inr}
use Rattle.std.specs.Prelude.{◌⊎◌, ⊤, ◌==◌, ◌&&◌, ◌||◌, if◌then◌else◌}
use Rattle.std.specs.Io.KnownBytes.{Consumes}
use Rattle.std.proofs.lemmas.List.{length-append}
use Rattle.std.proofs.lemmas.List.Sums.{fold-append}
use Rattle.miette_show_rows.specs.declared.parts.JsonState.{JsonState}
use Rattle.miette_show_rows.specs.rules.Parts.{after_bytes, begins_alone, begins_value, closed, continues_value}
use Rattle.miette_show_rows.specs.rules.Parts.{is_inner}
use Rattle.miette_show_rows.specs.rules.Parts.{is_unclosed, parts_from, parts_of, with_byte}
use Rattle.miette_show_rows.specs.rules.Rows.{last_row, rows_from, rows_of}
use Rattle.miette_show_rows.specs.views.Reading.{IsNextPart, IsNextRow}
use Rattle.miette_show_rows.proofs.RowSteps.{last_alone, next_of, none_next}

-- ---- what is left begins as its first row does

row_ends : (t : Bool) (b : ℕ) (begun : List ℕ) (c : ℕ) (cs : List ℕ)
    → ((more : List ℕ) × (rows : List (List ℕ)) × (rows_from (b ∷ (begun ++ c ∷ [])) cs ≡ (b ∷ more) ∷ rows))
    → (more : List ℕ) × (rows : List (List ℕ))
    × ((if t then (b ∷ (begun ++ c ∷ [])) ∷ rows_from [] cs else rows_from (b ∷ (begun ++ c ∷ [])) cs)
    ≡ (b ∷ more) ∷ rows)
row_ends true b begun c cs it = (begun ++ c ∷ [], rows_from [] cs, refl)
row_ends false b begun c cs it = it

row_begins : (b : ℕ) (begun bs : List ℕ)
    → (more : List ℕ) × (rows : List (List ℕ)) × (rows_from (b ∷ begun) bs ≡ (b ∷ more) ∷ rows)
row_begins b begun [] = (begun, [], refl)
row_begins b begun (c ∷ cs) = row_ends (c == 10) b begun c cs (row_begins b (begun ++ c ∷ []) cs)

first_ends : (t : Bool) (b : ℕ) (bs : List ℕ)
    → ((more : List ℕ) × (rows : List (List ℕ)) × (rows_from (b ∷ []) bs ≡ (b ∷ more) ∷ rows))
    → (more : List ℕ) × (rows : List (List ℕ))
    × ((if t then (b ∷ []) ∷ rows_from [] bs else rows_from (b ∷ []) bs) ≡ (b ∷ more) ∷ rows)
first_ends true b bs it = ([], rows_from [] bs, refl)
first_ends false b bs it = it

first_of : (b : ℕ) (bs : List ℕ) → (more : List ℕ) × (rows : List (List ℕ)) × (rows_of (b ∷ bs) ≡ (b ∷ more) ∷ rows)
first_of b bs = first_ends (b == 10) b bs (row_begins b [] bs)

-- a part that doesn't go on with what is left ends
ended_by : (t : Bool) (part row : List ℕ) (rows : List (List ℕ)) → t ≡ false
    → (if t then parts_from (part ++ row) rows else last_row part ++ parts_from row rows)
    ≡ last_row part ++ parts_from row rows
ended_by true part row rows e = cc
ended_by false part row rows e = refl

part_ends : (part left : List ℕ) → continues_value part left ≡ false
    → parts_from part (rows_of left) ≡ last_row part ++ parts_of left
part_ends part [] none = sym (append-nil (last_row part))
part_ends part (b ∷ bs) none =
    let (more, rows, is) = first_of b bs in
    ap (parts_from part) is ∙ ended_by (continues_value part (b ∷ more)) part (b ∷ more) rows none
    ∙ ap (λ l. last_row part ++ parts_from [] l) (sym is)

-- ---- a part that is read row by row

-- nothing is read of a part, or it goes on with what is left
abbrev pub Fits : List ℕ → List ℕ → Type 0
Fits held left = (held ≡ []) ⊎ (continues_value held left ≡ true)

-- the parts of what was there at first are those of what is left after what the part begins with
abbrev pub RowHeld : Option (List ℕ) → Option (List ℕ) → List ℕ → Type 0
RowHeld None new held = ⊤
RowHeld (Some xs) None held = ⊥
RowHeld (Some xs) (Some ys) held = parts_of xs ≡ parts_from held (rows_of ys)

-- and it takes the next row
abbrev pub PartHeld : Option (List ℕ) → Option (List ℕ) → List ℕ → Type 0
PartHeld None new held = ⊤
PartHeld (Some xs) None held = ⊥
PartHeld (Some xs) (Some ys) held = (parts_of xs ≡ parts_from held (rows_of ys)) × Fits held ys

pub held_begin : (old : Option (List ℕ)) → PartHeld old old []
held_begin None = tt
held_begin (Some xs) = (refl, inl refl)

taken_by : (t : Bool) (held row : List ℕ) (rows : List (List ℕ)) → t ≡ true
    → (if t then parts_from (held ++ row) rows else last_row held ++ parts_from row rows)
    ≡ parts_from (held ++ row) rows
taken_by true held row rows e = refl
taken_by false held row rows e = cc

row_taken : (held row left : List ℕ) (rows : List (List ℕ)) → 0 < length row → Fits held (row ++ left)
    → parts_from held (row ∷ rows) ≡ parts_from (held ++ row) rows
row_taken held [] left rows some fits = absurd (omega (arith, some))
row_taken held (b ∷ bs) left rows some (inl none) =
    ap (λ h. parts_from h ((b ∷ bs) ∷ rows)) none ∙ ap (λ h. parts_from (h ++ b ∷ bs) rows) (sym none)
row_taken held (b ∷ bs) left rows some (inr on) = taken_by (continues_value held (b ∷ bs)) held (b ∷ bs) rows on

pub row_more : (old mid new : Option (List ℕ)) (held row part : List ℕ) → part ≡ held ++ row → 0 < length row
    → PartHeld old mid held → IsNextRow mid new row → RowHeld old new part
row_more None mid new held row part one some is next = tt
row_more (Some xs) None new held row part one some is next = absurd is
row_more (Some xs) (Some ys) None held row part one some is next = absurd next.0
row_more (Some xs) (Some ys) (Some zs) held row part one some is next =
    is.0 ∙ ap (parts_from held) (next_of ys zs row some next)
    ∙ row_taken held row zs (rows_of zs) some (subst (Fits held) next.0 is.1)
    ∙ ap (λ p. parts_from p (rows_of zs)) (sym one)

-- what is open after one row more
pub after_more : (held row part : List ℕ) (was now : JsonState) → part ≡ held ++ row → was ≡ after_bytes closed held
    → now ≡ after_bytes was row → now ≡ after_bytes closed part
after_more held row part was now is before after =
    after ∙ ap (λ o. after_bytes o row) before ∙ sym (fold-append with_byte closed held row)
    ∙ ap (after_bytes closed) (sym is)

some_more : (held row part : List ℕ) → part ≡ held ++ row → 0 < length row → 0 < length part
some_more held row part one h =
    let e : length part ≡ length held + length row = ap length one ∙ length-append held row in omega (arith, e, h)

not_none : (part : List ℕ) → 0 < length part → part ≡ [] → ⊥
not_none [] h e = omega (arith, h)
not_none (b ∷ bs) h e = cc

-- a part that goes on with nothing that is left is the next one
abbrev pub Ends : Option (List ℕ) → List ℕ → Type 0
Ends None part = ⊤
Ends (Some ys) part = continues_value part ys ≡ false

pub held_whole : (old mid new : Option (List ℕ)) (held row part : List ℕ) → part ≡ held ++ row → 0 < length row
    → RowHeld old mid part → Consumes mid new [] → Ends new part → IsNextPart old new part
held_whole None mid new held row part one some is same ends = tt
held_whole (Some xs) None new held row part one some is same ends = absurd is
held_whole (Some xs) (Some ys) None held row part one some is same ends = absurd same
held_whole (Some xs) (Some ys) (Some zs) held row part one some is same ends = (
  is ∙ ap (λ l. parts_from part (rows_of l)) same ∙ part_ends part zs ends,
  (λ e. absurd (not_none part (some_more held row part one some) e)),
)

pub closed_ends : (left : Option (List ℕ)) (part : List ℕ)
    → (begins_value part && is_unclosed (after_bytes closed part)) ≡ false → Ends left part
closed_ends None part none = tt
closed_ends (Some ys) part none = ap (λ t. t && (begins_alone part || is_inner ys)) none

pub never_on : (part : List ℕ) → begins_value part ≡ false
    → (begins_value part && is_unclosed (after_bytes closed part)) ≡ false
never_on part begins = ap (λ a. a && is_unclosed (after_bytes closed part)) begins

pub is_as : (part : List ℕ) (o : JsonState) (t : Bool) → o ≡ after_bytes closed part → begins_value part ≡ true
    → is_unclosed o ≡ t → (begins_value part && is_unclosed (after_bytes closed part)) ≡ t
is_as part o t is begins opens = ap₂ (λ a b. a && b) begins (ap is_unclosed (sym is) ∙ opens)

-- what is told of a copy of the part
pub on_as : (a part : List ℕ) (left : Option (List ℕ)) (on t : Bool) → a ≡ part → on ≡ t
    → IfSome left (λ bytes. (begins_alone a || is_inner bytes) ≡ on)
    → IfSome left (λ bytes. (begins_alone part || is_inner bytes) ≡ t)
on_as a part None on t same is given = tt
on_as a part (Some ys) on t same is given = ap (λ p. begins_alone p || is_inner ys) (sym same) ∙ given ∙ is

pub open_ends : (left : Option (List ℕ)) (part : List ℕ)
    → (begins_value part && is_unclosed (after_bytes closed part)) ≡ true
    → IfSome left (λ bytes. (begins_alone part || is_inner bytes) ≡ false) → Ends left part
open_ends None part opens none = tt
open_ends (Some ys) part opens none = ap₂ (λ a b. a && b) opens none

pub held_more : (old mid new : Option (List ℕ)) (part : List ℕ) → RowHeld old mid part → Consumes mid new []
    → (begins_value part && is_unclosed (after_bytes closed part)) ≡ true
    → IfSome new (λ bytes. (begins_alone part || is_inner bytes) ≡ true) → PartHeld old new part
held_more None mid new part is same opens on = tt
held_more (Some xs) None new part is same opens on = absurd is
held_more (Some xs) (Some ys) None part is same opens on = absurd same
held_more (Some xs) (Some ys) (Some zs) part is same opens on =
    (is ∙ ap (λ l. parts_from part (rows_of l)) same, inr (ap₂ (λ a b. a && b) opens on))

pub held_end : (old mid new : Option (List ℕ)) (held row : List ℕ) → row ≡ [] → PartHeld old mid held
    → IsNextRow mid new row → IsNextPart old new held
held_end None mid new held row none is next = tt
held_end (Some xs) None new held row none is next = absurd is
held_end (Some xs) (Some ys) None held row none is next = absurd next.0
held_end (Some xs) (Some ys) (Some zs) held row none is next =
    let end : ys ≡ [] = none_next ys zs row none next in
    let left : zs ≡ [] = sym (next.0 ∙ ap (λ r. r ++ zs) none) ∙ end in (
      is.0 ∙ ap (λ l. parts_from held (rows_of l)) end ∙ sym (append-nil (last_row held))
          ∙ ap (λ l. last_row held ++ parts_of l) (sym left),
      (λ e. left),
    )

-- ---- one part after another

-- the parts of what was there at first are those that were read and those of what is left
abbrev pub PartsLeft : Option (List ℕ) → Option (List ℕ) → List (List ℕ) → Type 0
PartsLeft None new done = ⊤
PartsLeft (Some xs) None done = ⊥
PartsLeft (Some xs) (Some ys) done = parts_of xs ≡ done ++ parts_of ys

pub parts_begin : (old : Option (List ℕ)) → PartsLeft old old []
parts_begin None = tt
parts_begin (Some xs) = refl

pub parts_more : (old mid new : Option (List ℕ)) (done : List (List ℕ)) (part : List ℕ) → 0 < length part
    → PartsLeft old mid done → IsNextPart mid new part → PartsLeft old new (done ++ part ∷ [])
parts_more None mid new done part some left next = tt
parts_more (Some xs) None new done part some left next = absurd left
parts_more (Some xs) (Some ys) None done part some left next = absurd next
parts_more (Some xs) (Some ys) (Some zs) done part some left next =
    left ∙ ap (λ l. done ++ l) (next.0 ∙ ap (λ l. l ++ parts_of zs) (last_alone part some))
    ∙ sym (append_assoc done (part ∷ []) (parts_of zs))

pub parts_end : (old mid new : Option (List ℕ)) (done : List (List ℕ)) (part : List ℕ) → part ≡ []
    → PartsLeft old mid done → IsNextPart mid new part → IfSome old (λ bytes. done ≡ parts_of bytes)
parts_end None mid new done part none left next = tt
parts_end (Some xs) None new done part none left next = absurd left
parts_end (Some xs) (Some ys) None done part none left next = absurd next
parts_end (Some xs) (Some ys) (Some zs) done part none left next =
    let no_more : parts_of ys ≡ [] =
    next.0 ∙ ap₂ (λ l m. last_row l ++ parts_of m) none (next.1 none)
    in
    sym (left ∙ ap (λ l. done ++ l) no_more ∙ append-nil done)

-- the parts that were read are the first ones
pub first_parts : (first left : Option (List ℕ)) (done : List (List ℕ)) → PartsLeft first left done
    → IfSome first (λ bytes. (others : List (List ℕ)) × (parts_of bytes ≡ done ++ others))
first_parts None left done is = tt
first_parts (Some xs) None done is = absurd is
first_parts (Some xs) (Some ys) done is = (parts_of ys, is)
