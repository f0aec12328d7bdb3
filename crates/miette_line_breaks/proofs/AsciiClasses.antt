-- What the rules see of ASCII.
use Rattle.std.proofs.Common.{◌≡◌, ℕ, ◌<◌, Bool, true, false, not, ◌&&◌, ◌||◌, ◌==◌, refl, sym, ap, ap₂, ◌∙◌, arith}
use Rattle.std.proofs.Common.{eqb-true, slice_index_or}
use Rattle.std.proofs.lemmas.Bool.{and_parts}
use Rattle.std.proofs.lemmas.Bool.Decides.{nat_tests}
use Rattle.std.specs.Char.{is_ascii_alphabetic}
use Rattle.ucd_table.proofs.Facts.{Stepped-below}
use Rattle.ucd_breaks.specs.LineBreak.{line_break, line_break_from_number, line_break_number}
use Rattle.ucd_breaks.specs.declared.LineBreak.{LineBreak}
use Rattle.ucd_breaks.specs.declared.LineBreak.TheVariants.{Alphabetic, Ambiguous, Aksara, AksaraPrebase, AksaraStart}
use Rattle.ucd_breaks.specs.declared.LineBreak.TheVariants.{ComplexContext, ConditionalJapaneseStarter, Space}
use Rattle.ucd_breaks.specs.declared.LineBreak.TheVariants.{Surrogate, UnambiguousHyphen, Unknown, Virama, ViramaFinal}
use Rattle.ucd_breaks.proofs.Computing.{ucd_breaks}
use Rattle.ucd_breaks.proofs.LineBreakLemmas.{line_break_from_number-line_break_number, line_break_stepped}
use Rattle.ucd_east_asian.specs.EastAsianWidth.{east_asian_width}
use Rattle.ucd_east_asian.proofs.Computing.{ucd_east_asian}
use Rattle.ucd_east_asian.proofs.EastAsianWidthLemmas.{east_asian_width_stepped}
use Rattle.ucd_emoji.specs.Binary.{is_extended_pictographic}
use Rattle.ucd_emoji.proofs.BinaryLemmas.{is_extended_pictographic_stepped}
use Rattle.ucd_emoji.proofs.Computing.{ucd_emoji}
use Rattle.ucd_category.specs.GeneralCategory.{general_category}
use Rattle.miette_line_breaks.specs.declared.ascii.TheConstants.{CLASSES}
use Rattle.miette_line_breaks.specs.declared.characters.Character.{Character}
use Rattle.miette_line_breaks.specs.rules.Characters.{character_of, is_unassigned, is_wide, lone_mark, resolved}
use Rattle.miette_line_breaks.specs.steps.States.{is_alphabetic}

abbrev pub ascii_character : ℕ → Character
ascii_character c = record { class = slice_index_or CLASSES c Ambiguous; is_wide = false; is_future_emoji = false }

-- classes for which no other stands
abbrev is_settled : LineBreak → Bool
is_settled Ambiguous = false
is_settled Surrogate = false
is_settled Unknown = false
is_settled Aksara = false
is_settled AksaraPrebase = false
is_settled AksaraStart = false
is_settled Virama = false
is_settled ViramaFinal = false
is_settled UnambiguousHyphen = false
is_settled ConditionalJapaneseStarter = false
is_settled ComplexContext = false
is_settled _ = true

settled-is : (c : ℕ) (k : LineBreak) → is_settled k ≡ true → resolved c k ≡ k
settled-is c Ambiguous h = absurd (cc)
settled-is c Surrogate h = absurd (cc)
settled-is c Unknown h = absurd (cc)
settled-is c Aksara h = absurd (cc)
settled-is c AksaraPrebase h = absurd (cc)
settled-is c AksaraStart h = absurd (cc)
settled-is c Virama h = absurd (cc)
settled-is c ViramaFinal h = absurd (cc)
settled-is c UnambiguousHyphen h = absurd (cc)
settled-is c ConditionalJapaneseStarter h = absurd (cc)
settled-is c ComplexContext h = absurd (cc)
settled-is c k h = refl

pub same_class : (a b : LineBreak) → (line_break_number a == line_break_number b) ≡ true → a ≡ b
same_class a b e = sym (line_break_from_number-line_break_number a) ∙ ap line_break_from_number (eqb-true _ _ e)
    ∙ line_break_from_number-line_break_number b

ascii-tests : (c : ℕ) → c < 128 → (is_settled (line_break c)
    && (line_break_number (line_break c) == line_break_number (slice_index_or CLASSES c Ambiguous))) ≡ true
unfolding ucd_breaks
ascii-tests c below = Stepped-below line_break line_break_stepped (λ x v. is_settled v
    && (line_break_number v == line_break_number (slice_index_or CLASSES x Ambiguous))) 128 refl c below

ascii-class : (c : ℕ) → c < 128 → resolved c (line_break c) ≡ slice_index_or CLASSES c Ambiguous
ascii-class c below =
    let h = and_parts (is_settled (line_break c))
    (line_break_number (line_break c) == line_break_number (slice_index_or CLASSES c Ambiguous))
    (ascii-tests c below) in
    settled-is c (line_break c) h.0 ∙ same_class _ _ h.1

not_true : (b : Bool) → not b ≡ true → b ≡ false
not_true true h = absurd (cc)
not_true false h = refl

ascii-narrow : (c : ℕ) → c < 128 → is_wide (east_asian_width c) ≡ false
unfolding ucd_east_asian
ascii-narrow c below = not_true _ (Stepped-below east_asian_width east_asian_width_stepped (λ x v. not (is_wide v)) 128
    refl c below)

ascii-known : (c : ℕ) → c < 128 → is_extended_pictographic c ≡ false
unfolding ucd_emoji
ascii-known c below = not_true _ (Stepped-below is_extended_pictographic is_extended_pictographic_stepped
    (λ x v. not v) 128 refl c below)

and-false : (b : Bool) → (b && false) ≡ false
and-false true = refl
and-false false = refl

pub ascii-is : (c : ℕ) → c < 128 → character_of c ≡ ascii_character c
ascii-is c below =
    ap₂ (λ (k : LineBreak) (w : Bool). record {
      class = k;
      is_wide = w;
      is_future_emoji = is_unassigned (general_category c) && is_extended_pictographic c;
    }) (ascii-class c below) (ascii-narrow c below)
    ∙ ap (λ (p : Bool). record {
      class = slice_index_or CLASSES c Ambiguous;
      is_wide = false;
      is_future_emoji = is_unassigned (general_category c) && p;
    }) (ascii-known c below)
    ∙ ap (λ (p : Bool). record { class = slice_index_or CLASSES c Ambiguous; is_wide = false; is_future_emoji = p })
    (and-false (is_unassigned (general_category c)))

-- the class of each is what its property says
pub ascii-property : (c : ℕ) → c < 128 → character_of c
    ≡ record { class = line_break c; is_wide = false; is_future_emoji = false }
ascii-property c below =
    let h = and_parts (is_settled (line_break c))
    (line_break_number (line_break c) == line_break_number (slice_index_or CLASSES c Ambiguous))
    (ascii-tests c below) in
    ascii-is c below ∙ ap (λ (k : LineBreak). record { class = k; is_wide = false; is_future_emoji = false })
    (sym (same_class _ _ h.1))

-- ---- letters and the space

pub alphabetic_is : (k : LineBreak) → is_alphabetic k ≡ true → k ≡ Alphabetic
alphabetic_is Alphabetic h = refl
alphabetic_is k h = absurd (cc)

letter-test : (c : ℕ) → c < 128 → (not (is_ascii_alphabetic c) || is_alphabetic (line_break c)) ≡ true
unfolding ucd_breaks
letter-test c below = Stepped-below line_break line_break_stepped
    (λ x v. not (is_ascii_alphabetic x) || is_alphabetic v) 128 refl c below

letter-below : (c : ℕ) → is_ascii_alphabetic c ≡ true → c < 128
letter-below c h = grind (arith, nat_tests)

pub letter-is : (c : ℕ) → is_ascii_alphabetic c ≡ true → character_of c ≡ lone_mark
letter-is c h =
    let below = letter-below c h in
    let class : line_break c ≡ Alphabetic = alphabetic_is (line_break c)
    (ap (λ b. not b || is_alphabetic (line_break c)) (sym h) ∙ letter-test c below) in
    ap₂ (λ (k : LineBreak) (w : Bool). record {
      class = resolved c k;
      is_wide = w;
      is_future_emoji = is_unassigned (general_category c) && is_extended_pictographic c;
    }) class (ascii-narrow c below)
    ∙ ap (λ (p : Bool). record {
      class = Alphabetic;
      is_wide = false;
      is_future_emoji = is_unassigned (general_category c) && p;
    }) (ascii-known c below)
    ∙ ap (λ (p : Bool). record { class = Alphabetic; is_wide = false; is_future_emoji = p })
    (and-false (is_unassigned (general_category c)))

abbrev pub space_character : Character
space_character = record { class = Space; is_wide = false; is_future_emoji = false }

pub space-is : character_of 32 ≡ space_character
space-is = ascii-is 32 (omega arith)
