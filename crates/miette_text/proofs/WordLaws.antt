-- Where no word begins, by the rules of Unicode.
use Rattle.std.proofs.Common.{◌≡◌, ℕ, Bool, true, false, not, ◌&&◌, ◌||◌, List, [], ◌∷◌, refl, sym, ap, ap₂, ◌∙◌}
use Rattle.std.proofs.Common.{if◌then◌else◌, Option, Some, None}
use Rattle.std.specs.Option.{is_some}
use Rattle.ucd_breaks.specs.declared.LineBreak.{LineBreak}
use Rattle.ucd_breaks.specs.declared.LineBreak.TheVariants.{BreakSymbols, CloseParenthesis, ClosePunctuation}
use Rattle.ucd_breaks.specs.declared.LineBreak.TheVariants.{Exclamation, InfixNumeric, OpenPunctuation}
use Rattle.ucd_breaks.specs.declared.LineBreak.TheVariants.{RegionalIndicator, Space}
use Rattle.miette_line_breaks.specs.declared.characters.Character.{Character}
use Rattle.miette_line_breaks.specs.declared.opportunity.BreakOpportunity.{BreakOpportunity}
use Rattle.miette_line_breaks.specs.declared.opportunity.BreakOpportunity.TheVariants.{Allowed, Mandatory}
use Rattle.miette_line_breaks.specs.rules.Characters.{character_of, lone_mark}
use Rattle.miette_line_breaks.specs.rules.Classes.{is_bracket_end, is_carriage_return, is_closing, is_dash, is_hard}
use Rattle.miette_line_breaks.specs.rules.Classes.{is_line_feed, is_mark, is_nonstarter, is_opening, is_quotation}
use Rattle.miette_line_breaks.specs.rules.Classes.{is_regional, is_space_class, is_word_joiner, is_zero_width_space}
use Rattle.miette_line_breaks.specs.rules.Rules.{bases, between, ends_in_half_flag, ends_joined, keeps, keeps_beside}
use Rattle.miette_line_breaks.specs.rules.Rules.{break_before, nearest_is, past_spaces, takes_marks}
use Rattle.miette_text.specs.declared.options.WordSeparator.TheVariants.{UnicodeBreakProperties}
use Rattle.miette_text.specs.rules.Wrapping.{is_hyphen, starts_word}

-- ---- what is decided between two characters

abbrev chosen : Bool → Bool → Bool → Bool → Bool → Bool → Option BreakOpportunity
chosen feed hard none past joined kept =
    if feed then None
    else if hard then Some Mandatory
    else if none then None
    else if past then Some Allowed
    else if joined then None
    else if kept then None else Some Allowed

none-chosen : (feed hard none past joined kept : Bool) → hard ≡ false → past ≡ false → (joined || kept) ≡ true →
    is_some (chosen feed hard none past joined kept) ≡ false
none-chosen true hard none past joined kept a b e = refl
none-chosen false true none past joined kept a b e = absurd (cc)
none-chosen false false true past joined kept a b e = refl
none-chosen false false false true joined kept a b e = absurd (cc)
none-chosen false false false false true kept a b e = refl
none-chosen false false false false false true a b e = refl
none-chosen false false false false false false a b e = absurd (cc)

or-right : (a b : Bool) → b ≡ true → (a || b) ≡ true
or-right true b e = refl
or-right false b e = e

or-left : (a b : Bool) → a ≡ true → (a || b) ≡ true
or-left true b e = refl
or-left false b e = absurd (cc)

-- what a mark counts as that belongs to none
abbrev base_of : Character → Character
base_of x = if is_mark x.class then lone_mark else x

none-between : (bs : List Character) (joined : Bool) (x : Character) → nearest_is is_hard bs ≡ false →
    nearest_is is_zero_width_space (past_spaces bs) ≡ false →
    ((joined || (is_mark x.class && nearest_is takes_marks bs)) || keeps bs (base_of x)) ≡ true →
    is_some (between bs joined x) ≡ false
none-between bs joined x a b e = none-chosen (nearest_is is_carriage_return bs && is_line_feed x.class)
    (nearest_is is_hard bs) (is_hard x.class || is_space_class x.class || is_zero_width_space x.class)
    (nearest_is is_zero_width_space (past_spaces bs)) (joined || (is_mark x.class && nearest_is takes_marks bs))
    (keeps bs (base_of x)) a b e

-- where no line is broken no word begins
no-word : (b : ℕ) (before : List ℕ) (c : ℕ) → is_some (break_before (b ∷ before) c) ≡ false →
    starts_word UnicodeBreakProperties (b ∷ before) c ≡ false
no-word b before c e = ap (λ v. not (is_hyphen b) && v) e
    ∙ elim (is_hyphen b) as (λ v. (not v && false) ≡ false) [ true ↦ refl | false ↦ refl ]

none-before : (b : ℕ) (before : List ℕ) (c : ℕ) → nearest_is is_hard (bases (b ∷ before)) ≡ false →
    nearest_is is_zero_width_space (past_spaces (bases (b ∷ before))) ≡ false →
    ((ends_joined (b ∷ before) || (is_mark (character_of c).class && nearest_is takes_marks (bases (b ∷ before))))
    || keeps (bases (b ∷ before)) (base_of (character_of c))) ≡ true →
    starts_word UnicodeBreakProperties (b ∷ before) c ≡ false
none-before b before c h z e =
    no-word b before c (none-between (bases (b ∷ before)) (ends_joined (b ∷ before)) (character_of c) h z e)

-- ---- marks

no_gap : (a b c : Bool) → not (a || b || c) ≡ true → (a ≡ false) × (b ≡ false) × (c ≡ false)
no_gap true b c e = absurd (cc)
no_gap false true c e = absurd (cc)
no_gap false false true e = absurd (cc)
no_gap false false false e = (refl, refl, refl)

takes-near : (b : ℕ) (before : List ℕ) → takes_marks (character_of b).class ≡ true →
    nearest_is takes_marks (bases (b ∷ before)) ≡ true
takes-near b before h =
    elim (is_mark (character_of b).class) as (λ m. nearest_is takes_marks
    (if m then if nearest_is takes_marks (bases before) then bases before else lone_mark ∷ bases before
    else character_of b ∷ bases before) ≡ true) [
      | true ↦ elim (nearest_is takes_marks (bases before)) as (λ v. nearest_is takes_marks (bases before) ≡ v →
          nearest_is takes_marks (if v then bases before else lone_mark ∷ bases before) ≡ true) [
            | true ↦ λ e. e
            | false ↦ λ e. refl
          ] refl
      | false ↦ h
    ]

record NoGap (bs : List Character) : Type 0 where
  pub hard : nearest_is is_hard bs ≡ false
  pub past : nearest_is is_zero_width_space (past_spaces bs) ≡ false

past-none : (b : Character) (bs : List Character) → is_space_class b.class ≡ false →
    nearest_is is_zero_width_space (past_spaces (b ∷ bs)) ≡ is_zero_width_space b.class
past-none b bs e = ap (λ (v : Bool). nearest_is is_zero_width_space (if v then past_spaces bs else b ∷ bs)) e

near-gap : (bs : List Character) → nearest_is takes_marks bs ≡ true → NoGap bs
near-gap [] h = absurd (cc)
near-gap (b ∷ bs) h =
    let g = no_gap (is_hard b.class) (is_space_class b.class) (is_zero_width_space b.class) h in record {
      hard = g.0;
      past = past-none b bs g.1 ∙ g.2;
    }

pub no-mark : (before : List ℕ) (b c : ℕ) → is_mark (character_of c).class ≡ true → takes_marks (character_of b).class
    ≡ true → starts_word UnicodeBreakProperties (b ∷ before) c ≡ false
no-mark before b c m h =
    let near = takes-near b before h in
    let gap = near-gap (bases (b ∷ before)) near in
    let joins : (is_mark (character_of c).class && nearest_is takes_marks (bases (b ∷ before))) ≡ true =
    ap₂ (λ u v. u && v) m near in
    none-before b before c gap.hard gap.past (or-left
    (ends_joined (b ∷ before) || (is_mark (character_of c).class && nearest_is takes_marks (bases (b ∷ before))))
    (keeps (bases (b ∷ before)) (base_of (character_of c)))
    (or-right (ends_joined (b ∷ before)) (is_mark (character_of c).class
    && nearest_is takes_marks (bases (b ∷ before))) joins))

-- ---- closing marks, and what is after opening brackets

second : (a b c d e f g : Bool) → b ≡ true → (a || b || c || d || e || f || g) ≡ true
second true b c d e f g h = refl
second false true c d e f g h = refl
second false false c d e f g h = absurd (cc)

third : (a b c d e f g : Bool) → c ≡ true → (a || b || c || d || e || f || g) ≡ true
third true b c d e f g h = refl
third false true c d e f g h = refl
third false false true d e f g h = refl
third false false false d e f g h = absurd (cc)

last : (a b c d e f g : Bool) → g ≡ true → (a || b || c || d || e || f || g) ≡ true
last true b c d e f g h = refl
last false true c d e f g h = refl
last false false true d e f g h = refl
last false false false true e f g h = refl
last false false false false true f g h = refl
last false false false false false true g h = refl
last false false false false false false g h = h

closing-mark : (k : LineBreak) → is_closing k ≡ true → is_mark k ≡ false
closing-mark ClosePunctuation h = refl
closing-mark CloseParenthesis h = refl
closing-mark Exclamation h = refl
closing-mark InfixNumeric h = refl
closing-mark BreakSymbols h = refl
closing-mark k h = absurd (cc)

closing-keeps : (bs : List Character) (x : Character) → is_closing x.class ≡ true → keeps bs (base_of x) ≡ true
closing-keeps bs x h =
    ap (λ (m : Bool). keeps bs (if m then lone_mark else x)) (closing-mark x.class h)
    ∙ second (is_word_joiner x.class) (is_closing x.class) (nearest_is is_opening (past_spaces bs))
    (nearest_is is_quotation (past_spaces bs) && is_opening x.class)
    (nearest_is is_bracket_end (past_spaces bs) && is_nonstarter x.class)
    (nearest_is is_dash (past_spaces bs) && is_dash x.class) (keeps_beside bs x) h

pub no-closing : (before : List ℕ) (b c : ℕ) → is_closing (character_of c).class ≡ true →
    nearest_is is_hard (bases (b ∷ before)) ≡ false →
    nearest_is is_zero_width_space (past_spaces (bases (b ∷ before))) ≡ false →
    starts_word UnicodeBreakProperties (b ∷ before) c ≡ false
no-closing before b c k h z = none-before b before c h z (or-right
    (ends_joined (b ∷ before) || (is_mark (character_of c).class && nearest_is takes_marks (bases (b ∷ before))))
    (keeps (bases (b ∷ before)) (base_of (character_of c)))
    (closing-keeps (bases (b ∷ before)) (character_of c) k))

opening-gap : (k : LineBreak) → is_opening k ≡ true → (is_hard k ≡ false) × (is_zero_width_space k ≡ false)
opening-gap OpenPunctuation h = (refl, refl)
opening-gap k h = absurd (cc)

space-hard : (k : LineBreak) → is_space_class k ≡ true → is_hard k ≡ false
space-hard Space h = refl
space-hard k h = absurd (cc)

opened : (bs : List Character) → nearest_is is_opening (past_spaces bs) ≡ true → NoGap bs
opened [] h = absurd (cc)
opened (b ∷ bs) h = elim (is_space_class b.class) as (λ v. is_space_class b.class ≡ v →
    nearest_is is_opening (if v then past_spaces bs else b ∷ bs) ≡ true → NoGap (b ∷ bs)) [
      | true ↦ λ e g. record {
        hard = space-hard b.class e;
        past = ap (λ (v : Bool). nearest_is is_zero_width_space (if v then past_spaces bs else b ∷ bs)) e
            ∙ (opened bs g).past;
      }
      | false ↦ λ e g. record {
        hard = (opening-gap b.class g).0;
        past = past-none b bs e ∙ (opening-gap b.class g).1;
      }
    ] refl h

pub no-inner : (before : List ℕ) (b c : ℕ) → nearest_is is_opening (past_spaces (bases (b ∷ before))) ≡ true →
    starts_word UnicodeBreakProperties (b ∷ before) c ≡ false
no-inner before b c h =
    let bs = bases (b ∷ before) in
    let r = base_of (character_of c) in
    let gap = opened bs h in
    none-before b before c gap.hard gap.past (or-right
    (ends_joined (b ∷ before) || (is_mark (character_of c).class && nearest_is takes_marks bs))
    (keeps bs r)
    (third (is_word_joiner r.class) (is_closing r.class) (nearest_is is_opening (past_spaces bs))
    (nearest_is is_quotation (past_spaces bs) && is_opening r.class)
    (nearest_is is_bracket_end (past_spaces bs) && is_nonstarter r.class)
    (nearest_is is_dash (past_spaces bs) && is_dash r.class) (keeps_beside bs r) h))

-- ---- flags

regional_is : (k : LineBreak) → is_regional k ≡ true → k ≡ RegionalIndicator
regional_is RegionalIndicator h = refl
regional_is k h = absurd (cc)

abbrev of_class : LineBreak → Character → Character
of_class k x = record { class = k; is_wide = x.is_wide; is_future_emoji = x.is_future_emoji }

flag-beside : (l r : Character) (bs : List Character) → ends_in_half_flag (of_class RegionalIndicator l ∷ bs) ≡ true →
    keeps_beside (of_class RegionalIndicator l ∷ bs) (of_class RegionalIndicator r) ≡ true
flag-beside l r bs h = elim l.is_future_emoji as (λ f. keeps_beside (record
    { class = RegionalIndicator; is_wide = l.is_wide; is_future_emoji = f } ∷ bs) (of_class RegionalIndicator r)
    ≡ true) [
      | true ↦ ap (λ v. v && true) h
      | false ↦ ap (λ v. v && true) h
    ]

flag-keeps : (l r : Character) (bs : List Character) → is_regional l.class ≡ true → is_regional r.class ≡ true →
    ends_in_half_flag (l ∷ bs) ≡ true → keeps_beside (l ∷ bs) r ≡ true
flag-keeps l r bs a b h =
    let e = regional_is l.class a in
    let f = regional_is r.class b in
    ap₂ (λ k m. keeps_beside (of_class k l ∷ bs) (of_class m r)) e f
    ∙ flag-beside l r bs (ap (λ k. ends_in_half_flag (of_class k l ∷ bs)) (sym e) ∙ h)

regional-gap : (k : LineBreak) → is_regional k ≡ true → (is_mark k ≡ false) × (takes_marks k ≡ true)
regional-gap RegionalIndicator h = (refl, refl)
regional-gap k h = absurd (cc)

pub no-half : (before : List ℕ) (b c : ℕ) → is_regional (character_of b).class ≡ true →
    is_regional (character_of c).class ≡ true → ends_in_half_flag (bases (b ∷ before)) ≡ true →
    starts_word UnicodeBreakProperties (b ∷ before) c ≡ false
no-half before b c p q h =
    let x = character_of c in
    let g = regional-gap (character_of b).class p in
    let bs = bases (b ∷ before) in
    let all : bs ≡ character_of b ∷ bases before =
    ap (λ (m : Bool). if m then if nearest_is takes_marks (bases before) then bases before
    else lone_mark ∷ bases before else character_of b ∷ bases before) g.0 in
    let gap = near-gap bs (takes-near b before g.1) in
    let beside : keeps_beside bs x ≡ true = ap (λ us. keeps_beside us x) all
    ∙ flag-keeps (character_of b) x (bases before) p q (ap ends_in_half_flag (sym all) ∙ h) in
    let kept : keeps bs (base_of x) ≡ true =
    ap (λ (m : Bool). keeps bs (if m then lone_mark else x)) (regional-gap x.class q).0
    ∙ last (is_word_joiner x.class) (is_closing x.class) (nearest_is is_opening (past_spaces bs))
    (nearest_is is_quotation (past_spaces bs) && is_opening x.class)
    (nearest_is is_bracket_end (past_spaces bs) && is_nonstarter x.class)
    (nearest_is is_dash (past_spaces bs) && is_dash x.class) (keeps_beside bs x) beside in
    none-before b before c gap.hard gap.past (or-right
    (ends_joined (b ∷ before) || (is_mark x.class && nearest_is takes_marks bs)) (keeps bs (base_of x)) kept)
