-- An even number of regional indicators before another one parts a text: its width is that of what ends with them and
-- that of what begins
-- with the other one.
use Rattle.std.proofs.Common.{ℕ, ◌+◌, ◌-◌, ◌<◌, ◌≡◌, Bool, true, false, not, ◌&&◌, ◌⊎◌, List, []}
use Rattle.std.proofs.Common.{◌∷◌, ◌++◌, length, refl, sym, ap, subst, ◌∙◌, append_assoc}
use Rattle.std.proofs.Common.{append-nil, arith, inl, inr}
use Rattle.std.specs.Prelude.{chars}
use Rattle.std.proofs.lemmas.Bool.{true≢false, and_parts, not-true}
use Rattle.miette_lines.proofs.Cases.{by_cases}
use Rattle.unicode_width.specs.declared.state.After.TheVariants as afters
use Rattle.unicode_width.specs.declared.state.State.{State}
use Rattle.unicode_width.specs.Width.{before, plain, is_indicator}
use Rattle.unicode_width.specs.Width.{joins, Reading}
use Rattle.unicode_width.specs.Width.{past_selectors, in_context, past_emoji, step, read_before, str_width}
use Rattle.miette_columns.specs.declared.overlap.Overlap.{Overlap}
use Rattle.miette_columns.specs.declared.overlap.Overlap.TheVariants.{Nothing, One, Selected}
use Rattle.miette_columns.specs.steps.SplitPoints.{may_split_flags}
use Rattle.miette_columns.specs.steps.Checkpoints.{overlap_text, IsHeld}
use Rattle.miette_columns.proofs.Lone.{read_append, shifted}
use Rattle.miette_columns.proofs.Indicators.{Waves, step_waves, after_nothing, after_one, after_more, after_joined}
use Rattle.miette_columns.proofs.Indicators.{after_even, after_odd}

-- what two or more indicators leave
abbrev IsFlags : State → Type 0
IsFlags s = (s ≡ before afters.RegionalIndicators) ⊎ ((s ≡ before afters.EvenIndicatorsZwj)
    ⊎ (s ≡ before afters.OddIndicatorsZwj))

-- two columns more, and such a state
abbrev IsPair : ℕ → Reading → Type 0
IsPair t r = (r.0 ≡ t + 2) × IsFlags r.1

pair_from : (a b : ℕ) (t u : ℕ) (s m e : State) → step false b (t, s) ≡ (u, m) → step false a (u, m) ≡ (t + 2, e)
    → IsFlags e → IsPair t (step false a (step false b (t, s)))
pair_from a b t u s m e h k f =
    let both : step false a (step false b (t, s)) ≡ (t + 2, e) = ap (step false a) h ∙ k in
    (ap (λ r. r.0) both, subst IsFlags (sym (ap (λ r. r.1) both)) f)

pair_read : (a b : ℕ) (t : ℕ) (s : State) → is_indicator a ≡ true → is_indicator b ≡ true → Waves (t, s)
    → IsPair t (step false a (step false b (t, s)))
pair_read a b t s ha hb (inl e) =
    pair_from a b t (t + 1) s (before afters.RegionalIndicators) (before afters.RegionalIndicators)
    (ap (λ x. step false b (t, x)) e ∙ after_one b t hb)
    (after_more a (t + 1) ha ∙ ap (λ n. (n, before afters.RegionalIndicators)) (omega arith)) (inl refl)
pair_read a b t s ha hb (inr (inl e)) =
    pair_from a b t (t + 1) s (before afters.RegionalIndicators) (before afters.RegionalIndicators)
    (ap (λ x. step false b (t, x)) e ∙ after_more b t hb)
    (after_more a (t + 1) ha ∙ ap (λ n. (n, before afters.RegionalIndicators)) (omega arith)) (inl refl)
pair_read a b t s ha hb (inr (inr (inl e))) =
    pair_from a b t (t + 3) s (before afters.OddIndicatorsZwj) (before afters.EvenIndicatorsZwj)
    (ap (λ x. step false b (t, x)) e ∙ after_even b t hb)
    (after_odd a (t + 3) ha ∙ ap (λ n. (n, before afters.EvenIndicatorsZwj)) (omega arith)) (inr (inl refl))
pair_read a b t s ha hb (inr (inr (inr (some, inl e)))) =
    pair_from a b t (t - 1) s (before afters.EvenIndicatorsZwj) (before afters.OddIndicatorsZwj)
    (ap (λ x. step false b (t, x)) e ∙ after_joined b t hb)
    (after_even a (t - 1) ha ∙ ap (λ n. (n, before afters.OddIndicatorsZwj)) (omega (arith, some))) (inr (inr refl))
pair_read a b t s ha hb (inr (inr (inr (some, inr e)))) =
    pair_from a b t (t - 1) s (before afters.EvenIndicatorsZwj) (before afters.OddIndicatorsZwj)
    (ap (λ x. step false b (t, x)) e ∙ after_odd b t hb)
    (after_even a (t - 1) ha ∙ ap (λ n. (n, before afters.OddIndicatorsZwj)) (omega (arith, some))) (inr (inr refl))

-- ---- an even number of them

abbrev pub AreIndicators : List ℕ → Type 0
AreIndicators [] = Unit {0}
AreIndicators (c ∷ cs) = (is_indicator c ≡ true) × AreIndicators cs

abbrev pub is_odd : List ℕ → Bool
is_odd [] = false
is_odd (c ∷ cs) = not (is_odd cs)

not_not : (b : Bool) → not (not b) ≡ b
not_not true = refl
not_not false = refl

read_waves : (flags : List ℕ) (r : Reading) → AreIndicators flags → Waves r → Waves (read_before false flags r)
read_waves [] r h w = w
read_waves (c ∷ cs) r h w = step_waves c (read_before false cs r) h.0

read_width : (flags : List ℕ) (r : Reading) → AreIndicators flags → is_odd flags ≡ false → Waves r
    → (read_before false flags r).0 ≡ r.0 + length flags
read_width [] r h even w = omega arith
read_width (a ∷ []) r h even w = absurd (true≢false even)
read_width (a ∷ b ∷ cs) r h even w =
    let before_pair = read_before false cs r in
    let pair = pair_read a b before_pair.0 before_pair.1 h.0 h.1.0 (read_waves cs r h.1.1 w) in
    let rest = read_width cs r h.1.1 (sym (not_not (is_odd cs)) ∙ even) w in
    omega (arith, pair.0, rest)

read_flags : (flags : List ℕ) (r : Reading) → AreIndicators flags → is_odd flags ≡ false → 0 < length flags → Waves r
    → IsFlags (read_before false flags r).1
read_flags [] r h even some w = absurd (omega arith)
read_flags (a ∷ []) r h even some w = absurd (true≢false even)
read_flags (a ∷ b ∷ cs) r h even some w =
    let before_pair = read_before false cs r in
    (pair_read a b before_pair.0 before_pair.1 h.0 h.1.0 (read_waves cs r h.1.1 w)).1

read_alone : (flags : List ℕ) (n : ℕ) → AreIndicators flags → is_odd flags ≡ false → 0 < length flags
    → read_before false flags (n, plain) ≡ (n + length flags, before afters.RegionalIndicators)
read_alone [] n h even some = absurd (omega arith)
read_alone (a ∷ []) n h even some = absurd (true≢false even)
read_alone (a ∷ b ∷ []) n h even some =
    ap (step false a) (after_nothing b n h.1.0) ∙ after_one a (n + 1) h.0
    ∙ ap (λ k. (k, before afters.RegionalIndicators)) (omega arith)
read_alone (a ∷ b ∷ c ∷ cs) n h even some =
    let k = n + length (c ∷ cs) in
    ap (λ r. step false a (step false b r)) (read_alone (c ∷ cs) n h.1.1 (sym (not_not (is_odd (c ∷ cs))) ∙ even)
    (omega arith))
    ∙ ap (step false a) (after_more b k h.1.0) ∙ after_more a (k + 1) h.0
    ∙ ap (λ m. (m, before afters.RegionalIndicators)) (omega arith)

-- ---- another character reads them all alike

same_even : (x t : ℕ) → is_indicator x ≡ false → step false x (t, before afters.EvenIndicatorsZwj)
    ≡ step false x (t, before afters.RegionalIndicators)
unfolding step past_emoji in_context past_selectors joins
same_even x t n = rw n refl

same_odd : (x t : ℕ) → is_indicator x ≡ false → step false x (t, before afters.OddIndicatorsZwj)
    ≡ step false x (t, before afters.RegionalIndicators)
unfolding step past_emoji in_context past_selectors joins
same_odd x t n = rw n refl

read_alike : (x t : ℕ) (s : State) → is_indicator x ≡ false → IsFlags s → step false x (t, s)
    ≡ step false x (t, before afters.RegionalIndicators)
read_alike x t s n (inl e) = ap (λ y. step false x (t, y)) e
read_alike x t s n (inr (inl e)) = ap (λ y. step false x (t, y)) e ∙ same_even x t n
read_alike x t s n (inr (inr e)) = ap (λ y. step false x (t, y)) e ∙ same_odd x t n

-- a text that ends with another character
pub record EndsOtherwise (xs : List ℕ) : Type 0 where
  pub front : List ℕ
  pub last : ℕ
  pub is : xs ≡ front ++ last ∷ []
  pub other : is_indicator last ≡ false

abbrev pub IsFree : List ℕ → Type 0
IsFree xs = (xs ≡ []) ⊎ EndsOtherwise xs

alike : (xs : List ℕ) (t : ℕ) (s : State) → IsFree xs → IsFlags s → (read_before false xs (t, s)).0
    ≡ (read_before false xs (t, before afters.RegionalIndicators)).0
alike xs t s (inl e) f = ap (λ zs. (read_before false zs (t, s)).0) e
    ∙ sym (ap (λ zs. (read_before false zs (t, before afters.RegionalIndicators)).0) e)
alike xs t s (inr o) f =
    ap (λ zs. (read_before false zs (t, s)).0) o.is ∙ ap (λ r. r.0) (read_append o.front (o.last ∷ []) (t, s))
    ∙ ap (λ r. (read_before false o.front r).0) (read_alike o.last t s o.other f)
    ∙ sym (ap (λ r. r.0) (read_append o.front (o.last ∷ []) (t, before afters.RegionalIndicators)))
    ∙ sym (ap (λ zs. (read_before false zs (t, before afters.RegionalIndicators)).0) o.is)

pub flags_parted : (xs flags ys : List ℕ) (d : ℕ) → IsFree xs → AreIndicators flags → is_odd flags ≡ false → 0
    < length flags → is_indicator d ≡ true →
    str_width false ((xs ++ flags) ++ d ∷ ys) ≡ str_width false (xs ++ flags) + str_width false (d ∷ ys)
unfolding str_width
flags_parted xs flags ys d free all even some h =
    let r = read_before false (d ∷ ys) (0, plain) in
    let w : Waves r = step_waves d (read_before false ys (0, plain)) h in
    let q = read_before false flags r in
    let wide : q.0 ≡ r.0 + length flags = read_width flags r all even w in
    ap (λ x. x.0) (read_append (xs ++ flags) (d ∷ ys) (0, plain)) ∙ ap (λ x. x.0) (read_append xs flags r)
    ∙ alike xs q.0 q.1 free (read_flags flags r all even some w)
    ∙ ap (λ n. (read_before false xs (n, before afters.RegionalIndicators)).0) wide
    ∙ ap (λ x. (read_before false xs x).0) (sym (read_alone flags r.0 all even some))
    ∙ ap (λ x. x.0) (sym (read_append xs flags (r.0, plain)))
    ∙ shifted (xs ++ flags) r.0

-- ---- how a text ends, character by character

-- a text that ends with indicators, an odd number of them where this is said
pub record EndsInFlags (text : List ℕ) (last : ℕ) (is_half : Bool) : Type 0 where
  pub front : List ℕ
  pub flags : List ℕ
  pub is : chars text ≡ front ++ flags
  pub free : IsFree front
  pub all : AreIndicators flags
  pub half : is_odd flags ≡ is_half
  pub some : is_indicator last ≡ true → 0 < length flags

free_held : (first : Overlap) → IsHeld first → IsFree (overlap_text first)
free_held Nothing h = inl refl
free_held (One c) h = inr (record { front = []; last = c; is = refl; other = h })
free_held (Selected c) h = inr (record { front = c ∷ []; last = 0xFE0F; is = refl; other = refl })

pub no_flags : (text : List ℕ) (last : ℕ) (first : Overlap) → chars text ≡ overlap_text first → IsHeld first
    → is_indicator last ≡ false → EndsInFlags text last false
no_flags text last first e h n = record {
  front = overlap_text first;
  flags = [];
  is = e ∙ sym (append-nil (overlap_text first));
  free = free_held first h;
  all = tt;
  half = refl;
  some = λ y. absurd (true≢false (sym y ∙ n));
}

odd_more : (flags : List ℕ) (c : ℕ) → is_odd (flags ++ c ∷ []) ≡ not (is_odd flags)
odd_more [] c = refl
odd_more (f ∷ fs) c = ap not (odd_more fs c)

all_more : (flags : List ℕ) (c : ℕ) → AreIndicators flags → is_indicator c ≡ true → AreIndicators (flags ++ c ∷ [])
all_more [] c all h = (h, tt)
all_more (f ∷ fs) c all h = (all.0, all_more fs c all.1 h)

length_more : (flags : List ℕ) (c : ℕ) → 0 < length (flags ++ c ∷ [])
length_more [] c = omega arith
length_more (f ∷ fs) c = omega arith

pub flags_pushed : (old new : List ℕ) (last code : ℕ) (half later : Bool) → EndsInFlags old last half → chars new
    ≡ chars old ++ code ∷ [] → later ≡ (is_indicator code && not half) → EndsInFlags new code later
flags_pushed old new last code half later h e l =
    by_cases {C = EndsInFlags new code later} (is_indicator code)
    (λ y. record {
      front = h.front;
      flags = h.flags ++ code ∷ [];
      is = e ∙ ap (λ cs. cs ++ code ∷ []) h.is ∙ append_assoc h.front h.flags (code ∷ []);
      free = h.free;
      all = all_more h.flags code h.all y;
      half = odd_more h.flags code ∙ ap not h.half ∙ sym (l ∙ ap (λ b. b && not half) y);
      some = λ z. length_more h.flags code;
    })
    (λ n. record {
      front = (h.front ++ h.flags) ++ code ∷ [];
      flags = [];
      is = e ∙ ap (λ cs. cs ++ code ∷ []) h.is ∙ sym (append-nil ((h.front ++ h.flags) ++ code ∷ []));
      free = inr (record { front = h.front ++ h.flags; last = code; is = refl; other = n });
      all = tt;
      half = sym (l ∙ ap (λ b. b && not half) n);
      some = λ y. absurd (true≢false (sym y ∙ n));
    })

-- so it may be parted before an indicator
pub flags_part : (text : List ℕ) (last code : ℕ) (half : Bool) → EndsInFlags text last half
    → may_split_flags last half code ≡ true → (later : List ℕ) →
    str_width false (chars text ++ code ∷ later) ≡ str_width false (chars text) + str_width false (code ∷ later)
flags_part text last code half h part later =
    let both = and_parts (not half) (is_indicator last && is_indicator code) part in
    let ends = and_parts (is_indicator last) (is_indicator code) both.1 in
    ap (λ cs. str_width false (cs ++ code ∷ later)) h.is
    ∙ flags_parted h.front h.flags later code h.free h.all (h.half ∙ not-true half both.0) (h.some ends.0) ends.1
    ∙ ap (λ cs. str_width false cs + str_width false (code ∷ later)) (sym h.is)
