-- Labels of one list never clash.
use Rattle.std.proofs.Common.{◌≡◌, ◌⊎◌, ℕ, zero, suc, ◌+◌, ◌-◌, ◌<◌, ◌≤◌, List, [], ◌∷◌, ◌++◌, Option, Some}
use Rattle.std.proofs.Common.{Bool, true, false, arith, length, map, filter, refl, sym, ap, subst, ◌∙◌, inl, inr}
use Rattle.std.specs.Prelude.{⊤, ◌==◌, if◌then◌else◌}
use Rattle.std.specs.List.{AllByRecursion, list_any}
use Rattle.std.proofs.lemmas.Bool.{and_cases, and_from, and_parts, both_ways, eq-eqb, eqb-true, leb-false, leb-true}
use Rattle.std.proofs.lemmas.Bool.{ltb-false, not-true, or_parts}
use Rattle.std.proofs.lemmas.Option.{same_Some}
use Rattle.miette_protocol.specs.rules.Reading.{Source}
use Rattle.miette_protocol.specs.views.Meaning.{Label}
use Rattle.miette_read.specs.rules.Places.{ByteRange, Annotation, clash, is_within, on_one_line, shares_byte}
use Rattle.miette_read.specs.rules.SuggestedFixes.{Suggestion}
use Rattle.miette_read.specs.rules.Reports.{MessageParts, is_listed, label_of, labels_in, report_tree, sections_from}
use Rattle.miette_read.specs.rules.AnnotationLabels.{FileLabel, LabelLists, clashes_in_list, first_accepting}
use Rattle.miette_read.specs.rules.AnnotationLabels.{is_label_at, accepts_label, new_label}
use Rattle.miette_read.specs.rules.AnnotationLabels.{with_new_label, no_label_lists, label_lists, with_more_rows}
use Rattle.miette_read.proofs.Accepted.{AllFit, Fits, nth, settled_fits}
use Rattle.miette_read.proofs.ReportsRead.{either}
use Rattle.miette_tree.specs.rules.Tree.{trees}
use Rattle.miette_read.specs.laws.Apart.{AreApart, Covers, IsApart, IsApartList}
use Rattle.miette_read.specs.laws.Lists.{label_sections}
use Rattle.miette_read.proofs.Holding.{all_each, all_no}
use Rattle.miette_read.proofs.Made.{all_advice, all_fixes, lists_made}
use Rattle.miette_read.proofs.KeptSteps.{all_keep, retold}

-- ---- two labels

-- what two labels would share is in front of none of them
beside : (s t u k : ℕ) → t ≤ u → u ≤ s → t < s → s ≤ k → ((k ≡ t) ⊎ ((t ≤ k) × (k < t + (u - t)))) → ⊥
beside s t u k forth ends less from (inl e) = omega (arith, less, from, e)
beside s t u k forth ends less from (inr h) =
    let before : k < t + (u - t) = h.1 in omega (arith, forth, ends, from, before)

covers_from : (l : Label) (k : ℕ) → Covers l k → l.span.offset ≤ k
covers_from l k (inl e) = omega (arith, e)
covers_from l k (inr h) = h.0

module _ (a b : FileLabel) (a_forth : a.stretch.start ≤ a.stretch.end) (b_forth : b.stretch.start ≤ b.stretch.end) where
  nothing_shared : shares_byte a.stretch b.stretch ≡ false → (k : ℕ) → Covers (label_of a) k → Covers (label_of b) k
      → ⊥
  nothing_shared e k here there =
      let a_from = covers_from (label_of a) k here in
      let b_from = covers_from (label_of b) k there in
      elim (and_cases _ _ e) [
        | inl after ↦
            (let parts = or_parts _ _ after in
            beside a.stretch.start b.stretch.start b.stretch.end k b_forth
            (ltb-false a.stretch.start b.stretch.end parts.0) (leb-false a.stretch.start b.stretch.start parts.1)
            a_from there)
        | inr before ↦
            (let parts = or_parts _ _ before in
            beside b.stretch.start a.stretch.start a.stretch.end k a_forth
            (ltb-false b.stretch.start a.stretch.end parts.0) (leb-false b.stretch.start a.stretch.start parts.1)
            b_from here)
      ]

-- a label of a mark is over its bytes
one_line : (bytes : List ℕ) (s : ByteRange) → s.start ≤ s.end
    → on_one_line bytes (record { start = s.start; end = s.start + (s.end - s.start) }) ≡ true
    → on_one_line bytes s ≡ true
one_line bytes s forth h =
    let e : s.start + (s.end - s.start) ≡ s.end = omega (arith, forth) in
    subst (λ (i : ℕ). on_one_line bytes (record { start = s.start; end = i }) ≡ true) e h

within_forth : (bytes : List ℕ) (s : ByteRange) → is_within bytes s ≡ true → s.start ≤ s.end
within_forth bytes s h = leb-true s.start s.end (and_parts _ _ h).0

marks_apart : (bytes : List ℕ) (a b : FileLabel) → is_within bytes a.stretch ≡ true → is_within bytes b.stretch ≡ true
    → clash bytes a.stretch b.stretch ≡ false → IsApart bytes (label_of a) (label_of b)
marks_apart bytes a b a_in b_in e = λ a_line b_line k here there.
    (let a_forth = within_forth bytes a.stretch a_in in
    let b_forth = within_forth bytes b.stretch b_in in
    elim (and_cases (shares_byte a.stretch b.stretch) _ e) [
      | inl apart ↦ nothing_shared a b a_forth b_forth apart k here there
      | inr lines ↦
          both_ways _ lines
          (and_from _ _ (one_line bytes a.stretch a_forth a_line) (one_line bytes b.stretch b_forth b_line))
    ])

-- ---- labels that are settled

module _ (files : List ℕ → Option Source) where
  abbrev IsClear : FileLabel → FileLabel → Type 0
  IsClear m x =
      (s : Source) → files m.name ≡ Some s → files x.name ≡ Some s → m.list ≡ x.list
      → clash s.bytes m.stretch x.stretch ≡ false

  abbrev AreClear : List FileLabel → Type 0
  AreClear [] = ⊤
  AreClear (m ∷ ms) = AllByRecursion (IsClear m) ms × AreClear ms

  clear_next : (m : FileLabel) (ms : List FileLabel) (new : FileLabel) → AllByRecursion (IsClear m) ms → IsClear m new
      → AllByRecursion (IsClear m) (ms ++ new ∷ [])
  clear_next m [] new h c = (c, tt)
  clear_next m (x ∷ xs) new h c = (h.0, clear_next m xs new h.1 c)

  clear_more : (ms : List FileLabel) (new : FileLabel) → AreClear ms → AllByRecursion (λ m. IsClear m new) ms
      → AreClear (ms ++ new ∷ [])
  clear_more [] new h c = (tt, tt)
  clear_more (m ∷ ms) new h c = (clear_next m ms new h.0 c.0, clear_more ms new h.1 c.1)

  -- rows that a label gets leave it where it is
  again_both : (name : List ℕ) (s : ByteRange) (t : Annotation) (m x : FileLabel) → IsClear m x
      → IsClear (with_more_rows name s t m) (with_more_rows name s t x)
  again_both name s t m x c =
      either (λ (y : FileLabel). IsClear y (with_more_rows name s t x)) (is_label_at name s m) (retold t m) m
      (either (λ (y : FileLabel). IsClear (retold t m) y) (is_label_at name s x) (retold t x) x c c)
      (either (λ (y : FileLabel). IsClear m y) (is_label_at name s x) (retold t x) x c c)

  again_each : (name : List ℕ) (s : ByteRange) (t : Annotation) (m : FileLabel) (ms : List FileLabel)
      → AllByRecursion (IsClear m) ms
      → AllByRecursion (IsClear (with_more_rows name s t m)) (map (with_more_rows name s t) ms)
  again_each name s t m [] h = tt
  again_each name s t m (x ∷ xs) h = (again_both name s t m x h.0, again_each name s t m xs h.1)

  again_clear : (name : List ℕ) (s : ByteRange) (t : Annotation) (ms : List FileLabel) → AreClear ms
      → AreClear (map (with_more_rows name s t) ms)
  again_clear name s t [] h = tt
  again_clear name s t (m ∷ ms) h = (again_each name s t m ms h.0, again_clear name s t ms h.1)

-- ---- a new label

found_by : (opens : ℕ → Bool) (n left : ℕ) (b : Bool) → opens n ≡ b
    → ((n + 1) + left ≤ first_accepting opens (n + 1) left) ⊎ (opens (first_accepting opens (n + 1) left) ≡ true)
    → (n + suc left ≤ (if b then n else first_accepting opens (n + 1) left))
    ⊎ (opens (if b then n else first_accepting opens (n + 1) left) ≡ true)
found_by opens n left true e h = inr e
found_by opens n left false e (inl is) = inl (omega (arith, is))
found_by opens n left false e (inr is) = inr is

-- a number after all lists, or that of one that is open
found_list : (opens : ℕ → Bool) (n left : ℕ)
    → (n + left ≤ first_accepting opens n left) ⊎ (opens (first_accepting opens n left) ≡ true)
found_list opens n zero = inl (omega arith)
found_list opens n (suc left) = found_by opens n left (opens n) refl (found_list opens (n + 1) left)

within_lists : (ss : List Source) (n : ℕ) (s : Source) → nth ss n ≡ Some s → n < length ss
within_lists [] n s is = cc
within_lists (x ∷ xs) zero s is = omega arith
within_lists (x ∷ xs) (suc n) s is = let less = within_lists xs n s is in omega (arith, less)

module _ (files : List ℕ → Option Source) (name : List ℕ) (source : Source) (is : files name ≡ Some source)
    (ss : List Source) (s : ByteRange) (t : Annotation) (n : ℕ) where
  -- a list of its own
  clear_of_all : length ss ≤ n → (ms : List FileLabel) → AllFit files ss ms
      → AllByRecursion (λ m. IsClear files m (new_label (length ss) name s t n)) ms
  clear_of_all after [] is_in_scope = tt
  clear_of_all after (m ∷ ms) is_in_scope =
      let f = is_in_scope.0 in
      let less = within_lists ss m.list f.0 f.2 in
      ((λ x here there same. absurd (omega (arith, after, less, same))), clear_of_all after ms is_in_scope.1)

  clear_by : (m : FileLabel) → clashes_in_list source.bytes s n m ≡ false
      → IsClear files m (new_label (length ss) name s t n)
  clear_by m e = λ x here there same.
      (let it : source ≡ x = same_Some source x (sym is ∙ there) in
      elim (and_cases (m.list == n) _ e) [
        | inl other ↦ absurd (both_ways _ other (eq-eqb m.list n same))
        | inr apart ↦ subst (λ (y : Source). clash y.bytes m.stretch s ≡ false) it apart
      ])

  -- a list that it clashes with nothing of
  clear_of_each : (ms : List FileLabel) → list_any (clashes_in_list source.bytes s n) ms ≡ false
      → AllByRecursion (λ m. IsClear files m (new_label (length ss) name s t n)) ms
  clear_of_each ms e =
      all_each (λ m. clashes_in_list source.bytes s n m ≡ false) (λ m. IsClear files m
      (new_label (length ss) name s t n))
      clear_by ms (all_no (clashes_in_list source.bytes s n) ms e)

newly_clear : (files : List ℕ → Option Source) (done : LabelLists) (name : List ℕ) (source : Source) (s : ByteRange)
    (t : Annotation) → AllFit files done.files done.marks → files name ≡ Some source → AreClear files done.marks
    → AreClear files (with_new_label done name source s t).marks
newly_clear files done name source s t is_in_scope is h =
    let opens = accepts_label done.marks name source.bytes s t.own in
    let n = first_accepting opens 0 (length done.files) in
    let new = new_label (length done.files) name s t n in
    clear_more files done.marks new h (elim (found_list opens 0 (length done.files)) [
      | inl after ↦
          (let all : length done.files ≤ n = omega (arith, after) in
          clear_of_all files name source is done.files s t n all done.marks is_in_scope)
      | inr it ↦
          clear_of_each files name source is done.files s t n done.marks (not-true _ (and_parts _ _ it).1)
    ])

all_clear : (files : List ℕ → Option Source) (told : List Annotation) → AreClear files (label_lists files told).marks
all_clear files told =
    all_keep files (λ done. AreClear files done.marks) (λ done text h. h)
    (λ done name s t h. again_clear files name s t done.marks h) (newly_clear files) told no_label_lists tt tt

-- ---- the labels of a list

module _ (files : List ℕ → Option Source) (all : List Source) (source : Source) (n : ℕ) (is : nth all n ≡ Some source)
  where
    file_is : (m : FileLabel) → Fits files all m → m.list ≡ n
        → (files m.name ≡ Some source) × (is_within source.bytes m.stretch ≡ true)
    file_is m f e =
        let same : f.0 ≡ source =
        same_Some f.0 source (sym (subst (λ k. nth all k ≡ Some f.0) e f.2) ∙ is) in (
          subst (λ (k : Source). files m.name ≡ Some k) same f.1,
          subst (λ (k : Source). is_within k.bytes m.stretch ≡ true) same f.3,
        )

    each_by : (m x : FileLabel) (xs : List FileLabel) (b : Bool) → is_listed n x ≡ b → Fits files all m → m.list ≡ n
        → Fits files all x → IsClear files m x
        → AllByRecursion (IsApart source.bytes (label_of m)) (map label_of xs)
        → AllByRecursion (IsApart source.bytes (label_of m)) (map label_of (if b then x ∷ xs else xs))
    each_by m x xs false e f here g c h = h
    each_by m x xs true e f here g c h =
        let there = eqb-true x.list n e in
        let own = file_is m f here in
        let other = file_is x g there in
        (marks_apart source.bytes m x own.1 other.1 (c source own.0 other.0 (here ∙ sym there)), h)

    each_apart : (m : FileLabel) (ms : List FileLabel) → Fits files all m → m.list ≡ n → AllFit files all ms
        → AllByRecursion (IsClear files m) ms
        → AllByRecursion (IsApart source.bytes (label_of m)) (labels_in ms n)
    each_apart m [] f here is_in_scope h = tt
    each_apart m (x ∷ xs) f here is_in_scope h =
        each_by m x (filter (is_listed n) xs) (is_listed n x) refl f here is_in_scope.0 h.0
        (each_apart m xs f here is_in_scope.1 h.1)

    list_by : (m : FileLabel) (ls : List FileLabel) (b : Bool)
        → (b ≡ true → AllByRecursion (IsApart source.bytes (label_of m)) (map label_of ls))
        → AreApart source.bytes (map label_of ls) → AreApart source.bytes (map label_of (if b then m ∷ ls else ls))
    list_by m ls true own h = (own refl, h)
    list_by m ls false own h = h

    list_apart : (ms : List FileLabel) → AllFit files all ms → AreClear files ms
        → AreApart source.bytes (labels_in ms n)
    list_apart [] is_in_scope h = tt
    list_apart (m ∷ ms) is_in_scope h =
        list_by m (filter (is_listed n) ms) (is_listed n m)
        (λ e. each_apart m ms is_in_scope.0 (eqb-true m.list n e) is_in_scope.1 h.0) (list_apart ms is_in_scope.1 h.1)

lists_apart : (files : List ℕ → Option Source) (all : List Source) (ms : List FileLabel) → AllFit files all ms
    → AreClear files ms → (n : ℕ) (ss : List Source) → ((k : ℕ) → nth all (n + k) ≡ nth ss k)
    → AllByRecursion IsApartList (sections_from ms n ss)
lists_apart files all ms is_in_scope h n [] at = tt
lists_apart files all ms is_in_scope h n (s ∷ ss) at =
    let zeroth : n ≡ n + 0 = omega arith in
    let here : nth all n ≡ Some s = ap (nth all) zeroth ∙ at 0 in (
      list_apart files all s n here ms is_in_scope h,
      lists_apart files all ms is_in_scope h (n + 1) ss
          (λ k. (let next : (n + 1) + k ≡ n + suc k = omega arith in ap (nth all) next ∙ at (suc k))),
    )

pub labels_apart : (files : List ℕ → Option Source) (said : MessageParts) (told : List Annotation)
    (offers : List Suggestion)
    → AllByRecursion IsApartList (label_sections (report_tree said (label_lists files told) offers))
labels_apart files said told offers =
    let done = label_lists files told in
    subst (AllByRecursion IsApartList)
    (sym (lists_made said done (all_fixes done offers) (trees (all_advice done offers)) done.files))
    (lists_apart files done.files done.marks (settled_fits files told no_label_lists tt) (all_clear files told) 0
    done.files (λ k. (let same : 0 + k ≡ k = omega arith in ap (nth done.files) same)))
