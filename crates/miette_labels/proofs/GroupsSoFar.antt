-- Groups so far: what is done, and the group that a next label may join.
use Rattle.std.proofs.Common.{ℕ, suc, ◌+◌, ◌<◌, ◌≤◌, ◌≡◌, Bool, true, false, cond, List, [], ◌∷◌, ◌++◌, length, map}
use Rattle.std.proofs.Common.{drop, get_or, Option, Some, None, refl, sym, ap, ◌∙◌, subst, arith, All, append_assoc}
use Rattle.std.proofs.Common.{append-nil}
use Rattle.std.specs.Prelude.{MatchOption}
use Rattle.std.proofs.lemmas.List.{map-append, drop_all, drop_more}
use Rattle.std.proofs.lemmas.List.Elements.{All-push}
use Rattle.miette_protocol.specs.rules.Reading.{Span, Source, IsInBounds}
use Rattle.miette_labels.specs.declared.groups.LabelGroup.{LabelGroup}
use Rattle.miette_labels.specs.declared.reading.ReadLabel.{ReadLabel}
use Rattle.miette_labels.specs.rules.Answers.{NoneFails, next_answer}
use Rattle.miette_labels.specs.rules.Groups.{joined_span, joins_before, groups_from, groups_answered}
use Rattle.miette_labels.specs.views.Reads.{AreContents}
use Rattle.miette_lines.proofs.Cases.{by_cases}
use Rattle.miette_labels.specs.steps.Reads.{AreJoined}

-- the groups of what is left, in front of which some are done
pub record AreGathered (context : ℕ) (source : Source) (spans rest : List Span) (done : List LabelGroup)
    (before : LabelGroup) : Type 0 where
  pub fails : List Bool
  pub always : source.always_reads ≡ true → NoneFails fails
  pub are : (more : List Bool) → groups_answered context source (fails ++ more) spans ≡ map (λ group. group.span) done
      ++ groups_from context source before.span more rest
  pub contents_are : All (λ group. AreContents context source group.span group.contents) done
  pub own : AreContents context source before.span before.contents

pub joined_accepted : (bytes : List ℕ) (a b : Span) → IsInBounds bytes a → IsInBounds bytes b
    → IsInBounds bytes (joined_span a b)
joined_accepted bytes a b h k = record { begins = h.begins; ends = omega (arith, h.begins, h.ends, k.begins, k.ends) }

none_more : (fails : List Bool) (b : Bool) → b ≡ false → NoneFails fails → NoneFails (fails ++ b ∷ [])
none_more [] b e h = (e, tt)
none_more (f ∷ fails) b e h = (h.0, none_more fails b e h.1)

more_fails : (fails : List Bool) (b : Bool) (more : List Bool) → (fails ++ b ∷ []) ++ more ≡ fails ++ b ∷ more
more_fails fails b more = append_assoc fails (b ∷ []) more

-- at the first label
pub gathered_first : (context : ℕ) (source : Source) (span : Span) (rest : List Span) (done : List LabelGroup)
    (before : LabelGroup) → done ≡ [] → before.span ≡ span → AreContents context source before.span before.contents →
    AreGathered context source (span ∷ rest) rest done before
gathered_first context source span rest done before none at own =
    subst (λ (d : List LabelGroup). AreGathered context source (span ∷ rest) rest d before) (sym none)
    (record {
      fails = [];
      always = λ a. tt;
      are = λ more. ap (λ s. groups_from context source s more rest) (sym at);
      contents_are = λ k d lt. absurd (omega (arith, lt));
      own = own;
    })

-- a label joins
pub gathered_join : (context : ℕ) (source : Source) (spans : List Span) (span : Span) (rest : List Span)
    (done : List LabelGroup) (before next : LabelGroup) →
    AreGathered context source spans (span ∷ rest) done before → joins_before context source before.span span ≡ true
    → next.span ≡ joined_span before.span span → AreContents context source next.span next.contents →
    AreGathered context source spans rest done next
gathered_join context source spans span rest done before next h joins at own = record {
  fails = h.fails ++ false ∷ [];
  always = λ a. none_more h.fails false refl (h.always a);
  are = λ more.
      ap (λ f. groups_answered context source f spans) (more_fails h.fails false more)
      ∙ h.are (false ∷ more)
      ∙ ap (λ b. map (λ group. group.span) done ++ cond b (groups_from context source (joined_span before.span span)
      more rest) (before.span ∷ groups_from context source span (false ∷ more) rest)) joins
      ∙ ap (λ s. map (λ group. group.span) done ++ groups_from context source s more rest) (sym at);
  contents_are = h.contents_are;
  own = own;
}

pushed : (done : List LabelGroup) (before : LabelGroup) (tail : List Span) → map (λ group. group.span) done
    ++ before.span ∷ tail
    ≡ map (λ group. group.span) (done ++ before ∷ []) ++ tail
pushed done before tail = sym (ap (λ x. x ++ tail) (map-append (λ group. group.span) done (before ∷ []))
    ∙ append_assoc (map (λ group. group.span) done) (before.span ∷ []) tail)

-- a label begins a group, since it doesn't join
gathered_apart : (context : ℕ) (source : Source) (spans : List Span) (span : Span) (rest : List Span)
    (done : List LabelGroup) (before next : LabelGroup) →
    AreGathered context source spans (span ∷ rest) done before → joins_before context source before.span span ≡ false
    → next.span ≡ span → AreContents context source next.span next.contents →
    AreGathered context source spans rest (done ++ before ∷ []) next
gathered_apart context source spans span rest done before next h apart at own = record {
  fails = h.fails;
  always = h.always;
  are = λ more.
      h.are more
      ∙ ap (λ b. map (λ group. group.span) done ++ cond b (cond (next_answer more)
      (before.span ∷ groups_from context source span (drop 1 more) rest)
      (groups_from context source (joined_span before.span span) (drop 1 more) rest))
      (before.span ∷ groups_from context source span more rest)) apart
      ∙ pushed done before (groups_from context source span more rest)
      ∙ ap (λ s. map (λ group. group.span) (done ++ before ∷ []) ++ groups_from context source s more rest) (sym at);
  contents_are = All-push (λ group. AreContents context source group.span group.contents) done before h.contents_are
      h.own;
  own = own;
}

-- or since the read of the joined span failed
gathered_failed : (context : ℕ) (source : Source) (spans : List Span) (span : Span) (rest : List Span)
    (done : List LabelGroup) (before next : LabelGroup) →
    AreGathered context source spans (span ∷ rest) done before → joins_before context source before.span span ≡ true
    → source.always_reads ≡ false → next.span ≡ span → AreContents context source next.span next.contents →
    AreGathered context source spans rest (done ++ before ∷ []) next
gathered_failed context source spans span rest done before next h joins failed at own = record {
  fails = h.fails ++ true ∷ [];
  always = λ a. cc;
  are = λ more.
      ap (λ f. groups_answered context source f spans) (more_fails h.fails true more)
      ∙ h.are (true ∷ more)
      ∙ ap (λ b. map (λ group. group.span) done ++ cond b (before.span ∷ groups_from context source span more rest)
      (before.span ∷ groups_from context source span (true ∷ more) rest)) joins
      ∙ pushed done before (groups_from context source span more rest)
      ∙ ap (λ s. map (λ group. group.span) (done ++ before ∷ []) ++ groups_from context source s more rest) (sym at);
  contents_are = All-push (λ group. AreContents context source group.span group.contents) done before h.contents_are
      h.own;
  own = own;
}

pub gathered_next : (context : ℕ) (source : Source) (spans : List Span) (span : Span) (rest : List Span)
    (done more : List LabelGroup) (before next : LabelGroup) →
    AreGathered context source spans (span ∷ rest) done before
    → (joins_before context source before.span span ≡ true → source.always_reads ≡ false) → next.span ≡ span
    → AreContents context source next.span next.contents →
    more ≡ done ++ before ∷ [] → AreGathered context source spans rest more next
gathered_next context source spans span rest done more before next h failed at own e =
    subst (λ (d : List LabelGroup). AreGathered context source spans rest d next) (sym e)
    (by_cases {C = AreGathered context source spans rest (done ++ before ∷ []) next}
    (joins_before context source before.span span)
    (λ t. gathered_failed context source spans span rest done before next h t (failed t) at own)
    (λ f. gathered_apart context source spans span rest done before next h f at own))

pub gathered_all : (context : ℕ) (source : Source) (spans : List Span) (done more : List LabelGroup)
    (before : LabelGroup)
    → AreGathered context source spans [] done before → more ≡ done ++ before ∷ [] →
    AreJoined context source spans more
gathered_all context source spans done more before h e =
    subst (λ (d : List LabelGroup). AreJoined context source spans d) (sym e)
    (record {
      fails = h.fails;
      always = h.always;
      are = map-append (λ group. group.span) done (before ∷ []) ∙ sym (h.are [])
          ∙ ap (λ f. groups_answered context source f spans) (append-nil h.fails);
      contents_are = All-push (λ group. AreContents context source group.span group.contents) done before h.contents_are
          h.own;
    })

-- the loop's steps

abbrev pub spans_read : List ReadLabel → List Span
spans_read reads = map (λ label. label.span) reads

abbrev pub AllContents : ℕ → Source → List ReadLabel → Type 0
AllContents context source reads = All (λ label. AreContents context source label.span label.contents) reads

pub first_contents : (context : ℕ) (source : Source) (labels rest : List ReadLabel) (first : ReadLabel)
    → AllContents context source labels → labels ≡ first ∷ rest → AreContents context source first.span first.contents
first_contents context source labels rest first h e = let k : AllContents context source (first ∷ rest) =
    subst (λ (xs : List ReadLabel). AllContents context source xs) e h in k 0 first (omega arith)

pub item_contents : (context : ℕ) (source : Source) (labels rest : List ReadLabel) (first item : ReadLabel) (i : ℕ)
    → AllContents context source labels → labels ≡ first ∷ rest → i < length rest → item ≡ get_or rest i item →
    AreContents context source item.span item.contents
item_contents context source labels rest first item i h e lt is =
    let k : AllContents context source (first ∷ rest) =
    subst (λ (xs : List ReadLabel). AllContents context source xs) e h in
    subst (λ (r : ReadLabel). AreContents context source r.span r.contents) (sym is)
    (k (suc i) item (omega (arith, lt)))

own_contents : (context : ℕ) (source : Source) (label : ReadLabel) (group : LabelGroup)
    → AreContents context source label.span label.contents → group.span ≡ label.span → group.contents ≡ label.contents →
    AreContents context source group.span group.contents
own_contents context source label group h at contents_are = rw (at, contents_are) h

pub loop_first : (context : ℕ) (source : Source) (labels rest : List ReadLabel) (first : ReadLabel)
    (done : List LabelGroup)
    (before : LabelGroup) → labels ≡ first ∷ rest → AllContents context source labels → done ≡ [] →
    before.span ≡ first.span → before.contents ≡ first.contents
    → AreGathered context source (spans_read labels) (spans_read (drop 0 rest)) done before
loop_first context source labels rest first done before e h none at contents_are =
    subst (λ (xs : List ReadLabel). AreGathered context source (spans_read xs) (spans_read rest) done before) (sym e)
    (gathered_first context source first.span (spans_read rest) done before none at
    (own_contents context source first before (first_contents context source labels rest first h e) at contents_are))

own_step : (context : ℕ) (source : Source) (labels rest : List ReadLabel) (item : ReadLabel) (i : ℕ)
    (done : List LabelGroup)
    (before : LabelGroup) → i < length rest → item ≡ get_or rest i item →
    AreGathered context source (spans_read labels) (spans_read (drop i rest)) done before
    → AreGathered context source (spans_read labels) (item.span ∷ spans_read (drop (i + 1) rest)) done before
own_step context source labels rest item i done before lt is h =
    subst (λ (xs : List Span). AreGathered context source (spans_read labels) xs done before)
    (ap spans_read (drop_more rest i item lt) ∙ ap (λ (r : ReadLabel). r.span ∷ spans_read (drop (i + 1) rest))
    (sym is)) h

pub loop_join : (context : ℕ) (source : Source) (labels rest : List ReadLabel) (item : ReadLabel) (i : ℕ)
    (done : List LabelGroup) (before next : LabelGroup) → i < length rest → item ≡ get_or rest i item →
    AreGathered context source (spans_read labels) (spans_read (drop i rest)) done before →
    (joins_before context source before.span item.span ≡ true) × (next.span ≡ joined_span before.span item.span)
    × AreContents context source next.span next.contents →
    AreGathered context source (spans_read labels) (spans_read (drop (i + 1) rest)) done next
loop_join context source labels rest item i done before next lt is h k =
    gathered_join context source (spans_read labels) item.span (spans_read (drop (i + 1) rest)) done before next
    (own_step context source labels rest item i done before lt is h) k.0 k.1 k.2

pub loop_next : (context : ℕ) (source : Source) (labels rest : List ReadLabel) (item : ReadLabel) (i : ℕ)
    (done more : List LabelGroup) (before next : LabelGroup) → i < length rest → item ≡ get_or rest i item →
    AreGathered context source (spans_read labels) (spans_read (drop i rest)) done before →
    (joins_before context source before.span item.span ≡ true → source.always_reads ≡ false) → next.span ≡ item.span
    → next.contents ≡ item.contents → AreContents context source item.span item.contents → more ≡ done ++ before ∷ [] →
    AreGathered context source (spans_read labels) (spans_read (drop (i + 1) rest)) more next
loop_next context source labels rest item i done more before next lt is h failed at contents_are own e =
    gathered_next context source (spans_read labels) item.span (spans_read (drop (i + 1) rest)) done more before next
    (own_step context source labels rest item i done before lt is h) failed at
    (own_contents context source item next own at contents_are) e

pub loop_end : (context : ℕ) (source : Source) (labels rest : List ReadLabel) (i : ℕ) (done more : List LabelGroup)
    (before : LabelGroup) → length rest ≤ i →
    AreGathered context source (spans_read labels) (spans_read (drop i rest)) done before → more ≡ done ++ before ∷ []
    → AreJoined context source (spans_read labels) more
loop_end context source labels rest i done more before le h e =
    gathered_all context source (spans_read labels) done more before
    (subst (λ (xs : List Span). AreGathered context source (spans_read labels) xs done before)
    (ap spans_read (drop_all i rest le)) h) e

pub no_groups : (context : ℕ) (source : Source) (labels : List ReadLabel) (groups : List LabelGroup) → length labels ≡ 0
    → groups ≡ [] → AreJoined context source (spans_read labels) groups
no_groups context source [] groups none e =
    subst (λ (d : List LabelGroup). AreJoined context source [] d) (sym e)
    (record { fails = []; always = λ a. tt; are = refl; contents_are = λ k d lt. absurd (omega (arith, lt)) })
no_groups context source (l ∷ ls) groups none e = absurd (omega (arith, none))

-- what `extend_group` says
abbrev pub Extends : ℕ → Source → LabelGroup → ReadLabel → Option LabelGroup → Type 0
Extends context source before label r =
    MatchOption r (joins_before context source before.span label.span ≡ true → source.always_reads ≡ false)
    (λ group. (joins_before context source before.span label.span ≡ true)
    × (group.span ≡ joined_span before.span label.span) × AreContents context source group.span group.contents)

pub loop_some : (context : ℕ) (source : Source) (labels rest : List ReadLabel) (item : ReadLabel) (i : ℕ)
    (done more : List LabelGroup) (before next group : LabelGroup) (r : Option LabelGroup) → i < length rest → item
    ≡ get_or rest i item →
    AreGathered context source (spans_read labels) (spans_read (drop i rest)) done before
    → Extends context source before item r → r ≡ Some group → more ≡ done → next ≡ group →
    AreGathered context source (spans_read labels) (spans_read (drop (i + 1) rest)) more next
loop_some context source labels rest item i done more before next group r lt is h ext some same at =
    rw (same, at) (loop_join context source labels rest item i done before group lt is h
    (subst (λ (o : Option LabelGroup). Extends context source before item o) some ext))

pub loop_none : (context : ℕ) (source : Source) (labels rest : List ReadLabel) (item : ReadLabel) (i : ℕ)
    (done more : List LabelGroup) (before out next group : LabelGroup) (r : Option LabelGroup) → i < length rest → item
    ≡ get_or rest i item →
    AreGathered context source (spans_read labels) (spans_read (drop i rest)) done before
    → Extends context source before item r → r ≡ None → AreContents context source item.span item.contents →
    out ≡ before → more ≡ done ++ out ∷ [] → next ≡ group → group.span ≡ item.span → group.contents ≡ item.contents →
    AreGathered context source (spans_read labels) (spans_read (drop (i + 1) rest)) more next
loop_none context source labels rest item i done more before out next group r lt is h ext none own value e at span
    contents_are =
    rw at (loop_next context source labels rest item i done more before group lt is h
    (subst (λ (o : Option LabelGroup). Extends context source before item o) none ext) span contents_are own
    (e ∙ ap (λ g. done ++ g ∷ []) value))
