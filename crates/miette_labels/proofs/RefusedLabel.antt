-- Labels that were read so far, and the first one that is refused.
use Rattle.std.proofs.Common.{ℕ, suc, ◌+◌, ◌<◌, ◌≤◌, ◌≡◌, max, Bool, true, false, cond, leb, List, [], ◌∷◌, ◌++◌}
use Rattle.std.proofs.Common.{length, map, take, drop, get_or, Some, None, refl, sym, ap, ◌∙◌, subst, arith, All}
use Rattle.std.proofs.Common.{append_assoc}
use Rattle.std.proofs.Common.{take-append-drop}
use Rattle.std.specs.Prelude.{codes, unwrap_or}
use Rattle.std.proofs.lemmas.Bool.{le-leb, leb-true, and_from, and_left, and_right}
use Rattle.std.proofs.lemmas.List.{map-append, get_or-map, take_all, take_more, length-map}
use Rattle.std.proofs.lemmas.List.Elements.{All-nil, All-push}
use Rattle.miette_protocol.specs.views.Meaning.{Label}
use Rattle.miette_protocol.specs.rules.Reading.{Span, Source, IsInBounds, is_in_bounds}
use Rattle.miette_protocol.specs.rules.Outcome.{IsReadError}
use Rattle.miette_protocol.specs.declared.error.MietteError.{MietteError}
use Rattle.miette_protocol.specs.declared.error.MietteError.TheVariants as errors
use Rattle.miette_labels.specs.declared.order.OrderedLabel.{OrderedLabel}
use Rattle.miette_labels.specs.declared.reading.ReadLabel.{ReadLabel}
use Rattle.miette_labels.specs.declared.reading.ReadLabels.TheVariants as reads
use Rattle.miette_labels.specs.declared.reading.RefusalReason.{RefusalReason}
use Rattle.miette_labels.specs.rules.Answers.{next_answer, NoneFails}
use Rattle.miette_labels.specs.rules.Around.{has_own_context, contents_around}
use Rattle.miette_labels.specs.rules.Contexts.{contents}
use Rattle.miette_labels.specs.views.ProgramLabels.{label_at}
use Rattle.miette_labels.specs.rules.Groups.{first_refusal, AreInBounds}
use Rattle.miette_labels.specs.views.Reads.{IsRead, AreRead, reason_name}
use Rattle.miette_lines.proofs.Cases.{by_cases}
use Rattle.miette_labels.proofs.NoFailures.{later_none, next_none}
use Rattle.miette_labels.proofs.SortedLabels.{label_got}
use Rattle.miette_labels.specs.steps.Reads.{Reason}

pub accepted_is : (source : List ℕ) (span : Span) → IsInBounds source span → is_in_bounds source span ≡ true
accepted_is source span h = and_from _ _ (le-leb span.offset (length source) h.begins)
    (le-leb (span.offset + span.len) (length source + 1) h.ends)

-- where no read fails, labels whose spans are accepted aren't refused
pub none_refused : (source : List ℕ) (fails : List Bool) (labels : List Label) → NoneFails fails
    → AreInBounds source labels → first_refusal source fails labels ≡ None
none_refused source fails [] h k = refl
none_refused source fails (label ∷ labels) h k =
    let next : next_answer fails ≡ false = next_none fails h in
    let own : is_in_bounds source label.span ≡ true = accepted_is source label.span k.0 in
    rw (next, own) (none_refused source (drop 1 fails) labels (later_none fails h) k.1)

-- the labels of reads, and of turns
abbrev pub read_of : List Label → ReadLabel → Label
read_of labels r = label_at labels r.index

abbrev pub turn_of : List Label → OrderedLabel → Label
turn_of labels turn = label_at labels turn.index

-- the first `i` labels were read
pub record AreReadTo (context : ℕ) (source : Source) (labels : List Label) (order : List OrderedLabel) (i : ℕ)
    (read : List ReadLabel) : Type 0 where
  pub are : map (read_of labels) read ≡ take i (map (turn_of labels) order)
  pub each : All (IsRead context source labels) read

pub none_read : (context : ℕ) (source : Source) (labels : List Label) (order : List OrderedLabel)
    (read : List ReadLabel)
    → read ≡ [] → AreReadTo context source labels order 0 read
none_read context source labels order read e =
    subst (λ (xs : List ReadLabel). AreReadTo context source labels order 0 xs) (sym e)
    (record { are = refl; each = All-nil (IsRead context source labels) })

pub all_read : (context : ℕ) (source : Source) (labels : List Label) (order : List OrderedLabel) (i : ℕ)
    (read : List ReadLabel)
    → length order ≤ i → AreReadTo context source labels order i read
    → (map (read_of labels) read ≡ map (turn_of labels) order) × All (IsRead context source labels) read
all_read context source labels order i read past h = (
  h.are ∙ take_all i (map (turn_of labels) order) (omega (arith, past, length-map order (turn_of labels))),
  h.each,
)

order-more : (labels : List Label) (order : List OrderedLabel) (i : ℕ) (d : OrderedLabel) → i < length order →
    take (i + 1) (map (turn_of labels) order) ≡ take i (map (turn_of labels) order) ++ turn_of labels (get_or order i d)
    ∷ []
order-more labels order i d lt =
    let len : i < length (map (turn_of labels) order) = omega (arith, lt, length-map order (turn_of labels)) in
    take_more (map (turn_of labels) order) i (turn_of labels d) len
    ∙ ap (λ x. take i (map (turn_of labels) order) ++ x ∷ [])
    (get_or-map (turn_of labels) order i d (turn_of labels d) lt)

pub read_more : (context : ℕ) (source : Source) (labels : List Label) (order : List OrderedLabel) (i : ℕ)
    (read more : List ReadLabel) (d : OrderedLabel) (r : ReadLabel) →
    AreReadTo context source labels order i read → i < length order → r.index ≡ (get_or order i d).index
    → IsRead context source labels r → more ≡ read ++ r ∷ [] →
    AreReadTo context source labels order (i + 1) more
read_more context source labels order i read more d r h lt same own e =
    let are : map (read_of labels) (read ++ r ∷ []) ≡ take (i + 1) (map (turn_of labels) order) =
    map-append (read_of labels) read (r ∷ [])
    ∙ ap (λ x. x ++ read_of labels r ∷ []) h.are
    ∙ ap (λ k. take i (map (turn_of labels) order) ++ label_at labels k ∷ []) same
    ∙ sym (order-more labels order i d lt) in
    subst (λ (xs : List ReadLabel). AreReadTo context source labels order (i + 1) xs) (sym e)
    (record { are = are; each = All-push (IsRead context source labels) read r h.each own })

-- the label that is read, as the loop finds it
pub own_read : (context : ℕ) (source : Source) (labels : List Label) (index : ℕ) (label : Label) (span : Span)
    (r : ReadLabel) (lines : ℕ) (own : Bool) → index < length labels → label ≡ get_or labels index label →
    r.index ≡ index → r.span ≡ label.span → r.primary ≡ label.primary → span ≡ label.span → IsInBounds source.bytes span
    → r.contents ≡ contents lines source span →
    lines ≡ unwrap_or label.context (cond own (max 1 context) context) → own ≡ has_own_context labels
    → IsRead context source labels r
own_read context source labels index label span r lines own lt is same at_span primary asked accepted contents_are
    around which =
    let at : label_at labels r.index ≡ label = ap (label_at labels) same ∙ label_got labels index label lt ∙ sym is in
    let spans : span ≡ r.span = asked ∙ sym at_span in
    record {
      inside = rw same lt;
      span = at_span ∙ ap (λ l. l.span) (sym at);
      primary = primary ∙ ap (λ l. l.primary) (sym at);
      accepted = subst (λ (s : Span). IsInBounds source.bytes s) spans accepted;
      contents_are = contents_are ∙ ap (contents lines source) asked
          ∙ ap (λ n. contents n source label.span) (around ∙
          ap (λ b. unwrap_or label.context (cond b (max 1 context) context)) which)
          ∙ ap (λ l. contents_around context source labels l) (sym at);
    }

-- the answers up to a read that fails
abbrev fails_after : List Label → List Bool
fails_after [] = true ∷ []
fails_after (l ∷ ls) = false ∷ fails_after ls

refused_read : (bytes : List ℕ) (front : List Label) (label : Label) (rest : List Label) → AreInBounds bytes front →
    first_refusal bytes (fails_after front) (front ++ label ∷ rest) ≡ Some (record
    { label = label; name = codes "IoError" })
refused_read bytes [] label rest h = refl
refused_read bytes (l ∷ ls) label rest h = let own : is_in_bounds bytes l.span ≡ true = accepted_is bytes l.span h.0 in
    rw own (refused_read bytes ls label rest h.1)

refused_out : (bytes : List ℕ) (front : List Label) (label : Label) (rest : List Label) → AreInBounds bytes front
    → is_in_bounds bytes label.span ≡ false →
    first_refusal bytes [] (front ++ label ∷ rest) ≡ Some (record { label = label; name = codes "OutOfBounds" })
refused_out bytes [] label rest h out = rw out refl
refused_out bytes (l ∷ ls) label rest h out = let own : is_in_bounds bytes l.span ≡ true = accepted_is bytes l.span h.0
    in rw own (refused_out bytes ls label rest h.1 out)

not_accepted : (bytes : List ℕ) (span : Span) → ¬ IsInBounds bytes span → is_in_bounds bytes span ≡ false
not_accepted bytes span out =
    by_cases {C = is_in_bounds bytes span ≡ false} (leb span.offset (length bytes))
    (λ t. by_cases {C = is_in_bounds bytes span ≡ false} (leb (span.offset + span.len) (length bytes + 1))
    (λ u. absurd (out (record {
      begins = leb-true span.offset (length bytes) t;
      ends =
          leb-true (span.offset + span.len) (length bytes + 1) u;
    })))
    (λ g. and_right _ _ g))
    (λ f. and_left _ _ f)

pub all_accepted : (context : ℕ) (source : Source) (labels : List Label) (read : List ReadLabel)
    → All (IsRead context source labels) read → AreInBounds source.bytes (map (read_of labels) read)
all_accepted context source labels [] h = tt
all_accepted context source labels (r ∷ rs) h =
    let own : IsRead context source labels r = h 0 r (omega arith) in
    (rw (sym own.span) own.accepted, all_accepted context source labels rs (λ k d lt. h (suc k) d (omega arith)))

-- the front of the order, the label that is refused, and the rest
parted_at : (labels : List Label) (order : List OrderedLabel) (i : ℕ) (d : OrderedLabel) (front : List Label) → i
    < length order → front
    ≡ take i (map (turn_of labels) order) →
    map (turn_of labels) order ≡ front ++ turn_of labels (get_or order i d) ∷ drop (i + 1) (map (turn_of labels) order)
parted_at labels order i d front lt e =
    sym (take-append-drop (i + 1) (map (turn_of labels) order))
    ∙ ap (λ x. x ++ drop (i + 1) (map (turn_of labels) order)) (order-more labels order i d lt)
    ∙ append_assoc (take i (map (turn_of labels) order)) (turn_of labels (get_or order i d) ∷ [])
    (drop (i + 1) (map (turn_of labels) order))
    ∙ ap (λ x. x ++ turn_of labels (get_or order i d) ∷ drop (i + 1) (map (turn_of labels) order)) (sym e)

-- the label that is refused, as the loop finds it
refused_by : (context : ℕ) (source : Source) (labels : List Label) (order : List OrderedLabel) (i : ℕ)
    (read : List ReadLabel)
    (d : OrderedLabel) (e : MietteError) (reason : RefusalReason) →
    AreReadTo context source labels order i read → i < length order → (get_or order i d).index < length labels
    → IsReadError source (turn_of labels (get_or order i d)).span e → Reason e reason →
    AreRead context source labels (map (turn_of labels) order) (reads.Refused (get_or order i d).index reason)
refused_by context source labels order i read d (errors.IoError x) reason h lt inside refuses why =
    let front : List Label = map (read_of labels) read in
    let label : Label = turn_of labels (get_or order i d) in
    let rest : List Label = drop (i + 1) (map (turn_of labels) order) in (
      fails_after front,
      (λ always. cc),
      ap (first_refusal source.bytes (fails_after front)) (parted_at labels order i d front lt h.are)
          ∙ refused_read source.bytes front label rest (all_accepted context source labels read h.each)
          ∙ ap (λ r. Some (record { label = label; name = reason_name r })) (sym why),
      inside,
    )
refused_by context source labels order i read d errors.OutOfBounds reason h lt inside refuses why =
    let front : List Label = map (read_of labels) read in
    let label : Label = turn_of labels (get_or order i d) in
    let rest : List Label = drop (i + 1) (map (turn_of labels) order) in (
      [],
      (λ always. tt),
      ap (first_refusal source.bytes []) (parted_at labels order i d front lt h.are)
          ∙ refused_out source.bytes front label rest (all_accepted context source labels read h.each)
          (not_accepted source.bytes label.span refuses)
          ∙ ap (λ r. Some (record { label = label; name = reason_name r })) (sym why),
      inside,
    )

pub refused_here : (context : ℕ) (source : Source) (labels : List Label) (order : List OrderedLabel) (i : ℕ)
    (read : List ReadLabel) (d : OrderedLabel) (label : Label) (span : Span) (e : MietteError) (reason : RefusalReason)
    →
    AreReadTo context source labels order i read → i < length order → (get_or order i d).index < length labels → label
    ≡ get_or labels (get_or order i d).index label → span ≡ label.span →
    IsReadError source span e → Reason e reason →
    AreRead context source labels (map (turn_of labels) order) (reads.Refused (get_or order i d).index reason)
refused_here context source labels order i read d label span e reason h lt inside is at refuses why =
    let same : span ≡ (turn_of labels (get_or order i d)).span = at
    ∙ ap (λ l. l.span) (sym (label_got labels (get_or order i d).index label inside ∙ sym is)) in
    refused_by context source labels order i read d e reason h lt inside
    (subst (λ (s : Span). IsReadError source s e) same refuses) why
