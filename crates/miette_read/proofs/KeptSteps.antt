-- What each step of settling keeps holds of all that is settled.
use Rattle.std.proofs.Common.{◌≡◌, ℕ, List, [], ◌∷◌, Option, Some, None, Bool, true, false, IfSome, map, refl}
use Rattle.std.specs.Prelude.{◌&&◌, ◌||◌, if◌then◌else◌, option_and_then}
use Rattle.std.specs.List.{fold, list_any}
use Rattle.miette_protocol.specs.rules.Reading.{Source}
use Rattle.miette_read.specs.rules.Places.{ToolLocation, ByteRange, Annotation, is_within, join_rows}
use Rattle.miette_read.specs.rules.Places.{tool_location_text}
use Rattle.miette_read.specs.rules.AnnotationLabels.{FileLabel, LabelLists, file_range, has_no_rows, is_label_around}
use Rattle.miette_read.specs.rules.AnnotationLabels.{is_label_at, with_labeled}
use Rattle.miette_read.specs.rules.AnnotationLabels.{maybe_text}
use Rattle.miette_read.specs.rules.AnnotationLabels.{with_new_label, with_located, with_annotation, with_annotation_at}
use Rattle.miette_read.specs.rules.AnnotationLabels.{with_more_rows}
use Rattle.miette_read.specs.rules.AnnotationLabels.{with_rows, with_text, range_within}
use Rattle.miette_read.proofs.Accepted.{AllFit, settled_fits}
use Rattle.miette_read.proofs.ReportsRead.{either}

-- ---- the file of a place that is found

within_by : (x : Source) (s : ByteRange) (b : Bool)
    → IfSome {T = Source × ByteRange} (if b then Some (x, s) else None) (λ it. Some x ≡ Some it.0)
within_by x s true = refl
within_by x s false = tt

within_is : (o : Option Source) (s : Option ByteRange)
    → IfSome (option_and_then (λ source. range_within source s) o) (λ it. o ≡ Some it.0)
within_is None s = tt
within_is (Some x) None = tt
within_is (Some x) (Some s) = within_by x s (is_within x.bytes s)

pub place_is : (files : List ℕ → Option Source) (p : ToolLocation)
    → IfSome (file_range files p) (λ it. files p.name ≡ Some it.0)
place_is files p = within_is (files p.name) p.stretch

inside_by : (x : Source) (s : ByteRange) (b : Bool) → is_within x.bytes s ≡ b
    → IfSome {T = Source × ByteRange} (if b then Some (x, s) else None) (λ it. is_within it.0.bytes it.1 ≡ true)
inside_by x s true e = e
inside_by x s false e = tt

inside_is : (o : Option Source) (s : Option ByteRange)
    → IfSome (option_and_then (λ source. range_within source s) o) (λ it. is_within it.0.bytes it.1 ≡ true)
inside_is None s = tt
inside_is (Some x) None = tt
inside_is (Some x) (Some s) = inside_by x s (is_within x.bytes s) refl

pub place_inside : (files : List ℕ → Option Source) (p : ToolLocation)
    → IfSome (file_range files p) (λ it. is_within it.0.bytes it.1 ≡ true)
place_inside files p = inside_is (files p.name) p.stretch

-- ---- what is kept when a text comes, when a label is told again, and when one is new

abbrev pub retold : Annotation → FileLabel → FileLabel
retold t m = record m { primary = m.primary || (t.primary && t.own); rows = with_rows m.rows t.rows }

abbrev pub again : LabelLists → List ℕ → ByteRange → Annotation → LabelLists
again done name s t = record done { marks = map (with_more_rows name s t) done.marks }

module _ (files : List ℕ → Option Source) (Keeps : LabelLists → Type 0)
    (by_text : (done : LabelLists) (text : List ℕ) → Keeps done → Keeps (with_text done text))
    (by_again : (done : LabelLists) (name : List ℕ) (s : ByteRange) (t : Annotation) → Keeps done
    → Keeps (again done name s t))
    (by_new : (done : LabelLists) (name : List ℕ) (source : Source) (s : ByteRange) (t : Annotation)
    → AllFit files done.files done.marks → files name ≡ Some source → Keeps done
    → Keeps (with_new_label done name source s t))
  where
    texts_keep : (done : LabelLists) (o : Option (List ℕ)) → Keeps done → Keeps (maybe_text done o)
    texts_keep done None h = h
    texts_keep done (Some text) h = by_text done text h

    marks_keep : (done : LabelLists) (name : List ℕ) (source : Source) (s : ByteRange) (t : Annotation)
        → AllFit files done.files done.marks → files name ≡ Some source → Keeps done
        → Keeps (with_labeled done name source s t)
    marks_keep done name source s t is_in_scope is h =
        either Keeps (list_any (is_label_at name s) done.marks) (again done name s t)
        (if has_no_rows t.rows && list_any (is_label_around name s) done.marks then done
        else with_new_label done name source s t)
        (by_again done name s t h)
        (either Keeps (has_no_rows t.rows && list_any (is_label_around name s) done.marks) done
        (with_new_label done name source s t) h (by_new done name source s t is_in_scope is h))

    at_keeps : (done : LabelLists) (t : Annotation) (p : ToolLocation) (it : Option (Source × ByteRange))
        → AllFit files done.files done.marks → IfSome it (λ it. files p.name ≡ Some it.0) → Keeps done
        → Keeps (with_located done t p it)
    at_keeps done t p None is_in_scope is h = by_text done (tool_location_text p t.rows) h
    at_keeps done t p (Some it) is_in_scope is h = marks_keep done p.name it.0 it.1 t is_in_scope is h

    with_keeps : (done : LabelLists) (t : Annotation) (o : Option ToolLocation) → AllFit files done.files done.marks
        → Keeps done
        → Keeps (with_annotation_at files done t o)
    with_keeps done t None is_in_scope h = texts_keep done (join_rows t.rows) h
    with_keeps done t (Some p) is_in_scope h = at_keeps done t p (file_range files p) is_in_scope (place_is files p) h

    pub all_keep : (ts : List Annotation) (done : LabelLists) → AllFit files done.files done.marks → Keeps done
        → Keeps (fold (with_annotation files) done ts)
    all_keep [] done is_in_scope h = h
    all_keep (t ∷ ts) done is_in_scope h =
        all_keep ts (with_annotation files done t) (settled_fits files (t ∷ []) done is_in_scope)
        (with_keeps done t t.place is_in_scope h)
