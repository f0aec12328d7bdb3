-- Parts of which one log is made, one after another.
use Rattle.std.proofs.Common.{◌≡◌, ℕ, ◌+◌, ◌<◌, List, [], ◌∷◌, ◌++◌, Bool, true, false, length, map, Option, Some, None}
use Rattle.std.proofs.Common.{IfSome, All, refl, sym, ap, ap₂, subst, ◌∙◌, arith}
use Rattle.std.proofs.Common.{append_assoc, append-nil, drop, get_or, take}
use Rattle.miette_read.proofs.Steps.{next_taken}
use Rattle.std.specs.Prelude.{◌||◌, IsUtf8, cond, filter}
use Rattle.std.specs.List.{list_any}
use Rattle.std.specs.Io.KnownBytes.{Appends}
use Rattle.std.proofs.KnownBytes.{Appends-nil, Appends-trans}
use Rattle.std.proofs.lemmas.List.{map-append, take-append-drop}
use Rattle.std.proofs.lemmas.List.Concat.{flat_map-append}
use Rattle.std.proofs.lemmas.List.Elements.{All-cons, All-head, All-nil, All-push, All-tail}
use Rattle.std.proofs.lemmas.List.Folds.{list_any-append}
use Rattle.serde_json.specs.Data.{Data}
use Rattle.miette_show_rows.specs.rules.Values.{read}
use Rattle.miette_protocol.specs.rules.Reading.{Source}
use Rattle.miette_tree.specs.rules.Reads.{AllAlwaysRead, AlwaysReads}
use Rattle.miette_tree.specs.rules.Tree.{Tree, trees}
use Rattle.miette_devices.specs.views.Device.{TakesBeginning}
use Rattle.miette_show.specs.rules.Logging.{IsLogged, IsRowTrees, LoggedRow, Logs, LogsFirst, LogsSome, log_notes}
use Rattle.miette_show.specs.rules.Logging.{is_logged, said_beside, trees_of}
use Rattle.miette_show_rows.specs.rules.Looking.{Goes, IsFoundBy, named_files}
use Rattle.miette_show_rows.specs.rules.Parts.{count_row_ends, parts_of}
use Rattle.miette_show.specs.rules.ShownRow.{begins_message, row_failure, row_trees, is_error_tree}
use Rattle.miette_show.specs.rules.ValueKinds.{is_missing, kind_by}
use Rattle.miette_show_rows.specs.rules.Notes.{kind_is_error, kind_is_read, kind_is_unread}
use Rattle.miette_show_rows.specs.declared.verdict.Failure.{Failure}
use Rattle.miette_show.specs.views.LoggedRow.{AreKnown, AreLogged, AreLoggedFirst}
use Rattle.miette_show_rows.specs.declared.verdict.RowKind.{RowKind}
use Rattle.miette_show_rows.specs.declared.verdict.Verdict.{Verdict}
use Rattle.miette_show.specs.declared.words.Format.{Format}
use Rattle.miette_show_rows.proofs.Beginnings.{all_taken, taken_then}
use Rattle.miette_show_rows.proofs.Going.{all_stay}

-- ---- items that are kept, by what is seen of them

kept_seen : {V W : Type 0} (look : V → W) (x : V) (b : Bool) (l : List V) (m : List W) → map look l ≡ m
    → map look (cond b (x ∷ l) l) ≡ cond b (look x ∷ m) m
kept_seen look x true l m e = ap (λ n. look x ∷ n) e
kept_seen look x false l m e = e

pub filter_seen : {V W : Type 0} (look : V → W) (p : W → Bool) (xs : List V)
    → map look (filter (λ x. p (look x)) xs) ≡ filter p (map look xs)
filter_seen look p [] = refl
filter_seen look p (x ∷ xs) =
    kept_seen look x (p (look x)) (filter (λ y. p (look y)) xs) (filter p (map look xs)) (filter_seen look p xs)

-- ---- names that are known

-- a part that begins as no message does names nothing
pub none_begun : (from : Format) (knows : List ℕ → Type 0) (row : List ℕ) → begins_message from row ≡ false
    → AreKnown from knows row
none_begun from knows row not = λ d utf8 begins is. (let no : false ≡ true = sym not ∙ begins in cc)

-- nor does one that is no value
pub none_read : (from : Format) (knows : List ℕ → Type 0) (row : List ℕ) → (IsUtf8 row → read row ≡ None)
    → AreKnown from knows row
none_read from knows row none = λ d utf8 begins is. (let no : None ≡ Some d = sym (none utf8) ∙ is in cc)

pub one_read : (from : Format) (knows : List ℕ → Type 0) (row : List ℕ) (d : Data) → read row ≡ Some d
    → All knows (named_files d) → AreKnown from knows row
one_read from knows row d is known = λ e utf8 begins same.
    subst (λ x. All knows (named_files x)) (some_same d e (sym is ∙ same)) known
  where
    some_same : (a b : Data) → Some a ≡ Some b → a ≡ b
    some_same a b e = cc

-- what is known stays known
pub known_stay : (from : Format) (f g : List ℕ → Option Source) (k l : List ℕ → Type 0) (rows : List (List ℕ))
    → Goes f k g l → All (AreKnown from k) rows → All (AreKnown from l) rows
known_stay from f g k l rows goes known = λ i d h. λ e utf8 begins is.
    all_stay f g k l (named_files e) goes (known i d h e utf8 begins is)

-- ---- their reports

abbrev row_of : LoggedRow → List ℕ
row_of s = s.row

abbrev is_unread : LoggedRow → Bool
is_unread s = kind_is_unread s.kind

abbrev is_error_severity : LoggedRow → Bool
is_error_severity s = kind_is_error s.kind

abbrev is_read : LoggedRow → Bool
is_read s = kind_is_read s.kind

-- one that is a value of the format
pub read_trees : (from : Format) (files : List ℕ → Option Source) (row : List ℕ) (kind : RowKind) (ts : List Tree)
    (what : Option Failure) → begins_message from row ≡ true → IsUtf8 row → row_trees from files row ≡ Some ts
    → row_failure from row ≡ what → kind ≡ kind_by what (list_any is_error_tree ts) → IsRowTrees from files row kind ts
read_trees from files row kind ts None begins utf8 says failed is =
    subst (λ (k : RowKind). IsRowTrees from files row k ts) (sym is) (begins, utf8, says, refl, failed)
read_trees from files row kind ts (Some what) begins utf8 says failed is =
    subst (λ (k : RowKind). IsRowTrees from files row k ts) (sym is) (begins, utf8, says, failed)

-- how many rows end in these
abbrev ends_before : List LoggedRow → ℕ
ends_before [] = 0
ends_before (s ∷ ss) = count_row_ends s.row + ends_before ss

abbrev said_of : Bool → ℕ → LoggedRow → List ℕ
said_of placed n s = said_beside placed n s.kind s.row s.trees

notes_more : (placed : Bool) (n : ℕ) (ss : List LoggedRow) (s : LoggedRow) (m : ℕ) → m ≡ ends_before ss + n
    → log_notes placed n (ss ++ s ∷ []) ≡ log_notes placed n ss ++ said_of placed m s
notes_more placed n [] s m e =
    let same : n ≡ m = omega (arith, e) in
    append-nil (said_of placed n s) ∙ ap (λ (k : ℕ). said_of placed k s) same
notes_more placed n (x ∷ xs) s m e =
    let k = n + count_row_ends x.row in
    let same : m ≡ ends_before xs + k = omega (arith, e) in
    ap (λ l. said_of placed n x ++ l) (notes_more placed k xs s m same)
    ∙ sym (append_assoc (said_of placed n x) (log_notes placed k xs) (said_of placed m s))

any_more : (p : LoggedRow → Bool) (ss : List LoggedRow) (s : LoggedRow)
    → list_any p (ss ++ s ∷ []) ≡ (list_any p ss || p s)
any_more p ss s = list_any-append p ss (s ∷ []) ∙ ap (λ c. list_any p ss || c) (one (p s)) where
  one : (c : Bool) → (c || false) ≡ c
  one true = refl
  one false = refl

ends_more : (ss : List LoggedRow) (s : LoggedRow) → ends_before (ss ++ s ∷ []) ≡ ends_before ss + count_row_ends s.row
ends_more [] s = omega arith
ends_more (x ∷ xs) s =
    let h : ends_before (xs ++ s ∷ []) ≡ ends_before xs + count_row_ends s.row = ends_more xs s in omega (arith, h)

trees_more : (placed : Bool) (ss : List LoggedRow) (s : LoggedRow)
    → trees_of placed (ss ++ s ∷ []) ≡ trees_of placed ss ++ filter (is_logged placed) s.trees
trees_more placed ss s =
    flat_map-append (λ (x : LoggedRow). filter (is_logged placed) x.trees) ss (s ∷ [])
    ∙ ap (λ l. trees_of placed ss ++ l) (append-nil (filter (is_logged placed) s.trees))

abbrev verdict_by : Bool → Bool → Verdict
verdict_by unread error = record { unread = unread; error = error }

abbrev pub HasTrees : Format → (List ℕ → Option Source) → LoggedRow → Type 0
HasTrees from files s = IsRowTrees from files s.row s.kind s.trees

-- what is told of these parts, but for what is missing
abbrev pub told_so_far : List LoggedRow → Verdict
told_so_far logged = verdict_by (list_any is_unread logged) (list_any is_error_severity logged)

-- These parts have these reports, and the writer took what is passed on of them.
pub record Gathering (from : Format) (placed : Bool) (files : List ℕ → Option Source) (parts : List (List ℕ))
    (ts : List Tree) (before after : Option (List ℕ)) (number : ℕ) (seen : Bool) (verdict : Verdict) : Type 0 where
  pub logged : List LoggedRow
  pub rows : map (λ (s : LoggedRow). s.row) logged ≡ parts
  pub each : All (HasTrees from files) logged
  pub trees : ts ≡ trees_of placed logged
  pub notes : Appends before after (log_notes placed 1 logged)
  pub count : number ≡ ends_before logged + 1
  pub saw : seen ≡ list_any is_read logged
  pub is : verdict ≡ told_so_far logged

module _ (from : Format) (placed : Bool) (files : List ℕ → Option Source) where
  pub begin : (ts : List Tree) (before : Option (List ℕ)) (number : ℕ) (verdict : Verdict) → ts ≡ [] → number ≡ 1
      → verdict ≡ record { unread = false; error = false }
      → Gathering from placed files [] ts before before number false verdict
  begin ts before number verdict empty one none = record {
    logged = [];
    rows = refl;
    each = All-nil (HasTrees from files);
    trees = empty;
    notes = Appends-nil before;
    count = one;
    saw = refl;
    is = none;
  }

  pub more : (parts : List (List ℕ)) (ts made both : List Tree) (before after later : Option (List ℕ)) (number : ℕ)
      (seen sees : Bool) (verdict with_it : Verdict) (row : List ℕ) (kind : RowKind) (following : ℕ)
      → Gathering from placed files parts ts before after number seen verdict → IsRowTrees from files row kind made
      → both ≡ ts ++ filter (is_logged placed) made → Appends after later (said_beside placed number kind row made)
      → with_it ≡ record { unread = verdict.unread || kind_is_unread kind; error = verdict.error || kind_is_error kind }
      → sees ≡ (seen || kind_is_read kind) → following ≡ number + count_row_ends row
      → Gathering from placed files (parts ++ row ∷ []) both before later following sees with_it
  more parts ts made both before after later number seen sees verdict with_it row kind following p are joined said is
      see count_is =
      let s : LoggedRow = record { row = row; kind = kind; trees = made } in
      let counted : number ≡ ends_before p.logged + 1 = p.count in
      let was : verdict ≡ told_so_far p.logged = p.is in
      record {
        logged = p.logged ++ s ∷ [];
        rows = map-append row_of p.logged (s ∷ []) ∙ ap (λ l. l ++ row ∷ []) p.rows;
        each = All-push (HasTrees from files) p.logged s p.each are;
        trees = joined ∙ ap (λ l. l ++ filter (is_logged placed) made) p.trees ∙ sym (trees_more placed p.logged s);
        notes = subst (Appends before later) (sym (notes_more placed 1 p.logged s number counted))
            (Appends-trans before after later (log_notes placed 1 p.logged) (said_of placed number s) p.notes said);
        count = omega (arith, counted, count_is, ends_more p.logged s);
        saw = see ∙ ap (λ (b : Bool). b || kind_is_read kind) p.saw ∙ sym (any_more is_read p.logged s);
        is = is ∙ ap₂ verdict_by
            (ap (λ (v : Verdict). v.unread || kind_is_unread kind) was ∙ sym (any_more is_unread p.logged s))
            (ap (λ (v : Verdict). v.error || kind_is_error kind) was ∙ sym (any_more is_error_severity p.logged s));
      }

  pub all_logged : (parts last : List (List ℕ)) (ts : List Tree) (before after : Option (List ℕ)) (number : ℕ)
      (seen missing : Bool) (verdict whole : Verdict) → parts ≡ last
      → Gathering from placed files parts ts before after number seen verdict → missing ≡ is_missing from seen
      → whole ≡ record { unread = verdict.unread || missing; error = verdict.error }
      → AreLogged from placed files last (λ all notes. (ts ≡ all) × Appends before after notes) whole
  all_logged parts last ts before after number seen missing verdict whole same p is_missed is = (
    p.logged,
    p.rows ∙ same,
    p.each,
    (p.trees, p.notes),
    is ∙ ap₂ verdict_by
        (ap₂ (λ (v : Verdict) (m : Bool). v.unread || m) p.is (is_missed ∙ ap (is_missing from) p.saw))
        (ap (λ (v : Verdict). v.error) p.is),
  )

  -- ---- after an error

  -- the parts before this one
  pub begun : (parts others all : List (List ℕ)) (ts : List Tree) (before after : Option (List ℕ)) (number : ℕ)
      (seen : Bool) (verdict : Verdict) → all ≡ parts ++ others
      → Gathering from placed files parts ts before after number seen verdict
      → AreLoggedFirst from placed files all (TakesBeginning before after)
  begun parts others all ts before after number seen verdict same p = (
    p.logged,
    others,
    same ∙ ap (λ l. l ++ others) (sym p.rows),
    p.each,
    all_taken before after (log_notes placed 1 p.logged) p.notes,
  )

  -- and a beginning of what is passed on of this one
  pub begun_with : (parts others all : List (List ℕ)) (ts made : List Tree) (before after later : Option (List ℕ))
      (number : ℕ) (seen : Bool) (verdict : Verdict) (row : List ℕ) (kind : RowKind)
      → all ≡ (parts ++ row ∷ []) ++ others
      → Gathering from placed files parts ts before after number seen verdict → IsRowTrees from files row kind made
      → TakesBeginning after later (said_beside placed number kind row made)
      → AreLoggedFirst from placed files all (TakesBeginning before later)
  begun_with parts others all ts made before after later number seen verdict row kind same p are said =
      let s : LoggedRow = record { row = row; kind = kind; trees = made } in
      let rows = map-append row_of p.logged (s ∷ []) ∙ ap (λ l. l ++ row ∷ []) p.rows in (
        p.logged ++ s ∷ [],
        others,
        same ∙ ap (λ l. l ++ others) (sym rows),
        All-push (HasTrees from files) p.logged s p.each are,
        subst (TakesBeginning before later) (sym (notes_more placed 1 p.logged s number p.count))
            (taken_then before after later (log_notes placed 1 p.logged) (said_of placed number s) p.notes said),
      )

-- ---- parts that are passed

pub one_more_taken : {X : Type 0} (look : X → List ℕ) (xs : List X) (i : ℕ) (x : X) → i < length xs
    → x ≡ get_or xs i x → map look (take (i + 1) xs) ≡ map look (take i xs) ++ look x ∷ []
one_more_taken look xs i x h is = ap (map look) (next_taken xs i x h is) ∙ map-append look (take i xs) (x ∷ [])

pub parted_at : {X : Type 0} (look : X → List ℕ) (xs : List X) (i : ℕ)
    → map look xs ≡ map look (take i xs) ++ map look (drop i xs)
parted_at look xs i = ap (map look) (sym (take-append-drop i xs)) ∙ map-append look (take i xs) (drop i xs)

pub parted_after : {X : Type 0} (look : X → List ℕ) (xs : List X) (i : ℕ) (x : X) → i < length xs
    → x ≡ get_or xs i x → map look xs ≡ (map look (take i xs) ++ look x ∷ []) ++ map look (drop (i + 1) xs)
parted_after look xs i x h is =
    parted_at look xs (i + 1) ∙ ap (λ l. l ++ map look (drop (i + 1) xs)) (one_more_taken look xs i x h is)

pub one_more_known : {X : Type 0} (look : X → List ℕ) (holds : List ℕ → Type 0) (xs : List X) (i : ℕ) (x : X)
    → i < length xs → x ≡ get_or xs i x → All holds (map look (take i xs)) → holds (look x)
    → All holds (map look (take (i + 1) xs))
one_more_known look holds xs i x h is before here =
    subst (All holds) (sym (one_more_taken look xs i x h is))
    (All-push holds (map look (take i xs)) (look x) before here)

-- ---- where the files are found

module _ {F : Type 0} (from : Format) (placed : Bool) (found : F → List ℕ → Option Source)
    (knows : F → List ℕ → Type 0) (first later : F) where
  each_logged : (logged : List LoggedRow) (others : List (List ℕ))
      → Goes (found first) (knows first) (found later) (knows later)
      → All (AreKnown from (knows later)) (map row_of logged ++ others) → All (HasTrees from (found later)) logged
      → All (IsLogged from (IsFoundBy found knows first) (found later)) logged
  each_logged [] others goes known has = All-nil (IsLogged from (IsFoundBy found knows first) (found later))
  each_logged (s ∷ ss) others goes known has =
      let here = All-head (AreKnown from (knows later)) s.row (map row_of ss ++ others) known in
      All-cons (IsLogged from (IsFoundBy found knows first) (found later)) s ss (
        (λ d utf8 begins is. (later, goes, here d utf8 begins is, refl)),
        All-head (HasTrees from (found later)) s ss has,
      )
      (each_logged ss others goes (All-tail (AreKnown from (knows later)) s.row (map row_of ss ++ others) known)
      (All-tail (HasTrees from (found later)) s ss has))

  -- all parts
  pub logs_all : (told : Option (List ℕ)) (parts : List (List ℕ)) (says holds : List Tree → List ℕ → Type 0)
      (verdict : Verdict) → IfSome told (λ bytes. parts ≡ parts_of bytes)
      → All (AreKnown from (knows later)) parts → Goes (found first) (knows first) (found later) (knows later)
      → AreLogged from placed (found later) parts says verdict
      → ((ts : List Tree) (notes : List ℕ) → says ts notes → holds ts notes)
      → IfSome told (λ bytes. Logs from placed (IsFoundBy found knows first) bytes holds verdict)
  logs_all None parts says holds verdict are known goes h give = tt
  logs_all (Some bytes) parts says holds verdict are known goes (logged, rows, has, said, is) give = (
    found later,
    logged,
    rows ∙ are,
    each_logged logged [] goes
        (subst (All (AreKnown from (knows later))) (sym (append-nil (map row_of logged) ∙ rows)) known) has,
    give (trees_of placed logged) (log_notes placed 1 logged) said,
    is,
  )

  pub logs_some : (told : Option (List ℕ)) (parts : List (List ℕ)) (says holds : List Tree → List ℕ → Type 0)
      (verdict : Verdict) → IfSome told (λ bytes. parts ≡ parts_of bytes)
      → All (AreKnown from (knows later)) parts → Goes (found first) (knows first) (found later) (knows later)
      → AreLogged from placed (found later) parts says verdict
      → ((ts : List Tree) (notes : List ℕ) → says ts notes → holds ts notes)
      → IfSome told (λ bytes. LogsSome from placed (IsFoundBy found knows first) bytes holds)
  logs_some None parts says holds verdict are known goes h give = tt
  logs_some (Some bytes) parts says holds verdict are known goes h give =
      (verdict, logs_all (Some bytes) parts says holds verdict are known goes h give)

  -- none of them
  pub logs_none : (told : Option (List ℕ)) (holds : List ℕ → Type 0) → holds []
      → IfSome told (λ bytes. LogsFirst from placed (IsFoundBy found knows first) bytes holds)
  logs_none None holds h = tt
  logs_none (Some bytes) holds h = (
    found first,
    [],
    parts_of bytes,
    refl,
    All-nil (IsLogged from (IsFoundBy found knows first) (found first)),
    h,
  )

  -- the first ones
  pub logs_first : (told : Option (List ℕ)) (parts : List (List ℕ)) (holds : List ℕ → Type 0)
      → IfSome told (λ bytes. parts ≡ parts_of bytes) → All (AreKnown from (knows later)) parts
      → Goes (found first) (knows first) (found later) (knows later)
      → AreLoggedFirst from placed (found later) parts holds
      → IfSome told (λ bytes. LogsFirst from placed (IsFoundBy found knows first) bytes holds)
  logs_first None parts holds are known goes h = tt
  logs_first (Some bytes) parts holds are known goes (logged, others, rows, has, notes) = (
    found later,
    logged,
    others,
    sym are ∙ rows,
    each_logged logged others goes (subst (All (AreKnown from (knows later))) rows known) has,
    notes,
  )

-- reports that always read
pub all_read : (ts : List Tree) → All AlwaysReads ts → AllAlwaysRead (trees ts)
all_read [] h = tt
all_read (t ∷ ts) h = (All-head AlwaysReads t ts h, all_read ts (All-tail AlwaysReads t ts h))

-- all of them are the first ones
pub all_first : (from : Format) (placed : Bool) (files : List ℕ → Option Source) (parts : List (List ℕ))
    (ts : List Tree) (before after : Option (List ℕ)) (verdict : Verdict)
    → AreLogged from placed files parts (λ all notes. (ts ≡ all) × Appends before after notes) verdict
    → AreLoggedFirst from placed files parts (TakesBeginning before after)
all_first from placed files parts ts before after verdict (logged, rows, has, (are, notes), is) = (
  logged,
  [],
  sym (append-nil (map row_of logged) ∙ rows),
  has,
  all_taken before after (log_notes placed 1 logged) notes,
)
