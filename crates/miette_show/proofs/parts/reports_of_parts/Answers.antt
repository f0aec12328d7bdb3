use Rattle.std.proofs.Common.{◌≡◌, ◌≤◌, ◌+◌, ◌++◌, [], ◌∙◌, ℕ, List, Bool, All, ap, ap₂, drop, length, map, refl}
use Rattle.std.proofs.Common.{subst, sym, take, arith}
use Rattle.std.specs.Prelude.{◌||◌, Vec, filter}
use Rattle.std.specs.Io.KnownBytes.{Appends}
use Rattle.std.specs.declared.alloc.Global.{Global}
use Rattle.std.proofs.lemmas.List.{take_all}
use Rattle.std.proofs.lemmas.List.Elements.{All-append, All-filter, All-nil}
use Rattle.miette_devices.specs.declared.fault.ProgramError.TheVariants.{Write}
use Rattle.miette_devices.specs.views.Device.{TakesBeginning}
use Rattle.miette_protocol.specs.rules.Reading.{Source}
use Rattle.miette_protocol.specs.views.Diagnostic.{meaning_of}
use Rattle.miette_tree.specs.rules.Reads.{AlwaysReads}
use Rattle.miette_tree.specs.rules.Tree.{Tree}
use Rattle.miette_tree.specs.views.Report.{tree_of}
use Rattle.miette_show.specs.rules.Logging.{IsRowTrees, is_logged, said_beside}
use Rattle.miette_show_rows.specs.declared.verdict.RowKind.{RowKind}
use Rattle.miette_show_rows.specs.rules.Parts.{count_row_ends}
use Rattle.miette_show_rows.proofs.Beginnings.{all_taken}
use Rattle.miette_show.proofs.Logging as logging
use Rattle.miette_show.proofs.Logging.{Gathering, one_more_taken, parted_after, parted_at}
use Rattle.miette_show_rows.proofs.NoteEnds.{not_failed, on_err_of}
use Rattle.miette_show.proofs.parts.reports_of_parts.Goals as goal

abbrev items_of : Vec ℕ Global → List ℕ
items_of part = part.items

pub loop-part-init : goal.loop-part-init
loop-part-init g c =
    let tree = tree_of meaning_of (λ (it : Source). it) in
    let empty : map tree c.new-list.result.items ≡ [] = ap (map tree) c.new-list.ensures.items in
    record {
      sound = c.requires.sound;
      reads = subst (All AlwaysReads) (sym empty) (All-nil AlwaysReads);
      gathering = logging.begin c.args.held.now.from c.args.held.now.placed (g.F.Files.found c.args.files.now)
          (map tree c.new-list.result.items) (g.E.Write.contents c.args.faults.now.inner) 1 c.none-verdict.result empty
          refl c.none-verdict.ensures;
    }

-- what is said of a part, by copies of its bytes and its reports
said_by : (holds : List ℕ → Type 0) (placed : Bool) (n : ℕ) (kind : RowKind) (a b : List ℕ) (ts us : List Tree) → a ≡ b
    → ts ≡ us → holds (said_beside placed n kind a ts) → holds (said_beside placed n kind b us)
said_by holds placed n kind a b ts us e f h = subst holds (ap₂ (said_beside placed n kind) e f) h

pub loop-part-preserved : goal.loop-part-preserved
loop-part-preserved g c =
    let l = c.loop-part in
    let from = c.args.held.now.from in
    let placed = c.args.held.now.placed in
    let files = g.F.Files.found c.args.files.now in
    let parts = c.as_slice-part-items.result.now in
    let row = c.part-item.result.items in
    let slice : c.as_slice.result.now ≡ row = c.as_slice.ensures.value in
    let kind = c.in_ok-kind.kind in
    let tree = tree_of meaning_of (λ (it : Source). it) in
    let made = map tree c.in_ok-kind.reports.items in
    let following = c.in_ok-following.following in
    let before = g.E.Write.contents c.args.faults.now.inner in
    let later = g.E.Write.contents c.tell.new.faults.inner in
    let joined : map tree c.push_logged.new.list.items ≡ map tree l.list.items ++ filter (is_logged placed) made =
    c.in_ok-push_logged.ensures
    in
    let said = said_by (Appends (g.E.Write.contents l.faults.inner) later) placed l.number kind _ row _ made slice
    (ap (map tree) c.as_slice-in-loop-part.ensures.value) c.in_ok-tell.ensures.told
    in
    record {
      sound = not_failed _ _ Write c.in_ok-tell.ensures.failed;
      reads = subst (All AlwaysReads) (sym joined)
          (All-append AlwaysReads (map tree l.list.items) (filter (is_logged placed) made) l.invariant.reads
          (All-filter (is_logged placed) AlwaysReads made c.in_ok-kind.ensures.reads));
      gathering = subst (λ (ps : List (List ℕ)). Gathering from placed files ps (map tree c.push_logged.new.list.items)
          before later following c.either-seen.result c.with-verdict.result)
          (sym (one_more_taken items_of parts l.part-index c.part-item.result c.loop-part-test.true c.part-item.is))
          (logging.more from placed files (map items_of (take l.part-index parts)) (map tree l.list.items) made
          (map tree c.push_logged.new.list.items) before (g.E.Write.contents l.faults.inner) later l.number l.seen
          c.either-seen.result l.verdict c.with-verdict.result row kind following l.invariant.gathering
          (subst (λ (r : List ℕ). IsRowTrees from files r kind made) slice c.in_ok-kind.ensures.trees) joined said
          c.with-verdict.ensures (c.either-seen.ensures ∙ ap (λ b. l.seen || b) c.is_read.ensures)
          (c.in_ok-following.ensures.value ∙ ap (λ (r : List ℕ). l.number + count_row_ends r) slice));
    }

pub returns-clause-ok : goal.returns-clause-ok
returns-clause-ok g c =
    let l = c.loop-part in
    let parts = c.as_slice-part-items.result.now in
    let end : length parts ≤ l.part-index = omega (arith, c.loop-part-test.false) in
    logging.all_logged c.args.held.now.from c.args.held.now.placed (g.F.Files.found c.args.files.now)
    (map items_of (take l.part-index parts)) (map items_of c.args.held.now.parts.items)
    (map (tree_of meaning_of (λ (it : Source). it)) l.list.items) (g.E.Write.contents c.args.faults.now.inner)
    (g.E.Write.contents l.faults.inner) l.number l.seen c.is_missing.result l.verdict c.with_missing.result
    (ap (map items_of) (take_all l.part-index parts end ∙ c.as_slice-part-items.ensures.value)) l.invariant.gathering
    c.is_missing.ensures c.with_missing.ensures

-- ---- after an error

pub returns-in_err-kind-clause-beginning : goal.returns-in_err-kind-clause-beginning
returns-in_err-kind-clause-beginning g c =
    let l = c.loop-part in
    let parts = c.as_slice-part-items.result.now in
    on_err_of _ _
    (logging.begun c.args.held.now.from c.args.held.now.placed (g.F.Files.found c.args.files.now)
    (map items_of (take l.part-index parts))
    (map items_of (drop l.part-index parts)) (map items_of c.args.held.now.parts.items)
    (map (tree_of meaning_of (λ (it : Source). it)) l.list.items) (g.E.Write.contents c.args.faults.now.inner)
    (g.E.Write.contents l.faults.inner) l.number l.seen l.verdict
    (ap (map items_of) (sym c.as_slice-part-items.ensures.value) ∙ parted_at items_of parts l.part-index)
    l.invariant.gathering)

pub returns-in_err-tell-clause-beginning : goal.returns-in_err-tell-clause-beginning
returns-in_err-tell-clause-beginning g c =
    let l = c.loop-part in
    let from = c.args.held.now.from in
    let placed = c.args.held.now.placed in
    let files = g.F.Files.found c.args.files.now in
    let parts = c.as_slice-part-items.result.now in
    let row = c.part-item.result.items in
    let slice : c.as_slice.result.now ≡ row = c.as_slice.ensures.value in
    let kind = c.in_ok-kind.kind in
    let tree = tree_of meaning_of (λ (it : Source). it) in
    let made = map tree c.in_ok-kind.reports.items in
    let before = g.E.Write.contents l.faults.inner in
    let later = g.E.Write.contents c.tell.new.faults.inner in
    let taken = said_by (TakesBeginning before later) placed l.number kind _ row _ made slice
    (ap (map tree) c.as_slice-in-loop-part.ensures.value) c.in_err-tell.ensures.beginning
    in
    on_err_of _ _
    (logging.begun_with from placed files (map items_of (take l.part-index parts))
    (map items_of (drop (l.part-index + 1) parts)) (map items_of c.args.held.now.parts.items)
    (map tree l.list.items) made (g.E.Write.contents c.args.faults.now.inner) before later l.number l.seen l.verdict row
    kind (ap (map items_of) (sym c.as_slice-part-items.ensures.value)
    ∙ parted_after items_of parts l.part-index c.part-item.result c.loop-part-test.true c.part-item.is)
    l.invariant.gathering (subst (λ (r : List ℕ). IsRowTrees from files r kind made) slice c.in_ok-kind.ensures.trees)
    taken)

pub returns-in_err-push_logged-clause-beginning : goal.returns-in_err-push_logged-clause-beginning
returns-in_err-push_logged-clause-beginning g c =
    let l = c.loop-part in
    let from = c.args.held.now.from in
    let placed = c.args.held.now.placed in
    let files = g.F.Files.found c.args.files.now in
    let parts = c.as_slice-part-items.result.now in
    let row = c.part-item.result.items in
    let slice : c.as_slice.result.now ≡ row = c.as_slice.ensures.value in
    let kind = c.in_ok-kind.kind in
    let tree = tree_of meaning_of (λ (it : Source). it) in
    let made = map tree c.in_ok-kind.reports.items in
    let before = g.E.Write.contents l.faults.inner in
    let later = g.E.Write.contents c.tell.new.faults.inner in
    let taken = all_taken before later (said_beside placed l.number kind row made)
    (said_by (Appends before later) placed l.number kind _ row _ made slice
    (ap (map tree) c.as_slice-in-loop-part.ensures.value) c.in_ok-tell.ensures.told)
    in
    on_err_of _ _
    (logging.begun_with from placed files (map items_of (take l.part-index parts))
    (map items_of (drop (l.part-index + 1) parts)) (map items_of c.args.held.now.parts.items)
    (map tree l.list.items) made (g.E.Write.contents c.args.faults.now.inner) before later l.number l.seen l.verdict row
    kind (ap (map items_of) (sym c.as_slice-part-items.ensures.value)
    ∙ parted_after items_of parts l.part-index c.part-item.result c.loop-part-test.true c.part-item.is)
    l.invariant.gathering (subst (λ (r : List ℕ). IsRowTrees from files r kind made) slice c.in_ok-kind.ensures.trees)
    taken)

pub returns-in_err-following-clause-beginning : goal.returns-in_err-following-clause-beginning
returns-in_err-following-clause-beginning g c =
    let l = c.loop-part in
    let from = c.args.held.now.from in
    let placed = c.args.held.now.placed in
    let files = g.F.Files.found c.args.files.now in
    let parts = c.as_slice-part-items.result.now in
    let row = c.part-item.result.items in
    let slice : c.as_slice.result.now ≡ row = c.as_slice.ensures.value in
    let kind = c.in_ok-kind.kind in
    let tree = tree_of meaning_of (λ (it : Source). it) in
    let made = map tree c.in_ok-kind.reports.items in
    let before = g.E.Write.contents l.faults.inner in
    let later = g.E.Write.contents c.tell.new.faults.inner in
    let taken = all_taken before later (said_beside placed l.number kind row made)
    (said_by (Appends before later) placed l.number kind _ row _ made slice
    (ap (map tree) c.as_slice-in-loop-part.ensures.value) c.in_ok-tell.ensures.told)
    in
    on_err_of _ _
    (logging.begun_with from placed files (map items_of (take l.part-index parts))
    (map items_of (drop (l.part-index + 1) parts)) (map items_of c.args.held.now.parts.items)
    (map tree l.list.items) made (g.E.Write.contents c.args.faults.now.inner) before later l.number l.seen l.verdict row
    kind (ap (map items_of) (sym c.as_slice-part-items.ensures.value)
    ∙ parted_after items_of parts l.part-index c.part-item.result c.loop-part-test.true c.part-item.is)
    l.invariant.gathering (subst (λ (r : List ℕ). IsRowTrees from files r kind made) slice c.in_ok-kind.ensures.trees)
    taken)
