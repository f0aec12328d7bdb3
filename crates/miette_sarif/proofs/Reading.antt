-- What is seen of a source that is read as a whole, and parts of its text.
use Rattle.std.proofs.Common.{◌≡◌, ℕ, ◌-◌, ◌≤◌, min, Bool, true, false, List, [], length, drop}
use Rattle.std.proofs.Common.{Option, Some, None, refl, sym, ap, ◌∙◌, arith, inl, inr, length-drop, subst}
use Rattle.std.specs.Prelude.{slice_range, unwrap_or}
use Rattle.std.specs.Option.{option_copied}
use denote.Ref.{Bor}
use Rattle.std.proofs.lemmas.Bool.{cases_lt}
use Rattle.std.proofs.lemmas.List.{length-take, nil_from_length, take_all}
use Rattle.miette_protocol.specs.declared.error.MietteError.{MietteError}
use Rattle.miette_protocol.specs.rules.Outcome.{IsReadError}
use Rattle.miette_protocol.specs.rules.Reading.{Source}
use Rattle.miette_tree.proofs.WholeReads.{fault_met, nowhere}
use Rattle.miette_sarif.specs.rules.Findings.{SnapshotValue}
use Rattle.miette_sarif.specs.rules.SourceSnapshot.{seen, snapshot_or}
use Rattle.miette_sarif.specs.steps.SnapshotReads.{IsSnapshot, IsOwnSnapshot, seen_first}

-- ---- what is seen

pub unwrapped : (o : Option (Bor (List ℕ))) (d : Bor (List ℕ)) → d.now ≡ []
    → (unwrap_or o d).now ≡ unwrap_or (option_copied o) []
unwrapped None d e = e
unwrapped (Some name) d e = refl

abbrev source_read : ℕ → List ℕ → List ℕ → SnapshotValue
source_read n name bytes = record { source = record { name = name; number = n }; text = Some bytes }

pub seen_read : (s : Source) (n : ℕ) (name bytes : List ℕ) → name ≡ unwrap_or s.name [] → bytes ≡ s.bytes
    → IsSnapshot n s (record { source = record { name = name; number = n }; text = Some bytes })
seen_read s n name bytes e f = record {
  fault = false;
  possible = λ t. (let no : false ≡ true = t in cc);
  is = ap (λ a. source_read n a bytes) e ∙ ap (source_read n (unwrap_or s.name [])) f;
}

pub seen_unread : (s : Source) (n : ℕ) (e : MietteError) → IsReadError s nowhere e
    → IsSnapshot n s (record { source = record { name = []; number = n }; text = None })
seen_unread s n e h = record { fault = true; possible = λ t. fault_met s e h; is = refl }

-- ---- parts of a text

pub cut_same : (xs : List ℕ) (from to end : ℕ) → end ≡ min to (length xs) → slice_range xs from end
    ≡ slice_range xs from to
cut_same xs from to end e = elim (cases_lt (length xs) to) [
  | inl past ↦ take_all (end - from) (drop from xs) (omega (arith, e, past, length-drop from xs))
      ∙ sym (take_all (to - from) (drop from xs) (omega (arith, past, length-drop from xs)))
  | inr inside ↦ (let same : end ≡ to = omega (arith, e, inside) in ap (slice_range xs from) same)
]

pub cut_none : (xs : List ℕ) (from to end : ℕ) → end ≡ min to (length xs) → end ≤ from → slice_range xs from to ≡ []
cut_none xs from to end e h =
    nil_from_length (slice_range xs from to)
    (omega (arith, e, h, length-take (to - from) (drop from xs), length-drop from xs))

-- ---- the source of a report

pub seen_own : (s : Source) (n : ℕ) (own : Option Source) (it : SnapshotValue) → Some s ≡ own → IsSnapshot n s it
    → IsOwnSnapshot n own (Some it)
seen_own s n own it e h = elim own as (λ o. Some s ≡ o → IsOwnSnapshot n o (Some it)) [
  | None ↦ λ e. (let no : Some s ≡ None = e in cc)
  | Some other ↦ λ e. (let same : s ≡ other = cc in
      record {
        fault = h.fault;
        possible = subst (λ x. h.fault ≡ true → x.always_reads ≡ false) same h.possible;
        is = ap Some (h.is ∙ ap (seen h.fault n) same);
      })
] e

pub seen_none : (n : ℕ) (own : Option Source) → None ≡ own → IsOwnSnapshot n own None
seen_none n own e = subst (λ o. IsOwnSnapshot n o None) e (record { fault = false; possible = refl; is = refl })

-- the own source, else the one that is inherited
pub own_first : (fault : Bool) (n : ℕ) (s : Option Source) (inherited : Option SnapshotValue)
    → seen_first (snapshot_or fault n s None) inherited ≡ snapshot_or fault n s inherited
own_first fault n None inherited = refl
own_first fault n (Some own) inherited = refl
