-- The offsets at which edits of several lists begin.
use Rattle.std.specs.Prelude.{ℕ, ◌≡◌, ◌<◌, ◌≤◌, List, [], Bool, true, ◌&&◌, ◌||◌, ◌==◌, Some, length, nat_le, nat_lt}
use Rattle.std.specs.Prelude.{slice_index_or}
use Rattle.std.specs.BTreeMap.{BTreeMap, get}
use Rattle.std.specs.List.{list_any}
use Rattle.std.specs.Ordering.{nat_cmp}
use Rattle.miette_fixes.specs.declared.edit_starts.EditStart.{EditStart}
use Rattle.miette_fixes.specs.rules.ApplyingAll.{all_edits}
use Rattle.miette_fixes.specs.rules.Edits.{Replacement, end_of}

-- whether an edit begins at an offset, and whether it also has this length
abbrev pub begins_at : ℕ → Replacement → Bool
begins_at offset edit = edit.span.offset == offset

abbrev pub begins_with : ℕ → ℕ → Replacement → Bool
begins_with offset len edit = (edit.span.offset == offset) && (edit.span.len == len)

-- For each offset at which an edit of these lists begins: the greatest length of such an edit, and the index of a list
-- that has one. Other offsets have no entry.
pub record AreEditStarts (begun : BTreeMap ℕ EditStart) (lists : List (List Replacement)) : Type 0 where
  pub one : (offset : ℕ) (it : EditStart) → get nat_cmp begun offset ≡ Some it →
      list_any (begins_with offset it.len) (all_edits lists) ≡ true
  pub each : (offset len : ℕ) → list_any (begins_with offset len) (all_edits lists) ≡ true →
      (it : EditStart) × (get nat_cmp begun offset ≡ Some it) × (len ≤ it.len)
  pub whose : (offset : ℕ) (it : EditStart) → get nat_cmp begun offset ≡ Some it →
      (it.list < length lists) × (list_any (begins_at offset) (slice_index_or lists it.list []) ≡ true)

-- Two edits conflict if the other one begins at this one's offset, begins before it and reaches it, or begins inside
-- it.
abbrev pub meets_from : Replacement → Replacement → Bool
meets_from edit other = (other.span.offset == edit.span.offset)
    || (nat_lt other.span.offset edit.span.offset && nat_lt edit.span.offset (end_of other))

abbrev pub is_inside : Replacement → Replacement → Bool
is_inside edit other = nat_le edit.span.offset other.span.offset && nat_lt other.span.offset (end_of edit)
