use Rattle.std.proofs.Common.{◌≡◌, ◌+◌, ◌≤◌, [], string_bytes, vec_len, vec_capacity}
use Rattle.std.specs.List.{All}
use Rattle.miette_tree.proofs.cause_texts.empty_texts.Given as goal

-- as many empty texts as calls so far, and the room that there was at first
abbrev pub invariant-loop : goal.invariant-loop
invariant-loop l = record {
  count : vec_len l.list ≡ l.counter;
  empty : All (λ text. string_bytes text ≡ []) l.list.items;
  room : l.count + l.more ≤ vec_capacity l.list;
}
