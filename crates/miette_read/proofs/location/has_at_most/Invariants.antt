use Rattle.std.proofs.Common.{◌≡◌, ◌+◌, ◌==◌, take}
use Rattle.std.specs.List.{count_by}
use Rattle.miette_read.proofs.location.has_at_most.Given as goal

-- the ends that were passed, and those that may still come
abbrev pub invariant-loop-byte : goal.invariant-loop-byte
invariant-loop-byte l = count_by (λ b. b == 10) (take l.byte-index l.bytes) + l.left ≡ l.most
