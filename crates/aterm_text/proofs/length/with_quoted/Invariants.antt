use Rattle.std.proofs.Common.{◌≡◌, ◌+◌, length, drop}
use Rattle.aterm_text.specs.Text.{items_text}
use Rattle.aterm_text.proofs.length.with_quoted.Given as goal

abbrev pub invariant-loop-byte : goal.invariant-loop-byte
invariant-loop-byte l = l.counted + length (items_text (drop l.byte-index l.bytes)) ≡ l.fn.counted +
    (2 + length (items_text l.bytes))
