use Rattle.std.proofs.Common.{◌≡◌, ℕ, ◌<◌, get_or}
use Rattle.str_lexer.specs.Words.{reserved_bytes}
use Rattle.str_lexer.specs.declared.word.Reserved.TheVariants.{Wildcard}
use Rattle.str_lexer.proofs.word.reserved_word.Given as goal

abbrev pub invariant-loop-reserved : goal.invariant-loop-reserved
invariant-loop-reserved l = (i : ℕ) → i < l.reserved-index →
    reserved_bytes (get_or l.reserved-items i Wildcard) ≡ l.bytes → ⊥
