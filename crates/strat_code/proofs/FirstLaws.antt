-- The first instruction of a range is charged the nodes around it and one more.
use Rattle.std.proofs.Common.{ℕ, suc, ◌<◌, arith}
use Rattle.std.specs.Prelude.{Option, List}
use Rattle.core_lang.specs.Resolved.{ResolvedStrategy}
use Rattle.strat_code.specs.Code.{Instr, nodes_of, Code, At}
use Rattle.strat_code.specs.Context.{Context, Specialization}
use Rattle.strat_code.specs.Ranges.{Ranges, id_range, fail_range, seq_range, choice_range, else_range, select_range, match_range, build_range, scope_range, inner_range, all_range, one_range, some_range, let_range, let_jump_range, call_range, specialization_range, inline_range, open_range, argument_range, known_range, parameter_range, primitive_range}

-- the first instruction of a range
pub data StandsFirst (code : Code) (i x : ℕ) : Type 0 where
  stands_first : (v : Instr) → At code i v → x < nodes_of v → StandsFirst code i x

first_less : {code : Code} {i x : ℕ} → StandsFirst code i (suc x) → StandsFirst code i x
first_less (stands_first v at h) = stands_first v at (omega arith)

pub first_of_range : {code : Code} {I : List Specialization} {w : Option ℕ} {C : Context} {i x j : ℕ}
    {s : ResolvedStrategy} → Ranges code I w C i x s j → StandsFirst code i x
first_of_range (id_range at) = stands_first _ at (omega arith)
first_of_range (fail_range at) = stands_first _ at (omega arith)
first_of_range (seq_range r q) = first_less (first_of_range r)
first_of_range (choice_range at r a1 q a2 o) = stands_first _ at (omega arith)
first_of_range (else_range at r a1 o) = stands_first _ at (omega arith)
first_of_range (select_range at cs) = stands_first _ at (omega arith)
first_of_range (match_range h at) = stands_first _ at (omega arith)
first_of_range (build_range h at) = stands_first _ at (omega arith)
first_of_range (scope_range at r a1) = stands_first _ at (omega arith)
first_of_range (inner_range at r a1) = stands_first _ at (omega arith)
first_of_range (all_range at r a1) = stands_first _ at (omega arith)
first_of_range (one_range at r a1) = stands_first _ at (omega arith)
first_of_range (some_range at r a1) = stands_first _ at (omega arith)
first_of_range (let_range bs r) = first_less (first_of_range r)
first_of_range (let_jump_range bs r a1) = first_less (first_of_range r)
first_of_range (call_range is h k args ps at) = stands_first _ at (omega arith)
first_of_range (specialization_range n is h has args ps at) = stands_first _ at (omega arith)
first_of_range (inline_range hides h is args r) = first_less (first_of_range r)
first_of_range (open_range hides h is args r) = first_less (first_of_range r)
first_of_range (argument_range none h r) = first_less (first_of_range r)
first_of_range (known_range h r) = first_less (first_of_range r)
first_of_range (parameter_range h at) = stands_first _ at (omega arith)
first_of_range (primitive_range h at) = stands_first _ at (omega arith)
