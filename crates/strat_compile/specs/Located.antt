-- The headline does not rest on this file.
-- From places and labels to addresses, when all is emitted.
use Rattle.std.specs.Prelude.{◌≡◌, ℕ, ◌-◌, Option, Some, None, List, map, length, slice_get, Vec}
use Rattle.std.specs.declared.alloc.Global.{Global}
use Rattle.strat_code.specs.declared.instr.Case as declared
use Rattle.strat_code.specs.CodeOf.{cases_of}
use Rattle.strat_code.specs.Code.{Argument, code_at, parameter_at, Case, case, Instr, count, give_up, match_term, build_term, enter, leave, extend, shrink, try, commit, select, jump, traverse, part_done, call_definition, call_closure, end_definition, end_argument, apply_primitive, finish, Code}
use Rattle.strat_compile.specs.Output.{Emitted}

-- the code has n instructions
module _ (n : ℕ) where
  -- the address of a place, which is a number of instructions from there to the end
  abbrev pub address : ℕ → ℕ
  address place = n - place

  abbrev pub address_if : Option ℕ → ℕ
  address_if None = 0
  address_if (Some place) = address place

  abbrev pub argument_located : Argument → Argument
  argument_located (code_at place) = code_at (address place)
  argument_located (parameter_at y) = parameter_at y

  abbrev pub case_located : Case → Case
  case_located (case r k body otherwise) = case r k (address body) (address otherwise)

  -- the second tables are the first ones with addresses in place of places
  pub record AreLocated (tables made : List (Vec declared.Case Global)) : Type 0 where
    pub each : (table skipped : ℕ) → cases_of made table skipped ≡ map case_located (cases_of tables table skipped)

  -- the instruction with addresses in place of places and labels
  abbrev pub located : (starts : List ℕ) → Instr → Instr
  located A (count k) = count k
  located A (give_up k) = give_up k
  located A (match_term k p) = match_term k p
  located A (build_term k p) = build_term k p
  located A (enter k m) = enter k m
  located A leave = leave
  located A (extend k m) = extend k m
  located A (shrink m) = shrink m
  located A (try k a) = try k (address a)
  located A (commit k a) = commit k (address a)
  located A (select k cs a) = select k (map case_located cs) (address a)
  located A (jump a) = jump (address a)
  located A (traverse k m a) = traverse k m (address a)
  located A part_done = part_done
  located A (call_definition k h label room a us ps) =
      call_definition k h (address_if (slice_get A label)) room (address a) (map argument_located us) ps
  located A (call_closure k y) = call_closure k y
  located A end_definition = end_definition
  located A end_argument = end_argument
  located A (apply_primitive k f ps) = apply_primitive k f ps
  located A finish = finish

-- the code with addresses
abbrev pub code_in : Emitted → Code
code_in o = map (located (length o.code) o.starts) o.code
