-- The headline does not rest on this file.
-- How large programs and code are: each definition, strategy, instruction, argument and node of a pattern is one.
use Rattle.std.specs.Prelude.{ℕ, ◌+◌, ◌*◌, ◌≤◌, List, [], ◌∷◌, length}
use Rattle.core_lang.specs.declared.coordinate.Coordinate.{Coordinate}
use Rattle.core_lang.specs.Program.{Pattern, anything, variable, alias, integer, applied, list, like, annotated, Patterns, no_patterns, more_patterns, Elements, no_elements, the_rest, more_elements, id, fail, seq, choice, match, build, scope, all, one, some, with_definitions, call, primitive, no_strategies, more_strategies, no_definitions, more_definitions}
use Rattle.core_lang.specs.Resolved.{ResolvedStrategy, ResolvedStrategies, ResolvedDefinitions}
use Rattle.core_lang.specs.Views.{Arm}
use Rattle.strat_code.specs.Code.{Instr, count, give_up, match_term, build_term, enter, leave, extend, shrink, try, commit, select, jump, traverse, part_done, call_definition, call_closure, end_definition, end_argument, apply_primitive, finish, Code}

abbrev mutual
  pub pattern_size : Pattern Coordinate → ℕ
  pattern_size anything = 1
  pattern_size (variable y) = 1
  pattern_size (alias y p) = 1 + pattern_size p
  pattern_size (integer z) = 1
  pattern_size (applied f ps) = 1 + patterns_size ps
  pattern_size (list ps) = 1 + elements_size ps
  pattern_size (like p y) = 1 + pattern_size p
  pattern_size (annotated p qs) = 1 + pattern_size p + patterns_size qs

  pub patterns_size : Patterns Coordinate → ℕ
  patterns_size no_patterns = 0
  patterns_size (more_patterns p ps) = pattern_size p + patterns_size ps

  pub elements_size : Elements Coordinate → ℕ
  elements_size no_elements = 0
  elements_size (the_rest p) = pattern_size p
  elements_size (more_elements p ps) = pattern_size p + elements_size ps

abbrev mutual
  pub strategy_size : ResolvedStrategy → ℕ
  strategy_size id = 1
  strategy_size fail = 1
  strategy_size (seq s1 s2) = 1 + strategy_size s1 + strategy_size s2
  strategy_size (choice s1 s2 s3) = 1 + strategy_size s1 + strategy_size s2 + strategy_size s3
  strategy_size (match p) = 1 + pattern_size p
  strategy_size (build p) = 1 + pattern_size p
  strategy_size (scope k s) = 1 + strategy_size s
  strategy_size (all s) = 1 + strategy_size s
  strategy_size (one s) = 1 + strategy_size s
  strategy_size (some s) = 1 + strategy_size s
  strategy_size (with_definitions ds s) = 1 + program_size ds + strategy_size s
  strategy_size (call y ss ps) = 1 + strategies_size ss + patterns_size ps
  strategy_size (primitive f ps) = 1 + patterns_size ps

  pub strategies_size : ResolvedStrategies → ℕ
  strategies_size no_strategies = 0
  strategies_size (more_strategies s ss) = strategy_size s + strategies_size ss

  pub program_size : ResolvedDefinitions → ℕ
  program_size no_definitions = 0
  program_size (more_definitions y m k s ds) = 1 + strategy_size s + program_size ds

-- of arms of a choice, without the choice
abbrev pub arms_size : List Arm → ℕ
arms_size [] = 0
arms_size (a ∷ arms) = strategy_size a.guard + strategy_size a.then + arms_size arms

abbrev pub instr_size : Instr → ℕ
instr_size (count k) = 1
instr_size (give_up k) = 1
instr_size (match_term k p) = 1 + pattern_size p
instr_size (build_term k p) = 1 + pattern_size p
instr_size (enter k m) = 1
instr_size leave = 1
instr_size (extend k m) = 1
instr_size (shrink m) = 1
instr_size (try k a) = 1
instr_size (commit k a) = 1
instr_size (select k cs a) = 1
instr_size (jump a) = 1
instr_size (traverse k m a) = 1
instr_size part_done = 1
instr_size (call_definition k h a m to us ps) = 1 + length us + patterns_size ps
instr_size (call_closure k y) = 1
instr_size end_definition = 1
instr_size end_argument = 1
instr_size (apply_primitive k f ps) = 1 + patterns_size ps
instr_size finish = 1

abbrev pub code_size : Code → ℕ
code_size [] = 0
code_size (v ∷ vs) = instr_size v + code_size vs

-- how many times as large as its program code is at most, and by how much more
abbrev pub code_growth : ℕ
code_growth = 10

abbrev pub code_allowance : ℕ
code_allowance = 12400

-- the code is linear in the program
abbrev pub IsLinear : Code → ResolvedDefinitions → Type 0
IsLinear code P = code_size code ≤ code_growth * program_size P + code_allowance
