-- The headline does not rest on this file.
-- Three small programs and their code.
use Rattle.std.specs.Prelude.{ℕ, List, [], ◌∷◌}
use Rattle.term_model.specs.Symbol.{Plain}
use Rattle.core_lang.specs.declared.coordinate.Coordinate.{Coordinate}
use Rattle.core_lang.specs.Program.{Pattern, anything, variable, applied, no_patterns, more_patterns, id, seq, choice, match, build, scope, all, one, some, with_definitions, call, no_strategies, more_strategies, no_definitions, more_definitions}
use Rattle.core_lang.specs.Resolved.{ResolvedStrategy, ResolvedDefinitions, here}
use Rattle.core_lang.specs.Roots.{Root, symbol_root}
use Rattle.strat_code.specs.Code.{Instr, Entry, entry_at, case, all_parts, one_part, some_parts, code_at, parameter_at, match_term, build_term, extend, shrink, count, try, commit, select, jump, traverse, part_done, call_definition, call_closure, end_definition, end_argument, finish, Code}
use Rattle.strat_code.specs.Context.{Context, top, defining, hidden, Knowns, no_knowns, more_knowns, Specialization, specialization_at}

-- a coordinate
abbrev pub far : ℕ → ℕ → Coordinate
far h i = record { layers_up = h; slot = i }

-- f(s) = {x: ?F(x); !x; s}, main = f(id)
abbrev pub small_program : ResolvedDefinitions
small_program =
    more_definitions (here 0) 1 0
    (scope 1 (seq (match (applied (Plain (70 ∷ [])) (more_patterns (variable (here 0)) no_patterns)))
    (seq (build (variable (here 0))) (call (far 1 0) no_strategies no_patterns))))
    (more_definitions (here 0) 0 0 (call (far 1 0) (more_strategies id no_strategies) no_patterns) no_definitions)

-- ?F(x) at the beginning of f, charged the scope and the sequence too
abbrev pub match_of_small : Instr
match_of_small = match_term 3 (applied (Plain (70 ∷ [])) (more_patterns (variable (here 0)) no_patterns))

-- main's call at address 0; main's body at 2, the code of its argument id at 3; the body of f at 6, in a frame with
-- room for x
abbrev pub small_code : Code
small_code =
    call_definition 1 0 2 0 1 [] no_patterns ∷
    finish ∷
    -- 2: the body of main
    call_definition 1 1 6 1 5 (code_at 3 ∷ []) no_patterns ∷
    count 1 ∷
    end_argument ∷
    end_definition ∷
    -- 6: the body of f; the build is charged the second sequence
    match_of_small ∷
    build_term 2 (variable (here 0)) ∷
    call_closure 1 (here 0) ∷
    end_definition ∷ []

-- {x: ?F(x); !x}, where F has this number
abbrev pub unwraps : ℕ → ResolvedStrategy
unwraps f = scope 1 (seq (match (applied (Plain (f ∷ [])) (more_patterns (variable (here 0)) no_patterns)))
    (build (variable (here 0))))

-- a call without arguments
abbrev pub call_of : Coordinate → ResolvedStrategy
call_of y = call y no_strategies no_patterns

-- the argument of main's call: try(rules)
abbrev pub tries_rules : ResolvedStrategy
tries_rules = call (far 1 2) (more_strategies (call_of (far 1 1)) no_strategies) no_patterns

-- bottomup(s) = all(bottomup(s)); s, rules = F(x) -> x <+ G(x) -> x, try(s) = s <+ id, main = bottomup(try(rules))
abbrev pub walking_program : ResolvedDefinitions
walking_program =
    more_definitions (here 0) 1 0
    (seq (all (call (far 1 0) (more_strategies (call_of (here 0)) no_strategies) no_patterns)) (call_of (here 0)))
    (more_definitions (here 0) 0 0 (choice (unwraps 70) id (unwraps 71))
    (more_definitions (here 0) 1 0 (choice (call_of (here 0)) id id)
    (more_definitions (here 0) 0 0 (call (far 1 0) (more_strategies tries_rules no_strategies) no_patterns)
    no_definitions)))

abbrev pub walking_entries : List Entry
walking_entries = entry_at 4 0 ∷ entry_at 26 0 ∷ entry_at 37 0 ∷ entry_at 2 0 ∷ []

abbrev pub of_walking : Context
of_walking = defining walking_program walking_entries top

-- the strategy argument of bottomup in main: it looks at no frame, so it is known in the definitions alone
abbrev pub tries_known : Knowns
tries_known = more_knowns tries_rules (hidden no_knowns of_walking) no_knowns

-- the specialization of bottomup for try(rules)
abbrev pub walking_specializations : List Specialization
walking_specializations = specialization_at of_walking 0 tries_known 9 0 ∷ []

-- ?F(x) after extend, charged the sequence too, where F has this number
abbrev pub match_in_rule : ℕ → Instr
match_in_rule f = match_term 2 (applied (Plain (f ∷ [])) (more_patterns (variable (here 0)) no_patterns))

-- the root F(_), and G(_)
abbrev pub root_f : Root
root_f = symbol_root (Plain (70 ∷ [])) 1

abbrev pub root_g : Root
root_g = symbol_root (Plain (71 ∷ [])) 1

abbrev pub walking_code : Code
walking_code =
    call_definition 1 0 2 0 1 [] no_patterns ∷
    finish ∷
    -- 2: the body of main, which calls the specialization
    call_definition 1 1 9 0 3 [] no_patterns ∷
    end_definition ∷
    -- 4: the body of bottomup
    traverse 2 all_parts 7 ∷
    call_definition 1 1 4 0 6 (parameter_at (here 0) ∷ []) no_patterns ∷
    part_done ∷
    call_closure 1 (here 0) ∷
    end_definition ∷
    -- 9: the specialization of bottomup for try(rules), which calls itself; from 12 on try in place, from 13 on rules
    -- in place
    traverse 2 all_parts 12 ∷
    call_definition 1 1 9 0 11 [] no_patterns ∷
    part_done ∷
    select 3 (case root_f 0 13 24 ∷ case root_g 9 13 24 ∷ []) 24 ∷
    select 3 (case root_f 3 14 19 ∷ []) 19 ∷
    extend 1 1 ∷
    match_in_rule 70 ∷
    build_term 1 (variable (here 0)) ∷
    shrink 1 ∷
    commit 1 23 ∷
    extend 1 1 ∷
    match_in_rule 71 ∷
    build_term 1 (variable (here 0)) ∷
    shrink 1 ∷
    commit 1 25 ∷
    count 1 ∷
    end_definition ∷
    -- 26: the body of rules
    select 1 (case root_f 3 27 32 ∷ []) 32 ∷
    extend 1 1 ∷
    match_in_rule 70 ∷
    build_term 1 (variable (here 0)) ∷
    shrink 1 ∷
    commit 1 36 ∷
    extend 1 1 ∷
    match_in_rule 71 ∷
    build_term 1 (variable (here 0)) ∷
    shrink 1 ∷
    end_definition ∷
    -- 37: the body of try
    try 1 40 ∷
    call_closure 1 (here 0) ∷
    commit 1 41 ∷
    count 1 ∷
    end_definition ∷ []

-- P(p,q)
abbrev pub pair : Pattern Coordinate → Pattern Coordinate → Pattern Coordinate
pair p q = applied (Plain (80 ∷ [])) (more_patterns p (more_patterns q no_patterns))

-- {x: ?P(x,_); try(?P(_,x); !x)}: P(t,t) becomes t, and another P(..) stays
abbrev pub merges : ResolvedStrategy
merges = scope 1 (seq (match (pair (variable (here 0)) anything))
    (call (far 4 0) (more_strategies
    (seq (match (pair anything (variable (here 0)))) (build (variable (here 0)))) no_strategies) no_patterns))

-- merge = {x: ..}
abbrev pub merge_definitions : ResolvedDefinitions
merge_definitions = more_definitions (here 0) 0 0 merges no_definitions

-- try(s) = s <+ id, main = let merge = {x: ..} in some(one(merge)) end
abbrev pub merging_program : ResolvedDefinitions
merging_program =
    more_definitions (here 0) 1 0 (choice (call_of (here 0)) id id)
    (more_definitions (here 0) 0 0 (with_definitions merge_definitions (some (one (call_of (here 0)))))
    no_definitions)

abbrev pub merging_entries : List Entry
merging_entries = entry_at 16 0 ∷ entry_at 2 0 ∷ []

abbrev pub merge_entries : List Entry
merge_entries = entry_at 8 1 ∷ []

abbrev pub merging_code : Code
merging_code =
    call_definition 1 0 2 0 1 [] no_patterns ∷
    finish ∷
    -- 2: the body of main; the first instruction is charged the let too, whose definition's code stands after the jump
    traverse 2 some_parts 7 ∷
    traverse 1 one_part 6 ∷
    call_definition 1 0 8 1 5 [] no_patterns ∷
    part_done ∷
    part_done ∷
    jump 15 ∷
    -- 8: the body of merge, in a frame with room for x; from 9 on try in place, an open call, with its argument from 10
    -- on, which looks at x
    match_term 3 (pair (variable (here 0)) anything) ∷
    try 2 13 ∷
    match_term 3 (pair anything (variable (here 0))) ∷
    build_term 1 (variable (here 0)) ∷
    commit 1 14 ∷
    count 1 ∷
    end_definition ∷
    -- 15: the end of main
    end_definition ∷
    -- 16: the body of try
    try 1 19 ∷
    call_closure 1 (here 0) ∷
    commit 1 20 ∷
    count 1 ∷
    end_definition ∷ []
