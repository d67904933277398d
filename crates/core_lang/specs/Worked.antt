-- The headline does not rest on this file.
-- Small programs, as the equations bring them into the core, and terms that they rewrite.
use Rattle.std.specs.Prelude.{ℕ, pos, List, [], ◌∷◌}
use Rattle.term_model.specs.declared.term.Head.TheVariants as heads
use Rattle.term_model.specs.Symbol.{Symbol, Plain, Tuple}
use Rattle.term_model.specs.Term.{Tree, node, Trees, end, more}
use Rattle.core_lang.specs.Program.{Pattern, anything, variable, alias, integer, applied, list, like, annotated, Patterns, no_patterns, more_patterns, Elements, the_rest, more_elements, Strategy, id, fail, seq, choice, match, build, scope, some, with_definitions, call, primitive, Strategies, no_strategies, more_strategies, Definitions, no_definitions, more_definitions}
use Rattle.core_lang.specs.Program as forms
use Rattle.core_lang.specs.declared.coordinate.Coordinate.{Coordinate}
use Rattle.core_lang.specs.Named.{Name, written, brought}

abbrev pub Names : Type 0
Names = List Name

abbrev pub main : Name
main = written (109 ∷ 97 ∷ 105 ∷ 110 ∷ [])

abbrev pub f : Name
f = written (102 ∷ [])

abbrev pub s : Name
s = written (115 ∷ [])

abbrev pub try : Name
try = written (116 ∷ 114 ∷ 121 ∷ [])

abbrev pub x : Name
x = written (120 ∷ [])

-- names that the equations bring
abbrev pub y : Name
y = brought 0

abbrev pub c : Name
c = brought 1

abbrev pub z : Name
z = brought 2

abbrev pub F : Symbol
F = Plain (70 ∷ [])

abbrev pub G : Symbol
G = Plain (71 ∷ [])

abbrev pub Pair : Symbol
Pair = Plain (80 ∷ 97 ∷ 105 ∷ 114 ∷ [])

abbrev pub Foo : Symbol
Foo = Plain (70 ∷ 111 ∷ 111 ∷ [])

-- a symbol on one part, and on two
abbrev pub on_one : {X : Type 0} → Symbol → Pattern X → Pattern X
on_one g p = applied g (more_patterns p no_patterns)

abbrev pub on_two : {X : Type 0} → Symbol → Pattern X → Pattern X → Pattern X
on_two g p q = applied g (more_patterns p (more_patterns q no_patterns))

abbrev pub term_on_one : Symbol → Tree → Tree
term_on_one g t = node (heads.App g) (more t end) end

abbrev pub term_on_two : Symbol → Tree → Tree → Tree
term_on_two g t u = node (heads.App g) (more t (more u end)) end

abbrev pub one : Tree
one = node (heads.Int (pos 1)) end end

abbrev pub two : Tree
two = node (heads.Int (pos 2)) end end

abbrev pub five : Tree
five = node (heads.Int (pos 5)) end end

abbrev pub seven : Tree
seven = node (heads.Int (pos 7)) end end

abbrev pub nine : Tree
nine = node (heads.Int (pos 9)) end end

-- a call of a strategy parameter
abbrev pub parameter : Name → Strategy Name Names
parameter g = call g no_strategies no_patterns

-- a call with one strategy
abbrev pub call_with : Name → Strategy Name Names → Strategy Name Names
call_with g r = call g (more_strategies r no_strategies) no_patterns

-- a definition without parameters, and with the strategy parameter s
abbrev pub defined_as : Name → Strategy Name Names → Definitions Name Names → Definitions Name Names
defined_as g r ds = more_definitions g [] [] r ds

abbrev pub defined_over_s : Name → Strategy Name Names → Definitions Name Names → Definitions Name Names
defined_over_s g r ds = more_definitions g (s ∷ []) [] r ds

-- main = ?(x,_); !x
abbrev pub takes_first : Definitions Name Names
takes_first = defined_as main (scope (x ∷ []) (seq (match (on_two Tuple (variable x) anything)) (build (variable x))))
    no_definitions

-- main = ?F(x); !x
abbrev pub takes_inner : Definitions Name Names
takes_inner = defined_as main (scope (x ∷ []) (seq (match (on_one F (variable x))) (build (variable x)))) no_definitions

-- where(!5; ?x), as {y: ?y; (!5; ?x); !y}
abbrev pub where_five : Strategy Name Names
where_five = scope (y ∷ []) (seq (match (variable y))
    (seq (seq (build (integer (pos 5))) (match (variable x))) (build (variable y))))

-- !Pair(<id>,x), as {c,z: ?c; !c; id; ?z; !Pair(z,x)}
abbrev pub builds_pair : Strategy Name Names
builds_pair = scope (c ∷ z ∷ [])
    (seq (match (variable c)) (seq (build (variable c))
    (seq id (seq (match (variable z)) (build (on_two Pair (variable z) (variable x)))))))

-- f(s) = {x: ?F(x); !x; s}
-- main = {x: where(!5; ?x); f(!Pair(<id>,x))}
abbrev pub passes_pair : Definitions Name Names
passes_pair =
    defined_over_s f (scope (x ∷ []) (seq (match (on_one F (variable x))) (seq (build (variable x)) (parameter s))))
    (defined_as main (scope (x ∷ []) (seq where_five (call_with f builds_pair))) no_definitions)

-- main = some(\ 1 -> 9 \)
abbrev pub changes_ones : Definitions Name Names
changes_ones = defined_as main (some (seq (match (integer (pos 1))) (build (integer (pos 9))))) no_definitions

-- f(s) = s
-- try(s) = s <+ id
-- main = {x: try(f(?Foo(x); fail)); !x}
abbrev pub tries_and_builds : Definitions Name Names
tries_and_builds =
    defined_over_s f (parameter s)
    (defined_over_s try (choice (parameter s) id id)
    (defined_as main (scope (x ∷ [])
    (seq (call_with try (call_with f (seq (match (on_one Foo (variable x))) fail))) (build (variable x))))
    no_definitions))

abbrev pub xs : Name
xs = written (120 ∷ 115 ∷ [])

abbrev pub x1 : Name
x1 = brought 3

abbrev pub z1 : Name
z1 = brought 4

abbrev pub add : List ℕ
add = 97 ∷ 100 ∷ 100 ∷ []

abbrev pub three : Tree
three = node (heads.Int (pos 3)) end end

abbrev pub four : Tree
four = node (heads.Int (pos 4)) end end

-- G, as an annotation
abbrev pub marked : Trees
marked = more (node (heads.App G) end end) end

-- try(s) = s <+ id
-- f(s) = try(s)
-- main = f(fail)
abbrev pub hands_on : Definitions Name Names
hands_on = defined_over_s try (choice (parameter s) id id)
    (defined_over_s f (call_with try (parameter s)) (defined_as main (call_with f fail) no_definitions))

-- main = F(!9), as {y,x1,z1: ?y@F(x1); !x1; !9; ?z1; !F(z1)^y}
abbrev pub congruence : Definitions Name Names
congruence = defined_as main (scope (y ∷ x1 ∷ z1 ∷ [])
    (seq (match (alias y (on_one F (variable x1))))
    (seq (build (variable x1))
    (seq (build (integer (pos 9))) (seq (match (variable z1)) (build (like (on_one F (variable z1)) y)))))))
    no_definitions

-- main = ?[x|xs]; !xs
abbrev pub takes_rest : Definitions Name Names
takes_rest = defined_as main (scope (x ∷ xs ∷ [])
    (seq (match (list (more_elements (variable x) (the_rest (variable xs))))) (build (variable xs)))) no_definitions

-- main = ?xs; ![1|xs]
abbrev pub puts_in_front : Definitions Name Names
puts_in_front = defined_as main
    (scope (xs ∷ []) (seq (match (variable xs))
    (build (list (more_elements (integer (pos 1)) (the_rest (variable xs))))))) no_definitions

-- main = ?(x,x); !x
abbrev pub takes_same : Definitions Name Names
takes_same = defined_as main (scope (x ∷ [])
    (seq (match (on_two Tuple (variable x) (variable x))) (build (variable x)))) no_definitions

-- f(|xs) = {x: ?x; !(x,xs)}
-- main = f(|7)
abbrev pub pairs_with : Definitions Name Names
pairs_with = more_definitions f [] (xs ∷ [])
    (scope (x ∷ []) (seq (match (variable x)) (build (on_two Tuple (variable x) (variable xs)))))
    (defined_as main (call f no_strategies (more_patterns (integer (pos 7)) no_patterns)) no_definitions)

-- f(|xs) = id
-- main = f(|x)
abbrev pub lacks_argument : Definitions Name Names
lacks_argument = more_definitions f [] (xs ∷ [])
    id (defined_as main (scope (x ∷ []) (call f no_strategies (more_patterns (variable x) no_patterns))) no_definitions)

-- main = let f = ?x in f; !x end
abbrev pub binds_outside : Definitions Name Names
binds_outside = defined_as main
    (scope (x ∷ []) (with_definitions (defined_as f (match (variable x)) no_definitions)
    (seq (parameter f) (build (variable x))))) no_definitions

-- main = one(\ 2 -> 5 \)
abbrev pub changes_one : Definitions Name Names
changes_one = defined_as main (forms.one (seq (match (integer (pos 2))) (build (integer (pos 5))))) no_definitions

-- main = prim("add", 3, 4)
abbrev pub adds : Definitions Name Names
adds = defined_as main (primitive add (more_patterns (integer (pos 3)) (more_patterns (integer (pos 4)) no_patterns)))
    no_definitions

-- main = ?x; (!(x,x) <+ id)
abbrev pub doubles : Definitions Name Names
doubles = defined_as main (scope (x ∷ [])
    (seq (match (variable x)) (choice (build (on_two Tuple (variable x) (variable x))) id id))) no_definitions

-- this number of layers up, and the position there
abbrev pub at : ℕ → ℕ → Coordinate
at h i = record { layers_up = h; slot = i }

-- where(!5; ?x), over coordinates
abbrev pub where_five_resolved : Strategy Coordinate ℕ
where_five_resolved = scope 1 (seq (match (variable (at 0 0)))
    (seq (seq (build (integer (pos 5))) (match (variable (at 1 0)))) (build (variable (at 0 0)))))

-- !Pair(<id>,x), over coordinates
abbrev pub builds_pair_resolved : Strategy Coordinate ℕ
builds_pair_resolved = scope 2 (seq (match (variable (at 0 0)))
    (seq (build (variable (at 0 0)))
    (seq id (seq (match (variable (at 0 1))) (build (on_two Pair (variable (at 0 1)) (variable (at 1 0))))))))

-- passes_pair, over coordinates
abbrev pub passes_pair_resolved : Definitions Coordinate ℕ
passes_pair_resolved =
    more_definitions (at 0 0) 1 0
    (scope 1 (seq (match (on_one F (variable (at 0 0))))
    (seq (build (variable (at 0 0))) (call (at 1 0) no_strategies no_patterns))))
    (more_definitions (at 0 1) 0 0
    (scope 1 (seq where_five_resolved
    (call (at 2 0) (more_strategies builds_pair_resolved no_strategies) no_patterns))) no_definitions)

-- main = s, over coordinates
abbrev pub alone : Strategy Coordinate ℕ → Definitions Coordinate ℕ
alone s = more_definitions (at 0 0) 0 0 s no_definitions

-- a call without arguments, over coordinates
abbrev pub call_of : Coordinate → Strategy Coordinate ℕ
call_of y = call y no_strategies no_patterns

-- main = f(id), where f(s) = s(id) has an argument for its parameter
abbrev pub fills_parameter : Definitions Coordinate ℕ
fills_parameter =
    more_definitions (at 0 0) 1 0 (call (at 0 0) (more_strategies id no_strategies) no_patterns)
    (more_definitions (at 0 1) 0 0 (call (at 1 0) (more_strategies id no_strategies) no_patterns) no_definitions)
