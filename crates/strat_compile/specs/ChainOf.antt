-- The headline does not rest on this file.
-- What the chains of the Rust code are seen as.
use Rattle.std.specs.Prelude.{ℕ, List, map, reverse, Option, IfSome, Vec}
use Rattle.std.specs.declared.alloc.Global.{Global}
use Rattle.core_lang.specs.Resolved.{ResolvedStrategy}
use Rattle.core_lang.specs.Roots as roots
use Rattle.strat_code.specs.CodeOf.{root_of}
use Rattle.strat_code.specs.Context.{Context}
use Rattle.strat_code.specs.declared.instr.Root.{Root}
use Rattle.strat_compile.specs.Asking.{AsksOnto, AsksInside}
use Rattle.strat_compile.specs.Chains as model
use Rattle.strat_compile.specs.declared.chain.Body.{Body}
use Rattle.strat_compile.specs.declared.chain.Chain.{Chain}

-- roots that are kept with the last one first
abbrev pub roots_of : List Root → List roots.Root
roots_of rs = reverse (map root_of rs)

abbrev pub body_of : Body → model.Body
body_of b = record { roots = roots_of b.roots.items; nodes = b.nodes; start = b.start }

abbrev pub bodies_of : Chain → List model.Body
bodies_of c = reverse (map body_of c.bodies.items)

-- where nodes are found, the strategy asks for the roots that the second roots have more than the first, and has that
-- number of nodes where the term has none of them
abbrev pub Finds : Context → ResolvedStrategy → (old new : Vec Root Global) → Option ℕ → Type 0
Finds C s old new found = IfSome found (λ nodes. AsksOnto C s (roots_of old.items) (roots_of new.items) nodes)

abbrev pub FindsInside : Context → ResolvedStrategy → (old new : Vec Root Global) → Option ℕ → Type 0
FindsInside C s old new found = IfSome found (λ nodes. AsksInside C s (roots_of old.items) (roots_of new.items) nodes)
