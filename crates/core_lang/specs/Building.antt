-- The instance of a pattern: what a build makes.
use Rattle.std.specs.Prelude.{ℕ, Option, Some, None, slice_get}
use Rattle.term_model.specs.declared.term.Head.TheVariants as heads
use Rattle.term_model.specs.Symbol.{Symbol}
use Rattle.term_model.specs.Term.{Tree, node, Trees, end, more}
use Rattle.core_lang.specs.Program.{Pattern, anything, variable, alias, integer, applied, list, like, annotated, Patterns, no_patterns, more_patterns, Elements, no_elements, the_rest, more_elements}
use Rattle.core_lang.specs.Environment.{Bindings}

-- what is held, if anything is
abbrev pub value_at : Option (Option Tree) → Option Tree
value_at None = None
value_at (Some v) = v

-- the term at a place, if there is such a place and it has one
abbrev pub value_in : Option ℕ → Bindings → Option Tree
value_in None e = None
value_in (Some i) e = value_at (slice_get e i)

-- one more term in front
abbrev pub with_front : Option Tree → Option Trees → Option Trees
with_front None ts = None
with_front (Some t) None = None
with_front (Some t) (Some ts) = Some (more t ts)

-- a symbol applied to terms, without annotations
abbrev pub applied_to : Option Trees → Symbol → Option Tree
applied_to None f = None
applied_to (Some ts) f = Some (node (heads.App f) ts end)

-- a list of terms, without annotations
abbrev pub list_term : Option Trees → Option Tree
list_term None = None
list_term (Some ts) = Some (node heads.List ts end)

-- the elements of a list, its annotations dropped
abbrev pub elements_of : Option Tree → Option Trees
elements_of None = None
elements_of (Some (node heads.List ts annos)) = Some ts
elements_of (Some (node (heads.Int z) ts annos)) = None
elements_of (Some (node (heads.App f) ts annos)) = None

-- the first term with the annotations of the second
abbrev pub made_like : Option Tree → Option Tree → Option Tree
made_like None v = None
made_like (Some t) None = None
made_like (Some (node h ts annos)) (Some (node g us others)) = Some (node h ts others)

-- the term with these annotations in the place of its own
abbrev pub made_with : Option Tree → Option Trees → Option Tree
made_with None us = None
made_with (Some t) None = None
made_with (Some (node h ts annos)) (Some us) = Some (node h ts us)

-- patterns are read by the place of each variable
module _ {X : Type 0} (place : X → Option ℕ) where
  abbrev mutual
    -- the instance of a pattern, of any size; none where a variable has nothing or a tail is no list
    pub instance : Pattern X → Bindings → Option Tree
    instance anything e = None
    instance (variable x) e = value_in (place x) e
    instance (alias x p) e = None
    instance (integer z) e = Some (node (heads.Int z) end end)
    instance (applied f ps) e = applied_to (instances ps e) f
    instance (list ps) e = list_term (element_instances ps e)
    instance (like p x) e = made_like (instance p e) (value_in (place x) e)
    instance (annotated p qs) e = made_with (instance p e) (instances qs e)

    pub instances : Patterns X → Bindings → Option Trees
    instances no_patterns e = Some end
    instances (more_patterns p ps) e = with_front (instance p e) (instances ps e)

    pub element_instances : Elements X → Bindings → Option Trees
    element_instances no_elements e = Some end
    element_instances (the_rest p) e = elements_of (instance p e)
    element_instances (more_elements p ps) e = with_front (instance p e) (element_instances ps e)
