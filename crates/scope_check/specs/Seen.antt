-- What a call can be of: keys, and which of them are seen at a place of a file.
use Rattle.std.specs.Prelude.{Bool, true, false, not, ◌||◌, List, [], ◌∷◌, ◌++◌, map, if◌then◌else◌}
use Rattle.std.specs.List.{list_any}
pub use Rattle.str_syntax.specs.Arity.{strategy_names, term_names}
pub use Rattle.str_syntax.specs.Key.{Key, same_key, plain_key, key_of}
use Rattle.str_syntax.specs.declared.definition.Origin.{Origin}
use Rattle.str_syntax.specs.declared.definition.Origin.TheVariants as origins
use Rattle.str_syntax.specs.Trees.{Bytes, HeadTree, head, definition, DefinitionTrees, no_definitions, more_definitions, FormTree, rule_form, strategy_form, TopTree, SectionTree, signature, rules, strategies, FileTree}

-- which keys a call at a place can be of
abbrev pub Seen : Type 0
Seen = Key → Bool

-- these keys
abbrev pub among : List Key → Seen
among ks k = list_any (same_key k) ks

-- no key
abbrev pub nothing : Seen
nothing k = false

-- what is seen further in and what is seen further out
abbrev pub inner : Seen → Seen → Seen
inner A B k = A k || B k

-- the keys of its strategy parameters
abbrev pub parameter_keys : HeadTree → List Key
parameter_keys (head f ps) = map plain_key (strategy_names ps)

-- the heads of definitions that stand together
abbrev pub heads_in : DefinitionTrees → List HeadTree
heads_in no_definitions = []
heads_in (more_definitions (definition h s) ds) = h ∷ heads_in ds

-- what is seen in a rec, in a let, and in the body of a definition
abbrev pub in_rec : Bytes → Seen → Seen
in_rec f L = inner (among (plain_key f ∷ [])) L

abbrev pub in_let : DefinitionTrees → Seen → Seen
in_let ds L = inner (among (map key_of (heads_in ds))) L

abbrev pub in_body : HeadTree → Seen → Seen
in_body h L = inner (among (parameter_keys h)) L

-- the rules and definitions of a file, in order
abbrev pub tops_in : List SectionTree → List TopTree
tops_in [] = []
tops_in (signature _ ∷ sections) = tops_in sections
tops_in (rules tops ∷ sections) = tops ++ tops_in sections
tops_in (strategies tops ∷ sections) = tops ++ tops_in sections

abbrev pub head_of_form : FormTree → HeadTree
head_of_form (rule_form h r) = h
head_of_form (strategy_form (definition h s)) = h

abbrev pub head_of_top : TopTree → HeadTree
head_of_top t = head_of_form t.form

-- their heads
abbrev pub top_heads : FileTree → List HeadTree
top_heads file = map head_of_top (tops_in file.sections)

-- whether it stands in the file that was handed in, and not in the library
abbrev pub is_own : Origin → Bool
is_own origins.File = true
is_own origins.Library = false

-- whether something comes from there
abbrev pub is_from : Origin → Origin → Bool
is_from origins.File o = is_own o
is_from origins.Library o = not (is_own o)

-- the heads of the rules and definitions that come from there
abbrev pub heads_from : Origin → List TopTree → List HeadTree
heads_from o [] = []
heads_from o (t ∷ tops) = if is_from o t.origin then head_of_top t ∷ heads_from o tops else heads_from o tops

abbrev pub own_heads : FileTree → List HeadTree
own_heads file = heads_from origins.File (tops_in file.sections)

abbrev pub library_heads : FileTree → List HeadTree
library_heads file = heads_from origins.Library (tops_in file.sections)

-- the keys of the library's definitions
abbrev pub library_keys : FileTree → List Key
library_keys file = map key_of (library_heads file)

-- what is seen at top level
abbrev pub at_top : FileTree → Seen
at_top file = among (map key_of (top_heads file))
