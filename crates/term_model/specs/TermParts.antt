-- The headline does not rest on this file.
-- What a term is made of.
use Rattle.std.specs.Prelude.{List}
use Rattle.term_model.specs.declared.term.Head.{Head}
use Rattle.term_model.specs.Term.{Tree, node, list_of}

abbrev pub head_of : Tree → Head
head_of (node h _ _) = h

abbrev pub parts_of : Tree → List Tree
parts_of (node _ parts _) = list_of parts

abbrev pub annos_of : Tree → List Tree
annos_of (node _ _ annos) = list_of annos
