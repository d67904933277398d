-- The headline does not rest on this file.
-- Code as it is emitted: from its end to its beginning, so that each address that an instruction leads to is known when
-- the instruction is emitted, but for those of definitions.
use Rattle.std.specs.Prelude.{ℕ, suc, ◌++◌, List, [], ◌∷◌, length, reverse, set, replicate}
use Rattle.core_lang.specs.Program.{no_definitions, more_definitions}
use Rattle.core_lang.specs.Resolved.{ResolvedDefinitions}
use Rattle.strat_code.specs.Code.{Instr, Code}
use Rattle.strat_code.specs.CodeOf.{code_of}
use Rattle.strat_compile.specs.declared.output.Output.{Output}

-- The code from here to the end, and for each label where its definition's code starts. A place in code is the number
-- of instructions from there to the end; a definition is known by its label
pub record Emitted : Type 0 where
  pub code : Code
  pub starts : List ℕ

-- no code
abbrev pub nothing : Emitted
nothing = record { code = []; starts = [] }

-- what the output stands for
unfoldable pub emitted_of : Output → Emitted
emitted_of o = record { code = reverse (code_of o.tables.items o.instrs.items); starts = o.starts.items }

-- how many instructions there are from here to the end
abbrev pub place : Emitted → ℕ
place o = length o.code

-- with this instruction in front
abbrev pub onto : Instr → Emitted → Emitted
onto v o = record { code = v ∷ o.code; starts = o.starts }

-- with k more labels; where they start will be known later
abbrev pub with_labels : ℕ → Emitted → Emitted
with_labels k o = record { code = o.code; starts = o.starts ++ replicate k 1 }

-- the label starts here
abbrev pub starting : ℕ → Emitted → Emitted
starting label o = record { code = o.code; starts = set o.starts label (length o.code) }

-- how many definitions there are
abbrev pub count_of : ResolvedDefinitions → ℕ
count_of no_definitions = 0
count_of (more_definitions y m k s ds) = suc (count_of ds)
