-- The headline does not rest on this file.
-- What a selection comes to.
use Rattle.std.specs.Prelude.{ℕ}
use Rattle.term_model.specs.Flat.{Meaning}
use Rattle.term_model.specs.Space.{Space}
use Rattle.strat_code.specs.Code.{Instr}
use Rattle.strat_machine.specs.Stacks.{Performs, PutsChoice}
use Rattle.strat_machine.specs.declared.select.Selected.{Selected}
use Rattle.strat_machine.specs.declared.select.Selected.TheVariants as selected
use Rattle.strat_machine.specs.declared.stacks.Stacks.{Stacks}
use Rattle.strat_machine.specs.declared.stacks.Position.{Position}
use Rattle.strat_machine.specs.declared.stacks.Next.TheVariants as nexts

-- a selection comes to this: it is performed, where there is a case once a choice record is put on
abbrev pub Selects : {W R Y N : Type 0} → Space W R Y N → Meaning → Instr → (address : ℕ) → Position R → W →
    Stacks R Y → Selected → Position R → Stacks R Y → Type 0
Selects S M v i p w m selected.NoCase q m1 = Performs S M v i p w m w nexts.Running q m1
Selects S M v i p w m selected.Spent q m1 = Performs S M v i p w m w nexts.Spent q m1
Selects {Y = Y} S M v i p w m (selected.Case otherwise) q m1 = (m2 : Stacks _ Y) → PutsChoice S w m1 otherwise q m2 →
    Performs S M v i p w m w nexts.Running q m2
