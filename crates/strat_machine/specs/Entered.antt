-- The headline does not rest on this file.
-- The Rust machine at the beginning of a definition's code.
use Rattle.std.specs.Prelude.{ℕ, None, List, [], ◌∷◌, ◌++◌, length, replicate}
use Rattle.strat_code.specs.Code.{Argument}
use Rattle.strat_steps.specs.State.{frame, frames_up, closed}
use Rattle.strat_steps.specs.References.{RefState, ref_call, ref_running}
use Rattle.strat_machine.specs.RecordStack.{records_of}
use Rattle.strat_machine.specs.declared.stacks.Stacks.{Stacks}

-- a definition was called whose term arguments have the places from a base on: further places, a new frame, and a
-- record
abbrev pub entered : {R Y : Type 0} → Stacks R Y → (frames entry room next here : ℕ) → List Argument → (base : ℕ) → R →
    RefState R Y
entered m h a k to p us base t =
    ref_running a (length m.frames) t (m.places.slots ++ replicate k None) (m.frames ++
    frame base (frames_up m.frames p h) (closed m.frames p us) ∷ []) m.places.trail m.places.barrier
    (ref_call to p ∷ records_of m.records) m.left
