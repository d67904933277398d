-- The headline does not rest on this file.
-- What the frames of the Rust machine are seen as.
use Rattle.std.specs.Prelude.{◌≡◌, ℕ, ◌+◌, Option, Some, None, List, [], ◌∷◌, map, take, drop}
use Rattle.strat_steps.specs.State as state
use Rattle.strat_steps.specs.State.{frame}
use Rattle.strat_patterns.specs.declared.frames.Closure.{Closure}
use Rattle.strat_patterns.specs.declared.frames.Frame.{Frame}

abbrev pub closure_of : Closure → ℕ × ℕ
closure_of c = (c.entry, c.frame)

-- a frame, whose closures are among those of all frames
abbrev pub frame_in : List Closure → Frame → state.Frame
frame_in cs f = frame f.base f.up (map closure_of (take f.count (drop f.first cs)))

abbrev pub frames_in : List Closure → List Frame → List state.Frame
frames_in cs fs = map (frame_in cs) fs

-- the closures of each frame begin where those of the frame before it end, the first ones at a position, and those of
-- the last frame end with all closures, of which there are `many`
abbrev pub AreLaid : (from : ℕ) → List Frame → (many : ℕ) → Type 0
AreLaid from [] many = from ≡ many
AreLaid from (f ∷ fs) many = (from ≡ f.first) × AreLaid (f.first + f.count) fs many

-- the first place of a frame, and the frame around it
abbrev pub IsBaseOf : Option (ℕ × ℕ) → Option state.Frame → Type 0
IsBaseOf v None = v ≡ None
IsBaseOf v (Some (frame base up cs)) = v ≡ Some (base, up)
