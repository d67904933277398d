-- The headline does not rest on this file.
-- An environment over coordinates that stands for one over names.
use Rattle.std.specs.Prelude.{◌≡◌, ℕ, List, [], ◌∷◌, length}
use Rattle.core_lang.specs.Named.{NamedStrategy, NamedDefinitions, NamedEnvironment, NamedClosures, Name}
use Rattle.core_lang.specs.Resolved.{ResolvedStrategy, ResolvedDefinitions, ResolvedEnvironment, ResolvedClosures}
use Rattle.core_lang.specs.Environment.{outermost, layer, definitions, no_closures, more_closures}
use Rattle.core_lang.specs.Resolution.{Scopes, nowhere, names, defined, Resolves, ResolvesDefinitions}

-- the layers that a strategy in this environment stands in
abbrev pub scopes_of : NamedEnvironment → Scopes
scopes_of outermost = nowhere
scopes_of (layer base fs xs cs V) = names fs xs (scopes_of V)
scopes_of (definitions ds V) = defined ds (scopes_of V)

mutual
  -- the same layers at the same bases, with coordinates and numbers for names
  pub data Agree : NamedEnvironment → ResolvedEnvironment → Type 0 where
    agree_outermost : Agree outermost outermost
    agree_layer : {base m k : ℕ} {fs xs : List Name} {cs : NamedClosures} {ds : ResolvedClosures} {V : NamedEnvironment}
        {W : ResolvedEnvironment} →
        k ≡ length xs → AgreeClosures fs cs ds → Agree V W → Agree (layer base fs xs cs V) (layer base m k ds W)
    agree_definitions : {ds : NamedDefinitions} {es : ResolvedDefinitions} {V : NamedEnvironment}
        {W : ResolvedEnvironment} →
        ResolvesDefinitions (defined ds (scopes_of V)) ds es → Agree V W → Agree (definitions ds V) (definitions es W)

  -- a closure for each name: the same strategy, in environments that agree
  pub data AgreeClosures : List Name → NamedClosures → ResolvedClosures → Type 0 where
    agree_no_closures : AgreeClosures [] no_closures no_closures
    agree_more_closures : {f : Name} {fs : List Name} {s : NamedStrategy} {z : ResolvedStrategy} {V : NamedEnvironment}
        {W : ResolvedEnvironment} {cs : NamedClosures} {ds : ResolvedClosures} →
        Resolves (scopes_of V) s z → Agree V W → AgreeClosures fs cs ds →
        AgreeClosures (f ∷ fs) (more_closures s V cs) (more_closures z W ds)
