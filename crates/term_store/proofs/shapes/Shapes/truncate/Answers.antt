use Rattle.std.proofs.Common.{◌≡◌, ◌≤◌, ◌++◌, ◌∙◌, ap, sym, take, subst}
use Rattle.term_store.specs.Places.{PlacedShapes, integers}
use Rattle.term_store.proofs.PlaceLaws.{first_keys}
use Rattle.term_store.proofs.shapes.Shapes.truncate.Goals as goal

pub returns-clause-keys : goal.returns-clause-keys
returns-clause-keys c =
    let all : c.self.inside.small ≤ c.args.count =
    subst (λ (p : PlacedShapes). p.small ≤ c.args.count) (sym c.self.view_is) c.requires in
    subst (λ (p : PlacedShapes). integers c.self.inside.negative c.self.inside.small ++
    c.truncate.new.self.keys ≡ take c.args.count p.keys) c.self.view_is
    (ap (λ ks. integers c.self.inside.negative c.self.inside.small ++ ks) c.truncate.ensures.keys ∙
    first_keys c.self.inside.negative c.self.inside.small c.self.inside.held.keys c.args.count all)
