use Rattle.std.proofs.Common.{◌≡◌, subst}
use Rattle.std.specs.List.{fold}
use Rattle.signature_core.specs.SameDeclaration.{declaration_writes}
use Rattle.signature_core.specs.Signature.{Declared}
use Rattle.signature_core.proofs.SortLaws.{fed_declaration}
use Rattle.signature_core.proofs.constructor.ConstructorHash.hash.Goals as goal

-- src/constructor.rt:86:5
pub returns : goal.returns
returns g c =
    let P : Declared → Type 0 =
    λ d. c.hash-3.new.state ≡ fold g.H.Hasher.write c.args.state.now (declaration_writes d) in
    subst P c.self.view_is (fed_declaration g.H.Hasher.write _ _ _ _ c.self.inside.name c.self.inside.arguments.items
    c.self.inside.to c.hash.ensures c.hash-2.ensures c.hash-3.ensures)
