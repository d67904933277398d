use Rattle.std.proofs.Common.{rules, ◌≡◌, [], ◌∷◌, map, arith}
use Rattle.std.specs.Option.{option_map, IfSome}
use Rattle.term_model.specs.Flat.{number}
use Rattle.prim_registry.specs.Entries.{entries_of}
use Rattle.prim_registry.specs.RegistryNames.{entry_at}
use Rattle.strat_steps.specs.State.{place_at}
use Rattle.strat_patterns.specs.Loaded.{loaded_of}
use Rattle.strat_machine.proofs.CalculatingLaws.{two_are, calculated_some}
use Rattle.strat_machine.proofs.primitives.calculate.Goals as goal

pub returns : goal.returns
returns g c =
    let s = g.S.TermSpace.space in
    let meaning = g.M.PrimMeaning.answer in
    let place = place_at c.args.frames.now c.args.here in
    let e = map (option_map (s.term_of c.args.space.now)) c.args.slots.now in
    let meant = loaded_of (s.symbol_of c.args.space.now) in
    let ps = c.args.patterns.now in
    let l = c.left-item.result in let r = c.right-item.result in
    let i = c.in_ok-index.index in
    let y = c.in_ok-left.left in let z = c.in_ok-right.right in
    let least = c.in-len2.len_at_least in let most = c.in-len2.len_below in
    let two = two_are ps l r least (omega arith) c.left-item.is c.right-item.is in
    let call : IfSome c.calculate_at.result (λ v. option_map number v ≡
    meaning (entry_at c.args.registry.now i).0 (number y ∷ number z ∷ [])) = search rules in
    calculated_some (entries_of c.args.registry.now) meaning place e meant ps l r c.args.index i y z
    two c.in_ok-index.was c.in_ok-left.ensures c.in_ok-right.ensures c.calculate_at.result call
