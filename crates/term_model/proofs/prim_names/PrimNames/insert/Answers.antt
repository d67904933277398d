use Rattle.std.proofs.Common.{rules, ◌≡◌, ◌∙◌, ◌++◌, ◌∷◌, [], ap, sym, subst, Contains, arith}
use Rattle.std.proofs.lemmas.Grind.{common_steps}
use Rattle.std.proofs.lemmas.List.{map-append}
use Rattle.term_model.specs.PrimKey.{key_of, keys_of}
use Rattle.term_model.specs.NameSet.{EachOnce}
use Rattle.term_model.proofs.PrimNameLaws.{one_more_once}
use Rattle.term_model.proofs.prim_names.PrimNames.insert.Goals as goal

pub invariant_of-self-2 : goal.invariant_of-self-2
invariant_of-self-2 c =
    let before = c.self.inside.entries.items in
    let grown : c.push.new.self.items ≡ before ++ (record { name = c.in_ok-name.name; arity = c.args.arity } ∷ []) =
    c.in_ok-push.ensures.items in
    let spelled : c.in_ok-name.name.items ≡ c.args.name.now = search rules in
    let keys : keys_of c.push.new.self.items ≡ keys_of before ++ ((c.args.name.now, c.args.arity) ∷ []) =
    ap keys_of grown ∙ map-append key_of before _ ∙ (λ i. keys_of before ++ ((spelled i, c.args.arity) ∷ [])) in
    let absent : Contains (keys_of before) (c.args.name.now, c.args.arity) → ⊥ =
    λ h. grind (
      arith,
      common_steps,
      c.has.ensures.1 (subst (λ xs. Contains xs (c.args.name.now, c.args.arity)) c.self.view_is h),
    ) in
    subst EachOnce (sym keys) (one_more_once (keys_of before) _ c.self.invariant absent)
