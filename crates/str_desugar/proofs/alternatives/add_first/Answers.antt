use Rattle.std.proofs.Common.{◌∙◌, ◌∷◌, ◌++◌, [], List, not, ap, sym, subst}
use Rattle.std.specs.List.{list_any}
use Rattle.std.proofs.lemmas.List.{map-append}
use Rattle.indexmap.specs.IndexSet.{insert_key}
use Rattle.str_syntax.specs.Key.{same_key}
use Rattle.str_desugar.specs.Groups.{AreGrouped, Head}
use Rattle.str_desugar.specs.Heads.{read_head, read_heads}
use Rattle.str_desugar.proofs.ReadHeadLaws.{grouped_new, grouped_old}
use Rattle.str_desugar.proofs.alternatives.add_first.Goals as goal

pub returns-then-not-is_new : goal.returns-then-not-is_new
returns-then-not-is_new c = λ heads grouped.
    let keys = c.args.keys.now in
    grouped_old heads (read_heads c.args.firsts.now.items) keys c.insert.new.self (read_head c.args.head.now) grouped
    (c.in_ok-is_new.ensures.inserted ∙ ap (insert_key same_key keys) c.key.ensures)
    (sym (ap (λ k. not (list_any (same_key k) keys)) c.key.ensures) ∙ sym c.in_ok-is_new.ensures.new ∙
    c.if-not-is_new.true)

pub returns : goal.returns
returns c = λ heads grouped.
    let keys = c.args.keys.now in
    let firsts = c.args.firsts.now.items in
    let more = grouped_new heads (read_heads firsts) keys c.insert.new.self (read_head c.args.head.now) grouped
    (c.in_ok-is_new.ensures.inserted ∙ ap (insert_key same_key keys) c.key.ensures)
    (sym (ap (λ k. not (list_any (same_key k) keys)) c.key.ensures) ∙ sym c.in_ok-is_new.ensures.new ∙
    c.if-not-is_new.false) in
    let P : List Head → Type 0 = λ fs. AreGrouped (heads ++ read_head c.args.head.now ∷ []) fs c.insert.new.self in
    subst P
    (sym (ap read_heads c.in_ok-push.ensures.items ∙ map-append (λ f. read_head f.now) firsts (c.args.head ∷ []))) more
