-- What is emitted for a choice: alternatives that join a chain, plain arms, and the selects of a chain.
use Rattle.std.proofs.Common.{◌≡◌, ℕ, suc, Option, List, [], ◌∷◌, map, length, subst, sym, ap, ap₂, ◌∙◌, refl, arith, Box, Vec, Global}
use Rattle.core_lang.specs.declared.program.CoreArm.{CoreArm}
use Rattle.core_lang.specs.declared.program.CoreStrategy.{CoreStrategy}
use Rattle.core_lang.specs.declared.program.CoreStrategy.TheVariants as strategies
use Rattle.core_lang.specs.declared.program.CoreStrategy.TheViews.{out-CoreArm}
use Rattle.core_lang.specs.Program.{choice}
use Rattle.core_lang.specs.Resolved.{ResolvedStrategy}
use Rattle.core_lang.specs.Roots.{Root}
use Rattle.core_lang.specs.Views.{Arm, first_of, strategy_of, arm_of}
use Rattle.core_lang.proofs.ReadLaws.{reads_choice, reads_arm}
use Rattle.strat_code.specs.Code.{commit}
use Rattle.strat_compile.specs.Chains.{Body, selects_onto}
use Rattle.strat_compile.specs.Emission.{Emits, emits_choice, emits_select, EmitsChain, chain_end, chain_more, EmitsArm, Closes, Joins, PutsArm, PutsArms, PutsJoined, PutsFirst}
use Rattle.strat_compile.specs.Output.{Emitted, onto, place}
use Rattle.strat_compile.specs.Sites.{Site, context}

none_closes : {w : Option ℕ} {S : Site} {s : ResolvedStrategy} {last : ℕ} {o o1 : Emitted} →
    EmitsChain w S s [] last o o1 → Emits w S 0 s o o1
none_closes (chain_end a) = a

-- no alternative
pub closes_none : (bs : List Body) (last : ℕ) (o1 o2 : Emitted) → length bs ≡ 0 → o2 ≡ o1 → Closes bs last o1 o2
closes_none [] last o1 o2 none same =
    record { close = λ w S s o chain. subst (λ z. Emits w S 0 s o z) (sym same) (none_closes chain) }
closes_none (b ∷ bs) last o1 o2 none same = absurd (omega arith)

pub selects_close : (bs : List Body) (last : ℕ) (o1 o2 : Emitted) → (length bs ≡ 0 → ⊥) →
    o2 ≡ selects_onto 1 bs (place o1) last o1 → Closes bs last o1 o2
selects_close [] last o1 o2 some is = absurd (some refl)
selects_close (b ∷ bs) last o1 o2 some is =
    record { close = λ w S s o chain. subst (λ z. Emits w S 0 s o z) (sym is) (emits_select chain) }

-- an alternative more
pub joined_row : (w : Option ℕ) (S : Site) (arm : Arm) (rs : List Root) (n p to last last1 : ℕ) (b : Body)
    (bs bs1 : List Body) (o1 o2 o3 : Emitted) → Joins (context S) arm rs n → o2 ≡ onto (commit 1 to) o1 →
    Emits w S 0 arm.guard o2 o3 → p ≡ place o3 → b ≡ record { roots = rs; nodes = n; start = p } → bs1 ≡ b ∷ bs →
    last1 ≡ last → PutsJoined w S arm rs n to bs last o1 bs1 last1 o3
joined_row w S arm rs n p to last last1 b bs bs1 o1 o2 o3 joins first guard here body more same =
    let all : bs1 ≡ record { roots = rs; nodes = n; start = place o3 } ∷ bs =
    more ∙ ap (λ d. d ∷ bs) (body ∙ ap (λ q. record { roots = rs; nodes = n; start = q }) here) in
    record {
      bodies = all;
      puts = record {
        put = λ s o is chain. subst (λ k. EmitsChain w S (choice arm.guard arm.then s) bs1 k o o3) (sym same)
            (subst (λ ds. EmitsChain w S (choice arm.guard arm.then s) ds last o o3) (sym all)
            (subst (λ t. EmitsChain w S (choice arm.guard t s) (record { roots = rs; nodes = n; start = place o3 } ∷ bs)
            last o o3) (sym joins.then)
            (chain_more joins.asks joins.some chain
            (subst (λ z. Emits w S 0 arm.guard z o3) (first ∙ ap (λ q. onto (commit 1 q) o1) is) guard))));
      };
    }

pub joined_puts : (w : Option ℕ) (S : Site) (arm : Arm) (rs : List Root) (n to last last1 : ℕ) (bs bs1 : List Body)
    (o o1 o2 : Emitted) → o1 ≡ o → PutsJoined w S arm rs n to bs last o1 bs1 last1 o2 →
    PutsArm w S arm to bs last o bs1 last1 o2
joined_puts w S arm rs n to last last1 bs bs1 o o1 o2 same h =
    subst (λ z. PutsArm w S arm to bs last z bs1 last1 o2) same h.puts

-- an arm that joins no chain, after the code of the chain there is
pub plain_row : (w : Option ℕ) (S : Site) (arm : Arm) (to last p : ℕ) (bs bs1 bs2 : List Body) (o' o1 o2 o3 : Emitted) →
    o1 ≡ o' → Closes bs last o1 o2 → bs1 ≡ [] → EmitsArm w S 0 arm.guard arm.then to o2 o3 →
    p ≡ place o3 → bs2 ≡ bs1 → PutsArm w S arm to bs last o' bs2 p o3
plain_row w S arm to last p bs bs1 bs2 o' o1 o2 o3 as_it_was closes none emitted here same =
    subst (λ z. PutsArm w S arm to bs last z bs2 p o3) as_it_was
    (record {
      put = λ s o is chain. subst (λ ds. EmitsChain w S (choice arm.guard arm.then s) ds p o o3) (sym (same ∙ none))
          (subst (λ q. EmitsChain w S (choice arm.guard arm.then s) [] q o o3) (sym here)
          (chain_end (emits_choice (closes.close w S s o chain)
          (subst (λ q. EmitsArm w S 0 arm.guard arm.then q o2 o3) is emitted))));
    })

pub first_plain : (w : Option ℕ) (S : Site) (x : ℕ) (arm : Arm) (to last : ℕ) (bs : List Body) (o' o1 o2 o3 : Emitted) →
    o1 ≡ o' → Closes bs last o1 o2 → EmitsArm w S x arm.guard arm.then to o2 o3 →
    PutsFirst w S x arm to bs last o' o3
first_plain w S x arm to last bs o' o1 o2 o3 as_it_was closes emitted =
    subst (λ z. PutsFirst w S x arm to bs last z o3) as_it_was
    (record {
      put = λ s o is chain. emits_choice (closes.close w S s o chain)
          (subst (λ q. EmitsArm w S x arm.guard arm.then q o2 o3) is emitted);
    })

pub first_joined : (w : Option ℕ) (S : Site) (x m : ℕ) (arm : Arm) (rs : List Root) (n to last last1 : ℕ)
    (bs bs1 : List Body) (o' o1 o2 o3 : Emitted) → o1 ≡ o' → m ≡ suc x →
    PutsJoined w S arm rs n to bs last o1 bs1 last1 o2 →
    o3 ≡ selects_onto m bs1 (place o2) last1 o2 → PutsFirst w S x arm to bs last o' o3
first_joined w S x m arm rs n to last last1 bs bs1 o' o1 o2 o3 as_it_was nodes joined block =
    let b : Body = record { roots = rs; nodes = n; start = place o2 } in
    let all : bs1 ≡ b ∷ bs = joined.bodies in
    let is : o3 ≡ selects_onto (suc x) (b ∷ bs) (place o2) last1 o2 =
    block ∙ ap₂ (λ k ds. selects_onto k ds (place o2) last1 o2) nodes all in
    subst (λ z. PutsFirst w S x arm to bs last z o3) as_it_was
    (record {
      put = λ s o same chain. subst (λ z. Emits w S x (choice arm.guard arm.then s) o z) (sym is)
          (emits_select (subst (λ ds. EmitsChain w S (choice arm.guard arm.then s) ds last1 o o2)
          all (joined.puts.put s o same chain)));
    })

choice_as : (s z' : CoreStrategy) (a' : CoreArm) (a : Box CoreArm Global) (more : Vec CoreArm Global)
    (z : Box CoreStrategy Global) (arms : List CoreArm) (w : Option ℕ) (S : Site) (x : ℕ) (o o1 : Emitted) →
    s ≡ strategies.Choice a more z → arms ≡ more.items → z' ≡ z.value → a' ≡ a.value →
    Emits w S x (choice (arm_of a').guard (arm_of a').then (first_of (map arm_of arms) (strategy_of z'))) o o1 →
    Emits w S x (strategy_of s) o o1
choice_as s z' a' a more z arms w S x o o1 is items last first h =
    subst (λ r. Emits w S x r o o1) (sym (ap strategy_of is ∙ reads_choice a more z))
    (subst (λ d. Emits w S x (choice (arm_of d).guard (arm_of d).then
    (first_of (map arm_of more.items) (strategy_of z.value))) o o1) first
    (subst (λ d. Emits w S x (choice (arm_of a').guard (arm_of a').then
    (first_of (map arm_of more.items) (strategy_of d))) o o1) last
    (subst (λ ds. Emits w S x (choice (arm_of a').guard (arm_of a').then (first_of (map arm_of ds) (strategy_of z')))
    o o1) items h)))

-- where nothing is emitted yet but what is done at the end
pub chain_begins : (w : Option ℕ) (S : Site) (s : ResolvedStrategy) (p last : ℕ) (bs : List Body) (o o1 : Emitted) →
    Emits w S 0 s o o1 → p ≡ place o1 → bs ≡ [] → last ≡ p → EmitsChain w S s bs last o o1
chain_begins w S s p last bs o o1 h here none is =
    subst (λ ds. EmitsChain w S s ds last o o1) (sym none)
    (subst (λ q. EmitsChain w S s [] q o o1) (sym (is ∙ here)) (chain_end h))

pub choice_row : (s z' : CoreStrategy) (a' : CoreArm) (a : Box CoreArm Global) (more : Vec CoreArm Global)
    (z : Box CoreStrategy Global) (arms : List CoreArm) (w : Option ℕ) (S : Site) (p last k last1 x : ℕ)
    (bs bs1 : List Body) (o o1 o2 o3 : Emitted) → s ≡ strategies.Choice a more z → arms ≡ more.items → z' ≡ z.value →
    a' ≡ a.value → p ≡ place o → last ≡ place o1 → bs ≡ [] → k ≡ last →
    Emits w S 0 (strategy_of z') o o1 → PutsArms w S (map arm_of arms) p bs k o1 bs1 last1 o2 →
    PutsFirst w S x (arm_of a') p bs1 last1 o2 o3 → Emits w S x (strategy_of s) o o3
choice_row s z' a' a more z arms w S p last k last1 x bs bs1 o o1 o2 o3 is items others first here end none same h puts
    begins =
    let chain = puts.put (strategy_of z') o here (chain_begins w S (strategy_of z') last k bs o o1 h end none same) in
    choice_as s z' a' a more z arms w S x o o3 is items others first
    (begins.put (first_of (map arm_of arms) (strategy_of z')) o here chain)

pub of_guard : (a : CoreArm) (w : Option ℕ) (S : Site) (o o1 : Emitted) →
    Emits w S 0 (strategy_of (out-CoreArm a).guard) o o1 → Emits w S 0 (arm_of a).guard o o1
of_guard a w S o o1 h = subst (λ r. Emits w S 0 r.guard o o1) (sym (reads_arm a)) h
