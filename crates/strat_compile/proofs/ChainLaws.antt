-- The cases of chains, and how many selects they have.
use Rattle.std.proofs.Common.{◌≡◌, ◌+◌, ◌<◌, ◌++◌, ℕ, zero, suc, List, [], ◌∷◌, length, drop, get_or, map, reverse, refl, ap, ap₂, sym, ◌∙◌, arith, Vec, Global}
use Rattle.std.proofs.lemmas.List.{append_assoc, drop_more, length-append, length-map, length-reverse, map-append, reverse-append}
use Rattle.core_lang.specs.Roots.{Root}
use Rattle.strat_code.specs.declared.instr.Case as declared
use Rattle.strat_code.specs.CodeOf.{case_of, cases_of}
use Rattle.strat_code.specs.Code.{Case, case, select, Code}
use Rattle.strat_compile.specs.ChainOf.{body_of}
use Rattle.strat_compile.specs.declared.chain.Body as code
use Rattle.strat_compile.specs.Chains.{Body, nodes_of_case, nodes_passed, place_passed, cases_onto, cases_between, skipped_from, selects_at, selects_from, selects, selects_onto}
use Rattle.strat_compile.specs.Output.{Emitted, onto}
use Rattle.strat_compile.specs.Tables.{IsTable}

pub selects_long : (bs : List Body) (base last : ℕ) (c : Code) → length (selects bs base last c) ≡ length bs + length c
selects_long [] base last c = omega arith
selects_long (b ∷ bs) base last c = let rest = selects_long bs base last c in omega (arith, rest)

-- an alternative after which others come
pub nodes_with_next : (left n m : ℕ) → (left ≡ 0 → ⊥) → m ≡ suc n → m ≡ nodes_passed left n
nodes_with_next zero n m some is = absurd (some refl)
nodes_with_next (suc left) n m some is = is

pub place_of_next : (left base last p : ℕ) → (left ≡ 0 → ⊥) → p ≡ base + left → p ≡ place_passed left base last
place_of_next zero base last p some is = absurd (some refl)
place_of_next (suc left) base last p some is = is

-- the last alternative
pub nodes_alone : (left n : ℕ) → left ≡ 0 → n ≡ nodes_passed left n
nodes_alone zero n h = refl
nodes_alone (suc left) n h = absurd (omega (arith, h))

pub place_of_last : (left base last : ℕ) → left ≡ 0 → last ≡ place_passed left base last
place_of_last zero base last h = refl
place_of_last (suc left) base last h = absurd (omega (arith, h))

pub nodes_no_last : (others n : ℕ) → (others ≡ 0 → ⊥) → 0 ≡ nodes_of_case others n
nodes_no_last zero n some = absurd (some refl)
nodes_no_last (suc others) n some = refl

pub nodes_last : (others n : ℕ) → others ≡ 0 → n ≡ nodes_of_case others n
nodes_last zero n h = refl
nodes_last (suc others) n h = absurd (omega (arith, h))

pub cases_long : (rs : List Root) (n start otherwise : ℕ) → length (cases_onto rs n start otherwise []) ≡ length rs
cases_long [] n start otherwise = refl
cases_long (r ∷ rs) n start otherwise = let rest = cases_long rs n start otherwise in omega (arith, rest)

pub cases_in_front : (rs : List Root) (n start otherwise : ℕ) (cs : List Case) →
    cases_onto rs n start otherwise cs ≡ cases_onto rs n start otherwise [] ++ cs
cases_in_front [] n start otherwise cs = refl
cases_in_front (r ∷ rs) n start otherwise cs =
    ap (λ xs. case r (nodes_of_case (length rs) n) start otherwise ∷ xs) (cases_in_front rs n start otherwise cs)

-- a select more in front
pub selects_next : (ts us : Vec (Vec declared.Case Global) Global) (t j k s d last : ℕ) (js : List ℕ) (cs : List Case)
    (o o1 o2 : Emitted) → j < length js → k ≡ j + 1 → IsTable us.items t cs → ts ≡ us →
    s ≡ get_or js j d → o1 ≡ selects_from (drop k js) cs last o → o2 ≡ onto (select 1 (cases_of ts.items t s) last) o1 →
    o2 ≡ selects_from (drop j js) cs last o
selects_next ts us t j k s d last js cs o o1 o2 h next table same at so_far is =
    is ∙ ap₂ (λ ks z. onto (select 1 ks last) z) (ap (λ vs. cases_of vs.items t s) same ∙
    ap (λ ks. drop s ks) table.cases ∙ ap (λ i. drop i cs) at) (so_far ∙
    ap (λ i. selects_from (drop i js) cs last o) next) ∙
    sym (ap (λ is. selects_from is cs last o) (drop_more js j d h))

after : (xs ys : List Case) → drop (length xs) (xs ++ ys) ≡ ys
after [] ys = refl
after (x ∷ xs) ys = after xs ys

-- the selects by the positions of cases are those by alternatives
each_select : (cs : List Case) (k : ℕ) (bs : List Body) (base last : ℕ) (c : Code) → k ≡ length cs →
    selects_at (skipped_from k bs) (cs ++ cases_between bs base last) last c ≡ selects bs base last c
each_select cs k [] base last c is = refl
each_select cs k (b ∷ bs) base last c is =
    let n = nodes_passed (length bs) b.nodes in
    let to = place_passed (length bs) base last in
    let mine = cases_onto b.roots n b.start to [] in
    let all : cs ++ cases_between (b ∷ bs) base last ≡ (cs ++ mine) ++ cases_between bs base last =
    ap (λ xs. cs ++ xs) (cases_in_front b.roots n b.start to (cases_between bs base last)) ∙
    sym (append_assoc cs mine (cases_between bs base last)) in
    let many : k + length b.roots ≡ length (cs ++ mine) =
    omega (arith, is, length-append cs mine, cases_long b.roots n b.start to) in
    ap₂ (λ xs rest. select 1 xs last ∷ rest) (ap (λ i. drop i (cs ++ cases_between (b ∷ bs) base last)) is ∙
    after cs (cases_between (b ∷ bs) base last))
    (ap (λ xs. selects_at (skipped_from (k + length b.roots) bs) xs last c) all ∙
    each_select (cs ++ mine) (k + length b.roots) bs base last c many)

others_selected : (bs : List Body) (base last : ℕ) (c : Code) →
    selects_at (drop 1 (skipped_from 0 bs)) (cases_between bs base last) last c ≡ selects (drop 1 bs) base last c
others_selected [] base last c = refl
others_selected (b ∷ bs) base last c =
    let n = nodes_passed (length bs) b.nodes in
    let to = place_passed (length bs) base last in
    let mine = cases_onto b.roots n b.start to [] in
    ap (λ xs. selects_at (skipped_from (0 + length b.roots) bs) xs last c)
    (cases_in_front b.roots n b.start to (cases_between bs base last)) ∙
    each_select mine (0 + length b.roots) bs base last c (omega (arith, cases_long b.roots n b.start to))

pub selects_made : (bs : List Body) (base p last n : ℕ) (cs : List Case) (js : List ℕ) (o o1 : Emitted) → p ≡ base →
    cs ≡ cases_between bs p last → js ≡ skipped_from 0 bs →
    o1 ≡ onto (select n cs last) (selects_from (drop 1 js) cs last o) → o1 ≡ selects_onto n bs base last o
selects_made bs base p last n cs js o o1 here at_place skipped is =
    let cases : cs ≡ cases_between bs base last = at_place ∙ ap (λ q. cases_between bs q last) here in
    is ∙ ap₂ (λ xs is. onto (select n xs last) (selects_from (drop 1 is) xs last o)) cases skipped ∙
    ap (λ c. onto (select n (cases_between bs base last) last) (record { code = c; starts = o.starts }))
    (others_selected bs base last o.code)

-- a case more of an alternative
pub case_pushed : (xs ys : List Case) (rs qs : List Root) (r : Root) (n m k start otherwise : ℕ) → rs ≡ r ∷ qs →
    k ≡ length qs → m ≡ nodes_of_case k n → ys ≡ xs ++ case r m start otherwise ∷ [] →
    xs ++ cases_onto rs n start otherwise [] ≡ ys ++ cases_onto qs n start otherwise []
case_pushed xs ys rs qs r n m k start otherwise first left nodes is =
    ap (λ us. xs ++ cases_onto us n start otherwise []) first ∙
    ap (λ j. xs ++ case r j start otherwise ∷ cases_onto qs n start otherwise [])
    (sym (nodes ∙ ap (λ j. nodes_of_case j n) left)) ∙
    sym (append_assoc xs (case r m start otherwise ∷ []) (cases_onto qs n start otherwise [])) ∙
    ap (λ us. us ++ cases_onto qs n start otherwise []) (sym is)

-- the cases of an alternative more
pub body_pushed : (xs ys all : List Case) (bs cs : List Body) (b : Body) (k base last : ℕ) → bs ≡ b ∷ cs →
    k ≡ length cs → all ≡ xs ++ cases_between bs base last →
    ys ≡ xs ++ cases_onto b.roots (nodes_passed k b.nodes) b.start (place_passed k base last) [] →
    all ≡ ys ++ cases_between cs base last
body_pushed xs ys all bs cs b k base last first left so_far is =
    let mine = cases_onto b.roots (nodes_passed (length cs) b.nodes) b.start (place_passed (length cs) base last) [] in
    so_far ∙ ap (λ ds. xs ++ cases_between ds base last) first ∙
    ap (λ us. xs ++ us) (cases_in_front b.roots (nodes_passed (length cs) b.nodes)
    b.start (place_passed (length cs) base last) (cases_between cs base last)) ∙
    sym (append_assoc xs mine (cases_between cs base last)) ∙
    ap (λ us. us ++ cases_between cs base last)
    (ap (λ j. xs ++ cases_onto b.roots (nodes_passed j b.nodes) b.start (place_passed j base last) []) (sym left) ∙
    sym is)

pub skipped_pushed : (js is all : List ℕ) (bs cs : List Body) (b : Body) (k n : ℕ) → bs ≡ b ∷ cs →
    all ≡ js ++ skipped_from k bs → is ≡ js ++ k ∷ [] → n ≡ k + length b.roots → all ≡ is ++ skipped_from n cs
skipped_pushed js is all bs cs b k n first so_far more count =
    so_far ∙ ap (λ ds. js ++ skipped_from k ds) first ∙ ap (λ m. js ++ k ∷ skipped_from m cs) (sym count) ∙
    sym (append_assoc js (k ∷ []) (skipped_from n cs)) ∙ ap (λ us. us ++ skipped_from n cs) (sym more)

pub cases_counted : (xs ys : List declared.Case) (rs : List Root) (n start otherwise : ℕ) →
    map case_of ys ≡ map case_of xs ++ cases_onto rs n start otherwise [] → length ys ≡ length xs + length rs
cases_counted xs ys rs n start otherwise is =
    let one = length-map xs case_of in
    let two = length-map ys case_of in
    let three = length-append (map case_of xs) (cases_onto rs n start otherwise []) in
    let four = cases_long rs n start otherwise in
    omega (arith, one, two, three, four, ap length is)

pub bodies_popped : (xs : List code.Body) (b : code.Body) →
    reverse (map body_of (xs ++ b ∷ [])) ≡ body_of b ∷ reverse (map body_of xs)
bodies_popped xs b = ap reverse (map-append body_of xs (b ∷ [])) ∙ reverse-append (map body_of xs) (body_of b ∷ [])

pub bodies_long : (xs : List code.Body) → length (reverse (map body_of xs)) ≡ length xs
bodies_long xs = length-reverse (map body_of xs) ∙ length-map xs body_of
