-- The headline does not rest on this file.
-- In each traversal no part is lost.
use Rattle.std.specs.Prelude.{◌≡◌, suc, ◌+◌, List, [], ◌∷◌, length}
use Rattle.term_model.specs.Term.{list_of}
use Rattle.term_model.specs.TermParts.{parts_of}
use Rattle.strat_steps.specs.State.{Record, call_record, choice_record, all_record, one_record, some_record, State, running, failing, ended}

-- in each traversal the parts that are done, the one that is tried and those that are left are as many as the whole has
abbrev pub IsCounted : Record → Type 0
IsCounted (call_record a h) = Unit {0}
IsCounted (choice_record a t s) = Unit {0}
IsCounted (all_record body next t done left) = length (list_of done) + suc (length (list_of left)) ≡ length (parts_of t)
IsCounted (one_record body next t done u left s) =
    length (list_of done) + suc (length (list_of left)) ≡ length (parts_of t)
IsCounted (some_record body next t done u left found s) =
    length (list_of done) + suc (length (list_of left)) ≡ length (parts_of t)

abbrev pub AllCounted : List Record → Type 0
AllCounted [] = Unit {0}
AllCounted (r ∷ K) = IsCounted r × AllCounted K

abbrev pub StateCounted : State → Type 0
StateCounted (running i p t e F T b K l) = AllCounted K
StateCounted (failing e F T b K l) = AllCounted K
StateCounted (ended r l) = Unit {0}
