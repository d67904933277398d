use Rattle.core_eval.proofs.InstanceLaws.{all_made}
use Rattle.core_eval.proofs.MakingLaws.{joined_first, joined_last, joined_made}
use Rattle.core_eval.proofs.making.append.Goals as goal

pub returns-in_default-first : goal.returns-in_default-first
returns-in_default-first c = λ us vs x y. joined_first us vs c.in-Some.first c.in-Some-others.others x c.in-Some.is
    c.in_default-first.not-Fits y c.in-Some-others.is

pub returns-in_default-others-2 : goal.returns-in_default-others-2
returns-in_default-others-2 c =
    λ us vs x y. joined_last us vs c.in-Some.first c.in-Some-others.others c.in-Fits.terms x c.in-Some.is c.in-Fits.is y
    c.in-Some-others.is c.in_default-others-2.not-Fits

pub returns : goal.returns
returns c = λ us vs x y.
    let first = all_made x c.in-Some.is c.in-Fits.is in
    let others = all_made y c.in-Some-others.is c.in-Fits-others.is in
    joined_made us vs c.in-Fits.terms.items c.in-Fits-others.more.items c.append.new.self.items first.0 first.1 others.0
    others.1 c.in_ok-append.ensures.items
