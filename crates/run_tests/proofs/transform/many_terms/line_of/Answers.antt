use Rattle.run_tests.proofs.transform.many_terms.line_of.Goals as goal

pub returns-in_err-rewrite-clause-covers : goal.returns-in_err-rewrite-clause-covers
returns-in_err-rewrite-clause-covers g c = rw c.rewrite.ensures.same.1 c.requires.covers

pub returns-clause-covers : goal.returns-clause-covers
returns-clause-covers g c = rw c.rewrite.ensures.same.1 c.requires.covers
