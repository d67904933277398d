mod Instances
mod Elements
mod Like
use Rattle.strat_patterns.proofs.building.+building.Goals as goal
use Rattle.strat_patterns.proofs.building.+building.Answers.Instances as instances
use Rattle.strat_patterns.proofs.building.+building.Answers.Elements as elements
use Rattle.strat_patterns.proofs.building.+building.Answers.Like as like

pub build-push_all-requires : goal.build-push_all-requires
build-push_all-requires = instances.build-push_all-requires

pub build-apply-requires-clause-name : goal.build-apply-requires-clause-name
build-apply-requires-clause-name = instances.build-apply-requires-clause-name

pub build-apply-requires-clause-standing : goal.build-apply-requires-clause-standing
build-apply-requires-clause-standing = instances.build-apply-requires-clause-standing

pub build-push_all-requires-in-List : goal.build-push_all-requires-in-List
build-push_all-requires-in-List = instances.build-push_all-requires-in-List

pub build-push_rest-requires : goal.build-push_rest-requires
build-push_rest-requires = instances.build-push_rest-requires

pub build-returns-in_ok-built-in-Applied-clause-keeps : goal.build-returns-in_ok-built-in-Applied-clause-keeps
build-returns-in_ok-built-in-Applied-clause-keeps = instances.build-returns-in_ok-built-in-Applied-clause-keeps

pub build-returns-in_ok-built-in-Applied-clause-built : goal.build-returns-in_ok-built-in-Applied-clause-built
build-returns-in_ok-built-in-Applied-clause-built = instances.build-returns-in_ok-built-in-Applied-clause-built

pub build-list-requires-clause-standing : goal.build-list-requires-clause-standing
build-list-requires-clause-standing = instances.build-list-requires-clause-standing

pub build-list-requires-clause-tail : goal.build-list-requires-clause-tail
build-list-requires-clause-tail = instances.build-list-requires-clause-tail

pub build-list-requires-clause-from : goal.build-list-requires-clause-from
build-list-requires-clause-from = instances.build-list-requires-clause-from

pub build-returns-in_ok-built-in-List-clause-keeps : goal.build-returns-in_ok-built-in-List-clause-keeps
build-returns-in_ok-built-in-List-clause-keeps = instances.build-returns-in_ok-built-in-List-clause-keeps

pub build-returns-in_ok-built-in-List-clause-stack : goal.build-returns-in_ok-built-in-List-clause-stack
build-returns-in_ok-built-in-List-clause-stack = instances.build-returns-in_ok-built-in-List-clause-stack

pub build-returns-in_ok-built-in-List-clause-built : goal.build-returns-in_ok-built-in-List-clause-built
build-returns-in_ok-built-in-List-clause-built = instances.build-returns-in_ok-built-in-List-clause-built

pub build-push_all-requires-in-Annotated : goal.build-push_all-requires-in-Annotated
build-push_all-requires-in-Annotated = instances.build-push_all-requires-in-Annotated

pub build-make_with-requires : goal.build-make_with-requires
build-make_with-requires = instances.build-make_with-requires

pub build-returns-in_ok-built-in-Annotated-clause-keeps : goal.build-returns-in_ok-built-in-Annotated-clause-keeps
build-returns-in_ok-built-in-Annotated-clause-keeps = instances.build-returns-in_ok-built-in-Annotated-clause-keeps

pub build-returns-in_ok-built-in-Annotated-clause-built : goal.build-returns-in_ok-built-in-Annotated-clause-built
build-returns-in_ok-built-in-Annotated-clause-built = instances.build-returns-in_ok-built-in-Annotated-clause-built

pub push_all-loop-p-init : goal.push_all-loop-p-init
push_all-loop-p-init = elements.push_all-loop-p-init

pub push_all-build_part-requires : goal.push_all-build_part-requires
push_all-build_part-requires = elements.push_all-build_part-requires

pub push_all-returns-in_err-built-clause-keeps : goal.push_all-returns-in_err-built-clause-keeps
push_all-returns-in_err-built-clause-keeps = elements.push_all-returns-in_err-built-clause-keeps

pub push_all-returns-in_err-kept-clause-keeps : goal.push_all-returns-in_err-kept-clause-keeps
push_all-returns-in_err-kept-clause-keeps = elements.push_all-returns-in_err-kept-clause-keeps

pub push_all-returns-in_default-clause-keeps : goal.push_all-returns-in_default-clause-keeps
push_all-returns-in_default-clause-keeps = elements.push_all-returns-in_default-clause-keeps

pub push_all-returns-in_default-clause-built : goal.push_all-returns-in_default-clause-built
push_all-returns-in_default-clause-built = elements.push_all-returns-in_default-clause-built

pub push_all-loop-p-preserved : goal.push_all-loop-p-preserved
push_all-loop-p-preserved = elements.push_all-loop-p-preserved

pub push_all-returns-then-not-fit-clause-built : goal.push_all-returns-then-not-fit-clause-built
push_all-returns-then-not-fit-clause-built = elements.push_all-returns-then-not-fit-clause-built

pub push_all-returns-clause-built : goal.push_all-returns-clause-built
push_all-returns-clause-built = elements.push_all-returns-clause-built

pub push_rest-push_tail-requires : goal.push_rest-push_tail-requires
push_rest-push_tail-requires = elements.push_rest-push_tail-requires

pub push_rest-returns-in-None-clause-elements : goal.push_rest-returns-in-None-clause-elements
push_rest-returns-in-None-clause-elements = elements.push_rest-returns-in-None-clause-elements

pub push_rest-returns-in_ok-others-in-Some-clause-elements : goal.push_rest-returns-in_ok-others-in-Some-clause-elements
push_rest-returns-in_ok-others-in-Some-clause-elements = elements.push_rest-returns-in_ok-others-in-Some-clause-elements

pub push_tail-push_all-requires : goal.push_tail-push_all-requires
push_tail-push_all-requires = elements.push_tail-push_all-requires

pub push_tail-push_rest-requires : goal.push_tail-push_rest-requires
push_tail-push_rest-requires = elements.push_tail-push_rest-requires

pub push_tail-returns-in_default-clause-elements : goal.push_tail-returns-in_default-clause-elements
push_tail-returns-in_default-clause-elements = elements.push_tail-returns-in_default-clause-elements

pub push_tail-returns-in_ok-tail-in-Variable-clause-elements :
    goal.push_tail-returns-in_ok-tail-in-Variable-clause-elements
push_tail-returns-in_ok-tail-in-Variable-clause-elements =
    elements.push_tail-returns-in_ok-tail-in-Variable-clause-elements

pub push_tail-returns-in_ok-others-in-List-clause-keeps : goal.push_tail-returns-in_ok-others-in-List-clause-keeps
push_tail-returns-in_ok-others-in-List-clause-keeps = elements.push_tail-returns-in_ok-others-in-List-clause-keeps

pub push_tail-returns-in_ok-others-in-List-clause-elements : goal.push_tail-returns-in_ok-others-in-List-clause-elements
push_tail-returns-in_ok-others-in-List-clause-elements = elements.push_tail-returns-in_ok-others-in-List-clause-elements

pub push_tail-returns-then-is_none-clause-elements : goal.push_tail-returns-then-is_none-clause-elements
push_tail-returns-then-is_none-clause-elements = elements.push_tail-returns-then-is_none-clause-elements

pub push_tail-returns-in-Anything-clause-elements : goal.push_tail-returns-in-Anything-clause-elements
push_tail-returns-in-Anything-clause-elements = elements.push_tail-returns-in-Anything-clause-elements

pub push_tail-returns-in-Alias-clause-elements : goal.push_tail-returns-in-Alias-clause-elements
push_tail-returns-in-Alias-clause-elements = elements.push_tail-returns-in-Alias-clause-elements

pub push_tail-returns-in-Integer-clause-elements : goal.push_tail-returns-in-Integer-clause-elements
push_tail-returns-in-Integer-clause-elements = elements.push_tail-returns-in-Integer-clause-elements

pub push_tail-returns-in-Applied-clause-elements : goal.push_tail-returns-in-Applied-clause-elements
push_tail-returns-in-Applied-clause-elements = elements.push_tail-returns-in-Applied-clause-elements

pub push_tail-have_instances-requires : goal.push_tail-have_instances-requires
push_tail-have_instances-requires = elements.push_tail-have_instances-requires

pub push_tail-returns-then-not-branch-clause-elements : goal.push_tail-returns-then-not-branch-clause-elements
push_tail-returns-then-not-branch-clause-elements = elements.push_tail-returns-then-not-branch-clause-elements

pub push_tail-push_tail-requires-in-Annotated : goal.push_tail-push_tail-requires-in-Annotated
push_tail-push_tail-requires-in-Annotated = elements.push_tail-push_tail-requires-in-Annotated

pub push_tail-returns-in_ok-elements-in-Annotated-clause-keeps :
    goal.push_tail-returns-in_ok-elements-in-Annotated-clause-keeps
push_tail-returns-in_ok-elements-in-Annotated-clause-keeps =
    elements.push_tail-returns-in_ok-elements-in-Annotated-clause-keeps

pub push_tail-returns-in_ok-elements-in-Annotated-clause-elements :
    goal.push_tail-returns-in_ok-elements-in-Annotated-clause-elements
push_tail-returns-in_ok-elements-in-Annotated-clause-elements =
    elements.push_tail-returns-in_ok-elements-in-Annotated-clause-elements

pub make_like-returns-then-is_bare-clause-built : goal.make_like-returns-then-is_bare-clause-built
make_like-returns-then-is_bare-clause-built = like.make_like-returns-then-is_bare-clause-built

pub make_like-make_with-requires : goal.make_like-make_with-requires
make_like-make_with-requires = like.make_like-make_with-requires

pub make_like-returns-clause-built : goal.make_like-returns-clause-built
make_like-returns-clause-built = like.make_like-returns-clause-built

pub make_with-returns-in_ok-built-in-Variable-clause-built : goal.make_with-returns-in_ok-built-in-Variable-clause-built
make_with-returns-in_ok-built-in-Variable-clause-built = like.make_with-returns-in_ok-built-in-Variable-clause-built

pub make_with-returns-in_ok-built-in-Integer-clause-keeps : goal.make_with-returns-in_ok-built-in-Integer-clause-keeps
make_with-returns-in_ok-built-in-Integer-clause-keeps = like.make_with-returns-in_ok-built-in-Integer-clause-keeps

pub make_with-returns-in_ok-built-in-Integer-clause-built : goal.make_with-returns-in_ok-built-in-Integer-clause-built
make_with-returns-in_ok-built-in-Integer-clause-built = like.make_with-returns-in_ok-built-in-Integer-clause-built

pub make_with-returns-in_ok-built-in-Applied-clause-keeps : goal.make_with-returns-in_ok-built-in-Applied-clause-keeps
make_with-returns-in_ok-built-in-Applied-clause-keeps = like.make_with-returns-in_ok-built-in-Applied-clause-keeps

pub make_with-returns-in_ok-built-in-Applied-clause-built : goal.make_with-returns-in_ok-built-in-Applied-clause-built
make_with-returns-in_ok-built-in-Applied-clause-built = like.make_with-returns-in_ok-built-in-Applied-clause-built

pub make_with-returns-in_ok-built-in-List-clause-keeps : goal.make_with-returns-in_ok-built-in-List-clause-keeps
make_with-returns-in_ok-built-in-List-clause-keeps = like.make_with-returns-in_ok-built-in-List-clause-keeps

pub make_with-returns-in_ok-built-in-List-clause-built : goal.make_with-returns-in_ok-built-in-List-clause-built
make_with-returns-in_ok-built-in-List-clause-built = like.make_with-returns-in_ok-built-in-List-clause-built

pub make_with-returns-in_ok-built-in-Like-clause-built : goal.make_with-returns-in_ok-built-in-Like-clause-built
make_with-returns-in_ok-built-in-Like-clause-built = like.make_with-returns-in_ok-built-in-Like-clause-built

pub make_with-have_instances-requires : goal.make_with-have_instances-requires
make_with-have_instances-requires = like.make_with-have_instances-requires

pub make_with-returns-then-not-branch-clause-built : goal.make_with-returns-then-not-branch-clause-built
make_with-returns-then-not-branch-clause-built = like.make_with-returns-then-not-branch-clause-built

pub make_with-make_with-requires-in-Annotated : goal.make_with-make_with-requires-in-Annotated
make_with-make_with-requires-in-Annotated = like.make_with-make_with-requires-in-Annotated

pub make_with-returns-in_err-built-in-Annotated-clause-keeps :
    goal.make_with-returns-in_err-built-in-Annotated-clause-keeps
make_with-returns-in_err-built-in-Annotated-clause-keeps = like.make_with-returns-in_err-built-in-Annotated-clause-keeps

pub make_with-returns-in_ok-built-in-Annotated-clause-built :
    goal.make_with-returns-in_ok-built-in-Annotated-clause-built
make_with-returns-in_ok-built-in-Annotated-clause-built = like.make_with-returns-in_ok-built-in-Annotated-clause-built

pub have_instances-returns-in-NoInstance-clause-all : goal.have_instances-returns-in-NoInstance-clause-all
have_instances-returns-in-NoInstance-clause-all = like.have_instances-returns-in-NoInstance-clause-all

pub have_instances-returns-in-All-clause-all : goal.have_instances-returns-in-All-clause-all
have_instances-returns-in-All-clause-all = like.have_instances-returns-in-All-clause-all

pub have_instances-returns-in-Oversize-clause-all : goal.have_instances-returns-in-Oversize-clause-all
have_instances-returns-in-Oversize-clause-all = like.have_instances-returns-in-Oversize-clause-all
