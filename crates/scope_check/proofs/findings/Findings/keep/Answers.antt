use Rattle.std.proofs.Common.{rules}
use Rattle.scope_check.specs.Complaint.{duplicate_declaration, undeclared, bad_parameters, clash, unknown_strategy, not_buildable, unknown_primitive, no_main}
use Rattle.scope_check.proofs.FoundLaws.{kept}
use Rattle.scope_check.proofs.findings.Findings.keep.Goals as goal

pub returns-in-DeclaredAgain : goal.returns-in-DeclaredAgain
returns-in-DeclaredAgain c =
    kept duplicate_declaration c.args.self.now _ c.args.note.detail _
    c.self.view_is (search rules) c.keep_first.ensures.found

pub returns-in-Undeclared : goal.returns-in-Undeclared
returns-in-Undeclared c =
    kept undeclared c.args.self.now _ c.args.note.detail _
    c.self.view_is (search rules) c.keep_first-in-Undeclared.ensures.found

pub returns-in-Repeated : goal.returns-in-Repeated
returns-in-Repeated c =
    kept bad_parameters c.args.self.now _ c.args.note.detail _
    c.self.view_is (search rules) c.keep_first-in-Repeated.ensures.found

pub returns-in-Clash : goal.returns-in-Clash
returns-in-Clash c =
    kept clash c.args.self.now _ c.args.note.detail _
    c.self.view_is (search rules) c.keep_first-in-Clash.ensures.found

pub returns-in-UnknownStrategy : goal.returns-in-UnknownStrategy
returns-in-UnknownStrategy c =
    kept unknown_strategy c.args.self.now _ c.args.note.detail _
    c.self.view_is (search rules) c.keep_first-in-UnknownStrategy.ensures.found

pub returns-in-BuiltWildcard : goal.returns-in-BuiltWildcard
returns-in-BuiltWildcard c =
    kept not_buildable c.args.self.now _ c.args.note.detail _
    c.self.view_is (search rules) c.keep_first-in-BuiltWildcard.ensures.found

pub returns-in-UnknownPrimitive : goal.returns-in-UnknownPrimitive
returns-in-UnknownPrimitive c =
    kept unknown_primitive c.args.self.now _ c.args.note.detail _
    c.self.view_is (search rules) c.keep_first-in-UnknownPrimitive.ensures.found

pub returns-in-NoMain : goal.returns-in-NoMain
returns-in-NoMain c =
    kept no_main c.args.self.now _ c.args.note.detail _
    c.self.view_is (search rules) c.keep_first-in-NoMain.ensures.found
