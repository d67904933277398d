use Rattle.std.proofs.Common.{◌≡◌, rules}
use Rattle.strc_command.specs.declared.request.Form.TheVariants.{Line}
use Rattle.strc_command.proofs.FormLaws.{joined_as_beginning, joined_as_line, joined_begun, joined_written}
use Rattle.strc_command.proofs.formed.transform_joined_in_form.Goals as goal

pub returns-in-Ok-clause-written : goal.returns-in-Ok-clause-written
returns-in-Ok-clause-written g c =
    joined_written c.write_in_form.result _ _ c.args.form _ c.in-Ok.status c.into_inner.result.items _ _ _ _ (cc) (cc)
    c.write_in_form.ensures.whole c.in-Ok.ensures.transforms.written

pub returns-in-Ok-clause-begun : goal.returns-in-Ok-clause-begun
returns-in-Ok-clause-begun g c = λ bad.
    joined_begun _ _ c.args.form _ c.in-Ok.status c.into_inner.result.items _ _ _ _ (cc) (cc)
    (c.write_in_form.ensures.begun bad) c.in-Ok.ensures.transforms.written

pub returns-then-eq-clause-written : goal.returns-then-eq-clause-written
returns-then-eq-clause-written g c =
    let is : c.args.form ≡ Line = search rules in
    joined_as_line c.transform_joined_with_notes.result _ _ c.args.form _ _ _ is
    c.transform_joined_with_notes.ensures.transforms.written

pub returns-then-eq-clause-begun : goal.returns-then-eq-clause-begun
returns-then-eq-clause-begun g c = λ bad.
    let is : c.args.form ≡ Line = search rules in
    joined_as_beginning _ _ c.args.form _ _ _ is (c.transform_joined_with_notes.ensures.transforms.begun bad)
