use Rattle.strc_command.proofs.FilesLaws.{feed_given}
use Rattle.strc_command.proofs.definition_files.DefinitionFilesSource.read.Goals as goal

pub returns-clause-bytes : goal.returns-clause-bytes
returns-clause-bytes g c =
    feed_given g.R.Source.reader.coming c.args.self.now.current c.read.new.self c.in-Some-pop_front.next _ _
    c.pop_front.result
    c.read.result c.in-Some.count _ _
    c.read.ensures.bytes c.in-Some.is c.if-count-gt0.false c.is_empty.ensures c.if-is_empty.false c.in-Some-pop_front.is
    c.pop_front.ensures.items
