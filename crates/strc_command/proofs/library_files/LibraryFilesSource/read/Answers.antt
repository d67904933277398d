use Rattle.strc_command.proofs.FilesLaws.{front_ended}
use Rattle.strc_command.proofs.library_files.LibraryFilesSource.read.Goals as goal

pub returns-clause-bytes : goal.returns-clause-bytes
returns-clause-bytes g c =
    front_ended g.R.Source.reader.coming c.args.self.now.waiting.items c.pop_front.new.self.items c.in-Some.file.now
    c.read.new.self c.read.result c.in-Some-read.count _ _ c.in-Some.ensures.item.3.0 c.in-Some.ensures.value
    c.pop_front.ensures.rest c.read.ensures.bytes c.in-Some-read.is c.if-count-gt0.false c.is_empty.ensures
    c.if-is_empty.false
