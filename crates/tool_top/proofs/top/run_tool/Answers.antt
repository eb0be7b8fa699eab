-- What the end of the job that the words ask for says, clause by clause.
use Rattle.outside.specs.Causes.{Rose}
use Rattle.tool_words.specs.Jobs.{job_of}
use Rattle.tool_top.specs.Plan.{planned}
use Rattle.tool_top.proofs.Conclusions.{asks_of, all-written, all-expected, all-left, headline}
use Rattle.tool_top.proofs.Solved.{all-solved}
use Rattle.tool_top.proofs.top.run_tool.Goals as goal

pub returns-clause-solved : goal.returns-clause-solved
returns-clause-solved g c =
    all-solved c.args.tool (job_of c.args.tool c.args.words.now) (g.F.Folder.held c.args.folder.now)
    (g.F.Folder.held c.finish-end.new.folder) c.finish-end.result (
    all-written (g.F.Folder.held c.args.folder.now) (g.F.Folder.held c.finish-end.new.folder) (λ
    files. planned c.args.tool c.args.words.now files) (g.O.Sink.held c.args.out.now)
    (g.O.Sink.held c.finish-end.new.out)
    c.finish-end.result (c.finish-end.ensures.ends (job_of c.args.tool c.args.words.now) (asks_of
    c.args.tool c.args.words.now c.read_words-job.result c.read_words-job.ensures.reads)))

pub returns-clause-written : goal.returns-clause-written
returns-clause-written g c =
    all-written (g.F.Folder.held c.args.folder.now) (g.F.Folder.held c.finish-end.new.folder) (λ
    files. planned c.args.tool c.args.words.now files) (g.O.Sink.held c.args.out.now)
    (g.O.Sink.held c.finish-end.new.out)
    c.finish-end.result (c.finish-end.ensures.ends (job_of c.args.tool c.args.words.now) (asks_of
    c.args.tool c.args.words.now c.read_words-job.result c.read_words-job.ensures.reads))

pub returns-clause-headline : goal.returns-clause-headline
returns-clause-headline g c =
    headline (g.F.Folder.held c.args.folder.now) (g.F.Folder.held c.finish-end.new.folder) (λ files.
    planned c.args.tool c.args.words.now files) (g.O.Sink.held c.args.out.now) (g.O.Sink.held
    c.finish-end.new.out)
    c.finish-end.result
    (Rose (g.F.Folder.faults c.args.folder.now) (g.F.Folder.faults c.finish-end.new.folder)) (Rose
    (g.O.Sink.faults c.args.out.now) (g.O.Sink.faults c.finish-end.new.out))
    (c.finish-end.ensures.ends (job_of c.args.tool c.args.words.now) (asks_of c.args.tool
    c.args.words.now c.read_words-job.result c.read_words-job.ensures.reads))
    c.finish-end.ensures.folder_fault c.finish-end.ensures.out_fault

pub returns-clause-expected : goal.returns-clause-expected
returns-clause-expected g c =
    all-expected (g.F.Folder.held c.args.folder.now) (g.F.Folder.held c.finish-end.new.folder) (λ
    files. planned c.args.tool c.args.words.now files) (g.O.Sink.held c.args.out.now)
    (g.O.Sink.held c.finish-end.new.out)
    c.finish-end.result (c.finish-end.ensures.ends (job_of c.args.tool c.args.words.now) (asks_of
    c.args.tool c.args.words.now c.read_words-job.result c.read_words-job.ensures.reads))

pub returns-clause-leaves : goal.returns-clause-leaves
returns-clause-leaves g c =
    all-left (g.F.Folder.held c.args.folder.now) (g.F.Folder.held c.finish-end.new.folder) (λ files.
    planned c.args.tool c.args.words.now files) (g.O.Sink.held c.args.out.now) (g.O.Sink.held
    c.finish-end.new.out)
    c.finish-end.result (c.finish-end.ensures.ends (job_of c.args.tool c.args.words.now) (asks_of
    c.args.tool c.args.words.now c.read_words-job.result c.read_words-job.ensures.reads))

pub returns-clause-tells : goal.returns-clause-tells
returns-clause-tells g c = c.finish-end.ensures.tells (job_of c.args.tool c.args.words.now) (asks_of
    c.args.tool c.args.words.now c.read_words-job.result c.read_words-job.ensures.reads)

pub returns-clause-words : goal.returns-clause-words
returns-clause-words g c = c.finish-end.ensures.words (job_of c.args.tool c.args.words.now) (asks_of
    c.args.tool c.args.words.now c.read_words-job.result c.read_words-job.ensures.reads)

pub returns-clause-message : goal.returns-clause-message
returns-clause-message g c = c.finish-end.ensures.message (job_of c.args.tool c.args.words.now)
    (asks_of c.args.tool c.args.words.now c.read_words-job.result c.read_words-job.ensures.reads)

pub returns-clause-apart : goal.returns-clause-apart
returns-clause-apart g c = c.finish-end.ensures.apart (job_of c.args.tool c.args.words.now) (asks_of
    c.args.tool c.args.words.now c.read_words-job.result c.read_words-job.ensures.reads)
