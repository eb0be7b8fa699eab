-- What the end of what the words ask for says, clause by clause.
use Rattle.outside.specs.Causes.{Rose}
use Rattle.tool_top.specs.Expected.{IsExpectedOr}
use Rattle.tool_top.specs.Left.{Leaves}
use Rattle.tool_top.specs.Summary.{Tells}
use Rattle.tool_top.specs.Inside.Ends.{Ends}
use Rattle.tool_top.proofs.Conclusions.{traces}
use Rattle.stand_tool.specs.Requests.{request_of}
use Rattle.stand_tool.specs.Plans.{planned, job_in}
use Rattle.stand_tool.proofs.PlainJobs.{asked_plain}
use Rattle.stand_tool.proofs.StandingFor.{asks_of, all-stand, all-written-of, all-solved-of, headline, not_memory}
use Rattle.stand_tool.proofs.top.run_stand.Goals as goal

pub returns-clause-solved : goal.returns-clause-solved
returns-clause-solved g c =
    all-solved-of (g.F.Folder.held c.args.folder.now) (g.F.Folder.held c.finish-end.new.folder)
    (request_of c.args.words.now) c.finish-end.result (asked_plain c.args.words.now)
    (all-written-of (g.F.Folder.held c.args.folder.now) (g.F.Folder.held c.finish-end.new.folder)
    (λ files. planned c.args.words.now files) (g.O.Sink.held c.args.out.now) (g.O.Sink.held c.finish-end.new.out)
    c.finish-end.result (c.finish-end.ensures.ends (request_of c.args.words.now) (asks_of
    c.args.words.now c.read_request-request.result c.read_request-request.ensures.reads)))

pub returns-clause-written : goal.returns-clause-written
returns-clause-written g c =
    all-written-of (g.F.Folder.held c.args.folder.now) (g.F.Folder.held c.finish-end.new.folder)
    (λ files. planned c.args.words.now files) (g.O.Sink.held c.args.out.now) (g.O.Sink.held c.finish-end.new.out)
    c.finish-end.result (c.finish-end.ensures.ends (request_of c.args.words.now) (asks_of
    c.args.words.now c.read_request-request.result c.read_request-request.ensures.reads))

pub returns-clause-expected : goal.returns-clause-expected
returns-clause-expected g c =
    all-stand c.finish-end.result (g.F.Folder.held c.args.folder.now)
    (λ files. Ends (planned c.args.words.now files) (traces files (g.F.Folder.held c.finish-end.new.folder)
    (g.O.Sink.held c.args.out.now) (g.O.Sink.held c.finish-end.new.out)))
    (λ files. IsExpectedOr (planned c.args.words.now files)) (λ files its ends. ends.comes)
    (c.finish-end.ensures.ends (request_of c.args.words.now) (asks_of
    c.args.words.now c.read_request-request.result c.read_request-request.ensures.reads))

pub returns-clause-headline : goal.returns-clause-headline
returns-clause-headline g c =
    headline (Rose (g.F.Folder.faults c.args.folder.now) (g.F.Folder.faults c.finish-end.new.folder))
    (Rose (g.O.Sink.faults c.args.out.now) (g.O.Sink.faults c.finish-end.new.out))
    (g.F.Folder.held c.args.folder.now) (λ files. planned c.args.words.now files) c.finish-end.result
    (all-stand c.finish-end.result (g.F.Folder.held c.args.folder.now)
    (λ files. Ends (planned c.args.words.now files) (traces files (g.F.Folder.held c.finish-end.new.folder)
    (g.O.Sink.held c.args.out.now) (g.O.Sink.held c.finish-end.new.out)))
    (λ files. IsExpectedOr (planned c.args.words.now files)) (λ files its ends. ends.comes)
    (c.finish-end.ensures.ends (request_of c.args.words.now) (asks_of
    c.args.words.now c.read_request-request.result c.read_request-request.ensures.reads)))
    c.finish-end.ensures.outside

pub returns-clause-leaves : goal.returns-clause-leaves
returns-clause-leaves g c =
    all-stand c.finish-end.result (g.F.Folder.held c.args.folder.now)
    (λ files. Ends (planned c.args.words.now files) (traces files (g.F.Folder.held c.finish-end.new.folder)
    (g.O.Sink.held c.args.out.now) (g.O.Sink.held c.finish-end.new.out)))
    (λ files. Leaves (planned c.args.words.now files) (traces files (g.F.Folder.held c.finish-end.new.folder)
    (g.O.Sink.held c.args.out.now) (g.O.Sink.held c.finish-end.new.out))) (λ files its ends. ends.leaves)
    (c.finish-end.ensures.ends (request_of c.args.words.now) (asks_of
    c.args.words.now c.read_request-request.result c.read_request-request.ensures.reads))

pub returns-clause-tells : goal.returns-clause-tells
returns-clause-tells g c = c.finish-end.ensures.tells (request_of c.args.words.now) (asks_of
    c.args.words.now c.read_request-request.result c.read_request-request.ensures.reads)

pub returns-clause-words : goal.returns-clause-words
returns-clause-words g c = c.finish-end.ensures.words (request_of c.args.words.now) (asks_of
    c.args.words.now c.read_request-request.result c.read_request-request.ensures.reads)

pub returns-clause-usage : goal.returns-clause-usage
returns-clause-usage g c = c.finish-end.ensures.usage (request_of c.args.words.now) (asks_of
    c.args.words.now c.read_request-request.result c.read_request-request.ensures.reads)

pub returns-clause-memory : goal.returns-clause-memory
returns-clause-memory g c =
    not_memory c.finish-end.result (Tells (job_in (request_of c.args.words.now)) (g.O.Sink.held c.args.out.now)
    (g.O.Sink.held c.finish-end.new.out)) (c.finish-end.ensures.tells (request_of c.args.words.now) (asks_of
    c.args.words.now c.read_request-request.result c.read_request-request.ensures.reads))

pub returns-clause-message : goal.returns-clause-message
returns-clause-message g c = c.finish-end.ensures.message (request_of c.args.words.now) (asks_of
    c.args.words.now c.read_request-request.result c.read_request-request.ensures.reads)
