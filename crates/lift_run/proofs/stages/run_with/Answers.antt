-- A run over stages is the walk of the lists in hand, and from defined lists the defined one.
use Rattle.lift_run.specs.Runs.{bounds}
use Rattle.lift_run.proofs.Walking.{end_from, walk_of, told_of}
use Rattle.lift_run.proofs.stages.run_with.Goals as goal

pub returns-in-Next-clause-walk : goal.returns-in-Next-clause-walk
returns-in-Next-clause-walk g c =
    rw c.in-Next.is
    (walk_of g.K.Keep.after g.K.Keep.torn (bounds c.args.limits) c.in-Next.stage c.run_stages.result (g.K.Keep.state c.args.keep.now) (g.K.Keep.state c.run_stages.new.keep) c.run_stages.ensures.runs)

pub returns-in-Next-clause-defined : goal.returns-in-Next-clause-defined
returns-in-Next-clause-defined g c =
    end_from g.K.Keep.after g.K.Keep.torn (bounds c.args.limits) c.args.from c.in-Next.stage c.run_stages.result (g.K.Keep.state c.args.keep.now) (g.K.Keep.state c.run_stages.new.keep) c.in-Next.is c.keeps.ensures c.run_stages.ensures.runs

pub returns-in-Next-clause-kept : goal.returns-in-Next-clause-kept
returns-in-Next-clause-kept g c =
    rw c.in-Next.is
    (told_of g.K.Keep.after g.K.Keep.torn (bounds c.args.limits) c.in-Next.stage c.run_stages.result (g.K.Keep.state c.args.keep.now) (g.K.Keep.state c.run_stages.new.keep) c.run_stages.ensures.runs)

pub run_stages-requires-clause-asks : goal.run_stages-requires-clause-asks
run_stages-requires-clause-asks g c κs within = λ s d. c.requires.asks s (rw c.in-Next.is d)
