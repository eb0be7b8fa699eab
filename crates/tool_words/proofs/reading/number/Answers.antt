-- A text is a number within the limits, or it is none.
use Rattle.std.proofs.Common.{rules}
use Rattle.tool_words.proofs.Digits.{number_found, number_lost}
use Rattle.tool_words.proofs.reading.number.Goals as goal

pub returns-in-Ok : goal.returns-in-Ok
returns-in-Ok c =
    let read = c.in-Ok.ensures.value.0 in
    number_found c.args.least c.args.most c.in-Ok.n c.args.text.now (search rules) read.0.0 read.1 c.if-n-least.true c.if-n-most.true

pub returns-in_default-3 : goal.returns-in_default-3
returns-in_default-3 c = number_lost c.args.least c.args.most c.args.text.now (search rules) c.ranges.most.fits c.in_default.ensures.value.0
