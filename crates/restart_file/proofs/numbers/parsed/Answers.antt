-- A word that writes a number in range is read as that number.
use Rattle.std.proofs.Common.{ap, ◌∙◌, ◌≡◌, rules, to_z-of_z, SFits, w64}
use Rattle.std.specs.Prelude.{Some}
use Rattle.restart_file.proofs.Numerals.{utf8_signed, parsed_signed}
use Rattle.restart_file.proofs.numbers.parsed.Goals as goal

pub returns-in_default : goal.returns-in_default
returns-in_default c = λ z range is. absurd (c.in_default.ensures.cases.0 (utf8_signed z c.args.word.now range is))

pub returns-in-Ok-parse : goal.returns-in-Ok-parse
returns-in-Ok-parse c = λ z range is.
    let e = parsed_signed z c.args.word.now c.in-Ok.text.now c.parse.result range is c.in-Ok.ensures.cases.0 c.parse.ensures.value.0 in
    let fits : SFits w64 c.in-Ok-parse.number = search rules in
    let same : c.in-Ok-parse.number ≡ z = cc in
    ap Some (to_z-of_z fits ∙ same)

pub returns-in-Err : goal.returns-in-Err
returns-in-Err c = λ z range is.
    let e = parsed_signed z c.args.word.now c.in-Ok.text.now c.parse.result range is c.in-Ok.ensures.cases.0 c.parse.ensures.value.0 in
    absurd cc
