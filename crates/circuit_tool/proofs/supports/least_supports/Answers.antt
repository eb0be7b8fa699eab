-- The words that are kept, of those in order, are the least supports.
use Rattle.std.proofs.Common.{◌≡◌, [], ◌∙◌, ap}
use Rattle.std.proofs.lemmas.Result.{IfOk-weaker}
use Rattle.system_files.specs.Kernel.{rows_in}
use Rattle.circuit_tool.specs.Inside.Supports.{words_in, least_from}
use Rattle.circuit_tool.proofs.Keeping.{are_least}
use Rattle.circuit_tool.proofs.supports.least_supports.Goals as goal

pub returns : goal.returns
returns c =
    IfOk-weaker c.least.result (λ kept. kept.items ≡ least_from [] c.deref.result.now) _
    (λ kept is. are_least (words_in (rows_in c.args.set.now)) c.put_in_order.new.words.items kept.items
    (λ w. rw (← c.in_ok-words.ensures) (c.put_in_order.ensures w))
    (is ∙ ap (least_from []) c.deref.ensures.value))
    c.least.ensures
