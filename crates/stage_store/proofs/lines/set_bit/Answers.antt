use Rattle.std.proofs.Common.{◌∙◌, ◌*◌, ◌^◌, ◌%◌, ap, set}
use Rattle.std.specs.Prelude.{bit_or}
use Rattle.std.proofs.lemmas.List.{get_or_default}
use Rattle.stage_store.proofs.lines.set_bit.Goals as goal

pub returns : goal.returns
returns c = ap (λ n. set c.args.words.now.items c.args.m (bit_or n (1 * 2 ^ c.args.q % 2 ^ 64)))
    (c.index_mut.ensures.value ∙ get_or_default c.args.words.now.items c.args.m c.index_mut.result.now 0 c.requires.word)
