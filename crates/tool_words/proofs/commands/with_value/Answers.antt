use Rattle.std.proofs.Common.{rules}
use Rattle.tool_words.proofs.commands.with_value.Goals as goal

pub returns : goal.returns
returns c = search rules
