use Rattle.std.proofs.Common.{rules}
use Rattle.system_files.proofs.systems.refuse_unsupported.Goals as goal

pub returns-in_err-refuse-clause-absent : goal.returns-in_err-refuse-clause-absent
returns-in_err-refuse-clause-absent c = search rules
