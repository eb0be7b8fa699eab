use Rattle.std.proofs.Common.{rules}
use Rattle.climb_tool.proofs.points.fits.Goals as goal

pub returns-else-step-lt0 : goal.returns-else-step-lt0
returns-else-step-lt0 c = search rules
